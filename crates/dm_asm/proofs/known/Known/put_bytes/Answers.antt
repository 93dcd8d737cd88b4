use Rattle.std.proofs.Common.{refl, subst, sym}
use Rattle.dm_lines.specs.Statements.{Item}
use Rattle.dm_asm.specs.inner.Fixed.{IsFixed}
use Rattle.dm_asm.proofs.Remembered.{known_more}
use Rattle.dm_asm.proofs.known.Known.put_bytes.Goals as goal

pub returns : goal.returns
returns c = λ item f xs x e k.
    rw (c.in_ok-push.ensures.items, c.in_ok-extend_from_slice.ensures.items)
    (known_more xs c.args.self.now.lines.items c.args.self.now.bytes.items x _ c.args.code.now k
    (subst (λ (i : Item). IsFixed i c.args.code.now) (sym e) f) refl)
