-- Texts that are printed one after the other.
use Rattle.std.proofs.Common.{◌≡◌, ◌∙◌, ◌++◌, ◌+◌, ℕ, List, length, take, subst, sym, arith, length-append}
use Rattle.std.proofs.KnownBytes.{Appends-trans}
use Rattle.std.proofs.Math.Seq.{take-append-add}
use Rattle.std.proofs.lemmas.List.{take-append-le}
use Rattle.std.specs.Io.KnownBytes.{Appends}
use Rattle.dm_console.specs.writers.Out.{AppendsPart, HasFailed}
use Rattle.dm_cli.specs.Messages.{Prints, Stream, all, part}

-- the first of two texts was printed in part
pub part_first : (x y : List ℕ) (a b : Stream) → AppendsPart a.bytes b.bytes x → HasFailed a.failures b.failures →
    Prints (x ++ y) a b
part_first x y a b p failed =
    part (
      p.0,
      (let h = length-append x y in let k = p.1 in omega (arith, h, k)),
      subst (Appends a.bytes b.bytes) (sym (take-append-le p.0 x y p.1)) p.2,
    ) failed

-- it was printed whole, and then the second
pub printed_next : (x y : List ℕ) (a b c : Stream) → Appends a.bytes b.bytes x → b.failures ≡ a.failures →
    Prints y b c → Prints (x ++ y) a c
printed_next x y a b c first kept (all second none) = all (Appends-trans _ _ _ x y first second) (none ∙ kept)
printed_next x y a b c first kept (part p failed) =
    part (
      length x + p.0,
      (let h = length-append x y in let k = p.1 in omega (arith, h, k)),
      subst (Appends a.bytes c.bytes) (sym (take-append-add x y p.0)) (Appends-trans _ _ _ x (take p.0 y) first p.2),
    )
    (subst (λ n. HasFailed n c.failures) kept failed)
