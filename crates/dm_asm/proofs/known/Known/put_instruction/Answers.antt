use Rattle.std.proofs.Common.{arith, subst, sym, []}
use Rattle.dm_lines.specs.Statements.{instruction}
use Rattle.dm_asm.specs.Codes.{HasShape}
use Rattle.dm_asm.specs.inner.Fixed.{IsFixed}
use Rattle.dm_asm.proofs.Remembered.{keeps_of}
use Rattle.dm_asm.proofs.known.Known.put_instruction.Goals as goal

pub returns-in_ok-put_bytes-in-Some : goal.returns-in_ok-put_bytes-in-Some
returns-in_ok-put_bytes-in-Some c =
    let item = instruction c.args.instruction.now in
    let k : IsFixed item c.in-Some.code.items = c.in-Some.ensures in (
      subst (HasShape c.args.instruction.now) (sym c.len.ensures.value) (k [] 0).shape,
      omega (arith, c.len.ensures.fits),
      c.in_ok-put_bytes-in-Some.ensures item (subst (IsFixed item) (sym c.as_slice.ensures.value) k),
    )

pub returns-in_ok-put_open-in-None : goal.returns-in_ok-put_open-in-None
returns-in_ok-put_open-in-None c =
    keeps_of c.args.self.now c.put_open.new.self (instruction c.args.instruction.now) c.instruction_length.result
    c.instruction_length.ensures.found c.instruction_length.ensures.only c.instruction_length.ensures.short
    (c.in_ok-put_open-in-None.ensures (instruction c.args.instruction.now))
