use Rattle.std.proofs.Common.{arith, sym, refl}
use Rattle.dm_lines.specs.Placing.{amount_byte}
use Rattle.dm_asm.proofs.Each.{map_none}
use Rattle.dm_asm.proofs.Placed.{if_none}
use Rattle.dm_asm.proofs.codes.bytes_code.Goals as goal

pub returns-in_err-amount_byte-clause-none : goal.returns-in_err-amount_byte-clause-none
returns-in_err-amount_byte-clause-none c = if_none c.from_residual.result _
    (λ code m. map_none amount_byte c.args.amounts.now c.loop-amount.amount-index _ _ code (omega arith) refl
    (sym c.in_err-amount_byte.ensures) m)
