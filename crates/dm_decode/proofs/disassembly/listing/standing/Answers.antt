use Rattle.dm_decode.proofs.disassembly.Standing.{stands, none_stands, none_fits}
use Rattle.dm_decode.proofs.disassembly.listing.standing.Goals as goal

pub returns-in_err-ins-clause-none : goal.returns-in_err-ins-clause-none
returns-in_err-ins-clause-none c = rw c.from_residual.ensures (none_stands _ _ _ c.window.ensures
    (rw c.in_err-ins.was at c.decode.ensures))

pub returns-then-at-len-clause-stands : goal.returns-then-at-len-clause-stands
returns-then-at-len-clause-stands c = stands _ _ _ _ _ c.window.ensures (rw c.in_ok-ins.was at c.decode.ensures)
    c.if-at-len.true

pub returns-else-at-len-clause-none : goal.returns-else-at-len-clause-none
returns-else-at-len-clause-none c = none_fits _ _ _ _ _ c.window.ensures (rw c.in_ok-ins.was at c.decode.ensures)
    c.if-at-len.false
