use Rattle.std.proofs.Common.{length, ◌-◌, ◌≤◌}
use Rattle.dm_decode.specs.disassembly.Listing.{Lists}
use Rattle.dm_decode.proofs.disassembly.listing.disassemble.Given as goal

-- the lines of the bytes so far
abbrev pub invariant-loop-at : goal.invariant-loop-at
invariant-loop-at l = (l.at ≤ length l.bytes) × Lists l.bytes l.at l.out.items

abbrev pub decreases-loop-at : goal.decreases-loop-at
decreases-loop-at l = length l.bytes - l.at
