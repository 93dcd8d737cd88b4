use Rattle.std.proofs.Common.{◌≡◌, take, drop, []}
use Rattle.dm_requests.specs.commands.Numbers.{parts_of}
use Rattle.dm_requests.proofs.commands.numbers.parts.Given as goal

abbrev pub invariant-loop-i : goal.invariant-loop-i
invariant-loop-i l = parts_of (take l.i l.word) (drop l.i l.word) ≡ parts_of [] l.word
