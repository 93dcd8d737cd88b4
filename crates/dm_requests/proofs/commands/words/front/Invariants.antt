use Rattle.std.proofs.Common.{◌≡◌, take, drop}
use Rattle.dm_requests.specs.commands.Words.{words_behind, words_of}
use Rattle.dm_requests.proofs.commands.words.front.Given as goal

abbrev pub invariant-loop-i : goal.invariant-loop-i
invariant-loop-i l = words_of l.line ≡ words_behind (take l.i l.line) (drop l.i l.line)
