use Rattle.std.proofs.Common.{◌≡◌, drop}
use Rattle.dm_decode.specs.Names.{named}
use Rattle.dm_lines.specs.inner.Words.{spelling_of}
use Rattle.dm_lines.proofs.words.find.Given as goal

abbrev pub invariant-loop-reserved : goal.invariant-loop-reserved
invariant-loop-reserved l = named spelling_of (drop l.reserved-index l.words) l.word ≡ named spelling_of l.words l.word
