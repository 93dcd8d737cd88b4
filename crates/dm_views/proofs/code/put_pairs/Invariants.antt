use Rattle.std.proofs.Common.{◌≡◌, ◌++◌, take}
use Rattle.std.specs.Prelude.{flat_map}
use Rattle.dm_views.specs.Digits.{two_digits}
use Rattle.dm_views.proofs.code.put_pairs.Given as goal

-- two digits for each byte so far
abbrev pub invariant-loop-byte : goal.invariant-loop-byte
invariant-loop-byte l = l.out.items ≡ l.initial.out.items ++ flat_map two_digits (take l.byte-index l.bytes)
