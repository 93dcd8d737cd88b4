use Rattle.std.specs.Prelude.{◌≡◌, ◌++◌, take}
use Rattle.json.specs.Print.{escape}
use Rattle.dm_json.proofs.members.put_escaped.Given as goal

-- the bytes so far, with their escapes
abbrev pub invariant-loop-byte : goal.invariant-loop-byte
invariant-loop-byte l = l.out.items ≡ l.initial.out.items ++ escape (take l.byte-index l.text)
