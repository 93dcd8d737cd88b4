use Rattle.std.proofs.Common.{◌≡◌, ◌++◌, take}
use Rattle.std.specs.Prelude.{flat_map, codes}
use Rattle.dm_decode.specs.Pieces.{byte_in_text}
use Rattle.dm_decode.proofs.disassembly.listing.put_data.Given as goal

-- a comma and a number for each byte so far
abbrev pub invariant-loop-byte : goal.invariant-loop-byte
invariant-loop-byte l = l.out.items ≡ l.initial.out.items ++ flat_map (λ b. codes ","
    ++ byte_in_text b) (take l.byte-index l.rest)
