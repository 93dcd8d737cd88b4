use Rattle.std.proofs.Common.{◌≡◌, drop, [], false}
use Rattle.dm_requests.specs.packets.Escapes.{unescaped_behind}
use Rattle.dm_requests.proofs.packets.escapes.unescape.Given as goal

-- the rest of the content, after what is there so far, is the whole content
abbrev pub invariant-loop-byte : goal.invariant-loop-byte
invariant-loop-byte l = unescaped_behind l.bytes.items l.is_escaped (drop l.byte-index l.content)
    ≡ unescaped_behind [] false l.content
