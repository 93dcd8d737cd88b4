-- Replies, and their texts.
-- Source: GDB manual, "GDB Remote Serial Protocol", "Stop Reply Packets", "General Query Packets" (`qOffsets`,
-- `qXfer`, `qRcmd`) and "vCont". Which stop is which signal, and what `qRcmd` prints, is this server's own choice.
use Rattle.std.specs.Prelude.{ℕ, List, [], ◌∷◌, ◌++◌, codes}
use Rattle.std.specs.Int.{to_be_bytes, w32}
use Rattle.hex.specs.Hex.{encode_lower}
use Rattle.dm_requests.specs.declared.request.WatchedAccess.{WatchedAccess}
use Rattle.dm_requests.specs.declared.request.WatchedAccess.TheVariants.{Read, Either}
use Rattle.dm_requests.specs.declared.request.Point.{Point}
use Rattle.dm_services.specs.declared.state.stop.Stop.{Stop}
use Rattle.dm_services.specs.declared.state.stop.Stop.TheVariants as stop
use Rattle.dm_gdb.specs.declared.replies.Reply.{Reply}
use Rattle.dm_gdb.specs.declared.replies.Reply.TheVariants as reply

-- what is replied where the steps of the program have ended for this reason
abbrev pub stop_reply : Stop → Reply
stop_reply stop.Steps = reply.Signal 0x0E
stop_reply (stop.Exited code) = reply.Exited code
stop_reply stop.Halted = reply.Signal 0x11
stop_reply stop.Unlisted = reply.Signal 0x04
stop_reply stop.InputEnded = reply.Signal 0x15
stop_reply stop.Destroyed = reply.Signal 0x06
stop_reply stop.Memory = reply.Signal 0x1E

-- a letter and a number in two hexadecimal digits
abbrev pub hex_text : ℕ → ℕ → List ℕ
hex_text letter number = letter ∷ encode_lower (number ∷ [])

-- a name, and the linear address of a segment in eight digits
abbrev pub segment_text : List ℕ → ℕ → List ℕ
segment_text name base = name ++ encode_lower (to_be_bytes w32 base)

-- the beginning of the reply for a hit of a watchpoint, by its access
abbrev pub watch_name : WatchedAccess → List ℕ
watch_name Read = codes "T05rwatch:"
watch_name Either = codes "T05awatch:"
watch_name _ = codes "T05watch:"

-- the reply for a hit of a watchpoint: the linear address where its range begins, in eight digits
unfoldable pub watch_text : Point → List ℕ
watch_text point = segment_text (watch_name point.access) point.address ++ codes ";"

-- the places of data and of empty data
unfoldable pub data_segment_text : ℕ → List ℕ
data_segment_text base = segment_text (codes ";Data=") base ++ segment_text (codes ";Bss=") base

-- the places of code, data and empty data: all are the linear address of the program's first segment
unfoldable pub offsets_text : ℕ → List ℕ
offsets_text base = segment_text (codes "Text=") base ++ data_segment_text base

-- the text of a reply, without the frame of its packet
abbrev pub reply_text : Reply → List ℕ
reply_text reply.Unknown = []
reply_text reply.Done = codes "OK"
reply_text (reply.Refused number) = hex_text 69 number
reply_text (reply.Signal number) = hex_text 84 number
reply_text reply.Breakpoint = codes "T05swbreak:;"
reply_text reply.Begun = codes "T05replaylog:begin;"
reply_text (reply.Watch point) = watch_text point
reply_text (reply.Exited code) = hex_text 87 code
reply_text (reply.Bytes bytes) = encode_lower bytes
reply_text reply.Help = encode_lower (codes "monitor takes R, U, D, M, P, X, O, check and step N" ++ 10 ∷ [])
reply_text reply.Passed = encode_lower (codes "this step has passed" ++ 10 ∷ [])
reply_text reply.StoppedBefore = encode_lower (codes "the program has stopped before" ++ 10 ∷ [])
reply_text reply.Abilities =
    codes
    "PacketSize=4000;qXfer:features:read+;swbreak+;hwbreak+;ReverseStep+;ReverseContinue+;QStartNoAckMode+;vContSupported+"
reply_text (reply.Part bytes) = 109 ∷ bytes
reply_text (reply.Rest bytes) = 108 ∷ bytes
reply_text (reply.Offsets base) = offsets_text base
reply_text reply.ContinueKinds = codes "vCont;c;C;s;S;r"
reply_text reply.CurrentThread = codes "QC1"
reply_text reply.Threads = codes "m1"
reply_text reply.NoMoreThreads = codes "l"
reply_text reply.Started = codes "0"
