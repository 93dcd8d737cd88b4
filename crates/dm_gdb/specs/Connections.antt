-- A conversation with the debugger: what each byte of the stream leads to, and which bytes are sent for it.
-- Source: GDB manual, "GDB Remote Serial Protocol", "Overview", "Interrupts", "Packet Acknowledgment" and "Packets"
-- (`k`, `D`, `O`).
use Rattle.std.specs.Prelude.{◌≡◌, ℕ, Bool, true, false, not, ◌&&◌, ◌||◌, if◌then◌else◌, nat_lt, max, List, [], ◌++◌, length, Some, None}
use Rattle.dm_requests.specs.declared.packets.received.Received.{Received}
use Rattle.dm_requests.specs.declared.packets.received.Received.TheVariants as heard
use Rattle.dm_requests.specs.packets.Frames.{frame_of}
use Rattle.dm_requests.specs.packets.Sending.{SendingState, acknowledgement}
use Rattle.dm_requests.specs.packets.Reading.{Reading, after_byte, between, received}
use Rattle.dm_requests.specs.declared.request.Request.{Request}
use Rattle.dm_requests.specs.declared.request.Request.TheVariants as request
use Rattle.dm_requests.specs.Requests.{request_of}
use Rattle.dm_services.specs.state.State.{State}
use Rattle.dm_gdb.specs.declared.replies.Reply.{Reply}
use Rattle.dm_gdb.specs.declared.replies.Reply.TheVariants as reply
use Rattle.dm_gdb.specs.Replies.{reply_text}
use Rattle.dm_gdb.specs.Servers.{Served, Replies, console_text, new_server}

-- where the stream stands, the sending side, the session, whether the debugger wants the program to stop before its
-- next step, and whether the conversation is over
pub record Connected : Type 0 where
  pub reading : Reading
  pub sending : SendingState
  pub server : Served
  pub stopping : Bool
  pub over : Bool

-- the start of a conversation over a machine on which a program was loaded
abbrev pub new_connection : State → Connected
new_connection m =
    record {
      reading = between;
      sending = record { acknowledges = true; last = [] };
      server = new_server m;
      stopping = false;
      over = false;
    }

-- the packet of a reply
abbrev pub packet_of : Reply → List ℕ
packet_of told = frame_of (reply_text told)

-- the packet of the console output that was not sent yet; nothing if there is none
abbrev pub console_packet : Served → List ℕ
console_packet s = if nat_lt s.shown (length s.history.machine.console.output) then frame_of (console_text s) else []

-- the session once all of the console's output is sent
abbrev pub all_shown : Served → Served
all_shown s = record s { shown = max s.shown (length s.history.machine.console.output) }

-- the conversation with this packet as the last one that was sent
abbrev pub with_last : Connected → List ℕ → Connected
with_last c packet = record c { sending = record c.sending { last = packet } }

-- whether the request ends the conversation without a word
abbrev pub is_kill : Request → Bool
is_kill request.Kill = true
is_kill _ = false

-- whether the request ends the conversation after its reply
abbrev pub is_detach : Request → Bool
is_detach request.Detach = true
is_detach _ = false

-- whether nothing is acknowledged after the request
abbrev pub is_quiet : Request → Bool
is_quiet request.StopAcknowledging = true
is_quiet _ = false

-- whether the request is a way to go on
abbrev pub makes_steps : Request → Bool
makes_steps request.Step = true
makes_steps request.Continue = true
makes_steps (request.Range start end) = true
makes_steps request.StepBack = true
makes_steps request.ContinueBack = true
makes_steps _ = false

-- the conversation after a reply, with s as the session
abbrev pub replied : Connected → Request → Reply → Served → Connected
replied c r told s = record c {
  sending = record { acknowledges = c.sending.acknowledges && not (is_quiet r); last = packet_of told };
  server = all_shown s;
  over = c.over || is_detach r;
}

-- a request leads from the conversation c to the next, and these bytes are sent for it: none for `k`; signal 2, and no
-- step is made, for a way to go on after the debugger wanted a stop; otherwise the console's output and the reply
pub data Obeys (most : ℕ) (c : Connected) (r : Request) : List ℕ → Connected → Type 0 where
  kills : is_kill r ≡ true → Obeys most c r [] (record c { over = true })
  stops : is_kill r ≡ false → (c.stopping && makes_steps r) ≡ true
      → Obeys most c r (packet_of (reply.Signal 0x02)) (with_last (record c { stopping = false })
      (packet_of (reply.Signal 0x02)))
  answers : (told : Reply) (s : Served) → is_kill r ≡ false → (c.stopping && makes_steps r) ≡ false →
      Replies c.server most r told s
      → Obeys most c r (console_packet s ++ packet_of told) (replied c r told s)

-- what was received leads from the conversation c to the next, and these bytes are sent for it after its
-- acknowledgement: an error for a packet that is too long, and the last packet if it was asked for again
pub data Hears (most : ℕ) (c : Connected) : Received → List ℕ → Connected → Type 0 where
  interrupted : Hears most c heard.Interrupt [] (record c { stopping = true })
  asked_again : Hears most c heard.Again c.sending.last c
  damaged : Hears most c heard.Damaged [] c
  too_long : Hears most c heard.TooLong (packet_of (reply.Refused 0x01)) (with_last c (packet_of (reply.Refused 0x01)))
  obeyed : (payload sent : List ℕ) (d : Connected) → Obeys most c (request_of payload) sent d →
      Hears most c (heard.Packet payload) sent d

-- the acknowledgement of what was received
abbrev pub receipt : Connected → Received → List ℕ
receipt c r = acknowledgement c.sending.acknowledges r

-- the conversation with the stream at r
abbrev pub reading_at : Connected → Reading → Connected
reading_at c r = record c { reading = r }

-- one more byte of the stream leads from the conversation c to the next, and these bytes are sent for it; a way to go
-- on makes at most `most` steps
pub data Takes (most : ℕ) (c : Connected) (byte : ℕ) : List ℕ → Connected → Type 0 where
  incomplete : received c.reading byte ≡ None → Takes most c byte [] (reading_at c (after_byte c.reading byte))
  complete : (what : Received) (sent : List ℕ) (d : Connected) → received c.reading byte ≡ Some what
      → Hears most (reading_at c (after_byte c.reading byte)) what sent d → Takes most c byte (receipt c what ++ sent) d
