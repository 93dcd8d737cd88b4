-- The debugger's own commands, which `monitor` hands on (`qRcmd`).
-- Source: GDB manual, "GDB Remote Serial Protocol", "General Query Packets" (`qRcmd`). Which commands there are is this
-- server's own choice.
use Rattle.std.specs.Prelude.{ℕ, Bool, true, false, List, [], ◌∷◌, codes, Option, Some, None}
use Rattle.dm_requests.specs.declared.commands.command.Command.{Command}
use Rattle.dm_requests.specs.declared.commands.command.Command.TheVariants as command
use Rattle.dm_requests.specs.commands.Numbers.{◌>>=◌, hexadecimal_number}
use Rattle.dm_requests.specs.Arguments.{after_prefix}
use Rattle.dm_services.specs.declared.state.stop.Stop.{Stop}
use Rattle.dm_services.specs.declared.state.stop.Stop.TheVariants as stop
use Rattle.dm_gdb.specs.declared.replies.Reply.{Reply}
use Rattle.dm_gdb.specs.declared.replies.Reply.TheVariants as reply

-- whether a command shows something and changes nothing: R, U, D, M, P, X and O
abbrev pub is_shown : Command → Bool
is_shown command.Registers = true
is_shown (command.Unassemble a n) = true
is_shown (command.Dump a n) = true
is_shown command.Arena = true
is_shown command.Pages = true
is_shown command.Extended = true
is_shown command.Output = true
is_shown _ = false

-- whether a line is such a command
abbrev pub is_shown_line : Option Command → Bool
is_shown_line None = false
is_shown_line (Some c) = is_shown c

-- the number of `step N`, in hexadecimal; None for any other line
abbrev pub step_asked : List ℕ → Option ℕ
step_asked line = after_prefix (codes "step ") line >>= hexadecimal_number

-- the reply that prints a text
abbrev pub text_reply : List ℕ → Reply
text_reply [] = reply.Done
text_reply (c ∷ cs) = reply.Bytes (c ∷ cs)

-- the reply where the steps up to the one that is wanted ended for this reason
abbrev pub stepped_reply : Stop → Reply
stepped_reply stop.Steps = reply.Done
stepped_reply _ = reply.StoppedBefore
