-- The debugger command that a typed line asks for.
-- Source: MS-DOS User's Reference, "DEBUG" (D, E, G, R, T, U); the other commands, the bounds, and the defaults for
-- numbers that are left out are this machine's own.
use Rattle.std.specs.Prelude.{ℕ, List, [], ◌∷◌, Option, Some, None, option_map}
use Rattle.dm_requests.specs.declared.commands.command.LogicalAddress.{LogicalAddress}
use Rattle.dm_requests.specs.declared.commands.command.Command.{Command}
use Rattle.dm_requests.specs.declared.commands.command.Command.TheVariants as command
use Rattle.dm_requests.specs.declared.commands.names.CommandName.{CommandName}
use Rattle.dm_requests.specs.declared.commands.names.CommandName.TheVariants as name
use Rattle.dm_requests.specs.commands.Words.{words_of}
use Rattle.dm_requests.specs.commands.Numbers.{◌>>=◌, hexadecimal_number, up_to, logical_address, bytes_from_digits}
use Rattle.dm_requests.specs.commands.Names.{command_word}

-- the command of a line with a name and nothing after it, with defaults for the numbers of G and T; None if the name
-- needs more
abbrev pub alone : CommandName → Option Command
alone name.Registers = Some command.Registers
alone name.Arena = Some command.Arena
alone name.Pages = Some command.Pages
alone name.Extended = Some command.Extended
alone name.Go = Some (command.Go 0xFFFFFF)
alone name.Trace = Some (command.Trace 1)
alone name.Breakpoints = Some command.Breakpoints
alone name.Output = Some command.Output
alone _ = None

-- the command of a line with a name and one word after it, with defaults for the counts of U and D; None if there is
-- none
abbrev pub with_one : CommandName → List ℕ → Option Command
with_one name.Unassemble w = option_map (λ a. command.Unassemble a 8) (logical_address w)
with_one name.Dump w = option_map (λ a. command.Dump a 0x80) (logical_address w)
with_one name.Go w = option_map command.Go (hexadecimal_number w)
with_one name.Trace w = option_map command.Trace (up_to 0x1000 (hexadecimal_number w))
with_one name.Break w = option_map command.Break (logical_address w)
with_one name.Clear w = option_map command.Clear (logical_address w)
with_one _ w = None

-- the command of a line with a name (U, D or E), an address and one more word; None if there is none
abbrev pub at_address : CommandName → LogicalAddress → List ℕ → Option Command
at_address name.Unassemble a w = option_map (command.Unassemble a) (up_to 0x1000 (hexadecimal_number w))
at_address name.Dump a w = option_map (command.Dump a) (up_to 0x10000 (hexadecimal_number w))
at_address name.Enter a w = option_map (command.Enter a) (bytes_from_digits w)
at_address _ a w = None

-- the command of a line with a name and two words after it, of which the first is an address; None if there is none
abbrev pub with_two : CommandName → List ℕ → List ℕ → Option Command
with_two n v w = do
  a ← logical_address v
  at_address n a w

-- the command of a line with this name and these words after it; None if there is none
abbrev pub command_named : CommandName → List (List ℕ) → Option Command
command_named n [] = alone n
command_named n (v ∷ []) = with_one n v
command_named n (v ∷ w ∷ []) = with_two n v w
command_named n _ = None

-- the command of a line with these words, of which the first is the name; None if there is none
abbrev pub of_words : List (List ℕ) → Option Command
of_words [] = None
of_words (w ∷ ws) = do
  n ← command_word w
  command_named n ws

-- the command that a typed line asks for; None if it is no command
abbrev pub command_of : List ℕ → Option Command
command_of line = of_words (words_of line)
