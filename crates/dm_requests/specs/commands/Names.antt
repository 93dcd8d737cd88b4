-- The names of commands: one letter or two, in either case.
-- Source: MS-DOS User's Reference, "DEBUG" (D, E, G, R, T, U); the others are this machine's own.
use Rattle.std.specs.Prelude.{ℕ, ◌-◌, ◌&&◌, ◌==◌, nat_le, if◌then◌else◌, List, [], ◌∷◌, Option, Some, None}
use Rattle.dm_requests.specs.declared.commands.names.CommandName.{CommandName}
use Rattle.dm_requests.specs.declared.commands.names.CommandName.TheVariants.{Registers, Unassemble, Dump, Arena, Pages, Extended, Go, Trace, Break, Clear, Breakpoints, Enter, Output}

-- an ASCII letter a to z in upper case; any other byte as it is
abbrev pub uppercase : ℕ → ℕ
uppercase b = if nat_le 97 b && nat_le b 122 then b - 32 else b

-- the command with this letter, in upper case, as its name: B, D, E, G, M, O, P, R, T, U or X; None for any other
abbrev pub letter_name : ℕ → Option CommandName
letter_name b =
    if b == 66 then Some Break
    else if b == 68 then Some Dump
    else if b == 69 then Some Enter
    else if b == 71 then Some Go
    else if b == 77 then Some Arena
    else if b == 79 then Some Output
    else if b == 80 then Some Pages
    else if b == 82 then Some Registers
    else if b == 84 then Some Trace
    else if b == 85 then Some Unassemble
    else if b == 88 then Some Extended
    else None

-- the command with these two letters, in upper case, as its name: BC or BL; None for any other
abbrev pub pair_name : ℕ → ℕ → Option CommandName
pair_name a b =
    if a == 66 then (if b == 67 then Some Clear else if b == 76 then Some Breakpoints else None) else None

-- the command that a word names, in either case; None if it names none
abbrev pub command_word : List ℕ → Option CommandName
command_word (a ∷ []) = letter_name (uppercase a)
command_word (a ∷ b ∷ []) = pair_name (uppercase a) (uppercase b)
command_word _ = None
