-- What follows the names of requests: numbers, addresses, and bytes in hexadecimal.
-- Source: GDB manual, "GDB Remote Serial Protocol", "Packets" (`m`, `Z`).
use Rattle.std.specs.Prelude.{ℕ, ◌==◌, ◌||◌, if◌then◌else◌, List, [], ◌∷◌, ◌++◌, length, take, drop, Option, Some, None}
use Rattle.std.specs.Str.{bytes_eq}
use Rattle.dm_requests.specs.commands.Numbers.{◌>>=◌, hexadecimal_number}
use Rattle.dm_requests.specs.declared.request.WatchedAccess.{WatchedAccess}
use Rattle.dm_requests.specs.declared.request.WatchedAccess.TheVariants.{Execute, Write, Read, Either}
use Rattle.dm_requests.specs.declared.request.Point.{Point}

-- the bytes before the first separator, with `front` before them, and the bytes after it; None if there is no separator
abbrev pub cut_at : ℕ → List ℕ → List ℕ → Option (List ℕ × List ℕ)
cut_at separator front [] = None
cut_at separator front (b ∷ bs) = if b == separator then Some (front, bs) else cut_at separator (front ++ b ∷ []) bs

-- two numbers with a comma between them; None for any other bytes
abbrev pub two_numbers : List ℕ → Option (ℕ × ℕ)
two_numbers bytes = do
  parts ← cut_at 44 [] bytes
  first ← hexadecimal_number parts.0
  second ← hexadecimal_number parts.1
  Some (first, second)

-- the bytes after a prefix; None if they do not begin with it
abbrev pub after_prefix : List ℕ → List ℕ → Option (List ℕ)
after_prefix prefix bytes = if bytes_eq (take (length prefix) bytes) prefix then Some (drop (length prefix) bytes) else
    None

-- the access that a type of `Z` and `z` stands for; None for any other byte
abbrev pub watched_access : ℕ → Option WatchedAccess
watched_access b =
    if b == 48 || b == 49 then Some Execute
    else if b == 50 then Some Write
    else if b == 51 then Some Read
    else if b == 52 then Some Either
    else None

-- the point of a type, an address and a length; None if the type is none
abbrev pub point_with : ℕ → List ℕ → Option Point
point_with digit bytes = do
  access ← watched_access digit
  numbers ← two_numbers bytes
  Some (record { access = access; address = numbers.0; length = numbers.1 })

-- the breakpoint or watchpoint that `TYPE,ADDRESS,LENGTH` stands for; None for any other bytes
abbrev pub point_of : List ℕ → Option Point
point_of (digit ∷ comma ∷ bytes) = if comma == 44 then point_with digit bytes else None
point_of _ = None
