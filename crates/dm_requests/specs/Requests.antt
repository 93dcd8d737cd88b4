-- The request that a packet carries.
-- Source: GDB manual, "GDB Remote Serial Protocol", "Packets" and "General Query Packets".
use Rattle.std.specs.Option.{option_map_or}
use Rattle.std.specs.Prelude.{ℕ, ◌==◌, if◌then◌else◌, List, [], ◌∷◌, length, codes, Option}
use Rattle.hex.specs.Hex.{decode_of}
use Rattle.dm_requests.specs.commands.Numbers.{hexadecimal_number, if_good}
use Rattle.dm_requests.specs.declared.request.Point.{Point}
use Rattle.dm_requests.specs.declared.request.Request.{Request}
use Rattle.dm_requests.specs.declared.request.Request.TheVariants as request
use Rattle.dm_requests.specs.Arguments.{cut_at, two_numbers, after_prefix, point_of}
use Rattle.dm_requests.specs.Names.{if_read, named_query, named_verb, single}

-- `m ADDRESS,COUNT`, without its `m`
abbrev pub memory_request : List ℕ → Request
memory_request bytes = if_read (two_numbers bytes) (λ numbers. request.Memory numbers.0 numbers.1)

-- `M`, by its address, its count, and its bytes; None if they are no pairs of digits
abbrev pub set_bytes : ℕ → ℕ → Option (List ℕ) → Request
set_bytes address count bytes =
    if_read bytes (λ values. if length values == count then request.SetMemory address values else request.Malformed)

-- `M ADDRESS,COUNT:BYTES`, without its `M`
abbrev pub set_memory_of : List ℕ → Request
set_memory_of bytes =
    if_read (cut_at 58 [] bytes) (λ parts.
    if_read (two_numbers parts.0) (λ numbers. set_bytes numbers.0 numbers.1 (if_good (decode_of parts.1))))

-- `p N`, without its `p`
abbrev pub register_of : List ℕ → Request
register_of bytes = if_read (hexadecimal_number bytes) request.Register

-- `P`, by its number and its bytes; None if they were not spelled
abbrev pub set_register_with : Option ℕ → Option (List ℕ) → Request
set_register_with number bytes = if_read number (λ n. if_read bytes (request.SetRegister n))

-- `P N=BYTES`, without its `P`
abbrev pub set_register_of : List ℕ → Request
set_register_of bytes =
    if_read (cut_at 61 [] bytes) (λ parts. set_register_with (hexadecimal_number parts.0) (if_good (decode_of parts.1)))

-- `G BYTES`, without its `G`
abbrev pub set_registers_of : List ℕ → Request
set_registers_of digits = if_read (if_good (decode_of digits)) request.SetRegisters

-- `Z TYPE,ADDRESS,LENGTH`, without its `Z`
abbrev pub insertion : List ℕ → Request
insertion bytes = if_read (point_of bytes) request.Insert

-- `z TYPE,ADDRESS,LENGTH`, without its `z`
abbrev pub removal : List ℕ → Request
removal bytes = if_read (point_of bytes) request.Remove

-- the part of the description of the registers that `OFFSET,COUNT` asks for
abbrev pub feature_of : List ℕ → Request
feature_of bytes = if_read (two_numbers bytes) (λ numbers. request.Features numbers.0 numbers.1)

-- the command of the debugger that pairs of hexadecimal digits spell
abbrev pub command_of : List ℕ → Request
command_of digits = if_read (if_good (decode_of digits)) request.Command

-- the request of a packet that begins with `q`, by the bytes after it: a command, a part of the description of the
-- registers, or a query that is known by its name
abbrev pub query_of : List ℕ → Request
query_of bytes =
    option_map_or command_of (after_prefix (codes "Rcmd,") bytes)
    (option_map_or feature_of (after_prefix (codes "Xfer:features:read:target.xml:") bytes) (named_query bytes))

-- the request with this first byte, and these bytes after it
abbrev pub lettered : ℕ → List ℕ → Request
lettered b bytes =
    if b == 109 then memory_request bytes
    else if b == 77 then set_memory_of bytes
    else if b == 112 then register_of bytes
    else if b == 80 then set_register_of bytes
    else if b == 71 then set_registers_of bytes
    else if b == 90 then insertion bytes
    else if b == 122 then removal bytes
    else if b == 113 then query_of bytes
    else if b == 118 then named_verb bytes
    else single b bytes

-- the request that a packet carries
abbrev pub request_of : List ℕ → Request
request_of [] = request.Unknown
request_of (b ∷ bytes) = lettered b bytes
