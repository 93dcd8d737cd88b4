-- Requests that are known by their names alone, or by a name and an action.
-- Source: GDB manual, "GDB Remote Serial Protocol", "Packets", "General Query Packets", "vCont" and "Packet
-- Acknowledgment".
use Rattle.std.specs.Option.{option_map_or}
use Rattle.std.specs.Prelude.{ℕ, ◌==◌, ◌||◌, if◌then◌else◌, List, [], ◌∷◌, codes, Option}
use Rattle.std.specs.Str.{bytes_eq}
use Rattle.dm_requests.specs.declared.request.Request.{Request}
use Rattle.dm_requests.specs.declared.request.Request.TheVariants as request
use Rattle.dm_requests.specs.Arguments.{cut_at, two_numbers}

-- the request that f makes of what was read; malformed if it could not be read
abbrev pub if_read : {A : Type 0} → Option A → (A → Request) → Request
if_read read f = option_map_or f read request.Malformed

-- the bytes before the first separator; all of them if it is not among them
abbrev pub front_of : ℕ → List ℕ → List ℕ
front_of separator bytes = option_map_or (λ parts. parts.0) (cut_at separator [] bytes) bytes

-- the query with this name, without its `q`
abbrev pub query_named : List ℕ → Request
query_named name =
    if bytes_eq name (codes "Supported") then request.Supported
    else if bytes_eq name (codes "Offsets") then request.Offsets
    else if bytes_eq name (codes "Attached") then request.Attached
    else if bytes_eq name (codes "C") then request.CurrentThread
    else if bytes_eq name (codes "fThreadInfo") then request.FirstThreads
    else if bytes_eq name (codes "sThreadInfo") then request.MoreThreads
    else if bytes_eq name (codes "Symbol") then request.Symbols
    else request.Unknown

-- the query whose name stands before the first colon, without its `q`
abbrev pub named_query : List ℕ → Request
named_query bytes = query_named (front_of 58 bytes)

-- the action `r START,END`, without its `r`
abbrev pub range_of : List ℕ → Request
range_of bytes = if_read (two_numbers bytes) (λ numbers. request.Range numbers.0 numbers.1)

-- the action of `vCont` with this letter, and these bytes after it
abbrev pub action_with : ℕ → List ℕ → Request
action_with letter bytes =
    if letter == 115 || letter == 83 then request.Step
    else if letter == 99 || letter == 67 then request.Continue
    else if letter == 114 then range_of bytes
    else request.Malformed

-- an action of `vCont`, without its thread
abbrev pub resumption_of : List ℕ → Request
resumption_of [] = request.Malformed
resumption_of (letter ∷ bytes) = action_with letter bytes

-- the request of this name, without its `v`, and these bytes after a semicolon: of `vCont` the first action counts
abbrev pub verb_with : List ℕ → List ℕ → Request
verb_with name bytes =
    if bytes_eq name (codes "Cont") then resumption_of (front_of 58 (front_of 59 bytes))
    else if bytes_eq name (codes "Run") then request.Restart
    else if bytes_eq name (codes "Kill") then request.EndProgram
    else request.Unknown

-- the request of a packet that begins with `v`, by the bytes after it: a name, with bytes after a semicolon if there is
-- one
abbrev pub named_verb : List ℕ → Request
named_verb bytes =
    option_map_or (λ parts. verb_with parts.0 parts.1) (cut_at 59 [] bytes)
    (if bytes_eq bytes (codes "Cont?") then request.ContinueKinds else request.Unknown)

-- `bs` and `bc`, without their `b`
abbrev pub backwards : List ℕ → Request
backwards (b ∷ []) = if b == 115 then request.StepBack else if b == 99 then request.ContinueBack else request.Unknown
backwards _ = request.Unknown

-- the request of one byte that is known by it alone
abbrev pub lone : ℕ → Request
lone b =
    if b == 63 then request.Why
    else if b == 33 then request.Extended
    else if b == 103 then request.Registers
    else if b == 115 then request.Step
    else if b == 99 then request.Continue
    else request.Unknown

-- the request of a letter, if nothing follows it
abbrev pub alone : ℕ → List ℕ → Request
alone letter [] = lone letter
alone letter _ = request.Unknown

-- the request with this first letter, and these bytes after it
abbrev pub single : ℕ → List ℕ → Request
single letter bytes =
    if letter == 72 then request.SetThread
    else if letter == 84 then request.IsAlive
    else if letter == 68 then request.Detach
    else if letter == 107 then request.Kill
    else if letter == 98 then backwards bytes
    else if letter == 81 then (if bytes_eq bytes (codes "StartNoAckMode") then request.StopAcknowledging else
    request.Unknown)
    else alone letter bytes
