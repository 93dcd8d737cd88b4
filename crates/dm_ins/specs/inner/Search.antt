-- For the search of the templates that finds the least spelling, and no part of what is promised: the contracts of
-- `encode` and `Ins::new` speak of the spelling alone (Spelling.antt, Ins.antt). Which bytes each template has for some
-- operands, with the shortest displacement, and which of several is the least.
use Rattle.std.specs.Prelude.{◌^◌, ◌≡◌, ℕ, ◌+◌, ◌*◌, ◌/◌, ◌%◌, ◌<◌, Bool, true, false, List, [], ◌∷◌, ◌++◌, Option, Some, None, IfSome, IsSomeAnd, ◌==◌, if◌then◌else◌, length}
use Rattle.dm_ins.specs.declared.operand.Width.{Width}
use Rattle.dm_ins.specs.declared.operand.Width.TheVariants.{Byte, Word}
use Rattle.dm_ins.specs.declared.operand.SegmentRegister.{SegmentRegister}
use Rattle.dm_ins.specs.declared.operand.Base.{Base}
use Rattle.dm_ins.specs.declared.operand.Base.TheVariants.{Direct, BxSi, BxDi, BpSi, BpDi, OnSi, OnDi, OnBp, OnBx}
use Rattle.dm_ins.specs.declared.operand.Address.{Address}
use Rattle.dm_ins.specs.declared.operand.Operand.{Operand}
use Rattle.dm_ins.specs.declared.operand.Operand.TheVariants as operand
use Rattle.dm_ins.specs.declared.demand.RegisterOrMemory.{RegisterOrMemory}
use Rattle.dm_ins.specs.declared.demand.RegisterOrMemory.TheVariants as place
use Rattle.dm_ins.specs.declared.demand.Data.{Data}
use Rattle.dm_ins.specs.declared.demand.Data.TheVariants as data_is
use Rattle.arrayvec.specs.ArrayVec.{ArrayVec}
use Rattle.dm_ins.specs.declared.action.Action.{Action}
use Rattle.dm_ins.specs.declared.prefix.Repeat.{Repeat}
use Rattle.dm_ins.specs.declared.prefix.Prefix.{Prefix}
use Rattle.dm_ins.specs.declared.prefix.Prefix.TheVariants as prefix
use Rattle.dm_ins.specs.declared.prefix.Prefixes.{Prefixes}
use Rattle.dm_ins.specs.declared.demand.Demand.{Demand}
use Rattle.dm_ins.specs.declared.fill.Choice.{Choice}
use Rattle.dm_ins.specs.declared.keys.Key.{Key}
use Rattle.dm_ins.specs.declared.table.OperandKind.{OperandKind}
use Rattle.dm_ins.specs.declared.table.OperandKind.TheVariants as is
use Rattle.dm_ins.specs.declared.table.OpcodeEntry.{OpcodeEntry}
use Rattle.dm_ins.specs.declared.table.OpcodeEntry.TheVariants.{Unlisted, Plain, Group, Second}
use Rattle.dm_ins.specs.Registers.{word_number, byte_register_number, segment_number}
use Rattle.dm_ins.specs.Table.{entry_of, member_of}
use Rattle.dm_ins.specs.Spelling.{word_bytes, sign_extended}
use Rattle.dm_ins.specs.Order.{before}
use Rattle.dm_ins.specs.Walks.{◌>>=◌}
use Rattle.dm_ins.specs.inner.Keys.{keyed, key_at}

-- the r/m field of an address (6 for a direct one)
abbrev pub rm_of : Base → ℕ
rm_of Direct = 6
rm_of BxSi = 0
rm_of BxDi = 1
rm_of BpSi = 2
rm_of BpDi = 3
rm_of OnSi = 4
rm_of OnDi = 5
rm_of OnBp = 6
rm_of OnBx = 7

-- an address without a base register: its displacement alone is the offset
abbrev pub is_direct : Base → Bool
is_direct Direct = true
is_direct _ = false

-- the widths of a template's memory operand and of a given one are the same
abbrev pub same_width : Width → Width → Bool
same_width Byte Byte = true
same_width Word Word = true
same_width _ _ = false

-- the number of the register that an operand is, None if it is no register of the width
abbrev pub numbered : Width → Operand → Option ℕ
numbered Byte (operand.ByteRegister r) = Some (byte_register_number r)
numbered Word (operand.WordRegister r) = Some (word_number r)
numbered _ _ = None

-- the demand of an operand that needs these bytes after the mod r/m byte and its displacement, and no field
abbrev pub asks_data : Data → Demand
asks_data d = record { register = None; place = None; tail = d }

-- the demand of an operand that needs the number n in the reg field
abbrev pub asks_register : ℕ → Demand
asks_register n = record { register = Some n; place = None; tail = data_is.Nothing }

-- the demand of an operand that needs the mod and r/m fields to name p
abbrev pub asks_place : RegisterOrMemory → Demand
asks_place p = record { register = None; place = Some p; tail = data_is.Nothing }

-- the demand of a word, an immediate or a short jump's displacement, that is a byte extended by sign: this byte; None
-- for another word
abbrev pub as_signed : ℕ → Option Demand
as_signed n = if sign_extended (n % 256) == n then Some (asks_data (data_is.Byte (n % 256))) else None

-- what an operand asks of the bytes where a template has this kind, None if it is not of the kind
unfoldable pub demand_of : OperandKind → Operand → Option Demand
demand_of is.Nothing operand.Nothing = Some (asks_data data_is.Nothing)
demand_of is.Nothing _ = None
demand_of (is.RegisterOrMemory w) (operand.Memory v a) = if same_width w v then Some (asks_place (place.Memory a)) else
    None
demand_of (is.RegisterOrMemory w) o = do
  n ← numbered w o
  Some (asks_place (place.Register n))
demand_of (is.Register w) o = do
  n ← numbered w o
  Some (asks_register n)
demand_of is.Memory (operand.Memory v a) = if same_width Word v then Some (asks_place (place.Memory a)) else None
demand_of is.Memory _ = None
demand_of is.ByteValue (operand.ByteValue n) = Some (asks_data (data_is.Byte n))
demand_of is.ByteValue _ = None
demand_of is.WordValue (operand.WordValue n) = Some (asks_data (data_is.Word n))
demand_of is.WordValue _ = None
demand_of is.SignedValue (operand.WordValue n) = as_signed n
demand_of is.SignedValue _ = None
demand_of is.Short (operand.Target n) = as_signed n
demand_of is.Short _ = None
demand_of is.Near (operand.Target n) = Some (asks_data (data_is.Word n))
demand_of is.Near _ = None
demand_of (is.Direct w) (operand.Memory v a) = if same_width w v then (if is_direct a.base then
    Some (asks_data (data_is.Word a.displacement)) else None) else None
demand_of (is.Direct w) _ = None
demand_of is.Far (operand.FarTarget n s) = Some (asks_data (data_is.Words n s))
demand_of is.Far _ = None
demand_of (is.Escape r) (operand.ByteValue n) = if n / 8 == r % 8 then Some (asks_register (n % 8)) else None
demand_of (is.Escape r) _ = None
demand_of (is.Byte r) (operand.ByteRegister s) = if byte_register_number r == byte_register_number s then
    Some (asks_data data_is.Nothing) else None
demand_of (is.Byte r) _ = None
demand_of (is.Word r) (operand.WordRegister s) = if word_number r == word_number s then Some (asks_data data_is.Nothing)
    else None
demand_of (is.Word r) _ = None
demand_of (is.TheSegment r) (operand.SegmentRegister s) = if segment_number r == segment_number s then
    Some (asks_data data_is.Nothing) else None
demand_of (is.TheSegment r) _ = None
demand_of is.One operand.One = Some (asks_data data_is.Nothing)
demand_of is.One _ = None

-- the bytes of an operand after the mod r/m byte and its displacement, the low byte of a word first
abbrev pub data_bytes : Data → List ℕ
data_bytes data_is.Nothing = []
data_bytes (data_is.Byte n) = n ∷ []
data_bytes (data_is.Word n) = word_bytes n
data_bytes (data_is.Words n s) = word_bytes n ++ word_bytes s

-- the mod r/m byte with the fields r and rm, and the displacement n after it: one byte if that extends to n by sign,
-- else a word
abbrev pub with_displacement : ℕ → ℕ → ℕ → List ℕ
with_displacement r rm n = if sign_extended (n % 256) == n then (64 + (8 * r + rm)) ∷ n % 256 ∷ [] else
    (128 + (8 * r + rm)) ∷ word_bytes n

-- the mod r/m byte of a memory operand with the reg field r, and its shortest displacement
abbrev pub memory_bytes : ℕ → Address → List ℕ
memory_bytes r a =
    if is_direct a.base then (8 * r + 6) ∷ word_bytes a.displacement
    else if rm_of a.base == 6 then with_displacement r 6 a.displacement
    else if a.displacement == 0 then (8 * r + rm_of a.base) ∷ []
    else with_displacement r (rm_of a.base) a.displacement

-- the mod r/m byte of a register or memory operand with the reg field r, and its displacement if it has one
unfoldable pub fields_bytes : ℕ → RegisterOrMemory → List ℕ
fields_bytes r (place.Register n) = (192 + (8 * r + n)) ∷ []
fields_bytes r (place.Memory a) = memory_bytes r a

-- the first value if there is one, else the second (of reg fields, and of register or memory operands)
abbrev pub either : {A : Type 0} → Option A → Option A → Option A
either None b = b
either (Some x) b = Some x

-- the second byte of a template that fixes it (AAM, AAD), if there is one
abbrev pub second_bytes : Option ℕ → List ℕ
second_bytes None = []
second_bytes (Some c) = c ∷ []

-- the bytes between the first one and the operands' own: the mod r/m byte and its displacement if a reg field and a
-- register or memory operand are asked for, else the second byte of a template that fixes it, else none
abbrev pub behind_bytes : Option ℕ → Option RegisterOrMemory → Option ℕ → List ℕ
behind_bytes (Some r) (Some p) c = fields_bytes r p
behind_bytes (Some r) None c = second_bytes c
behind_bytes None p c = second_bytes c

-- the bytes of a template filled with two operands, None if they are not of its kinds
unfoldable pub bytes_of : Choice → Operand → Operand → Option (List ℕ)
bytes_of c one two = do
  d ← demand_of c.template.first one
  e ← demand_of c.template.second two
  Some (c.opcode ∷ behind_bytes (either c.register (either d.register e.register)) (either d.place e.place) c.second
      ++ (data_bytes d.tail ++ data_bytes e.tail))

-- the template that the entry of the first byte b has under the reg field r, None if it has none; a template outside
-- the groups stands under the reg field 0 alone
abbrev pub choice_at : OpcodeEntry → ℕ → ℕ → Option Choice
choice_at Unlisted b r = None
choice_at (Plain p) b r = if r == 0 then Some (record { opcode = b; template = p; register = None; second = None }) else
    None
choice_at (Group g) b r = do
  p ← member_of g r
  Some (record { opcode = b; template = p; register = Some r; second = None })
choice_at (Second c p) b r = if r == 0 then Some (record { opcode = b; template = p; register = None; second = Some c })
    else None

-- the number of a register is below 8
abbrev pub PlaceFits : RegisterOrMemory → Type 0
PlaceFits (place.Register n) = n < 8
PlaceFits (place.Memory a) = Unit {0}

-- the numbers that a demand has for the reg field and for a register are below 8
abbrev pub DemandFits : Demand → Type 0
DemandFits d = IfSome d.register (λ n. n < 8) × IfSome d.place PlaceFits

-- the bytes of a vector, if there is one
abbrev pub seen_bytes : Option (ArrayVec ℕ) → Option (List ℕ)
seen_bytes None = None
seen_bytes (Some v) = Some v.items

-- the numbers in an operand fit their types: a byte is below 2 ^ 8, a word below 2 ^ 16
abbrev pub OperandFits : Operand → Type 0
OperandFits (operand.Memory w a) = a.displacement < 2 ^ 16
OperandFits (operand.ByteValue n) = n < 2 ^ 8
OperandFits (operand.WordValue n) = n < 2 ^ 16
OperandFits (operand.Target n) = n < 2 ^ 16
OperandFits (operand.FarTarget n s) = (n < 2 ^ 16) × (s < 2 ^ 16)
OperandFits _ = Unit {0}

-- c are the bytes that the template under the first byte b and the reg field g has for the action a
pub record CandidateAt (b g : ℕ) (a : Action) (c : List ℕ) : Type 0 where
  pub choice : Choice
  pub is_choice : choice_at (entry_of b) b g ≡ Some choice
  pub mnemonic : choice.template.mnemonic ≡ a.mnemonic
  pub is_bytes : bytes_of choice a.first a.second ≡ Some c
  pub first_fits : OperandFits a.first
  pub second_fits : OperandFits a.second

-- of two spellings the one that comes first (Order.antt), the first where they are the same; a missing one is passed
-- over
abbrev pub better_of : Option (List ℕ) → Option (List ℕ) → Option (List ℕ)
better_of None new = new
better_of (Some a) None = Some a
better_of (Some a) (Some b) = if before b a then Some b else Some a

-- the template under the key at index n of a list has the bytes c for an action
abbrev pub Under : List Key → ℕ → Action → List ℕ → Type 0
Under ks n a c = CandidateAt (key_at ks n).opcode (key_at ks n).register a c

-- o is bytes that some template has for the action, and no template under the first n keys of a list has lesser ones;
-- None only if those templates have none
pub record Best (n : ℕ) (ks : List Key) (a : Action) (o : Option (List ℕ)) : Type 0 where
  pub found : IfSome o (λ v. (b g : ℕ) × CandidateAt b g a v)
  pub least : (k : ℕ) (c : List ℕ) → k < n → Under ks k a c → IsSomeAnd o (λ v. before c v ≡ false)

-- o is the least of the bytes that the templates of its mnemonic have for the action, None if they have none
abbrev pub IsLeast : Action → Option (List ℕ) → Type 0
IsLeast a o = Best (length (keyed a.mnemonic)) (keyed a.mnemonic) a o

-- the segment override that is kept, a list of one prefix or none
abbrev pub segment_list : Option SegmentRegister → List Prefix
segment_list None = []
segment_list (Some s) = prefix.Segment s ∷ []

-- the LOCK that is kept, a list of one prefix or none
abbrev pub lock_list : Bool → List Prefix
lock_list false = []
lock_list true = prefix.Lock ∷ []

-- the repeat prefix that is kept, a list of one prefix or none
abbrev pub repeat_list : Option Repeat → List Prefix
repeat_list None = []
repeat_list (Some r) = prefix.Repeat r ∷ []

-- the prefixes that are kept, in the order of their bytes
abbrev pub prefix_list : Prefixes → List Prefix
prefix_list p = segment_list p.segment ++ lock_list p.lock ++ repeat_list p.repeat
