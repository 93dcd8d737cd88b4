-- What the effect of an instruction depends on: registers, flags, the map of memory, and the bytes that it reads.
-- Source: Intel 8086 Family User's Manual, section 2.7, "Instruction Set".
use Rattle.std.specs.Prelude.{◌≡◌, ◌⊎◌, ℕ, ◌<◌, List, [], ◌∷◌, map, length, slice_index_or, All, Contains, None, IfSome}
use Rattle.dm_space.specs.Memory.{Memory, Fits, peek, poke, page_bytes}
use Rattle.dm_ins.specs.declared.ins.Ins.{Ins}
use Rattle.dm_cpu.specs.Guest.{Guest}
use Rattle.dm_exec.specs.Effect.{effect}
use Rattle.dm_touches.specs.declared.elements.FarAddress.{FarAddress}
use Rattle.dm_touches.specs.Elements.{linear_of, byte_place, bytes_of}
use Rattle.dm_touches.specs.Touches.{reads, writes}

-- ---- bytes and their addresses

-- the byte that a program reads at an address
abbrev pub seen : Memory → FarAddress → ℕ
seen m f = peek m (linear_of m.a20 f)

-- the place of an address is that of one of these addresses (two windows, or two spellings of one address, may show one
-- byte)
abbrev pub IsAmong : Memory → List FarAddress → FarAddress → Type 0
IsAmong m fs f = Contains (map (byte_place m) fs) (byte_place m f)

-- a byte that is stored, and its address
pub record StoredByte : Type 0 where
  pub address : FarAddress
  pub byte : ℕ

-- the memory after these bytes are stored, in their order
abbrev pub stored : Memory → List StoredByte → Memory
stored m [] = m
stored m (s ∷ rest) = stored (poke m (linear_of m.a20 s.address) s.byte) rest

-- memory n has the map of memory m: A20, the windows, and the sizes of RAM and of the blocks that windows show. The
-- bytes may differ, and so may all blocks that no window shows
pub record HasMapOf (m n : Memory) : Type 0 where
  pub a20 : n.a20 ≡ m.a20
  pub windows : n.windows ≡ m.windows
  pub ram_size : length n.low ≡ length m.low
  pub page_sizes : (k : ℕ) → IfSome (slice_index_or m.windows k None) (λ page. length (page_bytes n page)
      ≡ length (page_bytes m page))

-- guest h has what the instruction of `length` bytes at CS:IP depends on in guest g: the registers with the flags, the
-- map of memory, and the bytes that the instruction reads there. Other bytes may differ. SP is a word, as all registers
-- are (numbers of definitions have no bound)
pub record AgreesWhereRead (g h : Guest) (i : Ins) (length : ℕ) : Type 0 where
  pub registers : h.cpu ≡ g.cpu
  pub word : g.cpu.sp < 65536
  pub map : HasMapOf g.memory h.memory
  pub bytes : All (λ f. seen h.memory f ≡ seen g.memory f) (bytes_of (reads g i length))

-- ---- the laws

-- the instruction does the same to guests g and h: it reads and writes at the same addresses, leaves the same registers
-- and flags, and in both stores the same bytes, in the same order, at the addresses that it writes
pub record DoesTheSame (g h : Guest) (i : Ins) (length : ℕ) : Type 0 where
  pub same_reads : reads h i length ≡ reads g i length
  pub same_writes : writes h i length ≡ writes g i length
  pub registers : (effect h i length).cpu ≡ (effect g i length).cpu
  pub stores : List StoredByte
  pub addresses : map (λ s. s.address) stores ≡ bytes_of (writes g i length)
  pub in_g : (effect g i length).memory ≡ stored g.memory stores
  pub in_h : (effect h i length).memory ≡ stored h.memory stores

-- the effect of an instruction depends on registers, flags, the map of memory and the bytes that it reads, and on
-- nothing else
abbrev pub EffectsDependOnReads : Type 0
EffectsDependOnReads = (g h : Guest) (i : Ins) (length : ℕ) → AgreesWhereRead g h i length → DoesTheSame g h i length

-- after the instruction two such guests show the same byte at each address where they did before, and at each address
-- whose place is that of a byte which it writes
abbrev pub AgreementIsKept : Type 0
AgreementIsKept =
    (g h : Guest) (i : Ins) (length : ℕ) (f : FarAddress) → AgreesWhereRead g h i length
    → (seen h.memory f ≡ seen g.memory f) ⊎ IsAmong g.memory (bytes_of (writes g i length)) f
    → seen (effect h i length).memory f ≡ seen (effect g i length).memory f

-- of memories that fit the machine, A20 and the windows are the map
abbrev pub MapIsA20AndWindows : Type 0
MapIsA20AndWindows = (m n : Memory) → Fits m → Fits n → n.a20 ≡ m.a20 → n.windows ≡ m.windows → HasMapOf m n
