-- What a run of instructions depends on: registers, flags, the map of memory, and the bytes that are fetched or read
-- before the run itself has written them.
use Rattle.std.specs.Prelude.{◌≡◌, ◌⊎◌, ℕ, ◌<◌, List, [], ◌++◌, map, All}
use Rattle.std.specs.List.{range_with_len}
use Rattle.dm_space.specs.EightBytes.{sixteen_after}
use Rattle.dm_ins.specs.declared.ins.Ins.{Ins}
use Rattle.dm_ins.specs.Ins.{BeginsWith}
use Rattle.dm_cpu.specs.declared.cpu.Cpu.{Cpu}
use Rattle.dm_cpu.specs.Guest.{Guest, up}
use Rattle.dm_exec.specs.Effect.{effect}
use Rattle.dm_touches.specs.declared.elements.FarAddress.{FarAddress}
use Rattle.dm_touches.specs.Elements.{far, bytes_of}
use Rattle.dm_touches.specs.Touches.{reads, writes}
use Rattle.dm_laws.specs.footprints.Footprints.{seen, IsAmong, StoredByte, stored, HasMapOf}

-- the addresses of the `length` bytes from CS:IP on, that an instruction is decoded from; offsets wrap
abbrev pub own : Cpu → ℕ → List FarAddress
own c length = map (λ k. far c.cs (up c.ip k)) (range_with_len 0 length)

-- instructions lead from guest g to this guest, each with which the bytes at CS:IP begin; they write at these
-- addresses, in this order. Each byte that is fetched or read is among the inputs, or the run has written it before. SP
-- is a word (numbers of definitions have no bound)
pub data LeadsWriting (g : Guest) (inputs : List FarAddress) : List FarAddress → Guest → Type 0 where
  no_instruction : LeadsWriting g inputs [] g
  one_more : (written : List FarAddress) (k : Guest) (i : Ins) (length : ℕ) → LeadsWriting g inputs written k
      → BeginsWith (sixteen_after k.memory k.cpu.cs k.cpu.ip) i length → k.cpu.sp < 65536
      → All (λ f. IsAmong g.memory inputs f ⊎ IsAmong g.memory written f) (own k.cpu length
      ++ bytes_of (reads k i length))
      → LeadsWriting g inputs (written ++ bytes_of (writes k i length)) (effect k i length)

-- from guest h a run leads, too, with the same inputs, that writes at the same addresses: it leaves the same registers
-- and flags as the one from g to k, and stores the same bytes
pub record RunsTheSame (g h k : Guest) (inputs written : List FarAddress) : Type 0 where
  pub end : Guest
  pub run : LeadsWriting h inputs written end
  pub registers : end.cpu ≡ k.cpu
  pub stores : List StoredByte
  pub addresses : map (λ s. s.address) stores ≡ written
  pub in_g : k.memory ≡ stored g.memory stores
  pub in_h : end.memory ≡ stored h.memory stores

-- a run of instructions depends on registers, flags, the map of memory and its inputs, and on nothing else
abbrev pub RunsDependOnInputs : Type 0
RunsDependOnInputs =
    (g h k : Guest) (inputs written : List FarAddress) → LeadsWriting g inputs written k → h.cpu ≡ g.cpu →
    HasMapOf g.memory h.memory
    → All (λ f. seen h.memory f ≡ seen g.memory f) inputs → RunsTheSame g h k inputs written
