-- A guest whose registers are words and whose memory keeps bytes, which instructions leave so. (Definitions speak of
-- whole numbers of any size.)
use Rattle.std.specs.Prelude.{List, ℕ, ◌<◌}
use Rattle.dm_space.specs.declared.place.Place.{Place}
use Rattle.dm_space.specs.Memory.{Memory, byte_at}
use Rattle.dm_ins.specs.declared.ins.Ins.{Ins}
use Rattle.dm_ins.specs.Ins.{Spells}
use Rattle.dm_cpu.specs.declared.cpu.Cpu.{Cpu}
use Rattle.dm_cpu.specs.Guest.{Guest}
use Rattle.dm_exec.specs.Effect.{effect}

-- each register is below 2^16
pub record HasWords (c : Cpu) : Type 0 where
  pub ax : c.ax < 65536
  pub cx : c.cx < 65536
  pub dx : c.dx < 65536
  pub bx : c.bx < 65536
  pub sp : c.sp < 65536
  pub bp : c.bp < 65536
  pub si : c.si < 65536
  pub di : c.di < 65536
  pub es : c.es < 65536
  pub cs : c.cs < 65536
  pub ss : c.ss < 65536
  pub ds : c.ds < 65536
  pub ip : c.ip < 65536

-- each byte that memory keeps is below 256: in RAM, in the blocks of the pool, also where no window shows them, and in
-- the ROM
abbrev pub HasBytes : Memory → Type 0
HasBytes m = (p : Place) → byte_at m p < 256

-- registers are words, and memory keeps bytes
pub record IsWellFormed (g : Guest) : Type 0 where
  pub registers : HasWords g.cpu
  pub memory : HasBytes g.memory

-- an instruction that some bytes spell leaves a well-formed guest well-formed; `len` is its length, as far as IP goes
-- on
abbrev pub InstructionsKeepWellFormed : Type 0
InstructionsKeepWellFormed = (g : Guest) (i : Ins) (bytes : List ℕ) (len : ℕ) → IsWellFormed g → Spells i bytes →
    IsWellFormed (effect g i len)
