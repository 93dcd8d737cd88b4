-- No instruction changes the map of memory.
use Rattle.std.specs.Prelude.{ℕ}
use Rattle.dm_space.specs.Places.{IsShaped}
use Rattle.dm_ins.specs.declared.ins.Ins.{Ins}
use Rattle.dm_cpu.specs.Guest.{Guest}
use Rattle.dm_exec.specs.Effect.{effect}

-- each instruction keeps A20, the windows, and which blocks there are, where they lie and how large they are
abbrev pub KeepsTheMap : Type 0
KeepsTheMap = (g : Guest) (i : Ins) (len : ℕ) → IsShaped g.memory (effect g i len).memory
