-- No instruction sees a change of memory that no address shows.
use Rattle.std.specs.Prelude.{◌≡◌, ℕ}
use Rattle.dm_space.specs.Memory.{Memory}
use Rattle.dm_space.specs.Unseen.{IsUnseen}
use Rattle.dm_ins.specs.declared.ins.Ins.{Ins}
use Rattle.dm_cpu.specs.Guest.{Guest}
use Rattle.dm_cpu.specs.Unseen.{changed}
use Rattle.dm_exec.specs.Effect.{effect}

-- no instruction depends on what no address shows, or changes it: with such a change made before, the effect is the
-- effect with the same change made afterwards
abbrev pub IgnoresUnseen : Type 0
IgnoresUnseen =
    (change : Memory → Memory) → IsUnseen change → (g : Guest) (i : Ins) (len : ℕ) →
    effect (changed change g) i len ≡ changed change (effect g i len)
