-- Laws of the listings of instructions, of the registers and of the arena: each has one text for one state.
use Rattle.std.specs.Prelude.{◌≡◌, ℕ, Bool, List}
use Rattle.dm_space.specs.Memory.{Memory}
use Rattle.dm_cpu.specs.declared.cpu.Cpu.{Cpu}
use Rattle.dm_views.specs.Registers.{IsRegistersText}
use Rattle.dm_views.specs.Code.{IsCode}
use Rattle.dm_views.specs.Arena.{IsArenaText}

-- one memory has one listing of n instructions from an address on
abbrev pub CodeHasOneText : Type 0
CodeHasOneText = (m : Memory) (segment offset n : ℕ) (a b : List ℕ) → IsCode m segment offset n a →
    IsCode m segment offset n b → a ≡ b

-- the same registers and memory have one listing of the registers
abbrev pub RegistersHaveOneText : Type 0
RegistersHaveOneText = (c : Cpu) (m : Memory) (a b : List ℕ) → IsRegistersText c m a → IsRegistersText c m b → a ≡ b

-- one memory has one listing of the arena
abbrev pub ArenaHasOneText : Type 0
ArenaHasOneText = (upper : Bool) (m : Memory) (a b : List ℕ) → IsArenaText upper m a → IsArenaText upper m b → a ≡ b
