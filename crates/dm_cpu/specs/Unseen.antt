-- A change of memory that no address shows, as a change of the guest.
use Rattle.dm_space.specs.Memory.{Memory}
use Rattle.dm_cpu.specs.Guest.{Guest}

-- the guest with its memory changed; the registers stay
abbrev pub changed : (Memory → Memory) → Guest → Guest
changed change g = record g { memory = change g.memory }
