-- What the proofs of the machine's laws need of the services: none changes the map of memory; and the words for what no
-- program sees and for the limit of the console.
use Rattle.std.specs.Prelude.{◌≡◌, ℕ, ◌+◌, length}
use Rattle.dm_space.specs.Memory.{Memory}
use Rattle.dm_space.specs.Places.{IsShaped}
use Rattle.dm_console.specs.Streams.{Streams}
use Rattle.dm_space.specs.declared.entry_points.Service.{Service}
use Rattle.dm_services.specs.state.State.{State, Answer}
use Rattle.dm_services.specs.Services.{Serves}
use Rattle.dm_services.specs.Laws.{with_change}

-- each service keeps A20, the windows, and the number, place and size of the pool's blocks: in memory it writes bytes
-- alone
abbrev pub ServicesKeepTheMap : Type 0
ServicesKeepTheMap = (s : State) (service : Service) (x : Answer) → Serves s service x →
    IsShaped s.memory x.state.memory

-- each service keeps the tables of expanded and of extended memory
abbrev pub ServicesKeepTheTables : Type 0
ServicesKeepTheTables = (s : State) (service : Service) (x : Answer) → Serves s service x → (x.state.ems ≡ s.ems) ×
    (x.state.xms ≡ s.xms)

-- the result x with `change` applied to the memory of its state; the stop stays
abbrev pub answer_with : (Memory → Memory) → Answer → Answer
answer_with change x = record { stop = x.stop; state = with_change change x.state }

-- the length of the output plus the room: how long the output can get without an allocation
abbrev pub limit : Streams → ℕ
limit c = c.room + length c.output
