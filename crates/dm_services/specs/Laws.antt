-- The law of the services (the divide error, INT 20h and the functions of INT 21h): each has one result.
use Rattle.std.specs.Prelude.{◌≡◌}
use Rattle.dm_space.specs.Memory.{Memory}
use Rattle.dm_space.specs.declared.entry_points.Service.{Service}
use Rattle.dm_services.specs.state.State.{State, Answer}
use Rattle.dm_services.specs.Services.{Serves}

-- the state before a service, in which no allocation fails, determines its stop and the state after it
abbrev pub ServicesHaveOneAnswer : Type 0
ServicesHaveOneAnswer = (s : State) (service : Service) (x y : Answer) → Serves s service x → Serves s service y → x ≡ y

-- the state s with `change`, that of a law on unseen bytes, applied to its memory
abbrev pub with_change : (Memory → Memory) → State → State
with_change change s = record s { memory = change s.memory }
