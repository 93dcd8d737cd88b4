-- Console input that comes while a program runs.
use Rattle.std.specs.Prelude.{Bool, ℕ, List, ◌++◌}
use Rattle.dm_services.specs.state.State.{State}

-- the machine with this said of its console input: whether more may come after what is left
abbrev pub with_more : State → Bool → State
with_more m more = record m { console = record m.console { more = more } }

-- the machine with these bytes at the end of its console input
abbrev pub with_supply : State → List ℕ → State
with_supply m bytes = record m { console = record m.console { input = m.console.input ++ bytes } }
