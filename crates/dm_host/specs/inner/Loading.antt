-- The tests before a load, and the session that a load begins. Private contracts and proofs alone name these.
use Rattle.std.specs.Prelude.{◌≡◌, ℕ, ◌<◌, ◌≤◌, List, Result, Ok, Err, length}
use Rattle.dm_services.specs.state.State.{State}
use Rattle.dm_machine.specs.Start.{IsLoaded, HasNoRoom}
use Rattle.dm_proc.specs.Programs.{IsName}
use Rattle.dm_debug.specs.Debugged.{Debugged}
use Rattle.dm_debug.specs.Sessions.{new_session}
use Rattle.dm_host.specs.declared.refusal.Refusal.{Refusal}
use Rattle.dm_host.specs.declared.refusal.Refusal.TheVariants.{Memory, Short, BadName, TailTooLong}
use Rattle.dm_host.specs.Setups.{Prepared, IsLoadable, IsNoProgram}
use Rattle.dm_host.specs.Loading.{IsMachine}

-- a session, without breakpoints, over a new machine of the setup in which the program of this name is loaded
pub record IsBegun (s : Prepared) (name tail input : List ℕ) (session : Debugged) : Type 0 where
  pub start : State
  pub machine : State
  pub new : IsMachine s input start
  pub loaded : IsLoaded start name tail machine
  pub is : session ≡ new_session machine

-- why no session is begun: conventional memory has no room for the program, or an allocation of the host failed
pub data IsUnbegun (s : Prepared) (name input : List ℕ) (why : Refusal) : Type 0 where
  no_room : (m : State) → IsMachine s input m → HasNoRoom m name → why ≡ Short → IsUnbegun s name input why
  no_memory : why ≡ Memory → IsUnbegun s name input why

-- why no program can be loaded by this name and with this tail, in this order: a bad name, a tail over 126 bytes, no
-- such program or no good one
pub data IsUntested (s : Prepared) (name tail : List ℕ) (why : Refusal) : Type 0 where
  bad_name : (IsName name → ⊥) → why ≡ BadName → IsUntested s name tail why
  long_tail : IsName name → 126 < length tail → why ≡ TailTooLong → IsUntested s name tail why
  no_program : IsName name → length tail ≤ 126 → IsNoProgram s name why → IsUntested s name tail why

-- a program can be loaded by this name and with this tail
pub record IsTestedGood (s : Prepared) (name tail : List ℕ) : Type 0 where
  pub name_is : IsName name
  pub short : length tail ≤ 126
  pub found : IsLoadable s name

-- whether a program can be loaded by this name and with this tail, or why not
abbrev pub IsTestedWith : Prepared → List ℕ → List ℕ → Result (Unit {0}) Refusal → Type 0
IsTestedWith s name tail (Ok x) = IsTestedGood s name tail
IsTestedWith s name tail (Err e) = IsUntested s name tail e
