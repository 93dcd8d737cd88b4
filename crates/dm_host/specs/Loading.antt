-- Adding programs to a host, and loading the first one.
use Rattle.std.specs.Prelude.{◌≡◌, ℕ, ◌<◌, ◌≤◌, List, length}
use Rattle.dm_services.specs.state.State.{State}
use Rattle.dm_machine.specs.Start.{IsNew, IsLoaded, HasNoRoom}
use Rattle.dm_proc.specs.Programs.{IsName}
use Rattle.dm_debug.specs.Sessions.{new_session}
use Rattle.dm_host.specs.declared.refusal.Refusal.{Refusal}
use Rattle.dm_host.specs.declared.refusal.Refusal.TheVariants.{Memory, Started, BadName, TailTooLong, Short}
use Rattle.dm_host.specs.declared.host.Stage.TheVariants.{Fresh, Loaded, Spent}
use Rattle.dm_host.specs.Setups.{Prepared, added, IsAddFault, IsLoadable, IsNoProgram}
use Rattle.dm_host.specs.Hosts.{Hosted, with_stage}

-- programs can still be added to the host
abbrev pub IsFresh : Hosted → Type 0
IsFresh h = (s : Prepared) × (h.stage ≡ Fresh s)

-- a program is added to the host h, which becomes g
pub record Adds (h : Hosted) (name bytes : List ℕ) (g : Hosted) : Type 0 where
  pub before : Prepared
  pub fresh : h.stage ≡ Fresh before
  pub is : g ≡ with_stage h (Fresh (added before name bytes))

-- why no program of this name is added to the host: one was loaded before, or its loading failed for good (`Started`);
-- or the setup refuses the new program
pub data IsUnadded (h : Hosted) (name : List ℕ) (why : Refusal) : Type 0 where
  late : (IsFresh h → ⊥) → why ≡ Started → IsUnadded h name why
  refused : (s : Prepared) → h.stage ≡ Fresh s → IsAddFault s name why → IsUnadded h name why

-- m is a new machine of the setup with this console input
abbrev pub IsMachine : Prepared → List ℕ → State → Type 0
IsMachine s input m = IsNew s.sizes s.variables s.upper s.programs input m

-- the program of this name is loaded in the host h, on a new machine, with this tail and console input; the host
-- becomes g
pub record Loads (h : Hosted) (name tail input : List ℕ) (g : Hosted) : Type 0 where
  pub before : Prepared
  pub start : State
  pub machine : State
  pub fresh : h.stage ≡ Fresh before
  pub new : IsMachine before input start
  pub loaded : IsLoaded start name tail machine
  pub is : g ≡ with_stage h (Loaded (new_session machine))

-- why no program is loaded in the host h, and the host g after it, in this order: one was loaded before, or its loading
-- failed for good; a bad name; a tail over 126 bytes; no such program, or no good one; and in all these cases nothing
-- has changed. Or conventional memory has no room for the program, or an allocation of the host failed: then the host
-- is spent, and its answer stays
pub data IsUnloaded (h : Hosted) (name tail input : List ℕ) (why : Refusal) (g : Hosted) : Type 0 where
  late : (IsFresh h → ⊥) → why ≡ Started → g ≡ h → IsUnloaded h name tail input why g
  bad_name : IsFresh h → (IsName name → ⊥) → why ≡ BadName → g ≡ h → IsUnloaded h name tail input why g
  long_tail : IsFresh h → IsName name → 126 < length tail → why ≡ TailTooLong → g ≡ h →
      IsUnloaded h name tail input why g
  no_program : (s : Prepared) → h.stage ≡ Fresh s → IsName name → length tail ≤ 126 → IsNoProgram s name why → g ≡ h →
      IsUnloaded h name tail input why g
  no_room : (s : Prepared) (m : State) → h.stage ≡ Fresh s → IsName name → length tail ≤ 126 → IsLoadable s name →
      IsMachine s input m → HasNoRoom m name
      → why ≡ Short → g ≡ with_stage h Spent → IsUnloaded h name tail input why g
  no_memory : (s : Prepared) → h.stage ≡ Fresh s → IsName name → length tail ≤ 126 → IsLoadable s name → why ≡ Memory →
      g ≡ with_stage h Spent
      → IsUnloaded h name tail input why g
