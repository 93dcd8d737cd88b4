-- The faults that keep a machine from its start.
use Rattle.std.proofs.Common.{◌≡◌, ◌↔◌, inl, inr, ◌∷◌, [], ℕ, List, Bool, Option, Some, None, Ok, Err, IsSomeAnd, refl, map}
use Rattle.std.proofs.lemmas.Option.{none-some}
use Rattle.std.specs.List.{slice_get}
use Rattle.std.specs.Option.{ok_or}
use Rattle.dm_machine.specs.declared.machine.NewError.{NewError}
use Rattle.dm_machine.specs.declared.machine.NewError.TheVariants as new
use Rattle.dm_machine.specs.declared.loading.LoadError.{LoadError}
use Rattle.dm_machine.specs.declared.loading.LoadError.TheVariants as load
use Rattle.dm_machine.specs.Start.{IsBadProgram, HasNoRoom, IsNew}
use Rattle.dm_options.specs.declared.command_line.MachineOptions.{MachineOptions}
use Rattle.dm_pool.specs.declared.sizes.Sizes.{Sizes}
use Rattle.dm_pool.specs.Stored.{IsTooLarge}
use Rattle.dm_proc.specs.Programs.{IsName, program_of}
use Rattle.dm_services.specs.state.State.{State}
use Rattle.dm_cli.specs.declared.fault.Fault.{Fault}
use Rattle.dm_cli.specs.declared.fault.Fault.TheVariants as fault
use Rattle.dm_cli.specs.inner.Faults.{new_fault, load_fault}
use Rattle.dm_cli.specs.Names.{last_part}
use Rattle.dm_cli.specs.inner.Names.{IsNameFault}
use Rattle.dm_cli.specs.Stores.{IsBegun, IsInputFault, bytes_if_any}
use Rattle.dm_cli.specs.Starting.{IsLoadFault, IsMachineFault, sizes_of, too_large, long_tail, no_file, not_loaded, no_memory}
use Rattle.dm_cli.specs.inner.Starting.{IsFirstFault, IsFirstLoaded, tail_is_long, no_first, first_refused}

-- a machine of these sizes was refused
pub new_refused : (e : NewError) (store : List (List ℕ × List ℕ)) (input : List ℕ) (o : MachineOptions) →
    (e ≡ new.TooLarge → IsTooLarge (sizes_of o)) → IsMachineFault store input o (new_fault e)
new_refused new.TooLarge store input o h = too_large (h refl)
new_refused new.Memory store input o h = no_memory

-- a machine of these sizes was made
pub not_too_large : {A : Type 0} (m : A) (sizes : Sizes) → (Ok m ≡ Err new.TooLarge) ↔ IsTooLarge sizes →
    ¬ IsTooLarge sizes
not_too_large m sizes h large = let e = h.1 large in cc

-- there is no first one of some paths
pub none_first : {A : Type 0} (f : A → List ℕ) (xs : List A) → None ≡ slice_get xs 0 → map f xs ≡ []
none_first f [] h = refl
none_first f (x ∷ xs) h = absurd (none-some x h)

-- the first program's name is none that a file of a store has
pub bad_name : (e : Fault) (path : List ℕ) (fresh : State) → IsNameFault path e → ¬ IsName (last_part path) →
    IsLoadFault fresh (last_part path) e
bad_name fault.NotFound path fresh (inl h) none = absurd h.0
bad_name fault.NotFound path fresh (inr h) none = absurd (let e = h.0 in cc)
bad_name fault.BadFormat path fresh (inl h) none = absurd h.0
bad_name fault.BadFormat path fresh (inr h) none = absurd (let e = h.0 in cc)
bad_name fault.Short path fresh (inl h) none = absurd h.0
bad_name fault.Short path fresh (inr h) none = absurd (let e = h.0 in cc)
bad_name (fault.CannotRead n) path fresh h none = none
bad_name (fault.CannotWrite n) path fresh h none = none
bad_name fault.TooLarge path fresh h none = none
bad_name fault.TailTooLong path fresh h none = none
bad_name fault.NameTooLong path fresh h none = none
bad_name fault.NameTwice path fresh h none = none
bad_name fault.InputTooLong path fresh h none = none
bad_name fault.TooLong path fresh h none = none
bad_name (fault.Syntax n) path fresh h none = none
bad_name (fault.Unknown n) path fresh h none = none
bad_name (fault.Range n) path fresh h none = none
bad_name (fault.Twice n) path fresh h none = none
bad_name fault.OutOfMemory path fresh h none = none

-- the first program was refused
pub load_refused : (e : LoadError) (fresh : State) (name : List ℕ) → (e ≡ load.NotFound →
    program_of fresh.programs name ≡ None) → (e ≡ load.BadFormat → IsBadProgram fresh name)
    → (e ≡ load.Short → HasNoRoom fresh name) → IsLoadFault fresh name (load_fault e)
load_refused load.NotFound fresh name missing bad short = missing refl
load_refused load.BadFormat fresh name missing bad short = bad refl
load_refused load.Short fresh name missing bad short = short refl

-- the console's input in a session, if it has a file
pub input_of_session : (files : List ℕ → Option (List ℕ)) (o : Option (List ℕ)) (e : Fault) →
    IsSomeAnd o (λ name. IsInputFault (bytes_if_any files (Some name)) name e)
    → IsSomeAnd o (λ name. IsInputFault (bytes_if_any files o) name e)
input_of_session files None e h = absurd h
input_of_session files (Some name) e h = h

-- the error that stands for nothing
pub error_of_none : {A : Type 0} (o : Option A) (err e : Fault) → ok_or o err ≡ Err e → e ≡ err
error_of_none None err e h = cc
error_of_none (Some x) err e h = absurd (cc)

-- a new machine with its first program, and the faults of that one
pub begun_by : (store : List (List ℕ × List ℕ)) (input : List ℕ) (sizes : Sizes) (upper : Bool) (paths : List (List ℕ))
    (tail : List ℕ) (fresh m : State) → ¬ IsTooLarge sizes
    → IsNew sizes [] upper store input fresh → IsFirstLoaded fresh paths tail m →
    IsBegun store input sizes upper paths tail m
begun_by store input sizes upper paths tail fresh m small new h = record {
  small = small;
  fresh = fresh;
  new = new;
  first = h.first;
  others = h.others;
  is_first = h.is_first;
  short = h.short;
  loaded = h.loaded;
}

pub fault_of_first : (store : List (List ℕ × List ℕ)) (input : List ℕ) (o : MachineOptions) (fresh : State)
    (e : Fault) → ¬ IsTooLarge (sizes_of o)
    → IsNew (sizes_of o) [] o.upper store input fresh → IsFirstFault fresh o e → IsMachineFault store input o e
fault_of_first store input o fresh _ small new (tail_is_long long) = long_tail fresh small new long
fault_of_first store input o fresh _ small new (no_first short none) = no_file fresh small new short none
fault_of_first store input o fresh _ small new (first_refused first others e short is why) =
    not_loaded fresh first others e small new short is why
