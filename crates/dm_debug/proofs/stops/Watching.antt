-- Events with the bytes of their ranges before a run.
use Rattle.std.proofs.Common.{◌≡◌, ℕ, ◌+◌, List, [], ◌∷◌, ◌++◌, map, length, Option, Some, refl, sym, ◌∙◌, ap, arith}
use Rattle.std.specs.Prelude.{Bool, true, ◌==◌, if◌then◌else◌}
use Rattle.std.proofs.lemmas.Bool.{eqb-true}
use Rattle.dm_space.specs.Memory.{Memory}
use Rattle.dm_space.specs.Copies.{values}
use Rattle.dm_space.proofs.Copies.{length-values, values-more}
use Rattle.dm_services.specs.state.State.{State}
use Rattle.dm_debug.specs.declared.stops.events.Event.{Event}
use Rattle.dm_debug.specs.declared.stops.events.Event.TheVariants.{At, Address, Change, Call, Function}
use Rattle.dm_debug.specs.declared.stops.going.RunEnd.{RunEnd}
use Rattle.dm_debug.specs.stops.Events.{byte_at, bytes_for, bytes_there, comes, first_come, first_from, has_come}
use Rattle.dm_debug.specs.stops.Runs.{RunsTo}
use Rattle.dm_debug.specs.stops.Runs as runs
use Rattle.dm_debug.specs.stops.inner.Watching.{Watched, count_for, watch_of, GoesTo}
use Rattle.dm_debug.specs.stops.inner.Watching as watching

-- as many bytes are kept as the range has
pub count_kept : (m : Memory) (e : Event) → length (bytes_for m e) ≡ count_for e
count_kept m (At p) = refl
count_kept m (Address a) = refl
count_kept m (Change r) = length-values (byte_at m) r.address (bytes_there r)
count_kept m (Call n) = refl
count_kept m (Function n ah) = refl

first_kept : (start : Memory) (t : State) (k : ℕ) (es : List Event) →
    first_from (λ (w : Watched). comes t w.event w.before) k (map (watch_of start) es)
    ≡ first_from (has_come start t) k es
first_kept start t k [] = refl
first_kept start t k (e ∷ es) = ap (λ (o : Option ℕ). if has_come start t e then Some k else
    o) (first_kept start t (k + 1) es)

-- the first event that has come, from what was kept
pub first_seen : (start : Memory) (events : List Event) (ws : List Watched) (t : State) (o : Option ℕ) →
    ws ≡ map (watch_of start) events
    → o ≡ first_from (λ (w : Watched). comes t w.event w.before) 0 ws → first_come start events t ≡ o
first_seen start events ws t o are is =
    sym (is ∙ ap (λ (l : List Watched). first_from (λ (w : Watched). comes t w.event w.before) 0 l) are
    ∙ first_kept start t 0 events)

-- a run up to events that began with the memory of its first state
pub goes_runs : (s : State) (most : ℕ) (events : List Event) (ending : RunEnd) (t : State) →
    GoesTo s.memory s most events ending t → RunsTo s most events ending t
goes_runs s most events ending t (watching.came made index before fewer is p step there) =
    runs.came made index before fewer is p step there
goes_runs s most events ending t (watching.whole is p) = runs.whole is p
goes_runs s most events ending t (watching.cut made before why fewer is other p step) =
    runs.cut made before why fewer is other p step

-- one more byte of a range
pub one_more : (f : ℕ → ℕ) (a k : ℕ) (out new : List ℕ) → out ≡ values f a k → new ≡ out ++ f (a + k) ∷ [] →
    new ≡ values f a (k + 1)
one_more f a k out new before put = put ∙ ap (λ (x : List ℕ). x ++ f (a + k) ∷ []) before ∙ sym (values-more f a k 1)

-- a list whose length is 0
pub nothing_in : {X : Type 0} → (xs : List X) (r : Bool) → r ≡ (length xs == 0) → r ≡ true → xs ≡ []
nothing_in [] r e h = refl
nothing_in (x ∷ xs) r e h = let zero_length = eqb-true (length (x ∷ xs)) 0 (sym e ∙ h) in
    absurd (omega (arith, zero_length))
