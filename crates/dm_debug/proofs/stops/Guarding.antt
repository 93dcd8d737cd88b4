-- Marks on the memory that events look at.
use Rattle.std.proofs.Common.{◌≡◌, ℕ, ◌+◌, ◌<◌, ◌≤◌, List, [], ◌∷◌, length, get_or, inl, inr, refl, sym, ◌∙◌, ap, subst, arith}
use Rattle.std.specs.Prelude.{All}
use Rattle.std.specs.List.{AllWithin}
use Rattle.std.proofs.lemmas.Bool.{cases_eq, cases_lt}
use Rattle.std.proofs.Math.ListN.{get_or-eq_default}
use Rattle.std.proofs.lemmas.List.{get_or_default}
use Rattle.std.proofs.lemmas.List.Elements.{All-nil, All-cons, All-head, All-tail}
use Rattle.dm_touches.specs.quiet.Marks.{level_at, Marked}
use Rattle.dm_debug.specs.declared.stops.events.Event.{Event}
use Rattle.dm_debug.specs.declared.stops.events.Event.TheVariants.{At, Address, Change, Call, Function}
use Rattle.dm_debug.specs.stops.inner.Marking.{level_of, first_of, end_of, HasLevel, IsGuarded, IsGuardedAt, Keeps}

-- ---- a run of paragraphs that is given a level

-- a level that is not higher is kept
pub marked_keeps : (first end level n : ℕ) (old new : List ℕ) → Marked first end level old new → n ≤ level → n ≤ 2 →
    Keeps n old new
marked_keeps first end level n old new x low small p h = elim (cases_eq p 0xFFFF) [
  | inl same ↦ (let last : level_at new p ≡ 2 = ap (level_at new) same ∙ x.last in omega (arith, last, small))
  | inr other ↦ elim (cases_lt p first) [
    | inl under ↦ (let kept : level_at new p ≡ level_at old p = x.kept p (inl under) in omega (arith, kept, h))
    | inr over ↦ elim (cases_lt p end) [
      | inl inside ↦ (let given : level_at new p ≡ level = x.given p over inside other in omega (arith, given, low))
      | inr beyond ↦ (let kept : level_at new p ≡ level_at old p = x.kept p (inr beyond) in omega (arith, kept, h))
    ]
  ]
]

-- it is given
marked_gives : (first end level p : ℕ) (old new : List ℕ) → Marked first end level old new → level ≤ 2 → first ≤ p →
    p < end → level ≤ level_at new p
marked_gives first end level p old new x small over under = elim (cases_eq p 0xFFFF) [
  | inl same ↦ (let last : level_at new p ≡ 2 = ap (level_at new) same ∙ x.last in omega (arith, last, small))
  | inr other ↦ (let given : level_at new p ≡ level = x.given p over under other in omega (arith, given))
]

beyond : (ms : List ℕ) (p : ℕ) → length ms ≡ 0x11000 → 0x11000 ≤ p → level_at ms p ≡ 2
beyond ms p size over = get_or-eq_default ms 2 (omega (arith, size, over))

-- the paragraphs of an event are marked up to the end of memory
pub event_marked : (e : Event) (first end level : ℕ) (old new : List ℕ) → Marked first end level old new → level ≤ 2 →
    first ≤ first_of e → ((k : ℕ) → k < end_of e → k < 0x11000 → k < end) → HasLevel level new e
event_marked e first end level old new x small start inside p low high = elim (cases_lt p 0x11000) [
  | inl under ↦ marked_gives first end level p old new x small (omega (arith, start, low)) (inside p high under)
  | inr over ↦ (let top : level_at new p ≡ 2 = beyond new p x.count over in omega (arith, top, small))
]

-- ---- all events

pub level_kept : (n : ℕ) (old new : List ℕ) (e : Event) → Keeps n old new → HasLevel n old e → HasLevel n new e
level_kept n old new e k h p low high = k p (h p low high)

pub at_kept : (n : ℕ) (old new : List ℕ) (e : Event) → Keeps n old new → IsGuardedAt n old e → IsGuardedAt n new e
at_kept n old new e k h same = level_kept n old new e k (h same)

pub all_at_kept : (n : ℕ) (old new : List ℕ) (es : List Event) → Keeps n old new → All (IsGuardedAt n old) es →
    All (IsGuardedAt n new) es
all_at_kept n old new [] k h = All-nil (IsGuardedAt n new)
all_at_kept n old new (e ∷ es) k h = All-cons (IsGuardedAt n new) e es (at_kept n old new e k
    (All-head (IsGuardedAt n old) e es h)) (all_at_kept n old new es k (All-tail (IsGuardedAt n old) e es h))

-- one more event is marked
pub at_next : (n : ℕ) (old new : List ℕ) (xs : List Event) (i : ℕ) (e : Event) → i < length xs → Keeps n old new →
    AllWithin (IsGuardedAt n old) xs 0 i → IsGuardedAt n new (get_or xs i e) →
    AllWithin (IsGuardedAt n new) xs 0 (i + 1)
at_next n old new xs i e less k h f m d low high = elim (cases_eq m i) [
  | inl same ↦ subst (λ (j : ℕ). IsGuardedAt n new (get_or xs j d)) (sym same)
      (subst (λ (w : Event). IsGuardedAt n new w) (get_or_default xs i e d less) f)
  | inr other ↦ at_kept n old new (get_or xs m d) k (h m d low (omega (arith, high, other)))
]

guarded_by : (ms : List ℕ) (e : Event) → (level_of e ≡ 1 → HasLevel 1 ms e) → (level_of e ≡ 2 → HasLevel 2 ms e) →
    HasLevel (level_of e) ms e
guarded_by ms (At p) one two = λ q low high. omega arith
guarded_by ms (Address a) one two = λ q low high. omega arith
guarded_by ms (Change r) one two = one refl
guarded_by ms (Call n) one two = two refl
guarded_by ms (Function n ah) one two = two refl

pub all_guarded : (ms : List ℕ) (es : List Event) → All (IsGuardedAt 1 ms) es → All (IsGuardedAt 2 ms) es →
    All (IsGuarded ms) es
all_guarded ms [] one two = All-nil (IsGuarded ms)
all_guarded ms (e ∷ es) one two =
    All-cons (IsGuarded ms) e es (guarded_by ms e (All-head (IsGuardedAt 1 ms) e es one)
    (All-head (IsGuardedAt 2 ms) e es two))
    (all_guarded ms es (All-tail (IsGuardedAt 1 ms) e es one) (All-tail (IsGuardedAt 2 ms) e es two))
