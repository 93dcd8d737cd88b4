-- Marks on the ranges of watchpoints.
use Rattle.std.proofs.Common.{◌≡◌, ℕ, ◌+◌, ◌/◌, ◌<◌, ◌≤◌, Bool, true, false, not, nat_lt, List, [], ◌∷◌, length, get_or, Option, Some, None, inl, inr, refl, sym, ◌∙◌, ap, subst, arith}
use Rattle.std.specs.Prelude.{◌&&◌, nat_le, All}
use Rattle.std.specs.List.{find, AllWithin}
use Rattle.std.proofs.lemmas.Bool.{false≢true, cases_eq, cases_lt}
use Rattle.std.proofs.lemmas.Bool.Decides.{nat_tests}
use Rattle.std.proofs.Math.ListN.{get_or-eq_default}
use Rattle.std.proofs.lemmas.List.{get_or_default}
use Rattle.std.proofs.lemmas.List.Elements.{All-nil, All-cons, All-head, All-tail}
use Rattle.dm_cpu.specs.Guest.{up}
use Rattle.dm_touches.specs.declared.elements.Element.{Element}
use Rattle.dm_touches.specs.declared.elements.Element.TheVariants as element
use Rattle.dm_touches.specs.declared.elements.Elements.{Elements}
use Rattle.dm_touches.specs.Elements.{far, linear_of}
use Rattle.dm_touches.specs.quiet.Marks.{level_at, lies_below, satisfies, satisfy, IsQuiet, Marked}
use Rattle.dm_requests.specs.declared.request.WatchedAccess.{WatchedAccess}
use Rattle.dm_requests.specs.declared.request.WatchedAccess.TheVariants.{Execute, Write, Read, Either}
use Rattle.dm_requests.specs.declared.request.Point.{Point}
use Rattle.dm_target.specs.Watching.{by_access, is_in_range, is_met, is_touched}
use Rattle.dm_target.specs.inner.Looking.{HasLevel, IsGuarded, IsGuardedAt, Keeps, level_of}

-- ---- a run of paragraphs that is given a level

-- a level that is not higher is kept
pub marked_keeps : (first end level n : ℕ) (old new : List ℕ) → Marked first end level old new → n ≤ level → n ≤ 2 →
    Keeps n old new
marked_keeps first end level n old new x low small p h = elim (cases_eq p 0xFFFF) [
  | inl same ↦ (let last : level_at new p ≡ 2 = ap (level_at new) same ∙ x.last in omega (arith, last, small))
  | inr other ↦ elim (cases_lt p first) [
    | inl under ↦ (let kept : level_at new p ≡ level_at old p = x.kept p (inl under) in omega (arith, kept, h))
    | inr over ↦ elim (cases_lt p end) [
      | inl inside ↦ (let given : level_at new p ≡ level = x.given p over inside other in omega (arith, given, low))
      | inr beyond ↦ (let kept : level_at new p ≡ level_at old p = x.kept p (inr beyond) in omega (arith, kept, h))
    ]
  ]
]

-- it is given
marked_gives : (first end level p : ℕ) (old new : List ℕ) → Marked first end level old new → level ≤ 2 → first ≤ p →
    p < end → level ≤ level_at new p
marked_gives first end level p old new x small over under = elim (cases_eq p 0xFFFF) [
  | inl same ↦ (let last : level_at new p ≡ 2 = ap (level_at new) same ∙ x.last in omega (arith, last, small))
  | inr other ↦ (let given : level_at new p ≡ level = x.given p over under other in omega (arith, given))
]

beyond : (ms : List ℕ) (p : ℕ) → length ms ≡ 0x11000 → 0x11000 ≤ p → level_at ms p ≡ 2
beyond ms p size over = get_or-eq_default ms 2 (omega (arith, size, over))

pub and_left : (a b : Bool) → (a && b) ≡ true → a ≡ true
and_left true b e = refl
and_left false b e = absurd (false≢true e)

pub and_right : (a b : Bool) → (a && b) ≡ true → b ≡ true
and_right true b e = e
and_right false b e = absurd (false≢true e)

pub and_both : (a b : Bool) → a ≡ true → b ≡ true → (a && b) ≡ true
and_both a b e f = rw (e, f) refl

in_range : (p : Point) (a : ℕ) → is_in_range p a ≡ true → (p.address ≤ a) × (a < p.address + p.length)
in_range p a e =
    let low : nat_le p.address a ≡ true = and_left (nat_le p.address a) (nat_lt a (p.address + p.length)) e in
    let high : nat_lt a (p.address + p.length) ≡ true =
    and_right (nat_le p.address a) (nat_lt a (p.address + p.length)) e in
    (grind (arith, nat_tests), grind (arith, nat_tests))

-- the range of a watchpoint is marked up to the end of memory
pub range_marked : (p : Point) (first end level : ℕ) (old new : List ℕ) → Marked first end level old new → level ≤ 2 →
    first ≤ p.address / 16
    → ((k : ℕ) → k < (p.address + p.length + 15) / 16 → k < 0x11000 → k < end) → HasLevel level new p
range_marked p first end level old new x small start inside a e =
    let at = in_range p a e in
    elim (cases_lt (a / 16) 0x11000) [
      | inl under ↦ marked_gives first end level (a / 16) old new x small (omega (
        arith,
        start,
        at.0,
      )) (inside (a / 16) (omega (arith, at.1)) under)
      | inr over ↦ (let top : level_at new (a / 16) ≡ 2 = beyond new (a / 16) x.count over in omega (arith, top, small))
    ]

-- ---- all ranges

pub level_kept : (n : ℕ) (old new : List ℕ) (p : Point) → Keeps n old new → HasLevel n old p → HasLevel n new p
level_kept n old new p k h a e = k (a / 16) (h a e)

pub at_kept : (n : ℕ) (old new : List ℕ) (p : Point) → Keeps n old new → IsGuardedAt n old p → IsGuardedAt n new p
at_kept n old new p k h e = level_kept n old new p k (h e)

pub all_at_kept : (n : ℕ) (old new : List ℕ) (ws : List Point) → Keeps n old new → All (IsGuardedAt n old) ws →
    All (IsGuardedAt n new) ws
all_at_kept n old new [] k h = All-nil (IsGuardedAt n new)
all_at_kept n old new (p ∷ ws) k h = All-cons (IsGuardedAt n new) p ws (at_kept n old new p k
    (All-head (IsGuardedAt n old) p ws h)) (all_at_kept n old new ws k (All-tail (IsGuardedAt n old) p ws h))

-- one more range is marked
pub at_next : (n : ℕ) (old new : List ℕ) (xs : List Point) (i : ℕ) (e : Point) → i < length xs → Keeps n old new →
    AllWithin (IsGuardedAt n old) xs 0 i → IsGuardedAt n new (get_or xs i e) →
    AllWithin (IsGuardedAt n new) xs 0 (i + 1)
at_next n old new xs i e less k h f m d low high = elim (cases_eq m i) [
  | inl same ↦ subst (λ (j : ℕ). IsGuardedAt n new (get_or xs j d)) (sym same)
      (subst (λ (w : Point). IsGuardedAt n new w) (get_or_default xs i e d less) f)
  | inr other ↦ at_kept n old new (get_or xs m d) k (h m d low (omega (arith, high, other)))
]

guarded_by : (access : WatchedAccess) (ms : List ℕ) (p : Point) → (level_of access ≡ 1 → HasLevel 1 ms p) →
    (level_of access ≡ 2 → HasLevel 2 ms p) → HasLevel (level_of access) ms p
guarded_by Execute ms p one two = λ a e. omega arith
guarded_by Write ms p one two = one refl
guarded_by Read ms p one two = two refl
guarded_by Either ms p one two = two refl

pub all_guarded : (ms : List ℕ) (ws : List Point) → All (IsGuardedAt 1 ms) ws → All (IsGuardedAt 2 ms) ws →
    All (IsGuarded ms) ws
all_guarded ms [] one two = All-nil (IsGuarded ms)
all_guarded ms (p ∷ ws) one two =
    All-cons (IsGuarded ms) p ws (guarded_by p.access ms p (All-head (IsGuardedAt 1 ms) p ws one)
    (All-head (IsGuardedAt 2 ms) p ws two))
    (all_guarded ms ws (All-tail (IsGuardedAt 1 ms) p ws one) (All-tail (IsGuardedAt 2 ms) p ws two))

-- ---- what touches nothing that is marked hits no watchpoint

not_below : (ms : List ℕ) (level a : ℕ) → lies_below ms level a ≡ true → level ≤ level_at ms (a / 16) → ⊥
not_below ms level a e h = (let less : level_at ms (a / 16) < level = grind (arith, nat_tests) in
    omega (arith, less, h))

weaker : (ms : List ℕ) (a : ℕ) → lies_below ms 1 a ≡ true → lies_below ms 2 a ≡ true
weaker ms a e = grind (arith, nat_tests)

missed_by : (ms : List ℕ) (p : Point) (level a : ℕ) (b : Bool) → HasLevel level ms p → lies_below ms level a ≡ true →
    is_in_range p a ≡ b → not b ≡ true
missed_by ms p level a false h e is = refl
missed_by ms p level a true h e is = absurd (not_below ms level a e (h a is))

missed : (ms : List ℕ) (p : Point) (level a : ℕ) → HasLevel level ms p → lies_below ms level a ≡ true →
    not (is_in_range p a) ≡ true
missed ms p level a h e = missed_by ms p level a (is_in_range p a) h e refl

element_more : (p q : ℕ → Bool) → ((a : ℕ) → p a ≡ true → q a ≡ true) → (a20 : Bool) (o : Option Element) →
    satisfies p a20 o ≡ true → satisfies q a20 o ≡ true
element_more p q h a20 None t = refl
element_more p q h a20 (Some (element.Byte s o)) t = h _ t
element_more p q h a20 (Some (element.Word s o)) t =
    let first = linear_of a20 (far s o) in
    let second = linear_of a20 (far s (up o 1)) in
    and_both (q first) (q second) (h first (and_left (p first) (p second) t))
    (h second (and_right (p first) (p second) t))

elements_more : (p q : ℕ → Bool) → ((a : ℕ) → p a ≡ true → q a ≡ true) → (a20 : Bool) (e : Elements) →
    satisfy p a20 e ≡ true → satisfy q a20 e ≡ true
elements_more p q h a20 e t =
    let a = satisfies p a20 e.first in
    let b = satisfies p a20 e.second in
    let c = satisfies p a20 e.third in
    let x = satisfies q a20 e.first in
    let y = satisfies q a20 e.second in
    let z = satisfies q a20 e.third in
    let both = and_left (a && b) c t in
    and_both (x && y) z (and_both x y (element_more p q h a20 e.first (and_left a b both))
    (element_more p q h a20 e.second (and_right a b both))) (element_more p q h a20 e.third (and_right (a &&
    b) c t))

unmet : (ms : List ℕ) (p : Point) (level : ℕ) (a20 : Bool) (e : Elements) → HasLevel level ms p →
    satisfy (lies_below ms level) a20 e ≡ true → is_met a20 e p ≡ false
unmet ms p level a20 e h t = ap not (elements_more (lies_below ms level) (λ a. not (is_in_range p a))
    (λ a x. missed ms p level a h x) a20 e t)

untouched_by : (access : WatchedAccess) (ms : List ℕ) (p : Point) (a20 : Bool) (rs ws : Elements) →
    HasLevel (level_of access) ms p → IsQuiet ms a20 rs ws → by_access access (is_met a20 rs p) (is_met a20 ws p)
    ≡ false
untouched_by Execute ms p a20 rs ws h q = refl
untouched_by Write ms p a20 rs ws h q = unmet ms p 1 a20 ws h q.writes
untouched_by Read ms p a20 rs ws h q = unmet ms p 2 a20 rs h q.reads
untouched_by Either ms p a20 rs ws h q =
    let first = unmet ms p 2 a20 rs h q.reads in
    let second = unmet ms p 2 a20 ws h (elements_more (lies_below ms 1) (lies_below ms 2)
    (weaker ms) a20 ws q.writes) in
    rw (first, second) refl

-- an instruction that touches nothing marked hits none of the watchpoints
pub none_touched : (ms : List ℕ) (ps : List Point) (a20 : Bool) (rs ws : Elements) → All (IsGuarded ms) ps →
    IsQuiet ms a20 rs ws → find (is_touched a20 rs ws) ps ≡ None
none_touched ms [] a20 rs ws g q = refl
none_touched ms (p ∷ ps) a20 rs ws g q =
    let first = untouched_by p.access ms p a20 rs ws (All-head (IsGuarded ms) p ps g) q in
    let rest = none_touched ms ps a20 rs ws (All-tail (IsGuarded ms) p ps g) q in
    rw (first, rest) refl
