-- Marks on the memory of which something may be found.
use Rattle.std.proofs.Common.{◌≡◌, inl, inr, ℕ, ◌+◌, ◌-◌, ◌*◌, ◌/◌, ◌<◌, ◌≤◌, Bool, true, false, not, nat_lt, List, [], ◌∷◌, length, get_or, Option, None, refl, sym, ◌∙◌, ap, subst, arith}
use Rattle.std.specs.Prelude.{◌==◌, ◌&&◌, if◌then◌else◌, is_some, slice_index_or, All}
use Rattle.std.specs.List.{list_any, AllWithin}
use Rattle.std.proofs.lemmas.List.{get_or_default}
use Rattle.std.proofs.lemmas.Bool.{cases_eq, cases_lt}
use Rattle.std.proofs.lemmas.Bool.Decides.{nat_tests}
use Rattle.std.proofs.Math.ListN.{get_or-eq_default}
use Rattle.std.proofs.lemmas.List.Elements.{All-nil, All-cons, All-head, All-tail}
use Rattle.dm_space.specs.Memory.{Memory}
use Rattle.dm_blocks.specs.declared.header.Header.{Header}
use Rattle.dm_touches.specs.Found.{is_in_free}
use Rattle.dm_touches.specs.quiet.Marks.{level_at, lies_below, Marked}
use Rattle.dm_checker.specs.declared.arena_copy.HeaderCopy.{HeaderCopy}
use Rattle.dm_checker.specs.Unfound.{is_free_of, is_at, is_high, keeps_writes}
use Rattle.dm_checker.proofs.Unfound.{and_left, and_right, not_false}
use Rattle.dm_checker.specs.Marking.{IsMarked}
use Rattle.dm_checker.specs.inner.Marking.{Keeps, HasMap, HasHeader, HasFree}

-- ---- a run of paragraphs that is given a level

-- a level that is not higher is kept
pub marked_keeps : (first end level n : ℕ) (old new : List ℕ) → Marked first end level old new → n ≤ level → n ≤ 2 →
    Keeps n old new
marked_keeps first end level n old new x low small p h = elim (cases_eq p 0xFFFF) [
  | inl same ↦ (let last : level_at new p ≡ 2 = ap (level_at new) same ∙ x.last in omega (arith, last, small))
  | inr other ↦ elim (cases_lt p first) [
    | inl under ↦ (let kept : level_at new p ≡ level_at old p = x.kept p (inl under) in omega (arith, kept, h))
    | inr over ↦ elim (cases_lt p end) [
      | inl inside ↦ (let given : level_at new p ≡ level = x.given p over inside other in omega (arith, given, low))
      | inr beyond ↦ (let kept : level_at new p ≡ level_at old p = x.kept p (inr beyond) in omega (arith, kept, h))
    ]
  ]
]

-- it is given
pub marked_gives : (first end level n p : ℕ) (old new : List ℕ) → Marked first end level old new → n ≤ level → n ≤ 2 →
    first ≤ p → p < end → n ≤ level_at new p
marked_gives first end level n p old new x low small over under = elim (cases_eq p 0xFFFF) [
  | inl same ↦ (let last : level_at new p ≡ 2 = ap (level_at new) same ∙ x.last in omega (arith, last, small))
  | inr other ↦ (let given : level_at new p ≡ level = x.given p over under other in omega (arith, given, low))
]

-- ---- what is marked

not_below : (ms : List ℕ) (level a : ℕ) → lies_below ms level a ≡ true → level ≤ level_at ms (a / 16) → ⊥
not_below ms level a e h = (let less : level_at ms (a / 16) < level = grind (arith, nat_tests) in
    omega (arith, less, h))

weaker : (ms : List ℕ) (a : ℕ) → lies_below ms 1 a ≡ true → lies_below ms 2 a ≡ true
weaker ms a e = grind (arith, nat_tests)

pub beyond : (ms : List ℕ) (p : ℕ) → length ms ≡ 0x11000 → 0x11000 ≤ p → level_at ms p ≡ 2
beyond ms p size over = get_or-eq_default ms 2 (omega (arith, size, over))

-- ---- free blocks

free_by : (b : Header) (a : ℕ) → is_in_free b a ≡ true → (b.owner ≡ 0) × (b.segment + 1 ≤ a / 16) ×
    (a / 16 < b.segment + 1 + b.size)
free_by b a e =
    let first = 16 * (b.segment + 1) in
    let end = first + 16 * b.size in
    let owned : (b.owner == 0) ≡ true = and_left (b.owner == 0) _ e in
    let inside : (not (nat_lt a first) && nat_lt a end) ≡ true = and_right (b.owner == 0) _ e in
    let low : nat_lt a first ≡ false = not_false (nat_lt a first) (and_left (not (nat_lt a first))
    (nat_lt a end) inside) in
    let high : nat_lt a end ≡ true = and_right (not (nat_lt a first)) (nat_lt a end) inside in
    let owner : b.owner ≡ 0 = grind (arith, nat_tests) in
    let over : first ≤ a = grind (arith, nat_tests) in
    let under : a < end = grind (arith, nat_tests) in
    (owner, omega (arith, over), omega (arith, under))

free_not : (ms : List ℕ) (x : HeaderCopy) (a : ℕ) (t : Bool) → HasFree ms x.header → lies_below ms 2 a ≡ true →
    is_free_of a x ≡ t → t ≡ false
free_not ms x a false h e is = refl
free_not ms x a true h e is =
    let here = free_by x.header a is in
    absurd (not_below ms 2 a e (h here.0 (a / 16) here.1 here.2))

none_free : (ms : List ℕ) (ws : List HeaderCopy) (a : ℕ) → All (λ (w : HeaderCopy). HasFree ms w.header) ws →
    lies_below ms 2 a ≡ true → list_any (is_free_of a) ws ≡ false
none_free ms [] a h e = refl
none_free ms (x ∷ ws) a h e =
    let F : HeaderCopy → Type 0 = λ w. HasFree ms w.header in
    let first = free_not ms x a _ (All-head F x ws h) e refl in
    let rest = none_free ms ws a (All-tail F x ws h) e in
    rw (first, rest) refl

-- ---- headers

header_not : (ms : List ℕ) (x : HeaderCopy) (a : ℕ) (t : Bool) → HasHeader ms x → lies_below ms 1 a ≡ true →
    (x.header.segment == a / 16) ≡ t → t ≡ false
header_not ms x a false h e is = refl
header_not ms x a true h e is =
    let same : x.header.segment ≡ a / 16 = grind (arith, nat_tests) in
    absurd (not_below ms 1 a e (let level : level_at ms x.header.segment ≡ level_at ms (a / 16) =
    ap (level_at ms) same in omega (arith, level, h)))

none_at : (ms : List ℕ) (ws : List HeaderCopy) (a : ℕ) → All (λ (w : HeaderCopy). HasFree ms w.header) ws →
    All (HasHeader ms) ws → lies_below ms 1 a ≡ true → list_any (is_at a) ws ≡ false
none_at ms [] a f h e = refl
none_at ms (x ∷ ws) a f h e =
    let F : HeaderCopy → Type 0 = λ w. HasFree ms w.header in
    let first = free_not ms x a _ (All-head F x ws f) (weaker ms a e) refl in
    let second = header_not ms x a _ (All-head (HasHeader ms) x ws h) e refl in
    let rest = none_at ms ws a (All-tail F x ws f) (All-tail (HasHeader ms) x ws h) e in
    rw (first, second, rest) refl

-- ---- the map

frame_by : (ms : List ℕ) (windows : List (Option ℕ)) (high : Bool) (a : ℕ) (b : Bool) → HasMap windows high ms →
    lies_below ms 1 a ≡ true → 0xE0000 ≤ a → a < 0xF0000 →
    (is_some (slice_index_or windows ((a - 0xE0000) / 0x4000) None) && not high) ≡ b → b ≡ true
frame_by ms windows high a true x e low up is = refl
frame_by ms windows high a false x e low up is =
    let same : (a / 16 - 0xE000) / 0x400 ≡ (a - 0xE0000) / 0x4000 = omega (arith, low) in
    let off : (is_some (slice_index_or windows ((a / 16 - 0xE000) / 0x400) None) && not high) ≡ false =
    ap (λ k. is_some (slice_index_or windows k None) && not high) same ∙ is in
    absurd (not_below ms 1 a e (x.frame (a / 16) (omega (arith, low)) (omega (arith, up)) off))

memory_by : (m : Memory) (ws : List HeaderCopy) (ms : List ℕ) (a : ℕ) (b c d f g h : Bool) →
    HasMap m.windows (list_any is_high ws) ms → lies_below ms 1 a ≡ true →
    nat_lt a 0xC0000 ≡ b → nat_lt a 0xD0000 ≡ c → nat_lt a 0xE0000 ≡ d → nat_lt a 0xF0000 ≡ f → nat_lt a 0x100000 ≡ g →
    nat_lt a 0x10FFF0 ≡ h →
    (if b then true else if c then false else if d then true else if f then
    is_some (slice_index_or m.windows ((a - 0xE0000) / 0x4000) None) && not (list_any is_high ws) else not g &&
    h) ≡ true
memory_by m ws ms a true c d f g h x e p q r s t u = refl
memory_by m ws ms a false true d f g h x e p q r s t u =
    let low : 0xC0000 ≤ a = grind (arith, nat_tests) in
    let up : a < 0xD0000 = grind (arith, nat_tests) in
    absurd (not_below ms 1 a e (x.gap (a / 16) (omega (arith, low)) (omega (arith, up))))
memory_by m ws ms a false false true f g h x e p q r s t u = refl
memory_by m ws ms a false false false true g h x e p q r s t u =
    let low : 0xE0000 ≤ a = grind (arith, nat_tests) in
    let up : a < 0xF0000 = grind (arith, nat_tests) in
    frame_by ms m.windows (list_any is_high ws) a _ x e low up refl
memory_by m ws ms a false false false false true h x e p q r s t u =
    let low : 0xF0000 ≤ a = grind (arith, nat_tests) in
    let up : a < 0x100000 = grind (arith, nat_tests) in
    absurd (not_below ms 1 a e (x.rom (a / 16) (omega (arith, low)) (omega (arith, up))))
memory_by m ws ms a false false false false false true x e p q r s t u = refl
memory_by m ws ms a false false false false false false x e p q r s t u =
    let low : 0x10FFF0 ≤ a = grind (arith, nat_tests) in
    absurd (not_below ms 1 a e (x.top (a / 16) (omega (arith, low))))

is_memory_at : (m : Memory) (ws : List HeaderCopy) (ms : List ℕ) (a : ℕ) → HasMap m.windows (list_any is_high ws) ms →
    lies_below ms 1 a ≡ true → keeps_writes m ws a ≡ true
is_memory_at m ws ms a x e = memory_by m ws ms a _ _ _ _ _ _ x e refl refl refl refl refl refl

-- ---- all marks

-- what is marked stays
pub map_kept : (windows : List (Option ℕ)) (high : Bool) (old new : List ℕ) → HasMap windows high old →
    Keeps 1 old new → HasMap windows high new
map_kept windows high old new x k = record {
  gap = λ p low up. k p (x.gap p low up);
  frame = λ p low up off. k p (x.frame p low up off);
  rom = λ p low up. k p (x.rom p low up);
  top = λ p low. k p (x.top p low);
}

pub headers_kept : (ws : List HeaderCopy) (old new : List ℕ) → All (HasHeader old) ws → Keeps 1 old new →
    All (HasHeader new) ws
headers_kept [] old new h k = All-nil (HasHeader new)
headers_kept (x ∷ ws) old new h k = All-cons (HasHeader new) x ws (k x.header.segment (All-head (HasHeader old) x ws h))
    (headers_kept ws old new (All-tail (HasHeader old) x ws h) k)

-- a window that shows no page is marked
abbrev pub HasWindow : List (Option ℕ) → Bool → ℕ → List ℕ → Type 0
HasWindow windows high k ms = (p : ℕ) → 0xE000 + 0x400 * k ≤ p → p < 0xE400 + 0x400 * k →
    (is_some (slice_index_or windows k None) && not high) ≡ false → 1 ≤ level_at ms p

in_window : (windows : List (Option ℕ)) (high : Bool) (k p : ℕ) (ms : List ℕ) → HasWindow windows high k ms →
    0xE000 + 0x400 * k ≤ p → p < 0xE400 + 0x400 * k → (is_some (slice_index_or windows ((p - 0xE000) / 0x400) None) &&
    not high) ≡ false → 1 ≤ level_at ms p
in_window windows high k p ms w low up off =
    let same : (p - 0xE000) / 0x400 ≡ k = omega (arith, low, up) in
    w p low up (sym (ap (λ n. is_some (slice_index_or windows n None) && not high) same) ∙ off)

pub map_made : (windows : List (Option ℕ)) (high : Bool) (m0 m1 m2 m3 m4 m5 m6 m7 : List ℕ) →
    Marked 0xC000 0xD000 1 m0 m1 → Keeps 1 m1 m2 → HasWindow windows high 0 m2 → Keeps 1 m2 m3 →
    HasWindow windows high 1 m3 → Keeps 1 m3 m4 → HasWindow windows high 2 m4 → Keeps 1 m4 m5 →
    HasWindow windows high 3 m5 → Marked 0xF000 0x10000 1 m5 m6 → Marked 0x10FFF 0x11000 1 m6 m7 →
    HasMap windows high m7
map_made windows high m0 m1 m2 m3 m4 m5 m6 m7 gap k2 w0 k3 w1 k4 w2 k5 w3 rom top =
    let k6 : Keeps 1 m5 m6 = marked_keeps 0xF000 0x10000 1 1 m5 m6 rom (omega arith) (omega arith) in
    let k7 : Keeps 1 m6 m7 = marked_keeps 0x10FFF 0x11000 1 1 m6 m7 top (omega arith) (omega arith) in
    let last : Keeps 1 m5 m7 = λ p h. k7 p (k6 p h) in
    record {
      gap = λ p low up. last p (k5 p (k4 p (k3 p (k2 p (marked_gives 0xC000 0xD000 1 1 p m0 m1 gap (omega arith)
          (omega arith) low up)))));
      frame = λ p low up off. elim (cases_lt p 0xE400) [
        | inl first ↦ last p (k5 p (k4 p (k3 p (in_window windows high 0 p m2 w0 (omega (arith, low)) (omega (
          arith,
          first,
        )) off))))
        | inr over ↦ elim (cases_lt p 0xE800) [
          | inl second ↦ last p (k5 p (k4 p (in_window windows high 1 p m3 w1 (omega (arith, over)) (omega (
            arith,
            second,
          )) off)))
          | inr higher ↦ elim (cases_lt p 0xEC00) [
            | inl third ↦ last p (k5 p (in_window windows high 2 p m4 w2 (omega (arith, higher)) (omega (
              arith,
              third,
            )) off))
            | inr highest ↦ last p (in_window windows high 3 p m5 w3 (omega (arith, highest)) (omega (arith, up)) off)
          ]
        ]
      ];
      rom = λ p low up. k7 p (marked_gives 0xF000 0x10000 1 1 p m5 m6 rom (omega arith) (omega arith) low up);
      top = λ p low. elim (cases_lt p 0x11000) [
        | inl up ↦ marked_gives 0x10FFF 0x11000 1 1 p m6 m7 top (omega arith) (omega arith) low up
        | inr over ↦ (let level : level_at m7 p ≡ 2 = beyond m7 p top.count over in omega (arith, level))
      ];
    }

-- a free block is marked, up to the end of memory
pub block_made : (b : Header) (end : ℕ) (old new : List ℕ) → Marked (b.segment + 1) end 2 old new →
    ((p : ℕ) → p < b.segment + 1 + b.size → p < 0x11000 → p < end) → HasFree new b
block_made b end old new x inside owner p low up = elim (cases_lt p 0x11000) [
  | inl under ↦ marked_gives (b.segment + 1) end 2 2 p old new x (omega arith) (omega arith) low (inside p up under)
  | inr over ↦ (let level : level_at new p ≡ 2 = beyond new p x.count over in omega (arith, level))
]

-- one more free block is marked
pub within_next : (old new : List ℕ) (xs : List HeaderCopy) (i : ℕ) (e : HeaderCopy) → i < length xs → Keeps 2 old new →
    AllWithin (λ (w : HeaderCopy). HasFree old w.header) xs 0 i → HasFree new (get_or xs i e).header →
    AllWithin (λ (w : HeaderCopy). HasFree new w.header) xs 0 (i + 1)
within_next old new xs i e less k h f n d low high = elim (cases_eq n i) [
  | inl same ↦ subst (λ (j : ℕ). HasFree new (get_or xs j d).header) (sym same)
      (subst (λ (w : HeaderCopy). HasFree new w.header) (get_or_default xs i e d less) f)
  | inr other ↦ λ owner p lo up. k p (h n d low (omega (arith, high, other)) owner p lo up)
]

pub all_marked : (windows : List (Option ℕ)) (ws : List HeaderCopy) (ms : List ℕ) →
    HasMap windows (list_any is_high ws) ms → All (HasHeader ms) ws → All (λ (w : HeaderCopy). HasFree ms w.header) ws →
    IsMarked windows ws ms
all_marked windows ws ms x h f = record {
  reads = λ a e. ap not (none_free ms ws a f e);
  writes = λ m same a e.
      let there : HasMap m.windows (list_any is_high ws) ms =
      subst (λ k. HasMap k (list_any is_high ws) ms) (sym same) x in
      let memory = is_memory_at m ws ms a there e in
      let none = none_at ms ws a f h e in
      rw (memory, none) refl;
}
