-- Bytes that may be touched: nothing is found of them.
use Rattle.std.proofs.Common.{◌≡◌, ℕ, ◌+◌, ◌-◌, ◌*◌, ◌/◌, ◌<◌, ◌≤◌, Bool, true, false, not, nat_lt, List, [], ◌∷◌, ◌++◌, map, Option, Some, None, refl, sym, ◌∙◌, ap, ap₂, arith}
use Rattle.std.specs.Prelude.{◌==◌, ◌&&◌, ◌||◌, if◌then◌else◌, is_some, slice_index_or}
use Rattle.std.specs.List.{flat_map, list_any}
use Rattle.std.proofs.lemmas.Bool.{false≢true}
use Rattle.std.proofs.lemmas.Bool.Decides.{nat_tests}
use Rattle.dm_space.specs.Memory.{Memory}
use Rattle.dm_blocks.specs.declared.header.Header.{Header}
use Rattle.dm_findings.specs.declared.finding.Finding.{Finding}
use Rattle.dm_touches.specs.declared.elements.FarAddress.{FarAddress}
use Rattle.dm_touches.specs.Elements.{far, linear_of, bytes_if, bytes_of}
use Rattle.dm_touches.specs.Found.{is_between, first_that, if_some, is_in_free, is_in_tail, free_read, free_written, tail_written, of_header, window_lost, rom_written, nothing_written, of_places}
use Rattle.dm_checker.specs.declared.arena_copy.HeaderCopy.{HeaderCopy}
use Rattle.dm_checker.specs.ArenaCopy.{header_of}
use Rattle.dm_cpu.specs.Guest.{up}
use Rattle.dm_touches.specs.declared.elements.Element.{Element}
use Rattle.dm_touches.specs.declared.elements.Element.TheVariants as element
use Rattle.dm_touches.specs.declared.elements.Elements.{Elements}
use Rattle.dm_findings.specs.declared.finding.Finding.TheVariants.{RomWritten, NothingWritten}
use Rattle.dm_touches.specs.quiet.Marks.{satisfies, satisfy}
use Rattle.dm_checker.specs.Unfound.{is_free_of, is_at, is_high, keeps_writes, is_write_unfound}

-- ---- tests

pub and_left : (a b : Bool) → (a && b) ≡ true → a ≡ true
and_left true b e = refl
and_left false b e = absurd (false≢true e)

pub and_right : (a b : Bool) → (a && b) ≡ true → b ≡ true
and_right true b e = e
and_right false b e = absurd (false≢true e)

pub and_both : (a b : Bool) → a ≡ true → b ≡ true → (a && b) ≡ true
and_both a b e f = rw (e, f) refl

pub not_false : (a : Bool) → not a ≡ true → a ≡ false
not_false true e = absurd (false≢true e)
not_false false e = refl

neither : (a b : Bool) → not (a || b) ≡ true → (not a ≡ true) × (not b ≡ true)
neither true b e = absurd (false≢true e)
neither false b e = (refl, e)

-- ---- tests of all bytes

-- whether the linear addresses of all these bytes satisfy the test
abbrev pub are_all : (ℕ → Bool) → Bool → List FarAddress → Bool
are_all is a20 [] = true
are_all is a20 (f ∷ fs) = is (linear_of a20 f) && are_all is a20 fs

all_append : (is : ℕ → Bool) (a20 : Bool) (fs gs : List FarAddress) → are_all is a20 fs ≡ true →
    are_all is a20 gs ≡ true → are_all is a20 (fs ++ gs) ≡ true
all_append is a20 [] gs e h = h
all_append is a20 (f ∷ fs) gs e h = and_both (is (linear_of a20 f)) (are_all is a20 (fs
    ++ gs)) (and_left (is (linear_of a20 f)) (are_all is a20 fs) e) (all_append is a20 fs gs
    (and_right (is (linear_of a20 f)) (are_all is a20 fs) e) h)

element_all : (is : ℕ → Bool) (a20 : Bool) (o : Option Element) → satisfies is a20 o ≡ true →
    are_all is a20 (bytes_if o) ≡ true
element_all is a20 None e = refl
element_all is a20 (Some (element.Byte s o)) e = and_both (is (linear_of a20 (far s o))) true e refl
element_all is a20 (Some (element.Word s o)) e =
    let first = is (linear_of a20 (far s o)) in
    let second = is (linear_of a20 (far s (up o 1))) in
    and_both first (second && true) (and_left first second e) (and_both second true (and_right first second e) refl)

pub element_more : (p q : ℕ → Bool) → ((a : ℕ) → p a ≡ true → q a ≡ true) → (a20 : Bool) (o : Option Element) →
    satisfies p a20 o ≡ true → satisfies q a20 o ≡ true
element_more p q h a20 None t = refl
element_more p q h a20 (Some (element.Byte s o)) t = h _ t
element_more p q h a20 (Some (element.Word s o)) t =
    let first = linear_of a20 (far s o) in
    let second = linear_of a20 (far s (up o 1)) in
    and_both (q first) (q second) (h first (and_left (p first) (p second) t))
    (h second (and_right (p first) (p second) t))

pub elements_all : (is : ℕ → Bool) (a20 : Bool) (e : Elements) → satisfy is a20 e ≡ true →
    are_all is a20 (bytes_of e) ≡ true
elements_all is a20 e t =
    let a = satisfies is a20 e.first in
    let b = satisfies is a20 e.second in
    let c = satisfies is a20 e.third in
    let both = and_left (a && b) c t in
    all_append is a20 (bytes_if e.first ++ bytes_if e.second) (bytes_if e.third)
    (all_append is a20 (bytes_if e.first) (bytes_if e.second) (element_all is a20 e.first (and_left a b both))
    (element_all is a20 e.second (and_right a b both)))
    (element_all is a20 e.third (and_right (a && b) c t))

all_weaker : (p q : ℕ → Bool) → ((a : ℕ) → p a ≡ true → q a ≡ true) → (a20 : Bool) (fs : List FarAddress) →
    are_all p a20 fs ≡ true → are_all q a20 fs ≡ true
all_weaker p q w a20 [] e = refl
all_weaker p q w a20 (f ∷ fs) e = and_both (q (linear_of a20 f)) (are_all q a20 fs)
    (w (linear_of a20 f) (and_left (p (linear_of a20 f)) (are_all p a20 fs) e)) (all_weaker p q w a20 fs
    (and_right (p (linear_of a20 f)) (are_all p a20 fs) e))

-- no byte satisfies a test that each fails
none_that : (is : ℕ → Bool) (a20 : Bool) (fs : List FarAddress) → are_all (λ a. not (is a)) a20 fs ≡ true →
    first_that a20 is fs ≡ None
none_that is a20 [] e = refl
none_that is a20 (f ∷ fs) e =
    let off : is (linear_of a20 f) ≡ false = not_false (is (linear_of a20 f)) (and_left (not (is (linear_of a20 f)))
    (are_all (λ a. not (is a)) a20 fs) e) in
    rw off (none_that is a20 fs (and_right (not (is (linear_of a20 f))) (are_all (λ a. not (is a)) a20 fs) e))

none_of : (finding : FarAddress → Finding) (o : Option FarAddress) → o ≡ None → if_some finding o ≡ []
none_of finding o e = ap (if_some finding) e

-- ---- at a block

apart_test : (h a : ℕ) → (h == a / 16) ≡ false → is_between (16 * h + 5) (16 * h + 16) a ≡ false
apart_test h a e = grind (arith, nat_tests)

tail_apart : (b : Header) (a : ℕ) → not (b.segment == a / 16) ≡ true → not (is_in_tail b a) ≡ true
tail_apart b a e = ap not (apart_test b.segment a (not_false (b.segment == a / 16) e))

header_unfound : (a20 : Bool) (rs ws : List FarAddress) (x : HeaderCopy) → are_all (λ a. not (is_free_of a x)) a20 rs
    ≡ true → are_all (λ a. not (is_at a x)) a20 ws ≡ true → of_header a20 rs ws x.header ≡ []
header_unfound a20 rs ws x r w =
    let free = all_weaker (λ a. not (is_at a x)) (λ a. not (is_in_free x.header a))
    (λ a e. (neither (is_free_of a x) (x.header.segment == a / 16) e).0) a20 ws w in
    let tail = all_weaker (λ a. not (is_at a x)) (λ a. not (is_in_tail x.header a))
    (λ a e. tail_apart x.header a (neither (is_free_of a x) (x.header.segment == a / 16) e).1) a20 ws w in
    let first : free_read a20 rs x.header ≡ [] = none_of _ _ (none_that (is_in_free x.header) a20 rs r) in
    let second : free_written a20 ws x.header ≡ [] = none_of _ _ (none_that (is_in_free x.header) a20 ws free) in
    let third : tail_written a20 ws x.header ≡ [] = none_of _ _ (none_that (is_in_tail x.header) a20 ws tail) in
    ap₂ (λ (l m : List Finding). l ++ m) (ap₂ (λ (l m : List Finding). l ++ m) first second) third

pub headers_unfound : (a20 : Bool) (rs ws : List FarAddress) (xs : List HeaderCopy) →
    are_all (λ a. not (list_any (is_free_of a) xs)) a20 rs ≡ true → are_all (λ a. not (list_any (is_at a) xs)) a20 ws
    ≡ true → flat_map (of_header a20 rs ws) (map header_of xs) ≡ []
headers_unfound a20 rs ws [] r w = refl
headers_unfound a20 rs ws (x ∷ xs) r w =
    let here = header_unfound a20 rs ws x
    (all_weaker _ (λ a. not (is_free_of a x)) (λ a e. (neither (is_free_of a x) (list_any (is_free_of a) xs) e).0) a20
    rs r)
    (all_weaker _ (λ a. not (is_at a x)) (λ a e. (neither (is_at a x) (list_any (is_at a) xs) e).0) a20 ws w) in
    let rest = headers_unfound a20 rs ws xs
    (all_weaker _ (λ a. not (list_any (is_free_of a) xs)) (λ a e. (neither (is_free_of a x)
    (list_any (is_free_of a) xs) e).1) a20 rs r)
    (all_weaker _ (λ a. not (list_any (is_at a) xs)) (λ a e. (neither (is_at a x) (list_any (is_at a) xs) e).1) a20 ws
    w) in
    ap₂ (λ (l m : List Finding). l ++ m) here rest

-- ---- by the map

-- what a test of memory says of the ranges that are looked at
abbrev IsOther : ℕ → Type 0
IsOther a = (not (is_between 0xF0000 0x100000 a) ≡ true) × (not (is_between 0xC0000 0xD0000 a) ≡ true)

other_by : (a : ℕ) (b c d f g h w : Bool) → nat_lt a 0xC0000 ≡ b → nat_lt a 0xD0000 ≡ c → nat_lt a 0xE0000 ≡ d →
    nat_lt a 0xF0000 ≡ f → nat_lt a 0x100000 ≡ g → nat_lt a 0x10FFF0 ≡ h → (if b then true else if c then false else
    if d then true else if f then w else not g && h) ≡ true → IsOther a
other_by a true c d f g h w p q r s t u e = (grind (arith, nat_tests), grind (arith, nat_tests))
other_by a false true d f g h w p q r s t u e = absurd (false≢true e)
other_by a false false true f g h w p q r s t u e = (grind (arith, nat_tests), grind (arith, nat_tests))
other_by a false false false true g h w p q r s t u e = (grind (arith, nat_tests), grind (arith, nat_tests))
other_by a false false false false true h w p q r s t u e = absurd (false≢true e)
other_by a false false false false false h w p q r s t u e = (grind (arith, nat_tests), grind (arith, nat_tests))

memory_tests : (m : Memory) (xs : List HeaderCopy) (a : ℕ) → keeps_writes m xs a ≡ true → IsOther a
memory_tests m xs a e = other_by a _ _ _ _ _ _ _ refl refl refl refl refl refl e

-- a byte of a window that shows no page is no memory
abbrev IsOut : ℕ → ℕ → Type 0
IsOut k a = not (is_between (0xE0000 + 0x4000 * k) (0xE0000 + 0x4000 * k + 0x4000) a) ≡ true

window_of_range : (k a : ℕ) → k < 4 → is_between (0xE0000 + 0x4000 * k) (0xE0000 + 0x4000 * k + 0x4000) a ≡ true →
    (a - 0xE0000) / 0x4000 ≡ k
window_of_range k a small t =
    let low : nat_lt a (0xE0000 + 0x4000 * k) ≡ false = not_false (nat_lt a (0xE0000 + 0x4000 * k))
    (and_left (not (nat_lt a (0xE0000 + 0x4000 * k))) (nat_lt a (0xE0000 + 0x4000 * k + 0x4000)) t) in
    let high : nat_lt a (0xE0000 + 0x4000 * k + 0x4000) ≡ true =
    and_right (not (nat_lt a (0xE0000 + 0x4000 * k))) (nat_lt a (0xE0000 + 0x4000 * k + 0x4000)) t in
    let least : 0xE0000 + 0x4000 * k ≤ a = grind (arith, nat_tests) in
    let less : a < 0xE4000 + 0x4000 * k = grind (arith, nat_tests) in
    omega (arith, least, less)

in_window : (m : Memory) (xs : List HeaderCopy) (k a : ℕ) (b : Bool) → k < 4 → slice_index_or m.windows k None ≡ None →
    is_between (0xE0000 + 0x4000 * k) (0xE0000 + 0x4000 * k + 0x4000) a ≡ b →
    (is_some (slice_index_or m.windows ((a - 0xE0000) / 0x4000) None) && not (list_any is_high xs)) ≡ true →
    not b ≡ true
in_window m xs k a false small none t e = refl
in_window m xs k a true small none t e =
    let same : (a - 0xE0000) / 0x4000 ≡ k = window_of_range k a small t in
    let hidden : is_some (slice_index_or m.windows ((a - 0xE0000) / 0x4000) None) ≡ false =
    ap (λ (n : ℕ). is_some (slice_index_or m.windows n None)) same ∙ ap is_some none in
    absurd (false≢true (sym hidden ∙ and_left _ _ e))

out_by : (m : Memory) (xs : List HeaderCopy) (k a : ℕ) (b c d f g h : Bool) → k < 4 →
    slice_index_or m.windows k None ≡ None → nat_lt a 0xC0000 ≡ b → nat_lt a 0xD0000 ≡ c → nat_lt a 0xE0000 ≡ d →
    nat_lt a 0xF0000 ≡ f → nat_lt a 0x100000 ≡ g → nat_lt a 0x10FFF0 ≡ h → (if b then true else if c then false else
    if d then true else if f then is_some (slice_index_or m.windows ((a - 0xE0000) / 0x4000) None) &&
    not (list_any is_high xs) else not g && h) ≡ true → IsOut k a
out_by m xs k a true c d f g h small none p q r s t u e = grind (arith, nat_tests)
out_by m xs k a false true d f g h small none p q r s t u e = absurd (false≢true e)
out_by m xs k a false false true f g h small none p q r s t u e = grind (arith, nat_tests)
out_by m xs k a false false false true g h small none p q r s t u e = in_window m xs k a _ small none refl e
out_by m xs k a false false false false g h small none p q r s t u e = grind (arith, nat_tests)

window_test : (m : Memory) (xs : List HeaderCopy) (k a : ℕ) → k < 4 → slice_index_or m.windows k None ≡ None →
    keeps_writes m xs a ≡ true → IsOut k a
window_test m xs k a small none e = out_by m xs k a _ _ _ _ _ _ small none refl refl refl refl refl refl e

window_by : (m : Memory) (xs : List HeaderCopy) (ws : List FarAddress) (k : ℕ) (o : Option ℕ) → k < 4 →
    are_all (keeps_writes m xs) m.a20 ws ≡ true → slice_index_or m.windows k None ≡ o → window_lost m ws k ≡ []
window_by m xs ws k (Some page) small e is = rw is refl
window_by m xs ws k None small e is =
    let gone : first_that m.a20 (is_between (0xE0000 + 0x4000 * k) (0xE0000 + 0x4000 * k + 0x4000)) ws ≡ None =
    none_that (is_between (0xE0000 + 0x4000 * k) (0xE0000 + 0x4000 * k + 0x4000)) m.a20 ws
    (all_weaker (keeps_writes m xs) _ (λ a t. window_test m xs k a small is t) m.a20 ws e) in
    rw (is, gone) refl

window_unfound : (m : Memory) (xs : List HeaderCopy) (ws : List FarAddress) (k : ℕ) → k < 4 →
    are_all (keeps_writes m xs) m.a20 ws ≡ true → window_lost m ws k ≡ []
window_unfound m xs ws k small e = window_by m xs ws k _ small e refl

pub places_unfound : (m : Memory) (xs : List HeaderCopy) (ws : List FarAddress) → are_all (keeps_writes m xs) m.a20 ws
    ≡ true → of_places m ws ≡ []
places_unfound m xs ws e =
    let rom : rom_written m.a20 ws ≡ [] = none_of (λ (f : FarAddress). RomWritten f.segment f.offset) _
    (none_that (is_between 0xF0000 0x100000) m.a20 ws (all_weaker (keeps_writes m xs) _
    (λ a t. (memory_tests m xs a t).0) m.a20 ws e)) in
    let nothing : nothing_written m.a20 ws ≡ [] = none_of (λ (f : FarAddress). NothingWritten f.segment f.offset) _
    (none_that (is_between 0xC0000 0xD0000) m.a20 ws (all_weaker (keeps_writes m xs) _
    (λ a t. (memory_tests m xs a t).1) m.a20 ws e)) in
    let w0 = window_unfound m xs ws 0 (omega arith) e in
    let w1 = window_unfound m xs ws 1 (omega arith) e in
    let w2 = window_unfound m xs ws 2 (omega arith) e in
    let w3 = window_unfound m xs ws 3 (omega arith) e in
    rw (w0, w1, w2, w3, rom, nothing) refl

-- ---- what a write of which nothing is found says

pub memory_of : (m : Memory) (xs : List HeaderCopy) (a20 : Bool) (ws : List FarAddress) →
    are_all (is_write_unfound m xs) a20 ws ≡ true → are_all (keeps_writes m xs) a20 ws ≡ true
memory_of m xs a20 ws e = all_weaker (is_write_unfound m xs) (keeps_writes m xs)
    (λ a t. and_left (keeps_writes m xs a) _ t) a20 ws e

pub apart_of : (m : Memory) (xs : List HeaderCopy) (a20 : Bool) (ws : List FarAddress) →
    are_all (is_write_unfound m xs) a20 ws ≡ true → are_all (λ a. not (list_any (is_at a) xs)) a20 ws ≡ true
apart_of m xs a20 ws e = all_weaker (is_write_unfound m xs) _ (λ a t. and_right (keeps_writes m xs a) _ t) a20 ws e
