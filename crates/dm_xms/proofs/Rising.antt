-- Blocks that come, go and change their size at their place still rise.
use Rattle.std.proofs.Common.{◌≡◌, ℕ, zero, suc, ◌+◌, ◌-◌, ◌<◌, ◌≤◌, ◌⊎◌, inl, inr, true, false, List, [], ◌∷◌, Some, None, length, get_or, refl, sym, ap, ◌∙◌, subst, Bool, arith}
use Rattle.std.specs.Prelude.{if◌then◌else◌, count_by, insert, remove, position, slice_get, slice_set}
use Rattle.std.proofs.lemmas.Bool.{cases_lt, lt-ltb, le-ltb, eqb-true}
use Rattle.std.proofs.lemmas.List.Quantifiers.{position-Some}
use Rattle.std.proofs.lemmas.List.Sums.{sum_by-cons}
use Rattle.dm_pool.specs.declared.extent.Extent.{Extent}
use Rattle.dm_pool.specs.Gaps.{is_clear, lowest}
use Rattle.dm_pool.proofs.Blocks.{clear_apart}
use Rattle.dm_pool.proofs.Takes.{lowest_free}
use Rattle.dm_xms.specs.declared.tables.Upper.{Upper}
use Rattle.dm_xms.specs.inner.Tables.{Rise}
use Rattle.dm_xms.specs.Uppers.{is_below, begins_at, begin_or_end, inserted, extents_of}

rise_from : (from lower : ℕ) (us : List Upper) → lower ≤ from → Rise from us → Rise lower us
rise_from from lower [] h r = omega (arith, h, r)
rise_from from lower (u ∷ us) h r = (omega (arith, h, r.0), r.1, r.2)

-- ---- one goes

rise_remove : (from : ℕ) (us : List Upper) (k : ℕ) → Rise from us → Rise from (remove us k)
rise_remove from [] zero r = r
rise_remove from [] (suc k) r = r
rise_remove from (u ∷ us) zero r = rise_from (u.segment + u.paragraphs) from us (omega (arith, r.0)) r.2
rise_remove from (u ∷ us) (suc k) r = (r.0, r.1, rise_remove (u.segment + u.paragraphs) us k r.2)

-- ---- one comes

-- the blocks are apart from it
abbrev Apart : Upper → List Upper → Type 0
Apart u [] = Unit {0}
Apart u (v ∷ vs) = ((v.segment + v.paragraphs ≤ u.segment) ⊎ (u.segment + u.paragraphs ≤ v.segment)) × Apart u vs

below_more : (segment : ℕ) (u : Upper) (us : List Upper) (b : Bool) → is_below segment u ≡ b →
    count_by (is_below segment) (u ∷ us) ≡ (if b then 1 else 0) + count_by (is_below segment) us
below_more segment u us b e = sum_by-cons (λ (v : Upper). if is_below segment v then 1 else 0) u us
    ∙ ap (λ c. (if c then 1 else 0) + count_by (is_below segment) us) e

none_below : (from segment : ℕ) (us : List Upper) → segment ≤ from → Rise from us → count_by (is_below segment) us ≡ 0
none_below from segment [] h r = refl
none_below from segment (u ∷ us) h r =
    let more = below_more segment u us false (le-ltb u.segment segment (omega (arith, h, r.0))) in
    let rest = none_below (u.segment + u.paragraphs) segment us (omega (arith, h, r.0)) r.2 in
    omega (arith, more, rest)

rise_insert : (from : ℕ) (u : Upper) (us : List Upper) → from ≤ u.segment → 0 < u.paragraphs →
    u.segment + u.paragraphs ≤ 0xE000 → Apart u us → Rise from us →
    Rise from (insert us (count_by (is_below u.segment) us) u)
rise_insert from u [] h some top apart r = (h, some, top)
rise_insert from u (v ∷ vs) h some top apart r = elim (cases_lt v.segment u.segment) [
  | inl lt ↦
      let over : v.segment + v.paragraphs ≤ u.segment = elim apart.0 [
        | inl p ↦ p
        | inr p ↦
            absurd (omega (arith, p, lt))
      ] in
      let more = below_more u.segment v vs true (lt-ltb v.segment u.segment lt) in
      let count : count_by (is_below u.segment) (v ∷ vs) ≡ suc (count_by (is_below u.segment) vs) =
      omega (arith, more) in
      let rest = rise_insert (v.segment + v.paragraphs) u vs over some top apart.1 r.2 in
      let made : Rise from (insert (v ∷ vs) (suc (count_by (is_below u.segment) vs)) u) = (r.0, r.1, rest) in
      subst (λ k. Rise from (insert (v ∷ vs) k u)) (sym count) made
  | inr ge ↦
      let under : u.segment + u.paragraphs ≤ v.segment = elim apart.0 [
        | inl p ↦ absurd (omega (arith, p, ge, r.1))
        | inr p ↦ p
      ] in
      let count : count_by (is_below u.segment) (v ∷ vs) ≡ 0 = none_below v.segment u.segment (v ∷ vs) ge (
        omega arith,
        r.1,
        r.2,
      ) in
      let made : Rise from (insert (v ∷ vs) 0 u) = (h, some, (under, r.1, r.2)) in
      subst (λ k. Rise from (insert (v ∷ vs) k u)) (sym count) made
]

-- a run of paragraphs that each block is apart from
apart_of : (from : ℕ) (u : Upper) (us : List Upper) → 0xD000 ≤ from → 0xD000 ≤ u.segment → Rise from us
    → ((i : ℕ) (b : Extent) → get_or (extents_of us) i None ≡ Some b → (b.base + b.units ≤ u.segment - 0xD000) ⊎
    (u.segment - 0xD000 + u.paragraphs ≤ b.base)) → Apart u us
apart_of from u [] d e r each = tt
apart_of from u (v ∷ vs) d e r each =
    let here : (v.segment + v.paragraphs ≤ u.segment) ⊎ (u.segment + u.paragraphs ≤ v.segment) =
    elim (each 0 (record { base = v.segment - 0xD000; units = v.paragraphs }) refl) [
      | inl p ↦
          inl (omega (arith, p, d, e, r.0))
      | inr p ↦ inr (omega (arith, p, d, e, r.0))
    ]
    in
    (here, apart_of (v.segment + v.paragraphs) u vs (omega (arith, d, r.0)) e r.2 (λ i b h. each (suc i) b h))

-- a new block in the lowest gap
pub rise_new : (us : List Upper) (n p : ℕ) → 0 < n → Rise 0xD000 us → lowest (extents_of us) 0x1000 n ≡ Some p →
    Rise 0xD000 (inserted (record { segment = 0xD000 + p; paragraphs = n }) us)
rise_new us n p some r e =
    let u : Upper = record { segment = 0xD000 + p; paragraphs = n } in
    let found = lowest_free (extents_of us) 0x1000 n p e in
    let back : u.segment - 0xD000 ≡ p = omega arith in
    let free : is_clear (extents_of us) (u.segment - 0xD000) n ≡ true =
    subst (λ z. is_clear (extents_of us) z n ≡ true) (sym back) found.1 in
    rise_insert 0xD000 u us (omega arith) some (omega (arith, found.0)) (apart_of 0xD000 u us (omega arith)
    (omega arith) r (clear_apart (extents_of us) (u.segment - 0xD000) n free)) r

-- ---- one gets another size

abbrev nowhere : Upper
nowhere = record { segment = 0; paragraphs = 0 }

-- a block ends where the next one begins, or before that
room_there : (from : ℕ) (us : List Upper) (k : ℕ) → k < length us → Rise from us →
    (get_or us k nowhere).segment + (get_or us k nowhere).paragraphs ≤ begin_or_end (slice_get us (suc k))
room_there from [] k h r = absurd (omega (arith, h))
room_there from (u ∷ []) zero h r = r.2
room_there from (u ∷ v ∷ us) zero h r = r.2.0
room_there from (u ∷ us) (suc k) h r = room_there (u.segment + u.paragraphs) us k (omega (arith, h)) r.2

rise_resize : (from : ℕ) (us : List Upper) (k segment n : ℕ) → k < length us → 0 < n →
    (get_or us k nowhere).segment ≡ segment → segment + n ≤ begin_or_end (slice_get us (suc k)) → Rise from us →
    Rise from (slice_set us k (record { segment = segment; paragraphs = n }))
rise_resize from [] k segment n h some e room r = absurd (omega (arith, h))
rise_resize from (u ∷ []) zero segment n h some e room r = (omega (arith, e, r.0), some, room)
rise_resize from (u ∷ v ∷ us) zero segment n h some e room r = (omega (arith, e, r.0), some, (room, r.2.1, r.2.2))
rise_resize from (u ∷ us) (suc k) segment n h some e room r =
    (r.0, r.1, rise_resize (u.segment + u.paragraphs) us k segment n (omega (arith, h)) some e room r.2)

-- the block that begins at a segment
begins : (us : List Upper) (segment k : ℕ) → position (begins_at segment) us ≡ Some k → (k < length us) ×
    ((get_or us k nowhere).segment ≡ segment)
begins us segment k e =
    let x = position-Some (begins_at segment) us k nowhere e in
    (x.0, eqb-true (get_or us k nowhere).segment segment x.1)

pub room_behind : (us : List Upper) (segment k : ℕ) → Rise 0xD000 us → position (begins_at segment) us ≡ Some k →
    segment ≤ begin_or_end (slice_get us (k + 1))
room_behind us segment k r e =
    let x = begins us segment k e in
    let next : suc k ≡ k + 1 = omega arith in
    subst (λ j. segment ≤ begin_or_end (slice_get us j)) next (omega (arith, room_there 0xD000 us k x.0 r, x.1))

pub rise_sized : (us : List Upper) (segment k n : ℕ) → Rise 0xD000 us → position (begins_at segment) us ≡ Some k →
    0 < n → n ≤ begin_or_end (slice_get us (k + 1)) - segment →
    Rise 0xD000 (slice_set us k (record { segment = segment; paragraphs = n }))
rise_sized us segment k n r e some h =
    let x = begins us segment k e in
    let next : k + 1 ≡ suc k = omega arith in
    let room : segment + n ≤ begin_or_end (slice_get us (k + 1)) = omega (arith, h, room_behind us segment k r e) in
    rise_resize 0xD000 us k segment n x.0 some x.1 (subst (λ j. segment + n ≤ begin_or_end (slice_get us j)) next room)
    r

pub rise_gone : (us : List Upper) (k : ℕ) → Rise 0xD000 us → Rise 0xD000 (remove us k)
rise_gone us k r = rise_remove 0xD000 us k r
