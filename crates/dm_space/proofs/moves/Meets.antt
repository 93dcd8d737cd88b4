-- Spans met stretch by stretch.
use Rattle.std.proofs.Common.{◌≡◌, ℕ, ◌+◌, ◌-◌, ◌%◌, ◌<◌, ◌≤◌, true, false, sym, ◌∙◌, ap, arith, inl, inr}
use Rattle.std.proofs.lemmas.Bool.{cases_lt}
use Rattle.dm_space.specs.declared.place.Place.{Place}
use Rattle.std.specs.Prelude.{◌==◌, ◌&&◌}
use Rattle.dm_space.specs.declared.place.Place.TheVariants.{Page}
use Rattle.dm_space.specs.Memory.{Memory}
use Rattle.dm_space.specs.inner.SideBySide.{shift}
use Rattle.dm_space.specs.moves.Spans.{Span, place_in, IsInside}
use Rattle.dm_space.specs.moves.Overlaps.{is_shared, any_two, overlap}
use Rattle.dm_space.proofs.moves.Some.{two-true, two-none, none-two, two-found}
use Rattle.dm_space.proofs.moves.Inside.{place-in-stretch}

-- places of two kinds
pub never : (p q s t : Place) (n l : ℕ) → p ≡ s → q ≡ t → ((i j : ℕ) → is_shared (shift s i) (shift t j) ≡ false) →
    false ≡ any_two n l (λ i j. is_shared (shift p i) (shift q j))
never p q s t n l e f h = sym (two-none n l (λ i j. is_shared (shift p i) (shift q j))
    (λ i j _ _. ap (λ x. is_shared (shift x i) (shift q j)) e ∙ ap (λ x. is_shared (shift s i) (shift x j)) f ∙ h i j))

pub other_page : (p k q l : ℕ) → (p == q) ≡ false → (i j : ℕ) → is_shared (shift (Page p k) i) (shift (Page q l) j)
    ≡ false
other_page p k q l e i j = ap (λ b. b && (k + i == l + j)) e

-- ---- a stretch of places, and the first bytes of a span

pub record IsStretchApart (m : Memory) (p : Place) (r : Span) (n done : ℕ) : Type 0 where
  pub none : (i j : ℕ) → i < n → j < done → is_shared (shift p i) (place_in m r j) ≡ false

module _ (m : Memory) (p : Place) (r : Span) (n done count : ℕ) (inside : IsInside m r (done + count))
    (cell : (r.start + done) % 0x4000 + count ≤ 0x4000) where
  pub stretch-apart : any_two n count (λ i j. is_shared (shift p i) (shift (place_in m r done) j)) ≡ false →
      IsStretchApart m p r n done → IsStretchApart m p r n (done + count)
  stretch-apart e a = record {
    none = λ i j h g. elim (cases_lt j done) [
      | inl low ↦ a.none i j h low
      | inr high ↦
          let k = j - done in let small : k < count = omega arith in let back : j ≡ done + k = omega arith in
          ap (λ q. is_shared (shift p i) q) (ap (λ x. place_in m r x) back
          ∙ place-in-stretch m r done count k inside cell small)
          ∙ none-two n count (λ x y. is_shared (shift p x) (shift (place_in m r done) y)) i k e h small
    ];
  }

  pub stretch-shared : (len : ℕ) → done + count ≤ len →
      any_two n count (λ i j. is_shared (shift p i) (shift (place_in m r done) j)) ≡ true →
      any_two n len (λ i j. is_shared (shift p i) (place_in m r j)) ≡ true
  stretch-shared len le e =
      let f = two-found n count (λ x y. is_shared (shift p x) (shift (place_in m r done) y)) e in
      two-true n len (λ i j. is_shared (shift p i) (place_in m r j)) f.0 (done + f.1) f.2 (omega (arith, f.3, le))
      (ap (λ q. is_shared (shift p f.0) q) (place-in-stretch m r done count f.1 inside cell f.3) ∙ f.4)

pub stretch-all : (m : Memory) (p : Place) (r : Span) (n done len : ℕ) → len ≤ done → IsStretchApart m p r n done →
    any_two n len (λ i j. is_shared (shift p i) (place_in m r j)) ≡ false
stretch-all m p r n done len le a = two-none n len (λ i j. is_shared (shift p i) (place_in m r j))
    (λ i j h g. a.none i j h (omega (arith, g, le)))

-- ---- two spans

pub record AreApart (m : Memory) (from to : Span) (done len : ℕ) : Type 0 where
  pub none : (i j : ℕ) → i < done → j < len → is_shared (place_in m from i) (place_in m to j) ≡ false

module _ (m : Memory) (from to : Span) (done count len : ℕ) (inside : IsInside m from (done + count))
    (cell : (from.start + done) % 0x4000 + count ≤ 0x4000) where
  pub spans-apart : any_two count len (λ i j. is_shared (shift (place_in m from done) i) (place_in m to j)) ≡ false →
      AreApart m from to done len → AreApart m from to (done + count) len
  spans-apart e a = record {
    none = λ i j h g. elim (cases_lt i done) [
      | inl low ↦ a.none i j low g
      | inr high ↦
          let k = i - done in let small : k < count = omega arith in let back : i ≡ done + k = omega arith in
          ap (λ q. is_shared q (place_in m to j)) (ap (λ x. place_in m from x) back
          ∙ place-in-stretch m from done count k inside cell small)
          ∙ none-two count len (λ x y. is_shared (shift (place_in m from done) x) (place_in m to y)) k j e small g
    ];
  }

  pub spans-shared : done + count ≤ len → any_two count len (λ i j. is_shared (shift (place_in m from done) i)
      (place_in m to j)) ≡ true → overlap m from to len ≡ true
  unfolding overlap
  spans-shared le e =
      let f = two-found count len (λ x y. is_shared (shift (place_in m from done) x) (place_in m to y)) e in
      two-true len len (λ i j. is_shared (place_in m from i) (place_in m to j)) (done + f.0) f.1 (omega (
        arith,
        f.2,
        le,
      )) f.3
      (ap (λ q. is_shared q (place_in m to f.1)) (place-in-stretch m from done count f.0 inside cell f.2) ∙ f.4)

pub spans-all : (m : Memory) (from to : Span) (done len : ℕ) → len ≤ done → AreApart m from to done len →
    overlap m from to len ≡ false
unfolding overlap
spans-all m from to done len le a = two-none len len (λ i j. is_shared (place_in m from i) (place_in m to j))
    (λ i j h g. a.none i j (omega (arith, h, le)) g)
