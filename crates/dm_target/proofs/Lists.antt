-- Lists.
use Rattle.std.proofs.Common.{◌≡◌, ℕ, suc, zero, ◌+◌, ◌<◌, ◌≤◌, Bool, true, false, List, [], ◌∷◌, ◌++◌, length, take, drop, get_or, Some, None, refl, sym, ◌∙◌, ap, append-nil, append_assoc, add-one, arith}
use Rattle.std.specs.Prelude.{◌==◌}
use Rattle.std.specs.List.{find, flat_map}
use Rattle.std.proofs.lemmas.Bool.{eqb-true}
use Rattle.std.proofs.lemmas.List.{take_more, take_all}
use Rattle.std.proofs.lemmas.Grind.{flat_map-append}

-- a list whose length is 0
pub nothing_in : {X : Type 0} → (xs : List X) (r : Bool) → r ≡ (length xs == 0) → r ≡ true → xs ≡ []
nothing_in [] r e h = refl
nothing_in (x ∷ xs) r e h = let zero_length = eqb-true (length (x ∷ xs)) 0 (sym e ∙ h) in
    absurd (omega (arith, zero_length))

-- what is made of each element of a list, one more of them
pub each_more : {X : Type 0} → (f : X → List ℕ) (old out new : List ℕ) (ws : List X) (i : ℕ) (d : X) → i < length ws →
    out ≡ old ++ flat_map f (take i ws) → new ≡ out ++ f (get_or ws i d)
    → new ≡ old ++ flat_map f (take (i + 1) ws)
each_more {X} f old out new ws i d less before put =
    let front = take i ws in
    let w = get_or ws i d in
    let found : flat_map f (take (i + 1) ws) ≡ flat_map f front ++ f w =
    ap (λ (x : List X). flat_map f x) (take_more ws i d less) ∙ flat_map-append f front (w ∷ [])
    ∙ ap (λ (x : List ℕ). flat_map f front ++ x) (append-nil (f w)) in
    put ∙ ap (λ (x : List ℕ). x ++ f w) before ∙ append_assoc old (flat_map f front) (f w)
    ∙ ap (λ (x : List ℕ). old ++ x) (sym found)

pub each_all : {X : Type 0} → (f : X → List ℕ) (old out : List ℕ) (ws : List X) (n : ℕ) → length ws ≤ n → out ≡ old
    ++ flat_map f (take n ws) → out ≡ old ++ flat_map f ws
each_all {X} f old out ws n all is = is ∙ ap (λ (x : List X). old ++ flat_map f x) (take_all n ws all)

-- the first that passes a test, among the elements from a place on
pub found_here : {X : Type 0} → (p : X → Bool) (ws : List X) (i : ℕ) (d : X) → i < length ws →
    p (get_or ws i d) ≡ true → find p (drop i ws) ≡ Some (get_or ws i d)
found_here p [] i d less e = absurd (omega (arith, less))
found_here p (w ∷ ws) zero d less e = rw e refl
found_here p (w ∷ ws) (suc i) d less e = found_here p ws i d (omega (arith, less)) e

found_behind : {X : Type 0} → (p : X → Bool) (ws : List X) (i : ℕ) (d : X) → i < length ws → p (get_or ws i d) ≡ false →
    find p (drop (suc i) ws) ≡ find p (drop i ws)
found_behind p [] i d less e = absurd (omega (arith, less))
found_behind p (w ∷ ws) zero d less e = rw e refl
found_behind p (w ∷ ws) (suc i) d less e = found_behind p ws i d (omega (arith, less)) e

pub found_later : {X : Type 0} → (p : X → Bool) (ws : List X) (i : ℕ) (d : X) → i < length ws →
    p (get_or ws i d) ≡ false → find p (drop (i + 1) ws) ≡ find p (drop i ws)
found_later p ws i d less e = (let more : i + 1 ≡ suc i = add-one i in ap (λ n. find p (drop n ws)) more
    ∙ found_behind p ws i d less e)

pub found_none : {X : Type 0} → (p : X → Bool) (ws : List X) (i : ℕ) → length ws ≤ i → find p (drop i ws) ≡ None
found_none p [] zero all = refl
found_none p [] (suc i) all = refl
found_none p (w ∷ ws) zero all = absurd (omega (arith, all))
found_none p (w ∷ ws) (suc i) all = found_none p ws i (omega (arith, all))
