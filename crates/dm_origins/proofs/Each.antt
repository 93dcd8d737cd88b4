-- Lists whose elements are changed by their index.
use Rattle.std.proofs.Common.{◌≡◌, ℕ, zero, suc, ◌+◌, ◌<◌, ◌≤◌, inl, inr, List, [], ◌∷◌, length, get_or, refl, sym, ◌∙◌, ap, subst, arith}
use Rattle.std.proofs.Math.ListN.{set}
use Rattle.std.proofs.lemmas.Bool.{cases_eq}
use Rattle.std.proofs.lemmas.List.{ext_get_or, get_or-set_same, get_or-set_other}
use Rattle.dm_origins.specs.Origins.{each_from}

pub length_each : {A : Type 0} (f : ℕ → A → A) (i : ℕ) (xs : List A) → length (each_from f i xs) ≡ length xs
unfolding each_from
length_each f i [] = refl
length_each f i (x ∷ xs) = ap suc (length_each f (i + 1) xs)

get_each : {A : Type 0} (f : ℕ → A → A) (i : ℕ) (xs : List A) (k : ℕ) (d : A) → k < length xs →
    get_or (each_from f i xs) k d ≡ f (i + k) (get_or xs k d)
unfolding each_from
get_each f i [] k d less = absurd (omega arith)
get_each f i (x ∷ xs) zero d less = (let place : i ≡ i + 0 = omega arith in ap (λ (n : ℕ). f n x) place)
get_each f i (x ∷ xs) (suc k) d less =
    let place : i + 1 + k ≡ i + suc k = omega arith in
    get_each f (i + 1) xs k d (omega arith) ∙ ap (λ (n : ℕ). f n (get_or xs k d)) place

pub at_each : {A : Type 0} (f : ℕ → A → A) (xs : List A) (k : ℕ) (d : A) → k < length xs →
    get_or (each_from f 0 xs) k d ≡ f k (get_or xs k d)
at_each f xs k d less = (let place : 0 + k ≡ k = omega arith in get_each f 0 xs k d less
    ∙ ap (λ (n : ℕ). f n (get_or xs k d)) place)

-- a list whose elements are those changed
pub is_each : {A : Type 0} (f : ℕ → A → A) (xs ys : List A) (d : A) → length ys ≡ length xs →
    ((k : ℕ) → k < length xs → get_or ys k d ≡ f k (get_or xs k d)) → ys ≡ each_from f 0 xs
is_each f xs ys d size at = ext_get_or d ys (each_from f 0 xs) (size ∙ sym (length_each f 0 xs)) (λ k less.
    (let within : k < length xs = omega (arith, size, less) in at k within ∙ sym (at_each f xs k d within)))

-- ---- one element more

pub done_next : {A : Type 0} (f : ℕ → A → A) (xs ys : List A) (i : ℕ) (v d : A) → i < length ys →
    v ≡ f i (get_or ys i d) → ((k : ℕ) → k < i → get_or ys k d ≡ f k (get_or xs k d)) →
    ((k : ℕ) → i ≤ k → get_or ys k d ≡ get_or xs k d) → (k : ℕ) → k < i + 1 →
    get_or (set ys i v) k d ≡ f k (get_or xs k d)
done_next f xs ys i v d fits is done left k less = elim (cases_eq k i) [
  | inl same ↦ (let here : get_or (set ys i v) i d ≡ f i (get_or xs i d) = get_or-set_same ys i v d fits ∙ is
      ∙ ap (f i) (left i (omega arith)) in
      subst (λ (n : ℕ). get_or (set ys i v) n d ≡ f n (get_or xs n d)) (sym same) here)
  | inr other ↦ get_or-set_other ys i k v d other ∙ done k (omega (arith, less, other))
]

pub left_next : {A : Type 0} (xs ys : List A) (i : ℕ) (v d : A) → ((k : ℕ) → i ≤ k → get_or ys k d ≡ get_or xs k d) →
    (k : ℕ) → i + 1 ≤ k → get_or (set ys i v) k d ≡ get_or xs k d
left_next xs ys i v d left k over = (let other : k ≡ i → ⊥ = λ e. absurd (omega (arith, over, e)) in
    get_or-set_other ys i k v d other ∙ left k (omega (arith, over)))
