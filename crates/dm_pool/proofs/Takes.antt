-- A table and the pool's bytes, as a block is taken, given back or resized.
use Rattle.std.proofs.Common.{◌≡◌, ℕ, zero, suc, ◌+◌, ◌≤◌, true, List, [], ◌∷◌, set, Option, Some, None, refl, sym, ap, ◌∙◌}
use Rattle.std.specs.Prelude.{IfSome}
use Rattle.std.proofs.lemmas.Option.{same_Some}
use Rattle.dm_pool.specs.declared.extent.Extent.{Extent}
use Rattle.dm_pool.specs.Gaps.{is_clear, are_free, lowest}
use Rattle.dm_pool.specs.Blocks.{Blocks, contents_of}
use Rattle.dm_pool.specs.inner.Order.{Layout, blocks_in}
use Rattle.dm_pool.proofs.Blocks.{passes, within_pool}
use Rattle.dm_pool.proofs.Told.{lowest_zero}

-- what a gap that was found is
pub lowest_free : (places : List (Option Extent)) (n u p : ℕ) → lowest places n u ≡ Some p → (p + u ≤ n) ×
    (is_clear places p u ≡ true) × (u ≡ 0 → p ≡ 0)
lowest_free places n u p e =
    let w = within_pool places n u p (passes (are_free places n u) (suc n) 0 p e) in
    (w.0, w.1, λ z. sym (same_Some 0 p (sym (lowest_zero places n) ∙ ap (lowest places n) (sym z) ∙ e)))

pub same_blocks : (u v : ℕ) (ps qs : List (Option Extent)) (cs ds : List (List ℕ)) → u ≡ v → ps ≡ qs → cs ≡ ds →
    let b : Blocks = record { units = u; places = ps; contents = cs } in b ≡ record {
      units = v;
      places = qs;
      contents = ds;
    }
same_blocks u v ps qs cs ds a b c =
    let one : ℕ → Blocks = λ w. record { units = w; places = ps; contents = cs } in
    let two : List (Option Extent) → Blocks = λ xs. record { units = v; places = xs; contents = cs } in
    let three : List (List ℕ) → Blocks = λ xs. record { units = v; places = qs; contents = xs } in
    ap one a ∙ ap two b ∙ ap three c

-- the blocks of a table and bytes that changed in the same way
pub laid_blocks : (l : Layout) (n : ℕ) (ps : List (Option Extent)) (xs ys : List ℕ) → l.units ≡ n → l.places ≡ ps →
    contents_of l.places xs ≡ contents_of l.places ys → blocks_in l xs ≡ record {
      units = n;
      places = ps;
      contents = contents_of ps ys;
    }
laid_blocks l n ps xs ys a b c = same_blocks l.units n l.places ps (contents_of l.places xs) (contents_of ps ys) a b (c
    ∙ ap (λ qs. contents_of qs ys) b)

pub gap_free : (places : List (Option Extent)) (n u : ℕ) (o : Option ℕ) → lowest places n u ≡ o →
    IfSome o (λ p. (p + u ≤ n) × (is_clear places p u ≡ true) × (u ≡ 0 → p ≡ 0))
gap_free places n u None e = tt
gap_free places n u (Some p) e = lowest_free places n u p e

pub set_again : (ps : List (Option Extent)) (k : ℕ) (x y : Option Extent) → set (set ps k x) k y ≡ set ps k y
set_again [] k x y = refl
set_again (p ∷ ps) zero x y = refl
set_again (p ∷ ps) (suc k) x y = ap (λ qs. p ∷ qs) (set_again ps k x y)
