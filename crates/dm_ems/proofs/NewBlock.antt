-- What a pool is with one block more.
use Rattle.std.proofs.Common.{◌≡◌, ◌≢◌, ℕ, ◌*◌, ◌<◌, [], Option, Some, None, length, get_or, refl, ◌∙◌, ap, subst}
use Rattle.std.proofs.lemmas.List.{get_or-set_same, get_or-set_other, length-set, length-replicate}
use Rattle.std.proofs.lemmas.Option.{none-some, same_Some}
use Rattle.dm_pool.specs.declared.extent.Extent.{Extent}
use Rattle.dm_pool.specs.Gaps.{first_empty, lowest}
use Rattle.dm_pool.specs.Blocks.{Blocks, placed, taken, with_block, zeros}
use Rattle.dm_pool.proofs.Blocks.{vacant}

-- t is s with a block of u units, whose number i was free
pub record IsNew (s : Blocks) (u i : ℕ) (t : Blocks) : Type 0 where
  pub free : get_or s.places i None ≡ None
  pub within : i < length s.places
  pub place : Extent
  pub at : get_or t.places i None ≡ Some place
  pub bytes : i < length s.contents → get_or t.contents i [] ≡ zeros u
  pub others : (j : ℕ) → j ≢ i → get_or t.places j None ≡ get_or s.places j None
  pub kept : (j : ℕ) → j ≢ i → get_or t.contents j [] ≡ get_or s.contents j []
  pub places : length t.places ≡ length s.places
  pub contents : length t.contents ≡ length s.contents

new_block : (s : Blocks) (u i : ℕ) (b : Extent) → (i < length s.places) × (get_or s.places i None ≡ None) →
    IsNew s u i (with_block s i b (zeros u))
new_block s u i b v = record {
  free = v.1;
  within = v.0;
  place = b;
  at = get_or-set_same s.places i (Some b) None v.0;
  bytes = λ h. get_or-set_same s.contents i (zeros u) [] h;
  others = λ j ne. get_or-set_other s.places i j (Some b) None ne;
  kept = λ j ne. get_or-set_other s.contents i j (zeros u) [] ne;
  places = length-set s.places i (Some b);
  contents = length-set s.contents i (zeros u);
}

placed_new : (s : Blocks) (u : ℕ) (o p : Option ℕ) (i : ℕ) (t : Blocks) → first_empty s.places ≡ o →
    placed s u o p ≡ Some (i, t) → IsNew s u i t
placed_new s u None p i t e h = absurd (none-some (i, t) h)
placed_new s u (Some k) None i t e h = absurd (none-some (i, t) h)
placed_new s u (Some k) (Some p) i t e h =
    let new : Blocks = with_block s k (record { base = p; units = u }) (zeros u) in
    let same = same_Some (k, new) (i, t) h in
    subst (λ (x : ℕ × Blocks). IsNew s u x.0 x.1) same (new_block s u k (record { base = p; units = u })
    (vacant s.places k e))

pub taken_new : (s : Blocks) (u i : ℕ) (t : Blocks) → taken s u ≡ Some (i, t) → IsNew s u i t
taken_new s u i t h = placed_new s u (first_empty s.places) (lowest s.places s.units u) i t refl h

pub new_size : (s : Blocks) (u i : ℕ) (t : Blocks) → IsNew s u i t → i < length s.contents →
    length (get_or t.contents i []) ≡ u * 1024
new_size s u i t n h = ap length (n.bytes h) ∙ length-replicate (u * 1024) 0
