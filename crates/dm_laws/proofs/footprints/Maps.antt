-- Memories that fit the machine have one map where A20 and the windows are the same.
use Rattle.std.proofs.Common.{◌≡◌, ℕ, length, List, Option, Some, None, sym, ◌∙◌, subst}
use Rattle.std.specs.Prelude.{IfSome, slice_index_or}
use Rattle.dm_space.specs.Memory.{Memory, IsPage, page_bytes}
use Rattle.dm_laws.specs.footprints.Footprints.{MapIsA20AndWindows}

-- what a window shows has the size of a page in both
pages : (m n : Memory) (o : Option ℕ) → IfSome o (λ page. IsPage m page) → IfSome o (λ page. IsPage n page) →
    IfSome o (λ page. length (page_bytes n page) ≡ length (page_bytes m page))
pages m n None p q = tt
pages m n (Some page) p q = q.1 ∙ sym p.1

pub fitting : MapIsA20AndWindows
fitting m n f g a w = record {
  a20 = a;
  windows = w;
  ram_size = g.low_length ∙ sym f.low_length;
  page_sizes = λ k. (let W : List (Option ℕ) → Type 0 = λ windows. IfSome (slice_index_or windows k None)
      (λ page. IsPage n page) in
      pages m n (slice_index_or m.windows k None) (f.pages_there k) (subst W w (g.pages_there k)));
}
