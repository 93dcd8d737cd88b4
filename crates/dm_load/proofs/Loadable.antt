-- Files that can be loaded
use Rattle.std.proofs.Common.{◌≡◌, ℕ, ◌≤◌, Bool, true, false, cond, List, length, refl}
use Rattle.std.specs.Prelude.{slice_range}
use Rattle.dm_load.specs.declared.format.Kind.TheVariants.{Com, Mz}
use Rattle.dm_load.specs.Image.{is_mz, file_kind, IsGood, IsGoodAs, image, header_length, file_size}

by_kind : (file : List ℕ) (b : Bool) → cond b Mz Com ≡ Com → IsGoodAs (cond b Mz Com) file →
    length (cond b (slice_range file (header_length file) (file_size file)) file) ≤ 65278
by_kind file true e good = cc
by_kind file false e good = good

-- a COM program's image leaves room in its segment for the prefix and a word of stack
pub length-com : (file : List ℕ) → file_kind file ≡ Com → IsGood file → length (image file) ≤ 65278
unfolding image
length-com file e good = by_kind file (is_mz file) e good

not_mz : (b : Bool) → cond b Mz Com ≡ Com → b ≡ false
not_mz true e = cc
not_mz false e = refl

pub is_mz-com : (file : List ℕ) → file_kind file ≡ Com → is_mz file ≡ false
is_mz-com file e = not_mz (is_mz file) e
