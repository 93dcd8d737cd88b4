-- A checksum, byte by byte.
use Rattle.std.proofs.Common.{◌≡◌, ℕ, ◌+◌, ◌%◌, ◌<◌, List, length, take, get_or, sym, ap, ◌∙◌, sum}
use Rattle.std.proofs.Math.Nat.{mod-add-mod}
use Rattle.std.proofs.lemmas.List.Sums.{sum_by_more}

-- one byte more
pub sum_more : (bytes : List ℕ) (i s : ℕ) → i < length bytes → s ≡ sum (take i bytes) % 256 →
    (s + get_or bytes i 0) % 256 ≡ sum (take (i + 1) bytes) % 256
sum_more bytes i s h e =
    ap (λ (n : ℕ). (n + get_or bytes i 0) % 256) e
    ∙ mod-add-mod (sum (take i bytes)) 256 (get_or bytes i 0)
    ∙ ap (λ (n : ℕ). n % 256) (sym (sum_by_more (λ x. x) bytes i 0 h))
