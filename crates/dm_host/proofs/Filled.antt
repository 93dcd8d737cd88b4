-- Bytes of memory that are copied into a buffer, one after the other.
use Rattle.std.proofs.Common.{◌≡◌, ℕ, ◌+◌, ◌<◌, ◌%◌, List, [], ◌∷◌, ◌++◌, length, take, set, ap, ◌∙◌, sym, arith}
use Rattle.std.proofs.lemmas.List.{take_more_set}
use Rattle.dm_space.specs.Memory.{Memory, linear, peek}
use Rattle.dm_space.proofs.Copies.{values-more}
use Rattle.dm_host.specs.Memory.{byte_at_offset, bytes_at}

pub read_more : (m : Memory) (segment offset place at : ℕ) (xs : List ℕ) → place < length xs →
    at ≡ (offset + place) % 65536 → take place xs ≡ bytes_at m segment offset place
    → take (place + 1) (set xs place (peek m (linear m.a20 segment at))) ≡ bytes_at m segment offset (place + 1)
read_more m segment offset place at xs within at_is done =
    take_more_set xs place (peek m (linear m.a20 segment at)) within
    ∙ ap (λ (l : List ℕ). l ++ peek m (linear m.a20 segment at) ∷ []) done
    ∙ ap (λ (k : ℕ). bytes_at m segment offset place ++ peek m (linear m.a20 segment k) ∷ []) at_is
    ∙ sym (values-more (byte_at_offset m segment) offset place 1)

pub further : (at offset place : ℕ) → at ≡ (offset + place) % 65536 → (at + 1) % 65536 ≡ (offset + (place + 1)) % 65536
further at offset place is = omega (arith, is)
