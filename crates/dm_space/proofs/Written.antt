-- Bytes that are written upwards, one at a time
use Rattle.std.proofs.Common.{◌≡◌, ℕ, suc, ◌+◌, ◌<◌, ◌%◌, List, [], ◌∷◌, ◌++◌, length, take, get_or, refl, sym, ◌∙◌, ap, arith, add-one}
use Rattle.std.proofs.lemmas.List.{length-take-le}
use Rattle.std.proofs.Math.Seq.{take-suc, take-length}
use Rattle.dm_space.specs.Memory.{Memory, Held, poke, linear}
use Rattle.dm_space.specs.Buffers.{with_bytes}

-- one more byte is written
abbrev pub with_next : Memory → ℕ → ℕ → ℕ → Memory
with_next m s o b = poke m (linear m.a20 s (o % 65536)) b

with_bytes-more : (m : Memory) (s o : ℕ) (xs : List ℕ) (b : ℕ) → with_bytes m s o (xs ++ b ∷ [])
    ≡ with_next (with_bytes m s o xs) s (o + length xs) b
unfolding with_bytes
with_bytes-more m s o [] b = let e : o + 0 ≡ o = omega arith in rw e refl
with_bytes-more m s o (x ∷ xs) b =
    let e : suc o + length xs ≡ o + suc (length xs) = omega arith in
    with_bytes-more (with_next m s o x) s (suc o) xs b
    ∙ ap (λ k. with_next (with_bytes (with_next m s o x) s (suc o) xs) s k b) e

-- the first k bytes are stored
pub record IsStored (start : Held) (s o : ℕ) (xs : List ℕ) (k : ℕ) (now : Held) : Type 0 where
  pub is : now ≡ record start { memory = with_bytes start.memory s o (take k xs) }

pub stored-none : (h : Held) (s o : ℕ) (xs : List ℕ) → IsStored h s o xs 0 h
unfolding with_bytes
stored-none h s o xs = record { is = refl }

one-more : (m : Memory) (s o : ℕ) (xs : List ℕ) (k : ℕ) → k < length xs → with_bytes m s o (take (k + 1) xs)
    ≡ with_next (with_bytes m s o (take k xs)) s (o + k) (get_or xs k 0)
one-more m s o xs k h =
    let cut : take (k + 1) xs ≡ take k xs ++ get_or xs k 0 ∷ [] = rw add-one (take-suc xs k 0 h) in
    let long : length (take k xs) ≡ k = length-take-le k xs (omega arith) in
    ap (with_bytes m s o) cut ∙ with_bytes-more m s o (take k xs) (get_or xs k 0)
    ∙ ap (λ n. with_next (with_bytes m s o (take k xs)) s (o + n) (get_or xs k 0)) long

pub stored-more : (start now after : Held) (s o : ℕ) (xs : List ℕ) (k b : ℕ) → IsStored start s o xs k now →
    k < length xs → b ≡ get_or xs k 0 →
    after ≡ record now { memory = with_next now.memory s (o + k) b } → IsStored start s o xs (k + 1) after
stored-more start now after s o xs k b w h e f = record {
  is = f ∙ ap (λ (g : Held). record g { memory = with_next g.memory s (o + k) b }) w.is
      ∙ ap (λ v. record start { memory = with_next (with_bytes start.memory s o (take k xs)) s (o + k) v }) e
      ∙ ap (λ m. record start { memory = m }) (sym (one-more start.memory s o xs k h));
}

pub stored-all : (start now : Held) (s o : ℕ) (xs : List ℕ) (k : ℕ) → IsStored start s o xs k now → k ≡ length xs →
    now ≡ record start { memory = with_bytes start.memory s o xs }
stored-all start now s o xs k w e = w.is ∙ ap (λ ys. record start { memory = with_bytes start.memory s o ys })
    (rw e (take-length xs))
