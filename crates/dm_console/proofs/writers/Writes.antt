-- What one more write of a text does, after the first `at` bytes of it were taken.
use Rattle.std.proofs.Common.{◌≡◌, ℕ, List, ◌+◌, ◌-◌, ◌≤◌, ◌<◌, Option, Ok, length, take, drop, subst, sym, arith, length-drop}
use Rattle.std.proofs.Math.Seq.{take-add}
use Rattle.std.proofs.KnownBytes.{Appends-trans}
use Rattle.std.proofs.lemmas.Grind.{common_steps}
use Rattle.std.proofs.lemmas.List.{take_all}
use Rattle.std.specs.Io.KnownBytes.{Appends}
use Rattle.dm_console.specs.writers.Out.{count_after}
use Rattle.dm_console.specs.declared.writers.writer.Failed.{Failed}

-- what is left of the text from `at` on, as the slice is written
rest : (bytes : List ℕ) (at : ℕ) → take (length bytes - at) (drop at bytes) ≡ drop at bytes
rest bytes at = take_all _ _ (let h = length-drop at bytes in omega (arith, h))

pub Appends-further : (a b c : Option (List ℕ)) (bytes : List ℕ) (at n : ℕ) → Appends a b (take at bytes)
    → Appends b c (take n (take (length bytes - at) (drop at bytes))) → Appends a c (take (at + n) bytes)
Appends-further a b c bytes at n first second =
    subst (Appends a c) (sym (take-add at n bytes)) (Appends-trans a b c _ _ first
    (subst (λ xs. Appends b c (take n xs)) (rest bytes at) second))

pub within_further : (bytes : List ℕ) (at n : ℕ) → at < length bytes
    → n ≤ length (take (length bytes - at) (drop at bytes)) → at + n ≤ length bytes
within_further bytes at n before taken =
    let whole : n ≤ length (drop at bytes) = rw (← rest bytes at) taken in
    let left = length-drop at bytes in
    omega (arith, left, whole, before)

-- a write that took something is no failure
pub count_after-taken : (count n : ℕ) (bytes : List ℕ) → (n ≡ 0 → ⊥) → count_after {E = Failed} count bytes (Ok n)
    ≡ count
count_after-taken count n bytes some = grind (arith, common_steps)
