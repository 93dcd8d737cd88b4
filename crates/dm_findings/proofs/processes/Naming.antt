-- Where a name stands.
use Rattle.std.proofs.Common.{◌≡◌, ℕ, zero, suc, ◌+◌, ◌<◌, Bool, false, [], ◌∷◌, ◌++◌, refl, ◌∙◌, ap, add-one, arith}
use Rattle.std.specs.Prelude.{◌==◌, not}
use Rattle.std.proofs.lemmas.Bool.Decides.{nat_tests}
use Rattle.dm_space.specs.Memory.{Memory, peek16}
use Rattle.dm_space.specs.EightBytes.{byte_after}
use Rattle.dm_findings.specs.processes.Processes.{bytes_after, first_zero_word}

-- ---- the end of the variables

pub zero_here : (m : Memory) (segment at n : ℕ) → 0 < n → peek16 m segment at ≡ 0 → first_zero_word m segment at n ≡ at
unfolding first_zero_word
zero_here m segment at zero some e = absurd (omega arith)
zero_here m segment at (suc n) some e = rw e refl

next_by : (m : Memory) (segment at n : ℕ) → (peek16 m segment at == 0) ≡ false →
    first_zero_word m segment at (suc n) ≡ first_zero_word m segment (at + 1) n
unfolding first_zero_word
next_by m segment at n e = rw e refl

pub zero_later : (m : Memory) (segment at n k : ℕ) → n ≡ suc k → (peek16 m segment at ≡ 0 → ⊥) →
    first_zero_word m segment at n ≡ first_zero_word m segment (at + 1) k
zero_later m segment at n k e other =
    let not_zero : (peek16 m segment at == 0) ≡ false = grind (arith, nat_tests, other) in
    ap (λ (i : ℕ). first_zero_word m segment at i) e ∙ next_by m segment at k not_zero

pub zero_nowhere : (m : Memory) (segment at : ℕ) → first_zero_word m segment at 0 ≡ at
unfolding first_zero_word
zero_nowhere m segment at = refl

-- ---- the bytes of the name

pub bytes_none : (m : Memory) (segment offset : ℕ) → bytes_after m segment offset 0 ≡ []
unfolding bytes_after
bytes_none m segment offset = refl

pub bytes_more : (m : Memory) (segment offset n : ℕ) → bytes_after m segment offset (n + 1)
    ≡ bytes_after m segment offset n ++ byte_after m segment offset n ∷ []
unfolding bytes_after
bytes_more m segment offset n = rw add-one refl

-- ---- the name

abbrev pub is_of_name : ℕ → Bool
is_of_name b = not (b == 0)
