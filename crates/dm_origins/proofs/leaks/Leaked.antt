-- What is found of numbers, one after the other.
use Rattle.std.proofs.Common.{◌≡◌, ℕ, ◌+◌, List, ◌++◌, refl, sym, ◌∙◌, ap, add-one, append-nil, append_assoc}
use Rattle.dm_findings.specs.declared.finding.Finding.{Finding}
use Rattle.dm_origins.specs.leaks.Leaks.{of_each}

pub each_none : (old : List Finding) (f : ℕ → List Finding) → old ≡ old ++ of_each f 0
unfolding of_each
each_none old f = sym (append-nil old)

each_next : (f : ℕ → List Finding) (n : ℕ) → of_each f (n + 1) ≡ of_each f n ++ f n
unfolding of_each
each_next f n = rw add-one refl

pub each_more : (old out new : List Finding) (f : ℕ → List Finding) (n : ℕ) → out ≡ old ++ of_each f n → new ≡ out
    ++ f n → new ≡ old ++ of_each f (n + 1)
each_more old out new f n e k =
    k ∙ ap (λ (x : List Finding). x ++ f n) e ∙ append_assoc old (of_each f n) (f n)
    ∙ ap (λ (x : List Finding). old ++ x) (sym (each_next f n))
