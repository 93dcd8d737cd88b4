-- Records of numbers, one after the other.
use Rattle.std.proofs.Common.{◌≡◌, ℕ, ◌+◌, List, ◌++◌, Option, refl, sym, ◌∙◌, ap, add-one, append-nil, append_assoc}
use Rattle.dm_views.specs.inventory.Records.{record_list, records_in_turn}

pub records_none : {A : Type 0} (old : List A) (f : ℕ → Option A) → old ≡ old ++ records_in_turn f 0
unfolding records_in_turn
records_none old f = sym (append-nil old)

records_next : {A : Type 0} (f : ℕ → Option A) (n : ℕ) → records_in_turn f (n + 1) ≡ records_in_turn f n
    ++ record_list (f n)
unfolding records_in_turn
records_next f n = rw add-one refl

pub records_more : {A : Type 0} (old out new : List A) (f : ℕ → Option A) (n : ℕ) → out ≡ old ++ records_in_turn f n →
    new ≡ out ++ record_list (f n) → new ≡ old ++ records_in_turn f (n + 1)
records_more {A} old out new f n e k =
    k ∙ ap (λ (x : List A). x ++ record_list (f n)) e ∙ append_assoc old (records_in_turn f n) (record_list (f n))
    ∙ ap (λ (x : List A). old ++ x) (sym (records_next f n))
