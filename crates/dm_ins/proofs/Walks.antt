-- Steps that may give nothing.
use Rattle.std.proofs.Common.{◌≡◌, Option, Some, None, refl}
use Rattle.dm_ins.specs.Walks.{◌>>=◌}

-- where two steps give a value, so does the first, and the second on it
pub bind_some : {A B : Type 0} (o : Option A) (f : A → Option B) (y : B) → (o >>= f) ≡ Some y → (x : A) × (o ≡ Some x) ×
    (f x ≡ Some y)
bind_some None f y e = absurd cc
bind_some (Some x) f y e = (x, refl, e)

-- where one of two steps gives nothing, so do both
pub first_none : {A C : Type 0} (o : Option A) (f : A → Option C) → o ≡ None → (o >>= f) ≡ None
first_none None f e = refl
first_none (Some x) f e = absurd cc

pub second_none : {A B C : Type 0} (o : Option A) (q : Option B) (f : A → B → Option C) → q ≡ None →
    (o >>= λ x. (q >>= f x)) ≡ None
second_none None q f e = refl
second_none (Some x) q f e = first_none q (f x) e
