-- Texts that are put one behind the other.
use Rattle.std.proofs.Common.{◌≡◌, ℕ, List, ◌++◌, ◌∙◌, Result, Ok, Err, OnOk, ap, append_assoc}
use Rattle.std.specs.Prelude.{if◌then◌else◌}
use Rattle.std.specs.Result.{is_ok}

pub behind : (old a b mid new : List ℕ) → mid ≡ old ++ a → new ≡ mid ++ b → new ≡ old ++ (a ++ b)
behind old a b mid new first next = next ∙ ap (λ (x : List ℕ). x ++ b) first ∙ append_assoc old a b

-- the last text, whose bytes are put only if there is memory for them
pub ends_with : {T E : Type 0} (r : Result T E) (old a b mid new none : List ℕ) → mid ≡ old ++ a →
    new ≡ (if is_ok r then mid ++ b else none) → OnOk r (new ≡ old ++ (a ++ b))
ends_with (Ok x) old a b mid new none first next = behind old a b mid new first next
ends_with (Err e) old a b mid new none first next = tt
