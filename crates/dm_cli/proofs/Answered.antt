-- The answer whether two paths lead to one file, after a read and before a save.
use Rattle.std.proofs.Common.{◌≡◌, ◌∙◌, ℕ, Bool, List, Option, subst, sym}
use Rattle.dm_cli.specs.Saving.{IsToldOfPaths}

-- the answer to a question after a read, of which a save changes nothing
pub answered : (s t : List ℕ → List ℕ → Option Bool) (path other : List ℕ) (a b c d : ℕ) (r : Bool) {answer : Bool} →
    t ≡ s → b ≡ a → d ≡ c → r ≡ answer → IsToldOfPaths (t path other) b c r → IsToldOfPaths (s path other) a d answer
answered s t path other a b c d r {answer} same before after is h =
    subst (λ x. IsToldOfPaths (s path other) a d x) is (subst (λ n. IsToldOfPaths (s path other) a n r) (sym after)
    (subst (λ n. IsToldOfPaths (s path other) n c r) before
    (subst (λ (k : List ℕ → List ℕ → Option Bool). IsToldOfPaths (k path other) b c r) same h)))
