-- The first byte that passes a test.
use Rattle.std.proofs.Common.{◌≡◌, ℕ, ◌+◌, ◌*◌, Bool, true, false, List, [], ◌∷◌, Option, Some, None, refl, sym, ◌∙◌, ap, ap₂}
use Rattle.std.specs.Prelude.{◌==◌, ◌&&◌, if◌then◌else◌}
use Rattle.dm_blocks.specs.declared.header.Header.{Header}
use Rattle.dm_touches.specs.declared.elements.FarAddress.{FarAddress}
use Rattle.dm_touches.specs.Elements.{linear_of}
use Rattle.dm_touches.specs.Found.{is_between, first_that, is_in_free}

-- two tests that are the same
pub first_as : (a20 : Bool) (p q : ℕ → Bool) → ((a : ℕ) → p a ≡ q a) → (fs : List FarAddress) →
    first_that a20 p fs ≡ first_that a20 q fs
first_as a20 p q same [] = refl
first_as a20 p q same (f ∷ fs) = ap₂ (λ (b : Bool) (o : Option FarAddress). if b then Some f else
    o) (same (linear_of a20 f)) (first_as a20 p q same fs)

-- a block that is free
pub free_as : (b : Header) → (b.owner == 0) ≡ true → (a : ℕ) →
    is_between (16 * (b.segment + 1)) (16 * (b.segment + 1) + 16 * b.size) a ≡ is_in_free b a
free_as b free a = ap (λ (x : Bool). x && is_between (16 * (b.segment + 1)) (16 * (b.segment + 1) + 16 * b.size) a)
    (sym free)
