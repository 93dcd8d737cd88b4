-- All handles but one.
use Rattle.std.proofs.Common.{◌≡◌, ℕ, zero, suc, ◌+◌, ◌<◌, Bool, true, false, List, [], ◌∷◌, Option, None, length, set, take, drop, refl, arith}
use Rattle.std.specs.Prelude.{◌||◌}
use Rattle.std.specs.List.{list_any}
use Rattle.dm_ems.specs.declared.tables.Handle.{Handle}
use Rattle.dm_ems.specs.Names.{has_name}

or_more : (a b c : Bool) → (a || (b || c)) ≡ ((a || b) || c)
or_more true b c = refl
or_more false b c = refl

pub any_other : (name : List ℕ) (xs : List (Option Handle)) (i : ℕ) → i < length xs →
    list_any (has_name name) (set xs i None) ≡ (list_any (has_name name) (take i xs) ||
    list_any (has_name name) (drop (i + 1) xs))
any_other name [] i h = absurd (omega arith)
any_other name (x ∷ xs) zero h = refl
any_other name (x ∷ xs) (suc i) h =
    let e : suc i + 1 ≡ suc (i + 1) = omega arith in
    rw (any_other name xs i (omega arith), e) (or_more (has_name name x) (list_any (has_name name) (take i xs))
    (list_any (has_name name) (drop (i + 1) xs)))

pub found_below : (a b s : Bool) → s ≡ a → s ≡ true → s ≡ (a || b)
found_below true b s e t = e
found_below false b s e t = absurd cc

pub found_above : (a b s t : Bool) → s ≡ a → s ≡ false → t ≡ b → t ≡ (a || b)
found_above true b s t e f g = absurd cc
found_above false b s t e f g = g
