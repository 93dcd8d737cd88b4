-- Rules of the table, by a test of each entry.
use Rattle.std.proofs.Common.{◌≡◌, ℕ, zero, suc, ◌<◌, Bool, true, false, List, [], ◌∷◌, get_or, refl, nat_lt, ◌&&◌}
use Rattle.std.specs.List.{list_all}
use Rattle.std.proofs.lemmas.Bool.{ltb-true}
use Rattle.dm_ins.specs.declared.table.OpcodeEntry.{OpcodeEntry}
use Rattle.dm_ins.specs.declared.table.OpcodeEntry.TheVariants.{Unlisted, Plain, Group, Second}
use Rattle.dm_ins.specs.Table.{entries, entry_of, IfGroup}

pub both_true : (a b : Bool) → (a && b) ≡ true → (a ≡ true) × (b ≡ true)
both_true true true e = (refl, refl)
both_true true false e = absurd cc
both_true false b e = absurd cc

-- what passes at each element and at the default passes at each place
pub passes : {X : Type 0} (p : X → Bool) (d : X) → p d ≡ true → (xs : List X) (k : ℕ) → list_all p xs ≡ true →
    p (get_or xs k d) ≡ true
passes p d h [] k e = h
passes p d h (x ∷ xs) zero e = (both_true (p x) (list_all p xs) e).0
passes p d h (x ∷ xs) (suc k) e = passes p d h xs k (both_true (p x) (list_all p xs) e).1

group_exists : OpcodeEntry → Bool
group_exists (Group g) = nat_lt g 17
group_exists _ = true

group_listed : (e : OpcodeEntry) → group_exists e ≡ true → IfGroup e (λ g. g < 17)
unfolding group_exists
group_listed (Group g) h = ltb-true g 17 h
group_listed Unlisted h = tt
group_listed (Plain r) h = tt
group_listed (Second c r) h = tt

pub groups_listed : (b : ℕ) → IfGroup (entry_of b) (λ g. g < 17)
unfolding group_exists entry_of
groups_listed b = group_listed (entry_of b) (passes group_exists Unlisted refl entries b refl)
