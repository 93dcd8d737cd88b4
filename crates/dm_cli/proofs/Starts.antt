-- The faults of one file, and the first of some files.
use Rattle.std.proofs.Common.{◌≡◌, inl, inr, ◌<◌, ◌∷◌, [], ℕ, List, Option, Some, None, ap, sym, subst, refl, length, map, take, drop, get_or, ◌+◌, ◌++◌, ◌∙◌, suc, true, take-append-drop, drop-cons}
use Rattle.std.proofs.lemmas.List.{map-append, map_more}
use Rattle.std.proofs.lemmas.Option.{none-some}
use Rattle.std.specs.List.{slice_get}
use Rattle.dm_proc.specs.declared.programs.AddError.{AddError}
use Rattle.dm_proc.specs.declared.programs.AddError.TheVariants as add
use Rattle.dm_proc.specs.Programs.{IsName, has_program}
use Rattle.dm_cli.specs.declared.fault.Fault.{Fault}
use Rattle.dm_cli.specs.inner.Faults.{add_fault}
use Rattle.dm_cli.specs.Starting.{IsFileFault}
use Rattle.dm_cli.specs.Names.{last_part}
use Rattle.dm_cli.specs.inner.Names.{IsNameFault}
use Rattle.dm_cli.specs.Stores.{IsRead, IsFaultOf, nameless, long_name, twice, no_memory, AddsFile, Stores, more}

-- a fault of a name
pub fault_of_name : (e : Fault) (known : Option (List ℕ)) (store : List (List ℕ × List ℕ)) (path bytes : List ℕ) →
    IsRead known bytes
    → IsNameFault path e → IsFaultOf known store path e
fault_of_name e k s p b r (inl h) = nameless e h.1 h.0
fault_of_name e k s p b r (inr h) = subst (IsFaultOf k s p) (sym h.0) (long_name b h.1 r h.2)

-- a refusal of the store
pub fault_of_store : (r : AddError) (known : Option (List ℕ)) (store : List (List ℕ × List ℕ))
    (path bytes name : List ℕ) → IsRead known bytes
    → name ≡ last_part path → IsName name → (r ≡ add.Twice → has_program store name ≡ true) →
    IsFaultOf known store path (add_fault r)
fault_of_store add.Twice k s p b n r e i h = twice b r (subst IsName e i) (subst (λ m. has_program s m
    ≡ true) e (h refl))
fault_of_store add.Memory k s p b n r e i h = no_memory

-- the first of some paths
pub first_of : {A : Type 0} (f : A → List ℕ) (xs : List A) (x : A) → Some x ≡ slice_get xs 0 → (ys : List (List ℕ)) ×
    (map f xs ≡ f x ∷ ys)
first_of f [] x h = absurd (none-some x (sym h))
first_of f (y ∷ ys) x h = (map f ys, ap (λ o. f (some_or y o) ∷ map f ys) (sym h))
  where
    some_or : {B : Type 0} → B → Option B → B
    some_or d None = d
    some_or d (Some b) = b

-- one more file is in the store
pub stores_more : {A : Type 0} (f : A → List ℕ) (known : List ℕ → Option (List ℕ)) (xs : List A) (i : ℕ) (d : A)
    (s t : List (List ℕ × List ℕ)) → i < length xs
    → Stores known (map f (take i xs)) s → AddsFile (known (f (get_or xs i d))) s (f (get_or xs i d)) t →
    Stores known (map f (take (i + 1) xs)) t
stores_more f known xs i d s t h before adds = rw (map_more f xs i d h) (more _ _ _ _ before adds)

-- the fault of the i-th of some files, behind those that are in the store
pub file_fault : {A : Type 0} (f : A → List ℕ) (files : List ℕ → Option (List ℕ)) (xs : List A) (i : ℕ) (d : A)
    (store : List (List ℕ × List ℕ)) (e : Fault) → i < length xs
    → Stores files (map f (take i xs)) store → IsFaultOf (files (f (get_or xs i d))) store (f (get_or xs i d)) e →
    IsFileFault files (map f xs) e
file_fault f files xs i d store e within stores faulty = record {
  before = map f (take i xs);
  path = f (get_or xs i d);
  behind = map f (drop (suc i) xs);
  is = sym (ap (map f) (take-append-drop i xs)) ∙ map-append f (take i xs) (drop i xs)
      ∙ ap (λ l. map f (take i xs) ++ map f l) (drop-cons xs i d within);
  store = store;
  stores = stores;
  faulty = faulty;
}
