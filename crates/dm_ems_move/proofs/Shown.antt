-- What windows show after many pages are mapped, or the whole map: pages.
use Rattle.std.proofs.Common.{◌≡◌, ℕ, zero, suc, ◌+◌, ◌*◌, ◌%◌, Bool, true, false, cond, List, [], ◌∷◌, Option, Some, None, set, refl, subst}
use Rattle.std.specs.Prelude.{Result, Ok, Err, IfOk, IfSome, slice_get, slice_index_or, ◌==◌, ◌&&◌}
use Rattle.dm_space.specs.Memory.{Memory, poke, linear}
use Rattle.dm_space.specs.Buffers.{with_bytes}
use Rattle.dm_space.specs.Places.{IsShaped}
use Rattle.dm_space.proofs.Places.{shaped-same, shaped-then, poke-shaped}
use Rattle.dm_ems.specs.declared.status.Status.{Status}
use Rattle.dm_ems.specs.declared.status.Status.TheVariants.{NoSuchPage, NoSuchWindow}
use Rattle.dm_ems.specs.declared.tables.Page.{Page}
use Rattle.dm_ems.specs.Tables.{Tables, Expanded, blocks_of}
use Rattle.dm_ems.specs.Consistent.{IsOwned, ShowsPages, IsConsistent}
use Rattle.dm_ems.specs.Calls.{need}
use Rattle.dm_ems.specs.Names.{writing}
use Rattle.dm_ems.proofs.Owned.{each_block}
use Rattle.dm_ems.proofs.Keeping.{window_set, writes_keep}
use Rattle.dm_space.specs.moves.Buffers.{word_after}
use Rattle.dm_ems_move.specs.Steps.{and_then}
use Rattle.dm_ems_move.specs.Many.{window_of, paired, after_pairs}
use Rattle.dm_ems_move.specs.Maps.{when, meant, meant_at, map_at}

-- windows that show pages, if there is an answer
record Shows (ps : List Page) (r : Result (List (Option ℕ)) Status) : Type 0 where
  pub shown : IfOk r (ShowsPages ps)

if_shows : (ps : List Page) (b : Bool) (r s : Result (List (Option ℕ)) Status) → Shows ps r → Shows ps s →
    Shows ps (cond b r s)
if_shows ps true r s p q = p
if_shows ps false r s p q = q

need_shows : {A : Type 0} (ps : List Page) (o : Option A) (e : Status) (f : A → Result (List (Option ℕ)) Status) →
    ((v : A) → o ≡ Some v → Shows ps (f v)) → Shows ps (need o e f)
need_shows ps None e f h = record { shown = tt }
need_shows ps (Some v) e f h = h v refl

then_shows : (ps : List Page) (r : Result (List (Option ℕ)) Status) (f : List (Option ℕ) →
    Result (List (Option ℕ)) Status) → Shows ps r → ((v : List (Option ℕ)) → ShowsPages ps v → Shows ps (f v)) →
    Shows ps (and_then r f)
then_shows ps (Ok v) f p h = h v p.shown
then_shows ps (Err e) f p h = record { shown = tt }

paired_shows : (ems : Tables) (h : ℕ) (by : Bool) (page value : ℕ) (ws : List (Option ℕ)) → ShowsPages ems.pages ws →
    Shows ems.pages (paired (blocks_of ems h) by page value ws)
unfolding paired
paired_shows ems h by page value ws l =
    need_shows ems.pages (window_of by value) NoSuchWindow _ (λ w e.
    if_shows ems.pages (page == 0xFFFF) (Ok (set ws w None)) _ (record { shown = window_set ems.pages ws w None l tt })
    (need_shows ems.pages (slice_get (blocks_of ems h) page) NoSuchPage _ (λ b is.
    record {
      shown = window_set ems.pages ws w (Some b) l (each_block (IsOwned ems.pages) ems.pages h page b (λ k j. (
        k,
        j,
        refl,
      )) is);
    })))

after_shows : (x : Expanded) (h : ℕ) (by : Bool) (s o n : ℕ) → IsConsistent x →
    Shows x.ems.pages (after_pairs x.memory (blocks_of x.ems h) by s o n)
after_shows x h by s o zero l = record { shown = l.shown }
after_shows x h by s o (suc n) l = then_shows x.ems.pages _ _ (after_shows x h by s o n l)
    (λ ws p. paired_shows x.ems h by _ _ ws p)

of_ok : (ps : List Page) (r : Result (List (Option ℕ)) Status) (ws : List (Option ℕ)) → Shows ps r → r ≡ Ok ws →
    ShowsPages ps ws
of_ok ps r ws s e = subst (λ (t : Result (List (Option ℕ)) Status). IfOk t (ShowsPages ps)) e s.shown

pub after_shown : (x : Expanded) (h : ℕ) (by : Bool) (s o n : ℕ) (ws : List (Option ℕ)) → IsConsistent x →
    after_pairs x.memory (blocks_of x.ems h) by s o n ≡ Ok ws → ShowsPages x.ems.pages ws
after_shown x h by s o n ws l e = of_ok x.ems.pages _ ws (after_shows x h by s o n l) e

-- ---- the whole map

-- windows that show pages, if there are any
record Means {A : Type 0} (P : A → Type 0) (o : Option A) : Type 0 where
  pub meant : IfSome o P

when_means : {A B : Type 0} (P : B → Type 0) (o : Option A) (f : A → Option B) →
    ((v : A) → o ≡ Some v → Means P (f v)) → Means P (when o f)
when_means P None f h = record { meant = tt }
when_means P (Some v) f h = h v refl

meant_means : (ems : Tables) (h p : ℕ) → Means (λ w. IfSome w (IsOwned ems.pages)) (meant ems h p)
meant_means ems h p = either ((h == 0xFFFF) && (p == 0xFFFF))
  where
    either : (b : Bool) → Means (λ w. IfSome w (IsOwned ems.pages)) (cond b (Some None)
        (when (slice_index_or ems.handles h None) (λ s. when (slice_get (blocks_of ems h) p)
        (λ block. Some (Some block)))))
    either true = record { meant = tt }
    either false =
        when_means _ (slice_index_or ems.handles h None) _ (λ s e. when_means _ (slice_get (blocks_of ems h) p) _
        (λ b is.
        record { meant = each_block (IsOwned ems.pages) ems.pages h p b (λ k j. (k, j, refl)) is }))

meant_is : (ems : Tables) (m : Memory) (s o k : ℕ) (w : Option ℕ) → meant_at ems m s o k ≡ Some w →
    IfSome w (IsOwned ems.pages)
meant_is ems m s o k w e = subst (λ (t : Option (Option ℕ)). IfSome t (λ v. IfSome v (IsOwned ems.pages))) e
    (meant_means ems (word_after m s o (4 * k)) (word_after m s o (4 * k + 2))).meant

four : (ps : List Page) (a b c d : Option ℕ) → IfSome a (IsOwned ps) → IfSome b (IsOwned ps) → IfSome c (IsOwned ps) →
    IfSome d (IsOwned ps) → ShowsPages ps (a ∷ b ∷ c ∷ d ∷ [])
four ps a b c d p q r s zero = p
four ps a b c d p q r s (suc zero) = q
four ps a b c d p q r s (suc (suc zero)) = r
four ps a b c d p q r s (suc (suc (suc zero))) = s
four ps a b c d p q r s (suc (suc (suc (suc k)))) = tt

map_means : (ems : Tables) (m : Memory) (s o : ℕ) → Means (ShowsPages ems.pages) (map_at ems m s o)
unfolding map_at
map_means ems m s o =
    when_means _ (meant_at ems m s o 0) _ (λ a p. when_means _ (meant_at ems m s o 1) _
    (λ b q. when_means _ (meant_at ems m s o 2) _ (λ c r. when_means _ (meant_at ems m s o 3) _ (λ d t.
    record {
      meant = four ems.pages a b c d (meant_is ems m s o 0 a p) (meant_is ems m s o 1 b q) (meant_is ems m s o 2
          c r) (meant_is ems m s o 3 d t);
    }))))

pub map_shown : (ems : Tables) (m : Memory) (s o : ℕ) (ws : List (Option ℕ)) → map_at ems m s o ≡ Some ws →
    ShowsPages ems.pages ws
map_shown ems m s o ws e = subst (λ (t : Option (List (Option ℕ))). IfSome t (ShowsPages ems.pages)) e
    (map_means ems m s o).meant

-- ---- a map that is written

pub bytes_shaped : (m : Memory) (s o : ℕ) (bytes : List ℕ) → IsShaped m (with_bytes m s o bytes)
unfolding with_bytes
bytes_shaped m s o [] = shaped-same m
bytes_shaped m s o (b ∷ bytes) =
    let n = poke m (linear m.a20 s (o % 65536)) b in
    shaped-then m n (with_bytes n s (suc o) bytes) (poke-shaped m (linear m.a20 s (o % 65536)) b)
    (bytes_shaped n s (suc o) bytes)

pub written_consistent : (x : Expanded) (s o : ℕ) (bytes : List ℕ) → IsConsistent x → IsConsistent (writing x s o bytes)
written_consistent x s o bytes l = writes_keep x (with_bytes x.memory s o bytes) (bytes_shaped x.memory s o bytes) l
