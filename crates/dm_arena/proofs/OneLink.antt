-- Linking and parting have one answer.
use Rattle.std.proofs.Common.{◌≡◌, ℕ, Bool, true, false, List, [], ◌∷◌, ◌++◌, ◌⊎◌, inl, inr, refl, sym, ◌∙◌, ap, ap₂, subst, Result, Ok, Err}
use Rattle.dm_space.specs.Memory.{Memory}
use Rattle.dm_blocks.specs.declared.header.Header.{Header}
use Rattle.dm_blocks.specs.Chain.{Becomes, IsArena, IsArenaBehind, first_header, is_linked, link_header}
use Rattle.dm_blocks.proofs.Unique.{arena_unique, becomes_unique, chain_unique}
use Rattle.dm_arena.specs.declared.refusal.ArenaRefusal.{ArenaRefusal}
use Rattle.dm_arena.specs.Linking.{BeginsAt, EndsAt, BecomesLinked, BecomesUnlinked, IsSo, LinkRefused, Links}
use Rattle.dm_arena.specs.inner.Walks.{Fills}
use Rattle.dm_arena.proofs.Ends.{fills_of, split_unique}
use Rattle.dm_arena.proofs.Parting.{begins-linked}

apart : (L M : List Header) → L ≡ M → is_linked L ≡ true → is_linked M ≡ false → ⊥
apart L M e t f = absurd (let x : true ≡ false = sym t ∙ ap is_linked e ∙ f in cc)

goes_once : (S T U : Memory) → BecomesLinked S T → BecomesLinked S U → T ≡ U
goes_once S T U x y =
    let first = arena_unique S first_header x.first y.first x.arena y.arena in
    let second = chain_unique S link_header x.second y.second x.behind.0 y.behind.0 in
    let F : List Header → Type 0 = λ X. Becomes S first_header X U in
    becomes_unique S first_header _ T U x.becomes (subst F (sym (ap₂ (λ X Y. X ++ Y) first second)) y.becomes)

cut_by : (S : Memory) (P Q P' Q' : List Header) → IsArena S first_header (P ++ Q) → BeginsAt Q link_header →
    BeginsAt Q' link_header → P ++ Q ≡ P' ++ Q' → P ≡ P'
cut_by S P [] P' Q' a b b' e = absurd b
cut_by S P (q ∷ Q) P' [] a b b' e = absurd b'
cut_by S P (q ∷ Q) P' (q' ∷ Q') a b b' e =
    let r = fills_of S first_header (P ++ q ∷ Q) a.0.1 in
    (split_unique first_header r.0 P q Q P' q' Q' r.1 e (b ∙ sym b')).0

cut_once : (S T U : Memory) → BecomesUnlinked S T → BecomesUnlinked S U → T ≡ U
cut_once S T U x y =
    let same = cut_by S x.before x.after y.before y.after x.arena x.begins y.begins
    (arena_unique S first_header (x.before ++ x.after) (y.before ++ y.after) x.arena y.arena) in
    let F : List Header → Type 0 = λ X. Becomes S first_header X U in
    becomes_unique S first_header _ T U x.becomes (subst F (sym same) y.becomes)

so_goes : (S T U : Memory) → IsSo S true T → BecomesLinked S U → ⊥
so_goes S T U x y = apart x.list y.first (arena_unique S first_header x.list y.first x.arena y.arena) x.is y.parted

so_cut : (S T U : Memory) → IsSo S false T → BecomesUnlinked S U → ⊥
so_cut S T U x y = apart (y.before ++ y.after) x.list (arena_unique S first_header (y.before
    ++ y.after) x.list y.arena x.arena) (begins-linked y.before y.after y.begins) x.is

joined_same : (S T U : Memory) → IsSo S true T ⊎ BecomesLinked S T → IsSo S true U ⊎ BecomesLinked S U → T ≡ U
joined_same S T U (inl x) (inl y) = x.same ∙ sym y.same
joined_same S T U (inl x) (inr y) = absurd (so_goes S T U x y)
joined_same S T U (inr x) (inl y) = absurd (so_goes S U T y x)
joined_same S T U (inr x) (inr y) = goes_once S T U x y

parted_same : (S T U : Memory) → IsSo S false T ⊎ BecomesUnlinked S T → IsSo S false U ⊎ BecomesUnlinked S U → T ≡ U
parted_same S T U (inl x) (inl y) = x.same ∙ sym y.same
parted_same S T U (inl x) (inr y) = absurd (so_cut S T U x y)
parted_same S T U (inr x) (inl y) = absurd (so_cut S U T y x)
parted_same S T U (inr x) (inr y) = cut_once S T U x y

not_joined : (S T : Memory) → IsSo S true T ⊎ BecomesLinked S T → LinkRefused S true → ⊥
not_joined S T (inl x) (inl none) = none x.list x.arena
not_joined S T (inl x) (inr r) = apart x.list r.0 (arena_unique S first_header x.list r.0 x.arena r.1) x.is r.2
not_joined S T (inr x) (inl none) = none x.first x.arena
not_joined S T (inr x) (inr r) =
    let F : List Header → Type 0 = λ X. IsArenaBehind S X link_header x.second in
    let G : List Header → Type 0 = λ X. EndsAt X link_header in
    let same = arena_unique S first_header x.first r.0 x.arena r.1 in
    r.3 (subst G same x.ends) x.second (subst F same x.behind)

not_parted : (S T : Memory) → IsSo S false T ⊎ BecomesUnlinked S T → LinkRefused S false → ⊥
not_parted S T (inl x) none = none x.list x.arena
not_parted S T (inr x) none = none (x.before ++ x.after) x.arena

pub linking_unique : (S : Memory) (on : Bool) (r q : Result (Unit {0}) ArenaRefusal) (T U : Memory) → Links S on r T →
    Links S on q U → (r ≡ q) × (T ≡ U)
linking_unique S true (Ok a) (Ok b) T U x y = (refl, joined_same S T U x y)
linking_unique S true (Ok a) (Err e) T U x y = absurd (not_joined S T x y.2)
linking_unique S true (Err e) (Ok b) T U x y = absurd (not_joined S U y x.2)
linking_unique S true (Err d) (Err e) T U x y = (ap (λ (z : ArenaRefusal). Err z) (x.1 ∙ sym y.1), x.0 ∙ sym y.0)
linking_unique S false (Ok a) (Ok b) T U x y = (refl, parted_same S T U x y)
linking_unique S false (Ok a) (Err e) T U x y = absurd (not_parted S T x y.2)
linking_unique S false (Err e) (Ok b) T U x y = absurd (not_parted S U y x.2)
linking_unique S false (Err d) (Err e) T U x y = (ap (λ (z : ArenaRefusal). Err z) (x.1 ∙ sym y.1), x.0 ∙ sym y.0)
