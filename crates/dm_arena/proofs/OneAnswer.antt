-- Each call has one answer.
use Rattle.std.proofs.Common.{Bool, ◌≡◌, ℕ, ◌+◌, ◌≤◌, true, false, IsTrue, List, [], ◌∷◌, ◌++◌, ◌⊎◌, inl, inr, refl, sym, ◌∙◌, ap, ap₂, subst, arith, Result, Ok, Err}
use Rattle.dm_space.specs.Memory.{Memory}
use Rattle.dm_blocks.specs.declared.header.Header.{Header}
use Rattle.dm_arena.specs.declared.refusal.ArenaRefusal.{ArenaRefusal}
use Rattle.dm_arena.specs.declared.refusal.ArenaRefusal.TheVariants.{Destroyed, Short, NoBlock}
use Rattle.dm_arena.specs.declared.fit.Strategy.{Strategy}
use Rattle.dm_blocks.specs.Chain.{first_header, link_header, HasHeader, IsArenaBehind, IsChain, IsClear, IsArena, Becomes, DiffersInHeaders, is_parted}
use Rattle.dm_arena.specs.Owned.{BlockAt, IsNoBlock, is_link_block, ReleasesOne, ReleasesBoth, freed, Frees, FreeRefused, absorb, AllFree, BeginsTaken, BlockAndFreeAt, resized, Resizes, ResizeRefused, released, ReleaseRefused, Releases}
use Rattle.dm_blocks.specs.Chain.{is_free}
use Rattle.dm_arena.specs.Blocks.{in_effect, join, largest, fits, prefers, IsIn, cut_block, cut_low, taken_segment}
use Rattle.dm_arena.specs.inner.Walks.{Fills}
use Rattle.dm_arena.specs.Allocation.{Taking, with_cut, Allocates, AllocateRefused}
use Rattle.dm_blocks.proofs.Chains.{has_either, has_right}
use Rattle.dm_arena.proofs.Allocating.{in_middle}
use Rattle.dm_arena.proofs.Fitting.{prefers-same}
use Rattle.dm_arena.proofs.Ends.{fills_of, join_fills}
use Rattle.dm_blocks.proofs.Unique.{arena_unique, becomes_unique, chain_unique, differs_unique, spelled_bytes}
use Rattle.dm_arena.proofs.Ends.{split_unique}

no_block : (up : Bool) (L P : List Header) (b : Header) (Q : List Header) (segment : ℕ) → L ≡ P ++ b ∷ Q →
    b.segment + 1 ≡ segment → is_link_block up segment ≡ false → IsNoBlock up L segment → ⊥
no_block up L P b Q segment e at other (inl none) = (let F : List Header → Type 0 = λ X. HasHeader X b.segment in
    none b.segment (subst F (sym e) (has_right P (b ∷ Q) _ (inl refl))) at)
no_block up L P b Q segment e at other (inr link) = absurd (let x : false ≡ true = sym other ∙ link in cc)

split_at : (S : Memory) (L M P : List Header) (b : Header) (Q P' : List Header) (b' : Header) (Q' : List Header)
    (segment : ℕ) → IsArena S first_header L → IsArena S first_header M → L ≡ P ++ b ∷ Q → M ≡ P' ++ b' ∷ Q' →
    b.segment + 1 ≡ segment → b'.segment + 1 ≡ segment → (P ≡ P') × (b ≡ b') × (Q ≡ Q')
split_at S L M P b Q P' b' Q' segment a a' e e' at at' =
    let r = fills_of S first_header L a.0.1 in
    let F : List Header → Type 0 = λ X. Fills first_header X r.0 in
    split_unique first_header r.0 P b Q P' b' Q' (subst F e r.1) (sym e ∙ arena_unique S first_header L M a a'
    ∙ e') (omega arith)

head-same : (b c : Header) (L M : List Header) → b ∷ L ≡ c ∷ M → b ≡ c
head-same b c L M e = cc

tail-same : (b c : Header) (L M : List Header) → b ∷ L ≡ c ∷ M → L ≡ M
tail-same b c L M e = cc

module _ (up : Bool) where
  -- the block that an allocation takes
  module _ (S : Memory) (start : ℕ) (st : Strategy) (n : ℕ) (t u : Taking up S start st n) where
    lists : t.list ≡ u.list
    lists = arena_unique S start _ _ t.arena u.arena

    joined : t.before ++ t.block ∷ t.after ≡ u.before ++ u.block ∷ u.after
    joined = sym t.joined ∙ ap (join up) lists ∙ u.joined

    effect : in_effect up t.list st ≡ in_effect up u.list st
    effect = ap (λ X. in_effect up X st) lists

    at : t.block.segment ≡ u.block.segment
    at =
        let F : List Header → Type 0 = λ X. IsIn u.block X in
        let G : List Header → Type 0 = λ X. IsIn t.block X in
        let iu : IsIn u.block (join up t.list) = subst F (sym (t.joined ∙ joined))
        (in_middle u.before u.block u.after) in
        let it : IsIn t.block (join up u.list) = subst G (sym (u.joined ∙ sym joined))
        (in_middle t.before t.block t.after) in
        let H : Strategy → Type 0 = λ s. IsTrue (fits up s n u.block) in
        let I : Strategy → Type 0 = λ s. IsTrue (fits up s n t.block) in
        let J : Strategy → Type 0 = λ s. IsTrue (prefers s u.block t.block) in
        prefers-same (in_effect up t.list st) t.block u.block (t.fit.preferred u.block iu
        (subst H (sym effect) u.fit.fit)) (subst J (sym effect) (u.fit.preferred t.block it
        (subst I effect t.fit.fit)))

    same : (t.before ≡ u.before) × (t.block ≡ u.block) × (t.after ≡ u.after)
    same =
        let r = join_fills up S start t.list t.arena.0.1 in
        let F : List Header → Type 0 = λ X. Fills r.1 X r.0 in
        split_unique r.1 r.0 t.before t.block t.after u.before u.block u.after (subst F t.joined r.2) joined at

    pub taken_segment-same : taken_segment st.fit n t.block ≡ taken_segment st.fit n u.block
    taken_segment-same = ap (taken_segment st.fit n) same.1

    pub changed-same : (owner : ℕ) → with_cut t owner ≡ with_cut u owner
    changed-same owner = ap₂ (λ P R. P ++ R) same.0 (ap₂ (λ b Q. cut_block st.fit n owner b ++ Q) same.1 same.2)

  -- a list in which no block fits up st has none that is taken
  -- the strategy is in effect in the same way
  pub effect-same : (S : Memory) (start : ℕ) (st : Strategy) (n : ℕ) (L : List Header) → IsArena S start L →
      (t : Taking up S start st n) → in_effect up t.list st ≡ in_effect up L st
  effect-same S start st n L a t = ap (λ X. in_effect up X st) (arena_unique S start t.list L t.arena a)

  pub none_taken : (S : Memory) (start : ℕ) (st : Strategy) (n : ℕ) (L : List Header) → IsArena S start L →
      ((b : Header) → IsIn b (join up L) → IsTrue (fits up (in_effect up L st) n b) → ⊥) → Taking up S start st n → ⊥
  none_taken S start st n L a none t =
      let F : List Header → Type 0 = λ X. IsIn t.block X in
      let e : join up L ≡ t.before ++ t.block ∷ t.after = ap (join up) (arena_unique S start L t.list a t.arena)
      ∙ t.joined in
      let G : Strategy → Type 0 = λ s. IsTrue (fits up s n t.block) in
      none t.block (subst F (sym e) (in_middle t.before t.block t.after))
      (subst G (effect-same S start st n L a t) t.fit.fit)

  -- an allocation is served or refused
  served_refused : (S : Memory) (st : Strategy) (n owner : ℕ) (t : Taking up S first_header st n) →
      IsClear S (with_cut t owner) → (e : ArenaRefusal) → AllocateRefused up S first_header st n owner e → ⊥
  served_refused S st n owner t k Destroyed (inl none) = none t.list t.arena
  served_refused S st n owner t k Destroyed (inr r) = (let F : List Header → Type 0 = λ X. IsClear S X in
      r.1 (subst F (changed-same S first_header st n t r.0 owner) k))
  served_refused S st n owner t k (Short most) r = none_taken S first_header st n r.0 r.1 r.3 t
  served_refused S st n owner t k NoBlock r = r

  destroyed_short : (S : Memory) (st : Strategy) (n owner most : ℕ) →
      AllocateRefused up S first_header st n owner Destroyed → AllocateRefused up S first_header st n owner
      (Short most) → ⊥
  destroyed_short S st n owner most (inl none) r = none r.0 r.1
  destroyed_short S st n owner most (inr d) r = none_taken S first_header st n r.0 r.1 r.3 d.0

  refused_same : (S : Memory) (st : Strategy) (n owner : ℕ) (d e : ArenaRefusal) →
      AllocateRefused up S first_header st n owner d → AllocateRefused up S first_header st n owner e → d ≡ e
  refused_same S st n owner Destroyed Destroyed x y = refl
  refused_same S st n owner Destroyed (Short most) x y = absurd (destroyed_short S st n owner most x y)
  refused_same S st n owner Destroyed NoBlock x y = absurd y
  refused_same S st n owner (Short most) Destroyed x y = absurd (destroyed_short S st n owner most y x)
  refused_same S st n owner (Short most) (Short least) x y = ap (λ (z : ℕ). Short z) (x.2
      ∙ ap (λ X. largest up (in_effect up X st) (join up X)) (arena_unique S first_header x.0 y.0 x.1 y.1) ∙ sym y.2)
  refused_same S st n owner (Short most) NoBlock x y = absurd y
  refused_same S st n owner NoBlock e x y = absurd x

  pub allocation_unique : (S : Memory) (st : Strategy) (n owner : ℕ) (r q : Result ℕ ArenaRefusal) (T U : Memory) →
      Allocates up S st n owner r T → Allocates up S st n owner q U → (r ≡ q) × (T ≡ U)
  allocation_unique S st n owner (Ok a) (Ok b) T U x y =
      let F : List Header → Type 0 = λ X. Becomes S first_header X U in (
        ap (λ (z : ℕ). Ok z) (x.1 ∙ ap (λ z. z + 1) (taken_segment-same S first_header st n x.0 y.0) ∙ sym y.1),
        becomes_unique S first_header _ T U x.2 (subst F (sym (changed-same S first_header st n x.0 y.0 owner)) y.2),
      )
  allocation_unique S st n owner (Ok a) (Err e) T U x y = absurd (served_refused S st n owner x.0 x.2.clear e y.1)
  allocation_unique S st n owner (Err e) (Ok b) T U x y = absurd (served_refused S st n owner y.0 y.2.clear e x.1)
  allocation_unique S st n owner (Err d) (Err e) T U x y =
      (ap (λ (z : ArenaRefusal). Err z) (refused_same S st n owner d e x.1 y.1), x.0 ∙ sym y.0)

  freed-same : (S : Memory) (segment : ℕ) (b c : BlockAt up S first_header segment) → b.before ++ freed b.block
      ∷ b.after ≡ c.before ++ freed c.block ∷ c.after
  freed-same S segment b c =
      let s = split_at S b.list c.list b.before b.block b.after c.before c.block c.after segment b.arena c.arena b.is
      c.is b.at c.at in
      ap₂ (λ P R. P ++ R) s.0 (ap₂ (λ z Q. freed z ∷ Q) s.1 s.2)

  freed_refused : (S : Memory) (segment : ℕ) (b : BlockAt up S first_header segment) (e : ArenaRefusal) →
      FreeRefused up S first_header segment e → ⊥
  freed_refused S segment b Destroyed r = r b.list b.arena
  freed_refused S segment b (Short most) r = r
  freed_refused S segment b NoBlock r = (let F : List Header → Type 0 = λ X. IsNoBlock up X segment in
      no_block up b.list b.before b.block b.after segment b.is b.at b.other
      (subst F (arena_unique S first_header r.0 b.list r.1 b.arena) r.2))

  free_refused_same : (S : Memory) (segment : ℕ) (d e : ArenaRefusal) → FreeRefused up S first_header segment d →
      FreeRefused up S first_header segment e → d ≡ e
  free_refused_same S segment Destroyed Destroyed x y = refl
  free_refused_same S segment Destroyed NoBlock x y = absurd (x y.0 y.1)
  free_refused_same S segment NoBlock Destroyed x y = absurd (y x.0 x.1)
  free_refused_same S segment NoBlock NoBlock x y = refl
  free_refused_same S segment (Short most) e x y = absurd x
  free_refused_same S segment Destroyed (Short most) x y = absurd y
  free_refused_same S segment NoBlock (Short most) x y = absurd y

  pub freeing_unique : (S : Memory) (segment : ℕ) (r q : Result (Unit {0}) ArenaRefusal) (T U : Memory) →
      Frees up S segment r T → Frees up S segment q U → (r ≡ q) × (T ≡ U)
  freeing_unique S segment (Ok a) (Ok b) T U x y =
      let F : List Header → Type 0 = λ X. Becomes S first_header X U in
      (refl, becomes_unique S first_header _ T U x.1 (subst F (sym (freed-same S segment x.0 y.0)) y.1))
  freeing_unique S segment (Ok a) (Err e) T U x y = absurd (freed_refused S segment x.0 e y.1)
  freeing_unique S segment (Err e) (Ok b) T U x y = absurd (freed_refused S segment y.0 e x.1)
  freeing_unique S segment (Err d) (Err e) T U x y =
      (ap (λ (z : ArenaRefusal). Err z) (free_refused_same S segment d e x.1 y.1), x.0 ∙ sym y.0)

  -- the block at a segment with the free blocks right after it
  head-free : (r : Header) (Q R X : List Header) → Q ≡ r ∷ X → BeginsTaken up Q → is_free up r ≡ true → ⊥
  head-free r Q R X e t f = (let F : List Header → Type 0 = λ Y. BeginsTaken up Y in let z : is_free up r ≡ false =
      subst F e t in let w : true ≡ false = sym f ∙ z in cc)

  free_unique : (R Q R' Q' : List Header) → R ++ Q ≡ R' ++ Q' → AllFree up R → AllFree up R' → BeginsTaken up Q →
      BeginsTaken up Q' → (R ≡ R') × (Q ≡ Q')
  free_unique [] Q [] Q' e f f' t t' = (refl, e)
  free_unique [] Q (r ∷ R') Q' e f f' t t' = absurd (head-free r Q [] (R' ++ Q') e t f'.0)
  free_unique (r ∷ R) Q [] Q' e f f' t t' = absurd (head-free r Q' [] (R ++ Q) (sym e) t' f.0)
  free_unique (r ∷ R) Q (r' ∷ R') Q' e f f' t t' = (let x = free_unique R Q R' Q' (tail-same _ _ _ _ e) f.1 f'.1 t t' in
      (ap₂ (λ y z. y ∷ z) (head-same _ _ _ _ e) x.0, x.1))

  module _ (S : Memory) (segment : ℕ) (b c : BlockAndFreeAt up S first_header segment) where
    split : (b.before ≡ c.before) × (b.block ≡ c.block) × (b.free_after ++ b.after ≡ c.free_after ++ c.after)
    split = split_at S b.list c.list b.before b.block (b.free_after ++ b.after) c.before c.block (c.free_after
        ++ c.after) segment b.arena c.arena b.is c.is b.at c.at

    after-same : (b.free_after ≡ c.free_after) × (b.after ≡ c.after)
    after-same = free_unique b.free_after b.after c.free_after c.after split.2 b.free c.free b.stops c.stops

    absorbed-same : absorb b.block b.free_after ≡ absorb c.block c.free_after
    absorbed-same = ap₂ (λ x R. absorb x R) split.1 after-same.0

    size-same : (absorb b.block b.free_after).size ≡ (absorb c.block c.free_after).size
    size-same = ap (λ x. x.size) absorbed-same

    resized-same : (n : ℕ) → resized b n ≡ resized c n
    resized-same n = ap₂ (λ P R. P ++ R) split.0 (ap₂ (λ C Q. C
        ++ Q) (ap₂ (λ o x. cut_low n o x) (ap (λ x. x.owner) split.1) absorbed-same) after-same.1)

  grown_refused : (S : Memory) (segment n : ℕ) (b : BlockAndFreeAt up S first_header segment) →
      n ≤ (absorb b.block b.free_after).size → IsClear S (resized b n) → (e : ArenaRefusal) →
      ResizeRefused up S first_header segment n e → ⊥
  grown_refused S segment n b h k Destroyed (inl none) = none b.list b.arena
  grown_refused S segment n b h k Destroyed (inr r) = (let F : List Header → Type 0 = λ X. IsClear S X in
      r.2 (subst F (resized-same S segment b r.0 n) k))
  grown_refused S segment n b h k (Short most) r = (let x = size-same S segment b r.0 in let y = r.1 in let z = r.2 in
      omega arith)
  grown_refused S segment n b h k NoBlock r = (let F : List Header → Type 0 = λ X. IsNoBlock up X segment in
      no_block up b.list b.before b.block (b.free_after ++ b.after) segment b.is b.at b.other
      (subst F (arena_unique S first_header r.0 b.list r.1 b.arena) r.2))

  grown_none : (S : Memory) (segment n : ℕ) (b : BlockAndFreeAt up S first_header segment) →
      ResizeRefused up S first_header segment n NoBlock → ⊥
  grown_none S segment n b r = (let F : List Header → Type 0 = λ X. IsNoBlock up X segment in
      no_block up b.list b.before b.block (b.free_after ++ b.after) segment b.is b.at b.other
      (subst F (arena_unique S first_header r.0 b.list r.1 b.arena) r.2))

  resize_destroyed_short : (S : Memory) (segment n most : ℕ) → ResizeRefused up S first_header segment n Destroyed →
      ResizeRefused up S first_header segment n (Short most) → ⊥
  resize_destroyed_short S segment n most (inl none) r = none r.0.list r.0.arena
  resize_destroyed_short S segment n most (inr d) r = (let x = size-same S segment d.0 r.0 in let h = d.1 in let y =
      r.1 in let z = r.2 in omega arith)

  resize_destroyed_none : (S : Memory) (segment n : ℕ) → ResizeRefused up S first_header segment n Destroyed →
      ResizeRefused up S first_header segment n NoBlock → ⊥
  resize_destroyed_none S segment n (inl none) r = none r.0 r.1
  resize_destroyed_none S segment n (inr d) r = grown_none S segment n d.0 r

  resize_refused_same : (S : Memory) (segment n : ℕ) (d e : ArenaRefusal) →
      ResizeRefused up S first_header segment n d → ResizeRefused up S first_header segment n e → d ≡ e
  resize_refused_same S segment n Destroyed Destroyed x y = refl
  resize_refused_same S segment n Destroyed (Short most) x y = absurd (resize_destroyed_short S segment n most x y)
  resize_refused_same S segment n Destroyed NoBlock x y = absurd (resize_destroyed_none S segment n x y)
  resize_refused_same S segment n (Short most) Destroyed x y = absurd (resize_destroyed_short S segment n most y x)
  resize_refused_same S segment n (Short most) (Short least) x y = ap (λ (z : ℕ). Short z) (x.1
      ∙ size-same S segment x.0 y.0 ∙ sym y.1)
  resize_refused_same S segment n (Short most) NoBlock x y = absurd (grown_none S segment n x.0 y)
  resize_refused_same S segment n NoBlock Destroyed x y = absurd (resize_destroyed_none S segment n y x)
  resize_refused_same S segment n NoBlock (Short most) x y = absurd (grown_none S segment n y.0 x)
  resize_refused_same S segment n NoBlock NoBlock x y = refl

  pub resizing_unique : (S : Memory) (segment n : ℕ) (r q : Result (Unit {0}) ArenaRefusal) (T U : Memory) →
      Resizes up S segment n r T → Resizes up S segment n q U → (r ≡ q) × (T ≡ U)
  resizing_unique S segment n (Ok a) (Ok b) T U x y =
      let F : List Header → Type 0 = λ X. Becomes S first_header X U in
      (refl, becomes_unique S first_header _ T U x.2 (subst F (sym (resized-same S segment x.0 y.0 n)) y.2))
  resizing_unique S segment n (Ok a) (Err e) T U x y = absurd (grown_refused S segment n x.0 x.1 x.2.clear e y.1)
  resizing_unique S segment n (Err e) (Ok b) T U x y = absurd (grown_refused S segment n y.0 y.1 y.2.clear e x.1)
  resizing_unique S segment n (Err d) (Err e) T U x y =
      (ap (λ (z : ArenaRefusal). Err z) (resize_refused_same S segment n d e x.1 y.1), x.0 ∙ sym y.0)

  -- the second list goes with the first, or it does not
  parted_once : (S : Memory) (L M : List Header) → IsArena S first_header L → IsArena S first_header M →
      is_parted up L ≡ false → is_parted up M ≡ true → ⊥
  parted_once S L M a b n y = absurd (let x : false ≡ true = sym n
      ∙ ap (is_parted up) (arena_unique S first_header L M a b) ∙ y in cc)

  both_unique : (S : Memory) (owner : ℕ) (T U : Memory) → ReleasesBoth up S owner T → ReleasesBoth up S owner U → T ≡ U
  both_unique S owner T U x y =
      let first : x.first ≡ y.first = arena_unique S first_header x.first y.first x.arena y.arena in
      let second : x.second ≡ y.second = chain_unique S link_header x.second y.second x.behind.0 y.behind.0 in
      let L : List Header = released owner x.first in
      let M : List Header = released owner x.second in
      let F : List Header → Type 0 = λ X. IsChain U first_header (released owner X) in
      let G : List Header → Type 0 = λ X. IsChain U link_header (released owner X) in
      let a : IsChain U first_header L = subst F (sym first) y.first_chain in
      let b : IsChain U link_header M = subst G (sym second) y.second_chain in
      let D : List Header → Type 0 = λ X. DiffersInHeaders S X U in
      let d : DiffersInHeaders S (L ++ M) U = subst D (ap₂ (λ X Y. released owner X
      ++ released owner Y) (sym first) (sym second)) y.differs in
      differs_unique S (L ++ M) T U x.differs d (λ g k w small. elim (has_either L M g w) [
        | inl l ↦ spelled_bytes T U first_header L x.first_chain.1 a.1 g k l small
        | inr r ↦ spelled_bytes T U link_header M x.second_chain.1 b.1 g k r small
      ])

  released_same : (S : Memory) (owner : ℕ) (T U : Memory) → ReleasesOne up S owner T ⊎ ReleasesBoth up S owner T →
      ReleasesOne up S owner U ⊎ ReleasesBoth up S owner U → T ≡ U
  released_same S owner T U (inl x) (inl y) =
      let F : List Header → Type 0 = λ X. Becomes S first_header (released owner X) U in
      becomes_unique S first_header _ T U x.becomes
      (subst F (sym (arena_unique S first_header x.list y.list x.arena y.arena)) y.becomes)
  released_same S owner T U (inl x) (inr y) = absurd (parted_once S x.list y.first x.arena y.arena x.alone y.parted)
  released_same S owner T U (inr x) (inl y) = absurd (parted_once S y.list x.first y.arena x.arena y.alone x.parted)
  released_same S owner T U (inr x) (inr y) = both_unique S owner T U x y

  not_released : (S : Memory) (owner : ℕ) (T : Memory) → ReleasesOne up S owner T ⊎ ReleasesBoth up S owner T →
      ReleaseRefused up S → ⊥
  not_released S owner T (inl x) (inl none) = none x.list x.arena
  not_released S owner T (inl x) (inr r) = parted_once S x.list r.0 x.arena r.1 x.alone r.2
  not_released S owner T (inr x) (inl none) = none x.first x.arena
  not_released S owner T (inr x) (inr r) =
      let F : List Header → Type 0 = λ X. IsArenaBehind S X link_header x.second in
      r.3 x.second (subst F (arena_unique S first_header x.first r.0 x.arena r.1) x.behind)

  pub releasing_unique : (S : Memory) (owner : ℕ) (r q : Result (Unit {0}) ArenaRefusal) (T U : Memory) →
      Releases up S owner r T → Releases up S owner q U → (r ≡ q) × (T ≡ U)
  releasing_unique S owner (Ok a) (Ok b) T U x y = (refl, released_same S owner T U x y)
  releasing_unique S owner (Ok a) (Err e) T U x y = absurd (not_released S owner T x y.2)
  releasing_unique S owner (Err e) (Ok b) T U x y = absurd (not_released S owner U y x.2)
  releasing_unique S owner (Err d) (Err e) T U x y = (ap (λ (z : ArenaRefusal). Err z) (x.1 ∙ sym y.1), x.0 ∙ sym y.0)
