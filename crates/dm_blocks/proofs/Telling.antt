-- Steps of a walk that goes to the end of its list.
use Rattle.std.proofs.Common.{◌≡◌, ℕ, ◌<◌, ◌≤◌, false, true, List, ◌∷◌, ◌++◌, [], refl, sym, ◌∙◌, subst, ap, arith, Bool, Option, Some, None, MatchBool}
use Rattle.std.specs.Prelude.{is_some}
use Rattle.dm_space.specs.Memory.{Memory}
use Rattle.dm_blocks.specs.declared.header.Header.{Header}
use Rattle.dm_blocks.specs.declared.header.ListedHeader.{ListedHeader}
use Rattle.dm_blocks.specs.declared.listing.Met.{Met}
use Rattle.dm_blocks.specs.declared.listing.Met.TheVariants.{Told, End, Destroyed}
use Rattle.dm_blocks.specs.Chain.{IsArena, IsArenaBehind, NoArena, NoArenaBehind, first_header, link_header, next}
use Rattle.dm_blocks.specs.Listing.{AreTold, IsBehind, IsMet, IsMetFrom, MeetsNext, Walking, start_of}
use Rattle.dm_blocks.specs.inner.Reading.{steps_left}
use Rattle.dm_blocks.specs.inner.Telling.{HasToldAll, IsBroken, IsToldAll}

-- v is a later state of the walk w, which has told nothing that breaks the list
module _ (w v : Walking) (memory : v.memory ≡ w.memory) (second : v.second ≡ w.second) (stands : (t : ℕ) ×
    (v.at ≡ Some t) × (t ≤ 0xFFFF)) (s : Met) (o : Option ℕ) (x : MeetsNext v s o) where
  behind : IsBehind w.memory w.second x.front
  behind =
      let G : Memory → Type 0 = λ y. IsBehind y v.second x.front in
      let H : Bool → Type 0 = λ y. IsBehind w.memory y x.front in
      subst H second (subst G memory x.behind)

  from : IsMetFrom w.memory x.front (start_of w.second) stands.0 s o
  from =
      let F : Option ℕ → Type 0 = λ y. IsMet v.memory x.front (start_of v.second) y s o in
      let G : Memory → Type 0 = λ y. IsMetFrom y x.front (start_of v.second) stands.0 s o in
      let H : Bool → Type 0 = λ y. IsMetFrom w.memory x.front (start_of y) stands.0 s o in
      subst H second (subst G memory (subst F stands.1 x.meets))

  leads : AreTold w.memory x.front (start_of w.second) (Some stands.0)
  leads =
      let F : Option ℕ → Type 0 = λ y. AreTold v.memory x.front (start_of v.second) y in
      let G : Memory → Type 0 = λ y. AreTold y x.front (start_of v.second) (Some stands.0) in
      let H : Bool → Type 0 = λ y. AreTold w.memory x.front (start_of y) (Some stands.0) in
      subst H second (subst G memory (subst F stands.1 x.told))

  at-step : (q : Met) → s ≡ q → IsMetFrom w.memory x.front (start_of w.second) stands.0 q o
  at-step q e = (let F : Met → Type 0 = λ y. IsMetFrom w.memory x.front (start_of w.second) stands.0 y o in
      subst F e from)

  pub not_ended : s ≡ End → ⊥
  not_ended e = at-step End e

  pub broken : (h : ℕ) → s ≡ Destroyed h → IsBroken w
  broken h e = record { front = x.front; behind = behind; none = (at-step (Destroyed h) e).2 }

  module _ (e : ListedHeader) (is : s ≡ Told e) where
    pub told_last : e.last ≡ true → IsToldAll w
    told_last last =
        let l = leads in
        let f = (at-step (Told e) is).1 l.0 l.1 in
        record { front = x.front; list = l.0 ++ e.header ∷ []; behind = behind; arena = f.1 last }

    pub ended : e.last ≡ true → o ≡ None
    ended last = (let y = (at-step (Told e) is).0 in y ∙ (rw last refl))

    goes : e.last ≡ false → o ≡ Some (next e.header)
    goes last = (let y = (at-step (Told e) is).0 in y ∙ (rw last refl))

    pub told_more : e.last ≡ false → (t : ℕ) × (o ≡ Some t) × (t ≤ 0xFFFF)
    told_more last =
        let l = leads in
        let f = (at-step (Told e) is).1 l.0 l.1 in
        (next e.header, goes last, f.0.header.fits)

    pub told_smaller : e.last ≡ false → steps_left o < steps_left v.at
    told_smaller last =
        let l = leads in
        let f = (at-step (Told e) is).1 l.0 l.1 in
        let at = f.0.at in
        let fits = f.0.header.fits in
        let F : Option ℕ → Type 0 = λ y. steps_left y < steps_left v.at in
        let G : Option ℕ → Type 0 = λ y. steps_left (Some (next e.header)) < steps_left y in
        subst F (sym (goes last)) (subst G (sym stands.1) (omega arith))

-- the first list
first-behind : (S : Memory) (b : Bool) (F : List Header) → b ≡ false → IsBehind S b F → F ≡ []
first-behind S b F e h = (let G : Bool → Type 0 = λ x. IsBehind S x F in subst G e h)

second-behind : (S : Memory) (b : Bool) (F : List Header) → b ≡ true → IsBehind S b F → IsArena S first_header F
second-behind S b F e h = (let G : Bool → Type 0 = λ x. IsBehind S x F in subst G e h)

first-told : (w : Walking) → w.second ≡ false → IsToldAll w → (L : List Header) × IsArena w.memory first_header L
first-told w e t =
    let G : Bool → Type 0 = λ x. IsArenaBehind w.memory t.front (start_of x) t.list in
    let H : List Header → Type 0 = λ X. IsArenaBehind w.memory X first_header t.list in
    let a = subst H (first-behind w.memory w.second t.front e t.behind) (subst G e t.arena) in
    (t.list, (a.0, a.1))

first-broken : (w : Walking) → w.second ≡ false → IsBroken w → NoArena w.memory first_header
first-broken w e b L a =
    let G : Bool → Type 0 = λ x. NoArenaBehind w.memory b.front (start_of x) in
    let H : List Header → Type 0 = λ X. NoArenaBehind w.memory X first_header in
    subst H (first-behind w.memory w.second b.front e b.behind) (subst G e b.none) L (a.0, a.1, λ g x y. x)

-- the second
second-told : (w : Walking) → w.second ≡ true → IsToldAll w → (L U : List Header) × IsArena w.memory first_header L ×
    IsArenaBehind w.memory L link_header U
second-told w e t =
    let G : Bool → Type 0 = λ x. IsArenaBehind w.memory t.front (start_of x) t.list in
    (t.front, t.list, second-behind w.memory w.second t.front e t.behind, subst G e t.arena)

second-broken : (w : Walking) → w.second ≡ true → IsBroken w → (L : List Header) × IsArena w.memory first_header L ×
    NoArenaBehind w.memory L link_header
second-broken w e b =
    let G : Bool → Type 0 = λ x. NoArenaBehind w.memory b.front (start_of x) in
    (b.front, second-behind w.memory w.second b.front e b.behind, subst G e b.none)

pub second-decides : (S : Memory) (w : Walking) (o : Option Walking) → w.memory ≡ S → w.second ≡ true → HasToldAll w o →
    MatchBool (is_some o) ((L U : List Header) × IsArena S first_header L × IsArenaBehind S L link_header U)
    ((L : List Header) × IsArena S first_header L × NoArenaBehind S L link_header)
second-decides S w None m s b =
    let G : Memory → Type 0 = λ y. (L : List Header) × IsArena y first_header L × NoArenaBehind y L link_header in
    subst G m (second-broken w s b)
second-decides S w (Some v) m s t =
    let G : Memory → Type 0 = λ y. (L U : List Header) × IsArena y first_header L × IsArenaBehind y L link_header U in
    subst G m (second-told w s t.3)

pub first-decides : (S : Memory) (w : Walking) (o : Option Walking) → w.memory ≡ S → w.second ≡ false → HasToldAll w o →
    MatchBool (is_some o) ((L : List Header) × IsArena S first_header L) (NoArena S first_header)
first-decides S w None m s b = (let G : Memory → Type 0 = λ y. NoArena y first_header in subst G m (first-broken w s b))
first-decides S w (Some v) m s t = (let G : Memory → Type 0 = λ y. (L : List Header) × IsArena y first_header L in
    subst G m (first-told w s t.3))

-- ---- the same by whether the walk has told all

pub second-told_all : (S : Memory) (w v : Walking) (b : Bool) → w.memory ≡ S → w.second ≡ true →
    MatchBool b (HasToldAll w (Some v)) (HasToldAll w None) →
    MatchBool b ((L U : List Header) × IsArena S first_header L × IsArenaBehind S L link_header U) ((L : List Header) ×
    IsArena S first_header L × NoArenaBehind S L link_header)
second-told_all S w v true m s h = second-decides S w (Some v) m s h
second-told_all S w v false m s h = second-decides S w None m s h

pub first-told_all : (S : Memory) (w v : Walking) (b : Bool) → w.memory ≡ S → w.second ≡ false →
    MatchBool b (HasToldAll w (Some v)) (HasToldAll w None) →
    MatchBool b ((L : List Header) × IsArena S first_header L) (NoArena S first_header)
first-told_all S w v true m s h = first-decides S w (Some v) m s h
first-told_all S w v false m s h = first-decides S w None m s h
