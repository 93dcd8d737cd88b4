-- The first list as text, and the second one behind it.
use Rattle.std.proofs.Common.{◌≡◌, ℕ, Bool, true, false, List, [], ◌++◌, Option, Some, None, refl, sym, ◌∙◌, ap, ap₂, subst, append_assoc}
use Rattle.std.specs.Prelude.{◌&&◌, not}
use Rattle.dm_space.specs.Memory.{Memory}
use Rattle.dm_blocks.specs.declared.header.Header.{Header}
use Rattle.dm_blocks.specs.Chain.{first_header, link_header, is_linked, IsArena, is_parted}
use Rattle.dm_blocks.specs.Listing.{Walking, IsBehind, start_of}
use Rattle.dm_blocks.specs.Reading.{IsSpelledFrom}
use Rattle.dm_views.specs.Arena.{unlinked_line, IsWhole, IsListText, whole, cut_short, IsArenaText, destroyed, alone, parted}
use Rattle.dm_views.specs.inner.Telling.{IsWalkText, TellsList}

-- ---- the second list

-- `unlinked` and the second list stand behind what stood there
abbrev pub HasSecond : Memory → List ℕ → List ℕ → Type 0
HasSecond m old new = (text : List ℕ) × (new ≡ old ++ (unlinked_line ++ text)) ×
    ((L : List Header) → IsArena m first_header L → IsListText m L link_header text)

of_walk : (w : Walking) (F : List Header) (rest : Option Walking) (text : List ℕ) → IsWalkText w F rest text →
    IsListText w.memory F (start_of w.second) text
of_walk w F None text x = cut_short x
of_walk w F (Some v) text x = whole x.3.0 x.3.1

pub second_told : (m : Memory) (w : Walking) (rest : Option Walking) (old between new : List ℕ) → w.memory ≡ m →
    w.second ≡ true → between ≡ old ++ unlinked_line → TellsList w rest between new → HasSecond m old new
second_told m w rest old between new same second e x = (
  x.0,
  x.1 ∙ ap (λ (y : List ℕ). y ++ x.0) e ∙ append_assoc old unlinked_line x.0,
  λ L a.
      (let here : IsArena w.memory first_header L = subst (λ (y : Memory). IsArena y first_header L) (sym same) a in
      let behind : IsBehind w.memory w.second L = subst (λ (b : Bool). IsBehind w.memory b L) (sym second) here in
      let told : IsListText w.memory L (start_of w.second) x.0 = of_walk w L rest x.0 (x.2 L behind) in
      subst (λ (y : Memory). IsListText y L link_header x.0) same (subst (λ (b : Bool). IsListText w.memory L
      (start_of b) x.0) second told)),
)

-- ---- the first list

-- the text of the arena stands behind what stood there
abbrev pub HasText : Bool → Memory → List ℕ → List ℕ → Type 0
HasText upper m old new = (text : List ℕ) × (new ≡ old ++ text) × IsArenaText upper m text

-- what is told of the first list
first_told : (m : Memory) (w : Walking) (rest : Option Walking) (text : List ℕ) → w.memory ≡ m → w.second ≡ false →
    ((F : List Header) → IsBehind w.memory w.second F → IsWalkText w F rest text) →
    IsWalkText (record { memory = m; second = false; at = w.at }) [] rest text
first_told m w rest text same second x =
    let T : Memory → Bool → Type 0 = λ y b. ((F : List Header) → IsBehind y b F →
    IsWalkText (record { memory = y; second = b; at = w.at }) F rest text) in
    let there : T m false = subst (λ (y : Memory). T y false) same (subst (λ (b : Bool). T w.memory b) second x) in
    there [] refl

arena_of : (m : Memory) (L : List Header) (text : List ℕ) → IsWhole m [] first_header L text → IsArena m first_header L
arena_of m L text x = (x.list.0, x.list.1)

spelled_of : (m : Memory) (L : List Header) → IsArena m first_header L → IsSpelledFrom m first_header L
spelled_of m L a = record { nonempty = a.0.0; spells = a.0.1 }

pub destroyed_told : (upper : Bool) (m : Memory) (w : Walking) (rest : Option Walking) (old new : List ℕ) →
    w.memory ≡ m → w.second ≡ false → rest ≡ None → TellsList w rest old new → HasText upper m old new
destroyed_told upper m w rest old new same second none x =
    let told = first_told m w rest x.0 same second x.2 in (
      x.0,
      x.1,
      destroyed (subst (λ (o : Option Walking). IsWalkText (record {
        memory = m;
        second = false;
        at = w.at;
      }) [] o x.0) none told),
    )

-- whether the lists are apart, as the code asks it
abbrev pub TellsParted : Bool → Memory → Bool → Type 0
TellsParted upper m r = (L : List Header) → IsArena m first_header L → is_parted upper L ≡ r

pub parted_never : (upper : Bool) (m : Memory) → upper ≡ false → TellsParted upper m false
parted_never upper m off L a = ap (λ (b : Bool). b && not (is_linked L)) off

pub parted_by : (upper linked r : Bool) (m : Memory) → upper ≡ true → ((L : List Header) →
    IsSpelledFrom m first_header L → linked ≡ is_linked L) → linked ≡ r → TellsParted upper m (not r)
parted_by upper linked r m on tells is L a = ap₂ (λ (b c : Bool). b && not c) on (sym (tells L (spelled_of m L a)) ∙ is)

pub alone_told : (upper : Bool) (m : Memory) (w v : Walking) (rest : Option Walking) (old new : List ℕ) → w.memory ≡ m →
    w.second ≡ false → rest ≡ Some v → TellsList w rest old new → TellsParted upper m false → HasText upper m old new
alone_told upper m w v rest old new same second some x apart =
    let told = subst (λ (o : Option Walking). IsWalkText (record { memory = m; second = false; at = w.at }) [] o x.0)
    some (first_told m w rest x.0 same second x.2) in
    let L = told.3.0 in
    (x.0, x.1, alone L told.3.1 (apart L (arena_of m L x.0 told.3.1)))

two_lists : (upper : Bool) (m : Memory) (L : List Header) (first second : List ℕ) → IsWhole m [] first_header L first →
    is_parted upper L ≡ true → IsListText m L link_header second → IsArenaText upper m (first
    ++ (unlinked_line ++ second))
two_lists upper m L first second w p s = parted L first second w p s refl

pub parted_told : (upper : Bool) (m : Memory) (w v : Walking) (rest : Option Walking) (old new all : List ℕ) →
    w.memory ≡ m → w.second ≡ false → rest ≡ Some v → TellsList w rest old new → TellsParted upper m true →
    HasSecond v.memory new all → HasText upper m old all
parted_told upper m w v rest old new all same second some x apart s =
    let told = subst (λ (o : Option Walking). IsWalkText (record { memory = m; second = false; at = w.at }) [] o x.0)
    some (first_told m w rest x.0 same second x.2) in
    let L = told.3.0 in
    let a = arena_of m L x.0 told.3.1 in
    let behind : HasSecond m new all = subst (λ (y : Memory). HasSecond y new all) told.0 s in (
      x.0 ++ (unlinked_line ++ behind.0),
      behind.1 ∙ ap (λ (y : List ℕ). y ++ (unlinked_line ++ behind.0)) x.1 ∙ append_assoc old x.0 (unlinked_line
          ++ behind.0),
      two_lists upper m L x.0 behind.0 told.3.1 (apart L a) (behind.2 L a),
    )
