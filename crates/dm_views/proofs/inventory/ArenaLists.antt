-- The records of the first list, and those of the second one behind them.
use Rattle.std.proofs.Common.{◌≡◌, ℕ, Bool, true, false, List, [], ◌++◌, Option, Some, None, refl, sym, ◌∙◌, ap, ap₂, subst, append_assoc}
use Rattle.std.specs.Prelude.{◌&&◌, not}
use Rattle.dm_space.specs.Memory.{Memory}
use Rattle.dm_blocks.specs.declared.header.Header.{Header}
use Rattle.dm_blocks.specs.Chain.{first_header, link_header, is_linked, IsArena, is_parted}
use Rattle.dm_blocks.specs.Listing.{Walking, IsBehind, start_of}
use Rattle.dm_blocks.specs.Reading.{IsSpelledFrom}
use Rattle.dm_views.specs.declared.inventory.arena.ArenaBlock.{ArenaBlock}
use Rattle.dm_views.specs.declared.inventory.arena.Walked.{Walked}
use Rattle.dm_views.specs.declared.inventory.arena.Walked.TheVariants.{Over, Broken}
use Rattle.dm_views.specs.inventory.Arena.{IsWhole, IsListed, whole, cut_short, IsListedArena, destroyed, alone, parted}
use Rattle.dm_views.specs.inventory.inner.Telling.{AreWalked, TellsList, end_of}

-- ---- the second list

-- the records of the second list stand behind what stood there
abbrev pub HasSecond : Memory → List ArenaBlock → List ArenaBlock → Option ℕ → Type 0
HasSecond m old new broken = (records : List ArenaBlock) × (new ≡ old ++ records) ×
    ((L : List Header) → IsArena m first_header L → IsListed m L link_header 1 records broken)

of_walk : (w : Walking) (F : List Header) (walked : Walked) (records : List ArenaBlock) →
    AreWalked w F 1 walked records → IsListed w.memory F (start_of w.second) 1 records (end_of walked)
of_walk w F (Broken at) records x = cut_short at x refl
of_walk w F (Over v) records x = whole x.3.0 x.3.1 refl

pub second_told : (m : Memory) (w : Walking) (walked : Walked) (old new : List ArenaBlock) → w.memory ≡ m →
    w.second ≡ true → TellsList w 1 walked old new → HasSecond m old new (end_of walked)
second_told m w walked old new same second x = (
  x.0,
  x.1,
  λ L a.
      (let here : IsArena w.memory first_header L = subst (λ (y : Memory). IsArena y first_header L) (sym same) a in
      let behind : IsBehind w.memory w.second L = subst (λ (b : Bool). IsBehind w.memory b L) (sym second) here in
      let told : IsListed w.memory L (start_of w.second) 1 x.0 (end_of walked) =
      of_walk w L walked x.0 (x.2 L behind) in
      subst (λ (y : Memory). IsListed y L link_header 1 x.0 (end_of walked)) same
      (subst (λ (b : Bool). IsListed w.memory L (start_of b) 1 x.0 (end_of walked)) second told)),
)

-- ---- the first list

-- the records of the arena stand behind what stood there
abbrev pub HasRecords : Bool → Memory → List ArenaBlock → List ArenaBlock → Option ℕ → Type 0
HasRecords upper m old new broken = (records : List ArenaBlock) × (new ≡ old ++ records) ×
    IsListedArena upper m records broken

-- what is told of the first list
first_told : (m : Memory) (w : Walking) (walked : Walked) (records : List ArenaBlock) → w.memory ≡ m →
    w.second ≡ false → ((F : List Header) → IsBehind w.memory w.second F → AreWalked w F 0 walked records) →
    AreWalked (record { memory = m; second = false; at = w.at }) [] 0 walked records
first_told m w walked records same second x =
    let T : Memory → Bool → Type 0 = λ y b. ((F : List Header) → IsBehind y b F →
    AreWalked (record { memory = y; second = b; at = w.at }) F 0 walked records) in
    let there : T m false = subst (λ (y : Memory). T y false) same (subst (λ (b : Bool). T w.memory b) second x) in
    there [] refl

arena_of : (m : Memory) (L : List Header) (records : List ArenaBlock) → IsWhole m [] first_header 0 L records →
    IsArena m first_header L
arena_of m L records x = (x.spelled.0, x.spelled.1)

spelled_of : (m : Memory) (L : List Header) → IsArena m first_header L → IsSpelledFrom m first_header L
spelled_of m L a = record { nonempty = a.0.0; spells = a.0.1 }

pub destroyed_told : (upper : Bool) (m : Memory) (w : Walking) (at : ℕ) (walked : Walked) (old new : List ArenaBlock) →
    w.memory ≡ m → w.second ≡ false → walked ≡ Broken at → TellsList w 0 walked old new →
    HasRecords upper m old new (Some at)
destroyed_told upper m w at walked old new same second broken x =
    let told = first_told m w walked x.0 same second x.2 in (
      x.0,
      x.1,
      destroyed at (subst (λ (o : Walked). AreWalked (record {
        memory = m;
        second = false;
        at = w.at;
      }) [] 0 o x.0) broken told) refl,
    )

-- whether the lists are apart, as the code asks it
abbrev pub TellsParted : Bool → Memory → Bool → Type 0
TellsParted upper m r = (L : List Header) → IsArena m first_header L → is_parted upper L ≡ r

pub parted_never : (upper : Bool) (m : Memory) → upper ≡ false → TellsParted upper m false
parted_never upper m off L a = ap (λ (b : Bool). b && not (is_linked L)) off

pub parted_by : (upper linked r : Bool) (m : Memory) → upper ≡ true → ((L : List Header) →
    IsSpelledFrom m first_header L → linked ≡ is_linked L) → linked ≡ r → TellsParted upper m (not r)
parted_by upper linked r m on tells is L a = ap₂ (λ (b c : Bool). b && not c) on (sym (tells L (spelled_of m L a)) ∙ is)

-- the first list is whole
walked_over : (m : Memory) (w v : Walking) (walked : Walked) (records : List ArenaBlock) → w.memory ≡ m →
    w.second ≡ false → walked ≡ Over v → ((F : List Header) → IsBehind w.memory w.second F →
    AreWalked w F 0 walked records)
    → AreWalked (record { memory = m; second = false; at = w.at }) [] 0 (Over v) records
walked_over m w v walked records same second is x =
    subst (λ (o : Walked). AreWalked (record { memory = m; second = false; at = w.at }) [] 0 o records) is
    (first_told m w walked records same second x)

pub alone_told : (upper : Bool) (m : Memory) (w v : Walking) (walked : Walked) (old new : List ArenaBlock) →
    w.memory ≡ m → w.second ≡ false → walked ≡ Over v → TellsList w 0 walked old new → TellsParted upper m false →
    HasRecords upper m old new None
alone_told upper m w v walked old new same second some x apart =
    let told = walked_over m w v walked x.0 same second some x.2 in
    let L = told.3.0 in
    (x.0, x.1, alone L told.3.1 (apart L (arena_of m L x.0 told.3.1)) refl)

two_lists : (upper : Bool) (m : Memory) (L : List Header) (first second : List ArenaBlock) (broken : Option ℕ) →
    IsWhole m [] first_header 0 L first → is_parted upper L ≡ true → IsListed m L link_header 1 second broken →
    IsListedArena upper m (first ++ second) broken
two_lists upper m L first second broken w p s = parted L first second w p s refl

pub parted_told : (upper : Bool) (m : Memory) (w v : Walking) (walked : Walked) (old new all : List ArenaBlock)
    (broken : Option ℕ) → w.memory ≡ m → w.second ≡ false → walked ≡ Over v → TellsList w 0 walked old new →
    TellsParted upper m true → HasSecond v.memory new all broken → HasRecords upper m old all broken
parted_told upper m w v walked old new all broken same second some x apart s =
    let told = walked_over m w v walked x.0 same second some x.2 in
    let L = told.3.0 in
    let a = arena_of m L x.0 told.3.1 in
    let behind : HasSecond m new all broken = subst (λ (y : Memory). HasSecond y new all broken) told.0 s in (
      x.0 ++ behind.0,
      behind.1 ∙ ap (λ (y : List ArenaBlock). y ++ behind.0) x.1 ∙ append_assoc old x.0 behind.0,
      two_lists upper m L x.0 behind.0 broken told.3.1 (apart L a) (behind.2 L a),
    )
