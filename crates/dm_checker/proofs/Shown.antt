-- The first list and the second one behind it, as they are shown.
use Rattle.std.proofs.Common.{◌≡◌, ℕ, Bool, true, false, not, List, [], ◌++◌, map, Option, Some, None, Result, Ok, Err, refl, sym, ◌∙◌, ap, ap₂, subst, append_assoc}
use Rattle.std.specs.Prelude.{◌&&◌, All}
use Rattle.std.proofs.lemmas.List.{map-append}
use Rattle.std.proofs.lemmas.List.Elements.{All-append}
use Rattle.dm_space.specs.Memory.{Memory}
use Rattle.dm_blocks.specs.declared.header.Header.{Header}
use Rattle.dm_blocks.specs.Chain.{first_header, link_header, is_linked, is_parted, IsArena, IsArenaBehind}
use Rattle.dm_blocks.specs.Listing.{Walking, IsBehind}
use Rattle.dm_blocks.specs.Reading.{IsSpelledFrom}
use Rattle.dm_checker.specs.declared.arena_copy.HeaderCopy.{HeaderCopy}
use Rattle.dm_checker.specs.declared.arena_copy.Broken.{Broken}
use Rattle.dm_checker.specs.Shown.{IsCut, IsShown, cut, alone, parted, parted_cut}
use Rattle.dm_checker.specs.ArenaCopy.{header_of, broken_at, IsBits, IsHeaderCopy, IsBrokenIn}
use Rattle.dm_checker.specs.inner.ArenaCopy.{IsWalked, Collects, IsSecond, CollectsSecond, CollectsAll}

-- ---- a walk over a list of a memory

-- what is told of the list of a walk
walked_in : (m : Memory) (w : Walking) (second : Bool) (rest : Result Walking ℕ) (headers : List Header) →
    w.memory ≡ m → w.second ≡ second → ((F : List Header) → IsBehind w.memory w.second F → IsWalked w F rest headers) →
    (F : List Header) → IsBehind m second F → IsWalked (record {
      memory = m;
      second = second;
      at = w.at;
    }) F rest headers
walked_in m w second rest headers same begins x =
    let T : Memory → Bool → Type 0 = λ y b. ((F : List Header) → IsBehind y b F →
    IsWalked (record { memory = y; second = b; at = w.at }) F rest headers) in
    subst (λ (y : Memory). T y second) same (subst (λ (b : Bool). T w.memory b) begins x)

copies_in : (S m : Memory) (ws : List HeaderCopy) → S ≡ m → All (IsHeaderCopy S) ws → All (IsHeaderCopy m) ws
copies_in S m ws same a = (let F : Memory → Type 0 = λ y. All (IsHeaderCopy y) ws in subst F same a)

cut_at : (m : Memory) (F : List Header) (start : ℕ) (P : List Header) (at there : ℕ) → there ≡ at →
    IsCut m F start P at → IsCut m F start P there
cut_at m F start P at there e c = subst (λ (x : ℕ). IsCut m F start P x) (sym e) c

bits_there : (m : Memory) (at there bits : ℕ) → there ≡ at → IsBits m at bits → IsBits m there bits
bits_there m at there bits e c = subst (λ (x : ℕ). IsBits m x bits) (sym e) c

pub collects_at : (w : Walking) (rest result : Result Walking ℕ) (old new : List HeaderCopy) → rest ≡ result →
    Collects w rest old new → Collects w result old new
collects_at w rest result old new e x = subst (λ (r : Result Walking ℕ). Collects w r old new) e x

-- ---- the second list

pub second_whole : (m : Memory) (w v : Walking) (old new : List HeaderCopy) → w.memory ≡ m → w.second ≡ true →
    Collects w (Ok v) old new → CollectsSecond m None old new
second_whole m w v old new same second x = record {
  more = x.more;
  is = x.is;
  shown = λ F b. (walked_in m w true (Ok v) (map header_of x.more) same second x.walked F b).3;
  copies = copies_in w.memory m x.more same x.copies;
}

pub second_broken : (m : Memory) (w : Walking) (at : ℕ) (b : Broken) (old new : List HeaderCopy) → w.memory ≡ m →
    w.second ≡ true → Collects w (Err at) old new → b.segment ≡ at → IsBits m at b.bits →
    CollectsSecond m (Some b) old new
second_broken m w at b old new same second x there bits = record {
  more = x.more;
  is = x.is;
  shown = λ F behind. (
    cut_at m F link_header (map header_of x.more) at b.segment there (walked_in m w true (Err at)
        (map header_of x.more) same second x.walked F behind),
    bits_there m at b.segment b.bits there bits,
  );
  copies = copies_in w.memory m x.more same x.copies;
}

-- ---- the first list

arena_of : (m : Memory) (L : List Header) → IsArenaBehind m [] first_header L → IsArena m first_header L
arena_of m L a = (a.0, a.1)

spelled_of : (m : Memory) (L : List Header) → IsArena m first_header L → IsSpelledFrom m first_header L
spelled_of m L a = record { nonempty = a.0.0; spells = a.0.1 }

first_arena : (m : Memory) (w v : Walking) (old new : List HeaderCopy) → w.memory ≡ m → w.second ≡ false →
    (x : Collects w (Ok v) old new) → IsArena m first_header (map header_of x.more)
first_arena m w v old new same second x =
    arena_of m _ (walked_in m w false (Ok v) (map header_of x.more) same second x.walked [] refl).3

-- the first list is spelled
pub first_spelled : (m : Memory) (w v : Walking) (old new : List HeaderCopy) → w.memory ≡ m → w.second ≡ false →
    Collects w (Ok v) old new → (L : List Header) × IsSpelledFrom m first_header L
first_spelled m w v old new same second x = (
  map header_of x.more,
  spelled_of m _ (first_arena m w v old new same second x),
)

-- the walk that has told it is behind its end
pub first_over : (m : Memory) (w v : Walking) (old new : List HeaderCopy) → w.memory ≡ m → w.second ≡ false →
    Collects w (Ok v) old new → (v.memory ≡ m) × (v.second ≡ false) × (v.at ≡ None)
first_over m w v old new same second x =
    let t = walked_in m w false (Ok v) (map header_of x.more) same second x.walked [] refl in
    (t.0, t.1, t.2)

-- whether the lists are apart, as the code asks it
abbrev pub TellsParted : Bool → Memory → Bool → Type 0
TellsParted upper m r = (L : List Header) → IsArena m first_header L → is_parted upper L ≡ r

pub parted_never : (upper : Bool) (m : Memory) → upper ≡ false → TellsParted upper m false
parted_never upper m off L a = ap (λ (b : Bool). b && not (is_linked L)) off

pub parted_by : (upper linked r : Bool) (m : Memory) → upper ≡ true → ((L : List Header) →
    IsSpelledFrom m first_header L → linked ≡ is_linked L) → linked ≡ r → TellsParted upper m (not r)
parted_by upper linked r m on tells is L a = ap₂ (λ (b c : Bool). b && not c) on (sym (tells L (spelled_of m L a)) ∙ is)

-- ---- both

pub all_cut : (upper : Bool) (m : Memory) (w : Walking) (at : ℕ) (b : Broken) (old new : List HeaderCopy) →
    w.memory ≡ m → w.second ≡ false → Collects w (Err at) old new → b.segment ≡ at → IsBits m at b.bits →
    CollectsAll upper m (Some b) old new
all_cut upper m w at b old new same second x there bits = record {
  more = x.more;
  is = x.is;
  shown = cut b.segment (cut_at m [] first_header (map header_of x.more) at b.segment there
      (walked_in m w false (Err at) (map header_of x.more) same second x.walked [] refl)) refl;
  copies = copies_in w.memory m x.more same x.copies;
  there = bits_there m at b.segment b.bits there bits;
}

pub all_alone : (upper : Bool) (m : Memory) (w v : Walking) (old new : List HeaderCopy) → w.memory ≡ m →
    w.second ≡ false → Collects w (Ok v) old new → TellsParted upper m false → CollectsAll upper m None old new
all_alone upper m w v old new same second x apart =
    let a = first_arena m w v old new same second x in
    record {
      more = x.more;
      is = x.is;
      shown = alone a (apart _ a) refl;
      copies = copies_in w.memory m x.more same x.copies;
      there = tt;
    }

shown_second : (upper : Bool) (m : Memory) (L P headers : List Header) (broken : Option Broken) →
    IsArena m first_header L → is_parted upper L ≡ true → IsSecond m L broken P → headers ≡ L ++ P →
    IsShown upper m (record { headers = headers; broken = broken_at broken })
shown_second upper m L P headers None a p s is = parted L P a p s is refl
shown_second upper m L P headers (Some b) a p s is = parted_cut L P b.segment a p s.0 is refl

broken_there : (m : Memory) (L P : List Header) (broken : Option Broken) → IsSecond m L broken P → IsBrokenIn m broken
broken_there m L P None s = tt
broken_there m L P (Some b) s = s.1

pub all_parted : (upper : Bool) (m : Memory) (w v : Walking) (broken : Option Broken)
    (old between new : List HeaderCopy) →
    w.memory ≡ m → w.second ≡ false → Collects w (Ok v) old between → TellsParted upper m true →
    CollectsSecond m broken between new → CollectsAll upper m broken old new
all_parted upper m w v broken old between new same second x apart y =
    let a = first_arena m w v old between same second x in
    let s = y.shown (map header_of x.more) a in
    record {
      more = x.more ++ y.more;
      is = y.is ∙ ap (λ (z : List HeaderCopy). z ++ y.more) x.is ∙ append_assoc old x.more y.more;
      shown = shown_second upper m (map header_of x.more) (map header_of y.more) _ broken a (apart _ a) s
          (map-append header_of x.more y.more);
      copies = All-append (IsHeaderCopy m) x.more y.more (copies_in w.memory m x.more same x.copies) y.copies;
      there = broken_there m (map header_of x.more) (map header_of y.more) broken s;
    }
