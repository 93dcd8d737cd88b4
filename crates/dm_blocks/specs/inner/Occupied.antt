-- Which paragraphs of the EMS page frame have a header, as a walk records them: true or false for each of the 400h
-- paragraphs of each of the four windows. Where several windows show one block of the pool, those of the first of
-- them count. For private contracts and proofs alone.
use Rattle.std.specs.Prelude.{Bool, List, None, Option, Some, [], false, if◌then◌else◌, length, slice_index_or, suc, true, ℕ, ◌*◌, ◌++◌, ◌+◌, ◌/◌, ◌==◌, ◌∷◌, ◌≡◌, MatchBool}
use Rattle.dm_space.specs.declared.place.Place.TheVariants.{Page}
use Rattle.dm_space.specs.Memory.{Memory, place}
use Rattle.dm_blocks.specs.declared.header.Header.{Header}
use Rattle.dm_blocks.specs.Chain.{HasHeader, IsArena, first_header}
use Rattle.dm_blocks.specs.Listing.{IsBehind, Leads, Walking, start_of}
use Rattle.dm_blocks.specs.inner.Reading.{IsCursor}
use Rattle.dm_blocks.specs.inner.Standing.{MayStand}

-- whether a window with this content (a block of the pool, or None) shows the block
abbrev pub is_shown : Option ℕ → ℕ → Bool
is_shown None block = false
is_shown (Some shown) block = shown == block

-- the index of the first window that shows the block; the number of windows if none does
abbrev pub first_showing : List (Option ℕ) → ℕ → ℕ
first_showing [] block = 0
first_showing (window ∷ windows) block = if is_shown window block then 0 else suc (first_showing windows block)

-- the number in the frame of the paragraph of a byte of a block, in the first window that shows the block
abbrev pub frame_paragraph : Memory → ℕ → ℕ → ℕ
frame_paragraph S block offset = 0x400 * first_showing S.windows block + offset / 16

-- k is the number of the paragraph of one of the headers P, which stands in a page
pub record IsOccupiedBy (S : Memory) (P : List Header) (k : ℕ) : Type 0 where
  pub segment : ℕ
  pub block : ℕ
  pub offset : ℕ
  pub has : HasHeader P segment
  pub page : place S (16 * segment) ≡ Page block offset
  pub is : frame_paragraph S block offset ≡ k

-- there are 1000h paragraphs, and the occupied ones are exactly those of the headers P that stand in pages
pub record AreOccupied (S : Memory) (P : List Header) (occupied : List Bool) : Type 0 where
  pub size : length occupied ≡ 0x1000
  pub each : (segment block offset : ℕ) → HasHeader P segment → place S (16 * segment) ≡ Page block offset →
      slice_index_or occupied (frame_paragraph S block offset) false ≡ true
  pub only : (k : ℕ) → slice_index_or occupied k false ≡ true → IsOccupiedBy S P k

-- `FrameHeaders::admit`: true if a header at the segment may stand after the headers P, whose paragraphs are
-- occupied; then its own is occupied too, if it stands in a page. Else false, and nothing changes
abbrev pub Admits : Memory → ℕ → List Bool → Bool → List Bool → Type 0
Admits S segment old result new =
    (P : List Header) → AreOccupied S P old → (HasHeader P segment → ⊥) →
    MatchBool result
    (MayStand S P segment × ((b : Header) → b.segment ≡ segment → AreOccupied S (P ++ b ∷ []) new))
    ((MayStand S P segment → ⊥) × (new ≡ old))

-- what a walk that stands at segment t has occupied are the paragraphs of the headers passed so far and of F, and the
-- cursor goes over F. Past the end of the first list they are that list's; of a walk past the end of the second
-- nothing is said
abbrev pub FitsAt : Memory → Bool → List Header → Option ℕ → Option ℕ → List Bool → Type 0
FitsAt S second F (Some t) cursor occupied = (P : List Header) × Leads S F (start_of second) P t ×
    AreOccupied S (F ++ P) occupied × IsCursor S F cursor t
FitsAt S false F None cursor occupied = (L : List Header) × IsArena S first_header L × AreOccupied S L occupied
FitsAt S true F None cursor occupied = Unit {0}

-- the invariant of `Headers`: its occupied paragraphs and its cursor over the first list fit the walk w
abbrev pub FitsWalk : Walking → Option ℕ → List Bool → Type 0
FitsWalk w cursor occupied = (F : List Header) × IsBehind w.memory w.second F ×
    FitsAt w.memory w.second F w.at cursor occupied
