-- Memory with other bytes in the blocks that no window shows: pages of expanded memory, which a program sees only
-- through a window of the frame (LIM EMS 4.0, section 2), and extended memory.
use Rattle.std.specs.Prelude.{◌≡◌, ℕ, suc, ◌==◌, ◌||◌, Bool, false, if◌then◌else◌, List, [], ◌∷◌, Option, Some, None}
use Rattle.dm_space.specs.declared.place.Place.{Place}
use Rattle.dm_space.specs.Memory.{Memory, place, peek, poke, byte_at, with_blocks}
use Rattle.dm_space.specs.Places.{IsShaped}

-- one of the windows shows the block
abbrev pub shows : List (Option ℕ) → ℕ → Bool
shows [] page = false
shows (None ∷ windows) page = shows windows page
shows (Some shown ∷ windows) page = (shown == page) || shows windows page

-- contents of blocks, the first of which has the number `first`: those that are seen stay, the others are taken from
-- `other`
abbrev pub mixed : (ℕ → Bool) → (ℕ → List ℕ) → ℕ → List (List ℕ) → List (List ℕ)
mixed seen other first [] = []
mixed seen other first (page ∷ pages) = (if seen first then page else other first) ∷ mixed seen other (suc first) pages

-- the memory with the contents of the blocks that no window shows taken from `other`
unfoldable pub unseen_as : Memory → (ℕ → List ℕ) → Memory
unseen_as m other = with_blocks m (record m.blocks { contents = mixed (shows m.windows) other 0 m.blocks.contents })

-- no read depends on the bytes of blocks that no window shows
abbrev pub ReadsIgnoreUnseen : Type 0
ReadsIgnoreUnseen = (m : Memory) (other : ℕ → List ℕ) (a : ℕ) → peek (unseen_as m other) a ≡ peek m a

-- a write leaves the blocks that no window shows as they are, and does not depend on their bytes
abbrev pub WritesKeepUnseen : Type 0
WritesKeepUnseen =
    (m : Memory) (other : ℕ → List ℕ) (a v : ℕ) → poke (unseen_as m other) a v ≡ unseen_as (poke m a v) other

-- a change of memory that no program sees: no read shows it, each write leaves it as it is, and it alters memories of
-- one shape alike: at a place where both have one byte, both have one byte after it
pub record IsUnseen (change : Memory → Memory) : Type 0 where
  pub a20 : (m : Memory) → (change m).a20 ≡ m.a20
  pub place_same : (m : Memory) (a : ℕ) → place (change m) a ≡ place m a
  pub peek_same : (m : Memory) (a : ℕ) → peek (change m) a ≡ peek m a
  pub poke_same : (m : Memory) (a v : ℕ) → poke (change m) a v ≡ change (poke m a v)
  pub shape_same : (S T : Memory) → IsShaped S T → IsShaped (change S) (change T)
  pub byte_same : (S T : Memory) (p : Place) → IsShaped S T → byte_at T p ≡ byte_at S p →
      byte_at (change T) p ≡ byte_at (change S) p

-- other bytes in the blocks that no window shows are a change that no program sees
abbrev pub UnseenPagesAreUnseen : Type 0
UnseenPagesAreUnseen = (other : ℕ → List ℕ) → IsUnseen (λ m. unseen_as m other)

-- a write to a linear address keeps the map: A20, the windows, which blocks there are, where they lie and how large
-- they are
abbrev pub WritesKeepTheMap : Type 0
WritesKeepTheMap = (m : Memory) (a v : ℕ) → IsShaped m (poke m a v)
