-- Function 58h with AL = 2 and 3: whether the list of conventional memory is linked with that of upper memory, and
-- how it is linked and unlinked.
-- MS-DOS Programmer's Reference, function 58h, AL = 2 and 3.
use Rattle.std.specs.Prelude.{◌≡◌, ℕ, Bool, true, false, List, [], ◌∷◌, ◌++◌, ◌⊎◌, Result, Ok, Err}
use Rattle.dm_space.specs.Memory.{Memory}
use Rattle.dm_blocks.specs.declared.header.Header.{Header}
use Rattle.dm_arena.specs.declared.refusal.ArenaRefusal.{ArenaRefusal}
use Rattle.dm_arena.specs.declared.refusal.ArenaRefusal.TheVariants.{Destroyed}
use Rattle.dm_blocks.specs.Chain.{Becomes, IsArena, IsArenaBehind, NoArena, NoArenaBehind, first_header, is_linked, link_header, next}

-- function 5802h: true if the first block list is linked with upper memory; `Destroyed` if S spells no clear list
abbrev pub TellsLinked : Memory → Result Bool ArenaRefusal → Type 0
TellsLinked S (Ok on) = (L : List Header) × IsArena S first_header L × (on ≡ is_linked L)
TellsLinked S (Err e) = (e ≡ Destroyed) × NoArena S first_header

-- the last block of L ends at the segment
abbrev pub EndsAt : List Header → ℕ → Type 0
EndsAt [] segment = ⊥
EndsAt (b ∷ []) segment = next b ≡ segment
EndsAt (b ∷ c ∷ L) segment = EndsAt (c ∷ L) segment

-- the first header of L stands at the segment
abbrev pub BeginsAt : List Header → ℕ → Type 0
BeginsAt [] segment = ⊥
BeginsAt (b ∷ L) segment = b.segment ≡ segment

-- the list already is linked, or unlinked, as `on` asks, and memory stays
pub record IsSo (S : Memory) (on : Bool) (T : Memory) : Type 0 where
  pub list : List Header
  pub arena : IsArena S first_header list
  pub is : is_linked list ≡ on
  pub same : T ≡ S

-- the first list, not linked, ends at the link block's header, where S spells a second list that is clear together
-- with it; in T both are one list
pub record BecomesLinked (S T : Memory) : Type 0 where
  pub first : List Header
  pub second : List Header
  pub arena : IsArena S first_header first
  pub parted : is_linked first ≡ false
  pub ends : EndsAt first link_header
  pub behind : IsArenaBehind S first link_header second
  pub becomes : Becomes S first_header (first ++ second) T

-- the list, which is linked, ends in T before the link block's header: what follows is no longer part of it
pub record BecomesUnlinked (S T : Memory) : Type 0 where
  pub before : List Header
  pub after : List Header
  pub arena : IsArena S first_header (before ++ after)
  pub begins : BeginsAt after link_header
  pub becomes : Becomes S first_header before T

-- why linking (true) or unlinking (false) fails: S spells no clear list; or, to link, the list is not linked and
-- doesn't end at the link block's header, or S spells no second list there that is clear together with it
abbrev pub LinkRefused : Memory → Bool → Type 0
LinkRefused S true = NoArena S first_header ⊎ ((L : List Header) × IsArena S first_header L × (is_linked L ≡ false) ×
    (EndsAt L link_header → NoArenaBehind S L link_header))
LinkRefused S false = NoArena S first_header

-- function 5803h: the first list is linked with upper memory (true) or unlinked (false), from memory S to memory T;
-- an error leaves memory unchanged
abbrev pub Links : Memory → Bool → Result (Unit {0}) ArenaRefusal → Memory → Type 0
Links S true (Ok u) T = IsSo S true T ⊎ BecomesLinked S T
Links S false (Ok u) T = IsSo S false T ⊎ BecomesUnlinked S T
Links S on (Err e) T = (T ≡ S) × (e ≡ Destroyed) × LinkRefused S on
