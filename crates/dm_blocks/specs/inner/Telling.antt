-- A walk that goes to the end of its list (`tell_all` of src/list.rt). For private contracts and proofs alone.
use Rattle.std.specs.Prelude.{List, None, Option, Some, ℕ, ◌≡◌}
use Rattle.dm_blocks.specs.declared.header.Header.{Header}
use Rattle.dm_blocks.specs.Chain.{IsArenaBehind, NoArenaBehind}
use Rattle.dm_blocks.specs.Listing.{IsBehind, Walking, start_of}

-- memory spells a whole list where the walk w goes, clear together with the list before it
pub record IsToldAll (w : Walking) : Type 0 where
  pub front : List Header
  pub list : List Header
  pub behind : IsBehind w.memory w.second front
  pub arena : IsArenaBehind w.memory front (start_of w.second) list

-- memory spells no list where the walk w goes that is clear together with the list before it
pub record IsBroken (w : Walking) : Type 0 where
  pub front : List Header
  pub behind : IsBehind w.memory w.second front
  pub none : NoArenaBehind w.memory front (start_of w.second)

-- the result of going on with the walk w to its end: the walk past its last header, over the same memory and list;
-- None if the list is broken
abbrev pub HasToldAll : Walking → Option Walking → Type 0
HasToldAll w None = IsBroken w
HasToldAll w (Some v) = (v.memory ≡ w.memory) × (v.second ≡ w.second) × (v.at ≡ None) × IsToldAll w
