-- The bytes that an instruction is written in, of all that spell it.
-- Source: Intel 8086 Family User's Manual, section 4 (several encodings of one instruction); which of them is chosen is
-- this machine's own (docs/DECISIONS.md).
use Rattle.std.specs.Prelude.{◌≡◌, ℕ, false, List}
use Rattle.dm_ins.specs.declared.ins.Ins.{Ins}
use Rattle.dm_ins.specs.Ins.{Spells}
use Rattle.dm_ins.specs.Order.{before}

-- the preferred bytes of an instruction: no other spelling comes before them
pub record IsPreferred (i : Ins) (bytes : List ℕ) : Type 0 where
  pub spells : Spells i bytes
  pub least : (other : List ℕ) → Spells i other → before other bytes ≡ false
