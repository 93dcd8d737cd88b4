-- The headers of a pair of blocks. For private contracts and proofs alone.
use Rattle.std.specs.Prelude.{◌≤◌, MatchOption, ◌≡◌, ◌+◌, ◌⊎◌, ◌∷◌, ◌++◌}
use Rattle.dm_arena.specs.declared.cut.Cut.{Cut}
use Rattle.dm_blocks.specs.Chain.{next}
use Rattle.dm_arena.specs.Blocks.{cut_block}

-- the segment after each header's block of a cut is FFFFh at most
abbrev pub IsCutFitting : Cut → Type 0
IsCutFitting c = (next c.first ≤ 0xFFFF) × MatchOption c.second (Unit {0}) (λ d. next d ≤ 0xFFFF)
