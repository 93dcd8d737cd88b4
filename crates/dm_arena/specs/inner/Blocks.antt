-- The headers of a cut block. For private contracts and proofs alone.
use Rattle.std.specs.Prelude.{List, option_to_list, ◌∷◌, if◌then◌else◌, ◌&&◌, ◌+◌, ◌-◌, ◌==◌, ◌||◌, ◌≡◌, ◌⊎◌}
use Rattle.dm_blocks.specs.declared.header.Header.{Header}
use Rattle.dm_arena.specs.declared.cut.Cut.{Cut}

-- the one or two headers of a `Cut` as a list
abbrev pub cut_list : Cut → List Header
cut_list c = c.first ∷ option_to_list c.second
