use Rattle.std.proofs.Common.{◌≡◌, ◌++◌, ◌∷◌, [], take}
use Rattle.std.specs.Prelude.{flat_map}
use Rattle.dm_views.specs.Digits.{address_text}
use Rattle.dm_debug.proofs.points.put_points.Given as goal

-- a line for each so far
abbrev pub invariant-loop-point : goal.invariant-loop-point
invariant-loop-point l = l.out.items ≡ l.initial.out.items ++ flat_map (λ p. address_text p.segment p.offset ++ 10
    ∷ []) (take l.point-index l.points)
