use Rattle.std.proofs.Common.{take, List, IsSome}
use Rattle.std.specs.List.{AllByRecursion}
use Rattle.dm_asm.specs.Labels.{Label, label_place}
use Rattle.dm_asm.specs.inner.Kept.{AreKept}
use Rattle.dm_asm.proofs.codes.knows_all.Given as goal

abbrev pub invariant-loop-value : goal.invariant-loop-value
invariant-loop-value l = (list : List Label) → AreKept l.labels list →
    AllByRecursion (λ v. IsSome (label_place list v)) (take l.value-index l.values)
