use Rattle.std.proofs.Common.{List, Option, None, length, ◌∙◌, ap, ap₂, arith}
use Rattle.std.proofs.lemmas.List.{length-replicate}
use Rattle.dm_findings.specs.declared.finding.Origin.{Origin}
use Rattle.dm_origins.specs.inner.Chunks.{freed_by}
use Rattle.dm_origins.proofs.Chunked.{none_freed}
use Rattle.dm_origins.proofs.chunks.Chunks.never_freed.Goals as goal

pub returns : goal.returns
returns c = ap₂ (λ (ms ps : List (Option Origin)). freed_by ms ps) c.in_ok-wholes.ensures c.in_ok-each.ensures
    ∙ none_freed 256 0x10000

pub invariant_of-result : goal.invariant_of-result
invariant_of-result c =
    let Step : Type 0 = Option Origin in (
      omega (arith, ap (λ (f : List Step). length f) c.in_ok-wholes.ensures, length-replicate {A = Step} 256 None),
      omega (arith, ap (λ (f : List Step). length f) c.in_ok-each.ensures, length-replicate {A = Step} 0x10000 None),
    )
