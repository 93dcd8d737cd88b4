use Rattle.std.proofs.Common.{◌≡◌, ℕ, Option, None, ap, ◌∙◌, arith}
use Rattle.std.specs.Prelude.{replicate}
use Rattle.dm_findings.specs.declared.finding.Origin.{Origin}
use Rattle.dm_origins.proofs.chunks.no_steps.Goals as goal

pub returns : goal.returns
returns c =
    let all : c.loop-number.number ≡ c.args.count = omega arith in
    c.loop-number.invariant ∙ ap (λ (n : ℕ). replicate {A = Option Origin} n None) all
