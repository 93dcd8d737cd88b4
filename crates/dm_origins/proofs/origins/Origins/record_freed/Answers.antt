use Rattle.std.proofs.Common.{List, Option, length, ◌∙◌, ap}
use Rattle.dm_findings.specs.declared.finding.Origin.{Origin}
use Rattle.dm_origins.specs.Origins.{freed_in}
use Rattle.dm_origins.proofs.Each.{length_each}
use Rattle.dm_origins.proofs.origins.Origins.record_freed.Goals as goal

pub invariant_of-self : goal.invariant_of-self
invariant_of-self c =
    ap (λ (f : List (Option Origin)). length f) c.free_all.ensures
    ∙ length_each (freed_in c.args.old.now c.args.new.now c.args.origin) 0 c.self.inside.freed ∙ c.self.invariant
