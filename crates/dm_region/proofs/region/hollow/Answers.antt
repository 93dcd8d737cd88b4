use Rattle.std.proofs.Common.{List, ℕ, map, ap, ◌∙◌}
use Rattle.dm_region.specs.inner.Places.{or_zero}
use Rattle.dm_region.proofs.Runs.{none_bytes}
use Rattle.dm_region.proofs.region.hollow.Goals as goal

pub returns : goal.returns
returns c = ap (λ (l : List ℕ). record { bytes = l; from = 0; to = c.args.len })
    (ap (map or_zero) c.in_ok-base.ensures.1 ∙ none_bytes c.args.len)
