use Rattle.std.proofs.Common.{List, ℕ, length, ap, ◌∙◌}
use Rattle.dm_debug.proofs.stops.Watching.{count_kept}
use Rattle.dm_debug.proofs.stops.events.Watch.new.Goals as goal

pub invariant_of-result : goal.invariant_of-result
invariant_of-result c = ap (λ (x : List ℕ). length x) c.in_ok-before.ensures
    ∙ count_kept c.args.space.now.memory c.args.event
