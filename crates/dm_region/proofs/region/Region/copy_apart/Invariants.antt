use Rattle.std.proofs.Common.{◌≡◌, ◌-◌, ◌≤◌}
use Rattle.dm_region.specs.Parts.{part, with_part}
use Rattle.dm_region.proofs.region.Region.copy_apart.Given as goal

abbrev pub invariant-loop-done : goal.invariant-loop-done
invariant-loop-done l = record {
  within : l.done ≤ l.len;
  copied : l.self ≡ record l.initial.self {
    bytes = with_part l.initial.self.bytes l.to l.done (part
        l.initial.self.bytes l.from l.done);
  };
}

abbrev pub decreases-loop-done : goal.decreases-loop-done
decreases-loop-done l = l.len - l.done
