use Rattle.std.proofs.Common.{◌≡◌, ℕ, ◌<◌, ◌≤◌, length, get_or}
use Rattle.dm_origins.specs.declared.handles.Since.TheVariants.{Unused}
use Rattle.dm_origins.specs.Origins.{seen_handle, has_handle}
use Rattle.dm_origins.proofs.handles.look_at_handles.Given as goal

abbrev pub invariant-loop-handle : goal.invariant-loop-handle
invariant-loop-handle l = record {
  count : length l.known ≡ length l.initial.known;
  done : (k : ℕ) → k < l.handle → get_or l.known k Unused ≡ seen_handle (has_handle l.ems k) l.origin
      (get_or l.initial.known k Unused);
  left : (k : ℕ) → l.handle ≤ k → get_or l.known k Unused ≡ get_or l.initial.known k Unused;
}
