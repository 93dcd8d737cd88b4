use Rattle.std.proofs.Common.{◌≡◌, ℕ, ◌<◌, ◌≤◌, length, get_or}
use Rattle.dm_origins.specs.declared.handles.Since.TheVariants.{Unused}
use Rattle.dm_origins.specs.Origins.{seen_handle, has_block}
use Rattle.dm_origins.proofs.handles.look_at_blocks.Given as goal

abbrev pub invariant-loop-before : goal.invariant-loop-before
invariant-loop-before l = record {
  count : length l.known ≡ length l.initial.known;
  done : (k : ℕ) → k < l.before → get_or l.known k Unused ≡ seen_handle (has_block l.xms k) l.origin
      (get_or l.initial.known k Unused);
  left : (k : ℕ) → l.before ≤ k → get_or l.known k Unused ≡ get_or l.initial.known k Unused;
}
