use Rattle.std.proofs.Common.{◌≡◌, drop}
use Rattle.dm_origins.specs.Origins.{upper_origin}
use Rattle.dm_origins.proofs.uppers.upper_origin.Given as goal

-- none so far
abbrev pub invariant-loop-upper : goal.invariant-loop-upper
invariant-loop-upper l = upper_origin l.known l.origin l.segment ≡ upper_origin (drop l.upper-index l.known) l.origin
    l.segment
