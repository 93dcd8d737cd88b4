use Rattle.std.proofs.Common.{◌≡◌}
use Rattle.dm_cli.proofs.Conversations.{Spoken}
use Rattle.dm_cli.proofs.debugging.converse.Given as goal

-- the lines so far were answered, and nothing failed
abbrev pub invariant-loop-has_more : goal.invariant-loop-has_more
invariant-loop-has_more g l =
    Spoken 16777216 l.fn.session (g.R.Read.remaining l.fn.commands) (g.W.Out.taken l.fn.out) l.left l.session
    (g.R.Read.remaining l.commands) (g.W.Out.taken l.out) l.has_more
    × (g.W.Out.failures l.out ≡ g.W.Out.failures l.fn.out)

abbrev pub decreases-loop-has_more : goal.decreases-loop-has_more
decreases-loop-has_more g l = l.left
