use Rattle.std.proofs.Common.{◌≡◌}
use Rattle.dm_cli.proofs.Served.{Heard}
use Rattle.dm_cli.proofs.serving.serve.Given as goal

-- the bytes so far were taken, and nothing failed
abbrev pub invariant-loop : goal.invariant-loop
invariant-loop g l = record {
  heard : Heard l.most l.initial.connection (g.R.Read.remaining l.initial.requests) (g.W.Out.taken l.initial.out)
      l.counter l.connection (g.R.Read.remaining l.requests) (g.W.Out.taken l.out);
  none_failed : g.W.Out.failures l.out ≡ g.W.Out.failures l.initial.out;
}
