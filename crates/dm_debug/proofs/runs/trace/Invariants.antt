use Rattle.dm_services.specs.state.State.{HasProgram}
use Rattle.dm_debug.proofs.Traced.{HasTraced}
use Rattle.dm_debug.proofs.runs.trace.Given as goal

abbrev pub invariant-loop : goal.invariant-loop
invariant-loop l = record {
  traced : HasTraced l.fn.machine l.initial.out.items l.counter l.out.items l.machine;
  program : HasProgram l.machine;
}
