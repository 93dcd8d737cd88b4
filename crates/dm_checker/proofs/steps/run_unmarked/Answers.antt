use Rattle.std.proofs.Common.{◌≤◌, ◌∙◌, sym, arith}
use Rattle.dm_checker.specs.inner.Steps as steps
use Rattle.dm_checker.proofs.Stepping.{unfound, not_broken}
use Rattle.dm_checker.proofs.steps.run_unmarked.Goals as goal

pub returns-then-is_some-clause-unfound : goal.returns-then-is_some-clause-unfound
returns-then-is_some-clause-unfound c = steps.here

pub returns : goal.returns
returns c =
    let x = unfound c.args.machine.now c.run_unmarked.new.self c.args.kept.now c.run_unmarked.result
    (not_broken c.args.kept.now.broken (sym c.is_some.ensures ∙ c.if-is_some.false)) c.requires.arena
    c.tables_and_memory_are_consistent.ensures c.run_unmarked.ensures.goes in
    let few : c.run_unmarked.result ≤ c.args.most = omega (arith, c.run_unmarked.ensures.most, c.min.ensures) in
    record { unfound = x.unfound; most = few; arena = x.arena; program = c.run_unmarked.ensures.loaded }
