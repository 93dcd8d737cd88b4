use Rattle.std.proofs.Common.{◌≡◌, ◌-◌, ◌+◌, ◌<◌, Bool, false, List, length, drop, sym, ◌∙◌, ap, arith}
use Rattle.std.specs.List.{list_any}
use Rattle.std.specs.Prelude.{not}
use Rattle.dm_findings.specs.declared.processes.process.Process.{Process}
use Rattle.dm_findings.specs.processes.Processes.{runs, with_end}
use Rattle.dm_findings.proofs.processes.Ending.{ends_at, none_runs}
use Rattle.dm_findings.proofs.processes.ends.end_innermost.Goals as goal

pub returns-then-is_none : goal.returns-then-is_none
returns-then-is_none c =
    let ps = c.loop-left.processes in
    let i = c.loop-left.left - 1 in
    let some = c.loop-left-test.true in
    let less : i < length ps = omega (arith, c.loop-left.invariant.within, some) in
    let behind : list_any runs (drop (i + 1) ps) ≡ false = (let here : i + 1 ≡ c.loop-left.left = omega (arith, some) in
    rw here c.loop-left.invariant.ended) in
    ends_at c.args.step c.args.processes.now ps i _ c.loop-left.invariant.same less (ap not c.is_none.ensures
    ∙ ap (λ (b : Bool). not (not b)) c.if-is_none.true) behind

pub returns : goal.returns
returns c =
    let none : c.loop-left.left ≡ 0 = omega arith in
    let all : list_any runs c.loop-left.processes ≡ false = (rw none at c.loop-left.invariant.ended) in
    sym (none_runs c.args.step c.loop-left.processes all)
    ∙ ap (λ (l : List Process). with_end c.args.step l) c.loop-left.invariant.same
