use Rattle.std.proofs.Common.{◌≡◌, ◌+◌, ◌-◌, ◌≤◌, ℕ, true, length}
use Rattle.dm_services.specs.state.State.{State, HasProgram}
use Rattle.dm_checker.specs.Checking.{IsUnderWay, IsLonger}
use Rattle.dm_checker.specs.ArenaCopy.{IsArenaCopy}
use Rattle.dm_checker.proofs.Checking.{HasChecked}
use Rattle.dm_checker.proofs.checks.CheckedRun.advance.Given as goal

abbrev pub invariant-loop : goal.invariant-loop
invariant-loop l = record {
  checked : (s : State) (n : ℕ) → IsUnderWay s n l.fn.machine l.fn.self →
      HasChecked l.free s (n - l.left) l.machine l.self-inside.origins l.self-inside.report;
  few : l.left + l.counter ≤ l.most;
  no_more : l.pausing ≡ true → length l.self-inside.report.listed ≤ length l.fn.self.report.listed;
  longer : IsLonger l.fn.self.report l.self-inside.report;
  over : l.self-inside.over ≡ l.fn.self.over;
  free : l.self-inside.free ≡ l.free;
  arena : IsArenaCopy l.machine.upper l.machine.memory l.self-inside.kept;
  program : HasProgram l.machine;
}
