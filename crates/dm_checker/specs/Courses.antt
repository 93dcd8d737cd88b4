-- The processes after a step.
use Rattle.std.specs.Prelude.{◌++◌, ◌∷◌, [], if◌then◌else◌, List, Option}
use Rattle.dm_findings.specs.declared.calls.Call.{Call}
use Rattle.dm_findings.specs.declared.processes.process.Process.{Process}
use Rattle.dm_findings.specs.processes.Processes.{process_at, with_end}
use Rattle.dm_origins.specs.Origins.{Known}
use Rattle.dm_services.specs.state.State.{State}
use Rattle.dm_origins.specs.outcomes.Courses.{ends_process, has_started}

-- the processes after the step from s to t with this call, if they were ps before it
abbrev pub processes_after : State → State → Option Call → List Process → List Process
processes_after s t call ps =
    if has_started s.cpu t.cpu call then ps ++ process_at t.memory t.processes.present t.steps ∷ []
    else if ends_process call then with_end t.steps ps else ps

-- what is known, with the processes as they are after that step
abbrev pub with_course : State → State → Option Call → Known → Known
with_course s t call k = record k { processes = processes_after s t call k.processes }

-- the process that is present in s, where a run begins
abbrev pub present_process : State → Process
present_process s = process_at s.memory s.processes.present s.steps
