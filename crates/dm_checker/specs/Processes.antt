-- The processes of a run that has stopped.
use Rattle.std.specs.Prelude.{◌≡◌, ℕ, ◌<◌, List, Some, None}
use Rattle.dm_services.specs.declared.state.stop.Stop.{Stop}
use Rattle.dm_services.specs.declared.state.stop.Stop.TheVariants.{Exited, Steps as AllSteps, Halted, Unlisted, InputEnded, Destroyed, Memory as NoMemory}
use Rattle.dm_services.specs.state.State.{State}
use Rattle.dm_machine.specs.Run.{Answers}
use Rattle.dm_findings.specs.declared.processes.process.Process.{Process}
use Rattle.dm_origins.specs.Origins.{Known}
use Rattle.dm_checker.specs.Origins.{IsKnownAfter, OriginsIn, known_at}

-- l is what is known where a run stops for this reason, if k was known in s: with `Exited` a last step was made, from s
-- to t, with any other stop there is none
abbrev pub KnowsAtStop : State → Stop → State → Known → Known → Type 0
KnowsAtStop s (Exited code) t k l = IsKnownAfter s t k l
KnowsAtStop s AllSteps t k l = l ≡ k
KnowsAtStop s Halted t k l = l ≡ k
KnowsAtStop s Unlisted t k l = l ≡ k
KnowsAtStop s InputEnded t k l = l ≡ k
KnowsAtStop s Destroyed t k l = l ≡ k
KnowsAtStop s NoMemory t k l = l ≡ k

-- this is known where a run of at most n steps from s stops for this reason in t
pub data KnowsIn (s : State) (n : ℕ) (stop : Stop) (t : State) (known : Known) : Type 0 where
  over : (code : ℕ) → s.exited ≡ Some code → stop ≡ Exited code → t ≡ s → known ≡ known_at s → KnowsIn s n stop t known
  whole : s.exited ≡ None → stop ≡ AllSteps → OriginsIn s n t known → KnowsIn s n stop t known
  cut : (made : ℕ) (before : State) (k : Known) → s.exited ≡ None → made < n → OriginsIn s made before k →
      Answers before (Some stop) t → KnowsAtStop before stop t k known → KnowsIn s n stop t known

-- these are the processes of a run of at most n steps from s that stops for this reason in t, in the order of their
-- starts: the one that is present in s, and those that the run starts
pub record AreProcesses (s : State) (n : ℕ) (stop : Stop) (t : State) (ps : List Process) : Type 0 where
  pub known : Known
  pub knows : KnowsIn s n stop t known
  pub are : ps ≡ known.processes
