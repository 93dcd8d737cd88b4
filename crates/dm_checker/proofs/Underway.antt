-- Checked runs that are under way.
use Rattle.std.proofs.Common.{◌≡◌, ℕ, ◌+◌, ◌-◌, ◌<◌, ◌≤◌, Bool, List, [], ◌++◌, length, Option, Some, None, refl, sym, ◌∙◌, ap, subst, arith}
use Rattle.dm_services.specs.declared.state.stop.Stop.{Stop}
use Rattle.dm_services.specs.declared.state.stop.Stop.TheVariants.{Exited, Steps as AllSteps}
use Rattle.dm_services.specs.state.State.{State}
use Rattle.dm_machine.specs.Run.{IsRun}
use Rattle.dm_machine.specs.Run as run
use Rattle.dm_findings.specs.declared.finding.Found.{Found}
use Rattle.dm_findings.specs.Report.{Reported, report_of}
use Rattle.dm_origins.specs.Origins.{Known}
use Rattle.dm_checker.specs.Origins.{known_at, OriginsIn}
use Rattle.dm_checker.specs.Processes.{AreProcesses}
use Rattle.dm_checker.specs.Processes as processes
use Rattle.dm_checker.specs.declared.arena_copy.ArenaCopy.{ArenaCopy}
use Rattle.dm_checker.specs.Checks.{FindsIn, IsReport, RunsPart, reported}
use Rattle.dm_checker.specs.Checks as checks
use Rattle.dm_checker.specs.Checking.{UnderWay, HasMade, IsLonger, IsUnderWay, going, had_ended, founds, ListsSame, GoesToFirst, lists_more}
use Rattle.dm_checker.specs.Checking as checking
use Rattle.dm_checker.specs.inner.Steps.{ChecksOne, IsPart, GoesUnfound}
use Rattle.dm_checker.specs.ArenaCopy.{IsArenaCopy}
use Rattle.dm_checker.proofs.Checking.{HasChecked, checked_none, checked_on, checked_all, checked_cut, checked_more, part_next}
use Rattle.dm_checker.proofs.Longer.{longer_by, listed_same}

-- ---- whether the program had ended

pub exited_with : (s t : State) (code : ℕ) → IsRun s 0 (Exited code) t → (s.exited ≡ Some code) × (t ≡ s)
exited_with s t code (run.over other e f g) = (e ∙ ap (λ (x : ℕ). Some x) (let same : code ≡ other = cc in sym same), g)
exited_with s t code (run.whole e f goes) = absurd (cc)
exited_with s t code (run.cut e w) = (let less = w.fewer in absurd (omega arith))

-- ---- the steps so far

pub made_of : (s t : State) (n : ℕ) (c : UnderWay) → c.left ≤ n →
    HasChecked c.free s (n - c.left) t c.origins c.report → HasMade s n t c
made_of s t n c few h = record {
  running = h.running;
  few = few;
  found = h.found;
  finds = h.finds;
  knows = h.knows;
  reports = h.is;
}

pub checked_of : (s t : State) (n : ℕ) (c : UnderWay) → HasMade s n t c →
    HasChecked c.free s (n - c.left) t c.origins c.report
checked_of s t n c h = record { running = h.running; found = h.found; finds = h.finds; knows = h.knows; is = h.reports }

pub record Going (s : State) (n : ℕ) (t : State) (c : UnderWay) : Type 0 where
  pub few : c.left ≤ n
  pub checked : HasChecked c.free s (n - c.left) t c.origins c.report
  pub arena : IsArenaCopy t.upper t.memory c.arena

pub going_of : (s t : State) (n : ℕ) (c : UnderWay) → c.over ≡ None → IsUnderWay s n t c → Going s n t c
going_of s t n c e (going f made arena) = record { few = made.few; checked = checked_of s t n c made; arena = arena }
going_of s t n c e (had_ended code f g h i first) = absurd (let no : Some code ≡ None = sym f ∙ e in cc)

pub ended_of : (s t : State) (n code : ℕ) (c : UnderWay) → c.over ≡ Some code → IsUnderWay s n t c →
    IsReport s n c.free (Exited code) t c.report
ended_of s t n code c e (going f made arena) = absurd (let no : Some code ≡ None = sym e ∙ f in cc)
ended_of s t n code c e (had_ended other f g h i first) =
    let same : Some other ≡ Some code = sym f ∙ e in
    record { found = []; checks = checks.over code (g ∙ same) refl h refl; is = i }

pub begins : (s t : State) (n : ℕ) (c : UnderWay) → c.over ≡ s.exited → t ≡ s → c.left ≡ n → c.report ≡ report_of [] →
    c.origins ≡ known_at s → IsArenaCopy t.upper t.memory c.arena → IsUnderWay s n t c
begins s t n c e same left empty first arena = by s.exited refl
  where
    by : (o : Option ℕ) → s.exited ≡ o → IsUnderWay s n t c
    by None h =
        let none : 0 ≡ n - c.left = omega (arith, left) in
        going (e ∙ h) (made_of s t n c (omega (arith, left)) (subst (λ (k : ℕ). HasChecked c.free s k t c.origins
        c.report) none (checked_none c.free s t c.origins c.report h same first empty))) arena
    by (Some code) h = had_ended code (e ∙ h) h same empty first

-- ---- one more step

module _ (free : Bool) (s t u : State) (n left passed : ℕ) (k : Known) (r : Reported) (few : left
    ≤ n) (h : HasChecked free s (n - left) t k r) (f : GoesUnfound t passed u) where
  on : HasChecked free s (n - left + passed) u k r
  on = checked_on free s t u (n - left) passed k r h f

  -- all steps were made
  pub all_made : passed ≡ left → IsReport s n free AllSteps u r
  all_made all = checked_all free s u (n - left + passed) n k r on (omega (arith, all, few))

  -- a stop came
  pub stopped : passed < left → (v : State) (stop : Stop) (w : ArenaCopy) (l : Known) (new : Reported) →
      ChecksOne free u (Some stop) v w k l r new → IsReport s n free stop v new
  stopped less v stop w l new x = checked_cut free s u v (n - left + passed) n stop w k l r new on (omega (
    arith,
    less,
    few,
  )) x

  -- the machine goes on
  pub gone_on : passed < left → (v : State) (w : ArenaCopy) (l : Known) (new : Reported) →
      ChecksOne free u None v w k l r new → HasChecked free s (n - (left - passed - 1)) v l new
  gone_on less v w l new x =
      let one_more : n - left + passed + 1 ≡ n - (left - passed - 1) = omega (arith, less, few) in
      subst (λ (i : ℕ). HasChecked free s i v l new) one_more (checked_more free s u v (n - left + passed) w k l r new
      on x)

  -- an allocation failed
  pub part_lost : passed < left → (v : State) → IsPart u v → RunsPart s n v
  part_lost less v x = part_next free s u v (n - left + passed) n k r on (omega (arith, less, few)) x

  -- what is listed stays listed
  pub listed_on : (v : State) (stop : Option Stop) (w : ArenaCopy) (l : Known) (new : Reported) →
      ChecksOne free u stop v w k l r new → IsLonger r new
  listed_on v stop w l new x = longer_by free r new h.found x.found h.is x.reports

  -- ---- the processes

  pub all_processes : passed ≡ left → AreProcesses s n AllSteps u k.processes
  all_processes all =
      let made : n - left + passed ≡ n = omega (arith, all, few) in
      record {
        known = k;
        knows = processes.whole h.running refl (subst (λ (i : ℕ). OriginsIn s i u k) made on.knows);
        are = refl;
      }

  pub stop_processes : passed < left → (v : State) (stop : Stop) (w : ArenaCopy) (l : Known) (new : Reported) →
      ChecksOne free u (Some stop) v w k l r new → AreProcesses s n stop v l.processes
  stop_processes less v stop w l new x =
      record {
        known = l;
        knows = processes.cut (n - left + passed) u k h.running (omega (
          arith,
          less,
          few,
        )) on.knows x.answers x.knows;
        are = refl;
      }

  -- ---- up to the first finding that `old` does not list

  module _ (old new : UnderWay) (same : old.free ≡ free) (longer : IsLonger old.report r) (no_more : length r.listed
      ≤ length old.report.listed) where
    lists_same : ListsSame old on.found
    lists_same =
        ap (λ (b : Bool). founds (report_of (reported b on.found)).listed) same
        ∙ ap (λ (x : Reported). founds x.listed) (sym on.is)
        ∙ listed_same old.report r longer no_more

    -- the report is that of these findings
    report_as : (x : Reported) (fs : List Found) → x ≡ report_of (reported free fs) →
        x ≡ report_of (reported old.free fs)
    report_as x fs e = e ∙ ap (λ (b : Bool). report_of (reported b fs)) (sym same)

    -- the machine goes on, and the report lists more
    pub first_listed : passed < left → (v : State) (w : ArenaCopy) (l : Known) →
        ChecksOne free u None v w k l r new.report → new.left ≡ left - passed - 1
        → length old.report.listed < length new.report.listed → GoesToFirst s n old v new None
    first_listed less v w l x left_is more =
        let one : n - left + passed ≡ n - new.left - 1 = omega (arith, less, few, left_is) in
        let all : n - (left - passed - 1) ≡ n - new.left = omega (arith, left_is) in
        let g = gone_on less v w l new.report x in
        lists_more u on.found g.found h.running (omega (arith, less, few, left_is))
        (subst (λ (i : ℕ). FindsIn s i u on.found) one on.finds) lists_same
        (subst (λ (i : ℕ). FindsIn s i v g.found) all g.finds) more (report_as new.report g.found g.is)

    -- a stop came
    pub first_stopped : passed < left → (v : State) (stop : Stop) (w : ArenaCopy) (l : Known) →
        ChecksOne free u (Some stop) v w k l r new.report → GoesToFirst s n old v new (Some stop)
    first_stopped less v stop w l x =
        checking.cut (n - left + passed) u k on.found x.found stop h.running (omega (
          arith,
          less,
          few,
        )) on.finds on.knows lists_same x.answers x.finds
        (report_as new.report (on.found ++ x.found) (x.reports on.found on.is))

    -- all steps were made
    pub first_whole : passed ≡ left → new.report ≡ r → GoesToFirst s n old u new (Some AllSteps)
    first_whole all is =
        let made : n - left + passed ≡ n = omega (arith, all, few) in
        checking.whole on.found h.running (subst (λ (i : ℕ). FindsIn s i u on.found) made on.finds) lists_same
        (report_as new.report on.found (is ∙ on.is))

-- the program had ended
pub ended_processes : (s t : State) (n code : ℕ) (c : UnderWay) → c.over ≡ Some code → IsUnderWay s n t c →
    AreProcesses s n (Exited code) t c.origins.processes
ended_processes s t n code c e (going f made arena) = absurd (let no : Some code ≡ None = sym e ∙ f in cc)
ended_processes s t n code c e (had_ended other f g h i first) =
    let same : Some other ≡ Some code = sym f ∙ e in
    record { known = c.origins; knows = processes.over code (g ∙ same) refl h first; are = refl }

pub first_ended : (s t : State) (n code : ℕ) (old new : UnderWay) → old.over ≡ Some code → new.report ≡ old.report →
    IsUnderWay s n t old → GoesToFirst s n old t new (Some (Exited code))
first_ended s t n code old new e is (going f made arena) = absurd (let no : Some code ≡ None = sym e ∙ f in cc)
first_ended s t n code old new e is (had_ended other f g h i first) = (let same : Some other ≡ Some code = sym f ∙ e in
    checking.over code (g ∙ same) h (is ∙ i))

-- ---- no step was made

pub part_none : (s t : State) (n : ℕ) → t ≡ s → RunsPart s n t
part_none s t n same = by s.exited refl
  where
    by : (o : Option ℕ) → s.exited ≡ o → RunsPart s n t
    by None h = record {
      most = 0;
      stop = AllSteps;
      few = omega arith;
      run = run.whole h refl (subst (λ (u : State). run.Goes s 0 u) (sym same) run.here);
    }
    by (Some code) h = record { most = 0; stop = Exited code; few = omega arith; run = run.over code h refl same }
