-- Checked runs, as they are made.
use Rattle.std.proofs.Common.{◌≡◌, ℕ, ◌+◌, ◌<◌, ◌≤◌, inl, inr, Bool, List, [], ◌++◌, Option, Some, None, Result, Ok, Err, refl, sym, subst, append-nil, arith}
use Rattle.std.specs.Prelude.{OnErr}
use Rattle.dm_services.specs.declared.state.stop.Stop.{Stop}
use Rattle.dm_services.specs.declared.state.stop.Stop.TheVariants.{Exited, Steps as AllSteps}
use Rattle.dm_services.specs.state.State.{State}
use Rattle.dm_machine.specs.Run.{Answers, IsRun, over, whole, cut}
use Rattle.dm_machine.specs.Run as run
use Rattle.dm_machine.proofs.OneRun.{none-made}
use Rattle.dm_findings.specs.declared.finding.Found.{Found}
use Rattle.dm_findings.specs.Report.{Reported, report_of}
use Rattle.dm_origins.specs.Origins.{Known}
use Rattle.dm_checker.specs.Origins.{IsKnownAfter, OriginsIn, known_at}
use Rattle.dm_checker.specs.Origins as origins
use Rattle.dm_checker.specs.declared.arena_copy.ArenaCopy.{ArenaCopy}
use Rattle.dm_checker.specs.Checks.{FindsIn, Checks, IsReport, RunsPart, reported}
use Rattle.dm_checker.specs.Checks as checks
use Rattle.dm_checker.specs.Findings.{none}
use Rattle.dm_checker.specs.inner.Steps.{ChecksOne, IsPart, IsUnfound, GoesUnfound}
use Rattle.dm_checker.specs.inner.Steps as steps
use Rattle.dm_checker.proofs.OneCheck.{finds_goes, checked_run}

-- ---- a run of no step

pub no_step : (s t : State) (stop : Stop) → IsRun s 0 stop t → t ≡ s
no_step s t stop (over code e f g) = g
no_step s t stop (whole e f goes) = none-made s t 0 goes refl
no_step s t stop (cut e w) = (let less = w.fewer in absurd (omega arith))

pub is_running : (s t : State) (stop : Stop) → IsRun s 0 stop t → ((code : ℕ) → stop ≡ Exited code → ⊥) →
    s.exited ≡ None
is_running s t stop (over code e f g) other = absurd (other code f)
is_running s t stop (whole e f goes) other = e
is_running s t stop (cut e w) other = e

pub was_exited : (s t : State) (code n : ℕ) → IsRun s 0 (Exited code) t → Checks s n (Exited code) t []
was_exited s t code n (over other e f g) = checks.over other e f g refl
was_exited s t code n (whole e f goes) = absurd (cc)
was_exited s t code n (cut e w) = (let less = w.fewer in absurd (omega arith))

-- ---- what is promised of a checked run

pub reports : (s t : State) (n : ℕ) (free : Bool) (stop : Stop) (found : List Found) (r : Reported) →
    Checks s n stop t found → r ≡ report_of (reported free found) → IsReport s n free stop t r
reports s t n free stop found r x e = record { found = found; checks = x; is = e }

pub runs : (s t : State) (n : ℕ) (free : Bool) (stop : Stop) (r : Reported) → IsReport s n free stop t r →
    IsRun s n stop t
runs s t n free stop r x = checked_run s t n stop x.found x.checks

-- ---- so many steps were made, and the report has what was found in them

pub record HasChecked (free : Bool) (s : State) (n : ℕ) (t : State) (k : Known) (report : Reported) : Type 0 where
  pub running : s.exited ≡ None
  pub found : List Found
  pub finds : FindsIn s n t found
  pub knows : OriginsIn s n t k
  pub is : report ≡ report_of (reported free found)

pub checked_none : (free : Bool) (s t : State) (k : Known) (r : Reported) → s.exited ≡ None → t ≡ s → k ≡ known_at s →
    r ≡ report_of [] → HasChecked free s 0 t k r
checked_none free s t k r e same first is =
    let F : State → Type 0 = λ u. FindsIn s 0 u [] in
    let G : State → Type 0 = λ u. OriginsIn s 0 u (known_at s) in
    let H : Known → Type 0 = λ l. OriginsIn s 0 t l in
    record {
      running = e;
      found = [];
      finds = subst F (sym same) checks.here;
      knows = subst H (sym first) (subst G (sym same) origins.here);
      is = is;
    }

pub checked_more : (free : Bool) (s t u : State) (n : ℕ) (w : ArenaCopy) (k l : Known) (old new : Reported) →
    HasChecked free s n t k old → ChecksOne free t None u w k l old new → HasChecked free s (n + 1) u l new
checked_more free s t u n w k l old new h x = record {
  running = h.running;
  found = h.found ++ x.found;
  finds = checks.further n t u k l h.found x.found h.finds h.knows x.answers x.knows x.finds;
  knows = origins.further n t u k l h.knows x.answers x.knows;
  is = x.reports h.found h.is;
}

-- steps of which nothing is found, and that allocate and free nothing
record Unfound (s : State) (n : ℕ) (u : State) (k : Known) (fs : List Found) : Type 0 where
  finds : FindsIn s n u fs
  knows : OriginsIn s n u k

unfound_by : (s u : State) (n m : ℕ) (k : Known) (fs : List Found) → n ≡ m → Unfound s n u k fs → Unfound s m u k fs
unfound_by s u n m k fs e x = (let F : ℕ → Type 0 = λ i. Unfound s i u k fs in subst F e x)

finds_on : (s t u : State) (n m : ℕ) (k : Known) (fs : List Found) → Unfound s n t k fs → GoesUnfound t m u →
    Unfound s (n + m) u k fs
finds_on s t _ n _ k fs x steps.here = unfound_by s t n (n + 0) k fs (omega arith) x
finds_on s t _ n _ k fs x (steps.further m u v g step p) =
    let before = finds_on s t u n m k fs x g in
    let knows = p.knows k in
    let done : FindsIn s (n + m + 1) v (fs ++ []) =
    checks.further (n + m) u v k k fs [] before.finds before.knows step knows (record {
      findings = [];
      finds = p.finds;
      told = none refl refl;
    }) in
    let G : List Found → Type 0 = λ l. FindsIn s (n + m + 1) v l in
    unfound_by s v (n + m + 1) (n + (m + 1)) k fs (omega arith) (record {
      finds = subst G (append-nil fs) done;
      knows = origins.further (n + m) u v k k before.knows step knows;
    })

pub checked_on : (free : Bool) (s t u : State) (n m : ℕ) (k : Known) (r : Reported) → HasChecked free s n t k r →
    GoesUnfound t m u → HasChecked free s (n + m) u k r
checked_on free s t u n m k r h f =
    let x = finds_on s t u n m k h.found (record { finds = h.finds; knows = h.knows }) f in
    record { running = h.running; found = h.found; finds = x.finds; knows = x.knows; is = h.is }

pub checked_cut : (free : Bool) (s t u : State) (n m : ℕ) (stop : Stop) (w : ArenaCopy) (k l : Known)
    (old new : Reported) →
    HasChecked free s n t k old → n < m → ChecksOne free t (Some stop) u w k l old new → IsReport s m free stop u new
checked_cut free s t u n m stop w k l old new h less x = record {
  found = h.found ++ x.found;
  checks = checks.cut n t k h.found x.found h.running less h.finds h.knows x.answers x.finds refl;
  is = x.reports h.found h.is;
}

pub checked_all : (free : Bool) (s t : State) (n m : ℕ) (k : Known) (r : Reported) → HasChecked free s n t k r → n ≡ m →
    IsReport s m free AllSteps t r
checked_all free s t n m k r h e = record {
  found = h.found;
  checks = checks.whole h.running refl (let F : ℕ → Type 0 = λ i. FindsIn s i t h.found in subst F e h.finds);
  is = h.is;
}

-- ---- where an allocation failed

pub part_made : (free : Bool) (s t : State) (n m : ℕ) (k : Known) (r : Reported) → HasChecked free s n t k r → n ≤ m →
    RunsPart s m t
part_made free s t n m k r h few = record {
  most = n;
  stop = AllSteps;
  few = few;
  run = run.whole h.running refl (finds_goes s t n h.found h.finds);
}

part_by : (free : Bool) (s t u : State) (n m : ℕ) (k : Known) (r : Reported) (stop : Option Stop) →
    HasChecked free s n t k r → n + 1 ≤ m → Answers t stop u → RunsPart s m u
part_by free s t u n m k r None h few a = record {
  most = n + 1;
  stop = AllSteps;
  few = few;
  run = run.whole h.running refl (run.further n t u (finds_goes s t n h.found h.finds) a);
}
part_by free s t u n m k r (Some stop) h few a = record {
  most = n + 1;
  stop = stop;
  few = few;
  run = run.cut h.running (record {
    made = n;
    before = t;
    fewer = omega arith;
    goes = finds_goes s t n h.found h.finds;
    answers = a;
  });
}

pub part_next : (free : Bool) (s t u : State) (n m : ℕ) (k : Known) (r : Reported) → HasChecked free s n t k r → n < m →
    IsPart t u → RunsPart s m u
part_next free s t u n m k r h less (inl same) = subst (λ (x : State). RunsPart s m x) (sym same)
    (part_made free s t n m k r h (omega arith))
part_next free s t u n m k r h less (inr x) = part_by free s t u n m k r x.0 h (omega arith) x.1

-- what holds in any case holds at an error
pub at_err : {T E P : Type 0} (r : Result T E) → P → OnErr r P
at_err (Ok v) p = tt
at_err (Err e) p = p
