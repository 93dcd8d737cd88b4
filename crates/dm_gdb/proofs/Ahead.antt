-- What `monitor check` finds ahead.
use Rattle.std.proofs.Common.{◌≡◌, ℕ, ◌+◌, ◌-◌, ◌<◌, ◌≤◌, Bool, true, false, List, [], ◌∷◌, ◌++◌, length, Option, Some, None, refl, sym, ◌∙◌, ap, subst, arith}
use Rattle.std.specs.Prelude.{◌≢◌}
use Rattle.dm_services.specs.declared.state.stop.Stop.{Stop}
use Rattle.dm_services.specs.declared.state.stop.Stop.TheVariants.{Exited, Steps as AllSteps, Memory as NoMemory}
use Rattle.dm_services.specs.state.State.{State}
use Rattle.dm_machine.specs.Run.{IsRun}
use Rattle.dm_machine.specs.Run as run
use Rattle.dm_machine.proofs.OneStop.{run-one}
use Rattle.dm_findings.specs.declared.finding.Found.{Found}
use Rattle.dm_findings.specs.declared.report.Listed.{Listed}
use Rattle.dm_findings.specs.Findings.{is_an_error}
use Rattle.dm_findings.specs.Report.{Reported, is_listed, line_of, lines_from, report_of}
use Rattle.dm_findings.proofs.Reports.{none-reported}
use Rattle.dm_checker.specs.Checks.{FindsIn, reported}
use Rattle.dm_checker.specs.Checking.{UnderWay, GoesToFirst, ListsSame, founds, lists_more}
use Rattle.dm_checker.specs.Checking as first
use Rattle.dm_checker.proofs.OneCheck.{finds_goes}
use Rattle.dm_history.specs.Timelines.{Timeline}
use Rattle.dm_requests.specs.declared.request.Request.TheVariants as request
use Rattle.dm_gdb.specs.declared.replies.Reply.{Reply}
use Rattle.dm_gdb.specs.declared.replies.Reply.TheVariants as reply
use Rattle.dm_gdb.specs.Checking.{ChecksFrom, checked_text, finds, is_check, most_checked, over, short, stops, whole}
use Rattle.dm_gdb.specs.Servers.{Served, Replies, at_state, checks}
use Rattle.dm_gdb.specs.inner.Checking.{LeadsAhead}
use Rattle.dm_gdb.proofs.Replying.{replies_as}

-- ---- what is listed, and what is found

reported_all : (fs : List Found) → reported true fs ≡ fs
reported_all [] = refl
reported_all (f ∷ fs) = ap (λ (l : List Found). f ∷ l) (reported_all fs)

-- the first finding is listed
is_first : (f : Found) (b : Bool) → is_an_error f ≡ b → is_listed [] f ≡ true
is_first f true e = rw e refl
is_first f false e = rw e refl

first_line : (f : Found) (fs : List Found) → lines_from [] (f ∷ fs) ≡ line_of f fs ∷ lines_from (f ∷ []) fs
first_line f fs = rw (is_first f (is_an_error f) refl) refl

none_by : (f : Found) (fs : List Found) (ls : List Listed) → ls ≡ line_of f fs ∷ lines_from (f ∷ []) fs →
    founds ls ≡ [] → f ∷ fs ≡ []
none_by f fs [] e none = cc
none_by f fs (l ∷ ls) e none = absurd (let no : l.found ∷ founds ls ≡ [] = none in cc)

none_found : (fs : List Found) → founds (report_of fs).listed ≡ [] → fs ≡ []
unfolding report_of
none_found [] e = refl
none_found (f ∷ fs) e = none_by f fs (lines_from [] (f ∷ fs)) (first_line f fs) e

empty_listed : (report_of []).listed ≡ []
empty_listed = ap (λ (r : Reported). r.listed) none-reported

-- of a run that listed nothing before
nothing_before : (c : UnderWay) (fs : List Found) → c.report ≡ report_of [] → c.free ≡ true → ListsSame c fs → fs ≡ []
nothing_before c fs empty free same =
    let all : reported c.free fs ≡ fs = ap (λ (b : Bool). reported b fs) free ∙ reported_all fs in
    let none : founds c.report.listed ≡ [] = ap (λ (r : Reported). founds r.listed) empty ∙ ap founds empty_listed in
    none_found fs (ap (λ (l : List Found). founds (report_of l).listed) (sym all) ∙ same ∙ none)

report_all : (c : UnderWay) (r : Reported) (fs : List Found) → c.free ≡ true → r ≡ report_of (reported c.free fs) →
    r ≡ report_of fs
report_all c r fs free e = e ∙ ap (λ (b : Bool). report_of (reported b fs)) free ∙ ap report_of (reported_all fs)

some_found : (r : Reported) (fs : List Found) (n : ℕ) → r ≡ report_of fs → n < length r.listed → fs ≢ []
some_found r fs n e more none =
    let empty : r.listed ≡ [] = ap (λ (x : Reported). x.listed) e ∙ ap (λ (l : List Found). (report_of l).listed) none
    ∙ empty_listed in
    let zero = ap (λ (l : List Listed). length l) empty in
    absurd (omega (arith, more, zero))

-- ---- the steps

with_text : (s t : State) (text : List ℕ) (r q : Reported) (why : Option Stop) → text ≡ checked_text r why → r ≡ q →
    ChecksFrom s (reply.Bytes (checked_text q why)) t → ChecksFrom s (reply.Bytes text) t
with_text s t text r q why e f h =
    subst (λ (x : List ℕ). ChecksFrom s (reply.Bytes x) t) (sym (e ∙ ap (λ (x : Reported). checked_text x why) f)) h

-- something is found in the last of them
pub leads_on : (s t : State) (old new : UnderWay) (why : Option Stop) (text : List ℕ) → why ≡ None →
    old.report ≡ report_of [] → old.free ≡ true → GoesToFirst s most_checked old t new why
    → text ≡ checked_text new.report None → LeadsAhead s (most_checked - new.left) text
leads_on s t old new _ text e empty free (lists_more before fs gs running less f same g more is) told =
    let none = nothing_before old fs empty free same in
    let made : most_checked - new.left ≡ most_checked - new.left - 1 + 1 = omega (arith, less) in
    let report = report_all old new.report gs free is in
    record {
      to = t;
      why = AllSteps;
      few = omega arith;
      run = run.whole running refl (finds_goes s t (most_checked - new.left) gs g);
      able = λ no. cc;
      checks = with_text s t text new.report (report_of gs) None told report
          (finds (most_checked - new.left - 1) before t gs running (omega (arith, less))
          (subst (λ (l : List Found). FindsIn s (most_checked - new.left - 1) before l) none f)
          (subst (λ (i : ℕ). FindsIn s i t gs) made g) (some_found new.report gs (length old.report.listed) report
          more));
    }
leads_on s t old new _ text e empty free (first.over code ended same is) told = absurd (cc)
leads_on s t old new _ text e empty free (first.whole fs running f same is) told = absurd (cc)
leads_on s t old new _ text e empty free (first.cut made before k fs gs stop running less f origins same a at is) told =
    absurd (cc)

stopped_by : (s t : State) (text : List ℕ) (a b : Stop) → Some a ≡ Some b → b ≢ NoMemory →
    (a ≢ NoMemory → LeadsAhead s most_checked text) → LeadsAhead s most_checked text
stopped_by s t text a b e able h = h (λ no. able (let same : a ≡ b = cc in sym same ∙ no))

-- the program stops, or all steps are made
pub leads_stopped : (s t : State) (old new : UnderWay) (o : Option Stop) (why : Stop) (text : List ℕ) → o ≡ Some why →
    why ≢ NoMemory → old.report ≡ report_of [] → old.free ≡ true
    → GoesToFirst s most_checked old t new o → text ≡ checked_text new.report o → LeadsAhead s most_checked text
leads_stopped s t old new _ why text e able empty free (lists_more before fs gs running less f same g more is) told =
    absurd (cc)
leads_stopped s t old new _ why text e able empty free (first.over code ended same is) told = record {
  to = s;
  why = Exited code;
  few = omega arith;
  run = run.over code ended refl refl;
  able = λ no. cc;
  checks = with_text s s text new.report (report_of []) (Some (Exited code)) told is (over code ended);
}
leads_stopped s t old new _ why text e able empty free (first.whole fs running f same is) told =
    let none = nothing_before old fs empty free same in
    let report = report_all old new.report fs free is ∙ ap report_of none in
    let found = subst (λ (l : List Found). FindsIn s most_checked t l) none f in
    record {
      to = t;
      why = AllSteps;
      few = omega arith;
      run = run.whole running refl (finds_goes s t most_checked [] found);
      able = λ no. cc;
      checks = with_text s t text new.report (report_of []) (Some AllSteps) told report (whole t running found);
    }
leads_stopped s t old new _ why text e able empty free (first.cut made before k fs gs stop running less f origins same a
    at is) told =
    let none = nothing_before old fs empty free same in
    let report = report_all old new.report (fs ++ gs) free is ∙ ap (λ (l : List Found). report_of (l ++ gs)) none in
    let found = subst (λ (l : List Found). FindsIn s made before l) none f in
    stopped_by s t text stop why e able (λ (other : stop ≢ NoMemory). record {
      to = t;
      why = stop;
      few = omega arith;
      run = run.cut running (record {
        made = made;
        before = before;
        fewer = less;
        goes = finds_goes s before made [] found;
        answers = a;
      });
      able = other;
      checks = with_text s t text new.report (report_of gs) (Some stop) told report
          (stops made before t k gs stop running other less found origins a at);
    })

-- the same, by what is known of the steps and of the text
pub told_on : (s t : State) (old new : UnderWay) (why : Option Stop) (steps : ℕ) (text : List ℕ) (r : Reported) →
    why ≡ None → old.report ≡ report_of [] → old.free ≡ true
    → GoesToFirst s most_checked old t new why → r ≡ new.report → steps ≡ most_checked - new.left →
    text ≡ checked_text r None → LeadsAhead s steps text
told_on s t old new why steps text r e empty free goes same made told =
    subst (λ (i : ℕ). LeadsAhead s i text) (sym made) (leads_on s t old new why text e empty free goes (told
    ∙ ap (λ (x : Reported). checked_text x None) same))

pub told_stopped : (s t : State) (old new : UnderWay) (o : Option Stop) (why : Stop) (steps : ℕ) (text : List ℕ)
    (r : Reported) → o ≡ Some why → why ≢ NoMemory → old.report ≡ report_of [] → old.free ≡ true
    → GoesToFirst s most_checked old t new o → r ≡ new.report → steps ≡ most_checked →
    text ≡ checked_text r (Some why) → LeadsAhead s steps text
told_stopped s t old new o why steps text r e able empty free goes same made told =
    subst (λ (i : ℕ). LeadsAhead s i text) (sym made)
    (leads_stopped s t old new o why text e able empty free goes (told
    ∙ ap (λ (x : Reported). checked_text x (Some why)) same ∙ ap (λ (x : Option Stop). checked_text new.report x)
    (sym e)))

-- ---- the session

-- a reply to the command, where what changed is known
checks_as : (a s : Served) (x : Timeline) (most : ℕ) (line : List ℕ) (told : Reply) → a ≡ s → is_check line ≡ true →
    x ≡ record a.history { machine = x.machine } → ChecksFrom a.history.machine told x.machine
    → Replies s most (request.Command line) told (record a { history = x })
checks_as a s x most line told e is f h =
    subst (λ (y : Served). Replies y most (request.Command line) told (record a { history = x })) e
    (replies_as a (record a { history = x }) (at_state a x.machine) most (request.Command line)
    (request.Command line) told told (checks line told x.machine is h) refl refl
    (ap (λ (p : Timeline). record a { history = p }) f))

-- memory for the output was wanted on the way
pub short_as : (a s : Served) (x : Timeline) (most : ℕ) (line : List ℕ) (steps : ℕ) (text : List ℕ) (why : Stop) → a ≡ s →
    is_check line ≡ true → x ≡ record a.history { machine = x.machine }
    → LeadsAhead a.history.machine steps text → IsRun a.history.machine steps why x.machine → why ≡ NoMemory →
    Replies s most (request.Command line) reply.StoppedBefore (record a { history = x })
short_as a s x most line steps text why e is f ahead went wanted =
    checks_as a s x most line reply.StoppedBefore e is f (short steps x.machine ahead.few
    (subst (λ (z : Stop). IsRun a.history.machine steps z x.machine) wanted went))

-- the steps were made
pub checked_as : (a s : Served) (x : Timeline) (most : ℕ) (line : List ℕ) (steps : ℕ) (text : List ℕ) (why : Stop)
    (told : Reply) → a ≡ s → is_check line ≡ true → x ≡ record a.history { machine = x.machine }
    → LeadsAhead a.history.machine steps text → IsRun a.history.machine steps why x.machine → why ≢ NoMemory →
    told ≡ reply.Bytes text → Replies s most (request.Command line) told (record a { history = x })
checked_as a s x most line steps text why told e is f ahead went able said =
    let one = run-one a.history.machine ahead.to x.machine steps ahead.why why ahead.run went ahead.able able in
    let h = subst (λ (z : State). ChecksFrom a.history.machine (reply.Bytes text) z) one.1 ahead.checks in
    checks_as a s x most line told e is f (subst (λ (r : Reply). ChecksFrom a.history.machine r x.machine) (sym said) h)
