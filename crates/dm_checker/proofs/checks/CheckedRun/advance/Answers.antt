use Rattle.std.proofs.Common.{◌≡◌, ◌∙◌, ◌-◌, ◌<◌, ◌≤◌, Bool, true, false, List, length, Option, Some, None, refl, ap, sym, subst, arith}
use Rattle.dm_services.specs.declared.state.stop.Stop.{Stop}
use Rattle.dm_services.specs.declared.state.stop.Stop.TheVariants.{Steps as AllSteps}
use Rattle.dm_findings.specs.declared.report.Listed.{Listed}
use Rattle.dm_checker.specs.Checks.{IsReport}
use Rattle.dm_checker.specs.Checking.{UnderWay, going}
use Rattle.dm_checker.specs.inner.Steps.{ChecksOne}
use Rattle.dm_checker.specs.inner.Steps as steps
use Rattle.dm_checker.proofs.Checking.{HasChecked, checked_all, at_err}
use Rattle.dm_checker.proofs.Longer.{longer_on}
use Rattle.dm_checker.proofs.Underway.{ended_of, ended_processes, first_ended, going_of, made_of, all_made, all_processes, first_whole, stopped, stop_processes, first_stopped, gone_on, first_listed, part_lost, listed_on}
use Rattle.dm_checker.proofs.checks.CheckedRun.advance.Goals.{else-pausing-via-then-pausing+else-listed, else-pausing-via-else-pausing}
use Rattle.dm_checker.proofs.checks.CheckedRun.advance.Goals as goal

pub returns-in-Some-clause-ok : goal.returns-in-Some-clause-ok
returns-in-Some-clause-ok c s n way =
    let over : c.args.self.now.over ≡ Some c.in-Some.code = sym (ap (λ (u : UnderWay). u.over) c.self.view_is)
    ∙ c.in-Some.is in
    ended_of s c.args.machine.now n c.in-Some.code c.args.self.now over way

pub returns-then-left-eq0-clause-ok : goal.returns-then-left-eq0-clause-ok
returns-then-left-eq0-clause-ok c s n way =
    let free : c.self.inside.free ≡ c.args.self.now.free = ap (λ (u : UnderWay). u.free) c.self.view_is in
    let most : c.args.self.now.left ≡ c.self.inside.left = sym (ap (λ (u : UnderWay). u.left) c.self.view_is) in
    let over : c.args.self.now.over ≡ None = sym (ap (λ (u : UnderWay). u.over) c.self.view_is) ∙ c.in_default.is in
    let few : c.loop.left ≤ n = (let g = (going_of s c.args.machine.now n c.args.self.now over way).few in
    omega (arith, c.loop.invariant.few, most, g)) in
    let all : c.run_unmarked-left.result ≡ c.loop.left = omega (arith, c.if-left-eq0.true, c.run_unmarked-left.ensures.most) in
    let h = c.loop.invariant.checked s n way in
    subst (λ (f : Bool). IsReport s n f AllSteps c.run_unmarked-left.new.machine c.loop.self-inside.report) free
    (all_made c.self.inside.free s c.loop.machine c.run_unmarked-left.new.machine n c.loop.left c.run_unmarked-left.result
    c.loop.self-inside.origins c.loop.self-inside.report few h c.run_unmarked-left.ensures.unfound all)

pub returns-in_err-stop-clause-err : goal.returns-in_err-stop-clause-err
returns-in_err-stop-clause-err c = at_err c.from_residual.result (λ s n way.
    let most : c.args.self.now.left ≡ c.self.inside.left = sym (ap (λ (u : UnderWay). u.left) c.self.view_is) in
    let over : c.args.self.now.over ≡ None = sym (ap (λ (u : UnderWay). u.over) c.self.view_is) ∙ c.in_default.is in
    let few : c.loop.left ≤ n = (let g = (going_of s c.args.machine.now n c.args.self.now over way).few in
    omega (arith, c.loop.invariant.few, most, g)) in
    let less : c.run_unmarked-left.result < c.loop.left = omega (arith, c.if-left-eq0.false, c.run_unmarked-left.ensures.most) in
    let h = c.loop.invariant.checked s n way in
    part_lost c.self.inside.free s c.loop.machine c.run_unmarked-left.new.machine n c.loop.left c.run_unmarked-left.result
    c.loop.self-inside.origins c.loop.self-inside.report few h c.run_unmarked-left.ensures.unfound less
    c.look_at_step.new.machine c.in_err-stop.ensures.err)

pub returns-in-Some-2-clause-ok : goal.returns-in-Some-2-clause-ok
returns-in-Some-2-clause-ok c s n way =
    let free : c.self.inside.free ≡ c.args.self.now.free = ap (λ (u : UnderWay). u.free) c.self.view_is in
    let most : c.args.self.now.left ≡ c.self.inside.left = sym (ap (λ (u : UnderWay). u.left) c.self.view_is) in
    let over : c.args.self.now.over ≡ None = sym (ap (λ (u : UnderWay). u.over) c.self.view_is) ∙ c.in_default.is in
    let few : c.loop.left ≤ n = (let g = (going_of s c.args.machine.now n c.args.self.now over way).few in
    omega (arith, c.loop.invariant.few, most, g)) in
    let less : c.run_unmarked-left.result < c.loop.left = omega (arith, c.if-left-eq0.false, c.run_unmarked-left.ensures.most) in
    let h = c.loop.invariant.checked s n way in
    let F : Option Stop → Type 0 = λ o. ChecksOne c.self.inside.free c.run_unmarked-left.new.machine o
    c.look_at_step.new.machine c.look_at_step.new.kept c.loop.self-inside.origins c.look_at_step.new.origins
    c.loop.self-inside.report c.look_at_step.new.report in
    subst (λ (f : Bool). IsReport s n f c.in-Some-2.stop c.look_at_step.new.machine c.look_at_step.new.report) free
    (stopped c.self.inside.free s c.loop.machine c.run_unmarked-left.new.machine n c.loop.left c.run_unmarked-left.result
    c.loop.self-inside.origins c.loop.self-inside.report few h c.run_unmarked-left.ensures.unfound less
    c.look_at_step.new.machine c.in-Some-2.stop c.look_at_step.new.kept c.look_at_step.new.origins
    c.look_at_step.new.report (subst F c.in-Some-2.is c.in_ok-stop.ensures.ok))

pub returns-in-Some-2-clause-lines : goal.returns-in-Some-2-clause-lines
returns-in-Some-2-clause-lines c =
    let s = c.requires.way.0 in
    let n = c.requires.way.1 in
    let way = c.requires.way.2 in
    let most : c.args.self.now.left ≡ c.self.inside.left = sym (ap (λ (u : UnderWay). u.left) c.self.view_is) in
    let over : c.args.self.now.over ≡ None = sym (ap (λ (u : UnderWay). u.over) c.self.view_is) ∙ c.in_default.is in
    let few : c.loop.left ≤ n = (let g = (going_of s c.args.machine.now n c.args.self.now over way).few in
    omega (arith, c.loop.invariant.few, most, g)) in
    let h = c.loop.invariant.checked s n way in
    longer_on _ _ _ c.loop.invariant.longer
    (listed_on c.self.inside.free s c.loop.machine c.run_unmarked-left.new.machine n c.loop.left c.run_unmarked-left.result
    c.loop.self-inside.origins c.loop.self-inside.report few h c.run_unmarked-left.ensures.unfound
    c.look_at_step.new.machine _ c.look_at_step.new.kept c.look_at_step.new.origins c.look_at_step.new.report
    c.in_ok-stop.ensures.ok)

pub returns-then-listed-clause-ok : goal.returns-then-listed-clause-ok
returns-then-listed-clause-ok c s n way =
    let free : c.self.inside.free ≡ c.args.self.now.free = ap (λ (u : UnderWay). u.free) c.self.view_is in
    let most : c.args.self.now.left ≡ c.self.inside.left = sym (ap (λ (u : UnderWay). u.left) c.self.view_is) in
    let over : c.args.self.now.over ≡ None = sym (ap (λ (u : UnderWay). u.over) c.self.view_is) ∙ c.in_default.is in
    let few : c.loop.left ≤ n = (let g = (going_of s c.args.machine.now n c.args.self.now over way).few in
    omega (arith, c.loop.invariant.few, most, g)) in
    let less : c.run_unmarked-left.result < c.loop.left = omega (arith, c.if-left-eq0.false, c.run_unmarked-left.ensures.most) in
    let h = c.loop.invariant.checked s n way in
    let u = c.run_unmarked-left.new.machine in
    let v = c.look_at_step.new.machine in
    let report = c.look_at_step.new.report in
    let F : Option Stop → Type 0 = λ o. ChecksOne c.self.inside.free u o v c.look_at_step.new.kept
    c.loop.self-inside.origins c.look_at_step.new.origins c.loop.self-inside.report report in
    let x = gone_on c.self.inside.free s c.loop.machine u n c.loop.left c.run_unmarked-left.result c.loop.self-inside.origins
    c.loop.self-inside.report few h c.run_unmarked-left.ensures.unfound less
    v c.look_at_step.new.kept c.look_at_step.new.origins report (subst F c.in_default-2.is c.in_ok-stop.ensures.ok) in
    let made = subst (λ (f : Bool). HasChecked f s (n - (c.loop.left - c.run_unmarked-left.result - 1)) v
    c.look_at_step.new.origins report) (sym c.loop.invariant.free) x in (
      going (c.loop.invariant.over ∙ over) (made_of s v n _ (omega (arith, few)) made)
          (c.in_ok-stop.ensures.ok.arena c.in_default-2.is),
      omega (arith, c.loop.invariant.few, most, less),
      c.loop.invariant.free ∙ free,
    )

pub returns-then-listed-clause-lines : goal.returns-then-listed-clause-lines
returns-then-listed-clause-lines c =
    let s = c.requires.way.0 in
    let n = c.requires.way.1 in
    let way = c.requires.way.2 in
    let most : c.args.self.now.left ≡ c.self.inside.left = sym (ap (λ (u : UnderWay). u.left) c.self.view_is) in
    let over : c.args.self.now.over ≡ None = sym (ap (λ (u : UnderWay). u.over) c.self.view_is) ∙ c.in_default.is in
    let few : c.loop.left ≤ n = (let g = (going_of s c.args.machine.now n c.args.self.now over way).few in
    omega (arith, c.loop.invariant.few, most, g)) in
    let h = c.loop.invariant.checked s n way in
    longer_on _ _ _ c.loop.invariant.longer
    (listed_on c.self.inside.free s c.loop.machine c.run_unmarked-left.new.machine n c.loop.left c.run_unmarked-left.result
    c.loop.self-inside.origins c.loop.self-inside.report few h c.run_unmarked-left.ensures.unfound
    c.look_at_step.new.machine _ c.look_at_step.new.kept c.look_at_step.new.origins c.look_at_step.new.report
    c.in_ok-stop.ensures.ok)

pub loop-preserved : goal.loop-preserved
loop-preserved c =
    let most : c.args.self.now.left ≡ c.self.inside.left = sym (ap (λ (u : UnderWay). u.left) c.self.view_is) in
    let over : c.args.self.now.over ≡ None = sym (ap (λ (u : UnderWay). u.over) c.self.view_is) ∙ c.in_default.is in
    let less : c.run_unmarked-left.result < c.loop.left = omega (arith, c.if-left-eq0.false, c.run_unmarked-left.ensures.most) in
    let u = c.run_unmarked-left.new.machine in
    let v = c.look_at_step.new.machine in
    let report = c.look_at_step.new.report in
    let F : Option Stop → Type 0 = λ o. ChecksOne c.self.inside.free u o v c.look_at_step.new.kept
    c.loop.self-inside.origins c.look_at_step.new.origins c.loop.self-inside.report report in
    let x = subst F c.in_default-2.is c.in_ok-stop.ensures.ok in
    let entry : length c.listed-listed.result.now ≡ length c.args.self.now.report.listed
    = ap (λ (l : List Listed). length l) c.listed-listed.ensures
    ∙ ap (λ (u : UnderWay). length u.report.listed) c.self.view_is in
    let kept_few : c.args.pausing ≡ true → length report.listed ≤ length c.args.self.now.report.listed
    = λ pausing. elim c.else-pausing.branch [
      | else-pausing-via-then-pausing+else-listed w ↦
          (let now : length w.listed.result.now ≡ length report.listed =
          ap (λ (l : List Listed). length l) w.listed.ensures in
          let few_now = w.if-listed.false in
          omega (arith, entry, now, few_now))
      | else-pausing-via-else-pausing w ↦ absurd (let no = w.if-pausing.false in let both : true ≡ false = sym pausing
          ∙ no in cc)
    ] in
    record {
      checked = λ s n way.
          let few : c.loop.left ≤ n = (let g = (going_of s c.args.machine.now n c.args.self.now over way).few in
          omega (arith, c.loop.invariant.few, most, g)) in
          gone_on c.self.inside.free s c.loop.machine u n c.loop.left c.run_unmarked-left.result c.loop.self-inside.origins
          c.loop.self-inside.report few (c.loop.invariant.checked s n way) c.run_unmarked-left.ensures.unfound less
          v c.look_at_step.new.kept c.look_at_step.new.origins report x;
      few = omega (arith, c.loop.invariant.few, less);
      no_more = λ pausing. kept_few pausing;
      longer =
          let s = c.requires.way.0 in
          let n = c.requires.way.1 in
          let way = c.requires.way.2 in
          let few : c.loop.left ≤ n = (let g = (going_of s c.args.machine.now n c.args.self.now over way).few in
          omega (arith, c.loop.invariant.few, most, g)) in
          longer_on _ _ _ c.loop.invariant.longer
          (listed_on c.self.inside.free s c.loop.machine u n c.loop.left c.run_unmarked-left.result c.loop.self-inside.origins
          c.loop.self-inside.report few (c.loop.invariant.checked s n way) c.run_unmarked-left.ensures.unfound
          v None c.look_at_step.new.kept c.look_at_step.new.origins report x);
      over = c.loop.invariant.over;
      free = c.loop.invariant.free;
      arena = c.in_ok-stop.ensures.ok.arena c.in_default-2.is;
      program = c.look_at_step.ensures.program;
    }

pub returns-clause-ok : goal.returns-clause-ok
returns-clause-ok c s n way =
    let free : c.self.inside.free ≡ c.args.self.now.free = ap (λ (u : UnderWay). u.free) c.self.view_is in
    let most : c.args.self.now.left ≡ c.self.inside.left = sym (ap (λ (u : UnderWay). u.left) c.self.view_is) in
    let over : c.args.self.now.over ≡ None = sym (ap (λ (u : UnderWay). u.over) c.self.view_is) ∙ c.in_default.is in
    let g = (going_of s c.args.machine.now n c.args.self.now over way).few in
    let all : n - c.loop.left ≡ n = omega (arith, c.loop.invariant.few, c.loop-test.false, most, g) in
    subst (λ (f : Bool). IsReport s n f AllSteps c.loop.machine c.loop.self-inside.report) free
    (checked_all c.self.inside.free s c.loop.machine (n - c.loop.left) n c.loop.self-inside.origins
    c.loop.self-inside.report (c.loop.invariant.checked s n way) all)

-- ---- the processes

pub returns-in-Some-clause-processes : goal.returns-in-Some-clause-processes
returns-in-Some-clause-processes c s n way =
    let over : c.args.self.now.over ≡ Some c.in-Some.code = sym (ap (λ (u : UnderWay). u.over) c.self.view_is)
    ∙ c.in-Some.is in
    ended_processes s c.args.machine.now n c.in-Some.code c.args.self.now over way

pub returns-then-left-eq0-clause-processes : goal.returns-then-left-eq0-clause-processes
returns-then-left-eq0-clause-processes c s n way =
    let free : c.self.inside.free ≡ c.args.self.now.free = ap (λ (u : UnderWay). u.free) c.self.view_is in
    let most : c.args.self.now.left ≡ c.self.inside.left = sym (ap (λ (u : UnderWay). u.left) c.self.view_is) in
    let over : c.args.self.now.over ≡ None = sym (ap (λ (u : UnderWay). u.over) c.self.view_is) ∙ c.in_default.is in
    let few : c.loop.left ≤ n = (let g = (going_of s c.args.machine.now n c.args.self.now over way).few in
    omega (arith, c.loop.invariant.few, most, g)) in
    let h = c.loop.invariant.checked s n way in
    let all : c.run_unmarked-left.result ≡ c.loop.left = omega (arith, c.if-left-eq0.true, c.run_unmarked-left.ensures.most) in
    all_processes c.self.inside.free s c.loop.machine c.run_unmarked-left.new.machine n c.loop.left c.run_unmarked-left.result
    c.loop.self-inside.origins c.loop.self-inside.report few h c.run_unmarked-left.ensures.unfound all

pub returns-in-Some-2-clause-processes : goal.returns-in-Some-2-clause-processes
returns-in-Some-2-clause-processes c s n way =
    let free : c.self.inside.free ≡ c.args.self.now.free = ap (λ (u : UnderWay). u.free) c.self.view_is in
    let most : c.args.self.now.left ≡ c.self.inside.left = sym (ap (λ (u : UnderWay). u.left) c.self.view_is) in
    let over : c.args.self.now.over ≡ None = sym (ap (λ (u : UnderWay). u.over) c.self.view_is) ∙ c.in_default.is in
    let few : c.loop.left ≤ n = (let g = (going_of s c.args.machine.now n c.args.self.now over way).few in
    omega (arith, c.loop.invariant.few, most, g)) in
    let h = c.loop.invariant.checked s n way in
    let less : c.run_unmarked-left.result < c.loop.left = omega (arith, c.if-left-eq0.false, c.run_unmarked-left.ensures.most) in
    let F : Option Stop → Type 0 = λ o. ChecksOne c.self.inside.free c.run_unmarked-left.new.machine o
    c.look_at_step.new.machine c.look_at_step.new.kept c.loop.self-inside.origins c.look_at_step.new.origins
    c.loop.self-inside.report c.look_at_step.new.report in
    stop_processes c.self.inside.free s c.loop.machine c.run_unmarked-left.new.machine n c.loop.left c.run_unmarked-left.result
    c.loop.self-inside.origins c.loop.self-inside.report few h c.run_unmarked-left.ensures.unfound less
    c.look_at_step.new.machine c.in-Some-2.stop c.look_at_step.new.kept c.look_at_step.new.origins
    c.look_at_step.new.report (subst F c.in-Some-2.is c.in_ok-stop.ensures.ok)

pub returns-clause-processes : goal.returns-clause-processes
returns-clause-processes c s n way =
    let free : c.self.inside.free ≡ c.args.self.now.free = ap (λ (u : UnderWay). u.free) c.self.view_is in
    let most : c.args.self.now.left ≡ c.self.inside.left = sym (ap (λ (u : UnderWay). u.left) c.self.view_is) in
    let over : c.args.self.now.over ≡ None = sym (ap (λ (u : UnderWay). u.over) c.self.view_is) ∙ c.in_default.is in
    let few : c.loop.left ≤ n = (let g = (going_of s c.args.machine.now n c.args.self.now over way).few in
    omega (arith, c.loop.invariant.few, most, g)) in
    let h = c.loop.invariant.checked s n way in
    let none : 0 ≡ c.loop.left = omega (arith, c.loop.invariant.few, c.loop-test.false) in
    all_processes c.self.inside.free s c.loop.machine c.loop.machine n c.loop.left 0 c.loop.self-inside.origins
    c.loop.self-inside.report few h steps.here none

-- ---- up to the first finding that is not listed yet

pub returns-in-Some-clause-first : goal.returns-in-Some-clause-first
returns-in-Some-clause-first c pausing s n way =
    let over : c.args.self.now.over ≡ Some c.in-Some.code = sym (ap (λ (u : UnderWay). u.over) c.self.view_is)
    ∙ c.in-Some.is in
    first_ended s c.args.machine.now n c.in-Some.code c.args.self.now _ over refl way

pub returns-then-left-eq0-clause-first : goal.returns-then-left-eq0-clause-first
returns-then-left-eq0-clause-first c pausing s n way =
    let free : c.self.inside.free ≡ c.args.self.now.free = ap (λ (u : UnderWay). u.free) c.self.view_is in
    let most : c.args.self.now.left ≡ c.self.inside.left = sym (ap (λ (u : UnderWay). u.left) c.self.view_is) in
    let over : c.args.self.now.over ≡ None = sym (ap (λ (u : UnderWay). u.over) c.self.view_is) ∙ c.in_default.is in
    let few : c.loop.left ≤ n = (let g = (going_of s c.args.machine.now n c.args.self.now over way).few in
    omega (arith, c.loop.invariant.few, most, g)) in
    let h = c.loop.invariant.checked s n way in
    let all : c.run_unmarked-left.result ≡ c.loop.left = omega (arith, c.if-left-eq0.true, c.run_unmarked-left.ensures.most) in
    first_whole c.self.inside.free s c.loop.machine c.run_unmarked-left.new.machine n c.loop.left c.run_unmarked-left.result
    c.loop.self-inside.origins c.loop.self-inside.report few h c.run_unmarked-left.ensures.unfound
    c.args.self.now _ (sym free) c.loop.invariant.longer (c.loop.invariant.no_more pausing) all refl

pub returns-in-Some-2-clause-first : goal.returns-in-Some-2-clause-first
returns-in-Some-2-clause-first c pausing s n way =
    let free : c.self.inside.free ≡ c.args.self.now.free = ap (λ (u : UnderWay). u.free) c.self.view_is in
    let most : c.args.self.now.left ≡ c.self.inside.left = sym (ap (λ (u : UnderWay). u.left) c.self.view_is) in
    let over : c.args.self.now.over ≡ None = sym (ap (λ (u : UnderWay). u.over) c.self.view_is) ∙ c.in_default.is in
    let few : c.loop.left ≤ n = (let g = (going_of s c.args.machine.now n c.args.self.now over way).few in
    omega (arith, c.loop.invariant.few, most, g)) in
    let h = c.loop.invariant.checked s n way in
    let less : c.run_unmarked-left.result < c.loop.left = omega (arith, c.if-left-eq0.false, c.run_unmarked-left.ensures.most) in
    let F : Option Stop → Type 0 = λ o. ChecksOne c.self.inside.free c.run_unmarked-left.new.machine o
    c.look_at_step.new.machine c.look_at_step.new.kept c.loop.self-inside.origins c.look_at_step.new.origins
    c.loop.self-inside.report c.look_at_step.new.report in
    first_stopped c.self.inside.free s c.loop.machine c.run_unmarked-left.new.machine n c.loop.left c.run_unmarked-left.result
    c.loop.self-inside.origins c.loop.self-inside.report few h c.run_unmarked-left.ensures.unfound
    c.args.self.now _ (sym free) c.loop.invariant.longer (c.loop.invariant.no_more pausing) less
    c.look_at_step.new.machine c.in-Some-2.stop c.look_at_step.new.kept c.look_at_step.new.origins
    (subst F c.in-Some-2.is c.in_ok-stop.ensures.ok)

pub returns-then-listed-clause-first : goal.returns-then-listed-clause-first
returns-then-listed-clause-first c pausing s n way =
    let free : c.self.inside.free ≡ c.args.self.now.free = ap (λ (u : UnderWay). u.free) c.self.view_is in
    let most : c.args.self.now.left ≡ c.self.inside.left = sym (ap (λ (u : UnderWay). u.left) c.self.view_is) in
    let over : c.args.self.now.over ≡ None = sym (ap (λ (u : UnderWay). u.over) c.self.view_is) ∙ c.in_default.is in
    let few : c.loop.left ≤ n = (let g = (going_of s c.args.machine.now n c.args.self.now over way).few in
    omega (arith, c.loop.invariant.few, most, g)) in
    let h = c.loop.invariant.checked s n way in
    let less : c.run_unmarked-left.result < c.loop.left = omega (arith, c.if-left-eq0.false, c.run_unmarked-left.ensures.most) in
    let F : Option Stop → Type 0 = λ o. ChecksOne c.self.inside.free c.run_unmarked-left.new.machine o
    c.look_at_step.new.machine c.look_at_step.new.kept c.loop.self-inside.origins c.look_at_step.new.origins
    c.loop.self-inside.report c.look_at_step.new.report in
    let entry : length c.listed-listed.result.now ≡ length c.args.self.now.report.listed
    = ap (λ (l : List Listed). length l) c.listed-listed.ensures
    ∙ ap (λ (u : UnderWay). length u.report.listed) c.self.view_is in
    let now : length c.listed.result.now ≡ length c.look_at_step.new.report.listed =
    ap (λ (l : List Listed). length l) c.listed.ensures in
    let above = c.if-listed.true in
    let more : length c.args.self.now.report.listed < length c.look_at_step.new.report.listed =
    omega (arith, entry, now, above) in
    first_listed c.self.inside.free s c.loop.machine c.run_unmarked-left.new.machine n c.loop.left c.run_unmarked-left.result
    c.loop.self-inside.origins c.loop.self-inside.report few h c.run_unmarked-left.ensures.unfound
    c.args.self.now _ (sym free) c.loop.invariant.longer (c.loop.invariant.no_more pausing) less
    c.look_at_step.new.machine c.look_at_step.new.kept c.look_at_step.new.origins
    (subst F c.in_default-2.is c.in_ok-stop.ensures.ok) refl more

pub returns-clause-first : goal.returns-clause-first
returns-clause-first c pausing s n way =
    let free : c.self.inside.free ≡ c.args.self.now.free = ap (λ (u : UnderWay). u.free) c.self.view_is in
    let most : c.args.self.now.left ≡ c.self.inside.left = sym (ap (λ (u : UnderWay). u.left) c.self.view_is) in
    let over : c.args.self.now.over ≡ None = sym (ap (λ (u : UnderWay). u.over) c.self.view_is) ∙ c.in_default.is in
    let few : c.loop.left ≤ n = (let g = (going_of s c.args.machine.now n c.args.self.now over way).few in
    omega (arith, c.loop.invariant.few, most, g)) in
    let h = c.loop.invariant.checked s n way in
    let none : 0 ≡ c.loop.left = omega (arith, c.loop.invariant.few, c.loop-test.false) in
    first_whole c.self.inside.free s c.loop.machine c.loop.machine n c.loop.left 0 c.loop.self-inside.origins
    c.loop.self-inside.report few h steps.here
    c.args.self.now _ (sym free) c.loop.invariant.longer (c.loop.invariant.no_more pausing) none refl
