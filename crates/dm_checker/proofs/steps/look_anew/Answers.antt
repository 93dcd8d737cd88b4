use Rattle.std.proofs.Common.{◌≡◌, ◌++◌, map, sym, ◌∙◌}
use Rattle.std.proofs.lemmas.Result.{on_ok_weaker}
use Rattle.dm_space.specs.Memory.{Memory}
use Rattle.dm_origins.specs.outcomes.Calls.{arranges}
use Rattle.dm_checker.specs.Headers.{overwritten, mapped_away}
use Rattle.dm_checker.specs.Findings.{all_overwritten}
use Rattle.dm_checker.specs.ArenaCopy.{header_of}
use Rattle.dm_checker.proofs.Looking.{overwritten_none, overwritten_all, at_arena, looks_by}
use Rattle.dm_checker.proofs.steps.look_anew.Goals as goal
use Rattle.dm_checker.proofs.steps.look_anew.Goals.{then-not-arranges+in_ok-put_all_overwritten, else-not-arranges}

pub returns : goal.returns
returns c = on_ok_weaker c.put_arranged.result (λ e s before arena.
    let T = c.space-space.result.now.memory in
    let old = c.args.old.now in
    let b = c.args.before.now in
    let over : c.if-not-arranges.out.items ≡ c.args.out.now.items
    ++ all_overwritten (arranges b.cpu b.call) s.memory T (map header_of old.headers.items)
    = elim c.if-not-arranges.branch [
      | then-not-arranges+in_ok-put_all_overwritten w ↦
          (let all = at_arena (λ (S : Memory). overwritten S T) old w.deref.result.now c.args.out.now.items
          w.put_all_overwritten.new.out.items w.deref.ensures.value w.in_ok-put_all_overwritten.ensures s.upper
          s.memory arena in
          let put = overwritten_all (arranges b.cpu b.call) s.memory T _ c.args.out.now.items
          w.put_all_overwritten.new.out.items (sym c.arranges.ensures ∙ w.if-not-arranges.true) all in
          cc)
      | else-not-arranges w ↦
          overwritten_none (arranges b.cpu b.call) s.memory T _ c.args.out.now.items c.if-not-arranges.out.items
          (sym c.arranges.ensures ∙ w.if-not-arranges.false) (cc)
    ] in
    let away = at_arena (λ (S : Memory). mapped_away S T) old c.deref-2.result.now c.if-not-arranges.out.items
    c.put_all_mapped_away.new.out.items c.deref-2.ensures.value c.in_ok-put_all_mapped_away.ensures s.upper s.memory
    arena in
    looks_by s c.args.machine.now b c.cpu-after.result T old c.args.new.now c.deref-3.result.now c.deref-4.result.now
    c.args.out.now.items c.if-not-arranges.out.items c.put_all_mapped_away.new.out.items c.put_turned.new.out.items
    c.put_freed_twice.new.out.items c.append_call_findings.new.out.items c.put_arranged.new.out.items before arena
    c.requires.after c.cpu-after.ensures c.space-space.ensures c.deref-3.ensures.value over away
    c.in_ok-put_turned.ensures c.deref-4.ensures.value c.in_ok-put_freed_twice.ensures
    c.in_ok-append_call_findings.ensures e
    ) c.put_arranged.ensures
