use Rattle.std.proofs.Common.{◌≡◌, ◌%◌, length, inr, refl, sym, ◌∙◌, ap, arith}
use Rattle.std.proofs.lemmas.Result.{err_from_is_err_and}
use Rattle.dm_proc.specs.Request.{passed}
use Rattle.dm_proc.specs.Processes.{return_registers}
use Rattle.dm_proc.proofs.Placing.{planned_on, starts, started_at, refused_at, planned_at, begun, asks, bytes, whole, plan_refused}
use Rattle.dm_proc.proofs.procs.Procs.exec.Goals as goal

pub returns-in_err-pair : goal.returns-in_err-pair
returns-in_err-pair c =
    let p = err_from_is_err_and c.from_residual-in_err-pair.result c.from_residual-in_err-pair.ensures.1 in
    let made = c.in-Some.ensures.made in
    let does : c.args.cpu.now.ax % 256 ≡ 0 = omega arith in
    rw (p.1, p.2) (
      refl,
      refl,
      c.make_environment.ensures.memory,
      plan_refused _ _ _ _ _ _ (asks c.args.self.now c.args.cpu.now _ _ _ _ _ _ _ _ _ does c.in_ok-program.ensures
          c.environment_segment-segment.ensures c.psp.ensures c.as_slice.ensures.value made) _
          (refused_at _ _ _ _ _ _ _ _ c.make_environment.ensures.memory (whole c.args.self.now c.args.cpu.now _ _ _ _ _
          _ _ _ _ does c.in_ok-program.ensures c.environment_segment-segment.ensures c.psp.ensures
          c.as_slice.ensures.value made) c.in_err-pair.ensures),
    )

pub returns-then-is_full : goal.returns-then-is_full
returns-then-is_full c =
    let made = c.in-Some.ensures.made in
    let does : c.args.cpu.now.ax % 256 ≡ 0 = omega arith in (
      refl,
      refl,
      c.make_environment.ensures.memory,
      (
        asks _ _ _ _ _ _ _ _ _ _ _ does c.in_ok-program.ensures c.environment_segment-segment.ensures c.psp.ensures
            c.as_slice.ensures.value made,
        inr (
          planned_at _ _ _ _ _ _ _ _ c.make_environment.ensures.memory (whole c.args.self.now c.args.cpu.now _ _ _ _
              _ _ _ _ _ does c.in_ok-program.ensures c.environment_segment-segment.ensures c.psp.ensures
              c.as_slice.ensures.value made) c.in_ok-pair.ensures,
          c.if-is_full.ensures,
        ),
      ),
    )

pub returns : goal.returns
returns c =
    let made = c.in-Some.ensures.made in
    let same = c.make_environment.ensures.memory in
    let does : c.args.cpu.now.ax % 256 ≡ 0 = omega arith in
    record {
      asks = asks _ _ _ _ _ _ _ _ _ _ _ does c.in_ok-program.ensures c.environment_segment-segment.ensures c.psp.ensures
          c.as_slice.ensures.value made;
      few = c.if-is_full.ensures;
      placed = _;
      starts = started_at _ _ _ _ _ _ _ _ _ _ _ _ _ same
          (bytes c.args.self.now c.args.cpu.now _ _ _ _ _ _ _ _ _ does c.in_ok-program.ensures
          c.environment_segment-segment.ensures c.psp.ensures c.as_slice.ensures.value made)
          c.psp-parent.ensures (c.arguments_at-arguments.ensures ∙ ap (passed c.args.cpu.now) same)
          (starts _ _ c.args.strategy _ _ _ _ c.in_ok-pair.pair _ c.in-Some.environment_bytes (ap length made.bytes
          ∙ sym made.whole) c.in_ok-pair.ensures
          (c.start-started.ensures.written (planned_on _ _ c.args.strategy c.in-Some.environment_bytes _ _
          c.in_ok-pair.ensures)));
      registers = c.start-started.ensures.registers;
      processes = begun _ _ _ _ _ _ c.start-started.ensures.segment (c.return_registers-after.ensures
          ∙ ap (return_registers c.args.cpu.now) same) c.begin.ensures;
    }
