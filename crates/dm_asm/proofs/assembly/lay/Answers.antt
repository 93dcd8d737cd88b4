use Rattle.std.proofs.Common.{arith, inl, inr, sym, subst}
use Rattle.dm_lines.specs.Statements.{seen_statement}
use Rattle.dm_asm.specs.Programs.{Reads, Sized, labels_of, Refuses}
use Rattle.dm_asm.proofs.Passes.{laying_none, laying_more, is_syntax, is_twice, is_laid, is_long, no_statement, no_length}
use Rattle.dm_asm.proofs.assembly.lay.Goals as goal

pub loop-line-init : goal.loop-line-init
loop-line-init c = record {
  few = omega arith;
  small = omega arith;
  laying = laying_none c.args.text.now c.new-labels.result c.new-known.result c.new-labels.ensures
      c.new-known.ensures;
}

pub returns-in_default-line_statement-clause-refused : goal.returns-in_default-line_statement-clause-refused
returns-in_default-line_statement-clause-refused c =
    inr (is_syntax c.args.text.now c.loop-line.rest.now c.in-Some.behind.now c.in-Some.line.now c.loop-line.number
    c.loop-line.at c.loop-line.labels c.loop-line.known c.loop-line.invariant.laying c.in-Some.ensures.line
    (no_statement c.in-Some.line.now (sym c.in_default-line_statement.ensures)))

pub returns-in-Ok-None-clause-refused : goal.returns-in-Ok-None-clause-refused
returns-in-Ok-None-clause-refused c = inr (is_syntax c.args.text.now c.loop-line.rest.now c.in-Some.behind.now
    c.in-Some.line.now c.loop-line.number c.loop-line.at c.loop-line.labels c.loop-line.known
    c.loop-line.invariant.laying c.in-Some.ensures.line (no_length c.in-Some.line.now
    (seen_statement c.line_statement.new.items c.in-Some-line_statement.statement)
    (sym c.in-Some-line_statement.ensures) (rw c.in-Ok-None.field-0-is at c.in-Ok-None.ensures)))

pub returns-in-Err-add_label-clause-refused : goal.returns-in-Err-add_label-clause-refused
returns-in-Err-add_label-clause-refused c =
    let h = rw c.in-Ok-Some.field-0-is at c.in-Ok-Some.ensures in
    let x : Sized = record {
      statement = seen_statement c.line_statement.new.items c.in-Some-line_statement.statement;
      long = c.in-Ok-Some.length;
    } in
    let r : Reads c.in-Some.line.now x = record { is = sym c.in-Some-line_statement.ensures; long = h.0 } in
    elim c.in-Err-add_label.ensures.refused [
      | inl e ↦ inl e
      | inr t ↦ inr (subst (Refuses c.args.text.now) (sym t.0)
          (is_twice c.args.text.now c.loop-line.rest.now c.in-Some.behind.now c.in-Some.line.now c.loop-line.number
          c.loop-line.at c.loop-line.labels c.loop-line.known x c.loop-line.invariant.laying c.in-Some.ensures.line
          r
          (t.1 (labels_of c.loop-line.invariant.laying.statements) c.loop-line.invariant.laying.keeps)))
    ]

pub loop-line-preserved : goal.loop-line-preserved
loop-line-preserved c =
    let h = rw c.in-Ok-Some.field-0-is at c.in-Ok-Some.ensures in
    let x : Sized = record {
      statement = seen_statement c.line_statement.new.items c.in-Some-line_statement.statement;
      long = c.in-Ok-Some.length;
    } in
    let r : Reads c.in-Some.line.now x = record { is = sym c.in-Some-line_statement.ensures; long = h.0 } in
    let a = c.in-Ok.ensures.added (labels_of c.loop-line.invariant.laying.statements)
    c.loop-line.invariant.laying.keeps in
    record {
      few = omega (arith, c.loop-line.invariant.few, c.in-Some.ensures.shorter);
      small = omega (arith, c.loop-line.invariant.small, c.in-Some.ensures.shorter, h.1);
      laying = laying_more c.args.text.now c.loop-line.rest.now c.in-Some.behind.now c.in-Some.line.now
          c.loop-line.number c.loop-line.at c.loop-line.labels c.add_label.new.labels c.loop-line.known c.put.new.self x
          c.loop-line.invariant.laying c.in-Some.ensures.line r a.0 a.1 h.2;
    }

pub returns-then-at-clause-refused : goal.returns-then-at-clause-refused
returns-then-at-clause-refused c = inr (is_long c.args.text.now c.loop-line.rest.now c.loop-line.number c.loop-line.at
    c.loop-line.labels c.loop-line.known c.loop-line.invariant.laying c.in_default.ensures.line (omega (
      arith,
      c.if-at.true,
    )))

pub returns-clause-laid : goal.returns-clause-laid
returns-clause-laid c = is_laid c.args.text.now c.loop-line.rest.now c.loop-line.number c.loop-line.at
    c.loop-line.labels c.loop-line.known c.loop-line.invariant.laying c.in_default.ensures.line (omega (
      arith,
      c.if-at.false,
    ))
