use Rattle.std.proofs.Common.{arith, inr, sym, subst, ◌≡◌, ◌+◌, ℕ, length}
use Rattle.dm_lines.specs.Statements.{seen_item}
use Rattle.dm_asm.specs.inner.Kept.{IsProblem}
use Rattle.dm_asm.specs.Codes.{Codes}
use Rattle.dm_asm.specs.Programs.{labels_of}
use Rattle.dm_asm.proofs.Passes.{emitting_none, emitting_more, known_next, none_kept, open_behind, near, next_fits, is_unknown, is_range}
use Rattle.dm_asm.proofs.assembly.emit.Goals as goal

pub loop-line-init : goal.loop-line-init
loop-line-init c = record {
  few = omega arith;
  emitting = emitting_none c.args.text.now c.args.labels.now c.args.known.now c.as_slice-lines.result.now
      c.as_slice-codes.result.now c.new-bytes.result.items c.requires c.as_slice-lines.ensures.value
      c.as_slice-codes.ensures.value c.new-bytes.ensures.items;
}

pub overflow_cast-at : goal.overflow_cast-at
overflow_cast-at c = omega (
  arith,
  c.len-at.ensures,
  next_fits c.words_are_one_instruction.ensures c.args.text.now c.loop-line.rest.now c.in-Some.behind.now
      c.in-Some.line.now c.loop-line.number c.args.labels.now c.args.known.now c.loop-line.lines.now
      c.loop-line.codes.now
      c.loop-line.bytes.items _ c.loop-line.invariant.emitting c.in-Some.ensures.line c.in-Some-read.ensures.found,
)

pub code_of-requires-clause-near : goal.code_of-requires-clause-near
code_of-requires-clause-near c = near c.args.text.now c.args.labels.now c.args.known.now c.requires

pub code_of-requires-clause-fits : goal.code_of-requires-clause-fits
code_of-requires-clause-fits c = omega (
  arith,
  c.len-at.ensures,
  next_fits c.words_are_one_instruction.ensures c.args.text.now c.loop-line.rest.now c.in-Some.behind.now
      c.in-Some.line.now c.loop-line.number c.args.labels.now c.args.known.now c.loop-line.lines.now
      c.loop-line.codes.now
      c.loop-line.bytes.items _ c.loop-line.invariant.emitting c.in-Some.ensures.line c.in-Some-read.ensures.found,
)

pub returns-in-Err-Unknown-clause-refused : goal.returns-in-Err-Unknown-clause-refused
returns-in-Err-Unknown-clause-refused c =
    let ls = labels_of c.loop-line.invariant.emitting.are.statements in
    let p = subst (IsProblem ls _ (seen_item c.read.new.items c.in-Some-read.statement.item))
    c.in-Err-Unknown.field-0-is (c.in-Err-Unknown.ensures.problem ls c.loop-line.invariant.emitting.are.keeps) in
    inr (is_unknown c.words_are_one_instruction.ensures c.args.text.now c.loop-line.rest.now c.in-Some.behind.now
    c.in-Some.line.now c.loop-line.number c.args.labels.now c.args.known.now c.loop-line.lines.now
    c.loop-line.codes.now c.loop-line.bytes.items _ c.loop-line.invariant.emitting c.in-Some.ensures.line
    c.in-Some-read.ensures.found p)

pub returns-in-Err-Range-clause-refused : goal.returns-in-Err-Range-clause-refused
returns-in-Err-Range-clause-refused c =
    let ls = labels_of c.loop-line.invariant.emitting.are.statements in
    let e : 256 + c.len-at.result ≡ 256 + length c.loop-line.bytes.items = omega (arith, c.len-at.ensures) in
    let p = subst (IsProblem ls _ (seen_item c.read.new.items c.in-Some-read.statement.item)) c.in-Err-Range.field-0-is
    (c.in-Err-Range.ensures.problem ls c.loop-line.invariant.emitting.are.keeps) in
    inr (is_range c.words_are_one_instruction.ensures c.args.text.now c.loop-line.rest.now c.in-Some.behind.now
    c.in-Some.line.now c.loop-line.number c.args.labels.now c.args.known.now c.loop-line.lines.now
    c.loop-line.codes.now c.loop-line.bytes.items _ c.loop-line.invariant.emitting c.in-Some.ensures.line
    c.in-Some-read.ensures.found p.0
    (λ code k. p.1 code (subst (λ (a : ℕ). Codes ls a (seen_item c.read.new.items c.in-Some-read.statement.item) code)
    (sym e) k)))

pub loop-line-preserved : goal.loop-line-preserved
loop-line-preserved c =
    let ls = labels_of c.loop-line.invariant.emitting.are.statements in
    let e : 256 + c.len-at.result ≡ 256 + length c.loop-line.bytes.items = omega (arith, c.len-at.ensures) in
    let k = subst (λ (a : ℕ). Codes ls a (seen_item c.read.new.items c.in-Some-read.statement.item) c.in-Ok.code.items)
    e (c.in-Ok.ensures.code ls c.loop-line.invariant.emitting.are.keeps) in
    record {
      few = omega (arith, c.loop-line.invariant.few, c.in-Some.ensures.shorter);
      emitting = emitting_more c.words_are_one_instruction.ensures c.args.text.now c.loop-line.rest.now
          c.in-Some.behind.now c.in-Some.line.now c.loop-line.number c.args.labels.now c.args.known.now
          c.loop-line.lines.now c.loop-line.codes.now c.loop-line.bytes.items c.in-Ok.code.items
          c.append-in-Ok.new.bytes.items _ c.loop-line.invariant.emitting c.in-Some.ensures.line
          c.in-Some-read.ensures.found k (grind (
            arith,
            c.in_ok-append-in-Ok.ensures.added,
            c.as_slice.ensures.value,
          )) c.in-Some-first_line.others.now c.loop-line.codes.now
          (λ xs f. open_behind c.loop-line.invariant.emitting.left c.loop-line.lines.now c.in-Some-first_line.others.now
          c.loop-line.codes.now c.loop-line.invariant.emitting.knows c.in-Some-first_line.kept
          c.in-Some-first_line.ensures c.in-Open.is _ xs f);
    }

pub loop-line-preserved-in-Known : goal.loop-line-preserved-in-Known
loop-line-preserved-in-Known c =
    let n = known_next c.words_are_one_instruction.ensures c.args.text.now c.loop-line.rest.now c.in-Some.behind.now
    c.in-Some.line.now c.loop-line.number c.args.labels.now c.args.known.now c.loop-line.lines.now
    c.in-Some-first_line.others.now c.loop-line.codes.now c.loop-line.bytes.items c.in-Known.length
    c.loop-line.invariant.emitting c.in-Some.ensures.line c.in-Some-first_line.kept c.in-Some-first_line.ensures
    c.in-Known.is in
    record {
      few = omega (arith, c.loop-line.invariant.few, c.in-Some.ensures.shorter);
      emitting = n.more c.split_at.result.0.now c.split_at.result.1.now c.append.new.bytes.items
          c.split_at.ensures.front c.split_at.ensures.back c.in_ok-append-in-Known.ensures.added;
    }

pub split_at-requires : goal.split_at-requires
split_at-requires c =
    let n = known_next c.words_are_one_instruction.ensures c.args.text.now c.loop-line.rest.now c.in-Some.behind.now
    c.in-Some.line.now c.loop-line.number c.args.labels.now c.args.known.now c.loop-line.lines.now
    c.in-Some-first_line.others.now c.loop-line.codes.now c.loop-line.bytes.items c.in-Known.length
    c.loop-line.invariant.emitting c.in-Some.ensures.line c.in-Some-first_line.kept c.in-Some-first_line.ensures
    c.in-Known.is in
    n.fits

pub returns-in_default-first_line-clause-refused : goal.returns-in_default-first_line-clause-refused
returns-in_default-first_line-clause-refused c =
    absurd (none_kept c.args.text.now c.loop-line.rest.now c.in-Some.behind.now c.in-Some.line.now c.loop-line.number
    c.args.labels.now c.args.known.now c.loop-line.lines.now c.loop-line.codes.now c.loop-line.bytes.items
    c.loop-line.invariant.emitting c.in-Some.ensures.line c.in_default-first_line.ensures)
