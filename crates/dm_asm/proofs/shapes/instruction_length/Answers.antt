use Rattle.std.proofs.Common.{ap, sym, subst}
use Rattle.dm_decode.specs.declared.words.written.Words.{Words}
use Rattle.dm_decode.specs.words.Words.{AreWords}
use Rattle.std.specs.Prelude.{Some}
use Rattle.dm_asm.specs.Codes.{HasShape}
use Rattle.dm_asm.proofs.Chosen.{shape_once}
use Rattle.dm_asm.proofs.shapes.instruction_length.Goals as goal

pub returns-in_err-encoded-clause-only : goal.returns-in_err-encoded-clause-only
returns-in_err-encoded-clause-only c = λ n s. absurd (c.in_err-encoded.ensures.none s.ins.action s.preferred.spells.rest
    (subst (λ (w : Words). AreWords w s.ins.action) (sym c.outlines-words.ensures) s.words) s.preferred.spells.action)

shape : (c : goal.After-len) → HasShape c.args.instruction.now c.len.result
shape c = record {
  ins = c.in_ok-encoded.encoded.0;
  prefixes = c.in_ok-encoded.ensures.found.0;
  words = subst (λ (w : Words). AreWords w c.in_ok-encoded.encoded.0.action) c.outlines-words.ensures
      c.in_ok-encoded.ensures.found.1;
  code = c.in_ok-encoded.encoded.1.items;
  preferred = c.in_ok-encoded.ensures.bytes;
  long = c.len.ensures.value;
}

pub returns-clause-found : goal.returns-clause-found
returns-clause-found c = shape c

pub returns-clause-only : goal.returns-clause-only
returns-clause-only c = λ n s. ap Some (shape_once c.words_are_one_instruction.ensures c.args.instruction.now
    c.len.result n (shape c) s)
