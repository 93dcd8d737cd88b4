use Rattle.std.proofs.Common.{sym}
use Rattle.dm_asm.proofs.Placed.{coded, not_placed, not_read, if_none}
use Rattle.dm_asm.proofs.codes.instruction_code.Goals as goal

pub returns-in_err-words-clause-none : goal.returns-in_err-words-clause-none
returns-in_err-words-clause-none c = if_none c.from_residual.result _
    (λ list code kept k. not_placed c.words_are_one_instruction.ensures list c.args.at c.args.length
    c.args.instruction.now code c.requires.shape (sym (c.in_err-words.ensures list kept)) k)

pub returns-in_err-encoded-clause-none : goal.returns-in_err-encoded-clause-none
returns-in_err-encoded-clause-none c = if_none c.from_residual-in_err-encoded.result _
    (λ list code kept k. not_read c.words_are_one_instruction.ensures list c.args.at c.args.length
    c.args.instruction.now c.in_ok-words.words code c.requires.shape (sym (c.in_ok-words.ensures list kept))
    c.in_err-encoded.ensures.none k)

pub returns-clause-found : goal.returns-clause-found
returns-clause-found c = λ list kept.
    coded c.outlines_stand.ensures c.stand_ins_have_the_length.ensures.lengths list c.args.at c.args.length
    c.args.instruction.now c.in_ok-words.words c.in_ok-encoded.encoded.0 c.in_ok-encoded.encoded.1.items
    c.requires.shape c.term_fits.ensures c.term_fits-2.ensures (sym (c.in_ok-words.ensures list kept))
    c.in_ok-encoded.ensures.found.0 c.in_ok-encoded.ensures.found.1 c.in_ok-encoded.ensures.bytes
