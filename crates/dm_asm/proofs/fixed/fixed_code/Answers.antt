use Rattle.std.proofs.Common.{sym, ◌∙◌}
use Rattle.dm_asm.proofs.Anywhere.{coded_anywhere}
use Rattle.dm_asm.proofs.fixed.fixed_code.Goals as goal

pub returns : goal.returns
returns c =
    coded_anywhere c.outlines_stand.ensures c.stand_ins_have_the_length.ensures.read
    c.stand_ins_have_the_length.ensures.lengths c.args.instruction.now c.in_ok-words.words c.in_ok-ins.ins
    c.in_ok-ins.code.items
    c.term_fits.ensures c.term_fits-2.ensures c.in_ok-words.ensures c.in_ok-ins.ensures.found.0
    c.in_ok-ins.ensures.found.1
    (sym c.is_target.ensures ∙ c.if-is_target.false) (sym c.is_target-else-is_target.ensures
    ∙ c.if-is_target-2.false) c.in_ok-ins.ensures.bytes
