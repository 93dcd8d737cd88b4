use Rattle.dm_asm.proofs.Listed.{Laws, listings_assemble}
use Rattle.dm_asm.proofs.OneAnswer.{one_answer}
use Rattle.std.proofs.Common.{Ok}
use Rattle.dm_asm.proofs.laws.listings_assemble.Goals as goal

laws : (c : goal.After-data_is_read) → Laws
laws c = record {
  own_words = c.own_words_are_read.ensures.own;
  stand_ins = c.stand_ins_have_the_length.ensures.read;
  lengths = c.stand_ins_have_the_length.ensures.lengths;
  own_terms = c.own_terms_are_written.ensures;
  outlines = c.outlines_stand.ensures;
  read = c.texts_are_read.ensures;
  plain = c.texts_are_plain.ensures;
  bytes = c.data_is_read.ensures;
}

pub returns-clause-bytes : goal.returns-clause-bytes
returns-clause-bytes c = listings_assemble (laws c)

pub returns-clause-answer : goal.returns-clause-answer
returns-clause-answer c = λ bytes text answer fit few l a. one_answer c.words_are_one_instruction.ensures text answer
    (Ok bytes) a (listings_assemble (laws c) bytes text fit few l)
