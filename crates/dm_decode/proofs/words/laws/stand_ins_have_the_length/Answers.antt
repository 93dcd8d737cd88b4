use Rattle.dm_decode.proofs.words.StandIns.{stand_ins_are_read, lengths_are_known}
use Rattle.dm_decode.proofs.words.laws.stand_ins_have_the_length.Goals as goal

pub returns : goal.returns
returns c = record { read = stand_ins_are_read; lengths = lengths_are_known }
