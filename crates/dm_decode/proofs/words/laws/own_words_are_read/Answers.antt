use Rattle.dm_decode.proofs.words.Own.{own_words_are_read}
use Rattle.dm_decode.proofs.words.Sizes.{sizes_are_shown}
use Rattle.dm_decode.proofs.words.laws.own_words_are_read.Goals as goal

pub returns : goal.returns
returns c = record { own = own_words_are_read; sizes = sizes_are_shown }
