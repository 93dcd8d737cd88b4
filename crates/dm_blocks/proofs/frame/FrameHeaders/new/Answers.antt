use Rattle.std.proofs.Common.{refl}
use Rattle.dm_blocks.proofs.Occupying.{none-occupied}
use Rattle.dm_blocks.proofs.frame.FrameHeaders.new.Goals as goal

pub returns : goal.returns
returns c = λ S. none-occupied S _ 0x1000 refl refl
