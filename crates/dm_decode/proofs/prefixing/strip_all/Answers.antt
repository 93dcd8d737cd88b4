use Rattle.dm_decode.proofs.Stripped.{no_more}
use Rattle.dm_decode.proofs.prefixing.strip_all.Goals as goal

pub returns-then-rest-bytes : goal.returns-then-rest-bytes
returns-then-rest-bytes c = no_more 4 _ _ _ _ c.strip.ensures c.if-rest-bytes.true
