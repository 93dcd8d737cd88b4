use Rattle.std.proofs.Common.{refl}
use Rattle.std.proofs.KnownBytes.{Keeps-refl}
use Rattle.dm_cli.specs.inner.Debugging.{through_buffer, without_buffer}
use Rattle.dm_cli.proofs.Ends.{known_of_reader, session_end, whole_conversation}
use Rattle.dm_cli.proofs.debugging.converse_with.Goals as goal

pub returns-in_default : goal.returns-in_default
returns-in_default g c = without_buffer (Keeps-refl _) refl

pub returns : goal.returns
returns g c =
    let known = known_of_reader g.I.Read.remaining c.in-Ok.commands c.take.result c.args.commands 16777217
    c.in-Ok.ensures.capacity c.in-Ok.ensures.empty c.in-Ok.ensures.inner
    c.take.ensures.limit c.take.ensures.inner in
    let all = session_end c.converse.result _ _ _ _ _ _ _ _ c.converse.ensures.ok c.converse.ensures.err in
    through_buffer _ (whole_conversation 16777216 _ _ _ _ _ _ _ _ (rw known at all))
