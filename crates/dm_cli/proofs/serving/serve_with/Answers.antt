use Rattle.std.proofs.Common.{refl}
use Rattle.std.proofs.KnownBytes.{Keeps-refl}
use Rattle.dm_cli.specs.inner.Serving.{with_buffer, no_buffer_for}
use Rattle.dm_cli.proofs.Ends.{known_of_plain_reader}
use Rattle.dm_cli.proofs.serving.serve_with.Goals as goal

pub returns-in_default : goal.returns-in_default
returns-in_default g c = no_buffer_for (Keeps-refl _) refl

pub returns : goal.returns
returns g c =
    let known = known_of_plain_reader g.I.Read.remaining c.in-Ok.requests c.args.requests c.in-Ok.ensures.capacity
    c.in-Ok.ensures.empty c.in-Ok.ensures.inner in
    with_buffer _ (rw known at c.serve.ensures)
