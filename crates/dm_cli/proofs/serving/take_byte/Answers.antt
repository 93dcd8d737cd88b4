use Rattle.std.proofs.Common.{◌∙◌, refl}
use Rattle.std.proofs.KnownBytes.{Keeps-refl}
use Rattle.dm_cli.specs.inner.Serving.{lacking}
use Rattle.dm_cli.proofs.Served.{not_written}
use Rattle.dm_cli.proofs.serving.take_byte.Goals as goal

pub returns-in_default-clause-err : goal.returns-in_default-clause-err
returns-in_default-clause-err g c = lacking (Keeps-refl _) refl

pub returns-clause-err : goal.returns-clause-err
returns-clause-err g c =
    let h = c.in-Ok.ensures in
    not_written c.write_at_once.result _ _ _ _ _ _ _ _ _ _ _ h.2 c.new-sent.ensures.items (c.as_slice.ensures.value
    ∙ h.1) c.write_at_once.ensures.err c.write_at_once.ensures.part
    c.write_at_once.ensures.failed c.write_at_once.ensures.some
