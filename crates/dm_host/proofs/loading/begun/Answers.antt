use Rattle.std.proofs.Common.{ap, ◌∙◌, Err, refl}
use Rattle.dm_host.proofs.Loads.{short_alone}
use Rattle.dm_host.specs.inner.Loading.{no_room}
use Rattle.dm_host.proofs.loading.begun.Goals as goal

pub returns-in-Err-clause-err : goal.returns-in-Err-clause-err
returns-in-Err-clause-err c =
    let new = rw c.in-Ok.ensures.items at c.in-Ok-new.ensures.ok in
    let listed = ap (λ s. s.programs) new.others ∙ ap (λ s. s.programs) c.setup.view_is in
    rw (← c.setup.view_is) (no_room c.in-Ok-new.machine new
    (short_alone c.in-Ok-new.machine c.args.name.now c.requires.program.file c.in-Err.field-0
    (rw listed c.requires.program.found) c.requires.program.good
    (λ e. c.in-Err.ensures.not_found.0 (ap Err e)) (λ e. c.in-Err.ensures.bad_format.0 (ap Err e))
    (λ e. c.in-Err.ensures.short.0 (ap Err e))) refl)

pub returns-clause-ok : goal.returns-clause-ok
returns-clause-ok c = rw (← c.setup.view_is) record {
  start = c.in-Ok-new.machine;
  machine = c.load.new.self;
  new = rw c.in-Ok.ensures.items at c.in-Ok-new.ensures.ok;
  loaded = c.in_default-load.ensures.ok;
  is = c.new-2.ensures;
}
