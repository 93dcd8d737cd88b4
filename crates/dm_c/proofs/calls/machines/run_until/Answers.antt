use Rattle.std.proofs.Common.{refl, inl, inr}
use Rattle.dm_host.specs.declared.refusal.Refusal.TheVariants.{Memory}
use Rattle.dm_c.specs.calls.Calls.{done, refused}
use Rattle.dm_c.proofs.calls.machines.run_until.Goals as goal

pub returns-in_default : goal.returns-in_default
returns-in_default c = refused Memory refl (inr refl, refl, refl)

pub returns-in-Ok-run_until : goal.returns-in-Ok-run_until
returns-in-Ok-run_until c = done refl (
  c.in-Ok-run_until.stop,
  rw (
    c.as_slice.ensures.value,
    c.in-Ok.ensures,
  ) at c.in-Ok-run_until.ensures.ok,
  c.stopped_of.ensures,
)

pub returns : goal.returns
returns c = refused c.in-Err.refusal c.status_of.ensures (inl c.in-Err.ensures.err.0, c.in-Err.ensures.err.1, refl)
