use Rattle.std.proofs.Common.{refl, sym, ◌∙◌, inl, inr}
use Rattle.dm_host.specs.declared.refusal.Refusal.TheVariants.{Memory}
use Rattle.dm_c.specs.calls.Events.{done, refused}
use Rattle.dm_c.proofs.calls.machines.run_to.Goals as goal

pub returns-in_default : goal.returns-in_default
returns-in_default c = refused Memory (sym c.are_known.ensures ∙ c.if-not-are_known.false) refl
    (inr refl) refl refl refl

pub returns-in-Ok-run_to : goal.returns-in-Ok-run_to
returns-in-Ok-run_to c =
    done c.in-Ok-run_to.ending (sym c.are_known.ensures ∙ c.if-not-are_known.false) refl (rw (
      c.as_slice.ensures.value,
      c.in-Ok.ensures,
    ) at c.in-Ok-run_to.ensures.ok) c.ended_of.ensures
    c.place_in.ensures

pub returns : goal.returns
returns c = refused c.in-Err.refusal (sym c.are_known.ensures ∙ c.if-not-are_known.false) c.status_of.ensures
    (inl c.in-Err.ensures.err) c.in-Err.ensures.kept refl refl
