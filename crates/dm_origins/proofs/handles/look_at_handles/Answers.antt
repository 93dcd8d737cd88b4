use Rattle.std.specs.Prelude.{is_some}
use Rattle.std.proofs.Common.{◌≡◌, ◌<◌, ℕ, Bool, length, get_or, ◌∙◌, ap, arith}
use Rattle.std.proofs.lemmas.List.{length-set}
use Rattle.dm_origins.specs.declared.handles.Since.{Since}
use Rattle.dm_origins.specs.declared.handles.Since.TheVariants.{Unused}
use Rattle.dm_origins.specs.Origins.{seen_handle, has_handle}
use Rattle.dm_origins.proofs.Each.{is_each, done_next, left_next}
use Rattle.dm_origins.proofs.handles.look_at_handles.Goals as goal

pub loop-handle-preserved : goal.loop-handle-preserved
loop-handle-preserved c =
    let i = c.loop-handle.handle in
    let ys = c.loop-handle.known in
    let fits : i < length ys = omega arith in
    let is : c.seen.result ≡ seen_handle (has_handle c.args.ems.now i) c.args.origin (get_or ys i Unused)
    = c.seen.ensures ∙ ap (λ (b : Bool). seen_handle b c.args.origin (get_or ys i Unused)) (c.is_some.ensures
    ∙ ap is_some c.slot.ensures.slot) in
    record {
      count = length-set ys i c.seen.result ∙ c.loop-handle.invariant.count;
      done = done_next (λ (h : ℕ) (x : Since). seen_handle (has_handle c.args.ems.now h) c.args.origin x)
          c.args.known.now ys i c.seen.result Unused fits is c.loop-handle.invariant.done c.loop-handle.invariant.left;
      left = left_next c.args.known.now ys i c.seen.result Unused c.loop-handle.invariant.left;
    }

pub returns : goal.returns
returns c = is_each _ c.args.known.now c.loop-handle.known Unused c.loop-handle.invariant.count
    (λ k less. c.loop-handle.invariant.done k (omega arith))
