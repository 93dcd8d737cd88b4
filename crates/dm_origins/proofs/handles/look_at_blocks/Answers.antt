use Rattle.std.specs.Prelude.{is_some}
use Rattle.std.proofs.Common.{◌≡◌, ◌<◌, ℕ, Bool, length, get_or, ◌∙◌, ap, arith}
use Rattle.std.proofs.lemmas.List.{length-set}
use Rattle.dm_origins.specs.declared.handles.Since.{Since}
use Rattle.dm_origins.specs.declared.handles.Since.TheVariants.{Unused}
use Rattle.dm_origins.specs.Origins.{seen_handle, has_block}
use Rattle.dm_origins.proofs.Each.{is_each, done_next, left_next}
use Rattle.dm_origins.proofs.handles.look_at_blocks.Goals as goal

pub loop-before-preserved : goal.loop-before-preserved
loop-before-preserved c =
    let i = c.loop-before.before in
    let ys = c.loop-before.known in
    let fits : i < length ys = omega arith in
    let is : c.seen.result ≡ seen_handle (has_block c.args.xms.now i) c.args.origin (get_or ys i Unused)
    = c.seen.ensures ∙ ap (λ (b : Bool). seen_handle b c.args.origin (get_or ys i Unused)) (c.is_some.ensures
    ∙ ap is_some c.handle.ensures.slot) in
    record {
      count = length-set ys i c.seen.result ∙ c.loop-before.invariant.count;
      done = done_next (λ (h : ℕ) (x : Since). seen_handle (has_block c.args.xms.now h) c.args.origin x)
          c.args.known.now ys i c.seen.result Unused fits is c.loop-before.invariant.done c.loop-before.invariant.left;
      left = left_next c.args.known.now ys i c.seen.result Unused c.loop-before.invariant.left;
    }

pub returns : goal.returns
returns c = is_each _ c.args.known.now c.loop-before.known Unused c.loop-before.invariant.count
    (λ k less. c.loop-before.invariant.done k (omega arith))
