use Rattle.std.proofs.Common.{◌+◌, ◌≤◌, ◌⊎◌, ℕ, List, inl, inr, ap, ◌∙◌, arith}
use Rattle.dm_region.specs.Holes.{Holed}
use Rattle.dm_region.specs.Parts.{part, with_part}
use Rattle.dm_region.proofs.Written.{copied_more}
use Rattle.dm_region.proofs.region.Region.copy_apart.Goals as goal

pub overflow_add-from : goal.overflow_add-from
overflow_add-from c = record { fits = omega (arith, c.requires.small.0, c.loop-done.invariant.within) }

pub overflow_add-to : goal.overflow_add-to
overflow_add-to c = record { fits = omega (arith, c.requires.small.1, c.loop-done.invariant.within) }

pub loop-done-preserved : goal.loop-done-preserved
loop-done-preserved c =
    let s = c.args.self.now in let n = c.loop-done.done in let k = c.min-count.result in
    let more : n + k ≤ c.args.len = omega arith in
    let apart : (c.args.from + n + k ≤ c.args.to) ⊎ (c.args.to + n + k ≤ c.args.from) =
    elim c.requires.apart [ inl h ↦ inl (omega (arith, h, more)) | inr h ↦ inr (omega (arith, h, more)) ] in
    record {
      within = more;
      copied = c.hop.ensures
          ∙ ap (λ (h : Holed). record h {
            bytes = with_part h.bytes (c.args.to + n) k (part h.bytes
                (c.args.from + n) k);
          }) c.loop-done.invariant.copied
          ∙ ap (λ (l : List ℕ). record s { bytes = l }) (copied_more s.bytes c.args.from c.args.to n k (omega (
            arith,
            more,
            c.requires.source.0,
          )) (omega (arith, more, c.requires.destination.0)) apart);
    }
