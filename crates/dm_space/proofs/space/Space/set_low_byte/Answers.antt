use Rattle.std.proofs.Common.{◌≡◌, List, ℕ, length, slice_set, ◌∙◌, ap, sym}
use Rattle.std.proofs.lemmas.List.{length-set}
use Rattle.dm_pool.specs.Stored.{refit}
use Rattle.dm_pool.proofs.Blocks.{refilled}
use Rattle.dm_space.specs.Memory.{Memory, Held, linear, poke}
use Rattle.dm_space.specs.inner.Memory.{held}
use Rattle.dm_space.proofs.Reading.{byte_poked}
use Rattle.dm_space.proofs.space.Space.set_low_byte.Goals as goal

-- the byte written through the loan of the low bytes
lent : (low now : List ℕ) (at a : ℕ) → now ≡ low → refit low (slice_set now at a) ≡ slice_set low at a
lent low now at a e =
    refilled (length low) low (slice_set now at a) (length-set now at a ∙ ap length e)
    ∙ ap (λ (xs : List ℕ). slice_set xs at a) e

pub returns : goal.returns
returns c =
    let s = c.self.inside in let at = c.args.at in
    ap (λ (xs : List ℕ). held (record s.store { low = xs }) s.windows s.a20)
    (lent s.store.low c.low_mut.result.now at c.args.value c.low_mut.ensures.value)
    ∙ ap (λ (m : Memory). record { memory = m; scratch = s.store.scratch })
    (byte_poked (held s.store s.windows s.a20).memory _ _ _ _ (sym c.requires.at) c.requires.low)
    ∙ ap (λ (h : Held). record h {
      memory = poke h.memory (linear h.memory.a20 c.args.segment
          c.args.offset) c.args.value;
    }) c.self.view_is
