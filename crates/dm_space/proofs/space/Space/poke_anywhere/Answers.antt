use Rattle.std.proofs.Common.{◌≡◌, ◌+◌, ◌*◌, ◌%◌, List, [], ℕ, get_or, length, slice_set, refl, ◌∙◌, ap, sym, subst, arith}
use Rattle.std.proofs.lemmas.List.{length-set}
use Rattle.dm_pool.specs.Blocks.{with_content}
use Rattle.dm_pool.specs.Stored.{refit}
use Rattle.dm_pool.proofs.Blocks.{refilled}
use Rattle.dm_space.specs.declared.place.Place.TheVariants.{Page}
use Rattle.dm_space.specs.Memory.{Memory, Held, linear, place, poke}
use Rattle.dm_space.specs.inner.Memory.{held}
use Rattle.dm_space.proofs.Reading.{byte_put}
use Rattle.dm_space.proofs.space.Space.poke_anywhere.Goals as goal

-- the byte written through the loan of a block's bytes
lent : (old now : List ℕ) (at a : ℕ) → now ≡ old → refit old (slice_set now at a) ≡ slice_set old at a
lent old now at a e =
    refilled (length old) old (slice_set now at a) (length-set now at a ∙ ap length e)
    ∙ ap (λ (xs : List ℕ). slice_set xs at a) e

pub returns-in-Some : goal.returns-in-Some
returns-in-Some c =
    let s = c.self.inside in
    let m = (held s.store s.windows s.a20).memory in
    let at = c.args.segment * 16 + c.args.offset in
    let k = at % 16384 in
    let block = c.in-Some.block in
    let old = get_or s.store.blocks.contents block [] in
    let here = subst (λ (h : Held). place h.memory at ≡ Page block (at % 0x4000)) (sym c.self.view_is)
    c.in-Some.ensures.place in
    ap (λ (xs : List ℕ). held (record s.store { blocks = with_content s.store.blocks block xs }) s.windows s.a20)
    (lent old c.bytes_mut-bytes.result.now k c.args.value c.bytes_mut-bytes.ensures.value)
    ∙ ap (λ (n : Memory). record { memory = n; scratch = s.store.scratch })
    (byte_put m c.args.segment c.args.offset at block c.args.value refl (omega (arith, c.if-at-lt983040.true)) here)
    ∙ ap (λ (h : Held). record h {
      memory = poke h.memory (linear h.memory.a20 c.args.segment
          c.args.offset) c.args.value;
    }) c.self.view_is
