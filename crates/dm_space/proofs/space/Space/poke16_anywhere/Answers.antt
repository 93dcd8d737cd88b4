use Rattle.std.proofs.Common.{◌≡◌, ◌+◌, ◌*◌, ◌/◌, ◌%◌, List, [], ℕ, get_or, refl, ◌∙◌, ap, sym, subst, arith}
use Rattle.std.proofs.lemmas.Bool.Decides.{nat_tests}
use Rattle.dm_pool.specs.Blocks.{with_content}
use Rattle.dm_pool.specs.Stored.{refit}
use Rattle.dm_space.specs.declared.place.Place.TheVariants.{Page}
use Rattle.dm_space.specs.Memory.{Memory, Held, IsPage, place, poke16}
use Rattle.dm_space.specs.inner.Memory.{held}
use Rattle.dm_space.proofs.Keeping.{word_lent}
use Rattle.dm_space.proofs.Places.{page-there}
use Rattle.dm_space.proofs.Reading.{word_put}
use Rattle.dm_space.proofs.space.Space.poke16_anywhere.Goals as goal

pub returns-in-Some : goal.returns-in-Some
returns-in-Some c =
    let s = c.self.inside in
    let m = (held s.store s.windows s.a20).memory in
    let at = c.args.segment * 16 + c.args.offset in
    let k = at % 16384 in
    let block = c.in-Some.block in
    let old = get_or s.store.blocks.contents block [] in
    let here = subst (λ (h : Held). place h.memory at ≡ Page block (at % 0x4000)) (sym c.self.view_is)
    c.in-Some.ensures.place in
    let page = subst (λ (h : Held). IsPage h.memory block) (sym c.self.view_is) c.in-Some.ensures.page in
    ap (λ (xs : List ℕ). held (record s.store { blocks = with_content s.store.blocks block (refit old xs) }) s.windows
    s.a20) c.put_word.ensures
    ∙ ap (λ (xs : List ℕ). held (record s.store { blocks = with_content s.store.blocks block xs }) s.windows s.a20)
    (word_lent old c.bytes_mut.result.now k (c.args.value % 256) (c.args.value / 256) c.bytes_mut.ensures.value)
    ∙ ap (λ (n : Memory). record { memory = n; scratch = s.store.scratch })
    (word_put m c.args.segment c.args.offset at block c.args.value (grind (arith, nat_tests)) refl (omega (
      arith,
      c.if-at-lt917504.false,
    )) (omega (arith, c.if-at-ge983040.false))
    (grind (arith, nat_tests)) here (page-there m.blocks.contents block 0 (omega (arith, page.1))))
    ∙ ap (λ (h : Held). record h { memory = poke16 h.memory c.args.segment c.args.offset c.args.value }) c.self.view_is
