use Rattle.std.proofs.Common.{List, ℕ, ◌+◌, ◌∙◌, ap, sym}
use Rattle.dm_pool.specs.Stored.{refit}
use Rattle.dm_space.specs.Memory.{Memory, Held, poke16}
use Rattle.dm_space.specs.inner.Memory.{held}
use Rattle.dm_space.proofs.Words.{words_lent, words_poked}
use Rattle.dm_space.proofs.space.Space.set_low_words.Goals as goal

pub returns : goal.returns
returns c =
    let s = c.self.inside in let at = c.args.at in let words = c.args.words in
    ap (λ (xs : List ℕ). held (record s.store { low = refit s.store.low xs }) s.windows s.a20) c.put_words.ensures
    ∙ ap (λ (xs : List ℕ). held (record s.store { low = xs }) s.windows s.a20)
    (words_lent s.store.low c.low_mut.result.now at words.0 words.1 words.2 c.low_mut.ensures.value)
    ∙ ap (λ (m : Memory). record { memory = m; scratch = s.store.scratch })
    (words_poked (held s.store s.windows s.a20).memory _ _ _ _ _ _ c.requires.together (sym c.requires.at)
    c.requires.first c.requires.second c.requires.third)
    ∙ ap (λ (h : Held). record h {
      memory = poke16 (poke16 (poke16 h.memory c.args.segment (c.args.offset + 4) words.2) c.args.segment
          (c.args.offset + 2) words.1) c.args.segment c.args.offset words.0;
    }) c.self.view_is
