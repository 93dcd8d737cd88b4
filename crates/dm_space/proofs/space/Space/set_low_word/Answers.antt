use Rattle.std.proofs.Common.{◌/◌, ◌%◌, List, ℕ, ◌∙◌, ap, sym}
use Rattle.dm_pool.specs.Stored.{refit}
use Rattle.dm_space.specs.Memory.{Memory, Held, poke16}
use Rattle.dm_space.specs.inner.Memory.{held}
use Rattle.dm_space.proofs.Keeping.{word_lent}
use Rattle.dm_space.proofs.Reading.{word_poked}
use Rattle.dm_space.proofs.space.Space.set_low_word.Goals as goal

pub returns : goal.returns
returns c =
    let s = c.self.inside in let at = c.args.at in
    ap (λ (xs : List ℕ). held (record s.store { low = refit s.store.low xs }) s.windows s.a20) c.put_word.ensures
    ∙ ap (λ (xs : List ℕ). held (record s.store { low = xs }) s.windows s.a20)
    (word_lent s.store.low c.low_mut.result.now at (c.args.value % 256) (c.args.value / 256)
    c.low_mut.ensures.value)
    ∙ ap (λ (m : Memory). record { memory = m; scratch = s.store.scratch })
    (word_poked (held s.store s.windows s.a20).memory _ _ _ _ c.requires.together (sym c.requires.at) c.requires.low
    c.requires.high)
    ∙ ap (λ (h : Held). record h { memory = poke16 h.memory c.args.segment c.args.offset c.args.value }) c.self.view_is
