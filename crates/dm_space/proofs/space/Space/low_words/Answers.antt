use Rattle.std.proofs.Common.{◌≡◌, List, ℕ, ◌+◌, ◌*◌, ◌∙◌, ap, sym, arith, slice_index}
use Rattle.dm_space.specs.Memory.{Held}
use Rattle.dm_space.proofs.Reading.{word_is}
use Rattle.dm_space.proofs.space.Space.low_words.Goals as goal

pub returns-clause-first : goal.returns-clause-first
returns-clause-first c =
    let at = c.args.at in
    let low : c.low-bytes.result.now ≡ c.args.self.now.memory.low = c.low-bytes.ensures.value
    ∙ ap (λ (h : Held). h.memory.low) c.self.view_is in
    word_is _ _ _ _ _ (omega arith) (sym c.requires.at) c.requires.first.0 c.requires.first.1
    (c.word_at.ensures ∙ ap (λ (xs : List ℕ). slice_index xs at + 256 * slice_index xs (at + 1)) low)

pub returns-clause-second : goal.returns-clause-second
returns-clause-second c =
    let at = c.args.at + 2 in
    let low : c.low-bytes.result.now ≡ c.args.self.now.memory.low = c.low-bytes.ensures.value
    ∙ ap (λ (h : Held). h.memory.low) c.self.view_is in
    word_is _ _ _ at _ (omega arith) (omega arith) c.requires.second.0 c.requires.second.1
    (c.word_at-2.ensures ∙ ap (λ (xs : List ℕ). slice_index xs at + 256 * slice_index xs (at + 1)) low)

pub returns-clause-third : goal.returns-clause-third
returns-clause-third c =
    let at = c.args.at + 4 in
    let low : c.low-bytes.result.now ≡ c.args.self.now.memory.low = c.low-bytes.ensures.value
    ∙ ap (λ (h : Held). h.memory.low) c.self.view_is in
    word_is _ _ _ at _ c.requires.together (omega arith) c.requires.third.0 c.requires.third.1
    (c.word_at-3.ensures ∙ ap (λ (xs : List ℕ). slice_index xs at + 256 * slice_index xs (at + 1)) low)
