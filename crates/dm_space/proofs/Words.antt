-- Three words side by side, read and written where they lie
use Rattle.std.proofs.Common.{◌≡◌, ℕ, List, ◌+◌, ◌*◌, ◌<◌, length, ◌∙◌, ap, arith}
use Rattle.std.proofs.lemmas.List.{length-set}
use Rattle.dm_pool.specs.Stored.{refit}
use Rattle.dm_pool.proofs.Blocks.{refilled}
use Rattle.dm_space.specs.Memory.{Memory, InRam, poke16}
use Rattle.dm_space.specs.inner.Memory.{word_put}
use Rattle.dm_space.proofs.Reading.{word_poked}

length_put : (xs : List ℕ) (at v : ℕ) → length (word_put xs at v) ≡ length xs
length_put xs at v = length-set _ (at + 1) _ ∙ length-set xs at _

-- three words written through the loan of a slice
pub words_lent : (old now : List ℕ) (at a b c : ℕ) → now ≡ old →
    refit old (word_put (word_put (word_put now (at + 4) c) (at + 2) b) at a)
    ≡ word_put (word_put (word_put old (at + 4) c) (at + 2) b) at a
words_lent old now at a b c e =
    refilled (length old) old (word_put (word_put (word_put now (at + 4) c) (at + 2) b) at a)
    (length_put _ at a ∙ length_put _ (at + 2) b ∙ length_put now (at + 4) c ∙ ap length e)
    ∙ ap (λ (xs : List ℕ). word_put (word_put (word_put xs (at + 4) c) (at + 2) b) at a) e

-- three words written where their bytes lie together
pub words_poked : (m : Memory) (s o at a b c : ℕ) → o + 4 < 65535 → s * 16 + o ≡ at →
    (InRam at) × (InRam (at + 1)) → (InRam (at + 2)) × (InRam (at + 2 + 1)) → (InRam (at + 4)) × (InRam (at + 4 + 1)) →
    record m { low = word_put (word_put (word_put m.low (at + 4) c) (at + 2) b) at a }
    ≡ poke16 (poke16 (poke16 m s (o + 4) c) s (o + 2) b) s o a
words_poked m s o at a b c h e f g l =
    let upper : Memory = record m { low = word_put m.low (at + 4) c } in
    let middle : Memory = record upper { low = word_put upper.low (at + 2) b } in
    let third : upper ≡ poke16 m s (o + 4) c = word_poked m s (o + 4) (at + 4) c h (omega arith) l.0 l.1 in
    let second : middle ≡ poke16 (poke16 m s (o + 4) c) s (o + 2) b =
    word_poked upper s (o + 2) (at + 2) b (omega arith) (omega arith) g.0 g.1
    ∙ ap (λ (n : Memory). poke16 n s (o + 2) b) third in
    word_poked middle s o at a (omega arith) e f.0 f.1 ∙ ap (λ (n : Memory). poke16 n s o a) second
