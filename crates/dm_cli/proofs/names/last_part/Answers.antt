use Rattle.std.proofs.Common.{◌≡◌, ◌≢◌, ◌∙◌, ◌-◌, ◌<◌, ◌≤◌, ◌==◌, ℕ, List, not, ap, arith, drop, eq-eqb, get_or, length, length-drop, ne_eqb, take}
use Rattle.std.proofs.lemmas.List.{take_all}
use Rattle.std.proofs.lemmas.List.Sums.{suffix_len_is}
use Rattle.std.specs.List.{suffix_len}
use Rattle.dm_cli.specs.Names.{last_part}
use Rattle.dm_cli.proofs.names.last_part.Goals as goal

-- what stands from `start` on, where a `/` or nothing is before it and no `/` from there on
behind_last : (path : List ℕ) (start : ℕ) → start ≤ length path → (0 < start → get_or path (start - 1) 0 ≡ 47)
    → ((k : ℕ) → start ≤ k → k < length path → get_or path k 0 ≢ 47)
    → take (length path - start) (drop start path) ≡ last_part path
behind_last path start within behind none =
    let left : suffix_len (λ b. not (b == 47)) path ≡ length path - start =
    suffix_len_is (λ b. not (b == 47)) path start 0 within
    (λ k from till. ap not (ne_eqb _ 47 (none k from till)))
    (λ some. ap not (eq-eqb _ 47 (behind some))) in
    let from : length path - suffix_len (λ b. not (b == 47)) path ≡ start = omega (arith, left, within) in
    take_all _ _ (let h = length-drop start path in omega (arith, h)) ∙ ap (λ n. drop n path) (omega (arith, from))

pub returns : goal.returns
returns c =
    let loop = c.loop-at.invariant in
    let bytes = c.as_bytes-bytes.result.now in
    let whole : c.loop-at.at ≡ length bytes = omega (arith, c.loop-at.auto.at-end, c.loop-at-test.false) in
    behind_last bytes c.loop-at.start (omega (arith, whole, loop.within)) loop.behind
    (λ k from till. loop.none_since k from (omega (arith, whole, till)))
    ∙ ap last_part c.as_bytes-bytes.ensures.value
