use Rattle.std.proofs.Common.{◌≡◌, ◌+◌, ◌-◌, ◌*◌, ◌≤◌, ap, refl, ◌∙◌, arith}
use Rattle.std.specs.Prelude.{min}
use Rattle.std.proofs.lemmas.List.{length-replicate}
use Rattle.dm_region.specs.Parts.{with_part}
use Rattle.dm_pool.specs.Blocks.{zeros}
use Rattle.dm_pool.proofs.Blocks.{resized_bytes, fitted_is}
use Rattle.dm_region.proofs.Parts.{copied_part}
use Rattle.dm_pool.proofs.pool.move_block.Goals as goal

pub returns : goal.returns
returns c =
    let xs = c.args.bytes.now in let f = c.args.from in let t = c.args.to in let kept = c.min-kept.result in let rest =
    t.units - kept in
    let least : kept ≡ min f.units t.units = c.min-kept.ensures in
    let at : (t.base + kept) * 1024 ≡ t.base * 1024 + kept * 1024 = omega arith in
    let le : kept ≤ t.units = omega (arith, least) in
    c.clear.ensures
    ∙ ap (λ n. with_part c.copy_within.new.self n (rest * 1024) (zeros rest)) at
    ∙ ap (λ l. with_part l (t.base * 1024 + kept * 1024) (rest * 1024) (zeros rest)) (c.copy_within.ensures.after
    ∙ copied_part xs (f.base * 1024) (t.base * 1024) (kept * 1024) (kept * 1024) refl)
    ∙ resized_bytes xs (zeros rest) t.base f.base t.units kept le (length-replicate (rest * 1024) 0)
    c.requires.destination (omega (arith, c.requires.source, least))
    ∙ ap (with_part xs (t.base * 1024) (t.units * 1024)) (fitted_is xs f t.units kept least c.requires.source)
