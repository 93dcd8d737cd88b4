use Rattle.std.proofs.Common.{List, ℕ, ◌+◌, ◌-◌, replicate, ap, ◌∙◌}
use Rattle.std.specs.Prelude.{min}
use Rattle.dm_region.specs.Parts.{with_part}
use Rattle.dm_space.proofs.Copies.{rom-split}
use Rattle.dm_space.proofs.rom.read_rom.Goals as goal

pub returns : goal.returns
returns c =
    let a = c.args in let n = c.min-first.result in
    c.read_nothing.ensures
    ∙ ap (λ (xs : List ℕ). with_part xs (a.at + n) (a.len - n) (replicate (a.len - n) 0xFF)) c.read_each.ensures
    ∙ rom-split a.bytes.now a.at a.offset a.len n (c.min-first.ensures
    ∙ ap (λ k. min k a.len) c.saturating_sub.ensures) c.requires.within
