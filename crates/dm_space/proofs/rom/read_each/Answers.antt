use Rattle.std.proofs.Common.{List, ℕ, ◌+◌, set, ap, ◌∙◌, sym, ◌≡◌, arith}
use Rattle.dm_region.specs.Parts.{with_part}
use Rattle.dm_space.specs.Copies.{values}
use Rattle.dm_space.specs.Rom.{rom}
use Rattle.dm_space.proofs.Copies.{none-written, one-value}
use Rattle.dm_space.proofs.rom.read_each.Goals as goal

pub loop-i-init : goal.loop-i-init
loop-i-init c = sym (none-written c.args.bytes.now c.args.at)

pub loop-i-preserved : goal.loop-i-preserved
loop-i-preserved c =
    let at = c.args.at in let i = c.loop-i.i in let o = c.args.offset in
    ap (λ (xs : List ℕ). set xs (at + i) c.rom_byte.result) c.loop-i.invariant
    ∙ ap (set (with_part c.args.bytes.now at i (values rom o i)) (at + i)) c.rom_byte.ensures
    ∙ one-value rom c.args.bytes.now at o i (omega (arith, c.requires.within, c.loop-i-test.true))

pub returns : goal.returns
returns c =
    let end : c.loop-i.i ≡ c.args.len = omega (arith, c.loop-i-test.false, c.loop-i.auto.i-end) in
    c.loop-i.invariant ∙ ap (λ n. with_part c.args.bytes.now c.args.at n (values rom c.args.offset n)) end
