use Rattle.std.proofs.Common.{◌≡◌, ◌+◌, ◌-◌, ap, ◌∙◌, length, take, drop, arith}
use Rattle.dm_region.specs.Parts.{part}
use Rattle.dm_region.proofs.Written.{elsewhere}
use Rattle.dm_pool.proofs.Blocks.{part_length}
use Rattle.dm_region.proofs.Parts.{mid_part}
use Rattle.dm_pool.proofs.free_list.write_word.Goals as goal

pub returns-clause-kept : goal.returns-clause-kept
returns-clause-kept c = λ Q M far.
    let at = c.args.at in let xs = c.args.bytes.now in let ws = c.write_u32.new.buf in let four : at + 4 - at ≡ 4 =
    omega arith in
    let long : length ws ≡ 4 = c.write_u32.auto.buf ∙ ap (λ n. length (take n (drop at xs))) four
    ∙ part_length xs at 4 c.requires in
    ap (λ l. part l Q M) (mid_part at 4 (at + 4 - at) xs ws four) ∙ elsewhere xs ws at 4 Q M long c.requires far
