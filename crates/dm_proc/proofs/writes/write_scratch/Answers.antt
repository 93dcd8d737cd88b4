use Rattle.std.proofs.Common.{◌≡◌, ◌<◌, ◌∙◌, ap, sym, length, take, get_or, arith}
use Rattle.std.proofs.lemmas.List.{length-take, get_or-take}
use Rattle.dm_proc.proofs.Writing.{written-none, written-more, written-all}
use Rattle.dm_proc.proofs.writes.write_scratch.Goals as goal

pub loop-at-preserved : goal.loop-at-preserved
loop-at-preserved c =
    let w = c.loop-at.invariant in
    let long : length c.args.space.now.scratch ≡ 0x200000 = ap length (sym w.scratch)
    ∙ c.scratch_byte-byte.ensures.length in
    let within : c.loop-at.at < length (take c.args.count c.args.space.now.scratch) =
    omega (arith, length-take c.args.count c.args.space.now.scratch) in
    let byte : c.scratch_byte-byte.result ≡ get_or (take c.args.count c.args.space.now.scratch) c.loop-at.at 0
    = c.scratch_byte-byte.ensures.byte ∙ ap (λ ys. get_or ys c.loop-at.at 0) w.scratch
    ∙ sym (get_or-take c.args.count c.args.space.now.scratch c.loop-at.at 0 c.loop-at-test.true) in
    written-more _ _ _ _ _ _ _ _ _ w within (omega arith) byte c.write_byte.ensures

pub loop-at-init : goal.loop-at-init
loop-at-init c = written-none _ _ _ _

pub returns : goal.returns
returns c = written-all _ _ _ _ _ _ c.loop-at.invariant (omega (
  arith,
  length-take c.args.count c.args.space.now.scratch,
))
