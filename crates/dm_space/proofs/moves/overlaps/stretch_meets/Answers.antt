use Rattle.std.proofs.Common.{◌+◌, ◌%◌, ◌≤◌, sym, ◌∙◌, ap, arith}
use Rattle.dm_space.specs.inner.SideBySide.{shift}
use Rattle.dm_space.specs.moves.Overlaps.{is_shared, any_two}
use Rattle.dm_space.proofs.moves.Inside.{inside-less}
use Rattle.dm_space.proofs.moves.Meets.{stretch-apart, stretch-shared, stretch-all}
use Rattle.dm_space.proofs.moves.overlaps.stretch_meets.Goals as goal

pub returns-then-stretches_meet : goal.returns-then-stretches_meet
returns-then-stretches_meet c =
    let a = c.args in let m = a.space.now.memory in let r = a.span.now in let done = c.loop-done.done in let count =
    c.stretch_len-count.result in
    let le : done + count ≤ a.len = omega (arith, c.loop-done.invariant.within, c.stretch_len-count.ensures.left) in
    let cell : (r.start + done) % 0x4000 + count ≤ 0x4000 = omega
    (arith, c.at.ensures, c.stretch_len-count.ensures.stretch) in
    let met = c.if-stretches_meet.ensures ∙ ap (λ q. any_two a.n count (λ i j. is_shared (shift a.p.now i) (shift q j)))
    c.place.ensures in
    sym (stretch-shared m a.p.now r a.n done count (inside-less m r
    (done + count) a.len le c.requires.inside) cell a.len le
    (sym met))

pub loop-done-preserved : goal.loop-done-preserved
loop-done-preserved c =
    let a = c.args in let m = a.space.now.memory in let r = a.span.now in let done = c.loop-done.done in let count =
    c.stretch_len-count.result in
    let le : done + count ≤ a.len = omega (arith, c.loop-done.invariant.within, c.stretch_len-count.ensures.left) in
    let cell : (r.start + done) % 0x4000 + count ≤ 0x4000 = omega
    (arith, c.at.ensures, c.stretch_len-count.ensures.stretch) in
    let apart = c.if-stretches_meet.ensures ∙ ap (λ q. any_two a.n count (λ i j. is_shared (shift a.p.now i)
    (shift q j)))
    c.place.ensures in
    record {
      within = le;
      apart = stretch-apart m a.p.now r a.n done count (inside-less m r (done + count) a.len le
          c.requires.inside) cell (sym apart) c.loop-done.invariant.apart;
    }

pub returns : goal.returns
returns c = let a = c.args in sym (stretch-all a.space.now.memory a.p.now a.span.now a.n c.loop-done.done a.len
    c.loop-done-test.false c.loop-done.invariant.apart)
