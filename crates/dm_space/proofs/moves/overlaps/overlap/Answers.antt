use Rattle.std.proofs.Common.{◌+◌, ◌%◌, ◌≤◌, sym, ◌∙◌, ap, arith}
use Rattle.dm_space.specs.inner.SideBySide.{shift}
use Rattle.dm_space.specs.moves.Spans.{place_in}
use Rattle.dm_space.specs.moves.Overlaps.{is_shared, any_two}
use Rattle.dm_space.proofs.moves.Inside.{inside-less}
use Rattle.dm_space.proofs.moves.Meets.{spans-apart, spans-shared, spans-all}
use Rattle.dm_space.proofs.moves.overlaps.overlap.Goals as goal

pub returns-then-stretch_meets : goal.returns-then-stretch_meets
returns-then-stretch_meets c =
    let a = c.args in let m = a.space.now.memory in let r = a.from.now in let done = c.loop-done.done in let count =
    c.stretch_len-count.result in
    let le : done + count ≤ a.len = omega (arith, c.loop-done.invariant.within, c.stretch_len-count.ensures.left) in
    let cell : (r.start + done) % 0x4000 + count ≤ 0x4000 = omega
    (arith, c.at.ensures, c.stretch_len-count.ensures.stretch) in
    let met = c.if-stretch_meets.ensures ∙ ap (λ q. any_two count a.len (λ i j. is_shared (shift q i)
    (place_in m a.to.now j))) c.place.ensures in
    sym (spans-shared m r a.to.now done count a.len (inside-less m r (done + count) a.len le c.requires.from) cell le
    (sym met))

pub loop-done-preserved : goal.loop-done-preserved
loop-done-preserved c =
    let a = c.args in let m = a.space.now.memory in let r = a.from.now in let done = c.loop-done.done in let count =
    c.stretch_len-count.result in
    let le : done + count ≤ a.len = omega (arith, c.loop-done.invariant.within, c.stretch_len-count.ensures.left) in
    let cell : (r.start + done) % 0x4000 + count ≤ 0x4000 = omega
    (arith, c.at.ensures, c.stretch_len-count.ensures.stretch) in
    let apart = c.if-stretch_meets.ensures ∙ ap (λ q. any_two count a.len (λ i j. is_shared (shift q i)
    (place_in m a.to.now j))) c.place.ensures in
    record {
      within = le;
      apart = spans-apart m r a.to.now done count a.len (inside-less m r
          (done + count) a.len le c.requires.from) cell (sym apart) c.loop-done.invariant.apart;
    }

pub returns : goal.returns
returns c = let a = c.args in sym (spans-all a.space.now.memory a.from.now a.to.now c.loop-done.done a.len
    c.loop-done-test.false c.loop-done.invariant.apart)
