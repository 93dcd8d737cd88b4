use Rattle.std.proofs.Common.{[], refl, sym, ◌∙◌}
use Rattle.dm_space.proofs.Places.{shaped-same}
use Rattle.dm_arena.proofs.Join.{joining_all_step, joining_all_end, joining_all_at, nonempty_of}
use Rattle.dm_arena.proofs.joined.join_from.Goals as goal

pub walk-init : goal.walk-init
walk-init c = record {
  list = λ L a. (let j = c.requires.joined L a in (j.done, j.rest, j.nonempty, j.joining));
  scratch = refl;
}

pub returns-then-listed-clause-memory : goal.returns-then-listed-clause-memory
returns-then-listed-clause-memory c = λ L a.
    (let k = c.walk.invariant.list L a in
    let f = c.joined_at-listed.ensures.front k.1 (record { nonempty = k.2; spells = k.3.rest }) in
    joining_all_end _ _ _ L _ _ _ f.0 (sym f.1.last ∙ c.if-listed.true) (joining_all_step _ _ _ L _ _ k.0 k.1 _ _ a k.2
    k.3 c.joined_at-listed.ensures.there c.put_header.ensures.memory f.0 f.1))

pub walk-preserved : goal.walk-preserved
walk-preserved c = record {
  list = λ L a.
      (let k = c.walk.invariant.list L a in
      let f = c.joined_at-listed.ensures.front k.1 (record { nonempty = k.2; spells = k.3.rest }) in
      let s = joining_all_step _ _ _ L _ _ k.0 k.1 _ _ a k.2 k.3 c.joined_at-listed.ensures.there
      c.put_header.ensures.memory f.0 f.1 in (
        _,
        f.0,
        nonempty_of _ f.0 c.if-listed.false f.1.last,
        joining_all_at _ _ _ L _ _ _ _ f.0 c.next-segment.ensures s,
      ));
  scratch = c.put_header.ensures.scratch ∙ c.walk.invariant.scratch;
}
