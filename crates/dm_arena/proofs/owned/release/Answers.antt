use Rattle.std.proofs.Common.{[], refl, sym, ◌∙◌}
use Rattle.dm_space.proofs.Places.{shaped-same}
use Rattle.dm_arena.proofs.Releasing.{releasing, released_step, released_all, releasing_at, nonempty_rest}
use Rattle.dm_arena.proofs.owned.release.Goals as goal

pub walk-init : goal.walk-init
walk-init c = record {
  list = λ L a. (
    [],
    L,
    a.0.0,
    record {
      rest = a.0.1;
      spells = a.0.1;
      is = refl;
      differs = record { shape = shaped-same _; kept = λ p ne. refl };
    },
  );
  scratch = refl;
}

pub returns-then-listed-clause-memory : goal.returns-then-listed-clause-memory
returns-then-listed-clause-memory c = λ L a.
    (let k = c.walk.invariant.list L a in
    let f = c.spelled_header-listed.ensures.front k.1 (record { nonempty = k.2; spells = k.3.rest }) in
    let w = c.write_cut.ensures.memory _ _ _ _ _ _ (releasing _ _ _ L _ _ k.0 k.1 c.spelled_header-listed.result _ a k.3
    f.0 f.1 c.released_of-header.ensures) in
    released_all _ _ _ L _ _ _ f.0 a (sym f.1.last ∙ c.if-listed.true)
    (released_step _ _ _ L _ _ k.0 k.1 c.spelled_header-listed.result _ a k.3 f.0 f.1 c.released_of-header.ensures _
    w))

pub walk-preserved : goal.walk-preserved
walk-preserved c = record {
  list = λ L a.
      (let k = c.walk.invariant.list L a in
      let f = c.spelled_header-listed.ensures.front k.1 (record { nonempty = k.2; spells = k.3.rest }) in
      let w = c.write_cut.ensures.memory _ _ _ _ _ _
      (releasing _ _ _ L _ _ k.0 k.1 c.spelled_header-listed.result _ a k.3
      f.0 f.1 c.released_of-header.ensures) in
      let s = released_step _ _ _ L _ _ k.0 k.1 c.spelled_header-listed.result _ a k.3 f.0 f.1
      c.released_of-header.ensures _ w in
      (_, f.0, nonempty_rest _ f.0 c.if-listed.false f.1.last, releasing_at _ _ _ L _ _ _ _ f.0 c.next-here.ensures s));
  scratch = c.write_cut.ensures.scratch ∙ c.walk.invariant.scratch;
}
