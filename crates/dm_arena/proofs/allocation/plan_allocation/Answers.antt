use Rattle.std.proofs.Common.{inr, rules, sym, ◌∙◌}
use Rattle.dm_arena.proofs.Allocating.{block_within, block_ends, is_new, planned, unplanned}
use Rattle.dm_blocks.specs.Reading.{IsSpelledFrom}
use Rattle.dm_arena.proofs.Fitting.{none_found}
use Rattle.dm_blocks.specs.Chain.{first_header}
use Rattle.dm_arena.proofs.allocation.plan_allocation.Goals as goal

pub returns-in_default-block-clause-plan : goal.returns-in_default-block-clause-plan
returns-in_default-block-clause-plan c =
    let a = c.in-Some.ensures.0 in
    let s : IsSpelledFrom c.args.space.now.memory first_header a.0 = record { nonempty = a.1.0.0; spells = a.1.0.1 } in (
      a.0,
      a.1,
      (c.in-Some.ensures.1 a.0 s).largest_is,
      none_found _ _ _ _ (sym (c.in-Some.ensures.1 a.0 s).block_is
          ∙ c.in_default-block.is),
    )

pub cut_of-cut-requires-clause-within : goal.cut_of-cut-requires-clause-within
cut_of-cut-requires-clause-within c =
    let a = c.in-Some.ensures.0 in
    block_within _ _ _ _ _ 0 a.0 _ a.1 (sym (c.in-Some.ensures.1 a.0 (record {
      nonempty = a.1.0.0;
      spells = a.1.0.1;
    })).block_is ∙ c.in-Some-block.is)

pub cut_of-cut-requires-clause-fits : goal.cut_of-cut-requires-clause-fits
cut_of-cut-requires-clause-fits c =
    let a = c.in-Some.ensures.0 in
    block_ends _ _ _ _ _ 0 a.0 _ a.1 (sym (c.in-Some.ensures.1 a.0 (record {
      nonempty = a.1.0.0;
      spells = a.1.0.1;
    })).block_is ∙ c.in-Some-block.is)

pub may_split-requires : goal.may_split-requires
may_split-requires c =
    let a = c.in-Some.ensures.0 in
    (a.0, record { nonempty = a.1.0.0; spells = a.1.0.1 })

pub returns-then-not-may_split-clause-plan : goal.returns-then-not-may_split-clause-plan
returns-then-not-may_split-clause-plan c =
    let a = c.in-Some.ensures.0 in
    let s : IsSpelledFrom c.args.space.now.memory first_header a.0 = record { nonempty = a.1.0.0; spells = a.1.0.1 } in
    let e = sym (c.in-Some.ensures.1 a.0 s).block_is ∙ c.in-Some-block.is in
    let new = is_new _ _ _ _ _ _ a.0 _ a.1 e c.cut_of-cut.result c.cut_of-cut.ensures.cut in
    inr (unplanned _ _ _ _ _ _ a.0 _ a.1 e c.cut_of-cut.result c.cut_of-cut.ensures.cut
    (c.if-not-may_split.ensures a.0 s new))

pub taken_of-requires-clause-within : goal.taken_of-requires-clause-within
taken_of-requires-clause-within c =
    let a = c.in-Some.ensures.0 in
    block_within _ _ _ _ _ 0 a.0 _ a.1 (sym (c.in-Some.ensures.1 a.0 (record {
      nonempty = a.1.0.0;
      spells = a.1.0.1;
    })).block_is ∙ c.in-Some-block.is)

pub taken_of-requires-clause-fits : goal.taken_of-requires-clause-fits
taken_of-requires-clause-fits c =
    let a = c.in-Some.ensures.0 in
    block_ends _ _ _ _ _ 0 a.0 _ a.1 (sym (c.in-Some.ensures.1 a.0 (record {
      nonempty = a.1.0.0;
      spells = a.1.0.1;
    })).block_is ∙ c.in-Some-block.is)

pub returns-clause-plan : goal.returns-clause-plan
returns-clause-plan c =
    let a = c.in-Some.ensures.0 in
    let s : IsSpelledFrom c.args.space.now.memory first_header a.0 = record { nonempty = a.1.0.0; spells = a.1.0.1 } in
    let e = sym (c.in-Some.ensures.1 a.0 s).block_is ∙ c.in-Some-block.is in
    let new = is_new _ _ _ _ _ _ a.0 _ a.1 e c.cut_of-cut.result c.cut_of-cut.ensures.cut in
    planned _ _ _ _ _ _ a.0 _ a.1 e c.cut_of-cut.result c.cut_of-cut.ensures.cut (c.if-not-may_split.ensures a.0 s new)
    _ _ (search rules)
