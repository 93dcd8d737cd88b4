use Rattle.std.proofs.Common.{◌≡◌, ◌+◌, inr, sym, ◌∙◌, ap}
use Rattle.dm_blocks.specs.Chain.{first_header}
use Rattle.dm_blocks.specs.Reading.{IsSpelledFrom}
use Rattle.dm_arena.specs.Blocks.{taken_segment}
use Rattle.dm_arena.proofs.Choosing.{chosen, room}
use Rattle.dm_arena.proofs.Allocating.{block_within, block_ends}
use Rattle.dm_arena.proofs.Effect.{effect_taken}
use Rattle.dm_arena.proofs.Pairs.{second_within, second_ends, pairing, first_new, second_new, pair_clear, pair_unclear, too_small, none_second, none_first}
use Rattle.dm_arena.proofs.pair.plan_pair.Goals as goal

pub returns-in_default : goal.returns-in_default
returns-in_default c =
    let a = c.if-not-is_arena.ensures in
    let s : IsSpelledFrom c.args.space.now.memory first_header a.0 = record { nonempty = a.1.0.0; spells = a.1.0.1 } in
    let room = room _ _ _ a.0 _ (c.in_effect-searched.ensures a.0 s) (c.choose-choice.ensures.largest a.0 s) in (
      a.0,
      a.1,
      room,
      none_first _ _ _ _ _ c.args.least c.args.most a.0 a.1 (chosen _ _ _ _ a.0 _ _
          (c.in_effect-searched.ensures a.0 s) (c.choose-choice.ensures.block a.0 s) c.in_default.is),
    )

pub spoken_of-spoken-requires-clause-within : goal.spoken_of-spoken-requires-clause-within
spoken_of-spoken-requires-clause-within c =
    let a = c.if-not-is_arena.ensures in
    let s : IsSpelledFrom c.args.space.now.memory first_header a.0 = record { nonempty = a.1.0.0; spells = a.1.0.1 } in
    let e = chosen _ _ _ _ a.0 _ _ (c.in_effect-searched.ensures a.0 s) (c.choose-choice.ensures.block a.0 s)
    c.in-Some.is in
    block_within _ _ _ _ _ 0 a.0 _ a.1 e

pub spoken_of-spoken-requires-clause-fits : goal.spoken_of-spoken-requires-clause-fits
spoken_of-spoken-requires-clause-fits c =
    let a = c.if-not-is_arena.ensures in
    let s : IsSpelledFrom c.args.space.now.memory first_header a.0 = record { nonempty = a.1.0.0; spells = a.1.0.1 } in
    let e = chosen _ _ _ _ a.0 _ _ (c.in_effect-searched.ensures a.0 s) (c.choose-choice.ensures.block a.0 s)
    c.in-Some.is in
    block_ends _ _ _ _ _ 0 a.0 _ a.1 e

pub cut_of-taken-requires-clause-within : goal.cut_of-taken-requires-clause-within
cut_of-taken-requires-clause-within c =
    let a = c.if-not-is_arena.ensures in
    let s : IsSpelledFrom c.args.space.now.memory first_header a.0 = record { nonempty = a.1.0.0; spells = a.1.0.1 } in
    let e = chosen _ _ _ _ a.0 _ _ (c.in_effect-searched.ensures a.0 s) (c.choose-choice.ensures.block a.0 s)
    c.in-Some.is in
    block_within _ _ _ _ _ 0 a.0 _ a.1 e

pub cut_of-taken-requires-clause-fits : goal.cut_of-taken-requires-clause-fits
cut_of-taken-requires-clause-fits c =
    let a = c.if-not-is_arena.ensures in
    let s : IsSpelledFrom c.args.space.now.memory first_header a.0 = record { nonempty = a.1.0.0; spells = a.1.0.1 } in
    let e = chosen _ _ _ _ a.0 _ _ (c.in_effect-searched.ensures a.0 s) (c.choose-choice.ensures.block a.0 s)
    c.in-Some.is in
    block_ends _ _ _ _ _ 0 a.0 _ a.1 e

pub cut_of-first-requires-clause-within : goal.cut_of-first-requires-clause-within
cut_of-first-requires-clause-within c =
    let a = c.if-not-is_arena.ensures in
    let s : IsSpelledFrom c.args.space.now.memory first_header a.0 = record { nonempty = a.1.0.0; spells = a.1.0.1 } in
    let e = chosen _ _ _ _ a.0 _ _ (c.in_effect-searched.ensures a.0 s) (c.choose-choice.ensures.block a.0 s)
    c.in-Some.is in
    block_within _ _ _ _ _ 0 a.0 _ a.1 e

pub cut_of-first-requires-clause-fits : goal.cut_of-first-requires-clause-fits
cut_of-first-requires-clause-fits c =
    let a = c.if-not-is_arena.ensures in
    let s : IsSpelledFrom c.args.space.now.memory first_header a.0 = record { nonempty = a.1.0.0; spells = a.1.0.1 } in
    let e = chosen _ _ _ _ a.0 _ _ (c.in_effect-searched.ensures a.0 s) (c.choose-choice.ensures.block a.0 s)
    c.in-Some.is in
    block_ends _ _ _ _ _ 0 a.0 _ a.1 e

pub taken_of-environment_segment-requires-clause-within : goal.taken_of-environment_segment-requires-clause-within
taken_of-environment_segment-requires-clause-within c =
    let a = c.if-not-is_arena.ensures in
    let s : IsSpelledFrom c.args.space.now.memory first_header a.0 = record { nonempty = a.1.0.0; spells = a.1.0.1 } in
    let e = chosen _ _ _ _ a.0 _ _ (c.in_effect-searched.ensures a.0 s) (c.choose-choice.ensures.block a.0 s)
    c.in-Some.is in
    block_within _ _ _ _ _ 0 a.0 _ a.1 e

pub taken_of-environment_segment-requires-clause-fits : goal.taken_of-environment_segment-requires-clause-fits
taken_of-environment_segment-requires-clause-fits c =
    let a = c.if-not-is_arena.ensures in
    let s : IsSpelledFrom c.args.space.now.memory first_header a.0 = record { nonempty = a.1.0.0; spells = a.1.0.1 } in
    let e = chosen _ _ _ _ a.0 _ _ (c.in_effect-searched.ensures a.0 s) (c.choose-choice.ensures.block a.0 s)
    c.in-Some.is in
    block_ends _ _ _ _ _ 0 a.0 _ a.1 e

pub taken_of-program-requires-clause-within : goal.taken_of-program-requires-clause-within
taken_of-program-requires-clause-within c =
    let a = c.if-not-is_arena.ensures in
    let s : IsSpelledFrom c.args.space.now.memory first_header a.0 = record { nonempty = a.1.0.0; spells = a.1.0.1 } in
    let e = chosen _ _ _ _ a.0 _ _ (c.in_effect-searched.ensures a.0 s) (c.choose-choice.ensures.block a.0 s)
    c.in-Some.is in
    let k = sym (c.choose.ensures.block a.0 s) ∙ c.in-Some-block.is in
    second_within _ _ _ _ _ a.0 _ a.1 e _ c.spoken_of-spoken.ensures.segment c.spoken_of-spoken.ensures.rest _ _ _ k

pub taken_of-program-requires-clause-fits : goal.taken_of-program-requires-clause-fits
taken_of-program-requires-clause-fits c =
    let a = c.if-not-is_arena.ensures in
    let s : IsSpelledFrom c.args.space.now.memory first_header a.0 = record { nonempty = a.1.0.0; spells = a.1.0.1 } in
    let e = chosen _ _ _ _ a.0 _ _ (c.in_effect-searched.ensures a.0 s) (c.choose-choice.ensures.block a.0 s)
    c.in-Some.is in
    let k = sym (c.choose.ensures.block a.0 s) ∙ c.in-Some-block.is in
    second_ends _ _ _ _ _ a.0 _ a.1 e _ c.spoken_of-spoken.ensures.segment c.spoken_of-spoken.ensures.rest _ _ _ k

pub cut_of-second-requires-clause-within : goal.cut_of-second-requires-clause-within
cut_of-second-requires-clause-within c =
    let a = c.if-not-is_arena.ensures in
    let s : IsSpelledFrom c.args.space.now.memory first_header a.0 = record { nonempty = a.1.0.0; spells = a.1.0.1 } in
    let e = chosen _ _ _ _ a.0 _ _ (c.in_effect-searched.ensures a.0 s) (c.choose-choice.ensures.block a.0 s)
    c.in-Some.is in
    let k = sym (c.choose.ensures.block a.0 s) ∙ c.in-Some-block.is in
    second_within _ _ _ _ _ a.0 _ a.1 e _ c.spoken_of-spoken.ensures.segment c.spoken_of-spoken.ensures.rest _ _ _ k

pub cut_of-second-requires-clause-fits : goal.cut_of-second-requires-clause-fits
cut_of-second-requires-clause-fits c =
    let a = c.if-not-is_arena.ensures in
    let s : IsSpelledFrom c.args.space.now.memory first_header a.0 = record { nonempty = a.1.0.0; spells = a.1.0.1 } in
    let e = chosen _ _ _ _ a.0 _ _ (c.in_effect-searched.ensures a.0 s) (c.choose-choice.ensures.block a.0 s)
    c.in-Some.is in
    let k = sym (c.choose.ensures.block a.0 s) ∙ c.in-Some-block.is in
    second_ends _ _ _ _ _ a.0 _ a.1 e _ c.spoken_of-spoken.ensures.segment c.spoken_of-spoken.ensures.rest _ _ _ k

pub returns-then-size-least : goal.returns-then-size-least
returns-then-size-least c =
    let a = c.if-not-is_arena.ensures in
    let s : IsSpelledFrom c.args.space.now.memory first_header a.0 = record { nonempty = a.1.0.0; spells = a.1.0.1 } in
    let e = chosen _ _ _ _ a.0 _ _ (c.in_effect-searched.ensures a.0 s) (c.choose-choice.ensures.block a.0 s)
    c.in-Some.is in
    let effect = effect_taken _ _ _ _ _ 0 a.0 _ a.1 e _ c.cut_of-taken.ensures.cut _
    (c.in_effect_beside-searched_then.ensures a.0 s) in
    let room = room _ _ _ a.0 _ (c.in_effect-searched.ensures a.0 s) (c.choose-choice.ensures.largest a.0 s) in (
      a.0,
      a.1,
      room,
      too_small _ _ _ _ _ a.0 _ a.1 e _ c.spoken_of-spoken.ensures.segment
          c.spoken_of-spoken.ensures.rest _ effect _ c.args.most _ _ (c.choose-left.ensures.largest a.0
          s) c.smaller-size.ensures c.if-size-least.true,
    )

pub returns-in_default-block : goal.returns-in_default-block
returns-in_default-block c =
    let a = c.if-not-is_arena.ensures in
    let s : IsSpelledFrom c.args.space.now.memory first_header a.0 = record { nonempty = a.1.0.0; spells = a.1.0.1 } in
    let e = chosen _ _ _ _ a.0 _ _ (c.in_effect-searched.ensures a.0 s) (c.choose-choice.ensures.block a.0 s)
    c.in-Some.is in
    let effect = effect_taken _ _ _ _ _ 0 a.0 _ a.1 e _ c.cut_of-taken.ensures.cut _
    (c.in_effect_beside-searched_then.ensures a.0 s) in
    let room = room _ _ _ a.0 _ (c.in_effect-searched.ensures a.0 s) (c.choose-choice.ensures.largest a.0 s) in (
      a.0,
      a.1,
      room,
      none_second _ _ _ _ _ a.0 _ a.1 e _ c.spoken_of-spoken.ensures.segment
          c.spoken_of-spoken.ensures.rest _ effect c.args.least c.args.most _ _ (c.choose-left.ensures.largest a.0
          s) c.smaller-size.ensures (sym (c.choose.ensures.block a.0 s) ∙ c.in_default-block.is),
    )

pub are_clear-requires : goal.are_clear-requires
are_clear-requires c =
    let a = c.if-not-is_arena.ensures in
    (a.0, record { nonempty = a.1.0.0; spells = a.1.0.1 })

pub returns-then-not-are_clear : goal.returns-then-not-are_clear
returns-then-not-are_clear c =
    let a = c.if-not-is_arena.ensures in
    let s : IsSpelledFrom c.args.space.now.memory first_header a.0 = record { nonempty = a.1.0.0; spells = a.1.0.1 } in
    let e = chosen _ _ _ _ a.0 _ _ (c.in_effect-searched.ensures a.0 s) (c.choose-choice.ensures.block a.0 s)
    c.in-Some.is in
    let effect = effect_taken _ _ _ _ _ 0 a.0 _ a.1 e _ c.cut_of-taken.ensures.cut _
    (c.in_effect_beside-searched_then.ensures a.0 s) in
    let k = sym (c.choose.ensures.block a.0 s) ∙ c.in-Some-block.is in
    let o : c.taken_of-program.result + 1 ≡ taken_segment c.args.strategy.fit c.smaller-size.result
    c.in-Some-block.whole + 1 = ap (λ x. x + 1) c.taken_of-program.ensures.value in
    inr (
      _,
      _,
      pairing _ _ _ _ _ a.0 _ a.1 e _ c.spoken_of-spoken.ensures.segment c.spoken_of-spoken.ensures.rest _ _ _
          k effect c.args.least c.args.most _ _ (c.choose-left.ensures.largest a.0
          s) c.smaller-size.ensures c.if-size-least.false o,
      pair_unclear _ _ _ _ _ a.0 _ a.1 e _ c.spoken_of-spoken.ensures.segment c.spoken_of-spoken.ensures.rest _ _ _ k
          effect c.args.least c.args.most _ _ (c.choose-left.ensures.largest a.0
          s) c.smaller-size.ensures c.if-size-least.false o c.cut_of-first.result c.cut_of-second.result
          c.cut_of-first.ensures.cut c.cut_of-second.ensures.cut (c.if-not-are_clear.ensures a.0 s
          (first_new _ _ _ _ _ a.0 _ a.1 e _ c.spoken_of-spoken.ensures.segment c.spoken_of-spoken.ensures.rest _ _ _ k
          effect c.args.least c.args.most _ _ (c.choose-left.ensures.largest a.0 s) c.smaller-size.ensures
          c.if-size-least.false o c.cut_of-first.result c.cut_of-second.result c.cut_of-first.ensures.cut
          c.cut_of-second.ensures.cut) (second_new _ _ _ _ _ a.0 _ a.1 e _ c.spoken_of-spoken.ensures.segment
          c.spoken_of-spoken.ensures.rest _ _ _ k effect c.args.least c.args.most _ _
          (c.choose-left.ensures.largest a.0 s) c.smaller-size.ensures c.if-size-least.false o c.cut_of-first.result
          c.cut_of-second.result c.cut_of-first.ensures.cut c.cut_of-second.ensures.cut)),
    )

pub returns : goal.returns
returns c =
    let a = c.if-not-is_arena.ensures in
    let s : IsSpelledFrom c.args.space.now.memory first_header a.0 = record { nonempty = a.1.0.0; spells = a.1.0.1 } in
    let e = chosen _ _ _ _ a.0 _ _ (c.in_effect-searched.ensures a.0 s) (c.choose-choice.ensures.block a.0 s)
    c.in-Some.is in
    let effect = effect_taken _ _ _ _ _ 0 a.0 _ a.1 e _ c.cut_of-taken.ensures.cut _
    (c.in_effect_beside-searched_then.ensures a.0 s) in
    let k = sym (c.choose.ensures.block a.0 s) ∙ c.in-Some-block.is in
    let o : c.taken_of-program.result + 1 ≡ taken_segment c.args.strategy.fit c.smaller-size.result
    c.in-Some-block.whole + 1 = ap (λ x. x + 1) c.taken_of-program.ensures.value in
    record {
      pairing = pairing _ _ _ _ _ a.0 _ a.1 e _ c.spoken_of-spoken.ensures.segment c.spoken_of-spoken.ensures.rest _ _ _
          k effect c.args.least c.args.most _ _ (c.choose-left.ensures.largest a.0 s) c.smaller-size.ensures
          c.if-size-least.false o;
      environment_is = ap (λ x. x + 1) c.taken_of-environment_segment.ensures.value;
      first_is = c.cut_of-first.ensures.cut;
      second_is = c.cut_of-second.ensures.cut;
      clear = pair_clear _ _ _ _ _ a.0 _ a.1 e _ c.spoken_of-spoken.ensures.segment c.spoken_of-spoken.ensures.rest _ _
          _ k effect c.args.least c.args.most _ _ (c.choose-left.ensures.largest a.0 s) c.smaller-size.ensures
          c.if-size-least.false o c.cut_of-first.result c.cut_of-second.result c.cut_of-first.ensures.cut
          c.cut_of-second.ensures.cut (c.if-not-are_clear.ensures a.0 s (first_new _ _ _ _ _ a.0 _ a.1 e _
          c.spoken_of-spoken.ensures.segment c.spoken_of-spoken.ensures.rest _ _ _ k effect c.args.least c.args.most _ _
          (c.choose-left.ensures.largest a.0 s) c.smaller-size.ensures c.if-size-least.false o c.cut_of-first.result
          c.cut_of-second.result c.cut_of-first.ensures.cut c.cut_of-second.ensures.cut)
          (second_new _ _ _ _ _ a.0 _ a.1 e _ c.spoken_of-spoken.ensures.segment c.spoken_of-spoken.ensures.rest _ _ _ k
          effect c.args.least c.args.most _ _ (c.choose-left.ensures.largest a.0 s) c.smaller-size.ensures
          c.if-size-least.false o c.cut_of-first.result c.cut_of-second.result c.cut_of-first.ensures.cut
          c.cut_of-second.ensures.cut));
    }
