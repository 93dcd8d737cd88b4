use Rattle.std.proofs.Common.{◌≡◌, true, inr, refl, sym, ◌∙◌}
use Rattle.dm_blocks.specs.Chain.{first_header}
use Rattle.dm_blocks.specs.Reading.{IsSpelledFrom}
use Rattle.dm_blocks.specs.Chain.{is_parted}
use Rattle.dm_arena.proofs.Parting.{both_released, second_there}
use Rattle.dm_arena.proofs.owned.free_all.Goals as goal

pub release-requires-3 : goal.release-requires-3
release-requires-3 c =
    let h = c.if-not-has_second.ensures in
    (h.1, second_there _ c.args.owner h.0 h.1 h.2 h.3 _ (c.release-2.ensures.memory h.0 h.2))

pub returns-clause-memory : goal.returns-clause-memory
returns-clause-memory c =
    let h = c.if-not-has_second.ensures in
    let s : IsSpelledFrom c.args.space.now.memory first_header h.0 = record { nonempty = h.2.0.0; spells = h.2.0.1 } in
    let x = c.release-2.ensures.memory h.0 h.2 in
    let parted : is_parted c.args.upper h.0 ≡ true = rw (
      c.if-not-upper.false,
      sym (c.if-is_linked.ensures h.0 s),
    ) refl in
    inr (both_released _ c.args.owner h.0 h.1 h.2 h.3 _ x _ (c.release-3.ensures.memory h.1
    (second_there _ c.args.owner h.0 h.1 h.2 h.3 _ x)) c.args.upper parted)
