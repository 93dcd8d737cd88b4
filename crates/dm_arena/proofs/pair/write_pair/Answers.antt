use Rattle.std.proofs.Common.{ap}
use Rattle.dm_arena.proofs.Pairs.{first_replaceable, second_replaceable, pair_becomes}
use Rattle.dm_arena.proofs.pair.write_pair.Goals as goal

pub returns-clause-memory : goal.returns-clause-memory
returns-clause-memory c = λ p.
    (let q = p.planned in
    let f = ap (λ v. v.first) c.pair.view_is in
    let s = ap (λ v. v.second) c.pair.view_is in
    let j = c.join_all.ensures.memory q.pairing.first.list q.pairing.first.arena in
    let r = c.write_cut.ensures.memory _ _ _ _ _ _ (first_replaceable _ _ _ _ _ _ _ _ q _ _ f s _ j _
    c.is_last-last.ensures) in
    pair_becomes _ _ _ _ _ _ _ _ q _ _ f s _ j _ r _ (c.write_cut-2.ensures.memory _ _ _ _ _ _
    (second_replaceable _ _ _ _ _ _ _ _ q _ _ f s _ j _ r _ c.is_last-last-2.ensures)))
