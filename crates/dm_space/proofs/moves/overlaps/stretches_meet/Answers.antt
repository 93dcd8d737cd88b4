use Rattle.std.proofs.Common.{sym, refl}
use Rattle.dm_space.proofs.moves.Meets.{never, other_page}
use Rattle.dm_space.proofs.moves.overlaps.stretches_meet.Goals as goal

pub returns-in-Page-q : goal.returns-in-Page-q
returns-in-Page-q c = never _ _ _ _ c.args.n c.args.l c.in-Low.is c.in-Page-q.is (λ i j. refl)

pub returns-in-Rom-q : goal.returns-in-Rom-q
returns-in-Rom-q c = never _ _ _ _ c.args.n c.args.l c.in-Low.is c.in-Rom-q.is (λ i j. refl)

pub returns-in-Nothing-q : goal.returns-in-Nothing-q
returns-in-Nothing-q c = never _ _ _ _ c.args.n c.args.l c.in-Low.is c.in-Nothing-q.is (λ i j. refl)

pub returns-in-Low-q-2 : goal.returns-in-Low-q-2
returns-in-Low-q-2 c = never _ _ _ _ c.args.n c.args.l c.in-Page.is c.in-Low-q-2.is (λ i j. refl)

pub returns-in-Rom-q-2 : goal.returns-in-Rom-q-2
returns-in-Rom-q-2 c = never _ _ _ _ c.args.n c.args.l c.in-Page.is c.in-Rom-q-2.is (λ i j. refl)

pub returns-in-Nothing-q-2 : goal.returns-in-Nothing-q-2
returns-in-Nothing-q-2 c = never _ _ _ _ c.args.n c.args.l c.in-Page.is c.in-Nothing-q-2.is (λ i j. refl)

pub returns-in-Low-q-3 : goal.returns-in-Low-q-3
returns-in-Low-q-3 c = never _ _ _ _ c.args.n c.args.l c.in-Rom.is c.in-Low-q-3.is (λ i j. refl)

pub returns-in-Page-q-3 : goal.returns-in-Page-q-3
returns-in-Page-q-3 c = never _ _ _ _ c.args.n c.args.l c.in-Rom.is c.in-Page-q-3.is (λ i j. refl)

pub returns-in-Nothing-q-3 : goal.returns-in-Nothing-q-3
returns-in-Nothing-q-3 c = never _ _ _ _ c.args.n c.args.l c.in-Rom.is c.in-Nothing-q-3.is (λ i j. refl)

pub returns-in-Nothing : goal.returns-in-Nothing
returns-in-Nothing c = never _ _ _ _ c.args.n c.args.l c.in-Nothing.is refl (λ i j. refl)

pub returns-else-eq : goal.returns-else-eq
returns-else-eq c = never _ _ _ _ c.args.n c.args.l c.in-Page.is c.in-Page-q-2.is
    (other_page c.in-Page.page c.in-Page.a c.in-Page-q-2.other c.in-Page-q-2.b (sym c.if-eq.ensures))
