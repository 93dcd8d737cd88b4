use Rattle.dm_target.proofs.LastHits.{told_hit, told_arrived, told_stopped}
use Rattle.dm_target.proofs.returning.told.Goals as goal

pub returns-in-Hit : goal.returns-in-Hit
returns-in-Hit c = λ points met. told_hit points _ _ _ _ _ _ c.in-Hit.is c.go_on.ensures.goes

pub returns-in-Arrived : goal.returns-in-Arrived
returns-in-Arrived c = λ points met. told_arrived points _ _ _ _ _ c.in-Arrived.is c.go_on.ensures.goes met

pub returns-in_default : goal.returns-in_default
returns-in_default c = λ points met. told_stopped points _ _ _ _ _ _ c.in-Stopped.is c.in_default.not-Memory
    c.go_on.ensures.goes met
