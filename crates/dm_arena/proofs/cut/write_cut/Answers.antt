use Rattle.dm_arena.proofs.Replace.{replaced_one, replaced_two}
use Rattle.dm_arena.proofs.cut.write_cut.Goals as goal

pub returns-in-None-clause-memory : goal.returns-in-None-clause-memory
returns-in-None-clause-memory c = λ s P B Q h t r. rw c.in-None.is (replaced_one _ _ s P B Q h t _ _
    (rw c.in-None.is at r) c.write_header.ensures.memory)

pub returns-in-Some-clause-memory : goal.returns-in-Some-clause-memory
returns-in-Some-clause-memory c = λ s P B Q h t r. rw c.in-Some.is (replaced_two _ _ _ s P B Q h t _ _ _
    (rw c.in-Some.is at r) c.write_header-in-Some.ensures.memory c.write_header-in-Some-2.ensures.memory)
