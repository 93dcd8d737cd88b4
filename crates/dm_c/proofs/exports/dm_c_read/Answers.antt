use Rattle.dm_c.specs.Endings.{called}
use Rattle.dm_c.proofs.Taken.{taken}
use Rattle.dm_c.proofs.exports.dm_c_read.Goals as goal

pub returns : goal.returns
returns c = called c.in-Some.host.value c.in-Some.host.value (taken (λ b. b.value) c.take.result c.in-Some.host _
    c.take.ensures.machine c.in-Some.is) c.put.ensures (rw c.deref.ensures at c.read-status.ensures)
