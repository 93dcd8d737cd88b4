use Rattle.dm_checker.proofs.Acting.{called_next, decoded_next}
use Rattle.dm_checker.proofs.acts.Before.instruction.Goals as goal

pub returns-in-Some : goal.returns-in-Some
returns-in-Some c = called_next c.args.self.now c.in-Some._call c.in-Some.is

pub returns : goal.returns
returns c = decoded_next c.args.self.now c.decode.result c.in_default.is c.decode.ensures
