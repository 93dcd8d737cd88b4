use Rattle.std.proofs.Common.{refl}
use Rattle.dm_checker.proofs.Acting.{call_acts, instruction_acts, nothing_acts}
use Rattle.dm_checker.proofs.acts.Before.act.Goals as goal

pub returns-in-Some : goal.returns-in-Some
returns-in-Some c = call_acts c.args.self.now c.in-Some.call c.in-Some.is

pub returns-in-Some-decode : goal.returns-in-Some-decode
returns-in-Some-decode c = instruction_acts c.args.self.now c.decode.result c.in-Some-decode.ins c.in-Some-decode.len _
    c.in_default.is c.decode.ensures c.in-Some-decode.is refl

pub returns-in-None : goal.returns-in-None
returns-in-None c = nothing_acts c.args.self.now c.decode.result c.in_default.is c.decode.ensures c.in-None.is
