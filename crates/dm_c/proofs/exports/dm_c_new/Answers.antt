use Rattle.std.proofs.Common.{refl, sym, ◌∙◌}
use Rattle.dm_host.specs.declared.refusal.Refusal.TheVariants.{Memory}
use Rattle.dm_c.specs.Handles.{in_use, refused}
use Rattle.dm_c.proofs.Insides.{of_some}
use Rattle.dm_c.proofs.Taken.{none_held}
use Rattle.dm_c.proofs.exports.dm_c_new.Goals as goal

pub returns-then-is_held : goal.returns-then-is_held
returns-then-is_held c = let there = of_some c.args.machine.now.inside.value (sym c.is_held.ensures
    ∙ c.if-is_held.true) in in_use there.0 there.1 there.1 refl

pub returns-in-Err : goal.returns-in-Err
returns-in-Err c = let none = none_held c.args.machine.now.inside.value c.is_held.result c.is_held.ensures
    c.if-is_held.false in
    refused c.in-Err.refusal none none c.status_of.ensures c.in-Err.ensures.err

pub returns : goal.returns
returns c = let none = none_held c.args.machine.now.inside.value c.is_held.result c.is_held.ensures
    c.if-is_held.false in
    refused Memory none none refl c.in-Ok.ensures.fits
