use Rattle.std.proofs.Common.{[], ◌∙◌}
use Rattle.dm_views.proofs.NumberedTexts.{numbered_none, numbered_more}
use Rattle.dm_target.specs.Registers.{register_bytes}
use Rattle.dm_target.proofs.registers.all_registers.Goals as goal

pub loop-number-init : goal.loop-number-init
loop-number-init c = c.new-bytes.ensures.items ∙ numbered_none [] (register_bytes c.args.machine.now)

pub loop-number-preserved : goal.loop-number-preserved
loop-number-preserved c = numbered_more [] c.loop-number.bytes.items _ (register_bytes c.args.machine.now)
    c.loop-number.number c.loop-number.invariant c.in_ok-put_register.ensures
