use Rattle.std.proofs.Common.{◌≡◌}
use Rattle.dm_views.specs.Digits.{in_turn}
use Rattle.dm_target.specs.Registers.{register_bytes}
use Rattle.dm_target.proofs.registers.all_registers.Given as goal

abbrev pub invariant-loop-number : goal.invariant-loop-number
invariant-loop-number l = l.bytes.items ≡ in_turn (register_bytes l.machine) l.number
