-- Each instruction of the table does the same in two memories of one map that show the same bytes where it reads.
use Rattle.std.proofs.Common.{ℕ, ◌<◌, false, None, refl}
use Rattle.std.specs.Prelude.{All}
use Rattle.dm_space.specs.Memory.{Memory}
use Rattle.dm_ins.specs.declared.action.Mnemonic.{Mnemonic}
use Rattle.dm_ins.specs.declared.action.Mnemonic.TheVariants as op
use Rattle.dm_ins.specs.declared.operand.Operand.{Operand}
use Rattle.dm_ins.specs.declared.operand.SegmentRegister.TheVariants.{Es, Ds}
use Rattle.dm_ins.specs.declared.prefix.Prefixes.{Prefixes}
use Rattle.dm_alu.specs.declared.width.Width.TheVariants.{Byte, Word}
use Rattle.dm_alu.specs.declared.products.Sign.TheVariants.{Unsigned, Signed}
use Rattle.dm_alu.specs.declared.bitwise.LogicOperation.TheVariants as bits
use Rattle.dm_alu.specs.declared.shifts.ShiftOperation.TheVariants as shift
use Rattle.dm_cpu.specs.declared.cpu.Cpu.{Cpu}
use Rattle.dm_cpu.specs.Guest.{guest}
use Rattle.dm_operations.specs.Stack.{stack_effect, interrupt_effect}
use Rattle.dm_operations.specs.Arithmetic.{arithmetic}
use Rattle.dm_exec.specs.declared.operation.StringOperation.TheVariants as string
use Rattle.dm_exec.specs.Operation.{operation_of}
use Rattle.dm_exec.specs.Moves.{move_effect}
use Rattle.dm_exec.specs.Jumps.{jumped_if, looped, transferred}
use Rattle.dm_exec.specs.Effect.{operation_effect}
use Rattle.dm_touches.specs.Elements.{bytes_of, one_element}
use Rattle.dm_touches.specs.Access.{access_of}
use Rattle.dm_touches.specs.Touches.{element_of, reads_by, writes_by}
use Rattle.dm_laws.specs.footprints.Footprints.{HasMapOf}
use Rattle.dm_laws.proofs.footprints.Values.{Same, in_first}
use Rattle.dm_laws.proofs.footprints.Stores.{Done, done_registers}
use Rattle.dm_laws.proofs.footprints.Targets.{HasTarget}
use Rattle.dm_laws.proofs.footprints.Data.{done_move, done_address, done_input, done_exchange, done_pointer, same_translated, done_sum, done_difference, done_logic, done_comparison, done_test, done_increment, done_decrement, done_negation, done_complement, done_shift, done_product}
use Rattle.dm_laws.proofs.footprints.Control.{reads_none, done_vector, done_numbered, done_overflow, done_quotient, done_pushed, done_flags_pushed, done_popped, done_flags_popped, done_interrupt_return, done_jump, done_jump_where, done_far_jump, done_call, done_far_call, done_return, done_far_return}
use Rattle.dm_laws.proofs.footprints.Strings.{done_string}

-- what is needed for an instruction of this mnemonic with these operands
pub record IsMet (c : Cpu) (m n : Memory) (p : Prefixes) (k : Mnemonic) (a b : Operand) : Type 0 where
  pub word : c.sp < 65536
  pub map : HasMapOf m n
  pub target : HasTarget k a
  pub bytes : All (Same m n) (bytes_of (reads_by (guest c m) p (access_of k) a b))

module _ (c : Cpu) (m n : Memory) (p : Prefixes) (start : ℕ) where
  pub operation_effect_done : (k : Mnemonic) (a b : Operand) → IsMet c m n p k a b →
      Done m n (operation_effect (guest c m) p start (operation_of k) a b) (operation_effect (guest c n) p start
      (operation_of k) a b) (bytes_of (writes_by (guest c m) p (access_of k) a b))
  unfolding operation_of access_of reads_by writes_by move_effect stack_effect interrupt_effect arithmetic jumped_if
      looped transferred
  -- moves
  operation_effect_done op.Mov a b h = done_move c m n p.segment a b h.bytes
  operation_effect_done op.Lea a b h = done_address c m n p.segment a b
  operation_effect_done op.Input a b h = done_input c m n p.segment a
  operation_effect_done op.Xchg a b h = done_exchange c m n p.segment a b h.bytes
  operation_effect_done op.Les a b h = done_pointer c m n p.segment Es a b h.bytes
  operation_effect_done op.Lds a b h = done_pointer c m n p.segment Ds a b h.bytes
  operation_effect_done op.Xlat a b h = done_registers m n _ _ (same_translated c m n p.segment h.bytes)
  -- the stack
  operation_effect_done op.Push a b h = done_pushed c m n p.segment a h.bytes
  operation_effect_done op.Pop a b h = done_popped c m n p.segment a h.word h.bytes
  operation_effect_done op.Pushf a b h = done_flags_pushed c m n p.segment
  operation_effect_done op.Popf a b h = done_flags_popped c m n p.segment h.word h.bytes
  -- arithmetic and logic
  operation_effect_done op.Add a b h = done_sum c m n p.segment false a b h.bytes
  operation_effect_done op.Adc a b h = done_sum c m n p.segment c.flags.carry a b h.bytes
  operation_effect_done op.Sub a b h = done_difference c m n p.segment false a b h.bytes
  operation_effect_done op.Sbb a b h = done_difference c m n p.segment c.flags.carry a b h.bytes
  operation_effect_done op.And a b h = done_logic c m n p.segment bits.And a b h.bytes
  operation_effect_done op.Or a b h = done_logic c m n p.segment bits.Or a b h.bytes
  operation_effect_done op.Xor a b h = done_logic c m n p.segment bits.Xor a b h.bytes
  operation_effect_done op.Cmp a b h = done_comparison c m n p.segment a b h.bytes
  operation_effect_done op.Test a b h = done_test c m n p.segment a b h.bytes
  operation_effect_done op.Inc a b h = done_increment c m n p.segment a b h.bytes
  operation_effect_done op.Dec a b h = done_decrement c m n p.segment a b h.bytes
  operation_effect_done op.Neg a b h = done_negation c m n p.segment a b h.bytes
  operation_effect_done op.Not a b h = done_complement c m n p.segment a b h.bytes
  -- shifts and rotates
  operation_effect_done op.Rol a b h = done_shift c m n p.segment shift.RotateLeft a b h.bytes
  operation_effect_done op.Ror a b h = done_shift c m n p.segment shift.RotateRight a b h.bytes
  operation_effect_done op.Rcl a b h = done_shift c m n p.segment shift.RotateThroughCarryLeft a b h.bytes
  operation_effect_done op.Rcr a b h = done_shift c m n p.segment shift.RotateThroughCarryRight a b h.bytes
  operation_effect_done op.Shl a b h = done_shift c m n p.segment shift.Left a b h.bytes
  operation_effect_done op.Shr a b h = done_shift c m n p.segment shift.LogicalRight a b h.bytes
  operation_effect_done op.Sar a b h = done_shift c m n p.segment shift.ArithmeticRight a b h.bytes
  -- products and quotients
  operation_effect_done op.Mul a b h = done_product c m n p.segment Unsigned a h.bytes
  operation_effect_done op.Imul a b h = done_product c m n p.segment Signed a h.bytes
  operation_effect_done op.Div a b h = done_quotient c m n p.segment Unsigned a h.map h.bytes
  operation_effect_done op.Idiv a b h = done_quotient c m n p.segment Signed a h.map h.bytes
  -- jumps
  operation_effect_done op.Jo a b h = done_jump_where c m n p.segment _ a h.target
  operation_effect_done op.Jno a b h = done_jump_where c m n p.segment _ a h.target
  operation_effect_done op.Jb a b h = done_jump_where c m n p.segment _ a h.target
  operation_effect_done op.Jae a b h = done_jump_where c m n p.segment _ a h.target
  operation_effect_done op.Jz a b h = done_jump_where c m n p.segment _ a h.target
  operation_effect_done op.Jnz a b h = done_jump_where c m n p.segment _ a h.target
  operation_effect_done op.Jbe a b h = done_jump_where c m n p.segment _ a h.target
  operation_effect_done op.Ja a b h = done_jump_where c m n p.segment _ a h.target
  operation_effect_done op.Js a b h = done_jump_where c m n p.segment _ a h.target
  operation_effect_done op.Jns a b h = done_jump_where c m n p.segment _ a h.target
  operation_effect_done op.Jp a b h = done_jump_where c m n p.segment _ a h.target
  operation_effect_done op.Jnp a b h = done_jump_where c m n p.segment _ a h.target
  operation_effect_done op.Jl a b h = done_jump_where c m n p.segment _ a h.target
  operation_effect_done op.Jge a b h = done_jump_where c m n p.segment _ a h.target
  operation_effect_done op.Jle a b h = done_jump_where c m n p.segment _ a h.target
  operation_effect_done op.Jg a b h = done_jump_where c m n p.segment _ a h.target
  operation_effect_done op.Loop a b h = done_jump_where _ m n p.segment _ a h.target
  operation_effect_done op.Loope a b h = done_jump_where _ m n p.segment _ a h.target
  operation_effect_done op.Loopne a b h = done_jump_where _ m n p.segment _ a h.target
  operation_effect_done op.Jcxz a b h = done_jump_where _ m n p.segment _ a h.target
  -- transfers
  operation_effect_done op.Jmp a b h = done_jump c m n p.segment a (in_first (Same m n)
      (one_element (element_of c p.segment a)) h.bytes)
  operation_effect_done op.JmpShort a b h = done_jump c m n p.segment a (reads_none c m n p.segment a h.target)
  operation_effect_done op.JmpFar a b h = done_far_jump c m n p.segment a h.bytes
  operation_effect_done op.Call a b h = done_call c m n p.segment a h.bytes
  operation_effect_done op.CallFar a b h = done_far_call c m n p.segment a h.bytes
  operation_effect_done op.Ret a b h = done_return c m n p.segment a h.word h.target h.bytes
  operation_effect_done op.Retf a b h = done_far_return c m n p.segment a h.word h.target h.bytes
  -- interrupts
  operation_effect_done op.Int a b h = done_numbered c m n p.segment a h.map h.bytes
  operation_effect_done op.Int3 a b h = done_vector c m n None 3 h.map h.bytes
  operation_effect_done op.Into a b h = done_overflow c.flags.overflow c m n h.map h.bytes
  operation_effect_done op.Iret a b h = done_interrupt_return c m n p.segment h.word h.bytes
  -- strings
  operation_effect_done op.Movsb a b h = done_string Byte c m n p.segment p.repeat string.Move start h.bytes
  operation_effect_done op.Movsw a b h = done_string Word c m n p.segment p.repeat string.Move start h.bytes
  operation_effect_done op.Cmpsb a b h = done_string Byte c m n p.segment p.repeat string.Compare start h.bytes
  operation_effect_done op.Cmpsw a b h = done_string Word c m n p.segment p.repeat string.Compare start h.bytes
  operation_effect_done op.Stosb a b h = done_string Byte c m n p.segment p.repeat string.Store start h.bytes
  operation_effect_done op.Stosw a b h = done_string Word c m n p.segment p.repeat string.Store start h.bytes
  operation_effect_done op.Lodsb a b h = done_string Byte c m n p.segment p.repeat string.Load start h.bytes
  operation_effect_done op.Lodsw a b h = done_string Word c m n p.segment p.repeat string.Load start h.bytes
  operation_effect_done op.Scasb a b h = done_string Byte c m n p.segment p.repeat string.Scan start h.bytes
  operation_effect_done op.Scasw a b h = done_string Word c m n p.segment p.repeat string.Scan start h.bytes
  -- no memory, and operands are registers
  operation_effect_done _ a b h = done_registers m n _ _ refl
