-- A byte that an instruction changes is among those that it writes.
use Rattle.std.proofs.Common.{◌≡◌, ℕ, ◌==◌, not, Bool, true, false, cond, List, [], Option, Some, None, refl}
use Rattle.std.specs.Prelude.{if◌then◌else◌}
use Rattle.dm_space.specs.Memory.{Memory}
use Rattle.dm_alu.specs.declared.width.Width.{Width}
use Rattle.dm_alu.specs.declared.products.Division.{Division}
use Rattle.dm_ins.specs.declared.operand.Operand.{Operand}
use Rattle.dm_ins.specs.declared.operand.SegmentRegister.{SegmentRegister}
use Rattle.dm_ins.specs.declared.action.Mnemonic.{Mnemonic}
use Rattle.dm_ins.specs.declared.action.Mnemonic.TheVariants as op
use Rattle.dm_ins.specs.declared.prefix.Repeat.{Repeat}
use Rattle.dm_ins.specs.declared.prefix.Prefixes.{Prefixes}
use Rattle.dm_cpu.specs.declared.cpu.Cpu.{Cpu}
use Rattle.dm_cpu.specs.Guest.{Guest, at_ip, up, on_cpu}
use Rattle.dm_cpu.specs.Stack.{push, interrupt_return, far_returned}
use Rattle.dm_operations.specs.Stack.{interrupt, popped_into, flags_popped, stack_effect, interrupt_effect}
use Rattle.dm_operations.specs.Arithmetic.{sum_into, difference_into, compared, logic_into, tested, incremented, decremented, negated, complemented, arithmetic}
use Rattle.dm_operations.specs.Shifts.{shifted}
use Rattle.dm_operations.specs.Products.{multiplied, after_division, divided}
use Rattle.dm_exec.specs.Operation.{operation_of}
use Rattle.dm_exec.specs.declared.operation.StringOperation.{StringOperation}
use Rattle.dm_exec.specs.declared.operation.StringOperation.TheVariants as string
use Rattle.dm_exec.specs.Moves.{moved, exchanged, pointer_loaded, port_input, move_effect}
use Rattle.dm_exec.specs.Jumps.{jumped, jumped_where, jumped_if, looped, far_jumped, called, far_called, returned, transferred}
use Rattle.dm_exec.specs.Strings.{once, string_effect}
use Rattle.dm_exec.specs.Effect.{operation_effect, effect}
use Rattle.dm_touches.specs.declared.elements.FarAddress.{FarAddress}
use Rattle.dm_touches.specs.declared.elements.Elements.{Elements}
use Rattle.dm_touches.specs.Elements.{bytes_of, nothing}
use Rattle.dm_touches.specs.Access.{access_of}
use Rattle.dm_touches.specs.Touches.{pushed, pushed_second, pushed_by_interrupt, destination, does_work, writes_dividing, writes_of_string, writes_by, writes}
use Rattle.dm_touches.specs.Laws.{KeepsOthers, WritesAreListed}
use Rattle.dm_touches.proofs.Places.{keeps_all, keeps_one, keeps_two}
use Rattle.dm_touches.proofs.Operands.{Addresses, keeps_operand, keeps_operands, keeps_push, keeps_pushes, keeps_interrupt, keeps_written}

-- ---- choices

choice_keeps : (m : Memory) (b : Bool) (g h : Guest) (fs : List FarAddress) → KeepsOthers m g.memory fs →
    KeepsOthers m h.memory fs → KeepsOthers m (cond b g h).memory fs
choice_keeps m true g h fs p q = p
choice_keeps m false g h fs p q = q

jump_keeps : (taken : Bool) (g : Guest) (override : Option SegmentRegister) (a : Operand) →
    KeepsOthers g.memory (jumped_where taken g override a).memory []
unfolding jumped_where jumped
jump_keeps taken g override a = choice_keeps g.memory taken _ g [] (keeps_all g.memory) (keeps_all g.memory)

into_keeps : (b : Bool) (g : Guest) → KeepsOthers g.memory (if b then interrupt g 4 else
    g).memory (bytes_of (if b then pushed_by_interrupt g.cpu else nothing))
into_keeps true g = keeps_interrupt g 4
into_keeps false g = keeps_all g.memory

division_keeps : (w : Width) (g : Guest) (o : Option Division) →
    KeepsOthers g.memory (after_division w g o).memory (bytes_of (writes_dividing g.cpu o))
unfolding after_division
division_keeps w g None = keeps_interrupt g 0
division_keeps w g (Some d) = keeps_all g.memory

-- ---- strings

once_keeps : (w : Width) (g : Guest) (override : Option SegmentRegister) (operation : StringOperation) →
    KeepsOthers g.memory (once w g override operation).memory (bytes_of (writes_of_string w g.cpu operation))
unfolding once
once_keeps w g override string.Move = keeps_one g.memory _ (destination w g.cpu)
    (keeps_written w g.memory g.cpu.es g.cpu.di _)
once_keeps w g override string.Compare = keeps_all g.memory
once_keeps w g override string.Store = keeps_one g.memory _ (destination w g.cpu)
    (keeps_written w g.memory g.cpu.es g.cpu.di _)
once_keeps w g override string.Load = keeps_all g.memory
once_keeps w g override string.Scan = keeps_all g.memory

unless_keeps : (b : Bool) (g h : Guest) (e : Elements) → KeepsOthers g.memory h.memory (bytes_of e) →
    KeepsOthers g.memory (if b then g else h).memory (bytes_of (if not b then e else nothing))
unless_keeps true g h e k = keeps_all g.memory
unless_keeps false g h e k = k

string_keeps : (w : Width) (g : Guest) (override : Option SegmentRegister) (o : Option Repeat)
    (operation : StringOperation) (start : ℕ) →
    KeepsOthers g.memory (string_effect w g override o operation start).memory (bytes_of (if does_work g.cpu o then
    writes_of_string w g.cpu operation else nothing))
unfolding string_effect
string_keeps w g override None operation start = once_keeps w g override operation
string_keeps w g override (Some repeat) operation start =
    unless_keeps (g.cpu.cx == 0) g _ _ (once_keeps w g override operation)

-- ---- each instruction

operation_effect_keeps : (g : Guest) (p : Prefixes) (start : ℕ) (m : Mnemonic) (a b : Operand) →
    KeepsOthers g.memory (operation_effect g p start (operation_of m) a b).memory
    (bytes_of (writes_by g p (access_of m) a b))
unfolding operation_of access_of writes_by move_effect moved exchanged pointer_loaded port_input stack_effect
    popped_into flags_popped arithmetic sum_into difference_into compared logic_into tested incremented decremented
    negated complemented shifted multiplied divided jumped_if looped transferred jumped far_jumped called far_called
    returned far_returned interrupt_effect interrupt_return push
operation_effect_keeps g p start op.Push a b = keeps_push g _
operation_effect_keeps g p start op.Pushf a b = keeps_push g _
operation_effect_keeps g p start op.Call a b = keeps_push g _
operation_effect_keeps g p start op.CallFar a b = keeps_two g.memory _ (pushed g.cpu) (pushed_second g.cpu)
    (keeps_pushes g _ _)
operation_effect_keeps g p start op.Int a b = keeps_interrupt g _
operation_effect_keeps g p start op.Int3 a b = keeps_interrupt g 3
operation_effect_keeps g p start op.Into a b = into_keeps g.cpu.flags.overflow g
operation_effect_keeps g p start op.Div a b = division_keeps _ g _
operation_effect_keeps g p start op.Idiv a b = division_keeps _ g _
operation_effect_keeps g p start op.Xchg a b = keeps_operands g p.segment a b _ _
operation_effect_keeps g p start op.Cmp a b = keeps_all g.memory
operation_effect_keeps g p start op.Test a b = keeps_all g.memory
operation_effect_keeps g p start op.Mul a b = keeps_all g.memory
operation_effect_keeps g p start op.Imul a b = keeps_all g.memory
operation_effect_keeps g p start op.Aaa a b = keeps_all g.memory
operation_effect_keeps g p start op.Aad a b = keeps_all g.memory
operation_effect_keeps g p start op.Aam a b = keeps_all g.memory
operation_effect_keeps g p start op.Aas a b = keeps_all g.memory
operation_effect_keeps g p start op.Daa a b = keeps_all g.memory
operation_effect_keeps g p start op.Das a b = keeps_all g.memory
operation_effect_keeps g p start op.Cbw a b = keeps_all g.memory
operation_effect_keeps g p start op.Cwd a b = keeps_all g.memory
operation_effect_keeps g p start op.Lahf a b = keeps_all g.memory
operation_effect_keeps g p start op.Sahf a b = keeps_all g.memory
operation_effect_keeps g p start op.Xlat a b = keeps_all g.memory
operation_effect_keeps g p start op.Popf a b = keeps_all g.memory
operation_effect_keeps g p start op.Jmp a b = keeps_all g.memory
operation_effect_keeps g p start op.JmpShort a b = keeps_all g.memory
operation_effect_keeps g p start op.JmpFar a b = keeps_all g.memory
operation_effect_keeps g p start op.Ret a b = keeps_all g.memory
operation_effect_keeps g p start op.Retf a b = keeps_all g.memory
operation_effect_keeps g p start op.Iret a b = keeps_all g.memory
operation_effect_keeps g p start op.Clc a b = keeps_all g.memory
operation_effect_keeps g p start op.Cld a b = keeps_all g.memory
operation_effect_keeps g p start op.Cli a b = keeps_all g.memory
operation_effect_keeps g p start op.Cmc a b = keeps_all g.memory
operation_effect_keeps g p start op.Stc a b = keeps_all g.memory
operation_effect_keeps g p start op.Std a b = keeps_all g.memory
operation_effect_keeps g p start op.Sti a b = keeps_all g.memory
operation_effect_keeps g p start op.Esc a b = keeps_all g.memory
operation_effect_keeps g p start op.Output a b = keeps_all g.memory
operation_effect_keeps g p start op.Wait a b = keeps_all g.memory
operation_effect_keeps g p start op.Hlt a b = keeps_all g.memory
operation_effect_keeps g p start op.Jo a b = jump_keeps _ g p.segment a
operation_effect_keeps g p start op.Jno a b = jump_keeps _ g p.segment a
operation_effect_keeps g p start op.Jb a b = jump_keeps _ g p.segment a
operation_effect_keeps g p start op.Jae a b = jump_keeps _ g p.segment a
operation_effect_keeps g p start op.Jz a b = jump_keeps _ g p.segment a
operation_effect_keeps g p start op.Jnz a b = jump_keeps _ g p.segment a
operation_effect_keeps g p start op.Jbe a b = jump_keeps _ g p.segment a
operation_effect_keeps g p start op.Ja a b = jump_keeps _ g p.segment a
operation_effect_keeps g p start op.Js a b = jump_keeps _ g p.segment a
operation_effect_keeps g p start op.Jns a b = jump_keeps _ g p.segment a
operation_effect_keeps g p start op.Jp a b = jump_keeps _ g p.segment a
operation_effect_keeps g p start op.Jnp a b = jump_keeps _ g p.segment a
operation_effect_keeps g p start op.Jl a b = jump_keeps _ g p.segment a
operation_effect_keeps g p start op.Jge a b = jump_keeps _ g p.segment a
operation_effect_keeps g p start op.Jle a b = jump_keeps _ g p.segment a
operation_effect_keeps g p start op.Jg a b = jump_keeps _ g p.segment a
operation_effect_keeps g p start op.Loop a b = jump_keeps _ (on_cpu g _) p.segment a
operation_effect_keeps g p start op.Loope a b = jump_keeps _ (on_cpu g _) p.segment a
operation_effect_keeps g p start op.Loopne a b = jump_keeps _ (on_cpu g _) p.segment a
operation_effect_keeps g p start op.Jcxz a b = jump_keeps _ (on_cpu g _) p.segment a
operation_effect_keeps g p start op.Movsb a b = string_keeps _ g p.segment p.repeat string.Move start
operation_effect_keeps g p start op.Movsw a b = string_keeps _ g p.segment p.repeat string.Move start
operation_effect_keeps g p start op.Cmpsb a b = string_keeps _ g p.segment p.repeat string.Compare start
operation_effect_keeps g p start op.Cmpsw a b = string_keeps _ g p.segment p.repeat string.Compare start
operation_effect_keeps g p start op.Stosb a b = string_keeps _ g p.segment p.repeat string.Store start
operation_effect_keeps g p start op.Stosw a b = string_keeps _ g p.segment p.repeat string.Store start
operation_effect_keeps g p start op.Lodsb a b = string_keeps _ g p.segment p.repeat string.Load start
operation_effect_keeps g p start op.Lodsw a b = string_keeps _ g p.segment p.repeat string.Load start
operation_effect_keeps g p start op.Scasb a b = string_keeps _ g p.segment p.repeat string.Scan start
operation_effect_keeps g p start op.Scasw a b = string_keeps _ g p.segment p.repeat string.Scan start
operation_effect_keeps g p start _ a b = keeps_operand g _ p.segment a _ (record {
  bx = refl;
  bp = refl;
  si = refl;
  di = refl;
  es = refl;
  cs = refl;
  ss = refl;
  ds = refl;
}) refl

pub writes_listed : WritesAreListed
unfolding effect writes
writes_listed g i length = operation_effect_keeps (at_ip g (up g.cpu.ip length)) i.prefixes g.cpu.ip i.action.mnemonic
    i.action.first i.action.second
