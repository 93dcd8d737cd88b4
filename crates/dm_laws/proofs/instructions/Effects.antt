-- Each instruction leaves a well-formed guest well-formed.
use Rattle.std.proofs.Common.{◌≡◌, ℕ, ◌+◌, ◌-◌, ◌*◌, ◌%◌, ◌<◌, ◌==◌, ◌||◌, Bool, true, false, if◌then◌else◌, nat_lt, Option, Some, None, refl, arith}
use Rattle.dm_alu.specs.declared.flags.Flags.{Flags}
use Rattle.dm_alu.specs.declared.width.Width.{Width}
use Rattle.dm_alu.specs.declared.width.Width.TheVariants.{Byte, Word}
use Rattle.dm_alu.specs.declared.products.Division.{Division}
use Rattle.dm_alu.specs.declared.products.Sign.{Sign}
use Rattle.dm_alu.specs.declared.shifts.ShiftOperation.{ShiftOperation}
use Rattle.dm_alu.specs.Flags.{flags_of, flags_word}
use Rattle.dm_alu.specs.Products.{product_value}
use Rattle.dm_alu.specs.Width.{is_negative, size}
use Rattle.dm_ins.specs.Spelling.{sign_extended}
use Rattle.dm_ins.specs.declared.ins.Ins.{Ins}
use Rattle.dm_ins.specs.declared.operand.ByteRegister.TheVariants.{Ah, Al}
use Rattle.dm_ins.specs.declared.operand.WordRegister.TheVariants.{Ax, Cx, Dx, Bx, Sp, Bp, Si, Di}
use Rattle.dm_ins.specs.declared.operand.Operand.{Operand}
use Rattle.dm_ins.specs.declared.operand.Operand.TheVariants as operand
use Rattle.dm_ins.specs.declared.operand.SegmentRegister.{SegmentRegister}
use Rattle.dm_ins.specs.declared.prefix.Repeat.{Repeat}
use Rattle.dm_ins.specs.declared.prefix.Prefixes.{Prefixes}
use Rattle.dm_exec.specs.declared.operation.Operation.{Operation}
use Rattle.dm_exec.specs.declared.operation.Operation.TheVariants as is
use Rattle.dm_exec.specs.declared.operation.MoveOperation.{MoveOperation}
use Rattle.dm_exec.specs.declared.operation.MoveOperation.TheVariants as moves
use Rattle.dm_operations.specs.declared.stack.StackOperation.{StackOperation}
use Rattle.dm_operations.specs.declared.stack.StackOperation.TheVariants.{Push, Pop, PushFlags, PopFlags}
use Rattle.dm_operations.specs.declared.arithmetic.ArithmeticOperation.{ArithmeticOperation}
use Rattle.dm_operations.specs.declared.arithmetic.ArithmeticOperation.TheVariants.{Add, AddWithCarry, Subtract, SubtractWithBorrow, Compare, Logic, Test, Increment, Decrement, Negate, Complement}
use Rattle.dm_exec.specs.declared.operation.Condition.{Condition}
use Rattle.dm_exec.specs.declared.operation.LoopOperation.{LoopOperation}
use Rattle.dm_exec.specs.declared.operation.LoopOperation.TheVariants.{Always, WhileEqual, WhileNotEqual, CountIsZero}
use Rattle.dm_exec.specs.declared.operation.TransferOperation.{TransferOperation}
use Rattle.dm_exec.specs.declared.operation.TransferOperation.TheVariants as transfer
use Rattle.dm_operations.specs.declared.stack.InterruptOperation.{InterruptOperation}
use Rattle.dm_operations.specs.declared.stack.InterruptOperation.TheVariants as interrupts
use Rattle.dm_exec.specs.declared.operation.StringOperation.{StringOperation}
use Rattle.dm_exec.specs.declared.operation.StringOperation.TheVariants as string
use Rattle.dm_cpu.specs.declared.cpu.Cpu.{Cpu}
use Rattle.dm_cpu.specs.Cpu.{byte_of}
use Rattle.dm_cpu.specs.Guest.{Guest, at_ip, down, up, on_cpu, with_flags}
use Rattle.dm_cpu.specs.Operands.{with_result}
use Rattle.dm_cpu.specs.Values.{accumulator, value_in, width_of}
use Rattle.dm_exec.specs.Operation.{operation_of}
use Rattle.dm_cpu.specs.Stack.{push, popped, top, interrupt_return, far_returned}
use Rattle.dm_operations.specs.Stack.{through_vector, interrupt, popped_into, flags_popped, pushed_value, stack_effect, interrupt_effect}
use Rattle.dm_exec.specs.Moves.{moved, exchanged, pointer_loaded, translated, byte_extended, word_extended, flags_loaded, flags_stored, port_input, move_effect}
use Rattle.dm_operations.specs.Arithmetic.{sum_into, difference_into, compared, logic_into, tested, incremented, decremented, negated, complemented, arithmetic}
use Rattle.dm_operations.specs.Shifts.{shifted}
use Rattle.dm_operations.specs.Products.{multiplied, after_division, divided, with_division, with_double}
use Rattle.dm_operations.specs.Adjustments.{adjusted}
use Rattle.dm_exec.specs.Jumps.{jumped, jumped_where, jumped_if, counted_down, looped, far_jumped, called, far_called, returned, target_of, transferred}
use Rattle.dm_exec.specs.Strings.{counted, destination_advanced, ends, once, onward, source, source_advanced, string_effect, with_comparison}
use Rattle.dm_exec.specs.Effect.{operation_effect, effect}
use Rattle.dm_laws.specs.instructions.WellFormed.{HasWords, IsWellFormed}
use Rattle.dm_laws.proofs.instructions.Values.{adjusted-below, complement-below, difference-below, flags-below, logic-below, product-below, quotient-below, shift-below, size-word, sum-below}
use Rattle.dm_laws.proofs.instructions.Operands.{AreValues, accumulated, accumulator-below, address-below, byte-below, far_segment-below, peek-below, peek16-below, poke16-below, read-below, stored, value-below, value_in-below, with_byte-words, with_segment-words, written-bytes}

pub extended-below : (n : ℕ) → n < 256 → sign_extended n < 65536
extended-below n h = choose (nat_lt n 0x80)
  where
    choose : (b : Bool) → (if b then n else n + 0xFF00) < 65536
    choose true = omega arith
    choose false = omega arith

ones-below : (w : Width) → size w - 1 < 65536
ones-below Byte = omega arith
ones-below Word = omega arith

choice : (b : Bool) (g h : Guest) → IsWellFormed g → IsWellFormed h → IsWellFormed (if b then g else h)
choice true g h p q = p
choice false g h p q = q

choice-below : (b : Bool) (x y : ℕ) → x < 65536 → y < 65536 → (if b then x else y) < 65536
choice-below true x y h k = h
choice-below false x y h k = k

flagged : (g : Guest) (f : Flags) → IsWellFormed g → IsWellFormed (with_flags g f)
flagged g f w = record { registers = (let r = w.registers in omega arith); memory = w.memory }

pub at : (g : Guest) (ip : ℕ) → ip < 65536 → IsWellFormed g → IsWellFormed (at_ip g ip)
at g ip h w = record { registers = (let r = w.registers in omega arith); memory = w.memory }

result : (g : Guest) (override : Option SegmentRegister) (o : Operand) (v : ℕ) (f : Flags) → v < 65536 →
    IsWellFormed g → IsWellFormed (with_result g override o v f)
result g override o v f h w = stored (with_flags g f) override o v h (flagged g f w)

-- ---- the stack

pushed : (g : Guest) (v : ℕ) → v < 65536 → IsWellFormed g → IsWellFormed (push g v)
unfolding push
pushed g v h w = record {
  registers = (let r = w.registers in omega arith);
  memory = poke16-below g.memory _ _ v h w.memory;
}

top-below : (g : Guest) → IsWellFormed g → top g < 65536
top-below g w = peek16-below g.memory _ _ w.memory

off : (g : Guest) → IsWellFormed g → IsWellFormed (popped g)
off g w = record { registers = (let r = w.registers in omega arith); memory = w.memory }

through : (g : Guest) (n : ℕ) → IsWellFormed g → IsWellFormed (through_vector g n)
unfolding through_vector
through g n w =
    let i = peek16-below g.memory 0 (4 * n) w.memory in
    let c = peek16-below g.memory 0 (4 * n + 2) w.memory in
    record { registers = (let r = w.registers in omega arith); memory = w.memory }

interrupted : (g : Guest) (n : ℕ) → IsWellFormed g → IsWellFormed (interrupt g n)
unfolding interrupt
interrupted g n w =
    let one = pushed g (flags_word g.cpu.flags) (flags-below g.cpu.flags) w in
    let two = pushed (push g (flags_word g.cpu.flags)) g.cpu.cs w.registers.cs one in
    through _ n (pushed (push (push g (flags_word g.cpu.flags)) g.cpu.cs) g.cpu.ip w.registers.ip two)

come_back : (g : Guest) → IsWellFormed g → IsWellFormed (interrupt_return g)
unfolding interrupt_return
come_back g w =
    let i = top-below g w in
    let c = top-below (popped g) (off g w) in
    record { registers = (let r = w.registers in omega arith); memory = w.memory }

popped_in : (g : Guest) (override : Option SegmentRegister) (o : Operand) → IsWellFormed g →
    IsWellFormed (popped_into g override o)
unfolding popped_into
popped_in g override o w = stored (popped g) override o (top g) (top-below g w) (off g w)

flags_back : (g : Guest) → IsWellFormed g → IsWellFormed (flags_popped g)
unfolding flags_popped
flags_back g w = flagged (popped g) (flags_of (top g)) (off g w)

pub pushed_value-below : (g : Guest) (override : Option SegmentRegister) (o : Operand) → IsWellFormed g → AreValues o →
    pushed_value g override o < 65536
unfolding pushed_value
pushed_value-below g override (operand.WordRegister Sp) w v = omega arith
pushed_value-below g override (operand.WordRegister Ax) w v = value-below g override (operand.WordRegister Ax) w v
pushed_value-below g override (operand.WordRegister Cx) w v = value-below g override (operand.WordRegister Cx) w v
pushed_value-below g override (operand.WordRegister Dx) w v = value-below g override (operand.WordRegister Dx) w v
pushed_value-below g override (operand.WordRegister Bx) w v = value-below g override (operand.WordRegister Bx) w v
pushed_value-below g override (operand.WordRegister Bp) w v = value-below g override (operand.WordRegister Bp) w v
pushed_value-below g override (operand.WordRegister Si) w v = value-below g override (operand.WordRegister Si) w v
pushed_value-below g override (operand.WordRegister Di) w v = value-below g override (operand.WordRegister Di) w v
pushed_value-below g override operand.Nothing w v = value-below g override operand.Nothing w v
pushed_value-below g override (operand.ByteRegister r) w v = value-below g override (operand.ByteRegister r) w v
pushed_value-below g override (operand.SegmentRegister r) w v = value-below g override (operand.SegmentRegister r) w v
pushed_value-below g override (operand.Memory x a) w v = value-below g override (operand.Memory x a) w v
pushed_value-below g override (operand.ByteValue n) w v = value-below g override (operand.ByteValue n) w v
pushed_value-below g override (operand.WordValue n) w v = value-below g override (operand.WordValue n) w v
pushed_value-below g override operand.One w v = value-below g override operand.One w v
pushed_value-below g override (operand.Target n) w v = value-below g override (operand.Target n) w v
pushed_value-below g override (operand.FarTarget n s) w v = value-below g override (operand.FarTarget n s) w v

stack_kept : (g : Guest) (override : Option SegmentRegister) (x : StackOperation) (o : Operand) → IsWellFormed g →
    AreValues o → IsWellFormed (stack_effect g override x o)
unfolding stack_effect
stack_kept g override Push o w v = pushed g _ (pushed_value-below g override o w v) w
stack_kept g override Pop o w v = popped_in g override o w
stack_kept g override PushFlags o w v = pushed g _ (flags-below g.cpu.flags) w
stack_kept g override PopFlags o w v = flags_back g w

interrupt_kept : (g : Guest) (override : Option SegmentRegister) (x : InterruptOperation) (o : Operand) →
    IsWellFormed g → IsWellFormed (interrupt_effect g override x o)
unfolding interrupt_effect
interrupt_kept g override interrupts.Numbered o w = interrupted g _ w
interrupt_kept g override interrupts.Breakpoint o w = interrupted g 3 w
interrupt_kept g override interrupts.OnOverflow o w = choice g.cpu.flags.overflow (interrupt g 4) g
    (interrupted g 4 w) w
interrupt_kept g override interrupts.Return o w = come_back g w

-- ---- moves

move_kept : (g : Guest) (override : Option SegmentRegister) (x : MoveOperation) (a b : Operand) → IsWellFormed g →
    AreValues a → AreValues b → IsWellFormed (move_effect g override x a b)
unfolding move_effect moved exchanged pointer_loaded translated byte_extended word_extended flags_loaded flags_stored
    port_input
move_kept g override moves.Move a b w u v = stored g override a _ (value-below g override b w v) w
move_kept g override moves.Exchange a b w u v = stored _ override b _ (value-below g override a w u)
    (stored g override a _ (value-below g override b w v) w)
move_kept g override moves.LoadAddress a b w u v = stored g override a _ (address-below g.cpu b) w
move_kept g override (moves.LoadPointer r) a b w u v =
    let h = stored g override a _ (value-below g override b w v) w in
    record { registers = with_segment-words _ r _ (far_segment-below g override b w v) h.registers; memory = h.memory }
move_kept g override moves.Translate a b w u v =
    record { registers = with_byte-words g.cpu Al _ (peek-below g.memory _ w.memory) w.registers; memory = w.memory }
move_kept g override moves.ExtendByte a b w u v =
    let h = extended-below (byte_of g.cpu Al) (byte-below g.cpu Al w.registers) in
    record { registers = (let r = w.registers in omega arith); memory = w.memory }
move_kept g override moves.ExtendWord a b w u v =
    let h = choice-below (is_negative Word g.cpu.ax) 0xFFFF 0 (omega arith) (omega arith) in
    record { registers = (let r = w.registers in omega arith); memory = w.memory }
move_kept g override moves.LoadFlags a b w u v =
    record {
      registers = with_byte-words g.cpu Ah (flags_word g.cpu.flags % 256) (omega arith) w.registers;
      memory = w.memory;
    }
move_kept g override moves.StoreFlags a b w u v = flagged g _ w
move_kept g override moves.Input a b w u v = stored g override a _ (ones-below (width_of a)) w

-- ---- arithmetic

arithmetic_kept : (g : Guest) (override : Option SegmentRegister) (x : ArithmeticOperation) (a b : Operand) →
    IsWellFormed g → IsWellFormed (arithmetic g override x a b)
unfolding arithmetic sum_into difference_into compared logic_into tested incremented decremented negated complemented
arithmetic_kept g override Add a b w = result g override a _ _ (size-word (width_of a) _ (sum-below _ _ _ _)) w
arithmetic_kept g override AddWithCarry a b w = result g override a _ _ (size-word (width_of a) _ (sum-below _ _ _ _)) w
arithmetic_kept g override Subtract a b w =
    result g override a _ _ (size-word (width_of a) _ (difference-below _ _ _ _)) w
arithmetic_kept g override SubtractWithBorrow a b w =
    result g override a _ _ (size-word (width_of a) _ (difference-below _ _ _ _)) w
arithmetic_kept g override Compare a b w = flagged g _ w
arithmetic_kept g override (Logic x) a b w =
    result g override a _ _ (size-word (width_of a) _ (logic-below x (width_of a) _ _ (value_in-below _ g override a)
    (value_in-below _ g override b))) w
arithmetic_kept g override Test a b w = flagged g _ w
arithmetic_kept g override Increment a b w = result g override a _ _ (size-word (width_of a) _ (sum-below _ _ _ _)) w
arithmetic_kept g override Decrement a b w =
    result g override a _ _ (size-word (width_of a) _ (difference-below _ _ _ _)) w
arithmetic_kept g override Negate a b w = result g override a _ _ (size-word (width_of a) _ (difference-below _ _ _ _))
    w
arithmetic_kept g override Complement a b w =
    stored g override a _ (size-word (width_of a) _ (complement-below (width_of a) _)) w

shift_kept : (g : Guest) (override : Option SegmentRegister) (x : ShiftOperation) (a b : Operand) → IsWellFormed g →
    IsWellFormed (shifted g override x a b)
unfolding shifted
shift_kept g override x a b w = result g override a _ _ (size-word (width_of a) _ (shift-below x (width_of a) _ _ _
    (value_in-below (width_of a) g override a))) w

doubled : (w : Width) (c : Cpu) (n : ℕ) → n < size w * size w → HasWords c → HasWords (with_double w c n)
unfolding with_double
doubled Byte c n h w = omega arith
doubled Word c n h w = omega arith

product_kept : (g : Guest) (override : Option SegmentRegister) (s : Sign) (a : Operand) → IsWellFormed g →
    IsWellFormed (multiplied g override s a)
unfolding multiplied
product_kept g override s a w =
    let x = width_of a in
    let p = product-below s x (accumulator x g.cpu) (value_in x g override a) (accumulator-below x g.cpu w.registers)
    (value_in-below x g override a) in
    let r = doubled x g.cpu _ p w.registers in
    flagged (on_cpu g (with_double x g.cpu (product_value s x (accumulator x g.cpu) (value_in x g override a)))) _
    (record { registers = r; memory = w.memory })

parted : (w : Width) (c : Cpu) (d : Division) → (d.quotient < size w) × (d.remainder < size w) → HasWords c →
    HasWords (with_division w c d)
unfolding with_division
parted Byte c d h w = (let q = h.0 in let r = h.1 in omega arith)
parted Word c d h w = (let q = h.0 in let r = h.1 in omega arith)

after_kept : (w : Width) (g : Guest) (d : Option Division) → ((x : Division) → d ≡ Some x → (x.quotient < size w) ×
    (x.remainder < size w)) → IsWellFormed g → IsWellFormed (after_division w g d)
unfolding after_division
after_kept w g None h f = interrupted g 0 f
after_kept w g (Some d) h f = record { registers = parted w g.cpu d (h d refl) f.registers; memory = f.memory }

division_kept : (g : Guest) (override : Option SegmentRegister) (s : Sign) (a : Operand) → IsWellFormed g →
    IsWellFormed (divided g override s a)
unfolding divided
division_kept g override s a w = after_kept (width_of a) g _ (λ x e. quotient-below s (width_of a) _ _ x
    (value_in-below (width_of a) g override a) e) w

-- ---- transfers

target-below : (g : Guest) (override : Option SegmentRegister) (o : Operand) → IsWellFormed g → AreValues o →
    target_of g override o < 65536
unfolding target_of
target-below g override (operand.Target n) w v = omega arith
target-below g override operand.Nothing w v = value-below g override operand.Nothing w v
target-below g override (operand.ByteRegister r) w v = value-below g override (operand.ByteRegister r) w v
target-below g override (operand.WordRegister r) w v = value-below g override (operand.WordRegister r) w v
target-below g override (operand.SegmentRegister r) w v = value-below g override (operand.SegmentRegister r) w v
target-below g override (operand.Memory x a) w v = value-below g override (operand.Memory x a) w v
target-below g override (operand.ByteValue n) w v = value-below g override (operand.ByteValue n) w v
target-below g override (operand.WordValue n) w v = value-below g override (operand.WordValue n) w v
target-below g override operand.One w v = value-below g override operand.One w v
target-below g override (operand.FarTarget n s) w v = value-below g override (operand.FarTarget n s) w v

jump_kept : (g : Guest) (override : Option SegmentRegister) (o : Operand) → IsWellFormed g → AreValues o →
    IsWellFormed (jumped g override o)
unfolding jumped
jump_kept g override o w v = at g _ (target-below g override o w v) w

jump_where_kept : (b : Bool) (g : Guest) (override : Option SegmentRegister) (o : Operand) → IsWellFormed g →
    AreValues o → IsWellFormed (jumped_where b g override o)
unfolding jumped_where
jump_where_kept true g override o w v = jump_kept g override o w v
jump_where_kept false g override o w v = w

jump_if_kept : (g : Guest) (override : Option SegmentRegister) (x : Condition) (b : Bool) (o : Operand) →
    IsWellFormed g → AreValues o → IsWellFormed (jumped_if g override x b o)
unfolding jumped_if
jump_if_kept g override x b o w v = jump_where_kept _ g override o w v

count_kept : (x : LoopOperation) (c : Cpu) → HasWords c → HasWords (counted_down x c)
unfolding counted_down
count_kept Always c w = omega arith
count_kept WhileEqual c w = omega arith
count_kept WhileNotEqual c w = omega arith
count_kept CountIsZero c w = w

loop_kept : (g : Guest) (override : Option SegmentRegister) (x : LoopOperation) (o : Operand) → IsWellFormed g →
    AreValues o → IsWellFormed (looped g override x o)
unfolding looped
loop_kept g override x o w v = jump_where_kept _ (on_cpu g (counted_down x g.cpu)) override o
    (record { registers = count_kept x g.cpu w.registers; memory = w.memory }) v

transfer_kept : (g : Guest) (override : Option SegmentRegister) (x : TransferOperation) (o : Operand) → IsWellFormed g →
    AreValues o → IsWellFormed (transferred g override x o)
unfolding transferred far_jumped called far_called returned far_returned
transfer_kept g override transfer.Jump o w v = jump_kept g override o w v
transfer_kept g override transfer.FarJump o w v =
    let i = value-below g override o w v in
    let c = far_segment-below g override o w v in
    record { registers = (let r = w.registers in omega arith); memory = w.memory }
transfer_kept g override transfer.Call o w v = at _ _ (target-below g override o w v)
    (pushed g g.cpu.ip w.registers.ip w)
transfer_kept g override transfer.FarCall o w v =
    let i = value-below g override o w v in
    let c = far_segment-below g override o w v in
    let h = pushed (push g g.cpu.cs) g.cpu.ip w.registers.ip (pushed g g.cpu.cs w.registers.cs w) in
    record { registers = (let r = h.registers in omega arith); memory = h.memory }
transfer_kept g override transfer.Return o w v =
    let i = top-below g w in
    record { registers = (let r = w.registers in omega arith); memory = w.memory }
transfer_kept g override transfer.FarReturn o w v =
    let i = top-below g w in
    let c = top-below (popped g) (off g w) in
    record { registers = (let r = w.registers in omega arith); memory = w.memory }

-- ---- strings

onward-below : (w : Width) (f : Flags) (o : ℕ) → onward w f o < 65536
onward-below w f o = choice-below f.direction _ _ (omega arith) (omega arith)

source-passed : (w : Width) (c : Cpu) → HasWords c → HasWords (source_advanced w c)
unfolding source_advanced
source-passed w c h = (let x = onward-below w c.flags c.si in omega arith)

destination-passed : (w : Width) (c : Cpu) → HasWords c → HasWords (destination_advanced w c)
unfolding destination_advanced
destination-passed w c h = (let x = onward-below w c.flags c.di in omega arith)

compared-words : (w : Width) (c : Cpu) (a b : ℕ) → HasWords c → HasWords (with_comparison w c a b)
compared-words w c a b h = omega arith

source-below : (w : Width) (g : Guest) (override : Option SegmentRegister) → IsWellFormed g →
    source w g override < size w
unfolding source
source-below w g override f = read-below w g.memory _ _ f.memory

once_kept : (w : Width) (g : Guest) (override : Option SegmentRegister) (x : StringOperation) → IsWellFormed g →
    IsWellFormed (once w g override x)
unfolding once
once_kept w g override string.Move f = record {
  registers = destination-passed w _ (source-passed w g.cpu f.registers);
  memory = written-bytes w g.memory _ _ _ (source-below w g override f) f.memory;
}
once_kept w g override string.Compare f =
    record {
      registers = destination-passed w _ (source-passed w _ (compared-words w g.cpu _ _ f.registers));
      memory = f.memory;
    }
once_kept w g override string.Store f = record {
  registers = destination-passed w g.cpu f.registers;
  memory = written-bytes w g.memory _ _ _ (accumulator-below w g.cpu f.registers) f.memory;
}
once_kept w g override string.Load f =
    record {
      registers = source-passed w _ (accumulated w g.cpu _ (source-below w g override f) f.registers);
      memory = f.memory;
    }
once_kept w g override string.Scan f =
    record { registers = destination-passed w _ (compared-words w g.cpu _ _ f.registers); memory = f.memory }

counted_kept : (r : Repeat) (x : StringOperation) (start : ℕ) (c : Cpu) → start < 65536 → HasWords c →
    HasWords (counted r x start c)
unfolding counted
counted_kept r x start c h w = (let i = choice-below ((down c.cx 1 == 0) || ends r x c.flags) c.ip start w.ip h in
    omega arith)

string_kept : (w : Width) (g : Guest) (override : Option SegmentRegister) (r : Option Repeat) (x : StringOperation)
    (start : ℕ) → start < 65536 → IsWellFormed g → IsWellFormed (string_effect w g override r x start)
unfolding string_effect
string_kept w g override None x start h f = once_kept w g override x f
string_kept w g override (Some r) x start h f =
    let after = once w g override x in
    let o = once_kept w g override x f in
    choice (g.cpu.cx == 0) g (on_cpu after (counted r x start after.cpu)) f
    (record { registers = counted_kept r x start after.cpu h o.registers; memory = o.memory })

-- ---- all instructions

operation_effect_kept : (g : Guest) (p : Prefixes) (start : ℕ) (x : Operation) (a b : Operand) → start < 65536 →
    IsWellFormed g → AreValues a → AreValues b → IsWellFormed (operation_effect g p start x a b)
unfolding adjusted
operation_effect_kept g p start (is.Move x) a b h w u v = move_kept g p.segment x a b w u v
operation_effect_kept g p start (is.Stack x) a b h w u v = stack_kept g p.segment x a w u
operation_effect_kept g p start (is.Arithmetic x) a b h w u v = arithmetic_kept g p.segment x a b w
operation_effect_kept g p start (is.Shift x) a b h w u v = shift_kept g p.segment x a b w
operation_effect_kept g p start (is.Multiply s) a b h w u v = product_kept g p.segment s a w
operation_effect_kept g p start (is.Divide s) a b h w u v = division_kept g p.segment s a w
operation_effect_kept g p start (is.Adjust x) a b h w u v =
    let y = adjusted-below x g.cpu.ax g.cpu.flags in
    record { registers = (let r = w.registers in omega arith); memory = w.memory }
operation_effect_kept g p start (is.JumpIf x y) a b h w u v = jump_if_kept g p.segment x y a w u
operation_effect_kept g p start (is.Loop x) a b h w u v = loop_kept g p.segment x a w u
operation_effect_kept g p start (is.Transfer x) a b h w u v = transfer_kept g p.segment x a w u
operation_effect_kept g p start (is.Interrupt x) a b h w u v = interrupt_kept g p.segment x a w
operation_effect_kept g p start (is.String x y) a b h w u v = string_kept y g p.segment p.repeat x start h w
operation_effect_kept g p start (is.Flag x) a b h w u v = flagged g _ w
operation_effect_kept g p start is.Nothing a b h w u v = w
operation_effect_kept g p start is.Halt a b h w u v = at g start h w

pub effect_kept : (g : Guest) (i : Ins) (len : ℕ) → IsWellFormed g → AreValues i.action.first →
    AreValues i.action.second → IsWellFormed (effect g i len)
unfolding effect
effect_kept g i len w u v =
    operation_effect_kept (at_ip g (up g.cpu.ip len)) i.prefixes g.cpu.ip (operation_of i.action.mnemonic)
    i.action.first i.action.second w.registers.ip (at g (up g.cpu.ip len) (omega arith) w) u v
