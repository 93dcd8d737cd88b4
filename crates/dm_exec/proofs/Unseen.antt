-- No instruction depends on what no program sees, or changes it
use Rattle.std.proofs.Common.{◌≡◌, ℕ, ◌==◌, Bool, true, false, cond, Option, Some, None, refl}
use Rattle.dm_space.specs.Memory.{Memory}
use Rattle.dm_alu.specs.declared.width.Width.{Width}
use Rattle.dm_alu.specs.declared.products.Division.{Division}
use Rattle.dm_alu.specs.declared.products.Sign.{Sign}
use Rattle.dm_alu.specs.declared.bitwise.LogicOperation.{LogicOperation}
use Rattle.dm_alu.specs.declared.shifts.ShiftOperation.{ShiftOperation}
use Rattle.dm_ins.specs.declared.operand.Operand.{Operand}
use Rattle.dm_ins.specs.declared.operand.Operand.TheVariants as operand
use Rattle.dm_ins.specs.declared.operand.SegmentRegister.{SegmentRegister}
use Rattle.dm_ins.specs.declared.operand.WordRegister.TheVariants as word
use Rattle.dm_ins.specs.declared.prefix.Repeat.{Repeat}
use Rattle.dm_ins.specs.declared.prefix.Prefixes.{Prefixes}
use Rattle.dm_exec.specs.declared.operation.Operation.{Operation}
use Rattle.dm_exec.specs.declared.operation.Operation.TheVariants as is
use Rattle.dm_exec.specs.declared.operation.MoveOperation.{MoveOperation}
use Rattle.dm_exec.specs.declared.operation.MoveOperation.TheVariants as moves
use Rattle.dm_operations.specs.declared.stack.StackOperation.{StackOperation}
use Rattle.dm_operations.specs.declared.stack.StackOperation.TheVariants.{Push, Pop, PushFlags, PopFlags}
use Rattle.dm_operations.specs.declared.arithmetic.ArithmeticOperation.{ArithmeticOperation}
use Rattle.dm_operations.specs.declared.arithmetic.ArithmeticOperation.TheVariants.{Add, AddWithCarry, Subtract, SubtractWithBorrow, Compare, Logic, Test, Increment, Decrement, Negate, Complement}
use Rattle.dm_exec.specs.declared.operation.Condition.{Condition}
use Rattle.dm_exec.specs.declared.operation.LoopOperation.{LoopOperation}
use Rattle.dm_exec.specs.declared.operation.TransferOperation.{TransferOperation}
use Rattle.dm_exec.specs.declared.operation.TransferOperation.TheVariants as transfer
use Rattle.dm_exec.specs.declared.operation.TransferOperation.TheVariants.{Jump, FarJump, Call, FarCall, FarReturn}
use Rattle.dm_operations.specs.declared.stack.InterruptOperation.{InterruptOperation}
use Rattle.dm_operations.specs.declared.stack.InterruptOperation.TheVariants as interrupts
use Rattle.dm_operations.specs.declared.stack.InterruptOperation.TheVariants.{Numbered, Breakpoint, OnOverflow}
use Rattle.dm_exec.specs.declared.operation.StringOperation.{StringOperation}
use Rattle.dm_exec.specs.declared.operation.StringOperation.TheVariants as string
use Rattle.dm_cpu.specs.Guest.{Guest, at_ip, up, on_cpu}
use Rattle.dm_exec.specs.Operation.{operation_of}
use Rattle.dm_cpu.specs.Stack.{popped, top}
use Rattle.dm_operations.specs.Stack.{through_vector, interrupt, pushed_value, popped_into, flags_popped, stack_effect, interrupt_effect}
use Rattle.dm_exec.specs.Moves.{moved, exchanged, pointer_loaded, translated, port_input, move_effect}
use Rattle.dm_operations.specs.Arithmetic.{sum_into, difference_into, compared, logic_into, tested, incremented, decremented, negated, complemented, arithmetic}
use Rattle.dm_operations.specs.Shifts.{shifted}
use Rattle.dm_operations.specs.Products.{multiplied, after_division, divided}
use Rattle.dm_exec.specs.Jumps.{target_of, jumped, jumped_where, jumped_if, counted_down, looped, far_jumped, called, far_called, returned, transferred}
use Rattle.dm_exec.specs.Strings.{source, destination, once, counted, string_effect}
use Rattle.dm_exec.specs.Effect.{operation_effect, effect}
use Rattle.dm_space.specs.Unseen.{IsUnseen}
use Rattle.dm_cpu.specs.Unseen.{changed}
use Rattle.dm_cpu.proofs.Unseen.{value_of-unseen, with_operand-unseen, far_segment_of-unseen, value_in-unseen, read_in-unseen, written_in-unseen, push-unseen, interrupt_return-unseen, far_returned-unseen}
use Rattle.dm_exec.specs.Unseen.{IgnoresUnseen}

through_vector-unseen : (f : Memory → Memory) (u : IsUnseen f) (g : Guest) (n : ℕ) →
    through_vector (changed f g) n ≡ changed f (through_vector g n)
unfolding through_vector
through_vector-unseen f u g n = simp (u.a20, u.peek_same)

interrupt-unseen : (f : Memory → Memory) (u : IsUnseen f) (g : Guest) (n : ℕ) →
    interrupt (changed f g) n ≡ changed f (interrupt g n)
unfolding interrupt
interrupt-unseen f u g n = simp (push-unseen f u, through_vector-unseen f u)

pushed_value-unseen : (f : Memory → Memory) (u : IsUnseen f) (g : Guest) (override : Option SegmentRegister)
    (o : Operand) → pushed_value (changed f g) override o ≡ pushed_value g override o
unfolding pushed_value
pushed_value-unseen f u g override (operand.WordRegister word.Sp) = refl
pushed_value-unseen f u g override _ = value_of-unseen f u g override _

popped_into-unseen : (f : Memory → Memory) (u : IsUnseen f) (g : Guest) (override : Option SegmentRegister)
    (o : Operand) → popped_into (changed f g) override o ≡ changed f (popped_into g override o)
unfolding popped_into
popped_into-unseen f u g override o = simp (u.a20, u.peek_same) (with_operand-unseen f u (popped g) override o (top g))

flags_popped-unseen : (f : Memory → Memory) (u : IsUnseen f) (g : Guest) → flags_popped (changed f g)
    ≡ changed f (flags_popped g)
unfolding flags_popped
flags_popped-unseen f u g = simp (u.a20, u.peek_same)

choice-unseen : (f : Memory → Memory) (u : IsUnseen f) (b : Bool) (g h : Guest) →
    cond b (changed f g) (changed f h) ≡ changed f (cond b g h)
choice-unseen f u true g h = refl
choice-unseen f u false g h = refl

stack_effect-unseen : (f : Memory → Memory) (u : IsUnseen f) (g : Guest) (override : Option SegmentRegister)
    (x : StackOperation) (o : Operand) → stack_effect (changed f g) override x o
    ≡ changed f (stack_effect g override x o)
unfolding stack_effect
stack_effect-unseen f u g override Push o = simp (pushed_value-unseen f u, push-unseen f u)
stack_effect-unseen f u g override Pop o = popped_into-unseen f u g override o
stack_effect-unseen f u g override PushFlags o = push-unseen f u g _
stack_effect-unseen f u g override PopFlags o = flags_popped-unseen f u g

interrupt_effect-unseen : (f : Memory → Memory) (u : IsUnseen f) (g : Guest) (override : Option SegmentRegister)
    (x : InterruptOperation) (o : Operand) → interrupt_effect (changed f g) override x o
    ≡ changed f (interrupt_effect g override x o)
unfolding interrupt_effect
interrupt_effect-unseen f u g override Numbered o = simp (value_of-unseen f u, interrupt-unseen f u)
interrupt_effect-unseen f u g override Breakpoint o = interrupt-unseen f u g 3
interrupt_effect-unseen f u g override OnOverflow o =
    simp (interrupt-unseen f u) (choice-unseen f u g.cpu.flags.overflow (interrupt g 4) g)
interrupt_effect-unseen f u g override interrupts.Return o = interrupt_return-unseen f u g

moved-unseen : (f : Memory → Memory) (u : IsUnseen f) (g : Guest) (override : Option SegmentRegister) (a b : Operand) →
    moved (changed f g) override a b ≡ changed f (moved g override a b)
unfolding moved
moved-unseen f u g override a b = simp (value_of-unseen f u, with_operand-unseen f u)

exchanged-unseen : (f : Memory → Memory) (u : IsUnseen f) (g : Guest) (override : Option SegmentRegister)
    (a b : Operand) → exchanged (changed f g) override a b ≡ changed f (exchanged g override a b)
unfolding exchanged
exchanged-unseen f u g override a b = simp (value_of-unseen f u, with_operand-unseen f u)

pointer_loaded-unseen : (f : Memory → Memory) (u : IsUnseen f) (g : Guest) (override : Option SegmentRegister)
    (r : SegmentRegister) (a b : Operand) → pointer_loaded (changed f g) override r a b
    ≡ changed f (pointer_loaded g override r a b)
unfolding pointer_loaded
pointer_loaded-unseen f u g override r a b = simp (
  value_of-unseen f u,
  far_segment_of-unseen f u,
  with_operand-unseen f u,
)

translated-unseen : (f : Memory → Memory) (u : IsUnseen f) (g : Guest) (override : Option SegmentRegister) →
    translated (changed f g) override ≡ translated g override
unfolding translated
translated-unseen f u g override = simp (u.a20, u.peek_same)

input-unseen : (f : Memory → Memory) (u : IsUnseen f) (g : Guest) (override : Option SegmentRegister) (a : Operand) →
    port_input (changed f g) override a ≡ changed f (port_input g override a)
unfolding port_input
input-unseen f u g override a = with_operand-unseen f u g override a _

move_effect-unseen : (f : Memory → Memory) (u : IsUnseen f) (g : Guest) (override : Option SegmentRegister)
    (x : MoveOperation) (a b : Operand) → move_effect (changed f g) override x a b
    ≡ changed f (move_effect g override x a b)
unfolding move_effect
move_effect-unseen f u g override moves.Move a b = moved-unseen f u g override a b
move_effect-unseen f u g override moves.Exchange a b = exchanged-unseen f u g override a b
move_effect-unseen f u g override moves.LoadAddress a b = with_operand-unseen f u g override a _
move_effect-unseen f u g override (moves.LoadPointer r) a b = pointer_loaded-unseen f u g override r a b
move_effect-unseen f u g override moves.Translate a b = simp (translated-unseen f u)
move_effect-unseen f u g override moves.ExtendByte a b = refl
move_effect-unseen f u g override moves.ExtendWord a b = refl
move_effect-unseen f u g override moves.LoadFlags a b = refl
move_effect-unseen f u g override moves.StoreFlags a b = refl
move_effect-unseen f u g override moves.Input a b = input-unseen f u g override a

sum_into-unseen : (f : Memory → Memory) (u : IsUnseen f) (g : Guest) (override : Option SegmentRegister) (c : Bool)
    (a b : Operand) → sum_into (changed f g) override c a b ≡ changed f (sum_into g override c a b)
unfolding sum_into
sum_into-unseen f u g override c a b = simp (value_in-unseen f u) (with_operand-unseen f u _ override a _)

difference_into-unseen : (f : Memory → Memory) (u : IsUnseen f) (g : Guest) (override : Option SegmentRegister)
    (c : Bool) (a b : Operand) → difference_into (changed f g) override c a b
    ≡ changed f (difference_into g override c a b)
unfolding difference_into
difference_into-unseen f u g override c a b = simp (value_in-unseen f u) (with_operand-unseen f u _ override a _)

compared-unseen : (f : Memory → Memory) (u : IsUnseen f) (g : Guest) (override : Option SegmentRegister)
    (a b : Operand) → compared (changed f g) override a b ≡ changed f (compared g override a b)
unfolding compared
compared-unseen f u g override a b = simp (value_in-unseen f u)

logic_into-unseen : (f : Memory → Memory) (u : IsUnseen f) (g : Guest) (override : Option SegmentRegister)
    (x : LogicOperation) (a b : Operand) → logic_into (changed f g) override x a b
    ≡ changed f (logic_into g override x a b)
unfolding logic_into
logic_into-unseen f u g override x a b = simp (value_in-unseen f u) (with_operand-unseen f u _ override a _)

tested-unseen : (f : Memory → Memory) (u : IsUnseen f) (g : Guest) (override : Option SegmentRegister) (a b : Operand) →
    tested (changed f g) override a b ≡ changed f (tested g override a b)
unfolding tested
tested-unseen f u g override a b = simp (value_in-unseen f u)

incremented-unseen : (f : Memory → Memory) (u : IsUnseen f) (g : Guest) (override : Option SegmentRegister)
    (a : Operand) → incremented (changed f g) override a ≡ changed f (incremented g override a)
unfolding incremented
incremented-unseen f u g override a = simp (value_in-unseen f u) (with_operand-unseen f u _ override a _)

decremented-unseen : (f : Memory → Memory) (u : IsUnseen f) (g : Guest) (override : Option SegmentRegister)
    (a : Operand) → decremented (changed f g) override a ≡ changed f (decremented g override a)
unfolding decremented
decremented-unseen f u g override a = simp (value_in-unseen f u) (with_operand-unseen f u _ override a _)

negated-unseen : (f : Memory → Memory) (u : IsUnseen f) (g : Guest) (override : Option SegmentRegister) (a : Operand) →
    negated (changed f g) override a ≡ changed f (negated g override a)
unfolding negated
negated-unseen f u g override a = simp (value_in-unseen f u) (with_operand-unseen f u _ override a _)

complemented-unseen : (f : Memory → Memory) (u : IsUnseen f) (g : Guest) (override : Option SegmentRegister)
    (a : Operand) → complemented (changed f g) override a ≡ changed f (complemented g override a)
unfolding complemented
complemented-unseen f u g override a = simp (value_in-unseen f u, with_operand-unseen f u)

arithmetic-unseen : (f : Memory → Memory) (u : IsUnseen f) (g : Guest) (override : Option SegmentRegister)
    (x : ArithmeticOperation) (a b : Operand) → arithmetic (changed f g) override x a b
    ≡ changed f (arithmetic g override x a b)
unfolding arithmetic
arithmetic-unseen f u g override Add a b = sum_into-unseen f u g override false a b
arithmetic-unseen f u g override AddWithCarry a b = sum_into-unseen f u g override _ a b
arithmetic-unseen f u g override Subtract a b = difference_into-unseen f u g override false a b
arithmetic-unseen f u g override SubtractWithBorrow a b = difference_into-unseen f u g override _ a b
arithmetic-unseen f u g override Compare a b = compared-unseen f u g override a b
arithmetic-unseen f u g override (Logic x) a b = logic_into-unseen f u g override x a b
arithmetic-unseen f u g override Test a b = tested-unseen f u g override a b
arithmetic-unseen f u g override Increment a b = incremented-unseen f u g override a
arithmetic-unseen f u g override Decrement a b = decremented-unseen f u g override a
arithmetic-unseen f u g override Negate a b = negated-unseen f u g override a
arithmetic-unseen f u g override Complement a b = complemented-unseen f u g override a

shifted-unseen : (f : Memory → Memory) (u : IsUnseen f) (g : Guest) (override : Option SegmentRegister)
    (x : ShiftOperation) (a b : Operand) → shifted (changed f g) override x a b ≡ changed f (shifted g override x a b)
unfolding shifted
shifted-unseen f u g override x a b = simp (
  value_in-unseen f u,
  value_of-unseen f u,
) (with_operand-unseen f u _ override a _)

multiplied-unseen : (f : Memory → Memory) (u : IsUnseen f) (g : Guest) (override : Option SegmentRegister) (s : Sign)
    (a : Operand) → multiplied (changed f g) override s a ≡ changed f (multiplied g override s a)
unfolding multiplied
multiplied-unseen f u g override s a = simp (value_in-unseen f u)

after_division-unseen : (f : Memory → Memory) (u : IsUnseen f) (w : Width) (g : Guest) (d : Option Division) →
    after_division w (changed f g) d ≡ changed f (after_division w g d)
unfolding after_division
after_division-unseen f u w g None = interrupt-unseen f u g 0
after_division-unseen f u w g (Some d) = refl

divided-unseen : (f : Memory → Memory) (u : IsUnseen f) (g : Guest) (override : Option SegmentRegister) (s : Sign)
    (a : Operand) → divided (changed f g) override s a ≡ changed f (divided g override s a)
unfolding divided
divided-unseen f u g override s a = simp (value_in-unseen f u, after_division-unseen f u)

target_of-unseen : (f : Memory → Memory) (u : IsUnseen f) (g : Guest) (override : Option SegmentRegister)
    (o : Operand) → target_of (changed f g) override o ≡ target_of g override o
unfolding target_of
target_of-unseen f u g override (operand.Target n) = refl
target_of-unseen f u g override _ = value_of-unseen f u g override _

jumped-unseen : (f : Memory → Memory) (u : IsUnseen f) (g : Guest) (override : Option SegmentRegister) (o : Operand) →
    jumped (changed f g) override o ≡ changed f (jumped g override o)
unfolding jumped
jumped-unseen f u g override o = simp (target_of-unseen f u)

jumped_where-unseen : (f : Memory → Memory) (u : IsUnseen f) (b : Bool) (g : Guest) (override : Option SegmentRegister)
    (o : Operand) → jumped_where b (changed f g) override o ≡ changed f (jumped_where b g override o)
unfolding jumped_where
jumped_where-unseen f u true g override o = jumped-unseen f u g override o
jumped_where-unseen f u false g override o = refl

jumped_if-unseen : (f : Memory → Memory) (u : IsUnseen f) (g : Guest) (override : Option SegmentRegister)
    (x : Condition) (b : Bool) (o : Operand) → jumped_if (changed f g) override x b o
    ≡ changed f (jumped_if g override x b o)
unfolding jumped_if
jumped_if-unseen f u g override x b o = jumped_where-unseen f u _ g override o

looped-unseen : (f : Memory → Memory) (u : IsUnseen f) (g : Guest) (override : Option SegmentRegister)
    (x : LoopOperation) (o : Operand) → looped (changed f g) override x o ≡ changed f (looped g override x o)
unfolding looped
looped-unseen f u g override x o = jumped_where-unseen f u _ (on_cpu g (counted_down x g.cpu)) override o

far_jumped-unseen : (f : Memory → Memory) (u : IsUnseen f) (g : Guest) (override : Option SegmentRegister)
    (o : Operand) → far_jumped (changed f g) override o ≡ changed f (far_jumped g override o)
unfolding far_jumped
far_jumped-unseen f u g override o = simp (value_of-unseen f u, far_segment_of-unseen f u)

called-unseen : (f : Memory → Memory) (u : IsUnseen f) (g : Guest) (override : Option SegmentRegister) (o : Operand) →
    called (changed f g) override o ≡ changed f (called g override o)
unfolding called
called-unseen f u g override o = simp (target_of-unseen f u, push-unseen f u)

far_called-unseen : (f : Memory → Memory) (u : IsUnseen f) (g : Guest) (override : Option SegmentRegister)
    (o : Operand) → far_called (changed f g) override o ≡ changed f (far_called g override o)
unfolding far_called
far_called-unseen f u g override o = simp (value_of-unseen f u, far_segment_of-unseen f u, push-unseen f u)

returned-unseen : (f : Memory → Memory) (u : IsUnseen f) (g : Guest) (n : ℕ) →
    returned (changed f g) n ≡ changed f (returned g n)
unfolding returned
returned-unseen f u g n = simp (u.a20, u.peek_same)

transferred-unseen : (f : Memory → Memory) (u : IsUnseen f) (g : Guest) (override : Option SegmentRegister)
    (x : TransferOperation) (o : Operand) → transferred (changed f g) override x o
    ≡ changed f (transferred g override x o)
unfolding transferred
transferred-unseen f u g override Jump o = jumped-unseen f u g override o
transferred-unseen f u g override FarJump o = far_jumped-unseen f u g override o
transferred-unseen f u g override Call o = called-unseen f u g override o
transferred-unseen f u g override FarCall o = far_called-unseen f u g override o
transferred-unseen f u g override transfer.Return o = simp (value_of-unseen f u, returned-unseen f u)
transferred-unseen f u g override FarReturn o = simp (value_of-unseen f u, far_returned-unseen f u)

source-unseen : (f : Memory → Memory) (u : IsUnseen f) (w : Width) (g : Guest) (override : Option SegmentRegister) →
    source w (changed f g) override ≡ source w g override
unfolding source
source-unseen f u w g override = simp (read_in-unseen f u)

destination-unseen : (f : Memory → Memory) (u : IsUnseen f) (w : Width) (g : Guest) →
    destination w (changed f g) ≡ destination w g
unfolding destination
destination-unseen f u w g = simp (read_in-unseen f u)

once-unseen : (f : Memory → Memory) (u : IsUnseen f) (w : Width) (g : Guest) (override : Option SegmentRegister)
    (x : StringOperation) → once w (changed f g) override x ≡ changed f (once w g override x)
unfolding once
once-unseen f u w g override string.Move = simp (source-unseen f u, written_in-unseen f u)
once-unseen f u w g override string.Compare = simp (source-unseen f u, destination-unseen f u)
once-unseen f u w g override string.Store = simp (written_in-unseen f u)
once-unseen f u w g override string.Load = simp (source-unseen f u)
once-unseen f u w g override string.Scan = simp (destination-unseen f u)

string_effect-unseen : (f : Memory → Memory) (u : IsUnseen f) (w : Width) (g : Guest)
    (override : Option SegmentRegister) (r : Option Repeat) (x : StringOperation) (start : ℕ) →
    string_effect w (changed f g) override r x start ≡ changed f (string_effect w g override r x start)
unfolding string_effect
string_effect-unseen f u w g override None x start = once-unseen f u w g override x
string_effect-unseen f u w g override (Some r) x start = let h = once w g override x in
    simp (once-unseen f u) (choice-unseen f u (g.cpu.cx == 0) g (on_cpu h (counted r x start h.cpu)))

operation_effect-unseen : (f : Memory → Memory) (u : IsUnseen f) (g : Guest) (p : Prefixes) (start : ℕ) (x : Operation)
    (a b : Operand) → operation_effect (changed f g) p start x a b ≡ changed f (operation_effect g p start x a b)
operation_effect-unseen f u g p start (is.Move x) a b = move_effect-unseen f u g p.segment x a b
operation_effect-unseen f u g p start (is.Stack x) a b = stack_effect-unseen f u g p.segment x a
operation_effect-unseen f u g p start (is.Arithmetic x) a b = arithmetic-unseen f u g p.segment x a b
operation_effect-unseen f u g p start (is.Shift x) a b = shifted-unseen f u g p.segment x a b
operation_effect-unseen f u g p start (is.Multiply s) a b = multiplied-unseen f u g p.segment s a
operation_effect-unseen f u g p start (is.Divide s) a b = divided-unseen f u g p.segment s a
operation_effect-unseen f u g p start (is.Adjust x) a b = refl
operation_effect-unseen f u g p start (is.JumpIf x w) a b = jumped_if-unseen f u g p.segment x w a
operation_effect-unseen f u g p start (is.Loop x) a b = looped-unseen f u g p.segment x a
operation_effect-unseen f u g p start (is.Transfer x) a b = transferred-unseen f u g p.segment x a
operation_effect-unseen f u g p start (is.Interrupt x) a b = interrupt_effect-unseen f u g p.segment x a
operation_effect-unseen f u g p start (is.String x w) a b = string_effect-unseen f u w g p.segment p.repeat x start
operation_effect-unseen f u g p start (is.Flag x) a b = refl
operation_effect-unseen f u g p start is.Nothing a b = refl
operation_effect-unseen f u g p start is.Halt a b = refl

pub effect-unseen : IgnoresUnseen
unfolding effect
effect-unseen f u g i len =
    operation_effect-unseen f u (at_ip g (up g.cpu.ip len)) i.prefixes g.cpu.ip (operation_of i.action.mnemonic)
    i.action.first i.action.second
