-- Shifts as single moves, one after the other.
use Rattle.std.proofs.Common.{Bool, ◌≡◌, ℕ, zero, suc, ◌+◌, true, false, if◌then◌else◌, nat_eq, refl, sym, ◌∙◌, ap, arith}
use Rattle.std.proofs.lemmas.Bool.Decides.{nat_tests}
use Rattle.dm_alu.specs.declared.flags.Flags.{Flags}
use Rattle.dm_alu.specs.declared.shifts.Shifted.{Shifted}
use Rattle.dm_alu.specs.declared.shifts.ShiftOperation.{ShiftOperation}
use Rattle.dm_alu.specs.declared.shifts.ShiftOperation.TheVariants.{ArithmeticRight, Left, LogicalRight, RotateLeft, RotateRight, RotateThroughCarryLeft, RotateThroughCarryRight}
use Rattle.dm_alu.specs.declared.width.Width.{Width}
use Rattle.dm_alu.specs.Shifts.{flags_after_shift, flags_of_move, moves, one_move, overflow_after_shift, shift_value}
use Rattle.dm_laws.specs.arithmetic.Shifts.{Shiftable, ShiftsAddUp, turned, without_overflow}

-- what a shift starts from
abbrev pub start : Shiftable → Shifted
start x = record { value = x.value; carry = x.flags.carry }

pub moves-add : (op : ShiftOperation) (w : Width) (a b : ℕ) (m : Shifted) →
    moves op w (a + b) m ≡ moves op w b (moves op w a m)
unfolding moves
moves-add op w a zero m = ap (λ k. moves op w k m) (omega arith)
moves-add op w a (suc b) m =
    let e : a + suc b ≡ suc (a + b) = omega arith in
    ap (λ k. moves op w k m) e ∙ ap (one_move op w) (moves-add op w a b m)

pub moves-zero : (op : ShiftOperation) (w : Width) (m : Shifted) → moves op w 0 m ≡ m
unfolding moves
moves-zero op w m = refl

pub moves-last : (op : ShiftOperation) (w : Width) (k : ℕ) (m : Shifted) →
    moves op w (suc k) m ≡ one_move op w (moves op w k m)
unfolding moves
moves-last op w k m = refl

pub moves-first : (op : ShiftOperation) (w : Width) (k : ℕ) (m : Shifted) →
    moves op w (suc k) m ≡ moves op w k (one_move op w m)
moves-first op w zero m = moves-last op w 0 m ∙ ap (one_move op w) (moves-zero op w m)
    ∙ sym (moves-zero op w (one_move op w m))
moves-first op w (suc k) m = moves-last op w (suc k) m ∙ ap (one_move op w) (moves-first op w k m)
    ∙ sym (moves-last op w k (one_move op w m))

pub value-is : (op : ShiftOperation) (w : Width) (count : ℕ) (x : Shiftable) →
    (turned op w count x).value ≡ (moves op w count (start x)).value
unfolding shift_value
value-is op w count x = refl

-- no bit at all
pub turned-zero : (op : ShiftOperation) (w : Width) (x : Shiftable) → turned op w 0 x ≡ x
unfolding shift_value flags_after_shift moves
turned-zero op w x = refl

not-zero : (k : ℕ) → nat_eq (suc k) 0 ≡ false
not-zero k = grind (arith, nat_tests)

-- the operand after at least one bit, the overflow flag apart
abbrev pub moved_flags : ShiftOperation → Width → Shifted → Flags → Flags
moved_flags op w m f = record (flags_of_move op w m.value f) { carry = m.carry; overflow = false }

some-flags : (op : ShiftOperation) (w : Width) (m : Shifted) (f : Flags) (o : Bool) (t : Bool) → t ≡ false →
    record (if t then f else record (flags_of_move op w m.value f) { carry = m.carry; overflow = o })
    { overflow = false } ≡ moved_flags op w m f
some-flags op w m f o true e = absurd (let z = e in cc)
some-flags op w m f o false e = refl

pub turned-some : (op : ShiftOperation) (w : Width) (k : ℕ) (x : Shiftable) → without_overflow (turned op w (suc k) x)
    ≡ record {
      value = (moves op w (suc k) (start x)).value;
      flags = moved_flags op w (moves op w (suc k) (start x)) x.flags;
    }
unfolding shift_value flags_after_shift
turned-some op w k x =
    ap (λ (f : Flags). record { value = (moves op w (suc k) (start x)).value; flags = f })
    (some-flags op w (moves op w (suc k) (start x)) x.flags (if nat_eq (suc k) 1 then
    overflow_after_shift op w x.value (moves op w (suc k) (start x)) else x.flags.overflow) (nat_eq (suc k) 0)
    (not-zero k))

-- the carry that a shift leaves
pub carry-is : (op : ShiftOperation) (w : Width) (k : ℕ) (x : Shiftable) → (turned op w k x).flags.carry
    ≡ (moves op w k (start x)).carry
carry-is op w zero x = ap (λ z. z.flags.carry) (turned-zero op w x)
    ∙ sym (ap (λ z. z.carry) (moves-zero op w (start x)))
carry-is op w (suc k) x = ap (λ z. z.flags.carry) (turned-some op w k x)

pub start-is : (op : ShiftOperation) (w : Width) (k : ℕ) (x : Shiftable) → start (turned op w k x)
    ≡ moves op w k (start x)
start-is op w k x = (λ i. record { value = value-is op w k x i; carry = carry-is op w k x i })

-- the flags of the last shift hide those of the first
hidden : (op : ShiftOperation) (w : Width) (m n : Shifted) (f : Flags) → moved_flags op w n (moved_flags op w m f)
    ≡ moved_flags op w n f
hidden RotateLeft w m n f = refl
hidden RotateRight w m n f = refl
hidden RotateThroughCarryLeft w m n f = refl
hidden RotateThroughCarryRight w m n f = refl
hidden Left w m n f = refl
hidden LogicalRight w m n f = refl
hidden ArithmeticRight w m n f = refl

-- they do not look at the overflow flag before
blind : (op : ShiftOperation) (w : Width) (n : Shifted) (f : Flags) → moved_flags op w n f
    ≡ moved_flags op w n (record f { overflow = false })
blind RotateLeft w n f = refl
blind RotateRight w n f = refl
blind RotateThroughCarryLeft w n f = refl
blind RotateThroughCarryRight w n f = refl
blind Left w n f = refl
blind LogicalRight w n f = refl
blind ArithmeticRight w n f = refl

pub add_up : ShiftsAddUp
add_up op w a zero x =
    let e : a + 0 ≡ a = omega arith in
    ap (λ k. without_overflow (turned op w k x)) e ∙ ap without_overflow (sym (turned-zero op w (turned op w a x)))
add_up op w zero (suc b) x =
    let e : 0 + suc b ≡ suc b = omega arith in
    ap (λ k. without_overflow (turned op w k x)) e ∙ ap (λ z. without_overflow (turned op w (suc b) z))
    (sym (turned-zero op w x))
add_up op w (suc a) (suc b) x =
    let e : suc a + suc b ≡ suc (suc a + b) = omega arith in
    let y = turned op w (suc a) x in
    let same : moves op w (suc (suc a + b)) (start x) ≡ moves op w (suc b) (start y) =
    ap (λ k. moves op w k (start x)) (sym e) ∙ moves-add op w (suc a) (suc b) (start x)
    ∙ ap (moves op w (suc b)) (sym (start-is op w (suc a) x)) in
    let last : Shifted = moves op w (suc b) (start y) in
    let flags : moved_flags op w last y.flags ≡ moved_flags op w last x.flags = blind op w last y.flags
    ∙ ap (λ z. moved_flags op w last z.flags) (turned-some op w a x)
    ∙ hidden op w (moves op w (suc a) (start x)) last x.flags in
    ap (λ k. without_overflow (turned op w k x)) e ∙ turned-some op w (suc a + b) x
    ∙ ap (λ m. record { value = m.value; flags = moved_flags op w m x.flags }) same
    ∙ ap (λ (f : Flags). record { value = last.value; flags = f }) (sym flags)
    ∙ sym (turned-some op w b y)
