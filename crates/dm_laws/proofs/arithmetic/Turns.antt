-- Rotates and back, and whole turns.
use Rattle.std.proofs.Common.{Bool, ◌≡◌, ◌≢◌, ℕ, zero, suc, ◌+◌, ◌*◌, ◌/◌, ◌%◌, ◌^◌, ◌-◌, ◌<◌, ◌≤◌, true, false, MatchBool, nat_eq, refl, sym, ◌∙◌, ap, subst, arith}
use Rattle.std.proofs.lemmas.Bool.Decides.{nat_tests}
use Rattle.std.specs.Int.{from_bool}
use Rattle.dm_alu.specs.declared.shifts.Shifted.{Shifted}
use Rattle.dm_alu.specs.declared.shifts.ShiftOperation.{ShiftOperation}
use Rattle.dm_alu.specs.declared.shifts.ShiftOperation.TheVariants.{RotateLeft, RotateRight, RotateThroughCarryLeft, RotateThroughCarryRight}
use Rattle.dm_alu.specs.declared.width.Width.{Width}
use Rattle.dm_alu.specs.declared.width.Width.TheVariants.{Byte, Word}
use Rattle.dm_alu.specs.Shifts.{moves, one_move}
use Rattle.dm_alu.specs.Width.{size}
use Rattle.dm_alu.proofs.Rotations.{through_left, through_right, turned_left, turned_right}
use Rattle.dm_laws.specs.arithmetic.Shifts.{Shiftable, RotatesBack, RotatingComesBack, bits, turned}
use Rattle.dm_laws.proofs.arithmetic.Moves.{moves-first, moves-last, moves-zero, start, start-is, value-is}
use Rattle.dm_laws.proofs.arithmetic.Tests.{test_le}

equal : (x y : ℕ) (b : Bool) → nat_eq x y ≡ b → MatchBool b (x ≡ y) (x ≢ y)
equal x y true e = grind (arith, nat_tests)
equal x y false e = grind (arith, nat_tests)

test_eq : (x y : ℕ) → MatchBool (nat_eq x y) (x ≡ y) (x ≢ y)
test_eq x y = equal x y (nat_eq x y) refl

-- one bit to the left and back
left_byte : (v : ℕ) (p q : Bool) → v < 256 → MatchBool p (128 ≤ v) (v < 128) →
    MatchBool q ((v * 2 % 256 + from_bool p) % 2 ≡ 1) ((v * 2 % 256 + from_bool p) % 2 ≢ 1) →
    (v * 2 % 256 + from_bool p) / 2 + from_bool q * 128 ≡ v
left_byte v true true h e f = omega arith
left_byte v true false h e f = omega arith
left_byte v false true h e f = omega arith
left_byte v false false h e f = omega arith

left_word : (v : ℕ) (p q : Bool) → v < 65536 → MatchBool p (32768 ≤ v) (v < 32768) →
    MatchBool q ((v * 2 % 65536 + from_bool p) % 2 ≡ 1) ((v * 2 % 65536 + from_bool p) % 2 ≢ 1) →
    (v * 2 % 65536 + from_bool p) / 2 + from_bool q * 32768 ≡ v
left_word v true true h e f = omega arith
left_word v true false h e f = omega arith
left_word v false true h e f = omega arith
left_word v false false h e f = omega arith

-- one bit to the right and back
right_byte : (v : ℕ) (p q : Bool) → v < 256 → MatchBool p (v % 2 ≡ 1) (v % 2 ≢ 1) →
    MatchBool q (128 ≤ v / 2 + from_bool p * 128) (v / 2 + from_bool p * 128 < 128) →
    (v / 2 + from_bool p * 128) * 2 % 256 + from_bool q ≡ v
right_byte v true true h e f = omega arith
right_byte v true false h e f = omega arith
right_byte v false true h e f = omega arith
right_byte v false false h e f = omega arith

right_word : (v : ℕ) (p q : Bool) → v < 65536 → MatchBool p (v % 2 ≡ 1) (v % 2 ≢ 1) →
    MatchBool q (32768 ≤ v / 2 + from_bool p * 32768) (v / 2 + from_bool p * 32768 < 32768) →
    (v / 2 + from_bool p * 32768) * 2 % 65536 + from_bool q ≡ v
right_word v true true h e f = omega arith
right_word v true false h e f = omega arith
right_word v false true h e f = omega arith
right_word v false false h e f = omega arith

-- the same through the carry flag c: the value, and the carry
through_left_byte : (v : ℕ) (c p q : Bool) → v < 256 → MatchBool p (128 ≤ v) (v < 128) →
    MatchBool q ((v * 2 % 256 + from_bool c) % 2 ≡ 1) ((v * 2 % 256 + from_bool c) % 2 ≢ 1) →
    ((v * 2 % 256 + from_bool c) / 2 + from_bool p * 128 ≡ v) × (q ≡ c)
through_left_byte v true true true h e f = (omega arith, refl)
through_left_byte v true true false h e f = absurd (omega arith)
through_left_byte v true false true h e f = (omega arith, refl)
through_left_byte v true false false h e f = absurd (omega arith)
through_left_byte v false true true h e f = absurd (omega arith)
through_left_byte v false true false h e f = (omega arith, refl)
through_left_byte v false false true h e f = absurd (omega arith)
through_left_byte v false false false h e f = (omega arith, refl)

through_left_word : (v : ℕ) (c p q : Bool) → v < 65536 → MatchBool p (32768 ≤ v) (v < 32768) →
    MatchBool q ((v * 2 % 65536 + from_bool c) % 2 ≡ 1) ((v * 2 % 65536 + from_bool c) % 2 ≢ 1) →
    ((v * 2 % 65536 + from_bool c) / 2 + from_bool p * 32768 ≡ v) × (q ≡ c)
through_left_word v true true true h e f = (omega arith, refl)
through_left_word v true true false h e f = absurd (omega arith)
through_left_word v true false true h e f = (omega arith, refl)
through_left_word v true false false h e f = absurd (omega arith)
through_left_word v false true true h e f = absurd (omega arith)
through_left_word v false true false h e f = (omega arith, refl)
through_left_word v false false true h e f = absurd (omega arith)
through_left_word v false false false h e f = (omega arith, refl)

through_right_byte : (v : ℕ) (c p q : Bool) → v < 256 → MatchBool p (v % 2 ≡ 1) (v % 2 ≢ 1) →
    MatchBool q (128 ≤ v / 2 + from_bool c * 128) (v / 2 + from_bool c * 128 < 128) →
    ((v / 2 + from_bool c * 128) * 2 % 256 + from_bool p ≡ v) × (q ≡ c)
through_right_byte v true true true h e f = (omega arith, refl)
through_right_byte v true true false h e f = absurd (omega arith)
through_right_byte v true false true h e f = (omega arith, refl)
through_right_byte v true false false h e f = absurd (omega arith)
through_right_byte v false true true h e f = absurd (omega arith)
through_right_byte v false true false h e f = (omega arith, refl)
through_right_byte v false false true h e f = absurd (omega arith)
through_right_byte v false false false h e f = (omega arith, refl)

through_right_word : (v : ℕ) (c p q : Bool) → v < 65536 → MatchBool p (v % 2 ≡ 1) (v % 2 ≢ 1) →
    MatchBool q (32768 ≤ v / 2 + from_bool c * 32768) (v / 2 + from_bool c * 32768 < 32768) →
    ((v / 2 + from_bool c * 32768) * 2 % 65536 + from_bool p ≡ v) × (q ≡ c)
through_right_word v true true true h e f = (omega arith, refl)
through_right_word v true true false h e f = absurd (omega arith)
through_right_word v true false true h e f = (omega arith, refl)
through_right_word v true false false h e f = absurd (omega arith)
through_right_word v false true true h e f = absurd (omega arith)
through_right_word v false true false h e f = (omega arith, refl)
through_right_word v false false true h e f = absurd (omega arith)
through_right_word v false false false h e f = (omega arith, refl)

-- two rotates of which the second undoes the first's value, whatever the carry flag is between them
UndoesValue : ShiftOperation → ShiftOperation → Type 0
UndoesValue first second = (w : Width) (m : Shifted) (c : Bool) → m.value < size w →
    (one_move second w (record { value = (one_move first w m).value; carry = c })).value ≡ m.value

left_undone : UndoesValue RotateLeft RotateRight
unfolding UndoesValue
left_undone Byte m c h = left_byte m.value _ _ h (test_le 128 m.value) (test_eq _ 1)
left_undone Word m c h = left_word m.value _ _ h (test_le 32768 m.value) (test_eq _ 1)

right_undone : UndoesValue RotateRight RotateLeft
unfolding UndoesValue
right_undone Byte m c h = right_byte m.value _ _ h (test_eq (m.value % 2) 1) (test_le 128 _)
right_undone Word m c h = right_word m.value _ _ h (test_eq (m.value % 2) 1) (test_le 32768 _)

-- and of which the second undoes value and carry
Undoes : ShiftOperation → ShiftOperation → Type 0
Undoes first second = (w : Width) (m : Shifted) → m.value < size w → one_move second w (one_move first w m) ≡ m

same : (p q : Shifted) → (p.value ≡ q.value) × (p.carry ≡ q.carry) → p ≡ q
same p q e = λ i. record { value = e.0 i; carry = e.1 i }

through_left_undone : Undoes RotateThroughCarryLeft RotateThroughCarryRight
unfolding Undoes
through_left_undone Byte m h = same _ m (through_left_byte m.value m.carry _ _ h (test_le 128 m.value) (test_eq _ 1))
through_left_undone Word m h = same _ m (through_left_word m.value m.carry _ _ h (test_le 32768 m.value) (test_eq _ 1))

through_right_undone : Undoes RotateThroughCarryRight RotateThroughCarryLeft
unfolding Undoes
through_right_undone Byte m h = same _ m (through_right_byte m.value m.carry _ _ h (test_eq (m.value % 2) 1)
    (test_le 128 _))
through_right_undone Word m h = same _ m (through_right_word m.value m.carry _ _ h (test_eq (m.value % 2) 1)
    (test_le 32768 _))

-- a rotate by many bits keeps within the width
Keeps : ShiftOperation → Type 0
Keeps op = (w : Width) (m : Shifted) → m.value < size w → (one_move op w m).value < size w

bit-top : (c : Bool) (n : ℕ) → n < 128 → n + from_bool c * 128 < 256
bit-top true n h = omega arith
bit-top false n h = omega arith

bit-top-word : (c : Bool) (n : ℕ) → n < 32768 → n + from_bool c * 32768 < 65536
bit-top-word true n h = omega arith
bit-top-word false n h = omega arith

bit-low : (c : Bool) (n : ℕ) → n * 2 % 256 + from_bool c < 256
bit-low true n = omega arith
bit-low false n = omega arith

bit-low-word : (c : Bool) (n : ℕ) → n * 2 % 65536 + from_bool c < 65536
bit-low-word true n = omega arith
bit-low-word false n = omega arith

left_keeps : Keeps RotateLeft
unfolding Keeps
left_keeps Byte m h = bit-low _ m.value
left_keeps Word m h = bit-low-word _ m.value

through_left_keeps : Keeps RotateThroughCarryLeft
unfolding Keeps
through_left_keeps Byte m h = bit-low m.carry m.value
through_left_keeps Word m h = bit-low-word m.carry m.value

right_keeps : Keeps RotateRight
unfolding Keeps
right_keeps Byte m h = bit-top _ (m.value / 2) (omega arith)
right_keeps Word m h = bit-top-word _ (m.value / 2) (omega arith)

through_right_keeps : Keeps RotateThroughCarryRight
unfolding Keeps
through_right_keeps Byte m h = bit-top m.carry (m.value / 2) (omega arith)
through_right_keeps Word m h = bit-top-word m.carry (m.value / 2) (omega arith)

kept : (op : ShiftOperation) → Keeps op → (w : Width) (k : ℕ) (m : Shifted) → m.value < size w →
    (moves op w k m).value < size w
unfolding Keeps
kept op keep w zero m h = subst (λ z. z.value < size w) (sym (moves-zero op w m)) h
kept op keep w (suc k) m h = subst (λ z. z.value < size w) (sym (moves-last op w k m))
    (keep w (moves op w k m) (kept op keep w k m h))

back : (op undo : ShiftOperation) → Keeps op → UndoesValue op undo → (w : Width) (k : ℕ) (m : Shifted) (c : Bool) →
    m.value < size w → (moves undo w k (record { value = (moves op w k m).value; carry = c })).value ≡ m.value
unfolding UndoesValue
back op undo keep undoes w zero m c h = ap (λ z. z.value) (moves-zero undo w _) ∙ ap (λ z. z.value) (moves-zero op w m)
back op undo keep undoes w (suc k) m c h =
    let n : Shifted = moves op w k m in
    let v : Shifted = one_move undo w (record { value = (one_move op w n).value; carry = c }) in
    let at : v ≡ record { value = n.value; carry = v.carry } =
    (λ i. record { value = undoes w n c (kept op keep w k m h) i; carry = v.carry }) in
    ap (λ z. z.value) (moves-first undo w k _)
    ∙ ap (λ x. (moves undo w k (one_move undo w (record { value = x.value; carry = c }))).value)
    (moves-last op w k m)
    ∙ ap (λ x. (moves undo w k x).value) at ∙ back op undo keep undoes w k m v.carry h

through_back : (op undo : ShiftOperation) → Keeps op → Undoes op undo → (w : Width) (k : ℕ) (m : Shifted) →
    m.value < size w → moves undo w k (moves op w k m) ≡ m
unfolding Undoes
through_back op undo keep undoes w zero m h = moves-zero undo w _ ∙ moves-zero op w m
through_back op undo keep undoes w (suc k) m h =
    moves-first undo w k _ ∙ ap (λ x. moves undo w k (one_move undo w x)) (moves-last op w k m)
    ∙ ap (moves undo w k) (undoes w (moves op w k m) (kept op keep w k m h)) ∙ through_back op undo keep undoes w k m h

module _ (w : Width) (k : ℕ) (x : Shiftable) (h : x.value < size w) where
  value_back : (op undo : ShiftOperation) → Keeps op → UndoesValue op undo → (turned undo w k (turned op w k x)).value
      ≡ x.value
  value_back op undo keep undoes =
      let y = turned op w k x in
      value-is undo w k y ∙ ap (λ v. (moves undo w k (record { value = v; carry = y.flags.carry })).value)
      (value-is op w k x)
      ∙ back op undo keep undoes w k (start x) y.flags.carry h

  start_back : (op undo : ShiftOperation) → Keeps op → Undoes op undo → start (turned undo w k (turned op w k x))
      ≡ start x
  start_back op undo keep undoes =
      start-is undo w k (turned op w k x) ∙ ap (moves undo w k) (start-is op w k x)
      ∙ through_back op undo keep undoes w k (start x) h

  rotates_back : RotatesBack w k x
  rotates_back =
      let l = start_back RotateThroughCarryLeft RotateThroughCarryRight through_left_keeps through_left_undone in
      let r = start_back RotateThroughCarryRight RotateThroughCarryLeft through_right_keeps through_right_undone in
      record {
        left_right = value_back RotateLeft RotateRight left_keeps left_undone;
        right_left = value_back RotateRight RotateLeft right_keeps right_undone;
        through_left_right = ap (λ z. z.value) l;
        carry_left_right = ap (λ z. z.carry) l;
        through_right_left = ap (λ z. z.value) r;
        carry_right_left = ap (λ z. z.carry) r;
      }

-- a whole turn
no_turn_byte : (v : ℕ) → v < 256 → (v * 2 ^ (8 % 8) % 256 + v * 2 ^ (8 % 8) / 256) % 256 ≡ v
no_turn_byte v h = omega arith

no_turn_word : (v : ℕ) → v < 65536 → (v * 2 ^ (16 % 16) % 65536 + v * 2 ^ (16 % 16) / 65536) % 65536 ≡ v
no_turn_word v h = omega arith

whole_left : (w : Width) (m : Shifted) → m.value < size w → (moves RotateLeft w (bits w) m).value ≡ m.value
whole_left Byte m h = ap (λ z. z.value) (sym (turned_left Byte m 8 h (omega arith))) ∙ no_turn_byte m.value h
whole_left Word m h = ap (λ z. z.value) (sym (turned_left Word m 16 h (omega arith))) ∙ no_turn_word m.value h

full_byte : (v : ℕ) → v < 256 → (v * 2 ^ (8 - 8 % 8) % 256 + v * 2 ^ (8 - 8 % 8) / 256) % 256 ≡ v
full_byte v h = omega arith

full_word : (v : ℕ) → v < 65536 → (v * 2 ^ (16 - 16 % 16) % 65536 + v * 2 ^ (16 - 16 % 16) / 65536) % 65536 ≡ v
full_word v h = omega arith

whole_right : (w : Width) (m : Shifted) → m.value < size w → (moves RotateRight w (bits w) m).value ≡ m.value
whole_right Byte m h = ap (λ z. z.value) (sym (turned_right Byte m 8 h (omega arith))) ∙ full_byte m.value h
whole_right Word m h = ap (λ z. z.value) (sym (turned_right Word m 16 h (omega arith))) ∙ full_word m.value h

-- the carry above a value
above_byte : (v : ℕ) (c q : Bool) → v < 256 → MatchBool q (256 ≤ (v + from_bool c * 256) * 2 ^ (9 % 9) % 512
    + (v + from_bool c * 256) * 2 ^ (9 % 9) / 512) ((v + from_bool c * 256) * 2 ^ (9 % 9) % 512
    + (v + from_bool c * 256) * 2 ^ (9 % 9) / 512 < 256) →
    (((v + from_bool c * 256) * 2 ^ (9 % 9) % 512 + (v + from_bool c * 256) * 2 ^ (9 % 9) / 512) % 256 ≡ v) × (q ≡ c)
above_byte v true true h e = (omega arith, refl)
above_byte v true false h e = absurd (omega arith)
above_byte v false true h e = absurd (omega arith)
above_byte v false false h e = (omega arith, refl)

above_word : (v : ℕ) (c q : Bool) → v < 65536 → MatchBool q (65536 ≤ (v + from_bool c * 65536) * 2 ^ (17 % 17) % 131072
    + (v + from_bool c * 65536) * 2 ^ (17 % 17) / 131072) ((v + from_bool c * 65536) * 2 ^ (17 % 17) % 131072
    + (v + from_bool c * 65536) * 2 ^ (17 % 17) / 131072 < 65536) →
    (((v + from_bool c * 65536) * 2 ^ (17 % 17) % 131072 + (v + from_bool c * 65536) * 2 ^ (17 % 17) / 131072) % 65536
    ≡ v) × (q ≡ c)
above_word v true true h e = (omega arith, refl)
above_word v true false h e = absurd (omega arith)
above_word v false true h e = absurd (omega arith)
above_word v false false h e = (omega arith, refl)

around_byte : (v : ℕ) (c q : Bool) → v < 256 → MatchBool q (256 ≤ (v + from_bool c * 256) * 2 ^ (9 - 9 % 9) % 512
    + (v + from_bool c * 256) * 2 ^ (9 - 9 % 9) / 512) ((v + from_bool c * 256) * 2 ^ (9 - 9 % 9) % 512
    + (v + from_bool c * 256) * 2 ^ (9 - 9 % 9) / 512 < 256) →
    (((v + from_bool c * 256) * 2 ^ (9 - 9 % 9) % 512 + (v + from_bool c * 256) * 2 ^ (9 - 9 % 9) / 512) % 256 ≡ v) ×
    (q ≡ c)
around_byte v true true h e = (omega arith, refl)
around_byte v true false h e = absurd (omega arith)
around_byte v false true h e = absurd (omega arith)
around_byte v false false h e = (omega arith, refl)

around_word : (v : ℕ) (c q : Bool) → v < 65536 →
    MatchBool q (65536 ≤ (v + from_bool c * 65536) * 2 ^ (17 - 17 % 17) % 131072 + (v + from_bool c * 65536) * 2 ^ (17
    - 17 % 17) / 131072) ((v + from_bool c * 65536) * 2 ^ (17 - 17 % 17) % 131072 + (v + from_bool c * 65536) * 2 ^ (17
    - 17 % 17) / 131072 < 65536) →
    (((v + from_bool c * 65536) * 2 ^ (17 - 17 % 17) % 131072 + (v + from_bool c * 65536) * 2 ^ (17 - 17 % 17) / 131072)
    % 65536 ≡ v) × (q ≡ c)
around_word v true true h e = (omega arith, refl)
around_word v true false h e = absurd (omega arith)
around_word v false true h e = absurd (omega arith)
around_word v false false h e = (omega arith, refl)

whole_through_left : (w : Width) (m : Shifted) → m.value < size w → moves RotateThroughCarryLeft w (bits w + 1) m ≡ m
whole_through_left Byte m h = sym (through_left Byte m 9 h) ∙ same _ m (above_byte m.value m.carry _ h (test_le 256 _))
whole_through_left Word m h = sym (through_left Word m 17 h)
    ∙ same _ m (above_word m.value m.carry _ h (test_le 65536 _))

whole_through_right : (w : Width) (m : Shifted) → m.value < size w → moves RotateThroughCarryRight w (bits w + 1) m ≡ m
whole_through_right Byte m h = sym (through_right Byte m 9 h)
    ∙ same _ m (around_byte m.value m.carry _ h (test_le 256 _))
whole_through_right Word m h = sym (through_right Word m 17 h)
    ∙ same _ m (around_word m.value m.carry _ h (test_le 65536 _))

pub comes_back : RotatingComesBack
comes_back w k x h =
    let l = start-is RotateThroughCarryLeft w (bits w + 1) x ∙ whole_through_left w (start x) h in
    let r = start-is RotateThroughCarryRight w (bits w + 1) x ∙ whole_through_right w (start x) h in (
      rotates_back w k x h,
      record {
        left = value-is RotateLeft w (bits w) x ∙ whole_left w (start x) h;
        right = value-is RotateRight w (bits w) x ∙ whole_right w (start x) h;
        through_left = ap (λ z. z.value) l;
        through_left_carry = ap (λ z. z.carry) l;
        through_right = ap (λ z. z.value) r;
        through_right_carry = ap (λ z. z.carry) r;
      },
    )
