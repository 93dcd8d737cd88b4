-- Moves, arithmetic, logic, shifts, products and quotients in two memories that show the same bytes where they are
-- read.
use Rattle.std.proofs.Common.{◌≡◌, ℕ, ◌-◌, ◌%◌, Bool, false, [], Option, Some, refl, ap, ap₂}
use Rattle.std.specs.Prelude.{All}
use Rattle.dm_space.specs.Memory.{Memory}
use Rattle.dm_alu.specs.declared.bitwise.LogicOperation.{LogicOperation}
use Rattle.dm_alu.specs.declared.bitwise.LogicOperation.TheVariants as bits
use Rattle.dm_alu.specs.declared.products.Sign.{Sign}
use Rattle.dm_alu.specs.declared.shifts.ShiftOperation.{ShiftOperation}
use Rattle.dm_alu.specs.declared.width.Width.{Width}
use Rattle.dm_alu.specs.Width.{size}
use Rattle.dm_alu.specs.Sums.{sum_value, flags_after_sum, difference_value, flags_after_difference}
use Rattle.dm_alu.specs.Bitwise.{logic_value, flags_after_logic}
use Rattle.dm_alu.specs.Shifts.{shift_value, flags_after_shift}
use Rattle.dm_alu.specs.Products.{product_value, flags_after_product}
use Rattle.dm_ins.specs.declared.operand.ByteRegister.TheVariants.{Al}
use Rattle.dm_ins.specs.declared.operand.Operand.{Operand}
use Rattle.dm_ins.specs.declared.operand.SegmentRegister.{SegmentRegister}
use Rattle.dm_cpu.specs.declared.cpu.Cpu.{Cpu}
use Rattle.dm_cpu.specs.Cpu.{byte_of, with_byte, with_segment}
use Rattle.dm_cpu.specs.Guest.{Guest, guest, up}
use Rattle.dm_cpu.specs.Operands.{data_segment, value_of, with_operand, address_of}
use Rattle.dm_cpu.specs.Values.{width_of, value_in, accumulator}
use Rattle.dm_operations.specs.Arithmetic.{sum_into, difference_into, compared, logic_into, tested, incremented, decremented, negated, complemented}
use Rattle.dm_operations.specs.Shifts.{shifted}
use Rattle.dm_operations.specs.Products.{with_double, multiplied}
use Rattle.dm_exec.specs.Moves.{moved, exchanged, pointer_loaded, translated, port_input}
use Rattle.dm_touches.specs.declared.elements.Element.TheVariants as element
use Rattle.dm_touches.specs.Elements.{bytes_of, one_element, two_elements}
use Rattle.dm_touches.specs.Touches.{element_of, word_behind}
use Rattle.dm_laws.proofs.footprints.Values.{Same, in_first, in_second, same_byte, same_value, same_value_in, same_segment}
use Rattle.dm_laws.proofs.footprints.Stores.{Done, done_registers, done_with, done_then, done_one, done_two, done_operand, done_from, done_result}

module _ (c : Cpu) (m n : Memory) (override : Option SegmentRegister) where
  -- an operand is read
  abbrev pub Reads : Operand → Type 0
  Reads a = All (Same m n) (bytes_of (one_element (element_of c override a)))

  -- two operands are read
  abbrev pub ReadsBoth : Operand → Operand → Type 0
  ReadsBoth a b = All (Same m n) (bytes_of (two_elements (element_of c override a) (element_of c override b)))

  -- an operand is written
  abbrev pub Writes : Operand → (Guest → Guest) → Type 0
  Writes a f = Done m n (f (guest c m)) (f (guest c n)) (bytes_of (one_element (element_of c override a)))

  only : (a : Operand) → Reads a → value_of (guest c n) override a ≡ value_of (guest c m) override a
  only a r = same_value c m n override a (in_first (Same m n) (one_element (element_of c override a)) r)

  left : (w : Width) (a b : Operand) → ReadsBoth a b → value_in w (guest c n) override a
      ≡ value_in w (guest c m) override a
  left w a b r = same_value_in w c m n override a (in_first (Same m n) (two_elements (element_of c override a)
      (element_of c override b)) r)

  right : (w : Width) (a b : Operand) → ReadsBoth a b → value_in w (guest c n) override b
      ≡ value_in w (guest c m) override b
  right w a b r = same_value_in w c m n override b (in_second (Same m n) (two_elements (element_of c override a)
      (element_of c override b)) r)

  -- ---- moves

  pub done_move : (a b : Operand) → Reads b → Writes a (λ g. moved g override a b)
  unfolding moved
  done_move a b r = done_one m n _ _ (element_of c override a) (done_operand c m n override a _ _ (only b r))

  pub done_address : (a b : Operand) → Writes a (λ g. with_operand g override a (address_of g.cpu b))
  done_address a b = done_one m n _ _ (element_of c override a) (done_operand c m n override a _ _ refl)

  pub done_input : (a : Operand) → Writes a (λ g. port_input g override a)
  unfolding port_input
  done_input a = done_one m n _ _ (element_of c override a) (done_operand c m n override a _ _ refl)

  pub done_exchange : (a b : Operand) → ReadsBoth a b → Done m n (exchanged (guest c m) override a b)
      (exchanged (guest c n) override a b) (bytes_of (two_elements (element_of c override a)
      (element_of (with_operand (guest c m) override a (value_of (guest c m) override b)).cpu override b)))
  unfolding exchanged
  done_exchange a b r =
      let e = two_elements (element_of c override a) (element_of c override b) in
      let x = same_value c m n override a (in_first (Same m n) e r) in
      let y = same_value c m n override b (in_second (Same m n) e r) in
      let d = done_operand c m n override a (value_of (guest c m) override b) (value_of (guest c n) override b) y in
      done_two m n _ _ (element_of c override a) _ (done_then m n _ _ _ _ _ _ d
      (done_from _ _ override b _ _ d.registers x))

  pub done_pointer : (register : SegmentRegister) (a b : Operand) →
      All (Same m n) (bytes_of (two_elements (element_of c override b) (word_behind c override b))) →
      Writes a (λ g. pointer_loaded g override register a b)
  unfolding pointer_loaded
  done_pointer register a b r =
      let e = two_elements (element_of c override b) (word_behind c override b) in
      let x = same_value c m n override b (in_first (Same m n) e r) in
      let y = same_segment c m n override b (in_second (Same m n) e r) in
      let d = done_operand c m n override a (value_of (guest c m) override b) (value_of (guest c n) override b) x in
      done_one m n _ _ (element_of c override a) (done_with m n _ _ _ _ _
      (ap₂ (λ (k : Cpu) (s : ℕ). with_segment k register s) d.registers y) d)

  pub same_translated : All (Same m n) (bytes_of (one_element (Some (element.Byte (data_segment c override c.ds)
      (up c.bx (byte_of c Al)))))) → translated (guest c n) override ≡ translated (guest c m) override
  unfolding translated
  same_translated r =
      let s = data_segment c override c.ds in
      let o = up c.bx (byte_of c Al) in
      ap (λ (v : ℕ). with_byte c Al v) (same_byte m n s o (in_first (Same m n) (one_element (Some (element.Byte s o)))
      r))

  -- ---- arithmetic

  pub done_sum : (carry : Bool) (a b : Operand) → ReadsBoth a b → Writes a (λ g. sum_into g override carry a b)
  unfolding sum_into
  done_sum carry a b r =
      let w = width_of a in
      done_result c m n override a _ _ _ _ (ap₂ (λ (x y : ℕ). sum_value w x y carry) (left w a b r) (right w a b r))
      (ap₂ (λ (x y : ℕ). flags_after_sum w x y carry c.flags) (left w a b r) (right w a b r))

  pub done_difference : (borrow : Bool) (a b : Operand) → ReadsBoth a b →
      Writes a (λ g. difference_into g override borrow a b)
  unfolding difference_into
  done_difference borrow a b r =
      let w = width_of a in
      done_result c m n override a _ _ _ _ (ap₂ (λ (x y : ℕ). difference_value w x y borrow) (left w a b r)
      (right w a b r)) (ap₂ (λ (x y : ℕ). flags_after_difference w x y borrow c.flags) (left w a b r)
      (right w a b r))

  pub done_logic : (operation : LogicOperation) (a b : Operand) → ReadsBoth a b →
      Writes a (λ g. logic_into g override operation a b)
  unfolding logic_into
  done_logic operation a b r =
      let w = width_of a in
      done_result c m n override a _ _ _ _ (ap₂ (λ (x y : ℕ). logic_value operation x y) (left w a b r) (right w a b r))
      (ap₂ (λ (x y : ℕ). flags_after_logic operation w x y c.flags) (left w a b r) (right w a b r))

  pub done_comparison : (a b : Operand) → ReadsBoth a b → Done m n (compared (guest c m) override a b)
      (compared (guest c n) override a b) []
  unfolding compared
  done_comparison a b r =
      let w = width_of a in
      done_registers m n _ _ (ap₂ (λ (x y : ℕ). record c { flags = flags_after_difference w x y false c.flags })
      (left w a b r) (right w a b r))

  pub done_test : (a b : Operand) → ReadsBoth a b → Done m n (tested (guest c m) override a b)
      (tested (guest c n) override a b) []
  unfolding tested
  done_test a b r =
      let w = width_of a in
      done_registers m n _ _ (ap₂ (λ (x y : ℕ). record c { flags = flags_after_logic bits.And w x y c.flags })
      (left w a b r) (right w a b r))

  pub done_increment : (a b : Operand) → ReadsBoth a b → Writes a (λ g. incremented g override a)
  unfolding incremented
  done_increment a b r =
      let w = width_of a in
      done_result c m n override a _ _ _ _ (ap (λ (x : ℕ). sum_value w x 1 false) (left w a b r))
      (ap (λ (x : ℕ). record (flags_after_sum w x 1 false c.flags) { carry = c.flags.carry }) (left w a b r))

  pub done_decrement : (a b : Operand) → ReadsBoth a b → Writes a (λ g. decremented g override a)
  unfolding decremented
  done_decrement a b r =
      let w = width_of a in
      done_result c m n override a _ _ _ _ (ap (λ (x : ℕ). difference_value w x 1 false) (left w a b r))
      (ap (λ (x : ℕ). record (flags_after_difference w x 1 false c.flags) { carry = c.flags.carry }) (left w a b r))

  pub done_negation : (a b : Operand) → ReadsBoth a b → Writes a (λ g. negated g override a)
  unfolding negated
  done_negation a b r =
      let w = width_of a in
      done_result c m n override a _ _ _ _ (ap (λ (x : ℕ). difference_value w 0 x false) (left w a b r))
      (ap (λ (x : ℕ). flags_after_difference w 0 x false c.flags) (left w a b r))

  pub done_complement : (a b : Operand) → ReadsBoth a b → Writes a (λ g. complemented g override a)
  unfolding complemented
  done_complement a b r =
      let w = width_of a in
      done_one m n _ _ (element_of c override a) (done_operand c m n override a _ _ (ap (λ (x : ℕ). size w - 1 - x)
      (left w a b r)))

  pub done_shift : (operation : ShiftOperation) (a b : Operand) → ReadsBoth a b →
      Writes a (λ g. shifted g override operation a b)
  unfolding shifted
  done_shift operation a b r =
      let w = width_of a in
      let y = ap (λ (v : ℕ). v % 256) (same_value c m n override b (in_second (Same m n)
      (two_elements (element_of c override a) (element_of c override b)) r)) in
      done_result c m n override a _ _ _ _ (ap₂ (λ (v k : ℕ). shift_value operation w v k c.flags) (left w a b r) y)
      (ap₂ (λ (v k : ℕ). flags_after_shift operation w v k c.flags) (left w a b r) y)

  -- ---- products

  pub done_product : (sign : Sign) (a : Operand) → Reads a → Done m n (multiplied (guest c m) override sign a)
      (multiplied (guest c n) override sign a) []
  unfolding multiplied
  done_product sign a r =
      let w = width_of a in
      let x = accumulator w c in
      done_registers m n _ _ (ap (λ (y : ℕ). record (with_double w c (product_value sign w x y))
      { flags = flags_after_product sign w x y c.flags }) (same_value_in w c m n override a
      (in_first (Same m n) (one_element (element_of c override a)) r)))
