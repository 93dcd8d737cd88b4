-- The stack, interrupts, jumps, calls, returns and quotients in two memories that show the same bytes where they are
-- read.
use Rattle.std.proofs.Common.{◌≡◌, ℕ, ◌+◌, ◌*◌, ◌%◌, ◌<◌, Bool, true, false, List, [], Option, Some, None, refl, sym, ◌∙◌, ap, ap₂, subst, arith}
use Rattle.std.specs.Prelude.{All, if◌then◌else◌}
use Rattle.std.proofs.lemmas.List.Elements.{All-nil, All-weaker}
use Rattle.dm_space.specs.Memory.{Memory, peek16}
use Rattle.dm_alu.specs.declared.products.Division.{Division}
use Rattle.dm_alu.specs.declared.products.Sign.{Sign}
use Rattle.dm_alu.specs.declared.width.Width.{Width}
use Rattle.dm_alu.specs.Flags.{flags_word, flags_of}
use Rattle.dm_alu.specs.Products.{quotient_of}
use Rattle.dm_ins.specs.declared.operand.Operand.{Operand}
use Rattle.dm_ins.specs.declared.operand.Operand.TheVariants as operand
use Rattle.dm_ins.specs.declared.operand.WordRegister.TheVariants as word
use Rattle.dm_ins.specs.declared.operand.SegmentRegister.{SegmentRegister}
use Rattle.dm_cpu.specs.declared.cpu.Cpu.{Cpu}
use Rattle.dm_cpu.specs.Guest.{Guest, guest, up, down}
use Rattle.dm_cpu.specs.Operands.{value_of}
use Rattle.dm_cpu.specs.Stack.{push, interrupt_return, far_returned}
use Rattle.dm_cpu.specs.Values.{width_of}
use Rattle.dm_operations.specs.Stack.{through_vector, interrupt, pushed_value, popped_into, flags_popped}
use Rattle.dm_operations.specs.Products.{double_of, after_division, divided}
use Rattle.dm_exec.specs.Jumps.{target_of, jumped, jumped_where, far_jumped, called, far_called, returned}
use Rattle.dm_touches.specs.declared.elements.FarAddress.{FarAddress}
use Rattle.dm_touches.specs.declared.elements.Element.{Element}
use Rattle.dm_touches.specs.declared.elements.Element.TheVariants as element
use Rattle.dm_touches.specs.Elements.{bytes_in, bytes_if, bytes_of, nothing, one_element, two_elements, three}
use Rattle.dm_touches.specs.Touches.{element_of, word_behind, stack_word, pushed, pushed_second, pushed_by_interrupt, operand_and_vector, divided_by, reads_dividing, writes_dividing}
use Rattle.dm_laws.specs.footprints.Footprints.{seen, StoredByte, stored, HasMapOf}
use Rattle.dm_laws.proofs.footprints.Memories.{seen_agrees}
use Rattle.dm_laws.proofs.footprints.Values.{Same, in_first, in_second, in_third, same_word, same_value, same_value_in, same_segment}
use Rattle.dm_laws.proofs.footprints.Stores.{Done, done_registers, done_with, done_then, done_one, done_two, done_changed, done_push}
use Rattle.dm_laws.proofs.footprints.Targets.{is_memory}

-- the word on the stack's top
same_top : (c : Cpu) (m n : Memory) → c.sp < 65536 → All (Same m n) (bytes_if (stack_word c 0)) →
    peek16 n c.ss c.sp ≡ peek16 m c.ss c.sp
same_top c m n small r =
    let F : ℕ → Type 0 = λ o. All (Same m n) (bytes_in (element.Word c.ss o)) in
    let e : up c.sp 0 ≡ c.sp = omega arith in
    same_word m n c.ss c.sp (subst F e r)

-- the word two words below the stack's top
same_third : (c : Cpu) (m n : Memory) → All (Same m n) (bytes_if (stack_word c 4)) →
    peek16 n c.ss (up (up c.sp 2) 2) ≡ peek16 m c.ss (up (up c.sp 2) 2)
same_third c m n r =
    let F : ℕ → Type 0 = λ o. All (Same m n) (bytes_in (element.Word c.ss o)) in
    let e : up c.sp 4 ≡ up (up c.sp 2) 2 = omega arith in
    same_word m n c.ss (up (up c.sp 2) 2) (subst F e r)

three_same : (f : ℕ → ℕ → ℕ → Cpu) (a b x y v w : ℕ) → b ≡ a → y ≡ x → w ≡ v → f b y w ≡ f a x v
three_same f a b x y v w d e k = ap₂ (λ (p q : ℕ). f p q w) d e ∙ ap (f a x) k

-- ---- interrupts

-- what memories of one map show alike, they show alike after the same stores
same_after : (m n x y : Memory) (ss : List StoredByte) → HasMapOf m n → x ≡ stored m ss → y ≡ stored n ss →
    (fs : List FarAddress) → All (Same m n) fs → All (Same x y) fs
same_after m n x y ss h e k fs a =
    All-weaker (Same m n) (Same x y) (λ f s. ap (λ (z : Memory). seen z f) k ∙ seen_agrees ss m n f h s
    ∙ sym (ap (λ (z : Memory). seen z f) e)) fs a

pub done_interrupt : (c : Cpu) (m n : Memory) (k : ℕ) → HasMapOf m n →
    All (Same m n) (bytes_in (element.Word 0 (4 * k))) → All (Same m n) (bytes_in (element.Word 0 (4 * k + 2))) →
    Done m n (interrupt (guest c m) k) (interrupt (guest c n) k) (bytes_of (pushed_by_interrupt c))
unfolding interrupt through_vector push
done_interrupt c m n k h low high =
    let g : Guest = push (guest c m) (flags_word c.flags) in
    let i : Guest = push (guest c n) (flags_word c.flags) in
    let g₂ : Guest = push g c.cs in
    let i₂ : Guest = push i c.cs in
    let g₃ : Guest = push g₂ c.ip in
    let i₃ : Guest = push i₂ c.ip in
    let first : Done m n g i _ = done_push c m n _ _ refl in
    let second : Done m n g₂ i₂ _ = done_then m n g i g₂ i₂ _ _ first (done_push g.cpu g.memory i.memory _ _ refl) in
    let all : Done m n g₃ i₃ (bytes_of (pushed_by_interrupt c)) =
    done_then m n g₂ i₂ g₃ i₃ _ _ second (done_push g₂.cpu g₂.memory i₂.memory _ _ refl) in
    let after = same_after m n g₃.memory i₃.memory all.stores h all.in_m all.in_n in
    let x = same_word g₃.memory i₃.memory 0 (4 * k) (after (bytes_in (element.Word 0 (4 * k))) low) in
    let y = same_word g₃.memory i₃.memory 0 (4 * k + 2) (after (bytes_in (element.Word 0 (4 * k + 2))) high) in
    let to : ℕ → ℕ → Cpu = λ ip cs. record g₃.cpu {
      ip = ip;
      cs = cs;
      flags = record c.flags {
        interrupt = false;
        trap = false;
      };
    } in
    done_with m n g₃ i₃ _ _ _ (ap₂ to x y) all

-- INT n, by the vector that is read beside the operand
pub done_vector : (c : Cpu) (m n : Memory) (e : Option Element) (k : ℕ) → HasMapOf m n →
    All (Same m n) (bytes_of (operand_and_vector e k)) → Done m n (interrupt (guest c m) k) (interrupt (guest c n) k)
    (bytes_of (pushed_by_interrupt c))
done_vector c m n e k h r = done_interrupt c m n k h (in_second (Same m n) (operand_and_vector e k) r)
    (in_third (Same m n) (operand_and_vector e k) r)

pub done_overflow : (b : Bool) (c : Cpu) (m n : Memory) → HasMapOf m n →
    All (Same m n) (bytes_of (if b then operand_and_vector None 4 else nothing)) →
    Done m n (if b then interrupt (guest c m) 4 else guest c m) (if b then interrupt (guest c n) 4 else
    guest c n) (bytes_of (if b then pushed_by_interrupt c else nothing))
done_overflow true c m n h r = done_vector c m n None 4 h r
done_overflow false c m n h r = done_registers m n c c refl

done_division : (w : Width) (c : Cpu) (m n : Memory) (e : Option Element) (d : Option Division) → HasMapOf m n →
    All (Same m n) (bytes_of (reads_dividing e d)) → Done m n (after_division w (guest c m) d)
    (after_division w (guest c n) d) (bytes_of (writes_dividing c d))
unfolding after_division
done_division w c m n e None h r = done_vector c m n e 0 h r
done_division w c m n e (Some d) h r = done_registers m n _ _ refl

-- the operand is read whether or not there is a quotient
pub reads_divisor : (m n : Memory) (e : Option Element) (d : Option Division) →
    All (Same m n) (bytes_of (reads_dividing e d)) → All (Same m n) (bytes_if e)
reads_divisor m n e None r = in_first (Same m n) (operand_and_vector e 0) r
reads_divisor m n e (Some d) r = in_first (Same m n) (one_element e) r

-- an operand that is not in memory reads none
pub reads_none : (c : Cpu) (m n : Memory) (override : Option SegmentRegister) (o : Operand) → is_memory o ≡ false →
    All (Same m n) (bytes_if (element_of c override o))
unfolding element_of
reads_none c m n override (operand.Memory w a) e = absurd cc
reads_none c m n override _ e = All-nil (Same m n)

module _ (c : Cpu) (m n : Memory) (override : Option SegmentRegister) where
  -- ---- quotients

  pub same_quotient : (sign : Sign) (a : Operand) →
      All (Same m n) (bytes_of (reads_dividing (element_of c override a) (divided_by (guest c m) override sign a))) →
      divided_by (guest c n) override sign a ≡ divided_by (guest c m) override sign a
  same_quotient sign a r =
      let w = width_of a in
      ap (λ (v : ℕ). quotient_of sign w (double_of w c) v) (same_value_in w c m n override a (reads_divisor m n _ _ r))

  pub done_quotient : (sign : Sign) (a : Operand) → HasMapOf m n →
      All (Same m n) (bytes_of (reads_dividing (element_of c override a) (divided_by (guest c m) override sign a))) →
      Done m n (divided (guest c m) override sign a) (divided (guest c n) override sign a)
      (bytes_of (writes_dividing c (divided_by (guest c m) override sign a)))
  unfolding divided
  done_quotient sign a h r =
      let w = width_of a in
      let d = divided_by (guest c m) override sign a in
      let F : Option Division → Type 0 = λ x. Done m n (after_division w (guest c m) d) (after_division w (guest c n) x)
      (bytes_of (writes_dividing c d)) in
      subst F (sym (same_quotient sign a r)) (done_division w c m n (element_of c override a) d h r)

  -- ---- INT n

  pub done_numbered : (a : Operand) → HasMapOf m n →
      All (Same m n) (bytes_of (operand_and_vector (element_of c override a) (value_of (guest c m) override a % 256))) →
      Done m n (interrupt (guest c m) (value_of (guest c m) override a % 256)) (interrupt (guest c n)
      (value_of (guest c n) override a % 256)) (bytes_of (pushed_by_interrupt c))
  done_numbered a h r =
      let k = value_of (guest c m) override a % 256 in
      let e = element_of c override a in
      let same : value_of (guest c n) override a % 256 ≡ k =
      ap (λ (v : ℕ). v % 256) (same_value c m n override a (in_first (Same m n) (operand_and_vector e k) r)) in
      let F : ℕ → Type 0 = λ x. Done m n (interrupt (guest c m) k) (interrupt (guest c n) x)
      (bytes_of (pushed_by_interrupt c)) in
      subst F (sym same) (done_vector c m n e k h r)

  -- ---- the stack

  same_pushed : (a : Operand) → All (Same m n) (bytes_if (element_of c override a)) →
      pushed_value (guest c n) override a ≡ pushed_value (guest c m) override a
  unfolding pushed_value
  same_pushed (operand.WordRegister word.Sp) r = refl
  same_pushed _ r = same_value c m n override _ r

  pub done_pushed : (a : Operand) → All (Same m n) (bytes_of (one_element (element_of c override a))) →
      Done m n (push (guest c m) (pushed_value (guest c m) override a)) (push (guest c n)
      (pushed_value (guest c n) override a)) (bytes_of (one_element (pushed c)))
  done_pushed a r = done_one m n _ _ (pushed c) (done_push c m n _ _
      (same_pushed a (in_first (Same m n) (one_element (element_of c override a)) r)))

  pub done_flags_pushed : Done m n (push (guest c m) (flags_word c.flags)) (push (guest c n) (flags_word c.flags))
      (bytes_of (one_element (pushed c)))
  done_flags_pushed = done_one m n _ _ (pushed c) (done_push c m n _ _ refl)

  pub done_popped : (a : Operand) → c.sp < 65536 → All (Same m n) (bytes_of (one_element (stack_word c 0))) →
      Done m n (popped_into (guest c m) override a) (popped_into (guest c n) override a)
      (bytes_of (one_element (element_of c override a)))
  unfolding popped_into
  done_popped a small r = done_changed c m n override a (up c.sp 2) c.flags c.flags _ _
      (same_top c m n small (in_first (Same m n) (one_element (stack_word c 0)) r)) refl

  pub done_flags_popped : c.sp < 65536 → All (Same m n) (bytes_of (one_element (stack_word c 0))) →
      Done m n (flags_popped (guest c m)) (flags_popped (guest c n)) []
  unfolding flags_popped
  done_flags_popped small r = done_registers m n _ _ (ap (λ (v : ℕ). record c { sp = up c.sp 2; flags = flags_of v })
      (same_top c m n small (in_first (Same m n) (one_element (stack_word c 0)) r)))

  pub done_interrupt_return : c.sp < 65536 →
      All (Same m n) (bytes_of (three (stack_word c 0) (stack_word c 2) (stack_word c 4))) →
      Done m n (interrupt_return (guest c m)) (interrupt_return (guest c n)) []
  unfolding interrupt_return
  done_interrupt_return small r =
      let e = three (stack_word c 0) (stack_word c 2) (stack_word c 4) in
      let to : ℕ → ℕ → ℕ → Cpu = λ ip cs v. record c {
        ip = ip;
        cs = cs;
        flags = flags_of v;
        sp = up (up (up c.sp 2) 2) 2;
      } in
      let ip = same_top c m n small (in_first (Same m n) e r) in
      let cs = same_word m n c.ss (up c.sp 2) (in_second (Same m n) e r) in
      done_registers m n _ _ (three_same to _ _ _ _ _ _ ip cs (same_third c m n (in_third (Same m n) e r)))

  -- ---- jumps, calls and returns

  same_target : (a : Operand) → All (Same m n) (bytes_if (element_of c override a)) →
      target_of (guest c n) override a ≡ target_of (guest c m) override a
  unfolding target_of
  same_target (operand.Target t) r = refl
  same_target _ r = same_value c m n override _ r

  pub done_jump : (a : Operand) → All (Same m n) (bytes_if (element_of c override a)) →
      Done m n (jumped (guest c m) override a) (jumped (guest c n) override a) []
  unfolding jumped
  done_jump a r = done_registers m n _ _ (ap (λ (ip : ℕ). record c { ip = ip }) (same_target a r))

  pub done_jump_where : (taken : Bool) (a : Operand) → is_memory a ≡ false →
      Done m n (jumped_where taken (guest c m) override a) (jumped_where taken (guest c n) override a) []
  unfolding jumped_where
  done_jump_where true a e = done_jump a (reads_none c m n override a e)
  done_jump_where false a e = done_registers m n c c refl

  pub done_far_jump : (a : Operand) → All (Same m n) (bytes_of (two_elements (element_of c override a)
      (word_behind c override a))) → Done m n (far_jumped (guest c m) override a) (far_jumped (guest c n) override a) []
  unfolding far_jumped
  done_far_jump a r =
      let e = two_elements (element_of c override a) (word_behind c override a) in
      done_registers m n _ _ (ap₂ (λ (ip cs : ℕ). record c { ip = ip; cs = cs }) (same_value c m n override a
      (in_first (Same m n) e r)) (same_segment c m n override a (in_second (Same m n) e r)))

  pub done_call : (a : Operand) → All (Same m n) (bytes_of (one_element (element_of c override a))) →
      Done m n (called (guest c m) override a) (called (guest c n) override a) (bytes_of (one_element (pushed c)))
  unfolding called push
  done_call a r =
      let e = same_target a (in_first (Same m n) (one_element (element_of c override a)) r) in
      done_one m n _ _ (pushed c) (done_with m n _ _ _ _ _ (ap (λ (ip : ℕ). record c { sp = down c.sp 2; ip = ip }) e)
      (done_push c m n c.ip c.ip refl))

  pub done_far_call : (a : Operand) → All (Same m n) (bytes_of (two_elements (element_of c override a)
      (word_behind c override a))) → Done m n (far_called (guest c m) override a) (far_called (guest c n) override a)
      (bytes_of (two_elements (pushed c) (pushed_second c)))
  unfolding far_called push
  done_far_call a r =
      let e = two_elements (element_of c override a) (word_behind c override a) in
      let g : Guest = push (guest c m) c.cs in
      let i : Guest = push (guest c n) c.cs in
      let pushes = done_then m n g i (push g c.ip) (push i c.ip) _ _ (done_push c m n c.cs c.cs refl)
      (done_push g.cpu g.memory i.memory c.ip c.ip refl) in
      let to : ℕ → ℕ → Cpu = λ ip cs. record (push g c.ip).cpu { ip = ip; cs = cs } in
      done_two m n _ _ (pushed c) (pushed_second c) (done_with m n _ _ _ _ _
      (ap₂ to (same_value c m n override a (in_first (Same m n) e r)) (same_segment c m n override a
      (in_second (Same m n) e r))) pushes)

  pub done_return : (a : Operand) → c.sp < 65536 → is_memory a ≡ false →
      All (Same m n) (bytes_of (one_element (stack_word c 0))) →
      Done m n (returned (guest c m) (value_of (guest c m) override a)) (returned (guest c n)
      (value_of (guest c n) override a)) []
  unfolding returned
  done_return a small e r =
      done_registers m n _ _ (ap₂ (λ (ip v : ℕ). record c { ip = ip; sp = up (up c.sp 2) v })
      (same_top c m n small (in_first (Same m n) (one_element (stack_word c 0)) r))
      (same_value c m n override a (reads_none c m n override a e)))

  pub done_far_return : (a : Operand) → c.sp < 65536 → is_memory a ≡ false →
      All (Same m n) (bytes_of (two_elements (stack_word c 0) (stack_word c 2))) →
      Done m n (far_returned (guest c m) (value_of (guest c m) override a)) (far_returned (guest c n)
      (value_of (guest c n) override a)) []
  unfolding far_returned
  done_far_return a small e r =
      let words = two_elements (stack_word c 0) (stack_word c 2) in
      let to : ℕ → ℕ → ℕ → Cpu = λ ip cs v. record c { ip = ip; cs = cs; sp = up (up (up c.sp 2) 2) v } in
      let ip = same_top c m n small (in_first (Same m n) words r) in
      let cs = same_word m n c.ss (up c.sp 2) (in_second (Same m n) words r) in
      done_registers m n _ _ (three_same to _ _ _ _ _ _ ip cs (same_value c m n override a
      (reads_none c m n override a e)))
