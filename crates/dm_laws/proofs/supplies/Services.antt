-- The functions of INT 21h with more input after that of the state.
use Rattle.std.proofs.Common.{◌≡◌, ℕ, ◌+◌, ◌≤◌, ◌==◌, Bool, true, false, List, [], ◌∷◌, ◌++◌, Option, Some, None, length, refl, sym, ◌∙◌, ap, subst, arith}
use Rattle.std.specs.Prelude.{◌&&◌, nat_lt, take, drop, if◌then◌else◌}
use Rattle.std.proofs.lemmas.Bool.{eqb-true, false_from_ne_true, false≢true, ltb-false, ltb-true}
use Rattle.std.proofs.lemmas.List.{length-append, length-take-le}
use Rattle.dm_space.specs.Memory.{linear, peek}
use Rattle.dm_cpu.specs.Cpu.{byte_of}
use Rattle.dm_ins.specs.declared.operand.ByteRegister.TheVariants.{Al, Dl}
use Rattle.dm_services.specs.declared.state.stop.Stop.TheVariants.{InputEnded}
use Rattle.dm_services.specs.state.State.{Answer, State, go, interrupt_returned, with_carry}
use Rattle.dm_services.specs.Characters.{check_input, direct_character, echo_character, echo_of, poll_character, poll_of, character_of, read_character, write_character, input_status, with_al, with_input}
use Rattle.dm_services.specs.Lines.{read_line, line_read, line_length, filled, kept_bytes}
use Rattle.dm_services.specs.declared.functions.Function.{Function}
use Rattle.dm_services.specs.declared.functions.Function.TheVariants as function
use Rattle.dm_services.specs.Functions.{function_of, read_by, flush_and_read}
use Rattle.dm_services.specs.Handles.{read_handle, read_unless, waits, read_from_console, bad_handle, with_read, with_ax}
use Rattle.dm_laws.specs.supplies.Supplies.{supplied, supplied_answer, is_used_up, polls_in_vain, polls_by}
use Rattle.dm_laws.proofs.supplies.Lines.{line_stays, line_ends, taken, left}

both_hold : (b c : Bool) → (b && c) ≡ true → (b ≡ true) × (c ≡ true)
both_hold true c e = (refl, e)
both_hold false c e = cc

module _ (bytes : List ℕ) (more : Bool) where
  abbrev G : State → State
  G = supplied bytes more

  abbrev A : Answer → Answer
  A = supplied_answer bytes more

  -- what does not stop for want of input
  abbrev Goes : Answer → Type 0
  Goes x = x.stop ≡ Some InputEnded → ⊥

  -- ---- characters

  echo : (s : State) (input : List ℕ) → Goes (echo_of s input) → A (echo_of s input) ≡ echo_of (G s) (input ++ bytes)
  echo s [] goes = absurd (goes refl)
  echo s (byte ∷ rest) goes = refl

  pub echoes : (s : State) → Goes (echo_character s) → A (echo_character s) ≡ echo_character (G s)
  unfolding echo_character
  echoes s goes = echo s s.console.input goes

  character : (s : State) (input : List ℕ) → Goes (character_of s input) → A (character_of s input)
      ≡ character_of (G s) (input ++ bytes)
  character s [] goes = absurd (goes refl)
  character s (byte ∷ rest) goes = refl

  pub reads : (s : State) → Goes (read_character s) → A (read_character s) ≡ read_character (G s)
  unfolding read_character
  reads s goes = character s s.console.input goes

  poll : (s : State) (input : List ℕ) → is_used_up input ≡ false → A (poll_of s input) ≡ poll_of (G s) (input ++ bytes)
  poll s [] e = absurd (false≢true (sym e))
  poll s (byte ∷ rest) e = refl

  pub writes : (s : State) → A (write_character s) ≡ write_character (G s)
  unfolding write_character
  writes s = refl

  direct : (s : State) (b : Bool) → (b && is_used_up s.console.input) ≡ false
      → A (if b then poll_character s else write_character s) ≡ (if b then poll_character (G s) else
      write_character (G s))
  unfolding poll_character
  direct s true e = poll s s.console.input e
  direct s false e = writes s

  pub acts_directly : (s : State) → polls_in_vain s ≡ false → A (direct_character s) ≡ direct_character (G s)
  unfolding direct_character
  acts_directly s e = direct s (byte_of s.cpu Dl == 0xFF) e

  status : (input : List ℕ) → is_used_up input ≡ false → input_status input ≡ input_status (input ++ bytes)
  status [] e = absurd (false≢true (sym e))
  status (byte ∷ rest) e = refl

  pub checks : (s : State) → is_used_up s.console.input ≡ false → A (check_input s) ≡ check_input (G s)
  unfolding check_input
  checks s e = ap (λ n. go (interrupt_returned (with_al (G s) n))) (status s.console.input e)

  -- ---- lines

  line : (s : State) (m : ℕ) (o : Option ℕ) → o ≡ line_length s.console.input → Goes (line_read s m o) →
      A (line_read s m o) ≡ line_read (G s) m (line_length (s.console.input ++ bytes))
  line s m None e goes = absurd (goes refl)
  line s m (Some k) e goes =
      let fits = line_ends s.console.input k (sym e) in
      let end : (input rest : List ℕ) → Answer = λ input rest. go (interrupt_returned (record s {
        memory = filled s.memory s.cpu.ds s.cpu.dx (kept_bytes m input);
        console = record s.console { input = rest; more = more };
      })) in
      ap (λ input. end input (drop (k + 1) s.console.input ++ bytes)) (sym (taken s.console.input bytes k (omega (
        arith,
        fits,
      ))))
      ∙ ap (λ rest. end (take k (s.console.input ++ bytes)) rest) (sym (left s.console.input bytes (k + 1) fits))
      ∙ ap (line_read (G s) m) (sym (line_stays s.console.input bytes k (sym e)))

  into : (s : State) (m : ℕ) (b : Bool) → Goes (if b then go (interrupt_returned s) else
      line_read s m (line_length s.console.input))
      → A (if b then go (interrupt_returned s) else line_read s m (line_length s.console.input))
      ≡ (if b then go (interrupt_returned (G s)) else line_read (G s) m (line_length (s.console.input ++ bytes)))
  into s m true goes = refl
  into s m false goes = line s m (line_length s.console.input) refl goes

  pub reads_line : (s : State) → Goes (read_line s) → A (read_line s) ≡ read_line (G s)
  unfolding read_line
  reads_line s goes = into s (peek s.memory (linear s.memory.a20 s.cpu.ds s.cpu.dx))
      (peek s.memory (linear s.memory.a20 s.cpu.ds s.cpu.dx) == 0) goes

  -- ---- 0Ch, by the function that AL names

  flush : (s : State) (f : Function) → polls_by f s ≡ false → Goes (read_by f s) → A (read_by f s) ≡ read_by f (G s)
  flush s function.EchoCharacter asks goes = echoes s goes
  flush s function.DirectCharacter asks goes = acts_directly s asks
  flush s function.DirectInput asks goes = reads s goes
  flush s function.ReadCharacter asks goes = reads s goes
  flush s function.ReadLine asks goes = reads_line s goes
  flush s _ asks goes = refl

  pub flushes : (s : State) → polls_by (function_of (byte_of s.cpu Al)) s ≡ false → Goes (flush_and_read s) →
      A (flush_and_read s) ≡ flush_and_read (G s)
  unfolding flush_and_read
  flushes s asks goes = flush s (function_of (byte_of s.cpu Al)) asks goes

  -- ---- handles

  -- with as many bytes as are wanted, 3Fh does not wait
  waits_not : (m : Bool) (n cx : ℕ) → cx ≤ n → (m && n == 0 && nat_lt 0 cx) ≡ false
  waits_not m n cx l = false_from_ne_true (m && n == 0 && nat_lt 0 cx) (λ e.
      let outer = both_hold (m && n == 0) (nat_lt 0 cx) e in
      let none : n ≡ 0 = eqb-true n 0 (both_hold m (n == 0) outer.0).1 in
      omega (arith, l, none, ltb-true 0 cx outer.1))

  same : (s : State) (read : List ℕ) → length read ≤ length s.console.input → A (read_from_console s read)
      ≡ read_from_console (G s) read
  same s read l =
      let end : List ℕ → Answer =
      λ rest. go (with_carry (interrupt_returned (with_ax (with_input (with_read (G s) read) rest) (length read)))
      false) in
      ap end (sym (left s.console.input bytes (length read) l))

  enough : (s : State) → s.cpu.cx ≤ length s.console.input → A (read_unless (waits s) s)
      ≡ read_unless (waits (G s)) (G s)
  enough s l =
      let input = s.console.input in let cx = s.cpu.cx in
      let more_fits : cx ≤ length (input ++ bytes) = subst (λ n. cx ≤ n) (sym (length-append input bytes))
      (omega (arith, l)) in
      let here : read_unless (waits s) s ≡ read_from_console s (take cx input) =
      ap (λ b. read_unless b s) (waits_not s.console.more (length input) cx l) in
      let there : read_unless (waits (G s)) (G s) ≡ read_from_console (G s) (take cx (input ++ bytes)) =
      ap (λ b. read_unless b (G s)) (waits_not more (length (input ++ bytes)) cx more_fits) in
      ap A here ∙ same s (take cx input) (subst (λ n. n ≤ length input) (sym (length-take-le cx input l)) l)
      ∙ ap (read_from_console (G s)) (sym (taken input bytes cx l)) ∙ sym there

  by_handle : (s : State) (b : Bool) → (b && nat_lt (length s.console.input) s.cpu.cx) ≡ false
      → A (if b then read_unless (waits s) s else bad_handle s) ≡ (if b then read_unless (waits (G s)) (G s) else
      bad_handle (G s))
  unfolding bad_handle
  by_handle s true e = enough s (ltb-false (length s.console.input) s.cpu.cx e)
  by_handle s false e = refl

  pub reads_handle : (s : State) → (nat_lt s.cpu.bx 3 && nat_lt (length s.console.input) s.cpu.cx) ≡ false →
      A (read_handle s) ≡ read_handle (G s)
  unfolding read_handle
  reads_handle s asks = by_handle s (nat_lt s.cpu.bx 3) asks
