-- The calls on the console, in memory that is changed out of sight
use Rattle.std.proofs.Common.{◌≡◌, ℕ, nat_lt, ◌==◌, Bool, true, false, List, [], ◌∷◌, take, Option, Some, None, refl, ◌∙◌, ap}
use Rattle.dm_space.specs.Memory.{Memory}
use Rattle.dm_space.specs.Unseen.{IsUnseen}
use Rattle.dm_cpu.specs.Cpu.{byte_of}
use Rattle.dm_ins.specs.declared.operand.ByteRegister.TheVariants.{Al}
use Rattle.dm_services.specs.state.State.{State, go, interrupt_returned}
use Rattle.dm_services.specs.Characters.{with_al, character_of, read_character, echo_of, echo_character, write_character, poll_of, poll_character, direct_character, check_input}
use Rattle.dm_services.specs.Lines.{line_length, line_read, line_into, read_line}
use Rattle.dm_services.specs.Functions.{function_of, flush_and_read}
use Rattle.dm_services.specs.Handles.{bad_handle, read_from_console, waits, read_unless, read_handle, write_to_console, write_handle}
use Rattle.dm_services.specs.Vectors.{set_vector, get_vector}
use Rattle.dm_services.specs.System.{tell_version, tell_process}
use Rattle.dm_services.specs.Laws.{with_change}
use Rattle.dm_services.specs.inner.Laws.{answer_with}
use Rattle.dm_services.proofs.Reading.{by_function}
use Rattle.dm_services.proofs.UnseenParts.{byte-unseen, bytes_from-unseen, with_bytes-unseen, return-parts, choice-unseen}

character_of-unseen : (f : Memory → Memory) (u : IsUnseen f) (s : State) (xs : List ℕ) →
    character_of (with_change f s) xs ≡ answer_with f (character_of s xs)
character_of-unseen f u s [] = refl
character_of-unseen f u s (x ∷ xs) = simp (return-parts f u)

pub read_character-unseen : (f : Memory → Memory) (u : IsUnseen f) (s : State) →
    read_character (with_change f s) ≡ answer_with f (read_character s)
unfolding read_character
read_character-unseen f u s = character_of-unseen f u s s.console.input

echo_of-unseen : (f : Memory → Memory) (u : IsUnseen f) (s : State) (xs : List ℕ) →
    echo_of (with_change f s) xs ≡ answer_with f (echo_of s xs)
echo_of-unseen f u s [] = refl
echo_of-unseen f u s (x ∷ xs) = simp (return-parts f u)

pub echo_character-unseen : (f : Memory → Memory) (u : IsUnseen f) (s : State) →
    echo_character (with_change f s) ≡ answer_with f (echo_character s)
unfolding echo_character
echo_character-unseen f u s = echo_of-unseen f u s s.console.input

pub write_character-unseen : (f : Memory → Memory) (u : IsUnseen f) (s : State) →
    write_character (with_change f s) ≡ answer_with f (write_character s)
unfolding write_character
write_character-unseen f u s = simp (return-parts f u)

poll_of-unseen : (f : Memory → Memory) (u : IsUnseen f) (s : State) (xs : List ℕ) →
    poll_of (with_change f s) xs ≡ answer_with f (poll_of s xs)
poll_of-unseen f u s [] = simp (return-parts f u)
poll_of-unseen f u s (x ∷ xs) = simp (return-parts f u)

poll_character-unseen : (f : Memory → Memory) (u : IsUnseen f) (s : State) → poll_character (with_change f s)
    ≡ answer_with f (poll_character s)
unfolding poll_character
poll_character-unseen f u s = poll_of-unseen f u s s.console.input

pub direct_character-unseen : (f : Memory → Memory) (u : IsUnseen f) (s : State) →
    direct_character (with_change f s) ≡ answer_with f (direct_character s)
unfolding direct_character
direct_character-unseen f u s = choice-unseen f _ _ _ _ _ (poll_character-unseen f u s) (write_character-unseen f u s)

pub check_input-unseen : (f : Memory → Memory) (u : IsUnseen f) (s : State) → check_input (with_change f s)
    ≡ answer_with f (check_input s)
unfolding check_input
check_input-unseen f u s = simp (return-parts f u)

line_read-unseen : (f : Memory → Memory) (u : IsUnseen f) (s : State) (m : ℕ) (o : Option ℕ) →
    line_read (with_change f s) m o ≡ answer_with f (line_read s m o)
line_read-unseen f u s m None = refl
line_read-unseen f u s m (Some n) = simp (with_bytes-unseen f u, return-parts f u)

returned-unseen : (f : Memory → Memory) (u : IsUnseen f) (s : State) → go (interrupt_returned (with_change f s))
    ≡ answer_with f (go (interrupt_returned s))
returned-unseen f u s = simp (return-parts f u)

line_into-unseen : (f : Memory → Memory) (u : IsUnseen f) (s : State) (m : ℕ) →
    line_into (with_change f s) m ≡ answer_with f (line_into s m)
line_into-unseen f u s m = choice-unseen f (m == 0) _ _ _ _ (returned-unseen f u s)
    (line_read-unseen f u s m (line_length s.console.input))

pub read_line-unseen : (f : Memory → Memory) (u : IsUnseen f) (s : State) → read_line (with_change f s)
    ≡ answer_with f (read_line s)
unfolding read_line
read_line-unseen f u s = ap (line_into (with_change f s)) (byte-unseen f u s.memory s.cpu.ds s.cpu.dx)
    ∙ line_into-unseen f u s _

al-unseen : (f : Memory → Memory) (u : IsUnseen f) (s : State) (b : ℕ) →
    go (interrupt_returned (with_al (with_change f s) b)) ≡ answer_with f (go (interrupt_returned (with_al s b)))
al-unseen f u s b = simp (return-parts f u)

pub flush_and_read-unseen : (f : Memory → Memory) (u : IsUnseen f) (s : State) →
    flush_and_read (with_change f s) ≡ answer_with f (flush_and_read s)
unfolding flush_and_read
flush_and_read-unseen f u s = by_function (λ g. g (with_change f s) ≡ answer_with f (g s))
    (echo_character-unseen f u s) (direct_character-unseen f u s) (read_character-unseen f u s) (read_line-unseen f u s)
    (al-unseen f u s 0) (function_of (byte_of s.cpu Al))

bad_handle-unseen : (f : Memory → Memory) (u : IsUnseen f) (s : State) → bad_handle (with_change f s)
    ≡ answer_with f (bad_handle s)
unfolding bad_handle
bad_handle-unseen f u s = simp (return-parts f u)

read_from_console-unseen : (f : Memory → Memory) (u : IsUnseen f) (s : State) (xs : List ℕ) →
    read_from_console (with_change f s) xs ≡ answer_with f (read_from_console s xs)
read_from_console-unseen f u s xs = simp (with_bytes-unseen f u, return-parts f u)

read_unless-unseen : (f : Memory → Memory) (u : IsUnseen f) (s : State) (wait : Bool) →
    read_unless wait (with_change f s) ≡ answer_with f (read_unless wait s)
read_unless-unseen f u s true = refl
read_unless-unseen f u s false = read_from_console-unseen f u s (take s.cpu.cx s.console.input)

pub read_handle-unseen : (f : Memory → Memory) (u : IsUnseen f) (s : State) → read_handle (with_change f s)
    ≡ answer_with f (read_handle s)
unfolding read_handle
read_handle-unseen f u s = choice-unseen f (nat_lt s.cpu.bx 3) _ _ _ _ (read_unless-unseen f u s (waits s))
    (bad_handle-unseen f u s)

write_to_console-unseen : (f : Memory → Memory) (u : IsUnseen f) (s : State) → write_to_console (with_change f s)
    ≡ answer_with f (write_to_console s)
write_to_console-unseen f u s = simp (bytes_from-unseen f u, return-parts f u)

pub write_handle-unseen : (f : Memory → Memory) (u : IsUnseen f) (s : State) → write_handle (with_change f s)
    ≡ answer_with f (write_handle s)
unfolding write_handle
write_handle-unseen f u s = choice-unseen f _ _ _ _ _ (write_to_console-unseen f u s) (bad_handle-unseen f u s)

pub set_vector-unseen : (f : Memory → Memory) (u : IsUnseen f) (s : State) → set_vector (with_change f s)
    ≡ answer_with f (set_vector s)
unfolding set_vector
set_vector-unseen f u s = simp (u.a20, u.poke_same, return-parts f u)

pub get_vector-unseen : (f : Memory → Memory) (u : IsUnseen f) (s : State) → get_vector (with_change f s)
    ≡ answer_with f (get_vector s)
unfolding get_vector
get_vector-unseen f u s = simp (byte-unseen f u, return-parts f u)

pub tell_version-unseen : (f : Memory → Memory) (u : IsUnseen f) (s : State) → tell_version (with_change f s)
    ≡ answer_with f (tell_version s)
unfolding tell_version
tell_version-unseen f u s = simp (return-parts f u)

pub tell_process-unseen : (f : Memory → Memory) (u : IsUnseen f) (s : State) → tell_process (with_change f s)
    ≡ answer_with f (tell_process s)
unfolding tell_process
tell_process-unseen f u s = simp (return-parts f u)
