-- Bytes that are read and written one after the other, from a linear address up.
use Rattle.std.proofs.Common.{◌≡◌, ℕ, ◌+◌, ◌<◌, ◌≤◌, List, [], ◌∷◌, ◌++◌, length, take, set, min, nat_lt, Bool, true, false, refl, sym, ap, ◌∙◌, arith}
use Rattle.std.proofs.lemmas.Bool.Decides.{nat_tests}
use Rattle.std.proofs.lemmas.List.{take_more_set}
use Rattle.dm_space.specs.Memory.{Memory}
use Rattle.dm_space.proofs.Copies.{values-more}
use Rattle.dm_debug.specs.Debugged.{Debugged}
use Rattle.dm_debug.specs.Sessions.{with_machine}
use Rattle.dm_host.specs.Linear.{byte_at_linear, bytes_at_linear, with_bytes_at_linear}

same_by : (m : Memory) (at a : ℕ) (b : Bool) → nat_lt at 0x10FFF0 ≡ b → at ≡ min a 0xFFFFFFFF →
    byte_at_linear m at ≡ byte_at_linear m a
same_by m at a true low is = ap (byte_at_linear m) (grind (arith, nat_tests, low, is))
same_by m at a false high is =
    let past : nat_lt a 0x10FFF0 ≡ false = grind (arith, nat_tests, high, is) in rw (high, past) refl

-- the greatest number of 32 bits stands for all addresses above it
same_byte : (m : Memory) (at a : ℕ) → at ≡ min a 0xFFFFFFFF → byte_at_linear m at ≡ byte_at_linear m a
same_byte m at a is = same_by m at a (nat_lt at 0x10FFF0) refl is

pub one_more : (m : Memory) (address place at : ℕ) (xs : List ℕ) → place < length xs →
    at ≡ min (address + place) 0xFFFFFFFF → take place xs ≡ bytes_at_linear m address place
    → take (place + 1) (set xs place (byte_at_linear m at)) ≡ bytes_at_linear m address (place + 1)
one_more m address place at xs within at_is done =
    take_more_set xs place (byte_at_linear m at) within
    ∙ ap (λ (l : List ℕ). l ++ byte_at_linear m at ∷ []) done
    ∙ ap (λ (b : ℕ). bytes_at_linear m address place ++ b ∷ []) (same_byte m at (address + place) at_is)
    ∙ sym (values-more (byte_at_linear m) address place 1)

-- nothing is written past FFFF:FFFF
pub none_reached : (m : Memory) (a : ℕ) (bytes : List ℕ) → 0x10FFF0 ≤ a → with_bytes_at_linear m a bytes ≡ m
none_reached m a [] past = refl
none_reached m a (b ∷ bytes) past =
    let no : nat_lt a 0x10FFF0 ≡ false = grind (arith, nat_tests, past) in
    rw (no) (none_reached m (a + 1) bytes (omega (arith, past)))

-- the rest of the bytes is past FFFF:FFFF: all are written, and nothing else has changed
pub all_reached : (v w : Debugged) (a p : ℕ) (xs ys : List ℕ) → 0x10FFF0 ≤ p →
    w ≡ with_machine v (record v.machine { memory = w.machine.memory })
    → with_bytes_at_linear w.machine.memory p ys ≡ with_bytes_at_linear v.machine.memory a xs →
    w ≡ with_machine v (record v.machine { memory = with_bytes_at_linear v.machine.memory a xs })
all_reached v w a p xs ys past others left =
    others ∙ ap (λ (m : Memory). with_machine v (record v.machine { memory = m }))
    (sym (none_reached w.machine.memory p ys past) ∙ left)
