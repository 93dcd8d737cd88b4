-- How a call ends: with success or a refusal, and with a buffer that C passes.
use Rattle.std.specs.Prelude.{◌≡◌, ℕ, ◌<◌, ◌≤◌, List, ◌++◌, length, drop}
use Rattle.dm_host.specs.declared.refusal.Refusal.{Refusal}
use Rattle.dm_c.specs.calls.Statuses.{status_of}

-- the call has succeeded, with status 0, and Done holds; or it was refused, with the status of the refusal, and Refused
-- holds
pub data IsDoneOrRefused (status : ℕ) (Done : Type 0) (Refused : Refusal → Type 0) : Type 0 where
  done : status ≡ 0 → Done → IsDoneOrRefused status Done Refused
  refused : (why : Refusal) → status ≡ status_of why → Refused why → IsDoneOrRefused status Done Refused

-- the buffer `new` is `old` with the items at its front, with status 0, if they fit; otherwise it is `old`, with status
-- 4. In both cases `wanted` is how many bytes they are
pub data GivesItems {A : Type 0} (items old new : List A) (wanted status : ℕ) : Type 0 where
  whole : length items ≤ length old → new ≡ items ++ drop (length items) old → wanted ≡ length items → status ≡ 0 →
      GivesItems items old new wanted status
  small : length old < length items → new ≡ old → wanted ≡ length items → status ≡ 4 →
      GivesItems items old new wanted status
