-- What a writer took, and how many of its writes and flushes failed.
use Rattle.std.specs.Prelude.{◌≡◌, ℕ, ◌+◌, ◌-◌, ◌^◌, ◌≤◌, ◌==◌, ◌&&◌, Bool, true, not}
use Rattle.std.specs.Prelude.{List, Option, Result, Ok, Err, length, take, min, if◌then◌else◌}
use Rattle.std.specs.Io.KnownBytes.{Appends}

-- the highest count of failures, 2^64 - 1, at which the count stays
abbrev pub most_failures : ℕ
most_failures = 2 ^ 64 - 1

-- whether a write with this result failed or took no byte
abbrev pub took_nothing : {E : Type 0} → Result ℕ E → Bool
took_nothing (Ok n) = n == 0
took_nothing (Err e) = true

-- the count of failures after a write of `bytes` with the result r: one higher, up to `most_failures`, if bytes were
-- offered and none was taken; else it stays
abbrev pub count_after : {E : Type 0} → ℕ → List ℕ → Result ℕ E → ℕ
count_after count bytes r =
    if not (length bytes == 0) && took_nothing r then min (count + 1) most_failures else count

-- the count of failures after a call with this result, such as a flush: one higher, up to `most_failures`, if the call
-- failed; else it stays
abbrev pub count_after_call : {A E : Type 0} → ℕ → Result A E → ℕ
count_after_call count (Ok x) = count
count_after_call count (Err e) = min (count + 1) most_failures

-- exactly one failure is counted: `after` is `before` + 1, or the highest count if `before` is
abbrev pub HasFailed : ℕ → ℕ → Type 0
HasFailed before after = after ≡ min (before + 1) most_failures

-- the bytes that the writer has taken: `new` is `old` followed by the first k bytes of `bytes`, for some k from 0 to
-- their count; None if the bytes that it has taken are not known
abbrev pub AppendsPart : Option (List ℕ) → Option (List ℕ) → List ℕ → Type 0
AppendsPart old new bytes = (k : ℕ) × (k ≤ length bytes) × Appends old new (take k bytes)

-- a writer as contracts see it: the bytes that it holds, where they are known, and how many of its writes and flushes
-- failed, a write that took nothing among them
pub record WriterState : Type 0 where
  pub bytes : Option (List ℕ)
  pub failures : ℕ
