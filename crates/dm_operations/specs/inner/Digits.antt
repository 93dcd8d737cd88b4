-- The digits that DAA and DAS adjust, as one number.
use Rattle.std.specs.Prelude.{ℕ, ◌+◌, ◌*◌}
use Rattle.std.specs.Int.{from_bool}
use Rattle.dm_alu.specs.declared.flags.Flags.{Flags}
use Rattle.dm_alu.specs.Adjustments.{low_digit_off, high_digit_off}

-- 16 where the low digit of AL is adjusted, and 256 where the high one is
abbrev pub digits_off : ℕ → Flags → ℕ
digits_off al f = from_bool (low_digit_off al f) * 16 + from_bool (high_digit_off al f) * 256
