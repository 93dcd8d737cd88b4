-- What the getters of `clap` read of the arguments.
use Rattle.std.proofs.Common.{◌≡◌, ℕ, Option, Some, None, Result, IfOk, option_map, refl, sym, ok_or}
use Rattle.std.specs.Borrow.{Bor}
use Rattle.std.specs.Str.Parse.{ParsesUnsigned, ExplainsUnsignedError, HasUnsignedDigitsIfOk}
use Rattle.std.specs.declared.num.ParseIntError.{ParseIntError}
use Rattle.clap.specs.Words.{ReadsOne, Text}
use Rattle.dm_options.specs.Options.{HasNumber}

-- a text that is there
pub given_text : {E : Type 0} (r : Option (Bor Text)) (v : Option Text) (e : E) → option_map (λ s. s.now) r ≡ v
    → IfOk (ok_or r e) (λ s. v ≡ Some s.now)
given_text None v e h = tt
given_text (Some s) v e h = sym h

-- what `u64` and its kin read of a text
abbrev pub Gives : ℕ → Text → Result ℕ ParseIntError → Type 0
Gives k text r = ParsesUnsigned k 10 text r × ExplainsUnsignedError 10 text r × HasUnsignedDigitsIfOk text r

-- a number that was read of a text is that numeral
pub given_number : {E : Type 0} (k : ℕ) (o : Option Text) (r : Option ℕ) (e : E) → (o ≡ None → r ≡ None)
    → ((t : Text) → o ≡ Some t → ReadsOne (Gives k) t r) → IfOk (ok_or r e) (HasNumber k o)
given_number k o None e none value = tt
given_number k None (Some n) e none value = absurd (some_no_none n (none refl))
  where
    some_no_none : (n : ℕ) → Some n ≡ None → ⊥
    some_no_none n h = cc
given_number k (Some t) (Some n) e none value = let h = (value t refl).0 in (h.0.0, h.0.1, h.1)
