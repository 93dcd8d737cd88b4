-- An instruction's own words are that instruction.
use Rattle.std.proofs.Common.{◌≡◌, ℕ, ◌+◌, ◌-◌, ◌%◌, ◌<◌, ◌^◌, nat_lt, refl, arith, inl, inr}
use Rattle.std.specs.Prelude.{if◌then◌else◌, IsSomeAnd, Some, None}
use Rattle.std.proofs.lemmas.Bool.{lt-ltb}
use Rattle.dm_ins.specs.declared.operand.Width.TheVariants as width
use Rattle.dm_ins.specs.declared.operand.Operand.{Operand}
use Rattle.dm_ins.specs.declared.operand.Operand.TheVariants as operand
use Rattle.dm_ins.specs.declared.action.Action.{Action}
use Rattle.dm_decode.specs.words.Words.{IsWritten, word_before, word_written}
use Rattle.dm_decode.specs.words.Own.{shown_operand, words_of_action}
use Rattle.dm_decode.specs.words.Laws.{OwnWordsAreRead}
use Rattle.dm_ins.specs.inner.Search.{OperandFits}
use Rattle.dm_ins.proofs.Shortest.{action_fits}

back : (next d : ℕ) → next < 65536 → d < 65536 → ((next + d) % 65536 + 65536 - next) % 65536 ≡ d
back next d p q = omega arith

own_byte : (n : ℕ) → n < 256 → IsSomeAnd (if nat_lt n 256 then Some n else None) (λ b. operand.ByteValue n
    ≡ operand.ByteValue b)
own_byte n lt = rw (lt-ltb n 256 lt) refl

own_written : (a : Action) (next : ℕ) (o : Operand) → next < 2 ^ 16 → OperandFits o →
    IsWritten (shown_operand a next o) o
own_written a next operand.Nothing p f = refl
own_written a next (operand.ByteRegister r) p f = refl
own_written a next (operand.WordRegister r) p f = refl
own_written a next (operand.SegmentRegister r) p f = refl
own_written a next (operand.Memory width.Byte m) p f = inl refl
own_written a next (operand.Memory width.Word m) p f = inr refl
own_written a next (operand.ByteValue n) p f = inl (own_byte n f)
own_written a next (operand.WordValue n) p f = inr (inl refl)
own_written a next (operand.Target d) p f = inr (inr (inl (rw (back next d p f) refl)))
own_written a next operand.One p f = inr (inr (inr (refl, refl)))
own_written a next (operand.FarTarget n s) p f = refl

own_word : (a : Action) (next : ℕ) (o : Operand) → word_written (shown_operand a next o) ≡ word_before a o
own_word a next operand.Nothing = refl
own_word a next (operand.ByteRegister r) = refl
own_word a next (operand.WordRegister r) = refl
own_word a next (operand.SegmentRegister r) = refl
own_word a next (operand.Memory v m) = refl
own_word a next (operand.ByteValue n) = refl
own_word a next (operand.WordValue n) = refl
own_word a next (operand.Target d) = refl
own_word a next operand.One = refl
own_word a next (operand.FarTarget n s) = refl

pub own_words_are_read : OwnWordsAreRead
unfolding words_of_action
own_words_are_read a next x lt s =
    let f = action_fits a x s in
    record {
      mnemonic = refl;
      first = own_written a next a.first lt f.0;
      second = own_written a next a.second lt f.1;
      first_word = own_word a next a.first;
      second_word = own_word a next a.second;
    }
