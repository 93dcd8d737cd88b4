-- Where no prefix was taken from the front, no more are
use Rattle.std.proofs.Common.{◌≡◌, ℕ, zero, suc, List, [], ◌∷◌, length, Option, Some, None, refl, sym, ◌∙◌, ap, arith}
use Rattle.dm_ins.specs.declared.prefix.Prefix.{Prefix}
use Rattle.dm_ins.specs.declared.prefix.Prefixes.{Prefixes}
use Rattle.dm_decode.specs.inner.Reading.{prefix_of, stripped, strips, without}

abbrev Both : Type 0
Both = Prefixes × List ℕ

none_taken : (p : Prefixes) (b : ℕ) (bytes : List ℕ) (f : Option Prefix) → length (without p (b ∷ bytes) f b bytes).1
    ≡ length (b ∷ bytes) → without p (b ∷ bytes) f b bytes ≡ (p, b ∷ bytes)
none_taken p b bytes None e = refl
none_taken p b bytes (Some f) e = absurd (omega (arith, e))

same_length : (p : Prefixes) (bytes : List ℕ) → length (stripped p bytes).1 ≡ length bytes →
    stripped p bytes ≡ (p, bytes)
unfolding stripped
same_length p [] e = refl
same_length p (b ∷ bytes) e = none_taken p b bytes (prefix_of b) e

stays : (n : ℕ) (p : Prefixes) (bytes : List ℕ) → stripped p bytes ≡ (p, bytes) → strips n p bytes ≡ (p, bytes)
stays zero p bytes e = refl
stays (suc n) p bytes e = ap (λ (x : Both). strips n x.0 x.1) e ∙ stays n p bytes e

pub no_more : (n : ℕ) (p q : Prefixes) (bytes rest : List ℕ) → (q, rest) ≡ stripped p bytes →
    length rest ≡ length bytes → (q, rest) ≡ strips n p bytes
no_more n p q bytes rest e l =
    let same = same_length p bytes (ap (λ (x : Both). length x.1) (sym e) ∙ l) in
    e ∙ same ∙ sym (stays n p bytes same)
