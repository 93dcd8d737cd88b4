-- Numbers and bytes, as they are read digit by digit.
use Rattle.std.proofs.Common.{◌≡◌, ℕ, ◌<◌, ◌≤◌, ◌+◌, ◌*◌, ◌^◌, List, ◌∷◌, Option, Some, length, drop, get_or, ap, sym, ◌∙◌, arith, add-one}
use Rattle.std.proofs.Math.Seq.{drop-cons}
use Rattle.std.proofs.Math.Pow.{pow_mono}
use Rattle.std.proofs.lemmas.Nat.{pow-add}
use Rattle.hex.specs.Hex.{hex_digit_value}
use Rattle.dm_requests.specs.commands.Numbers.{◌>>=◌, digits_of}

-- one digit more
pub digit_more : (n d i : ℕ) → n < 2 ^ (4 * i) → d < 16 → n * 16 + d < 2 ^ (4 * (i + 1))
digit_more n d i h k =
    let e : 4 * (i + 1) ≡ 4 * i + 4 = omega arith in
    let f : 2 ^ (4 * (i + 1)) ≡ 2 ^ (4 * i) * 16 = ap (λ (m : ℕ). 2 ^ m) e ∙ pow-add 2 (4 * i) 4 in
    omega (arith, f)

-- eight digits are 32 bits
pub digits_fit : (n i : ℕ) → n < 2 ^ (4 * i) → i ≤ 8 → n < 2 ^ 32
digits_fit n i h k =
    let le : 4 * i ≤ 32 = omega arith in
    let most = pow_mono le in
    omega (arith, most)

-- one digit more is read
pub digit_read : (w : List ℕ) (i n d : ℕ) (r : Option ℕ) → i < length w → Some d ≡ hex_digit_value (get_or w i 0) →
    digits_of n (drop i w) ≡ r → digits_of (n * 16 + d) (drop (i + 1) w) ≡ r
digit_read w i n d r h e k =
    let front : drop i w ≡ get_or w i 0 ∷ drop (i + 1) w = rw add-one (drop-cons w i 0 h) in
    ap (λ (o : Option ℕ). o >>= (λ x. digits_of (n * 16 + x) (drop (i + 1) w))) e
    ∙ ap (digits_of n) (sym front) ∙ k
