-- What is read byte by byte is what the text of a stream holds.
use Rattle.std.proofs.Common.{◌≡◌, ◌≢◌, ℕ, ◌==◌, ◌≤◌, ◌<◌, Bool, true, false, if◌then◌else◌, List, [], ◌∷◌, ◌++◌, length, Option, Some, None, refl, sym, subst, append_assoc, arith, length-append}
use Rattle.std.specs.Prelude.{All, nat_le}
use Rattle.std.proofs.lemmas.Bool.{eqb-true, eqb-false, leb-true, leb-false, le-leb, lt-leb}
use Rattle.std.proofs.lemmas.List.Elements.{All-append, All-cons, All-nil}
use Rattle.dm_requests.specs.packets.Reading.{between, within, checked, half, one_more}
use Rattle.dm_requests.specs.packets.Streams.{Holds, ended, lone, packet, cut, cut_before_digits, cut_in_digits, IsContent, if_short, read_from}

-- one byte more of a content that is kept only if it is short
more_short : (content : List ℕ) (b : ℕ) (p q : Bool) → nat_le (length content) 0x4000 ≡ p →
    (length content == 0x4000) ≡ q
    → one_more (if p then Some content else None) b ≡ if_short (content ++ b ∷ [])
more_short content b true true e f =
    let full = eqb-true (length content) 0x4000 f in
    let long : 0x4000 < length (content ++ b ∷ []) = omega (arith, length-append content (b ∷ [])) in
    rw (f, lt-leb (length (content ++ b ∷ [])) 0x4000 long) refl
more_short content b true false e f =
    let most = leb-true (length content) 0x4000 e in
    let other = eqb-false (length content) 0x4000 f in
    let short : length (content ++ b ∷ []) ≤ 0x4000 = omega (arith, length-append content (b ∷ []), most, other) in
    rw (f, le-leb (length (content ++ b ∷ [])) 0x4000 short) refl
more_short content b false q e f =
    let over = leb-false (length content) 0x4000 e in
    let long : 0x4000 < length (content ++ b ∷ []) = omega (arith, length-append content (b ∷ []), over) in
    rw (lt-leb (length (content ++ b ∷ [])) 0x4000 long) refl

pub one_more_short : (content : List ℕ) (b : ℕ) → one_more (if_short content) b ≡ if_short (content ++ b ∷ [])
one_more_short content b = more_short content b (nat_le (length content) 0x4000) (length content == 0x4000) refl refl

-- what is read of this text, wherever the stream stands before it, is what the text holds from the last `$` on
record IsRead (text : List ℕ) : Type 0 where
  pub outside : Holds text (read_from between text)
  pub inside : (content : List ℕ) → All IsContent content → Holds (36 ∷ content
      ++ text) (read_from (within (if_short content)) text)
  pub digits : (content : List ℕ) → All IsContent content → Holds (36 ∷ content ++ 35
      ∷ text) (read_from (checked (if_short content)) text)
  pub digit : (content : List ℕ) (high : ℕ) → All IsContent content → high ≢ 36 → Holds (36 ∷ content ++ 35 ∷ high
      ∷ text) (read_from (half (if_short content) high) text)

none_read : IsRead []
none_read = record {
  outside = ended;
  inside = λ content all. cut content [] [] all tt ended;
  digits = λ content all. cut_before_digits content [] [] all tt ended;
  digit = λ content high all other. cut_in_digits content [] high [] all other tt ended;
}

-- a `$`
dollar_read : (b : ℕ) (text : List ℕ) → IsRead text → b ≡ 36 → IsRead (b ∷ text)
dollar_read b text rest e =
    let anew : Holds (36 ∷ text) (read_from (within (Some [])) text) = rest.inside [] (All-nil IsContent) in
    let P : ℕ → Type 0 = λ c. IsRead (c ∷ text) in
    subst P (sym e) (record {
      outside = anew;
      inside = λ content all. cut content (36 ∷ text) (read_from (within (Some [])) text) all refl anew;
      digits = λ content all. cut_before_digits content (36 ∷ text) (read_from (within (Some [])) text) all refl anew;
      digit = λ content high all other. cut_in_digits content (36 ∷ text) high (read_from (within (Some [])) text) all
          other refl anew;
    })

-- any other byte within a packet, by whether it is `#`
inside_read : (b : ℕ) (text content : List ℕ) (d : Bool) → IsRead text → b ≢ 36 → (b == 35) ≡ d → All IsContent content
    → Holds (36 ∷ content ++ b ∷ text) (read_from (if d then checked (if_short content) else
    within (one_more (if_short content) b)) text)
inside_read b text content true rest other e all = rw (eqb-true b 35 e) (rest.digits content all)
inside_read b text content false rest other e all =
    let more : All IsContent (content ++ b ∷ []) = All-append IsContent content (b
    ∷ []) all (All-cons IsContent b [] (other, eqb-false b 35 e) (All-nil IsContent)) in
    let holds : Holds (36 ∷ content ++ b ∷ text) (read_from (within (if_short (content ++ b ∷ []))) text) =
    subst (λ (xs : List ℕ). Holds (36 ∷ xs) (read_from (within (if_short (content ++ b ∷ []))) text))
    (append_assoc content (b ∷ []) text) (rest.inside (content ++ b ∷ []) more) in
    subst (λ (c : Option (List ℕ)). Holds (36 ∷ content ++ b ∷ text) (read_from (within c) text))
    (sym (one_more_short content b)) holds

-- any other byte
other_read : (b : ℕ) (text : List ℕ) → IsRead text → (b == 36) ≡ false → IsRead (b ∷ text)
other_read b text rest e =
    let other = eqb-false b 36 e in
    record {
      outside = rw e (lone b text (read_from between text) other rest.outside);
      inside = λ content all. rw e (inside_read b text content (b == 35) rest other refl all);
      digits = λ content all. rw e (rest.digit content b all other);
      digit = λ content high all first. rw e (packet content text high b (read_from between text) all first other
          rest.outside);
    }

byte_read : (b : ℕ) (text : List ℕ) (d : Bool) → IsRead text → (b == 36) ≡ d → IsRead (b ∷ text)
byte_read b text true rest e = dollar_read b text rest (eqb-true b 36 e)
byte_read b text false rest e = other_read b text rest e

is_read : (text : List ℕ) → IsRead text
is_read [] = none_read
is_read (b ∷ text) = byte_read b text (b == 36) (is_read text) refl

-- any stream
pub stream_read : (text : List ℕ) → Holds text (read_from between text)
stream_read text = (is_read text).outside
