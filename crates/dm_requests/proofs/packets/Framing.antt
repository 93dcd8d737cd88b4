-- A whole packet is read wherever the stream stands, and carries what was sent.
use Rattle.std.proofs.Common.{◌≡◌, ◌≢◌, ℕ, ◌/◌, ◌%◌, ◌*◌, ◌≤◌, ◌<◌, ◌+◌, Bool, true, List, [], ◌∷◌, ◌++◌, length, Option, Some, None, refl, sym, ap, subst, ◌∙◌, append_assoc, append-nil, arith, length-append, slice_index}
use Rattle.std.specs.Prelude.{All, if◌then◌else◌}
use Rattle.std.specs.Option.{option_to_list}
use Rattle.std.proofs.lemmas.Bool.{eq-eqb, ne_eqb}
use Rattle.std.proofs.lemmas.List.Elements.{All-head, All-tail}
use Rattle.hex.specs.Hex.{encode_lower, encode_with, hex_digit_value, lower_digits}
use Rattle.hex.proofs.HexLemmas.{IsDigits-lower_digits}
use Rattle.dm_requests.specs.declared.packets.received.Received.{Received}
use Rattle.dm_requests.specs.declared.packets.received.Received.TheVariants.{Packet}
use Rattle.dm_requests.specs.packets.Checks.{checksum_of, is_checked}
use Rattle.dm_requests.specs.packets.Escapes.{escaped}
use Rattle.dm_requests.specs.packets.Frames.{frame_of}
use Rattle.dm_requests.specs.packets.Reading.{Reading, between, within, checked, one_more, after_byte, after_other, received, whole_packet}
use Rattle.dm_requests.specs.packets.Streams.{IsContent, read_from, after_all}
use Rattle.dm_requests.proofs.packets.Escaping.{escapes_undone, escaped_inside}

-- a stream that stands at r reads this of the text, and then stands at t
record Leads (r : Reading) (text : List ℕ) (told : List Received) (t : Reading) : Type 0 where
  pub reads : read_from r text ≡ told
  pub stands : after_all r text ≡ t

-- a byte of a content completes nothing
inside_none : (content : Option (List ℕ)) (b : ℕ) → IsContent b → received (within content) b ≡ None
inside_none content b here = ap (λ (d : Bool). if d then None else None) (ne_eqb b 36 here.0)

-- a byte of a content that has room for it
inside_after : (front : List ℕ) (b : ℕ) → IsContent b → length front ≢ 0x4000 → after_byte (within (Some front)) b
    ≡ within (Some (front ++ b ∷ []))
inside_after front b here few =
    ap (λ (d : Bool). if d then within (Some []) else after_other (within (Some front)) b) (ne_eqb b 36 here.0)
    ∙ ap (λ (d : Bool). if d then checked (Some front) else within (one_more (Some front) b)) (ne_eqb b 35 here.1)
    ∙ ap (λ (d : Bool). within (if d then None else Some (front ++ b ∷ []))) (ne_eqb (length front) 0x4000 few)

-- a content of at most 4000h bytes, and what follows it
content_read : (front content text : List ℕ) (told : List Received) (t : Reading) → All IsContent content →
    length (front ++ content) ≤ 0x4000
    → Leads (within (Some (front ++ content))) text told t → Leads (within (Some front)) (content ++ text) told t
content_read front [] text told t all short next = subst (λ (xs : List ℕ). Leads (within (Some xs)) text told t)
    (append-nil front) next
content_read front (b ∷ bs) text told t all short next =
    let here = All-head IsContent b bs all in
    let few : length front ≢ 0x4000 = (let n = length-append front (b ∷ bs) in
    λ h. absurd (omega (arith, n, h, short))) in
    let same : (front ++ b ∷ []) ++ bs ≡ front ++ b ∷ bs = append_assoc front (b ∷ []) bs in
    let rest : Leads (within (Some (front ++ b ∷ []))) (bs ++ text) told t =
    content_read (front ++ b ∷ []) bs text told t (All-tail IsContent b bs all)
    (subst (λ (xs : List ℕ). length xs ≤ 0x4000) (sym same) short)
    (subst (λ (xs : List ℕ). Leads (within (Some xs)) text told t) (sym same) next) in
    record {
      reads =
          ap (λ (o : Option Received). option_to_list o ++ read_from (after_byte (within (Some front)) b) (bs
          ++ text)) (inside_none (Some front) b here)
          ∙ ap (λ (s : Reading). read_from s (bs ++ text)) (inside_after front b here few) ∙ rest.reads;
      stands = ap (λ (s : Reading). after_all s (bs ++ text)) (inside_after front b here few) ∙ rest.stands;
    }

-- no digit is `$`
digit_other : (d : ℕ) → d < 16 → slice_index lower_digits d ≢ 36
digit_other d small h =
    let is : hex_digit_value (slice_index lower_digits d) ≡ Some d = IsDigits-lower_digits d small in
    let none : hex_digit_value (slice_index lower_digits d) ≡ None = ap hex_digit_value h in
    cc

-- the two digits of a checksum are its digits
digits_check : (n : ℕ) → n < 256 → is_checked n (slice_index lower_digits (n / 16)) (slice_index lower_digits (n % 16))
    ≡ true
digits_check n small =
    let high : hex_digit_value (slice_index lower_digits (n / 16)) ≡ Some (n / 16) =
    IsDigits-lower_digits (n / 16) (omega arith) in
    let low : hex_digit_value (slice_index lower_digits (n % 16)) ≡ Some (n % 16) =
    IsDigits-lower_digits (n % 16) (omega arith) in
    let whole : n / 16 * 16 + n % 16 ≡ n = omega arith in
    rw (high, low) (eq-eqb (n / 16 * 16 + n % 16) n whole)

-- the end of a packet: its two digits
digits_read : (payload : List ℕ) (n : ℕ) → checksum_of (escaped payload) ≡ n → n < 256
    → Leads (checked (Some (escaped payload))) (slice_index lower_digits (n / 16) ∷ slice_index lower_digits (n % 16)
    ∷ []) (Packet payload ∷ []) between
digits_read payload n e small =
    let first = ne_eqb (slice_index lower_digits (n / 16)) 36 (digit_other (n / 16) (omega arith)) in
    let second = ne_eqb (slice_index lower_digits (n % 16)) 36 (digit_other (n % 16) (omega arith)) in
    let whole : whole_packet (escaped payload) (slice_index lower_digits (n / 16)) (slice_index lower_digits (n % 16))
    ≡ Packet payload =
    rw (e, digits_check n small, escapes_undone payload) refl in
    record {
      reads = rw (first, second) (ap (λ (r : Received). r ∷ []) whole);
      stands = rw (first, second) refl;
    }

-- a whole packet
pub frame_read : (r : Reading) (payload : List ℕ) → length (escaped payload) ≤ 0x4000 →
    (read_from r (frame_of payload) ≡ Packet payload ∷ []) × (after_all r (frame_of payload) ≡ between)
unfolding encode_with
frame_read r payload short =
    let n = checksum_of (escaped payload) in
    let small : checksum_of (escaped payload) < 256 = omega arith in
    let last = digits_read payload (checksum_of (escaped payload)) refl small in
    let mark : Leads (within (Some (escaped payload))) (35 ∷ encode_lower (checksum_of (escaped payload)
    ∷ [])) (Packet payload ∷ []) between =
    record { reads = last.reads; stands = last.stands } in
    let all : Leads (within (Some [])) (escaped payload ++ 35 ∷ encode_lower (checksum_of (escaped payload)
    ∷ [])) (Packet payload ∷ []) between =
    content_read [] (escaped payload) (35 ∷ encode_lower (checksum_of (escaped payload) ∷ [])) (Packet payload
    ∷ []) between (escaped_inside payload) short mark in
    (all.reads, all.stands)
