-- What escapes keep.
use Rattle.std.proofs.Common.{◌≡◌, ℕ, ◌==◌, ◌||◌, Bool, true, false, if◌then◌else◌, bit_xor, List, [], ◌∷◌, ◌++◌, Some, refl, sym, ap, subst, ◌∙◌, append_assoc, append-nil, arith}
use Rattle.std.specs.Prelude.{All}
use Rattle.std.specs.List.{flat_map}
use Rattle.std.proofs.lemmas.Bool.{eqb-true, eqb-false}
use Rattle.std.proofs.lemmas.List.Elements.{All-append, All-cons, All-nil}
use Rattle.dm_requests.specs.packets.Escapes.{escaped_byte, escaped, unescaped_behind, unescaped}
use Rattle.dm_requests.specs.packets.Streams.{IsContent}

-- one byte, escaped, is read as itself, whatever follows; by the four tests that make it special
byte_read : (front rest : List ℕ) (b : ℕ) (p q r s : Bool) → (b == 35) ≡ p → (b == 36) ≡ q → (b == 42) ≡ r →
    (b == 125) ≡ s
    → unescaped_behind front false ((if p || q || r || s then 125 ∷ bit_xor b 32 ∷ [] else b ∷ []) ++ rest)
    ≡ unescaped_behind (front ++ b ∷ []) false rest
byte_read front rest b true q r s f g h k = let e = eqb-true b 35 f in rw e refl
byte_read front rest b false true r s f g h k = let e = eqb-true b 36 g in rw e refl
byte_read front rest b false false true s f g h k = let e = eqb-true b 42 h in rw e refl
byte_read front rest b false false false true f g h k = let e = eqb-true b 125 k in rw e refl
byte_read front rest b false false false false f g h k = rw k refl

-- escaped bytes are read as what they were
bytes_read : (front bytes : List ℕ) → unescaped_behind front false (flat_map escaped_byte bytes) ≡ Some (front ++ bytes)
bytes_read front [] = ap Some (sym (append-nil front))
bytes_read front (b ∷ bs) =
    byte_read front (flat_map escaped_byte bs) b (b == 35) (b == 36) (b == 42) (b == 125) refl refl refl refl
    ∙ bytes_read (front ++ b ∷ []) bs
    ∙ ap Some (append_assoc front (b ∷ []) bs)

pub escapes_undone : (bytes : List ℕ) → unescaped (escaped bytes) ≡ Some bytes
unfolding escaped unescaped
escapes_undone bytes = bytes_read [] bytes

-- two bytes, each of which may stand in a packet
two_inside : (a b : ℕ) → IsContent a → IsContent b → All IsContent (a ∷ b ∷ [])
two_inside a b p q = All-cons IsContent a (b ∷ []) p (All-cons IsContent b [] q (All-nil IsContent))

-- an escaped byte has neither `$` nor `#`; by the four tests that make it special
byte_inside : (b : ℕ) (p q r s : Bool) → (b == 35) ≡ p → (b == 36) ≡ q → (b == 42) ≡ r → (b == 125) ≡ s
    → All IsContent (if p || q || r || s then 125 ∷ bit_xor b 32 ∷ [] else b ∷ [])
byte_inside b true q r s f g h k =
    subst (λ (c : ℕ). All IsContent (125 ∷ bit_xor c 32 ∷ [])) (sym (eqb-true b 35 f))
    (two_inside 125 3 (λ z. absurd (omega arith), λ z. absurd (omega arith)) (
      λ z. absurd (omega arith),
      λ z. absurd (omega arith),
    ))
byte_inside b false true r s f g h k =
    subst (λ (c : ℕ). All IsContent (125 ∷ bit_xor c 32 ∷ [])) (sym (eqb-true b 36 g))
    (two_inside 125 4 (λ z. absurd (omega arith), λ z. absurd (omega arith)) (
      λ z. absurd (omega arith),
      λ z. absurd (omega arith),
    ))
byte_inside b false false true s f g h k =
    subst (λ (c : ℕ). All IsContent (125 ∷ bit_xor c 32 ∷ [])) (sym (eqb-true b 42 h))
    (two_inside 125 10 (λ z. absurd (omega arith), λ z. absurd (omega arith)) (
      λ z. absurd (omega arith),
      λ z. absurd (omega arith),
    ))
byte_inside b false false false true f g h k =
    subst (λ (c : ℕ). All IsContent (125 ∷ bit_xor c 32 ∷ [])) (sym (eqb-true b 125 k))
    (two_inside 125 93 (λ z. absurd (omega arith), λ z. absurd (omega arith)) (
      λ z. absurd (omega arith),
      λ z. absurd (omega arith),
    ))
byte_inside b false false false false f g h k = All-cons IsContent b [] (
  eqb-false b 36 g,
  eqb-false b 35 f,
) (All-nil IsContent)

-- escaped bytes have neither `$` nor `#`
bytes_inside : (bytes : List ℕ) → All IsContent (flat_map escaped_byte bytes)
bytes_inside [] = All-nil IsContent
bytes_inside (b ∷ bs) = All-append IsContent (escaped_byte b) (flat_map escaped_byte bs)
    (byte_inside b (b == 35) (b == 36) (b == 42) (b == 125) refl refl refl refl) (bytes_inside bs)

pub escaped_inside : (bytes : List ℕ) → All IsContent (escaped bytes)
unfolding escaped
escaped_inside bytes = bytes_inside bytes
