-- Chains under writes.
use Rattle.std.proofs.Common.{◌≡◌, ℕ, ◌+◌, ◌*◌, ◌<◌, ◌≤◌, Bool, List, [], ◌∷◌, ◌++◌, ◌⊎◌, inl, inr, refl, sym, ◌∙◌, ap, ap₂, subst, arith}
use Rattle.dm_space.specs.Memory.{Memory, place, peek}
use Rattle.dm_space.specs.Places.{IsWritable}
use Rattle.dm_blocks.specs.declared.header.Header.{Header}
use Rattle.dm_blocks.specs.Chain.{IsHeader, signature, Spells, HasHeader, next, IsClear, signature_byte}
use Rattle.dm_blocks.specs.Reading.{is_nil}

-- bytes 0 to 4 of the headers of L are the same
pub record Agrees (S T : Memory) (L : List Header) : Type 0 where
  pub same : (g k : ℕ) → HasHeader L g → k < 5 → peek T (16 * g + k) ≡ peek S (16 * g + k)

at_zero : (S : Memory) (a : ℕ) → peek S (a + 0) ≡ peek S a
at_zero S a = ap (peek S) (omega arith)

at_next : (S : Memory) (a k : ℕ) → peek S (a + k + 1) ≡ peek S (a + (k + 1))
at_next S a k = ap (peek S) (omega arith)

pub header_kept : (S T : Memory) (b : Header) (m : ℕ) → ((k : ℕ) → k < 5 → peek T (16 * b.segment + k)
    ≡ peek S (16 * b.segment + k)) → IsHeader S b m → IsHeader T b m
header_kept S T b m same x = record {
  fits = x.fits;
  bytes = λ k small. subst (λ (v : ℕ). v < 256) (sym (same k small)) (x.bytes k small);
  signed = sym (at_zero T _) ∙ same 0 (omega arith) ∙ at_zero S _ ∙ x.signed;
  owned = ap₂ (λ x y. x + 256 * y) (same 1 (omega arith)) (at_next T (16 * b.segment) 1 ∙ same 2 (omega arith)
      ∙ sym (at_next S (16 * b.segment) 1)) ∙ x.owned;
  sized = ap₂ (λ x y. x + 256 * y) (same 3 (omega arith)) (at_next T (16 * b.segment) 3 ∙ same 4 (omega arith)
      ∙ sym (at_next S (16 * b.segment) 3)) ∙ x.sized;
}

agrees_rest : (S T : Memory) (b : Header) (L : List Header) → Agrees S T (b ∷ L) → Agrees S T L
agrees_rest S T b L a = record { same = λ g k w. a.same g k (inr w) }

pub spells_kept : (S T : Memory) (h : ℕ) (L : List Header) → Agrees S T L → Spells S h L → Spells T h L
spells_kept S T h [] a s = tt
spells_kept S T h (b ∷ L) a s = (
  s.0,
  header_kept S T b _ (λ k. a.same b.segment k (inl refl)) s.1,
  spells_kept S T (next b) L (agrees_rest S T b L a) s.2,
)

signature-append : (P Q : List Header) (b : Header) → signature (P ++ b ∷ Q) ≡ 0x4D
signature-append [] Q b = refl
signature-append (p ∷ P) Q b = refl

-- the end of a chain is put in place of another
pub spells_replace : (S T : Memory) (h : ℕ) (P : List Header) (b c : Header) (Q R : List Header) →
    Spells S h (P ++ b ∷ Q) → Agrees S T P → c.segment ≡ b.segment → Spells T c.segment (c ∷ R) →
    Spells T h (P ++ c ∷ R)
spells_replace S T h [] b c Q R s a e t = (e ∙ s.0, t.1, t.2)
spells_replace S T h (p ∷ P) b c Q R s a e t =
    let x : IsHeader S p 0x4D = rw (signature-append P Q b) at s.1 in
    let y = header_kept S T p _ (λ k. a.same p.segment k (inl refl)) x in
    (s.0, rw (signature-append P R c) y, spells_replace S T (next p) P b c Q R s.2 (agrees_rest S T p P a) e t)

pub spells_end : (S : Memory) (h : ℕ) (P : List Header) (b : Header) (Q : List Header) → Spells S h (P ++ b ∷ Q) →
    Spells S b.segment (b ∷ Q)
spells_end S h [] b Q s = (refl, s.1, s.2)
spells_end S h (p ∷ P) b Q s = spells_end S (next p) P b Q s.2

pub has_left : (P Q : List Header) (g : ℕ) → HasHeader P g → HasHeader (P ++ Q) g
has_left [] Q g w = absurd w
has_left (p ∷ P) Q g (inl e) = inl e
has_left (p ∷ P) Q g (inr w) = inr (has_left P Q g w)

pub has_right : (P Q : List Header) (g : ℕ) → HasHeader Q g → HasHeader (P ++ Q) g
has_right [] Q g w = w
has_right (p ∷ P) Q g w = inr (has_right P Q g w)

pub has_either : (P Q : List Header) (g : ℕ) → HasHeader (P ++ Q) g → HasHeader P g ⊎ HasHeader Q g
has_either [] Q g w = inr w
has_either (p ∷ P) Q g (inl e) = inl (inl e)
has_either (p ∷ P) Q g (inr w) = elim (has_either P Q g w) [ inl l ↦ inl (inr l) | inr r ↦ inr r ]

-- segments rise
pub spells_above : (S : Memory) (h : ℕ) (L : List Header) → Spells S h L → (g : ℕ) → HasHeader L g → h ≤ g
spells_above S h [] s g w = absurd w
spells_above S h (b ∷ L) s g (inl e) = let x = s.0 in omega arith
spells_above S h (b ∷ L) s g (inr w) = let x = s.0 in let y = spells_above S (next b) L s.2 g w in omega arith

pub spells_below : (S : Memory) (h : ℕ) (P : List Header) (b : Header) (Q : List Header) → Spells S h (P ++ b ∷ Q) →
    (g : ℕ) → HasHeader P g → g < b.segment
spells_below S h [] b Q s g w = absurd w
spells_below S h (p ∷ P) b Q s g (inl e) = let y = spells_above S (next p) (P ++ b
    ∷ Q) s.2 b.segment (has_right P (b ∷ Q) b.segment (inl refl)) in omega arith
spells_below S h (p ∷ P) b Q s g (inr w) = spells_below S (next p) P b Q s.2 g w

pub clear_within : (S : Memory) (L M : List Header) → ((g : ℕ) → HasHeader M g → HasHeader L g) → IsClear S L →
    IsClear S M
clear_within S L M in' c = record {
  writable = λ h w. c.writable h (in' h w);
  apart = λ h g w v. c.apart h g (in' h w) (in' g v);
}

pub clear_map : (S T : Memory) (L : List Header) → ((a : ℕ) → place T a ≡ place S a) → IsClear S L → IsClear T L
clear_map S T L map c = record {
  writable = λ h w. subst IsWritable (sym (map _)) (c.writable h w);
  apart = λ h g w v e. c.apart h g w v (sym (map _) ∙ e ∙ map _);
}

pub last-signature : (last : Bool) (K : List Header) → last ≡ is_nil K → signature_byte last ≡ signature K
last-signature last [] e = ap signature_byte e
last-signature last (c ∷ K) e = ap signature_byte e
