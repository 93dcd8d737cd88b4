-- Bytes have one listing.
use Rattle.std.proofs.Common.{◌≡◌, ℕ, ◌+◌, ◌-◌, ◌≤◌, List, [], ◌∷◌, ◌++◌, length, take, drop, inl, inr, refl, sym, ap, subst, ◌∙◌, arith, append-nil, append_assoc, length-drop, length-take-le}
use Rattle.std.proofs.Math.Seq.{take-add}
use Rattle.std.proofs.lemmas.Bool.{cases_lt}
use Rattle.std.specs.Prelude.{codes}
use Rattle.dm_ins.specs.declared.ins.Ins.{Ins}
use Rattle.dm_ins.specs.Preferred.{IsPreferred}
use Rattle.dm_decode.proofs.Exact.{no_front}
use Rattle.dm_decode.specs.disassembly.Listing.{bytes_at, data_text, instruction_text, StandsInFile, IsListedLine, preferred, other, single, Lists, none, more, IsListing}
use Rattle.dm_decode.proofs.disassembly.Lines.{shows_part}

-- ---- one instruction stands at a place

pub bytes_long : (bytes : List ℕ) (at k : ℕ) → at + k ≤ length bytes → length (bytes_at bytes at k) ≡ k
bytes_long bytes at k h = let rest : k ≤ length (drop at bytes) = omega (arith, h, length-drop at bytes) in
    length-take-le k (drop at bytes) rest

longer : (bytes : List ℕ) (at k m : ℕ) → k ≤ m → bytes_at bytes at m ≡ bytes_at bytes at k
    ++ take (m - k) (drop k (drop at bytes))
longer bytes at k m le =
    let e : m ≡ k + (m - k) = omega (arith, le) in
    ap (λ (n : ℕ). take n (drop at bytes)) e ∙ take-add k (m - k) (drop at bytes)

in_order : (bytes : List ℕ) (at : ℕ) (i j : Ins) (k m : ℕ) → k ≤ m → StandsInFile bytes at i k →
    StandsInFile bytes at j m → (k ≡ m) × (i ≡ j)
in_order bytes at i j k m le s t =
    let p = no_front i j (bytes_at bytes at k) (bytes_at bytes at m) (take (m - k) (drop k (drop at bytes))) s.spells
    t.spells (longer bytes at k m le) in
    (sym (bytes_long bytes at k s.within) ∙ ap length p.0 ∙ bytes_long bytes at m t.within, p.1)

stands_once : (bytes : List ℕ) (at : ℕ) (i j : Ins) (k m : ℕ) → StandsInFile bytes at i k → StandsInFile bytes at j m →
    (k ≡ m) × (i ≡ j)
stands_once bytes at i j k m s t = elim (cases_lt m k) [
  | inl lt ↦ (let p = in_order bytes at j i m k (omega (arith, lt)) t s in (sym p.0, sym p.1))
  | inr le ↦ in_order bytes at i j k m le s t
]

carried : (bytes : List ℕ) (at : ℕ) (i j : Ins) (k m : ℕ) → (k ≡ m) × (i ≡ j) → IsPreferred i (bytes_at bytes at k) →
    IsPreferred j (bytes_at bytes at m)
carried bytes at i j k m e p = subst (λ (x : Ins). IsPreferred x (bytes_at bytes at m)) e.1
    (subst (λ (n : ℕ). IsPreferred i (bytes_at bytes at n)) e.0 p)

-- ---- one line is at a place

text_same : (at : ℕ) (i j : Ins) (k m : ℕ) → (k ≡ m) × (i ≡ j) → instruction_text i at k ≡ instruction_text j at m
text_same at i j k m e = ap (λ (x : Ins). instruction_text x at k) e.1 ∙ ap (λ (n : ℕ). instruction_text j at n) e.0

shows_once : (bytes : List ℕ) (at k m : ℕ) (a b : List ℕ) → IsListedLine bytes at k a → IsListedLine bytes at m b →
    (k ≡ m) × (a ≡ b)
shows_once bytes at k m a b (preferred i x s p) (preferred j y t q) = let e = stands_once bytes at i j k m s t in
    (e.0, text_same at i j k m e)
shows_once bytes at k m a b (preferred i x s p) (other j y t q) =
    absurd (q (carried bytes at i j k m (stands_once bytes at i j k m s t) p))
shows_once bytes at k m a b (preferred i x s p) (single h n) = absurd (n i k s)
shows_once bytes at k m a b (other i x s p) (preferred j y t q) =
    absurd (p (carried bytes at j i m k (stands_once bytes at j i m k t s) q))
shows_once bytes at k m a b (other i x s p) (other j y t q) =
    let e = stands_once bytes at i j k m s t in (
      e.0,
      ap (λ (n : ℕ). data_text (bytes_at bytes at n) ++ codes " ; "
          ++ instruction_text i at k) e.0 ∙ ap (λ (z : List ℕ). data_text (bytes_at bytes at m) ++ codes " ; "
          ++ z) (text_same at i j k m e),
    )
shows_once bytes at k m a b (other i x s p) (single h n) = absurd (n i k s)
shows_once bytes at k m a b (single g o) (preferred j y t q) = absurd (o j m t)
shows_once bytes at k m a b (single g o) (other j y t q) = absurd (o j m t)
shows_once bytes at k m a b (single g o) (single h n) = (refl, refl)

-- ---- the lines from a place on

data From (bytes : List ℕ) : ℕ → List ℕ → Type 0 where
  ends : (at : ℕ) → at ≡ length bytes → From bytes at []
  goes : (at k : ℕ) (line text : List ℕ) → IsListedLine bytes at k line → From bytes (at + k) text →
      From bytes at (line ++ 10 ∷ text)

turned : (bytes : List ℕ) (at : ℕ) (front back : List ℕ) → Lists bytes at front → From bytes at back →
    From bytes 0 (front ++ back)
turned bytes at front back none f = f
turned bytes at front back (more j k text line l s) f =
    subst (From bytes 0) (sym (append_assoc (text ++ line) (10 ∷ []) back ∙ append_assoc text line (10 ∷ back)))
    (turned bytes j text (line ++ 10 ∷ back) l (goes j k line back s f))

from_once : (bytes : List ℕ) (at : ℕ) (a b : List ℕ) → From bytes at a → From bytes at b → a ≡ b
from_once bytes at a b (ends p e) (ends q f) = refl
from_once bytes at a b (ends p e) (goes q k line text s f) = let i = shows_part bytes at k line s in
    absurd (omega (arith, e, i.some, i.within))
from_once bytes at a b (goes p k line text s f) (ends q e) = let i = shows_part bytes at k line s in
    absurd (omega (arith, e, i.some, i.within))
from_once bytes at a b (goes p k line text s f) (goes q m rest back t g) =
    let e = shows_once bytes at k m line rest s t in
    let r : text ≡ back = from_once bytes (at + k) text back f (subst (λ (n : ℕ). From bytes (at + n) back)
    (sym e.0) g) in
    ap (λ (z : List ℕ). z ++ 10 ∷ text) e.1 ∙ ap (λ (z : List ℕ). rest ++ 10 ∷ z) r

whole : (bytes text : List ℕ) → IsListing bytes text → From bytes 0 text
whole bytes text l = subst (From bytes 0) (append-nil text) (turned bytes (length bytes) text [] l
    (ends (length bytes) refl))

pub listing_once : (bytes a b : List ℕ) → IsListing bytes a → IsListing bytes b → a ≡ b
listing_once bytes a b l m = from_once bytes 0 a b (whole bytes a l) (whole bytes b m)
