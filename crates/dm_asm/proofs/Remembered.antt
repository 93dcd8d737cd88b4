-- What is kept of lines, one after the other.
use Rattle.std.proofs.Common.{◌≡◌, ℕ, ◌≤◌, List, [], ◌∷◌, ◌++◌, length, take, drop, Option, Some, None, IfSome, refl, sym, ap, subst, ◌∙◌, arith}
use Rattle.std.proofs.lemmas.List.{append_assoc, append-nil, length-append}
use Rattle.dm_lines.specs.Statements.{Item}
use Rattle.dm_asm.specs.declared.known.Line.{Line}
use Rattle.dm_asm.specs.declared.known.Line.TheVariants as line
use Rattle.dm_asm.specs.declared.known.Known.{Known}
use Rattle.dm_asm.specs.Codes.{HasLength}
use Rattle.dm_asm.specs.Programs.{Sized}
use Rattle.dm_asm.specs.inner.Fixed.{AreKnown, IsFixed, Keeps, KeepsOf}

-- ---- one line more

pub known_more : (xs : List Sized) (ls : List Line) (bytes : List ℕ) (x : Sized) (n : ℕ) (code : List ℕ) →
    AreKnown xs ls bytes → IsFixed x.statement.item code → n ≡ length code → AreKnown (xs ++ x ∷ []) (ls ++ line.Known n
    ∷ []) (bytes ++ code)
known_more [] [] bytes x n code h f e = (
  [],
  record {
    code = code;
    is = f;
    long = e;
    parts = ap (λ b. b ++ code) h ∙ sym (append-nil code);
  },
  refl,
)
known_more [] (l ∷ ls) bytes x n code h f e = absurd h
known_more (y ∷ xs) [] bytes x n code h f e = absurd h
known_more (y ∷ xs) (line.Open ∷ ls) bytes x n code h f e = known_more xs ls bytes x n code h f e
known_more (y ∷ xs) (line.Known k ∷ ls) bytes x n code h f e = (
  h.0 ++ code,
  record {
    code = h.1.code;
    is = h.1.is;
    long = h.1.long;
    parts = ap (λ b. b
        ++ code) h.1.parts ∙ append_assoc h.1.code h.0 code;
  },
  known_more xs ls h.0 x n code h.2 f e,
)

pub open_more : (xs : List Sized) (ls : List Line) (bytes : List ℕ) (x : Sized) → AreKnown xs ls bytes →
    AreKnown (xs ++ x ∷ []) (ls ++ line.Open ∷ []) bytes
open_more [] [] bytes x h = h
open_more [] (l ∷ ls) bytes x h = absurd h
open_more (y ∷ xs) [] bytes x h = absurd h
open_more (y ∷ xs) (line.Open ∷ ls) bytes x h = open_more xs ls bytes x h
open_more (y ∷ xs) (line.Known k ∷ ls) bytes x h = (h.0, h.1, open_more xs ls h.0 x h.2)

pub keeps_of : (old new : Known) (item : Item) (r : Option ℕ) → IfSome r (λ n. HasLength item n) →
    ((n : ℕ) → HasLength item n → r ≡ Some n) → IfSome r (λ n. n ≤ 16) → Keeps old new item → KeepsOf old new item r
keeps_of old new item None found only short k = λ n h. let e : None ≡ Some n = only n h in cc
keeps_of old new item (Some n) found only short k = (found, omega (arith, short), k)

-- ---- the first of the lines

take_front : (a b : List ℕ) → take (length a) (a ++ b) ≡ a
take_front [] b = refl
take_front (x ∷ a) b = ap (λ r. x ∷ r) (take_front a b)

drop_front : (a b : List ℕ) → drop (length a) (a ++ b) ≡ b
drop_front [] b = refl
drop_front (x ∷ a) b = drop_front a b

pub record FirstKnown (x : Sized) (xs : List Sized) (n : ℕ) (ls : List Line) (bytes : List ℕ) : Type 0 where
  pub fits : n ≤ length bytes
  pub is : IsFixed x.statement.item (take n bytes)
  pub others : AreKnown xs ls (drop n bytes)

pub first_known : (x : Sized) (xs : List Sized) (n : ℕ) (ls : List Line) (bytes : List ℕ) →
    AreKnown (x ∷ xs) (line.Known n ∷ ls) bytes → FirstKnown x xs n ls bytes
first_known x xs n ls bytes h =
    let front : take n bytes ≡ h.1.code = ap (take n) h.1.parts ∙ ap (λ k. take k (h.1.code ++ h.0)) h.1.long
    ∙ take_front h.1.code h.0 in
    let back : drop n bytes ≡ h.0 = ap (drop n) h.1.parts ∙ ap (λ k. drop k (h.1.code ++ h.0)) h.1.long
    ∙ drop_front h.1.code h.0 in
    let all : length bytes ≡ length (h.1.code ++ h.0) = ap length h.1.parts in
    let long = h.1.long in
    record {
      fits = omega (arith, all, long, length-append h.1.code h.0);
      is = subst (IsFixed x.statement.item) (sym front) h.1.is;
      others = subst (AreKnown xs ls) (sym back) h.2;
    }
