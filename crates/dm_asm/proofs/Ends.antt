-- The lines of a text.
use Rattle.std.proofs.Common.{◌≡◌, ◌&&◌, ℕ, Bool, subst, suc, ◌<◌, ◌+◌, ◌-◌, List, [], ◌∷◌, ◌++◌, take, drop, refl, ap, sym, ◌∙◌, get_or, length, true, false, eqb, arith, add-one, if◌then◌else◌}
use Rattle.std.proofs.Math.Seq.{drop-cons, take-suc, take-length}
use Rattle.std.proofs.lemmas.List.{take_rest, take-append-drop}
use Rattle.dm_asm.specs.Lines.{onto, ends_line, lines_of}
use Rattle.dm_asm.specs.inner.Lines.{trim}

-- no byte ends a line
abbrev pub IsOpen : List ℕ → Type 0
IsOpen [] = Unit {0}
IsOpen (b ∷ bs) = (eqb b 10 ≡ false) × IsOpen bs

last_cases : (t : Bool) (b : ℕ) (ls : List (List ℕ)) → (if t && true then [] ∷ ls else (b ∷ []) ∷ ls) ≡ (if t then []
    else b ∷ []) ∷ ls
last_cases true b ls = refl
last_cases false b ls = refl

no_end : (t : Bool) (x y : List (List ℕ)) → (if t && false then x else y) ≡ y
no_end true x y = refl
no_end false x y = refl

step : (b : ℕ) (bs : List ℕ) → eqb b 10 ≡ false → ends_line bs ≡ false → lines_of (b ∷ bs) ≡ onto b (lines_of bs)
step b bs e f = rw (e, f) (no_end (eqb b 13) _ _)

pub line_found : (front back : List ℕ) → IsOpen front → lines_of (front ++ 10 ∷ back) ≡ trim front ∷ lines_of back
line_found [] back o = refl
line_found (b ∷ []) back o = rw o.0 (last_cases (eqb b 13) b (lines_of back))
line_found (b ∷ c ∷ front) back o =
    step b (c ∷ front ++ 10 ∷ back) o.0 o.1.0 ∙ ap (onto b) (line_found (c ∷ front) back o.1)

pub line_all : (b : ℕ) (bs : List ℕ) → IsOpen (b ∷ bs) → lines_of (b ∷ bs) ≡ (b ∷ bs) ∷ []
line_all b [] o = step b [] o.0 refl
line_all b (c ∷ bs) o = step b (c ∷ bs) o.0 o.1.0 ∙ ap (onto b) (line_all c bs o.1)

rest_behind : (text : List ℕ) (i : ℕ) → take (length text - (i + 1)) (drop (i + 1) text) ≡ drop (suc i) text
rest_behind text i = rw add-one (take_rest text (suc i))

pub line_at : (text : List ℕ) (i : ℕ) (line : List ℕ) → i < length text → get_or text i 0 ≡ 10 → IsOpen (take i text) →
    line ≡ trim (take i text) → lines_of text ≡ line ∷ lines_of (take (length text - (i + 1)) (drop (i + 1) text))
line_at text i line h e o is =
    let parts : text ≡ take i text ++ 10 ∷ drop (suc i) text = sym (take-append-drop i text)
    ∙ ap (λ x. take i text ++ x) (drop-cons text i 0 h ∙ ap (λ b. b ∷ drop (suc i) text) e) in
    ap lines_of parts ∙ line_found (take i text) (drop (suc i) text) o
    ∙ ap (λ x. x ∷ lines_of (drop (suc i) text)) (sym is) ∙ ap (λ x. line ∷ lines_of x) (sym (rest_behind text i))

open_more : (xs : List ℕ) (b : ℕ) → IsOpen xs → eqb b 10 ≡ false → IsOpen (xs ++ b ∷ [])
open_more [] b o e = (e, tt)
open_more (x ∷ xs) b o e = (o.0, open_more xs b o.1 e)

pub still_open : (text : List ℕ) (i : ℕ) → i < length text → eqb (get_or text i 0) 10 ≡ false → IsOpen (take i text) →
    IsOpen (take (i + 1) text)
still_open text i h e o = rw (add-one, take-suc text i 0 h) (open_more (take i text) (get_or text i 0) o e)

pub line_whole : (text : List ℕ) (i : ℕ) → i ≡ length text → eqb (length text) 0 ≡ false → IsOpen (take i text) →
    lines_of text ≡ text ∷ []
line_whole [] i h e o = absurd cc
line_whole (b ∷ bs) i h e o = line_all b bs (subst IsOpen (take-length (b ∷ bs))
    (subst (λ k. IsOpen (take k (b ∷ bs))) h o))

trim_end : (front : List ℕ) → trim (front ++ 13 ∷ []) ≡ front
trim_end [] = refl
trim_end (b ∷ []) = refl
trim_end (b ∷ c ∷ front) = ap (λ x. b ∷ x) (trim_end (c ∷ front))

trim_other : (front : List ℕ) (b : ℕ) → eqb b 13 ≡ false → trim (front ++ b ∷ []) ≡ front ++ b ∷ []
trim_other [] b e = rw e refl
trim_other (a ∷ []) b e = rw e refl
trim_other (a ∷ c ∷ front) b e = ap (λ x. a ∷ x) (trim_other (c ∷ front) b e)

last_apart : (bs : List ℕ) → 0 < length bs → bs ≡ take (length bs - 1) bs ++ get_or bs (length bs - 1) 0 ∷ []
last_apart bs h =
    let lt : length bs - 1 < length bs = omega arith in
    let e : suc (length bs - 1) ≡ length bs = omega arith in
    sym (take-length bs) ∙ ap (λ k. take k bs) (sym e) ∙ take-suc bs (length bs - 1) 0 lt

pub trimmed_end : (bs : List ℕ) → 0 < length bs → get_or bs (length bs - 1) 0 ≡ 13 → take (length bs - 1) bs ≡ trim bs
trimmed_end bs h e =
    sym (trim_end (take (length bs - 1) bs)) ∙ ap trim (ap (λ b. take (length bs - 1) bs ++ b ∷ []) (sym e)
    ∙ sym (last_apart bs h))

pub trimmed_other : (bs : List ℕ) → 0 < length bs → eqb (get_or bs (length bs - 1) 0) 13 ≡ false → bs ≡ trim bs
trimmed_other bs h e =
    last_apart bs h ∙ sym (trim_other (take (length bs - 1) bs) _ e) ∙ ap trim (sym (last_apart bs h))
