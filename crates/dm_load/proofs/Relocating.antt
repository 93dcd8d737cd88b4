-- Relocations within a part of the image
use Rattle.std.proofs.Common.{◌≡◌, ℕ, zero, suc, ◌+◌, ◌-◌, ◌/◌, ◌%◌, ◌<◌, ◌≤◌, Bool, true, false, cond, List, [], ◌∷◌, length, set, take, drop, min, refl, sym, ◌∙◌, ap, arith, add-one, ◌⊎◌, inl, inr}
use Rattle.std.proofs.lemmas.List.{length-set, length-take, length-drop, get_or-take, drop-set-lt, drop_all}
use Rattle.std.proofs.Math.Seq.{take-set-lt}
use Rattle.dm_load.specs.declared.format.Kind.{Kind}
use Rattle.dm_load.specs.declared.format.Kind.TheVariants.{Com, Mz}
use Rattle.dm_load.specs.Image.{word, with_word, is_mz, file_kind, IsGoodAs, IsGoodMz, file_size, header_length, entry, target, image, relocations, relocated_by}

-- what a relocation of a good file needs
pub record IsThere (file : List ℕ) (k : ℕ) : Type 0 where
  pub header : 28 ≤ length file
  pub listed : entry file (k + 1) ≤ length file
  pub inside : target file k + 2 ≤ length (image file)

length-image : (file : List ℕ) → is_mz file ≡ true → IsGoodMz file → length (image file)
    ≡ file_size file - header_length file
unfolding image
length-image file e g =
    let whole = g.whole in
    rw e (length-take (file_size file - header_length file) (drop (header_length file) file)
    ∙ simp length-drop (omega arith))

there-mz : (file : List ℕ) (k : ℕ) → is_mz file ≡ true → IsGoodMz file → k < word file 6 → IsThere file k
there-mz file k e g h = record {
  header = g.header;
  listed = let some : 0 < word file 6 = omega arith in omega (arith, g.table some);
  inside = omega (arith, length-image file e g, g.inside k h);
}

there-true : (file : List ℕ) (k : ℕ) (b : Bool) → is_mz file ≡ b → Mz ≡ cond b Mz Com → IsGoodMz file →
    k < cond b (word file 6) 0 → IsThere file k
there-true file k true e p g h = there-mz file k e g h
there-true file k false e p g h = cc

pub there : (kind : Kind) (file : List ℕ) (k : ℕ) → kind ≡ file_kind file → IsGoodAs kind file → k < relocations file →
    IsThere file k
unfolding relocations
there Com file k e g h =
    elim (is_mz file) as (λ b. Com ≡ cond b Mz Com → k < cond b (word file 6) 0 → IsThere file k) [
      | true ↦ λ p q. cc
      | false ↦ λ p q. absurd (omega arith)
    ] e h
there Mz file k e g h =
    there-true file k (is_mz file) refl e g h

pub length-with_word : (xs : List ℕ) (i v : ℕ) → length (with_word xs i v) ≡ length xs
length-with_word xs i v = simp length-set

pub length-relocated : (k : ℕ) (file : List ℕ) (start : ℕ) → length (relocated_by k file start) ≡ length (image file)
length-relocated zero file start = refl
length-relocated (suc k) file start = length-with_word _ _ _ ∙ length-relocated k file start

take-with_word : (n : ℕ) (xs : List ℕ) (i v : ℕ) → i + 2 ≤ n → take n (with_word xs i v) ≡ with_word (take n xs) i v
take-with_word n xs i v h =
    take-set-lt n (set xs i (v % 256)) (i + 1) (v / 256) (omega arith)
    ∙ ap (λ ys. set ys (i + 1) (v / 256)) (take-set-lt n xs i (v % 256) (omega arith))

word-take : (n : ℕ) (xs : List ℕ) (i : ℕ) → i + 2 ≤ n → word (take n xs) i ≡ word xs i
word-take n xs i h = rw (get_or-take n xs i 0 (omega arith), get_or-take n xs (i + 1) 0 (omega arith)) refl

-- one more relocation
next : (k : ℕ) (file : List ℕ) (start n : ℕ) → target file k + 2 ≤ n →
    with_word (take n (relocated_by k file start)) (target file k) ((word (take n (relocated_by k file start))
    (target file k) + start) % 65536) ≡ take n (relocated_by (suc k) file start)
next k file start n h =
    ap (λ w. with_word (take n (relocated_by k file start)) (target file k) ((w + start) % 65536))
    (word-take n (relocated_by k file start) (target file k) h)
    ∙ sym (take-with_word n (relocated_by k file start) (target file k) _ h)

pub one-more : (k : ℕ) (file : List ℕ) (start n : ℕ) (bytes : List ℕ) → target file k + 2 ≤ n →
    bytes ≡ take n (relocated_by k file start) →
    with_word bytes (target file k) ((word bytes (target file k) + start) % 65536)
    ≡ take n (relocated_by (k + 1) file start)
one-more k file start n bytes h e =
    ap (λ ys. with_word ys (target file k) ((word ys (target file k) + start) % 65536)) e ∙ next k file start n h
    ∙ ap (λ j. take n (relocated_by j file start)) (sym (add-one k))

-- what a part of it holds
pub length-part : (k : ℕ) (file : List ℕ) (start : ℕ) (bytes : List ℕ) →
    bytes ≡ take 0x110000 (relocated_by k file start) → length bytes ≡ min (length (image file)) 0x110000
length-part k file start bytes e =
    ap length e ∙ length-take 0x110000 (relocated_by k file start)
    ∙ ap (λ n. min 0x110000 n) (length-relocated k file start) ∙ omega arith

take-nil : (m : ℕ) → take {A = ℕ} m [] ≡ []
take-nil zero = refl
take-nil (suc m) = refl

take-min : (m : ℕ) (xs : List ℕ) (n : ℕ) → n ≡ min (length xs) m → take n xs ≡ take m xs
take-min m [] n e = let z : n ≡ 0 = omega arith in rw z (sym (take-nil m))
take-min zero (x ∷ xs) n e = let z : n ≡ 0 = omega arith in rw z refl
take-min (suc m) (x ∷ xs) zero e = absurd (omega arith)
take-min (suc m) (x ∷ xs) (suc n) e = ap (λ ys. x ∷ ys) (take-min m xs n (omega arith))

pub first-part : (bytes : List ℕ) (n : ℕ) → n ≡ min (length bytes) 0x110000 → take n bytes ≡ take 0x110000 bytes
first-part bytes n e = take-min 0x110000 bytes n e

-- what stands behind all relocations
pub drop-relocated : (n k : ℕ) (file : List ℕ) (start : ℕ) → ((j : ℕ) → target file j + 2 ≤ n) →
    drop n (relocated_by k file start) ≡ drop n (image file)
drop-relocated n zero file start reach = refl
drop-relocated n (suc k) file start reach =
    let before = relocated_by k file start in
    let at = target file k in
    let inside : at + 2 ≤ n = reach k in
    let w = (word before at + start) % 65536 in
    drop-set-lt n (set before at (w % 256)) (at + 1) (w / 256) (omega arith)
    ∙ drop-set-lt n before at (w % 256) (omega arith) ∙ drop-relocated n k file start reach

nat_cases : (a b : ℕ) → (a ≤ b) ⊎ (b ≤ a)
nat_cases zero b = inl (omega arith)
nat_cases (suc a) zero = inr (omega arith)
nat_cases (suc a) (suc b) = elim (nat_cases a b) [ inl l ↦ inl (omega arith) | inr r ↦ inr (omega arith) ]

pub drop-min : (n : ℕ) (xs : List ℕ) → drop (min (length xs) n) xs ≡ drop n xs
drop-min n xs = elim (nat_cases (length xs) n) [
  | inl l ↦ (let e : min (length xs) n ≡ length xs = omega arith in ap (λ k. drop k xs) e
      ∙ drop_all (length xs) xs (omega arith) ∙ sym (drop_all n xs l))
  | inr g ↦ (let e : min (length xs) n ≡ n = omega arith in ap (λ k. drop k xs) e)
]
