-- A text, read one byte at a time
use Rattle.std.proofs.Common.{◌≡◌, ℕ, suc, zero, ◌+◌, ◌-◌, ◌<◌, ◌≤◌, ◌%◌, Bool, true, false, not, cond, eqb, List, [], ◌∷◌, ◌++◌, length, refl, sym, ◌∙◌, ap, arith, append_assoc}
use Rattle.std.proofs.lemmas.Bool.Decides.{nat_tests}
use Rattle.std.proofs.lemmas.List.{append-nil}
use Rattle.std.proofs.lemmas.List.Sums.{take_while-cons}
use Rattle.dm_space.specs.Memory.{Memory, peek, linear}
use Rattle.dm_proc.specs.Writes.{bytes_from}
use Rattle.dm_console.specs.Streams.{Streams}
use Rattle.dm_services.specs.Text.{text_within}

-- the byte at an offset, which wraps
abbrev pub byte : Memory → ℕ → ℕ → ℕ
byte m s o = peek m (linear m.a20 s (o % 65536))

text_within-none : (m : Memory) (s o : ℕ) → text_within m s o 0 ≡ []
unfolding text_within
text_within-none m s o = refl

text_within-suc : (m : Memory) (s o n : ℕ) → text_within m s o (suc n) ≡ cond (not (eqb (byte m s o) 0x24)) (byte m s o
    ∷ text_within m s (suc o) n) []
unfolding text_within
text_within-suc m s o n = take_while-cons (λ b. not (eqb b 0x24)) (byte m s o) (bytes_from m s (suc o) n)

-- what is left begins with its byte, unless that is the `$`
text_within-more : (m : Memory) (s o n : ℕ) → 0 < n → eqb (byte m s o) 0x24 ≡ false → text_within m s o n ≡ byte m s o
    ∷ text_within m s (suc o) (n - 1)
text_within-more m s o zero h e = absurd (omega arith)
text_within-more m s o (suc n) h e = let d : suc n - 1 ≡ n = omega arith in rw d (text_within-suc m s o n ∙ rw e refl)

text_within-end : (m : Memory) (s o n : ℕ) → eqb (byte m s o) 0x24 ≡ true → text_within m s o n ≡ []
text_within-end m s o zero e = text_within-none m s o
text_within-end m s o (suc n) e = text_within-suc m s o n ∙ rw e refl

cons-or-nil : (m : Memory) (s o n : ℕ) (b : Bool) → 0 < n → eqb (byte m s o) 0x24 ≡ b →
    0 < length (text_within m s o n) → text_within m s o n ≡ byte m s o ∷ text_within m s (suc o) (n - 1)
cons-or-nil m s o n false h e l = text_within-more m s o n h e
cons-or-nil m s o n true h e l = let none : length (text_within m s o n) ≡ 0 = ap length (text_within-end m s o n e) in
    absurd (omega arith)

text_within-cons : (m : Memory) (s o n : ℕ) → 0 < length (text_within m s o n) → text_within m s o n ≡ byte m s o
    ∷ text_within m s (suc o) (n - 1)
text_within-cons m s o zero l = let none : length (text_within m s o 0) ≡ 0 = ap length (text_within-none m s o) in
    absurd (omega arith)
text_within-cons m s o (suc n) l = cons-or-nil m s o (suc n) _ (omega arith) refl l

at-most : (m : Memory) (s o n : ℕ) (b : Bool) → eqb (byte m s o) 0x24 ≡ b → length (text_within m s (suc o) n) ≤ n →
    length (text_within m s o (suc n)) ≤ suc n
at-most m s o n true e h = let none : length (text_within m s o (suc n)) ≡ 0 =
    ap length (text_within-end m s o (suc n) e) in omega arith
at-most m s o n false e h = let some : length (text_within m s o (suc n))
    ≡ suc (length (text_within m s (suc o) (suc n - 1))) = ap length (text_within-more m s o (suc n) (omega arith) e) in
    let d : suc n - 1 ≡ n = omega arith in let h2 : length (text_within m s (suc o) (suc n - 1)) ≤ n =
    rw d h in omega arith

pub length-text_within : (m : Memory) (s o n : ℕ) → length (text_within m s o n) ≤ n
length-text_within m s o zero = let none : length (text_within m s o 0) ≡ 0 = ap length (text_within-none m s o) in
    omega arith
length-text_within m s o (suc n) = at-most m s o n _ refl (length-text_within m s (suc o) n)

nil-from_length : (xs : List ℕ) → length xs ≡ 0 → xs ≡ []
nil-from_length [] e = refl
nil-from_length (x ∷ xs) e = absurd (omega arith)

-- the first k of at most n bytes are no `$`
pub record IsRead (m : Memory) (s o n k : ℕ) : Type 0 where
  pub counts : length (text_within m s o n) ≡ k + length (text_within m s (o + k) (n - k))

pub read-none : (m : Memory) (s o n : ℕ) → IsRead m s o n 0
read-none m s o n = let d : n - 0 ≡ n = omega arith in let e : o + 0 ≡ o = omega arith in
    record { counts = rw (d, e) (omega arith) }

next : (m : Memory) (s o n k : ℕ) → text_within m s (suc (o + k)) (n - k - 1)
    ≡ text_within m s (o + (k + 1)) (n - (k + 1))
next m s o n k = let d : n - k - 1 ≡ n - (k + 1) = omega arith in let e : suc (o + k) ≡ o + (k + 1) =
    omega arith in rw (d, e) refl

no_dollar : (b c : ℕ) → b ≡ c → (b ≡ 0x24 → ⊥) → eqb c 0x24 ≡ false
no_dollar b c e h = grind (arith, nat_tests)

dollar : (b c : ℕ) → b ≡ c → b ≡ 0x24 → eqb c 0x24 ≡ true
dollar b c e h = grind (arith, nat_tests)

pub read-more : (m : Memory) (s o n k b : ℕ) → k < n → b ≡ byte m s (o + k) → (b ≡ 0x24 → ⊥) → IsRead m s o n k →
    IsRead m s o n (k + 1)
read-more m s o n k b h f g r =
    let e = no_dollar b (byte m s (o + k)) f g in
    let cut : length (text_within m s (o + k) (n - k)) ≡ suc (length (text_within m s (o + (k + 1)) (n - (k + 1))))
    = ap length (text_within-more m s (o + k) (n - k) (omega arith) e)
    ∙ ap (λ (xs : List ℕ). suc (length xs)) (next m s o n k) in
    let before = r.counts in
    record { counts = omega arith }

pub read-end : (m : Memory) (s o n k b : ℕ) → b ≡ byte m s (o + k) → b ≡ 0x24 → IsRead m s o n k →
    k ≡ length (text_within m s o n)
read-end m s o n k b f g r =
    let e = dollar b (byte m s (o + k)) f g in
    let none : length (text_within m s (o + k) (n - k)) ≡ 0 = ap length (text_within-end m s (o + k) (n - k) e) in
    let before = r.counts in omega arith

pub read-all : (m : Memory) (s o n k : ℕ) → n ≤ k → IsRead m s o n k → k ≡ length (text_within m s o n)
read-all m s o n k h r =
    let d : n - k ≡ 0 = omega arith in
    let none : length (text_within m s (o + k) (n - k)) ≡ 0 = rw d (ap length (text_within-none m s (o + k))) in
    let before = r.counts in omega arith

-- the first k bytes of the text have gone out
pub record IsPut (start now : Streams) (m : Memory) (s o n k : ℕ) : Type 0 where
  pub read : IsRead m s o n k
  pub output : now.output ++ text_within m s (o + k) (n - k) ≡ start.output ++ text_within m s o n
  pub room : now.room + k ≡ start.room
  pub input : now.input ≡ start.input
  pub more : now.more ≡ start.more

pub put-none : (c : Streams) (m : Memory) (s o n : ℕ) → IsPut c c m s o n 0
put-none c m s o n =
    let d : n - 0 ≡ n = omega arith in let e : o + 0 ≡ o = omega arith in
    record { read = read-none m s o n; output = rw (d, e) refl; room = omega arith; input = refl; more = refl }

pub put-more : (start now after : Streams) (m : Memory) (s o n k b : ℕ) → IsPut start now m s o n k →
    k < length (text_within m s o n) → 0 < now.room →
    b ≡ byte m s (o + k) → after ≡ record now { output = now.output ++ b ∷ []; room = now.room - 1 } →
    IsPut start after m s o n (k + 1)
put-more start now after m s o n k b p h r e f =
    let counted = p.read.counts in
    let left : 0 < length (text_within m s (o + k) (n - k)) = omega arith in
    let cut : text_within m s (o + k) (n - k) ≡ b ∷ text_within m s (o + (k + 1)) (n - (k + 1))
    = text_within-cons m s (o + k) (n - k) left ∙ ap (λ v. v ∷ text_within m s (suc (o + k)) (n - k - 1)) (sym e)
    ∙ ap (λ (xs : List ℕ). b ∷ xs) (next m s o n k) in
    let shorter : length (text_within m s (o + k) (n - k))
    ≡ suc (length (text_within m s (o + (k + 1)) (n - (k + 1)))) = ap length cut in
    rw f record {
      read = record { counts = omega arith };
      output = append_assoc now.output (b ∷ []) _ ∙ ap (λ (xs : List ℕ). now.output ++ xs) (sym cut) ∙ p.output;
      room = let was = p.room in omega arith;
      input = p.input;
      more = p.more;
    }

pub put-all : (start now : Streams) (m : Memory) (s o n k : ℕ) → IsPut start now m s o n k →
    k ≡ length (text_within m s o n) →
    now ≡ record start { output = start.output ++ text_within m s o n; room = start.room - k }
put-all start now m s o n k p e =
    let counted = p.read.counts in
    let none : text_within m s (o + k) (n - k) ≡ [] = nil-from_length _ (omega arith) in
    let out : now.output ≡ start.output ++ text_within m s o n = sym (append-nil now.output)
    ∙ ap (λ (xs : List ℕ). now.output ++ xs) (sym none) ∙ p.output in
    let was = p.room in
    let room : now.room ≡ start.room - k = omega arith in
    λ i. record { input = p.input i; more = p.more i; output = out i; room = room i }
