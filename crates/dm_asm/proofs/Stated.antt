-- Statements of lines, one after the other.
use Rattle.std.proofs.Common.{◌≡◌, ℕ, ◌+◌, ◌*◌, ◌≤◌, List, [], ◌∷◌, ◌++◌, length, Option, Some, None, IfSome, map, flat_map, refl, sym, ap, subst, ◌∙◌, arith, if◌then◌else◌, Bool, true, false}
use Rattle.std.proofs.lemmas.List.{append_assoc, append-nil, length-append}
use Rattle.std.specs.Str.{bytes_eq}
use Rattle.dm_lines.specs.declared.token.Name as Name'
use Rattle.dm_lines.specs.Statements.{Item, Statement, nothing, instruction, bytes, words}
use Rattle.dm_decode.specs.words.Laws.{WordsAreOne}
use Rattle.dm_asm.specs.Labels.{Label, IsFree, place_of_label}
use Rattle.dm_lines.specs.Placing.{amount_byte}
use Rattle.dm_asm.specs.Codes.{Codes, HasLength, value_word}
use Rattle.dm_ins.specs.Spelling.{word_bytes}
use Rattle.dm_asm.specs.Programs.{Sized, Reads, AreRead, total, own_label, labels_from, labels_of, AreOnce, Laid, AreCoded, joined}
use Rattle.dm_asm.proofs.Chosen.{shape_once}
use Rattle.dm_asm.proofs.Placed.{some_same}
use Rattle.dm_asm.proofs.Found.{once_more}

pub total_append : (xs ys : List Sized) → total (xs ++ ys) ≡ total xs + total ys
total_append [] ys = omega arith
total_append (x ∷ xs) ys = let h : total (xs ++ ys) ≡ total xs + total ys = total_append xs ys in omega (arith, h)

pub labels_append : (at : ℕ) (xs ys : List Sized) → labels_from at (xs ++ ys) ≡ labels_from at xs
    ++ labels_from (at + total xs) ys
labels_append at [] ys = ap (λ k. labels_from k ys) (let e : at ≡ at + 0 = omega arith in e)
labels_append at (x ∷ xs) ys =
    let e : at + x.long + total xs ≡ at + (x.long + total xs) = omega arith in
    ap (λ r. own_label x.statement.label at ++ r) (labels_append (at + x.long) xs ys
    ∙ ap (λ k. labels_from (at + x.long) xs ++ labels_from k ys) e)
    ∙ sym (append_assoc (own_label x.statement.label at) (labels_from (at + x.long) xs)
    (labels_from (at + (x.long + total xs)) ys))

pub labels_more : (at : ℕ) (xs : List Sized) (x : Sized) → labels_from at (xs ++ x ∷ []) ≡ labels_from at xs
    ++ own_label x.statement.label (at + total xs)
labels_more at xs x = labels_append at xs (x ∷ []) ∙ ap (λ r. labels_from at xs
    ++ r) (append-nil (own_label x.statement.label (at + total xs)))

pub read_more : (lines : List (List ℕ)) (xs : List Sized) (line : List ℕ) (x : Sized) → AreRead lines xs →
    Reads line x → AreRead (lines ++ line ∷ []) (xs ++ x ∷ [])
read_more [] [] line x a r = (r, tt)
read_more [] (y ∷ xs) line x a r = absurd a
read_more (l ∷ lines) [] line x a r = absurd a
read_more (l ∷ lines) (y ∷ xs) line x a r = (a.0, read_more lines xs line x a.1 r)

pub read_length : (lines : List (List ℕ)) (xs : List Sized) → AreRead lines xs → length lines ≡ length xs
read_length [] [] a = refl
read_length [] (y ∷ xs) a = absurd a
read_length (l ∷ lines) [] a = absurd a
read_length (l ∷ lines) (y ∷ xs) a = let h = read_length lines xs a.1 in cc

once_with : (label : Option Name'.Name) (at : ℕ) (ls : List Label) → AreOnce ls → IsFree label ls →
    AreOnce (ls ++ own_label label at)
once_with None at ls o f = subst AreOnce (sym (append-nil ls)) o
once_with (Some name) at ls o f = once_more ls (record { name = name; place = at }) o f

pub laid_more : (lines : List (List ℕ)) (xs : List Sized) (line : List ℕ) (x : Sized) → Laid lines xs → Reads line x →
    IsFree x.statement.label (labels_of xs) → Laid (lines ++ line ∷ []) (xs ++ x ∷ [])
laid_more lines xs line x laid r f = record {
  read = read_more lines xs line x laid.read r;
  once = subst AreOnce (sym (labels_more 0x100 xs x)) (once_with x.statement.label (0x100 + total xs)
      (labels_of xs) laid.once f);
}

-- ---- a line is one statement

length_once : WordsAreOne → (i : Item) (n m : ℕ) → HasLength i n → HasLength i m → n ≡ m
length_once one nothing n m p q = p ∙ sym q
length_once one (instruction i) n m p q = shape_once one i n m p q
length_once one (bytes b) n m p q = p ∙ sym q
length_once one (words w) n m p q = p ∙ sym q

sized_same : (x y : Sized) → x.statement ≡ y.statement → x.long ≡ y.long → x ≡ y
sized_same x y e f = ap (λ (s : Statement). record { statement = s; long = x.long }) e
    ∙ ap (λ (n : ℕ). record { statement = y.statement; long = n }) f

pub reads_once : WordsAreOne → (line : List ℕ) (x y : Sized) → Reads line x → Reads line y → x ≡ y
reads_once one line x y p q =
    let e : x.statement ≡ y.statement = some_same _ _ (sym p.is ∙ q.is) in
    sized_same x y e (length_once one y.statement.item x.long y.long (subst (λ (s : Statement). HasLength s.item x.long)
    e p.long) q.long)

pub are_read_once : WordsAreOne → (lines : List (List ℕ)) (xs ys : List Sized) → AreRead lines xs → AreRead lines ys →
    xs ≡ ys
are_read_once one [] [] [] a b = refl
are_read_once one [] [] (y ∷ ys) a b = absurd b
are_read_once one [] (x ∷ xs) ys a b = absurd a
are_read_once one (l ∷ lines) [] ys a b = absurd a
are_read_once one (l ∷ lines) (x ∷ xs) [] a b = absurd b
are_read_once one (l ∷ lines) (x ∷ xs) (y ∷ ys) a b =
    let e = reads_once one l x y a.0 b.0 in
    let t = are_read_once one lines xs ys a.1 b.1 in
    ap (λ z. z ∷ xs) e ∙ ap (λ zs. y ∷ zs) t

-- the first of some lines, and the others
pub record IsFirst (line : List ℕ) (lines : List (List ℕ)) (xs : List Sized) : Type 0 where
  pub first : Sized
  pub others : List Sized
  pub parts : xs ≡ first ∷ others
  pub reads : Reads line first
  pub read : AreRead lines others

pub first_read : (line : List ℕ) (lines : List (List ℕ)) (xs : List Sized) → AreRead (line ∷ lines) xs →
    IsFirst line lines xs
first_read line lines [] a = absurd a
first_read line lines (x ∷ xs) a = record { first = x; others = xs; parts = refl; reads = a.0; read = a.1 }

-- ---- places

later_fits : (at n m : ℕ) (r : Option ℕ) → IfSome r (λ p. p ≤ at + n + m) → IfSome r (λ p. p ≤ at + (n + m))
later_fits at n m None h = tt
later_fits at n m (Some p) h = omega (arith, h)

first_fits : (t : Bool) (at n : ℕ) (r : Option ℕ) → IfSome r (λ p. p ≤ at + n) → IfSome (if t then Some at else
    r) (λ p. p ≤ at + n)
first_fits true at n r h = omega arith
first_fits false at n r h = h

label_fits : (label : Option Name'.Name) (at n : ℕ) (rest : List Label) (name : Name'.Name) →
    IfSome (place_of_label name rest) (λ p. p ≤ at + n) → IfSome (place_of_label name (own_label label at
    ++ rest)) (λ p. p ≤ at + n)
label_fits None at n rest name h = h
label_fits (Some l) at n rest name h = first_fits (bytes_eq l.bytes name.bytes) at n (place_of_label name rest) h

pub place_fits : (at : ℕ) (xs : List Sized) (name : Name'.Name) →
    IfSome (place_of_label name (labels_from at xs)) (λ p. p ≤ at + total xs)
place_fits at [] name = tt
place_fits at (x ∷ xs) name =
    label_fits x.statement.label at (x.long + total xs) (labels_from (at + x.long) xs) name
    (later_fits at x.long (total xs) (place_of_label name (labels_from (at + x.long) xs))
    (place_fits (at + x.long) xs name))

-- ---- bytes

pub coded_more : (labels : List Label) (at : ℕ) (xs : List Sized) (ps : List (List ℕ)) (x : Sized) (p : List ℕ) →
    AreCoded labels at xs ps → Codes labels (at + length (joined ps)) x.statement.item p →
    AreCoded labels at (xs ++ x ∷ []) (ps ++ p ∷ [])
coded_more labels at [] [] x p a c = (
  subst (λ (k : ℕ). Codes labels k x.statement.item p) (let e : at + 0 ≡ at =
      omega arith in e) c,
  tt,
)
coded_more labels at [] (q ∷ ps) x p a c = absurd a
coded_more labels at (y ∷ xs) [] x p a c = absurd a
coded_more labels at (y ∷ xs) (q ∷ ps) x p a c =
    let e : at + length (q ++ joined ps) ≡ at + length q + length (joined ps) =
    omega (arith, length-append q (joined ps)) in
    (a.0, coded_more labels (at + length q) xs ps x p a.1 (subst (λ (k : ℕ). Codes labels k x.statement.item p) e c))

pub joined_more : (ps : List (List ℕ)) (p : List ℕ) → joined (ps ++ p ∷ []) ≡ joined ps ++ p
joined_more [] p = append-nil p
joined_more (q ∷ ps) p = ap (λ r. q ++ r) (joined_more ps p) ∙ sym (append_assoc q (joined ps) p)

same_length : {A : Type 0} (f : A → Option ℕ) (xs : List A) (ys : List ℕ) → map f xs ≡ map Some ys →
    length xs ≡ length ys
same_length f [] [] h = refl
same_length f [] (y ∷ ys) h = absurd cc
same_length f (x ∷ xs) [] h = absurd cc
same_length f (x ∷ xs) (y ∷ ys) h = let t : length xs ≡ length ys = same_length f xs ys cc in cc

flat_length : (ws : List ℕ) → length (flat_map word_bytes ws) ≡ 2 * length ws
flat_length [] = refl
flat_length (w ∷ ws) = let h : length (flat_map word_bytes ws) ≡ 2 * length ws = flat_length ws in omega (arith, h)

pub code_long : WordsAreOne → (labels : List Label) (at : ℕ) (i : Item) (code : List ℕ) (n : ℕ) →
    Codes labels at i code → HasLength i n → length code ≡ n
code_long one labels at nothing code n c h = ap length c ∙ sym h
code_long one labels at (instruction i) code n c h = shape_once one i (length code) n c.shape h
code_long one labels at (bytes b) code n c h = sym (same_length amount_byte b code c) ∙ sym h
code_long one labels at (words w) code n c h =
    let a : length code ≡ length (flat_map word_bytes c.values) = ap length c.bytes in
    let b : length w ≡ length c.values = same_length (value_word labels) w c.values c.are in
    omega (arith, a, b, h, flat_length c.values)
