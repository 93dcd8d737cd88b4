-- A text has one answer.
use Rattle.std.proofs.Common.{◌≡◌, ℕ, ◌+◌, ◌<◌, ◌≤◌, List, [], ◌∷◌, ◌++◌, length, map, Option, Some, None, IsSome, Result, Ok, Err, refl, sym, ap, subst, ◌∙◌, arith}
use Rattle.std.specs.List.{AllByRecursion}
use Rattle.dm_lines.specs.declared.token.Name as Name'
use Rattle.dm_lines.specs.declared.term.Expression.{Expression}
use Rattle.dm_lines.specs.Statements.{Item, nothing, instruction, bytes, words}
use Rattle.dm_decode.specs.words.Laws.{WordsAreOne}
use Rattle.dm_asm.specs.declared.refusal.AssemblyRefusal.{AssemblyRefusal}
use Rattle.dm_asm.specs.declared.refusal.AssemblyRefusal.TheVariants as refusal
use Rattle.dm_asm.specs.Lines.{lines_of}
use Rattle.dm_asm.specs.Labels.{Label, IsFree, label_place, term_place}
use Rattle.dm_asm.specs.Codes.{Codes, Knows, written_for, value_word}
use Rattle.dm_asm.specs.Programs.{Sized, Reads, AreRead, AreOnce, AreCoded, joined, total, own_label, labels_from, labels_of, Laid, longest_program, IsBehindGood, IsBehindCoded, Assembles, Refuses, syntax, twice, too_long, unknown, range, IsAnswer}
use Rattle.dm_asm.proofs.Found.{once_free}
use Rattle.dm_asm.proofs.Placed.{bind_some, coded_once}
use Rattle.dm_asm.proofs.Each.{somes_same, words_once, is_some_at}
use Rattle.dm_asm.proofs.Stated.{reads_once, are_read_once, labels_append, code_long}

-- ---- lists in two parts

-- one place is before the other, or they are one
data Sides {A : Type 0} (xs us : List A) (a b : A) : Type 0 where
  same : xs ≡ us → a ≡ b → Sides xs us a b
  before : (zs : List A) → us ≡ xs ++ a ∷ zs → Sides xs us a b
  behind : (zs : List A) → xs ≡ us ++ b ∷ zs → Sides xs us a b

heads : {A : Type 0} (a b : A) (xs ys : List A) → a ∷ xs ≡ b ∷ ys → a ≡ b
heads a b xs ys h = cc

tails : {A : Type 0} (a b : A) (xs ys : List A) → a ∷ xs ≡ b ∷ ys → xs ≡ ys
tails a b xs ys h = cc

further : {A : Type 0} (x u : A) (xs us : List A) (a b : A) → x ≡ u → Sides xs us a b → Sides (x ∷ xs) (u ∷ us) a b
further x u xs us a b e (same p q) = same (ap (λ z. z ∷ xs) e ∙ ap (λ zs. u ∷ zs) p) q
further x u xs us a b e (before zs p) = before zs (ap (λ z. z ∷ us) (sym e) ∙ ap (λ r. x ∷ r) p)
further x u xs us a b e (behind zs p) = behind zs (ap (λ z. z ∷ xs) e ∙ ap (λ r. u ∷ r) p)

sides : {A : Type 0} (xs : List A) (a : A) (ys us : List A) (b : A) (vs : List A) → xs ++ a ∷ ys ≡ us ++ b ∷ vs →
    Sides xs us a b
sides [] a ys [] b vs h = same refl (heads a b ys vs h)
sides [] a ys (u ∷ us) b vs h = before us (ap (λ z. z ∷ us) (sym (heads a u ys (us ++ b ∷ vs) h)))
sides (x ∷ xs) a ys [] b vs h = behind xs (ap (λ z. z ∷ xs) (heads x b (xs ++ a ∷ ys) vs h))
sides (x ∷ xs) a ys (u ∷ us) b vs h =
    further x u xs us a b (heads x u (xs ++ a ∷ ys) (us ++ b ∷ vs) h) (sides xs a ys us b vs (tails x u (xs ++ a
    ∷ ys) (us ++ b ∷ vs) h))

-- ---- the first pass

record IsAt (front : List (List ℕ)) (line : List ℕ) (ys : List Sized) : Type 0 where
  pub first : List Sized
  pub x : Sized
  pub rest : List Sized
  pub parts : ys ≡ first ++ x ∷ rest
  pub read : AreRead front first
  pub reads : Reads line x

read_at : (front : List (List ℕ)) (line : List ℕ) (back : List (List ℕ)) (ys : List Sized) →
    AreRead (front ++ line ∷ back) ys → IsAt front line ys
read_at [] line back [] a = absurd a
read_at [] line back (y ∷ ys) a = record { first = []; x = y; rest = ys; parts = refl; read = tt; reads = a.0 }
read_at (l ∷ front) line back [] a = absurd a
read_at (l ∷ front) line back (y ∷ ys) a =
    let r = read_at front line back ys a.1 in
    record {
      first = y ∷ r.first;
      x = r.x;
      rest = r.rest;
      parts = ap (λ z. y ∷ z) r.parts;
      read = (a.0, r.read);
      reads = r.reads;
    }

free_in : (label : Option Name'.Name) (at : ℕ) (ls ms : List Label) → AreOnce (ls ++ (own_label label at ++ ms)) →
    IsFree label ls
free_in None at ls ms o = tt
free_in (Some name) at ls ms o = once_free ls (record { name = name; place = at }) ms o

-- a line behind these reads, and its label is new
record IsGood (line : List ℕ) (xs : List Sized) : Type 0 where
  pub x : Sized
  pub reads : Reads line x
  pub free : IsFree x.statement.label (labels_of xs)

good_at : WordsAreOne → (lines front : List (List ℕ)) (line : List ℕ) (back : List (List ℕ)) (ys xs : List Sized) →
    lines ≡ front ++ line ∷ back → Laid lines ys → AreRead front xs → IsGood line xs
good_at one lines front line back ys xs e laid read =
    let r = read_at front line back ys (subst (λ ls. AreRead ls ys) e laid.read) in
    let o : AreOnce (labels_of r.first ++ labels_from (0x100 + total r.first) (r.x ∷ r.rest)) =
    subst AreOnce (ap labels_of r.parts ∙ labels_append 0x100 r.first (r.x ∷ r.rest)) laid.once in
    record {
      x = r.x;
      reads = r.reads;
      free = subst (λ zs. IsFree r.x.statement.label (labels_of zs)) (are_read_once one front r.first xs r.read read)
          (free_in r.x.statement.label (0x100 + total r.first) (labels_of r.first) _ o);
    }

-- what is wrong with a line in the first pass
data Bad (line : List ℕ) (xs : List Sized) (n : ℕ) : AssemblyRefusal → Type 0 where
  no_statement : ((x : Sized) → Reads line x → ⊥) → Bad line xs n (refusal.Syntax n)
  old_label : (x : Sized) → Reads line x → (IsFree x.statement.label (labels_of xs) → ⊥) →
      Bad line xs n (refusal.Twice n)

not_bad : WordsAreOne → (line : List ℕ) (xs : List Sized) (n : ℕ) (e : AssemblyRefusal) → Bad line xs n e →
    IsGood line xs → ⊥
not_bad one line xs n e (no_statement h) g = h g.x g.reads
not_bad one line xs n e (old_label x r f) g = f (subst (λ (y : Sized). IsFree y.statement.label (labels_of xs))
    (reads_once one line g.x x g.reads r) g.free)

bad_once : (line : List ℕ) (xs : List Sized) (n : ℕ) (e f : AssemblyRefusal) → Bad line xs n e → Bad line xs n f → e ≡ f
bad_once line xs n e f (no_statement h) (no_statement g) = refl
bad_once line xs n e f (no_statement h) (old_label x r g) = absurd (h x r)
bad_once line xs n e f (old_label x r h) (no_statement g) = absurd (g x r)
bad_once line xs n e f (old_label x r h) (old_label y s g) = refl

bad_same : WordsAreOne → (text : List ℕ) (n m : ℕ) (l k : List ℕ) (xs ys : List Sized) (e f : AssemblyRefusal) →
    IsBehindGood text n l xs → Bad l xs n e → IsBehindGood text m k ys → Bad k ys m f → e ≡ f
bad_same one text n m l k xs ys e f g b h d = by (sides g.before l g.after h.before k h.after (sym g.parts ∙ h.parts))
  where
    by : Sides g.before h.before l k → e ≡ f
    by (same p q) =
        let s : xs ≡ ys = are_read_once one h.before xs ys (subst (λ ls. AreRead ls xs) p g.laid.read) h.laid.read in
        let c : n ≡ m = g.number ∙ ap (λ ls. length ls + 1) p ∙ sym h.number in
        bad_once k ys m e f (subst (λ i. Bad k ys i e) c (subst (λ zs. Bad k zs n e) s (subst (λ z. Bad z xs n e) q b)))
        d
    by (before zs p) = absurd (not_bad one l xs n e b (good_at one h.before g.before l zs ys xs p h.laid g.laid.read))
    by (behind zs p) = absurd (not_bad one k ys m f d (good_at one g.before h.before k zs xs ys p g.laid h.laid.read))

bad_laid : WordsAreOne → (text : List ℕ) (n : ℕ) (l : List ℕ) (xs ys : List Sized) (e : AssemblyRefusal) →
    IsBehindGood text n l xs → Bad l xs n e → Laid (lines_of text) ys → ⊥
bad_laid one text n l xs ys e g b laid =
    not_bad one l xs n e b (good_at one (lines_of text) g.before l g.after ys xs g.parts laid g.laid.read)

-- ---- the second pass

some_at : {A : Type 0} (r : Option A) (x : A) → r ≡ Some x → IsSome r
some_at r x e = is_some_at r x (sym e)

known_term : (labels : List Label) (m : _) (next : ℕ) (t : _) (w : _) → written_for labels m next t ≡ Some w →
    IsSome (term_place labels t)
known_term labels m next t w h = let p = bind_some (term_place labels t) _ w h in some_at (term_place labels t) p.0 p.1

known_words : (labels : List Label) (vs : List Expression) (ws : List ℕ) → map (value_word labels) vs ≡ map Some ws →
    AllByRecursion (λ v. IsSome (label_place labels v)) vs
known_words labels [] ws h = tt
known_words labels (v ∷ vs) [] h = absurd cc
known_words labels (v ∷ vs) (w ∷ ws) h =
    let e : value_word labels v ≡ Some w = heads (value_word labels v) (Some w) (map (value_word labels) vs)
    (map Some ws) h in
    let p = bind_some (label_place labels v) _ w e in (
      some_at (label_place labels v) p.0 p.1,
      known_words labels vs ws (tails (value_word labels v) (Some w)
          (map (value_word labels) vs) (map Some ws) h),
    )

knows_coded : (labels : List Label) (at : ℕ) (i : Item) (code : List ℕ) → Codes labels at i code → Knows labels i
knows_coded labels at nothing code c = tt
knows_coded labels at (instruction i) code c =
    let a = bind_some (written_for labels i.mnemonic (at + length code) i.first) _ c.written c.placed in
    let b = bind_some (written_for labels i.mnemonic (at + length code) i.second) _ c.written a.2 in (
      known_term labels i.mnemonic (at + length code) i.first a.0 a.1,
      known_term labels i.mnemonic (at + length code) i.second b.0 b.1,
    )
knows_coded labels at (bytes b) code c = tt
knows_coded labels at (words w) code c = known_words labels w c.values c.are

code_once : WordsAreOne → (labels : List Label) (at : ℕ) (i : Item) (a b : List ℕ) → Codes labels at i a →
    Codes labels at i b → a ≡ b
code_once one labels at nothing a b c d = c ∙ sym d
code_once one labels at (instruction i) a b c d = coded_once one labels at i a b c d
code_once one labels at (bytes v) a b c d = somes_same a b (sym c ∙ d)
code_once one labels at (words w) a b c d = words_once labels w a b c d

pieces_once : WordsAreOne → (labels : List Label) (at : ℕ) (xs : List Sized) (ps qs : List (List ℕ)) →
    AreCoded labels at xs ps → AreCoded labels at xs qs → ps ≡ qs
pieces_once one labels at [] [] [] a b = refl
pieces_once one labels at [] [] (q ∷ qs) a b = absurd b
pieces_once one labels at [] (p ∷ ps) qs a b = absurd a
pieces_once one labels at (x ∷ xs) [] qs a b = absurd a
pieces_once one labels at (x ∷ xs) (p ∷ ps) [] a b = absurd b
pieces_once one labels at (x ∷ xs) (p ∷ ps) (q ∷ qs) a b =
    let e : p ≡ q = code_once one labels at x.statement.item p q a.0 b.0 in
    let t : ps ≡ qs = pieces_once one labels (at + length q) xs ps qs
    (subst (λ (r : List ℕ). AreCoded labels (at + length r) xs ps) e a.1) b.1 in
    ap (λ z. z ∷ ps) e ∙ ap (λ zs. q ∷ zs) t

-- a statement among coded ones has a code
coded_at : WordsAreOne → (labels : List Label) (at : ℕ) (lines : List (List ℕ)) (front : List Sized) (x : Sized)
    (back : List Sized) (ps : List (List ℕ)) → AreRead lines (front ++ x ∷ back) → AreCoded labels at (front ++ x
    ∷ back) ps → (code : List ℕ) × Codes labels (at + total front) x.statement.item code
coded_at one labels at lines [] x back [] r a = absurd a
coded_at one labels at lines [] x back (p ∷ ps) r a =
    (p, subst (λ (k : ℕ). Codes labels k x.statement.item p) (let e : at ≡ at + 0 = omega arith in e) a.0)
coded_at one labels at [] (y ∷ front) x back ps r a = absurd r
coded_at one labels at (l ∷ lines) (y ∷ front) x back [] r a = absurd a
coded_at one labels at (l ∷ lines) (y ∷ front) x back (p ∷ ps) r a =
    let h = coded_at one labels (at + length p) lines front x back ps r.1 a.1 in
    let k : length p ≡ y.long = code_long one labels at y.statement.item p y.long a.0 r.0.long in
    let e : at + length p + total front ≡ at + (y.long + total front) = omega (arith, k) in
    (h.0, subst (λ (i : ℕ). Codes labels i x.statement.item h.0) e h.1)

-- what is wrong with a statement in the second pass
data Stuck (labels : List Label) (at : ℕ) (i : Item) (n : ℕ) : AssemblyRefusal → Type 0 where
  no_label : (Knows labels i → ⊥) → Stuck labels at i n (refusal.Unknown n)
  no_code : Knows labels i → ((code : List ℕ) → Codes labels at i code → ⊥) → Stuck labels at i n (refusal.Range n)

not_stuck : (labels : List Label) (at : ℕ) (i : Item) (n : ℕ) (e : AssemblyRefusal) → Stuck labels at i n e →
    (code : List ℕ) → Codes labels at i code → ⊥
not_stuck labels at i n e (no_label h) code c = h (knows_coded labels at i code c)
not_stuck labels at i n e (no_code k h) code c = h code c

stuck_once : (labels : List Label) (at : ℕ) (i : Item) (n : ℕ) (e f : AssemblyRefusal) → Stuck labels at i n e →
    Stuck labels at i n f → e ≡ f
stuck_once labels at i n e f (no_label h) (no_label g) = refl
stuck_once labels at i n e f (no_label h) (no_code k g) = absurd (h k)
stuck_once labels at i n e f (no_code k h) (no_label g) = absurd (g k)
stuck_once labels at i n e f (no_code k h) (no_code j g) = refl

pub laid_once : WordsAreOne → (text : List ℕ) (xs ys : List Sized) → Laid (lines_of text) xs → Laid (lines_of text) ys →
    xs ≡ ys
laid_once one text xs ys a b = are_read_once one (lines_of text) xs ys a.read b.read

-- a statement among coded ones is not stuck
stuck_coded : WordsAreOne → (text : List ℕ) (n : ℕ) (labels : List Label) (at : ℕ) (x : Sized) (e : AssemblyRefusal) →
    (g : IsBehindCoded text n labels at x) → Stuck labels at x.statement.item n e →
    (lines : List (List ℕ)) (xs zs : List Sized) (ps : List (List ℕ)) → xs ≡ g.before ++ x ∷ zs → AreRead lines xs →
    AreCoded labels 0x100 xs ps → ⊥
stuck_coded one text n labels at x e g s lines xs zs ps is read coded =
    let c = coded_at one labels 0x100 lines g.before x zs ps (subst (AreRead lines) is read)
    (subst (λ ys. AreCoded labels 0x100 ys ps) is coded) in
    not_stuck labels at x.statement.item n e s c.0 (subst (λ (i : ℕ). Codes labels i x.statement.item c.0)
    (sym g.at_is) c.1)

front_read : (front : List Sized) (back : List Sized) (lines : List (List ℕ)) → AreRead lines (front ++ back) →
    (ls : List (List ℕ)) × AreRead ls front
front_read [] back lines a = ([], tt)
front_read (x ∷ front) back [] a = absurd a
front_read (x ∷ front) back (l ∷ lines) a = let r = front_read front back lines a.1 in (l ∷ r.0, (a.0, r.1))

stuck_same : WordsAreOne → (text : List ℕ) (n m : ℕ) (ls ms : List Label) (at to : ℕ) (x y : Sized)
    (e f : AssemblyRefusal) → IsBehindCoded text n ls at x → Stuck ls at x.statement.item n e →
    IsBehindCoded text m ms to y → Stuck ms to y.statement.item m f → e ≡ f
stuck_same one text n m ls ms at to x y e f g s h t =
    let whole : g.before ++ x ∷ g.after ≡ h.before ++ y ∷ h.after = laid_once one text _ _ g.laid h.laid in
    let labels : ls ≡ ms = g.labels_are ∙ ap labels_of whole ∙ sym h.labels_are in
    by labels (sides g.before x g.after h.before y h.after whole)
  where
    by : ls ≡ ms → Sides g.before h.before x y → e ≡ f
    by l (same p q) =
        let c : n ≡ m = g.number ∙ ap (λ xs. length xs + 1) p ∙ sym h.number in
        let a : at ≡ to = g.at_is ∙ ap (λ xs. 0x100 + total xs) p ∙ sym h.at_is in
        stuck_once ms to y.statement.item m e f
        (subst (λ (i : ℕ). Stuck ms to y.statement.item i e) c (subst (λ (z : Sized). Stuck ms to z.statement.item n e)
        q (subst (λ (i : ℕ). Stuck ms i x.statement.item n e) a
        (subst (λ (r : List Label). Stuck r at x.statement.item n e) l s)))) t
    by l (before zs p) =
        let r = front_read h.before (y ∷ h.after) (lines_of text) h.laid.read in
        absurd (stuck_coded one text n ls at x e g s r.0 h.before zs h.pieces p r.1
        (subst (λ (k : List Label). AreCoded k 0x100 h.before h.pieces) (sym l) h.coded))
    by l (behind zs p) =
        let r = front_read g.before (x ∷ g.after) (lines_of text) g.laid.read in
        absurd (stuck_coded one text m ms to y f h t r.0 g.before zs g.pieces p r.1
        (subst (λ (k : List Label). AreCoded k 0x100 g.before g.pieces) l g.coded))

stuck_done : WordsAreOne → (text : List ℕ) (n : ℕ) (ls : List Label) (at : ℕ) (x : Sized) (e : AssemblyRefusal)
    (code : List ℕ) → IsBehindCoded text n ls at x → Stuck ls at x.statement.item n e → Assembles text code → ⊥
stuck_done one text n ls at x e code g s a =
    let whole : a.statements ≡ g.before ++ x ∷ g.after = laid_once one text _ _ a.laid g.laid in
    stuck_coded one text n ls at x e g s (lines_of text) a.statements g.after a.pieces whole a.laid.read
    (subst (λ (k : List Label). AreCoded k 0x100 a.statements a.pieces) (ap labels_of whole ∙ sym g.labels_are) a.coded)

done_same : WordsAreOne → (text a b : List ℕ) → Assembles text a → Assembles text b → a ≡ b
done_same one text a b p q =
    let s : p.statements ≡ q.statements = laid_once one text _ _ p.laid q.laid in
    let c : AreCoded (labels_of q.statements) 0x100 q.statements p.pieces =
    subst (λ xs. AreCoded (labels_of xs) 0x100 xs p.pieces) s p.coded in
    p.whole ∙ ap joined (pieces_once one (labels_of q.statements) 0x100 q.statements p.pieces q.pieces c q.coded)
    ∙ sym q.whole

too_many : (n m : ℕ) → n ≡ m → longest_program < n → m ≤ longest_program → ⊥
too_many n m e h g = absurd (omega (arith, e, h, g))

-- ---- all answers

data View (text : List ℕ) : Result (List ℕ) AssemblyRefusal → Type 0 where
  is_bad : (n : ℕ) (line : List ℕ) (xs : List Sized) (e : AssemblyRefusal) → IsBehindGood text n line xs →
      Bad line xs n e → View text (Err e)
  is_long : (xs : List Sized) → Laid (lines_of text) xs → longest_program < total xs → View text (Err refusal.TooLong)
  is_stuck : (n : ℕ) (ls : List Label) (at : ℕ) (x : Sized) (e : AssemblyRefusal) → IsBehindCoded text n ls at x →
      Stuck ls at x.statement.item n e → View text (Err e)
  is_done : (code : List ℕ) → Assembles text code → View text (Ok code)

refused_view : (text : List ℕ) (e : AssemblyRefusal) → Refuses text e → View text (Err e)
refused_view text e (syntax n line xs g h) = is_bad n line xs (refusal.Syntax n) g (no_statement h)
refused_view text e (twice n line xs x g r f) = is_bad n line xs (refusal.Twice n) g (old_label x r f)
refused_view text e (too_long xs l m) = is_long xs l m
refused_view text e (unknown n ls at x g k) = is_stuck n ls at x (refusal.Unknown n) g (no_label k)
refused_view text e (range n ls at x g k c) = is_stuck n ls at x (refusal.Range n) g (no_code k c)

view : (text : List ℕ) (a : Result (List ℕ) AssemblyRefusal) → IsAnswer text a → View text a
view text (Ok code) h = is_done code h
view text (Err e) h = refused_view text e h

views_same : WordsAreOne → (text : List ℕ) (a b : Result (List ℕ) AssemblyRefusal) → View text a → View text b → a ≡ b
views_same one text a b (is_bad n l xs e g s) (is_bad m k ys f h t) =
    ap Err (bad_same one text n m l k xs ys e f g s h t)
views_same one text a b (is_bad n l xs e g s) (is_long ys laid m) = absurd (bad_laid one text n l xs ys e g s laid)
views_same one text a b (is_bad n l xs e g s) (is_stuck m ls at x f h t) =
    absurd (bad_laid one text n l xs _ e g s h.laid)
views_same one text a b (is_bad n l xs e g s) (is_done code d) =
    absurd (bad_laid one text n l xs d.statements e g s d.laid)
views_same one text a b (is_long ys laid m) (is_bad n l xs e g s) = absurd (bad_laid one text n l xs ys e g s laid)
views_same one text a b (is_long xs laid m) (is_long ys other k) = refl
views_same one text a b (is_long xs laid m) (is_stuck n ls at x f h t) =
    absurd (too_many (total xs) _ (ap total (laid_once one text xs _ laid h.laid)) m h.room)
views_same one text a b (is_long xs laid m) (is_done code d) =
    absurd (too_many (total xs) (total d.statements) (ap total (laid_once one text xs d.statements laid d.laid)) m
    d.room)
views_same one text a b (is_stuck n ls at x e g s) (is_bad m l xs f h t) =
    absurd (bad_laid one text m l xs _ f h t g.laid)
views_same one text a b (is_stuck n ls at x e g s) (is_long ys laid m) =
    absurd (too_many (total ys) _ (ap total (laid_once one text ys _ laid g.laid)) m g.room)
views_same one text a b (is_stuck n ls at x e g s) (is_stuck m ms to y f h t) =
    ap Err (stuck_same one text n m ls ms at to x y e f g s h t)
views_same one text a b (is_stuck n ls at x e g s) (is_done code d) =
    absurd (stuck_done one text n ls at x e code g s d)
views_same one text a b (is_done code d) (is_bad n l xs e g s) =
    absurd (bad_laid one text n l xs d.statements e g s d.laid)
views_same one text a b (is_done code d) (is_long ys laid m) =
    absurd (too_many (total ys) (total d.statements) (ap total (laid_once one text ys d.statements laid d.laid)) m
    d.room)
views_same one text a b (is_done code d) (is_stuck n ls at x e g s) =
    absurd (stuck_done one text n ls at x e code g s d)
views_same one text a b (is_done code d) (is_done other c) = ap Ok (done_same one text code other d c)

pub one_answer : WordsAreOne → (text : List ℕ) (a b : Result (List ℕ) AssemblyRefusal) → IsAnswer text a →
    IsAnswer text b → a ≡ b
one_answer one text a b p q = views_same one text a b (view text a p) (view text b q)
