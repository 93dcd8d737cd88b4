-- What the passes keep.
use Rattle.std.proofs.Common.{◌≡◌, ℕ, ◌+◌, ◌<◌, ◌≤◌, List, [], ◌∷◌, ◌++◌, length, take, drop, Option, Some, None, IfSome, refl, sym, ap, subst, ◌∙◌, arith}
use Rattle.std.proofs.lemmas.List.{append_assoc, append-nil, length-append}
use Rattle.dm_asm.specs.declared.labels.Labels.{Labels}
use Rattle.dm_asm.specs.declared.refusal.AssemblyRefusal.TheVariants as refusal
use Rattle.dm_asm.specs.Lines.{lines_of}
use Rattle.dm_asm.specs.Labels.{IsFree, place_of_label}
use Rattle.dm_asm.specs.inner.Kept.{AreKept, AreNear, AreLaid}
use Rattle.dm_asm.specs.Programs.{Sized, Reads, total, own_label, labels_of, AreRead, AreCoded, joined, Laid, longest_program, IsBehindGood, IsBehindCoded, Assembles, Refuses, syntax, twice, too_long, unknown, range}
use Rattle.dm_decode.specs.words.Laws.{WordsAreOne}
use Rattle.dm_asm.specs.Codes.{Codes, HasLength, Knows}
use Rattle.dm_asm.specs.declared.known.Line.{Line}
use Rattle.dm_asm.specs.declared.known.Line.TheVariants as line
use Rattle.dm_asm.specs.declared.known.Known.{Known}
use Rattle.dm_lines.specs.Statements.{Statement, line_statement}
use Rattle.dm_asm.specs.inner.Fixed.{AreKnown, Keeps}
use Rattle.dm_asm.proofs.Placed.{not_none, some_same}
use Rattle.dm_asm.proofs.Remembered.{first_known}
use Rattle.dm_asm.proofs.Stated.{total_append, labels_more, laid_more, first_read, reads_once, place_fits, coded_more, joined_more, code_long}

-- ---- lines

pub no_statement : (line : List ℕ) → line_statement line ≡ None → (x : Sized) → Reads line x → ⊥
no_statement line e x r = not_none (line_statement line) x.statement e r.is

pub no_length : (line : List ℕ) (s : Statement) → line_statement line ≡ Some s → ((n : ℕ) → HasLength s.item n → ⊥) →
    (x : Sized) → Reads line x → ⊥
no_length line s e none x r = none x.long (subst (λ (t : Statement). HasLength t.item x.long)
    (some_same x.statement s (sym r.is ∙ e)) r.long)

-- ---- the first pass

-- all lines in front of the rest read, with no label twice
pub record Laying (text rest : List ℕ) (number at : ℕ) (kept : Labels) (known : Known) : Type 0 where
  pub before : List (List ℕ)
  pub statements : List Sized
  pub parts : lines_of text ≡ before ++ lines_of rest
  pub number_is : number ≡ length before
  pub at_is : at ≡ 0x100 + total statements
  pub laid : Laid before statements
  pub keeps : AreKept kept (labels_of statements)
  pub knows : AreKnown statements known.lines.items known.bytes.items

pub laying_none : (text : List ℕ) (kept : Labels) (known : Known) → AreKept kept [] →
    AreKnown [] known.lines.items known.bytes.items → Laying text text 0 256 kept known
laying_none text kept known k n = record {
  before = [];
  statements = [];
  parts = refl;
  number_is = refl;
  at_is = refl;
  laid = record { read = tt; once = tt };
  keeps = k;
  knows = n;
}

pub laying_more : (text rest behind line : List ℕ) (number at : ℕ) (old new : Labels) (known more : Known) (x : Sized) →
    (l : Laying text rest number at old known) → lines_of rest ≡ line ∷ lines_of behind → Reads line x →
    IsFree x.statement.label (labels_of l.statements) → AreKept new (labels_of l.statements
    ++ own_label x.statement.label at) → Keeps known more x.statement.item →
    Laying text behind (number + 1) (at + x.long) new more
laying_more text rest behind line number at old new known more x l e r f k m = record {
  before = l.before ++ line ∷ [];
  statements = l.statements ++ x ∷ [];
  parts = l.parts ∙ ap (λ ls. l.before ++ ls) e ∙ sym (append_assoc l.before (line ∷ []) (lines_of behind));
  number_is = let h = l.number_is in omega (arith, length-append l.before (line ∷ []));
  at_is = let h = l.at_is in omega (arith, total_append l.statements (x ∷ []));
  laid = laid_more l.before l.statements line x l.laid r f;
  keeps = subst (AreKept new) (ap (λ a. labels_of l.statements ++ own_label x.statement.label a) l.at_is
      ∙ sym (labels_more 0x100 l.statements x)) k;
  knows = m l.statements x refl l.knows;
}

behind_good : (text rest behind line : List ℕ) (number at : ℕ) (kept : Labels) (known : Known) →
    (l : Laying text rest number at kept known) → lines_of rest ≡ line ∷ lines_of behind →
    IsBehindGood text (number + 1) line l.statements
behind_good text rest behind line number at kept known l e = record {
  before = l.before;
  after = lines_of behind;
  parts = l.parts ∙ ap (λ ls. l.before ++ ls) e;
  number = ap (λ n. n + 1) l.number_is;
  laid = l.laid;
}

pub is_syntax : (text rest behind line : List ℕ) (number at : ℕ) (kept : Labels) (known : Known) →
    Laying text rest number at kept known → lines_of rest ≡ line ∷ lines_of behind → ((x : Sized) → Reads line x → ⊥) →
    Refuses text (refusal.Syntax (number + 1))
is_syntax text rest behind line number at kept known l e none =
    syntax (number + 1) line l.statements (behind_good text rest behind line number at kept known l e) none

pub is_twice : (text rest behind line : List ℕ) (number at : ℕ) (kept : Labels) (known : Known) (x : Sized) →
    (l : Laying text rest number at kept known) → lines_of rest ≡ line ∷ lines_of behind → Reads line x →
    (IsFree x.statement.label (labels_of l.statements) → ⊥) → Refuses text (refusal.Twice (number + 1))
is_twice text rest behind line number at kept known x l e r f =
    twice (number + 1) line l.statements x (behind_good text rest behind line number at kept known l e) r f

whole : (text rest : List ℕ) (number at : ℕ) (kept : Labels) (known : Known) →
    (l : Laying text rest number at kept known) → rest ≡ [] → Laid (lines_of text) l.statements
whole text rest number at kept known l e = subst (λ ls. Laid ls l.statements) (sym (l.parts
    ∙ ap (λ r. l.before ++ lines_of r) e ∙ append-nil l.before)) l.laid

pub is_laid : (text rest : List ℕ) (number at : ℕ) (kept : Labels) (known : Known) →
    Laying text rest number at kept known → rest ≡ [] → at ≤ 65534 → AreLaid text kept known
is_laid text rest number at kept known l e le = record {
  statements = l.statements;
  laid = whole text rest number at kept known l e;
  room = let h = l.at_is in omega (arith, h, le);
  keeps = l.keeps;
  knows = l.knows;
}

pub is_long : (text rest : List ℕ) (number at : ℕ) (kept : Labels) (known : Known) →
    Laying text rest number at kept known → rest ≡ [] → 65534 < at → Refuses text refusal.TooLong
is_long text rest number at kept known l e lt = too_long l.statements (whole text rest number at kept known l e)
    (let h = l.at_is in omega (arith, h, lt))

-- ---- the second pass

-- the bytes of all lines in front of the rest
pub record Emitting (text rest : List ℕ) (number : ℕ) (kept : Labels) (known : Known) (lines : List Line)
    (codes : List ℕ) (out : List ℕ) : Type 0 where
  pub are : AreLaid text kept known
  pub front : List Sized
  pub left : List Sized
  pub parts : are.statements ≡ front ++ left
  pub unread : AreRead (lines_of rest) left
  pub knows : AreKnown left lines codes
  pub number_is : number ≡ length front
  pub pieces : List (List ℕ)
  pub coded : AreCoded (labels_of are.statements) 0x100 front pieces
  pub out_is : out ≡ joined pieces
  pub long : length out ≡ total front

pub emitting_none : (text : List ℕ) (kept : Labels) (known : Known) (lines : List Line) (codes : List ℕ)
    (out : List ℕ) → AreLaid text kept known → lines ≡ known.lines.items → codes ≡ known.bytes.items → out ≡ [] →
    Emitting text text 0 kept known lines codes out
emitting_none text kept known lines codes out a f g e = record {
  are = a;
  front = [];
  left = a.statements;
  parts = refl;
  unread = a.laid.read;
  knows = rw (f, g) a.knows;
  number_is = refl;
  pieces = [];
  coded = tt;
  out_is = e;
  long = ap length e;
}

-- the statement that was read next
record IsNext (text behind : List ℕ) (kept : Labels) (known : Known) (front left : List Sized) (x : Sized)
    (a : AreLaid text kept known) : Type 0 where
  pub others : List Sized
  pub left_is : left ≡ x ∷ others
  pub parts : a.statements ≡ front ++ x ∷ others
  pub unread : AreRead (lines_of behind) others

next : WordsAreOne → (text rest behind line : List ℕ) (number : ℕ) (kept : Labels) (known : Known) (lines : List Line)
    (codes : List ℕ) (out : List ℕ) (x : Sized) → (l : Emitting text rest number kept known lines codes out) →
    lines_of rest ≡ line ∷ lines_of behind → Reads line x → IsNext text behind kept known l.front l.left x l.are
next one text rest behind line number kept known lines codes out x l e r =
    let f = first_read line (lines_of behind) l.left (subst (λ ls. AreRead ls l.left) e l.unread) in
    let same : f.first ≡ x = reads_once one line f.first x f.reads r in
    record {
      others = f.others;
      left_is = f.parts ∙ ap (λ y. y ∷ f.others) same;
      parts = l.parts ∙ ap (λ xs. l.front
          ++ xs) (f.parts ∙ ap (λ y. y ∷ f.others) same);
      unread = f.read;
    }

pub no_next : (text rest behind line : List ℕ) (number : ℕ) (kept : Labels) (known : Known) (lines : List Line)
    (codes : List ℕ) (out : List ℕ) → Emitting text rest number kept known lines codes out → lines_of rest ≡ line
    ∷ lines_of behind → ((x : Sized) → Reads line x → ⊥) → ⊥
no_next text rest behind line number kept known lines codes out l e none =
    let f = first_read line (lines_of behind) l.left (subst (λ ls. AreRead ls l.left) e l.unread) in
    none f.first f.reads

pub near : (text : List ℕ) (kept : Labels) (known : Known) → AreLaid text kept known → AreNear kept
near text kept known a name = subst (λ (r : Option ℕ). IfSome r (λ p. p < 65536)) (sym (a.keeps name))
    (by (place_of_label name (labels_of a.statements)) (place_fits 0x100 a.statements name))
  where
    by : (r : Option ℕ) → IfSome r (λ p. p ≤ 0x100 + total a.statements) → IfSome r (λ p. p < 65536)
    by None h = tt
    by (Some p) h = let le = a.room in omega (arith, h, le)

pub next_fits : WordsAreOne → (text rest behind line : List ℕ) (number : ℕ) (kept : Labels) (known : Known)
    (lines : List Line) (codes : List ℕ) (out : List ℕ) (x : Sized) →
    Emitting text rest number kept known lines codes out → lines_of rest ≡ line ∷ lines_of behind → Reads line x →
    0x100 + length out + x.long < 65536
next_fits one text rest behind line number kept known lines codes out x l e r =
    let n = next one text rest behind line number kept known lines codes out x l e r in
    let t : total l.are.statements ≡ total l.front + (x.long + total n.others) = ap total n.parts
    ∙ total_append l.front (x ∷ n.others) in
    let le = l.are.room in
    let long = l.long in
    omega (arith, t, le, long)

is_open : WordsAreOne → (text rest behind line : List ℕ) (number : ℕ) (kept : Labels) (known : Known)
    (lines : List Line) (codes : List ℕ) (out : List ℕ) (x : Sized) →
    (l : Emitting text rest number kept known lines codes out) → lines_of rest ≡ line ∷ lines_of behind → Reads line x →
    IsBehindCoded text (number + 1) (labels_of l.are.statements) (0x100 + length out) x
is_open one text rest behind line number kept known lines codes out x l e r =
    let n = next one text rest behind line number kept known lines codes out x l e r in
    record {
      before = l.front;
      after = n.others;
      laid = subst (Laid (lines_of text)) n.parts l.are.laid;
      room = subst (λ xs. total xs ≤ longest_program) n.parts l.are.room;
      number = ap (λ k. k + 1) l.number_is;
      labels_are = ap labels_of n.parts;
      at_is = ap (λ k. 0x100 + k) l.long;
      pieces = l.pieces;
      coded = l.coded;
    }

pub is_unknown : WordsAreOne → (text rest behind line : List ℕ) (number : ℕ) (kept : Labels) (known : Known)
    (lines : List Line) (codes : List ℕ) (out : List ℕ) (x : Sized) →
    (l : Emitting text rest number kept known lines codes out) → lines_of rest ≡ line ∷ lines_of behind → Reads line x →
    (Knows (labels_of l.are.statements) x.statement.item → ⊥) → Refuses text (refusal.Unknown (number + 1))
is_unknown one text rest behind line number kept known lines codes out x l e r k =
    unknown (number + 1) (labels_of l.are.statements) (0x100 + length out) x
    (is_open one text rest behind line number kept known lines codes out x l e r) k

pub is_range : WordsAreOne → (text rest behind line : List ℕ) (number : ℕ) (kept : Labels) (known : Known)
    (lines : List Line) (codes : List ℕ) (out : List ℕ) (x : Sized) →
    (l : Emitting text rest number kept known lines codes out) → lines_of rest ≡ line ∷ lines_of behind → Reads line x →
    Knows (labels_of l.are.statements) x.statement.item → ((code : List ℕ) →
    Codes (labels_of l.are.statements) (0x100 + length out) x.statement.item code → ⊥) →
    Refuses text (refusal.Range (number + 1))
is_range one text rest behind line number kept known lines codes out x l e r k c =
    range (number + 1) (labels_of l.are.statements) (0x100 + length out) x
    (is_open one text rest behind line number kept known lines codes out x l e r) k c

pub emitting_more : WordsAreOne → (text rest behind line : List ℕ) (number : ℕ) (kept : Labels) (known : Known)
    (lines : List Line) (codes : List ℕ) (out code new : List ℕ) (x : Sized) →
    (l : Emitting text rest number kept known lines codes out) → lines_of rest ≡ line ∷ lines_of behind → Reads line x →
    Codes (labels_of l.are.statements) (0x100 + length out) x.statement.item code → new ≡ out ++ code →
    (others : List Line) (more : List ℕ) → ((xs : List Sized) → l.left ≡ x ∷ xs → AreKnown xs others more) →
    Emitting text behind (number + 1) kept known others more new
emitting_more one text rest behind line number kept known lines codes out code new x l e r c is others more m =
    let n = next one text rest behind line number kept known lines codes out x l e r in
    let k : length code ≡ x.long = code_long one (labels_of l.are.statements) (0x100 + length out) x.statement.item code
    x.long c r.long in
    record {
      are = l.are;
      front = l.front ++ x ∷ [];
      left = n.others;
      parts = n.parts ∙ sym (append_assoc l.front (x ∷ []) n.others);
      unread = n.unread;
      knows = m n.others n.left_is;
      number_is = let h = l.number_is in omega (arith, length-append l.front (x ∷ []));
      pieces = l.pieces ++ code ∷ [];
      coded = coded_more (labels_of l.are.statements) 0x100 l.front l.pieces x code l.coded
          (subst (λ (o : List ℕ). Codes (labels_of l.are.statements) (0x100 + length o) x.statement.item code) l.out_is
          c);
      out_is = is ∙ ap (λ o. o ++ code) l.out_is ∙ sym (joined_more l.pieces code);
      long = let h = l.long in let m : length new ≡ length out + length code = ap length is ∙ length-append out code in
          omega (arith, m, h, k, total_append l.front (x ∷ []));
    }

-- behind a line that is read again
pub open_behind : (left : List Sized) (lines others : List Line) (codes : List ℕ) → AreKnown left lines codes →
    (l : Line) → lines ≡ l ∷ others → l ≡ line.Open → (x : Sized) (xs : List Sized) → left ≡ x ∷ xs →
    AreKnown xs others codes
open_behind left lines others codes k l e o x xs f =
    let h : AreKnown (x ∷ xs) (line.Open ∷ others) codes = subst (λ ys. AreKnown ys (line.Open ∷ others) codes) f
    (subst (λ ls. AreKnown left ls codes) (e ∙ ap (λ y. y ∷ others) o) k) in h

-- where the next line's bytes are kept
pub record KnownNext (text rest behind next : List ℕ) (number : ℕ) (kept : Labels) (known : Known)
    (lines others : List Line) (codes : List ℕ) (out : List ℕ) (n : ℕ) : Type 0 where
  pub fits : n ≤ length codes
  pub more : (code left new : List ℕ) → code ≡ take n codes → left ≡ drop n codes → new ≡ out ++ code →
      Emitting text behind (number + 1) kept known others left new

pub known_next : WordsAreOne → (text rest behind next : List ℕ) (number : ℕ) (kept : Labels) (known : Known)
    (lines others : List Line) (codes : List ℕ) (out : List ℕ) (n : ℕ) →
    Emitting text rest number kept known lines codes out → lines_of rest ≡ next ∷ lines_of behind → (k : Line) →
    lines ≡ k ∷ others → k ≡ line.Known n → KnownNext text rest behind next number kept known lines others codes out n
known_next one text rest behind next number kept known lines others codes out n l e k g o =
    let f = first_read next (lines_of behind) l.left (subst (λ ls. AreRead ls l.left) e l.unread) in
    let same : AreKnown l.left (line.Known n ∷ others) codes = subst (λ ls. AreKnown l.left ls codes) (g
    ∙ ap (λ y. y ∷ others) o) l.knows in
    let h = first_known f.first f.others n others codes (subst (λ ys. AreKnown ys (line.Known n
    ∷ others) codes) f.parts same) in
    record {
      fits = h.fits;
      more = λ code left new c d is.
          emitting_more one text rest behind next number kept known lines codes out code new f.first l e f.reads
          (subst (Codes (labels_of l.are.statements) (0x100 + length out) f.first.statement.item) (sym c)
          (h.is (labels_of l.are.statements) (0x100 + length out)))
          is others left
          (λ xs p. let i = first_known f.first xs n others codes (subst (λ ys. AreKnown ys (line.Known n
          ∷ others) codes) p same) in subst (AreKnown xs others) (sym d) i.others);
    }

-- something is kept of each line
pub none_kept : (text rest behind next : List ℕ) (number : ℕ) (kept : Labels) (known : Known) (lines : List Line)
    (codes : List ℕ) (out : List ℕ) → Emitting text rest number kept known lines codes out → lines_of rest ≡ next
    ∷ lines_of behind → lines ≡ [] → ⊥
none_kept text rest behind next number kept known lines codes out l e g =
    let f = first_read next (lines_of behind) l.left (subst (λ ls. AreRead ls l.left) e l.unread) in
    let k : AreKnown (f.first ∷ f.others) [] codes = subst (λ ys. AreKnown ys [] codes) f.parts
    (subst (λ ls. AreKnown l.left ls codes) g l.knows) in k

pub assembled : (text rest : List ℕ) (number : ℕ) (kept : Labels) (known : Known) (lines : List Line) (codes : List ℕ)
    (out : List ℕ) → Emitting text rest number kept known lines codes out → rest ≡ [] → Assembles text out
assembled text rest number kept known lines codes out l e =
    let f : AreRead [] l.left = subst (λ r. AreRead (lines_of r) l.left) e l.unread in
    let same : l.are.statements ≡ l.front = l.parts ∙ ap (λ xs. l.front ++ xs) (none_left l.left f)
    ∙ append-nil l.front in
    record {
      statements = l.are.statements;
      laid = l.are.laid;
      room = l.are.room;
      pieces = l.pieces;
      coded = subst (λ xs. AreCoded (labels_of l.are.statements) 0x100 xs l.pieces) (sym same) l.coded;
      whole = l.out_is;
    }
  where
    none_left : (xs : List Sized) → AreRead [] xs → xs ≡ []
    none_left [] a = refl
    none_left (x ∷ xs) a = absurd a
