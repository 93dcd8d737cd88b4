-- The bytes of a text spell each of its instructions.
use Rattle.std.proofs.Common.{◌≡◌, ℕ, ◌+◌, ◌≤◌, List, [], ◌∷◌, ◌++◌, length, take, Some, refl, sym, ap, subst, ◌∙◌, arith, length-append, append_assoc}
use Rattle.std.proofs.Math.Seq.{take-append_seam, drop-append_seam}
use Rattle.dm_ins.specs.Preferred.{IsPreferred}
use Rattle.dm_ins.specs.Ins.{Spells}
use Rattle.dm_ins.proofs.Preferred.{spelled_short}
use Rattle.dm_decode.specs.words.Laws.{WordsAreOne}
use Rattle.dm_decode.specs.disassembly.Listing.{bytes_at}
use Rattle.dm_lines.specs.declared.statement.Instruction.{Instruction}
use Rattle.dm_lines.specs.Statements.{Item, instruction}
use Rattle.dm_asm.specs.Labels.{Label}
use Rattle.dm_asm.specs.Lines.{lines_of}
use Rattle.dm_asm.specs.Codes.{Codes, IsCoded, placed_words}
use Rattle.dm_asm.specs.Laws.{IsSpelled}
use Rattle.dm_asm.specs.Programs.{Sized, AreRead, AreCoded, joined, total, labels_of, Laid, Assembles}
use Rattle.dm_asm.proofs.OneAnswer.{laid_once}
use Rattle.dm_asm.proofs.Stated.{code_long}

-- the piece of a statement among the bytes of all
record HasPiece (labels : List Label) (at : ℕ) (x : Sized) (front : ℕ) (bytes : List ℕ) : Type 0 where
  before : List ℕ
  code : List ℕ
  behind : List ℕ
  parts : bytes ≡ before ++ (code ++ behind)
  place : length before ≡ front
  long : length code ≡ x.long
  codes : Codes labels (at + front) x.statement.item code

piece_of : WordsAreOne → (labels : List Label) (at : ℕ) (lines : List (List ℕ)) (front : List Sized) (x : Sized)
    (back : List Sized) (ps : List (List ℕ)) → AreRead lines (front ++ x ∷ back) → AreCoded labels at (front ++ x
    ∷ back) ps → HasPiece labels at x (total front) (joined ps)
piece_of one labels at [] [] x back ps r a = absurd r
piece_of one labels at (l ∷ lines) [] x back [] r a = absurd a
piece_of one labels at (l ∷ lines) [] x back (p ∷ ps) r a = record {
  before = [];
  code = p;
  behind = joined ps;
  parts = refl;
  place = refl;
  long = code_long one labels at x.statement.item p x.long a.0 r.0.long;
  codes = subst (λ (k : ℕ). Codes labels k x.statement.item p) (let e : at ≡ at + 0 = omega arith in e) a.0;
}
piece_of one labels at [] (y ∷ front) x back ps r a = absurd r
piece_of one labels at (l ∷ lines) (y ∷ front) x back [] r a = absurd a
piece_of one labels at (l ∷ lines) (y ∷ front) x back (p ∷ ps) r a =
    let h = piece_of one labels (at + length p) lines front x back ps r.1 a.1 in
    let k : length p ≡ y.long = code_long one labels at y.statement.item p y.long a.0 r.0.long in
    let e : at + length p + total front ≡ at + (y.long + total front) = omega (arith, k) in
    record {
      before = p ++ h.before;
      code = h.code;
      behind = h.behind;
      parts = ap (λ (z : List ℕ). p ++ z) h.parts ∙ sym (append_assoc p h.before (h.code ++ h.behind));
      place = let q = h.place in omega (arith, length-append p h.before, k, q);
      long = h.long;
      codes = subst (λ (i : ℕ). Codes labels i x.statement.item h.code) e h.codes;
    }

-- a piece is the bytes at its place
piece_at : (before code behind : List ℕ) → bytes_at (before ++ (code ++ behind)) (length before) (length code) ≡ code
piece_at before code behind =
    ap (take (length code)) (drop-append_seam before (code ++ behind)) ∙ take-append_seam code behind

found_at : (bytes before code behind : List ℕ) (at long : ℕ) → bytes ≡ before ++ (code ++ behind) → length before ≡ at →
    length code ≡ long → bytes_at bytes at long ≡ code
found_at bytes before code behind at long e p l =
    ap (λ (z : List ℕ). bytes_at z at long) e
    ∙ ap (λ (n : ℕ). bytes_at (before ++ (code ++ behind)) n long) (sym p)
    ∙ ap (λ (n : ℕ). bytes_at (before ++ (code ++ behind)) (length before) n) (sym l)
    ∙ piece_at before code behind

ends_within : (bytes before code behind : List ℕ) (at long : ℕ) → bytes ≡ before ++ (code ++ behind) →
    length before ≡ at → length code ≡ long → at + long ≤ length bytes
ends_within bytes before code behind at long e p l = rw (e, length-append, length-append) (omega (arith, p, l))

spelled : (labels : List Label) (bytes code : List ℕ) (at long : ℕ) (i : Instruction) →
    IsCoded labels (0x100 + at) i code → bytes_at bytes at long ≡ code → at + long ≤ length bytes → length code ≡ long →
    IsSpelled labels bytes at long i
spelled labels bytes code at long i c found within l = record {
  written = c.written;
  placed = subst (λ (k : ℕ). placed_words labels (0x100 + at + k) i ≡ Some c.written) l c.placed;
  ins = c.ins;
  prefixes = c.prefixes;
  words = c.words;
  stands = record {
    within = within;
    short = let s = spelled_short c.ins code c.preferred.spells in omega (arith, s, l);
    spells = subst (Spells c.ins) (sym found) c.preferred.spells;
  };
  preferred = subst (IsPreferred c.ins) (sym found) c.preferred;
}

pub texts_are_spelled : WordsAreOne → (text bytes : List ℕ) (before after : List Sized) (x : Sized) (i : Instruction) →
    Assembles text bytes → Laid (lines_of text) (before ++ x ∷ after) → x.statement.item ≡ instruction i →
    IsSpelled (labels_of (before ++ x ∷ after)) bytes (total before) x.long i
texts_are_spelled one text bytes before after x i a laid is =
    let e : a.statements ≡ before ++ x ∷ after = laid_once one text a.statements (before ++ x ∷ after) a.laid laid in
    let coded : AreCoded (labels_of (before ++ x ∷ after)) 0x100 (before ++ x ∷ after) a.pieces =
    subst (λ (xs : List Sized). AreCoded (labels_of xs) 0x100 xs a.pieces) e a.coded in
    let h = piece_of one (labels_of (before ++ x ∷ after)) 0x100 (lines_of text) before x after a.pieces laid.read
    coded in
    let parts : bytes ≡ h.before ++ (h.code ++ h.behind) = a.whole ∙ h.parts in
    let c : IsCoded (labels_of (before ++ x ∷ after)) (0x100 + total before) i h.code =
    subst (λ (it : Item). Codes (labels_of (before ++ x ∷ after)) (0x100 + total before) it h.code) is h.codes in
    spelled (labels_of (before ++ x ∷ after)) bytes h.code (total before) x.long i c
    (found_at bytes h.before h.code h.behind (total before) x.long parts h.place h.long)
    (ends_within bytes h.before h.code h.behind (total before) x.long parts h.place h.long) h.long
