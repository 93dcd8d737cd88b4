-- The lines of some bytes have these bytes.
use Rattle.std.proofs.Common.{◌≡◌, ℕ, suc, ◌+◌, ◌*◌, ◌/◌, ◌%◌, ◌^◌, ◌<◌, ◌≤◌, Bool, true, false, eqb, List, [], ◌∷◌, ◌++◌, length, map, take, drop, Option, Some, None, inl, inr, refl, sym, ap, subst, ◌∙◌, arith, length-append, length-take-le, append_assoc, append-nil}
use Rattle.std.proofs.Math.Seq.{take-add, take-length}
use Rattle.std.specs.Prelude.{codes, flat_map, nat_lt, if◌then◌else◌}
use Rattle.std.specs.List.{All, AllByRecursion}
use Rattle.std.proofs.lemmas.List.Elements.{All-take, All-drop, All-from_recursion, recursion_from_All}
use Rattle.std.proofs.lemmas.Bool.Decides.{nat_tests}
use Rattle.dm_ins.specs.declared.operand.Base.{Base}
use Rattle.dm_ins.specs.declared.operand.Base.TheVariants.{Direct}
use Rattle.dm_ins.specs.declared.operand.Operand.{Operand}
use Rattle.dm_ins.specs.declared.operand.Operand.TheVariants as operand
use Rattle.dm_ins.specs.declared.action.Action.{Action}
use Rattle.dm_ins.specs.declared.ins.Ins.{Ins}
use Rattle.dm_ins.specs.inner.Search.{OperandFits}
use Rattle.dm_ins.specs.Preferred.{IsPreferred}
use Rattle.dm_ins.specs.Spelling.{SpellsAction}
use Rattle.dm_ins.proofs.Shortest.{action_fits}
use Rattle.dm_ins.proofs.Preferred.{has_preferred}
use Rattle.dm_decode.specs.Pieces.{digit, byte_in_text}
use Rattle.dm_decode.specs.Texts.{text_of}
use Rattle.dm_decode.specs.declared.words.written.Size.{Size}
use Rattle.dm_decode.specs.declared.words.written.Words.{Words}
use Rattle.dm_decode.specs.words.Words.{AreWords, size_word}
use Rattle.dm_decode.specs.words.Own as read
use Rattle.dm_decode.specs.words.Own.{words_of_action}
use Rattle.dm_decode.specs.words.StandIns.{StandsFor}
use Rattle.dm_decode.specs.words.Laws.{OwnWordsAreRead, StandInsAreRead, LengthsAreKnown}
use Rattle.dm_lines.specs.declared.term.Amount.TheVariants.{Plus}
use Rattle.dm_lines.specs.declared.statement.Instruction.{Instruction}
use Rattle.dm_lines.specs.Own.{memory_term, own_term, own_instruction, own_statement}
use Rattle.dm_lines.specs.Placing.{amount_byte}
use Rattle.dm_lines.specs.Statements.{Statement, line_statement}
use Rattle.dm_lines.specs.Laws as line
use Rattle.dm_lines.specs.Laws.{TermFits, IsComment, data_statement, OwnTermsAreWritten, OutlinesStand, TextsAreRead, TextsArePlain, DataIsRead}
use Rattle.dm_decode.specs.disassembly.Listing.{bytes_at, data_text, instruction_text, IsListedLine, preferred, other, single, Lists, none, more, IsListing}
use Rattle.dm_decode.proofs.disassembly.Lines.{IsPart, shows_part}
use Rattle.dm_decode.proofs.disassembly.Once.{bytes_long}
use Rattle.dm_lines.specs.declared.token.Name as Name'
use Rattle.dm_asm.specs.Labels.{Label, term_place}
use Rattle.dm_asm.specs.Codes.{Codes, HasLength, HasShape, IsCoded, outlined, written_for, placed_words}
use Rattle.dm_asm.specs.Lines.{lines_of}
use Rattle.dm_asm.specs.inner.Lines.{trim}
use Rattle.dm_asm.specs.Programs.{Sized, AreRead, AreOnce, AreCoded, joined, total, own_label, labels_of, longest_program, Assembles}
use Rattle.dm_asm.proofs.Ends.{IsOpen, line_found}
use Rattle.dm_asm.proofs.Placed.{stands}
use Rattle.dm_asm.proofs.Stated.{total_append, labels_more, read_more, coded_more, joined_more}

-- the laws of lines and of words
pub record Laws : Type 0 where
  pub own_words : OwnWordsAreRead
  pub stand_ins : StandInsAreRead
  pub lengths : LengthsAreKnown
  pub own_terms : OwnTermsAreWritten
  pub outlines : OutlinesStand
  pub read : TextsAreRead
  pub plain : TextsArePlain
  pub bytes : DataIsRead

-- ---- printed bytes

abbrev Printed : List ℕ → Type 0
Printed bs = AllByRecursion (λ b. 32 ≤ b) bs

printed-append : (xs ys : List ℕ) → Printed xs → Printed ys → Printed (xs ++ ys)
printed-append [] ys h k = k
printed-append (x ∷ xs) ys h k = (h.0, printed-append xs ys h.1 k)

no_line_end : (b : ℕ) → 32 ≤ b → eqb b 10 ≡ false
no_line_end b h = grind (arith, nat_tests)

no_return : (b : ℕ) → 32 ≤ b → eqb b 13 ≡ false
no_return b h = grind (arith, nat_tests)

printed_open : (line : List ℕ) → Printed line → IsOpen line
printed_open [] h = tt
printed_open (b ∷ line) h = (no_line_end b h.0, printed_open line h.1)

printed_kept : (line : List ℕ) → Printed line → trim line ≡ line
printed_kept [] h = refl
printed_kept (b ∷ []) h = rw (no_return b h.0) refl
printed_kept (b ∷ c ∷ line) h = ap (λ (z : List ℕ). b ∷ z) (printed_kept (c ∷ line) h.1)

digit_printed : (d : ℕ) → 32 ≤ digit d
digit_printed d = by (nat_lt d 10)
  where
    by : (z : Bool) → 32 ≤ (if z then 48 + d else 55 + d)
    by true = omega arith
    by false = omega arith

number_printed : (n : ℕ) → Printed (byte_in_text n)
unfolding byte_in_text
number_printed n = (omega arith, (digit_printed (n / 16), (digit_printed (n % 16), (omega arith, tt))))

numbers_printed : (bs : List ℕ) → Printed (flat_map (λ c. codes "," ++ byte_in_text c) bs)
numbers_printed [] = tt
numbers_printed (b ∷ bs) = (
  omega arith,
  printed-append (byte_in_text b) (flat_map (λ c. codes ","
      ++ byte_in_text c) bs) (number_printed b) (numbers_printed bs),
)

data_printed : (bs : List ℕ) → Printed (data_text bs)
data_printed [] = (omega arith, (omega arith, (omega arith, tt)))
data_printed (b ∷ bs) = (
  omega arith,
  (
    omega arith,
    (
      omega arith,
      printed-append (byte_in_text b) (flat_map (λ c. codes "," ++ byte_in_text c) bs) (number_printed b)
          (numbers_printed
          bs),
    ),
  ),
)

numbers_long : (bs : List ℕ) → length (flat_map (λ c. codes "," ++ byte_in_text c) bs) ≡ 5 * length bs
unfolding byte_in_text
numbers_long [] = refl
numbers_long (b ∷ bs) = let h : length (flat_map (λ c. codes "," ++ byte_in_text c) bs) ≡ 5 * length bs =
    numbers_long bs in omega (arith, h)

data_long : (b : ℕ) (bs : List ℕ) → length (line.data_text b bs) ≡ 7 + 5 * length bs
unfolding byte_in_text
data_long b bs = let h : length (flat_map (λ c. codes "," ++ byte_in_text c) bs) ≡ 5 * length bs =
    numbers_long bs in omega (arith, h)

-- ---- lines

-- a line is a statement with no label that has these bytes at an offset, and is printed
record IsLine (bytes : List ℕ) (at k : ℕ) (line : List ℕ) : Type 0 where
  statement : Statement
  is : line_statement line ≡ Some statement
  bare : statement.label ≡ None
  long : HasLength statement.item k
  codes : Codes [] at statement.item bytes
  printed : Printed line

-- ---- lines of data

plus_bytes : (bs : List ℕ) → AllByRecursion (λ b. b < 2 ^ 8) bs → map amount_byte (map Plus bs) ≡ map Some bs
plus_bytes [] h = refl
plus_bytes (b ∷ bs) h =
    let e : nat_lt b 256 ≡ true = grind (arith, nat_tests, h.0) in
    rw (e, plus_bytes bs h.1) refl

plus_long : (bs : List ℕ) → length (map Plus bs) ≡ length bs
plus_long [] = refl
plus_long (b ∷ bs) = ap suc (plus_long bs)

data_line : Laws → (bs comment : List ℕ) (at : ℕ) → AllByRecursion (λ b. b < 2 ^ 8) bs → 0 < length bs →
    length bs ≤ 16 → IsComment comment → Printed comment → length comment ≤ 66 → IsLine bs at (length bs) (data_text bs
    ++ comment)
data_line g [] comment at fit some few is printed short = absurd (omega (arith, some))
data_line g (b ∷ bs) comment at fit some few is printed short = record {
  statement = data_statement (b ∷ bs);
  is = g.bytes b bs comment fit is (rw length-append (omega (arith, data_long b bs, few, short)));
  bare = refl;
  long = sym (plus_long (b ∷ bs));
  codes = plus_bytes (b ∷ bs) fit;
  printed = printed-append (data_text (b ∷ bs)) comment (data_printed (b ∷ bs)) printed;
}

-- ---- lines of instructions

memory_bare : (s : Size) (b : Base) (n : ℕ) → term_place [] (memory_term s b n) ≡ Some 0
memory_bare s Direct n = refl
memory_bare s _ n = refl

own_bare : (a : Action) (next : ℕ) (o : Operand) → term_place [] (own_term a next o) ≡ Some 0
own_bare a next operand.Nothing = refl
own_bare a next (operand.ByteRegister r) = refl
own_bare a next (operand.WordRegister r) = refl
own_bare a next (operand.SegmentRegister r) = refl
own_bare a next (operand.Memory w m) = memory_bare (size_word a w) m.base m.displacement
own_bare a next (operand.ByteValue n) = refl
own_bare a next (operand.WordValue n) = refl
own_bare a next operand.One = refl
own_bare a next (operand.Target d) = refl
own_bare a next (operand.FarTarget n s) = refl

memory_fits : (s : Size) (b : Base) (n : ℕ) → n < 2 ^ 16 → TermFits (memory_term s b n)
memory_fits s Direct n h = h
memory_fits s _ n h = h

own_fits : (a : Action) (next : ℕ) (o : Operand) → OperandFits o → TermFits (own_term a next o)
own_fits a next operand.Nothing h = tt
own_fits a next (operand.ByteRegister r) h = tt
own_fits a next (operand.WordRegister r) h = tt
own_fits a next (operand.SegmentRegister r) h = tt
own_fits a next (operand.Memory w m) h = memory_fits (size_word a w) m.base m.displacement h
own_fits a next (operand.ByteValue n) h = omega (arith, h)
own_fits a next (operand.WordValue n) h = h
own_fits a next operand.One h = omega arith
own_fits a next (operand.Target d) h = omega arith
own_fits a next (operand.FarTarget n s) h = (h.1, h.0)

own_placed : Laws → (a : Action) (next : ℕ) (o : Operand) → written_for [] a.mnemonic next (own_term a next o)
    ≡ Some (read.shown_operand a next o)
own_placed g a next o = rw (own_bare a next o) (g.own_terms a next 0 o)

own_words : Laws → (i : Ins) (next : ℕ) → placed_words [] next (own_instruction i next)
    ≡ Some (words_of_action i.action next)
unfolding words_of_action
own_words g i next = rw (own_placed g i.action next i.action.first, own_placed g i.action next i.action.second) refl

-- an instruction's own statement has its bytes
own_coded : Laws → (i : Ins) (x : List ℕ) (at next : ℕ) → IsPreferred i x → next ≡ at + length x → next < 2 ^ 16 →
    IsCoded [] at (own_instruction i next) x
own_coded g i x at next p e lt =
    let own : Instruction = own_instruction i next in
    let w : Words = words_of_action i.action next in
    let s : SpellsAction i.action p.spells.rest = p.spells.action in
    let f = action_fits i.action p.spells.rest s in
    let h : placed_words [] next own ≡ Some w = own_words g i next in
    let are : AreWords w i.action = g.own_words i.action next p.spells.rest lt s in
    let st : StandsFor (outlined own) w = stands g.outlines [] next own w (own_fits i.action next i.action.first f.0)
    (own_fits i.action next i.action.second f.1) h in
    let r = g.stand_ins (outlined own) w i.action p.spells.rest st are s in
    let j = has_preferred i.prefixes r.0 r.1 r.3 in
    let jw : AreWords (outlined own) j.ins.action = subst (AreWords (outlined own)) (sym j.action) r.2 in
    record {
      shape = record {
        ins = j.ins;
        prefixes = j.prefixes;
        words = jw;
        code = j.bytes;
        preferred = j.preferred;
        long = sym (g.lengths (outlined own) w j.ins i j.bytes x st jw are j.prefixes j.preferred p);
      };
      written = w;
      placed = subst (λ (k : ℕ). placed_words [] k own ≡ Some w) e h;
      ins = i;
      prefixes = refl;
      words = are;
      preferred = p;
    }

own_line : Laws → (i : Ins) (x : List ℕ) (at k next : ℕ) → IsPreferred i x → length x ≡ k → next ≡ at + k →
    next < 2 ^ 16 → IsLine x at k (text_of i next)
own_line g i x at k next p l e lt =
    let c = own_coded g i x at next p (e ∙ ap (λ (n : ℕ). at + n) (sym l)) lt in
    record {
      statement = own_statement i next;
      is = g.read i p.spells.rest next p.spells.action;
      bare = refl;
      long = subst (HasShape (own_instruction i next)) l c.shape;
      codes = c;
      printed = (g.plain i next).printed;
    }

-- ---- each line

bytes_fit : (bytes : List ℕ) (at k : ℕ) → AllByRecursion (λ b. b < 2 ^ 8) bytes →
    AllByRecursion (λ b. b < 2 ^ 8) (bytes_at bytes at k)
bytes_fit bytes at k h =
    let some : All (λ b. b < 2 ^ 8) (bytes_at bytes at k) =
    All-take (λ b. b < 2 ^ 8) k (drop at bytes) (All-drop (λ b. b < 2 ^ 8) at bytes (All-from_recursion (λ b. b
    < 2 ^ 8) bytes h)) in
    recursion_from_All (λ b. b < 2 ^ 8) (bytes_at bytes at k) some

data_at : Laws → (bytes : List ℕ) (at k : ℕ) (comment : List ℕ) → AllByRecursion (λ b. b < 2 ^ 8) bytes → 0 < k →
    k ≤ 16 → at + k ≤ length bytes → IsComment comment → Printed comment → length comment ≤ 66 →
    IsLine (bytes_at bytes at k) (0x100 + at) k (data_text (bytes_at bytes at k) ++ comment)
data_at g bytes at k comment fit some few within is printed short =
    let own : List ℕ = bytes_at bytes at k in
    let e : length own ≡ k = bytes_long bytes at k within in
    subst (λ (n : ℕ). IsLine own (0x100 + at) n (data_text own ++ comment)) e
    (data_line g own comment (0x100 + at) (bytes_fit bytes at k fit) (omega (arith, e, some)) (omega (
      arith,
      e,
      few,
    )) is printed short)

behind_data : Laws → (i : Ins) (next : ℕ) → Printed (codes " ; " ++ text_of i next) ×
    (length (codes " ; " ++ text_of i next) ≤ 66)
behind_data g i next = let t = g.plain i next in (
  (omega arith, (omega arith, (omega arith, t.printed))),
  omega (arith, t.short),
)

shown_line : Laws → (bytes : List ℕ) (at k : ℕ) (line : List ℕ) → AllByRecursion (λ b. b < 2 ^ 8) bytes →
    length bytes ≤ longest_program → IsPart bytes at k → IsListedLine bytes at k line →
    IsLine (bytes_at bytes at k) (0x100 + at) k line
shown_line g bytes at k line fit few part (preferred i j s p) =
    own_line g i (bytes_at bytes at k) (0x100 + at) k (0x100 + at + k) p (bytes_long bytes at k part.within) refl
    (omega (arith, few, part.within))
shown_line g bytes at k line fit few part (other i j s p) =
    let c = behind_data g i (0x100 + at + k) in
    subst (IsLine (bytes_at bytes at k) (0x100 + at) k) (sym (append_assoc (data_text (bytes_at bytes at k))
    (codes " ; ") (instruction_text i at k)))
    (data_at g bytes at k (codes " ; " ++ instruction_text i at k) fit part.some s.short part.within (inr (
      refl,
      inl refl,
    )) c.0 c.1)
shown_line g bytes at k line fit few part (single h n) =
    subst (IsLine (bytes_at bytes at 1) (0x100 + at) 1) (append-nil (data_text (bytes_at bytes at 1)))
    (data_at g bytes at 1 [] fit part.some (omega arith) part.within tt tt (omega arith))

-- ---- all lines

-- the lines of the first bytes are statements with no label that have these bytes
record AreListed (bytes : List ℕ) (at : ℕ) (text : List ℕ) : Type 0 where
  lines : List (List ℕ)
  statements : List Sized
  pieces : List (List ℕ)
  split : (rest : List ℕ) → lines_of (text ++ rest) ≡ lines ++ lines_of rest
  read : AreRead lines statements
  bare : labels_of statements ≡ []
  coded : AreCoded [] 0x100 statements pieces
  within : at ≤ length bytes
  whole : joined pieces ≡ take at bytes
  long : total statements ≡ at

split_more : (text line : List ℕ) (lines : List (List ℕ)) → Printed line →
    ((rest : List ℕ) → lines_of (text ++ rest) ≡ lines ++ lines_of rest) → (rest : List ℕ) →
    lines_of ((text ++ line ++ 10 ∷ []) ++ rest) ≡ (lines ++ line ∷ []) ++ lines_of rest
split_more text line lines p split rest =
    ap lines_of (append_assoc (text ++ line) (10 ∷ []) rest ∙ append_assoc text line (10 ∷ rest))
    ∙ split (line ++ 10 ∷ rest)
    ∙ ap (λ (z : List (List ℕ)). lines ++ z) (line_found line rest (printed_open line p)
    ∙ ap (λ (z : List ℕ). z ∷ lines_of rest) (printed_kept line p))
    ∙ sym (append_assoc lines (line ∷ []) (lines_of rest))

bare_more : (xs : List Sized) (x : Sized) → labels_of xs ≡ [] → x.statement.label ≡ None → labels_of (xs ++ x ∷ []) ≡ []
bare_more xs x e h = labels_more 0x100 xs x ∙ ap (λ (ls : List Label). ls
    ++ own_label x.statement.label (0x100 + total xs)) e
    ∙ ap (λ (l : Option Name'.Name). own_label l (0x100 + total xs)) h

listed : Laws → (bytes : List ℕ) (at : ℕ) (text : List ℕ) → AllByRecursion (λ b. b < 2 ^ 8) bytes →
    length bytes ≤ longest_program → Lists bytes at text → AreListed bytes at text
listed g bytes at text fit few none = record {
  lines = [];
  statements = [];
  pieces = [];
  split = λ rest. refl;
  read = tt;
  bare = refl;
  coded = tt;
  within = omega arith;
  whole = refl;
  long = refl;
}
listed g bytes at text fit few (more j k front line l s) =
    let r = listed g bytes j front fit few l in
    let part = shows_part bytes j k line s in
    let x = shown_line g bytes j k line fit few part s in
    let sized : Sized = record { statement = x.statement; long = k } in
    let len : length (joined r.pieces) ≡ j = ap length r.whole ∙ length-take-le j bytes r.within in
    record {
      lines = r.lines ++ line ∷ [];
      statements = r.statements ++ sized ∷ [];
      pieces = r.pieces ++ bytes_at bytes j k ∷ [];
      split = split_more front line r.lines x.printed r.split;
      read = read_more r.lines r.statements line sized r.read (record { is = x.is; long = x.long });
      bare = bare_more r.statements sized r.bare x.bare;
      coded = coded_more [] 0x100 r.statements r.pieces sized (bytes_at bytes j k) r.coded
          (subst (λ (n : ℕ). Codes [] (0x100 + n) x.statement.item (bytes_at bytes j k)) (sym len) x.codes);
      within = part.within;
      whole = joined_more r.pieces (bytes_at bytes j k) ∙ ap (λ (z : List ℕ). z ++ bytes_at bytes j k) r.whole
          ∙ sym (take-add j k bytes);
      long = let h = r.long in omega (arith, h, total_append r.statements (sized ∷ []));
    }

pub listings_assemble : Laws → (bytes text : List ℕ) → AllByRecursion (λ b. b < 2 ^ 8) bytes →
    length bytes ≤ longest_program → IsListing bytes text → Assembles text bytes
listings_assemble g bytes text fit few l =
    let r = listed g bytes (length bytes) text fit few l in
    let lines : lines_of text ≡ r.lines = ap lines_of (sym (append-nil text)) ∙ r.split [] ∙ append-nil r.lines in
    record {
      statements = r.statements;
      laid = record {
        read = subst (λ ls. AreRead ls r.statements) (sym lines) r.read;
        once = subst AreOnce (sym r.bare) tt;
      };
      room = let h = r.long in omega (arith, h, few);
      pieces = r.pieces;
      coded = subst (λ (ls : List Label). AreCoded ls 0x100 r.statements r.pieces) (sym r.bare) r.coded;
      whole = sym (r.whole ∙ take-length bytes);
    }
