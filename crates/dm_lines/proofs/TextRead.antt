-- The text of each instruction of the table is read as that instruction.
use Rattle.std.proofs.Common.{◌≡◌, ℕ, ◌+◌, ◌/◌, ◌%◌, ◌<◌, ◌≤◌, ◌^◌, Bool, true, false, List, [], ◌∷◌, ◌++◌, length, Option, Some, None, sym, ap, subst, ◌∙◌, arith, length-append, append-nil}
use Rattle.std.specs.Prelude.{◌==◌, if◌then◌else◌, nat_lt, codes}
use Rattle.std.specs.List.{list_all, AllByRecursion}
use Rattle.std.proofs.lemmas.Bool.Decides.{nat_tests}
use Rattle.dm_ins.specs.declared.operand.Width.{Width}
use Rattle.dm_ins.specs.declared.operand.WordRegister.{WordRegister}
use Rattle.dm_ins.specs.declared.operand.WordRegister.TheVariants.{Ax}
use Rattle.dm_ins.specs.declared.operand.ByteRegister.{ByteRegister}
use Rattle.dm_ins.specs.declared.operand.ByteRegister.TheVariants.{Al}
use Rattle.dm_ins.specs.declared.operand.SegmentRegister.{SegmentRegister}
use Rattle.dm_ins.specs.declared.operand.SegmentRegister.TheVariants.{Es}
use Rattle.dm_ins.specs.declared.operand.Base.{Base}
use Rattle.dm_ins.specs.declared.operand.Base.TheVariants.{Direct, BxSi, BxDi, BpSi, BpDi, OnSi, OnDi, OnBp, OnBx}
use Rattle.dm_ins.specs.declared.operand.Address.{Address}
use Rattle.dm_ins.specs.declared.operand.Operand.{Operand}
use Rattle.dm_ins.specs.declared.operand.Operand.TheVariants as operand
use Rattle.dm_ins.specs.declared.action.Mnemonic.{Mnemonic}
use Rattle.dm_ins.specs.declared.action.Mnemonic.TheVariants.{Add, CallFar, JmpFar, JmpShort}
use Rattle.dm_ins.specs.declared.action.Action.{Action}
use Rattle.dm_ins.specs.declared.prefix.Repeat.{Repeat}
use Rattle.dm_ins.specs.declared.prefix.Repeat.TheVariants.{NotEqual, Equal}
use Rattle.dm_ins.specs.declared.prefix.Prefixes.{Prefixes}
use Rattle.dm_ins.specs.declared.ins.Ins.{Ins}
use Rattle.dm_ins.specs.inner.Search.{OperandFits}
use Rattle.dm_ins.specs.Walks.{◌>>=◌}
use Rattle.dm_ins.proofs.TableRules.{both_true}
use Rattle.dm_ins.proofs.Shortest.{action_fits}
use Rattle.dm_decode.specs.Names.{byte_name, word_name, segment_name, name_of}
use Rattle.dm_decode.specs.Pieces.{byte, digit, is_in_names, is_mark, parted, Piece, name, word, sign, space_sign, plus, comma, left_bracket, right_bracket, byte_in_text, word_in_text, text_bytes}
use Rattle.dm_decode.specs.Texts.{base_pieces, displacement_pieces, address_pieces, size_pieces, memory_pieces, operand_pieces, behind, second_pieces, operands_pieces, mnemonic_pieces, is_nop, action_pieces, segment_pieces, lock_pieces, repeat_pieces, prefix_pieces, pieces, text_of}
use Rattle.dm_decode.proofs.Pieces.{bytes-append}
use Rattle.dm_decode.proofs.Parted.{texts_are_parted}
use Rattle.dm_decode.specs.declared.words.written.Size.{Size}
use Rattle.dm_decode.specs.declared.words.written.Size.TheVariants.{Absent, Byte, Word, Near}
use Rattle.dm_decode.specs.words.Words.{size_word}
use Rattle.dm_decode.specs.words.Laws.{word_pieces}
use Rattle.dm_decode.proofs.words.Sizes.{sizes_are_shown}
use Rattle.dm_lines.specs.Tokens.{tokens_of}
use Rattle.dm_lines.specs.Statements.{statement_of, line_statement}
use Rattle.dm_lines.specs.Laws.{AllFit, TextsArePlain, TextsAreRead}
use Rattle.dm_lines.proofs.Printed.{pieces_are_read}
use Rattle.dm_lines.proofs.Again.{pieces_again}
use Rattle.dm_lines.proofs.Stated.{tokens_read}
use Rattle.dm_lines.proofs.InTable.{can_be_written}

-- ---- numbers fit

fit-append : (ps qs : List Piece) → AllFit ps → AllFit qs → AllFit (ps ++ qs)
fit-append [] qs h k = k
fit-append (p ∷ ps) qs h k = (h.0, fit-append ps qs h.1 k)

mnemonic_fit : (m : Mnemonic) → AllFit (mnemonic_pieces m)
mnemonic_fit CallFar = (tt, (tt, (tt, tt)))
mnemonic_fit JmpFar = (tt, (tt, (tt, tt)))
mnemonic_fit JmpShort = (tt, (tt, (tt, tt)))
mnemonic_fit m = (tt, tt)

base_fit : (b : Base) → AllFit (base_pieces b)
base_fit Direct = tt
base_fit BxSi = (tt, (tt, (tt, tt)))
base_fit BxDi = (tt, (tt, (tt, tt)))
base_fit BpSi = (tt, (tt, (tt, tt)))
base_fit BpDi = (tt, (tt, (tt, tt)))
base_fit OnSi = (tt, tt)
base_fit OnDi = (tt, tt)
base_fit OnBp = (tt, tt)
base_fit OnBx = (tt, tt)

displacement_fit : (n : ℕ) → n < 2 ^ 16 → AllFit (displacement_pieces n)
displacement_fit n h = by (n == 0)
  where
    by : (z : Bool) → AllFit (if z then [] else plus ∷ word n ∷ [])
    by true = tt
    by false = (tt, (h, tt))

based_fit : (b : Base) (n : ℕ) → n < 2 ^ 16 → AllFit (base_pieces b ++ displacement_pieces n)
based_fit b n h = fit-append (base_pieces b) (displacement_pieces n) (base_fit b) (displacement_fit n h)

address_fit : (b : Base) (n : ℕ) → n < 2 ^ 16 → AllFit (address_pieces (record { base = b; displacement = n }))
address_fit Direct n h = (h, tt)
address_fit BxSi n h = based_fit BxSi n h
address_fit BxDi n h = based_fit BxDi n h
address_fit BpSi n h = based_fit BpSi n h
address_fit BpDi n h = based_fit BpDi n h
address_fit OnSi n h = based_fit OnSi n h
address_fit OnDi n h = based_fit OnDi n h
address_fit OnBp n h = based_fit OnBp n h
address_fit OnBx n h = based_fit OnBx n h

word_fit : (s : Size) → AllFit (word_pieces s)
word_fit Absent = tt
word_fit Byte = (tt, (tt, tt))
word_fit Word = (tt, (tt, tt))
word_fit Near = (tt, (tt, tt))

memory_fit : (a : Action) (w : Width) (m : Address) → m.displacement < 2 ^ 16 → AllFit (memory_pieces a w m)
memory_fit a w m h =
    fit-append (size_pieces a w ++ left_bracket ∷ address_pieces m) (right_bracket ∷ [])
    (fit-append (size_pieces a w) (left_bracket ∷ address_pieces m) (subst AllFit (sym (sizes_are_shown a w))
    (word_fit (size_word a w))) (tt, address_fit m.base m.displacement h))
    (tt, tt)

operand_fit : (a : Action) (next : ℕ) (o : Operand) → OperandFits o → AllFit (operand_pieces a next o)
operand_fit a next operand.Nothing h = tt
operand_fit a next (operand.ByteRegister r) h = (tt, tt)
operand_fit a next (operand.WordRegister r) h = (tt, tt)
operand_fit a next (operand.SegmentRegister r) h = (tt, tt)
operand_fit a next (operand.Memory w m) h = memory_fit a w m h
operand_fit a next (operand.ByteValue n) h = (h, tt)
operand_fit a next (operand.WordValue n) h = (h, tt)
operand_fit a next operand.One h = (tt, tt)
operand_fit a next (operand.Target d) h = (omega arith, tt)
operand_fit a next (operand.FarTarget n s) h = (h.1, (tt, (h.0, tt)))

behind_fit : (p : Piece) (o : Operand) (ps : List Piece) → AllFit (p ∷ ps) → AllFit (behind p o ps)
behind_fit p operand.Nothing ps h = tt
behind_fit p o ps h = h

action_fit : (a : Action) (next : ℕ) → OperandFits a.first → OperandFits a.second → AllFit (action_pieces a next)
unfolding action_pieces
action_fit a next h k = by (is_nop a)
  where
    second : AllFit (second_pieces a next)
    second = behind_fit comma a.second (operand_pieces a next a.second) (tt, operand_fit a next a.second k)

    operands : AllFit (operands_pieces a next)
    operands = behind_fit space_sign a.first (operand_pieces a next a.first ++ second_pieces a next) (
      tt,
      fit-append (operand_pieces a next a.first) (second_pieces a next) (operand_fit a next a.first h) second,
    )

    by : (n : Bool) → AllFit (if n then name (codes "NOP") ∷ [] else mnemonic_pieces a.mnemonic
        ++ operands_pieces a next)
    by true = (tt, tt)
    by false = fit-append (mnemonic_pieces a.mnemonic) (operands_pieces a next) (mnemonic_fit a.mnemonic) operands

segment_fit : (s : Option SegmentRegister) → AllFit (segment_pieces s)
segment_fit None = tt
segment_fit (Some r) = (tt, (tt, tt))

lock_fit : (l : Bool) → AllFit (lock_pieces l)
lock_fit true = (tt, (tt, tt))
lock_fit false = tt

repeat_fit : (r : Option Repeat) → AllFit (repeat_pieces r)
repeat_fit None = tt
repeat_fit (Some NotEqual) = (tt, (tt, tt))
repeat_fit (Some Equal) = (tt, (tt, tt))

prefix_fit : (p : Prefixes) → AllFit (prefix_pieces p)
prefix_fit p =
    fit-append (segment_pieces p.segment ++ lock_pieces p.lock) (repeat_pieces p.repeat)
    (fit-append (segment_pieces p.segment) (lock_pieces p.lock) (segment_fit p.segment) (lock_fit p.lock))
    (repeat_fit p.repeat)

pieces_fit : (i : Ins) (next : ℕ) → OperandFits i.action.first → OperandFits i.action.second → AllFit (pieces i next)
unfolding pieces
pieces_fit i next h k = fit-append (prefix_pieces i.prefixes) (action_pieces i.action next) (prefix_fit i.prefixes)
    (action_fit i.action next h k)

-- ---- a text has few bytes

-- at most so many bytes
Long : ℕ → List Piece → Type 0
Long n ps = length (text_bytes ps) ≤ n

long-append : (m n : ℕ) (ps qs : List Piece) → Long m ps → Long n qs → Long (m + n) (ps ++ qs)
unfolding Long
long-append m n ps qs h k = rw (bytes-append, length-append) (omega arith)

long_more : (m n : ℕ) (ps : List Piece) → m ≤ n → Long m ps → Long n ps
unfolding Long
long_more m n ps h k = omega arith

byte_long : (r : ByteRegister) → Long 2 (name (byte_name r) ∷ [])
unfolding Long
byte_long Al = omega arith
byte_long _ = omega arith

word_long : (r : WordRegister) → Long 2 (name (word_name r) ∷ [])
unfolding Long
word_long Ax = omega arith
word_long _ = omega arith

segment_long : (r : SegmentRegister) → Long 2 (name (segment_name r) ∷ [])
unfolding Long
segment_long Es = omega arith
segment_long _ = omega arith

mnemonic_long : (m : Mnemonic) → Long 9 (mnemonic_pieces m)
unfolding Long name_of
mnemonic_long Add = omega arith
mnemonic_long _ = omega arith

base_long : (b : Base) → Long 5 (base_pieces b)
unfolding Long
base_long Direct = omega arith
base_long _ = omega arith

displacement_long : (n : ℕ) → Long 7 (displacement_pieces n)
unfolding Long word_in_text
displacement_long n = by (n == 0)
  where
    by : (z : Bool) → Long 7 (if z then [] else plus ∷ word n ∷ [])
    by true = omega arith
    by false = omega arith

address_long : (b : Base) (n : ℕ) → Long 12 (address_pieces (record { base = b; displacement = n }))
unfolding Long word_in_text
address_long Direct n = omega arith
address_long BxSi n = long-append 5 7 (base_pieces BxSi) (displacement_pieces n) (base_long BxSi) (displacement_long n)
address_long BxDi n = long-append 5 7 (base_pieces BxDi) (displacement_pieces n) (base_long BxDi) (displacement_long n)
address_long BpSi n = long-append 5 7 (base_pieces BpSi) (displacement_pieces n) (base_long BpSi) (displacement_long n)
address_long BpDi n = long-append 5 7 (base_pieces BpDi) (displacement_pieces n) (base_long BpDi) (displacement_long n)
address_long OnSi n = long-append 5 7 (base_pieces OnSi) (displacement_pieces n) (base_long OnSi) (displacement_long n)
address_long OnDi n = long-append 5 7 (base_pieces OnDi) (displacement_pieces n) (base_long OnDi) (displacement_long n)
address_long OnBp n = long-append 5 7 (base_pieces OnBp) (displacement_pieces n) (base_long OnBp) (displacement_long n)
address_long OnBx n = long-append 5 7 (base_pieces OnBx) (displacement_pieces n) (base_long OnBx) (displacement_long n)

size_long : (s : Size) → Long 5 (word_pieces s)
unfolding Long
size_long Absent = omega arith
size_long _ = omega arith

sign_long : (b : ℕ) → Long 1 (sign b ∷ [])
unfolding Long
sign_long b = omega arith

memory_long : (a : Action) (w : Width) (m : Address) → Long 19 (memory_pieces a w m)
memory_long a w m =
    long-append 18 1 (size_pieces a w ++ left_bracket ∷ address_pieces m) (right_bracket ∷ [])
    (long-append 5 13 (size_pieces a w) (left_bracket ∷ address_pieces m) (subst (Long 5) (sym (sizes_are_shown a w))
    (size_long (size_word a w)))
    (long-append 1 12 (left_bracket ∷ []) (address_pieces m) (sign_long 91) (address_long m.base m.displacement)))
    (sign_long 93)

operand_long : (a : Action) (next : ℕ) (o : Operand) → Long 19 (operand_pieces a next o)
unfolding Long byte_in_text word_in_text
operand_long a next operand.Nothing = omega arith
operand_long a next (operand.ByteRegister r) = long_more 2 19 (name (byte_name r) ∷ []) (omega arith) (byte_long r)
operand_long a next (operand.WordRegister r) = long_more 2 19 (name (word_name r) ∷ []) (omega arith) (word_long r)
operand_long a next (operand.SegmentRegister r) = long_more 2 19 (name (segment_name r)
    ∷ []) (omega arith) (segment_long r)
operand_long a next (operand.Memory w m) = memory_long a w m
operand_long a next (operand.ByteValue n) = omega arith
operand_long a next (operand.WordValue n) = omega arith
operand_long a next operand.One = omega arith
operand_long a next (operand.Target d) = omega arith
operand_long a next (operand.FarTarget n s) = omega arith

behind_long : (n b : ℕ) (o : Operand) (ps : List Piece) → Long n ps → Long (1 + n) (behind (sign b) o ps)
unfolding Long
behind_long n b operand.Nothing ps h = omega arith
behind_long n b o ps h = omega arith

action_long : (a : Action) (next : ℕ) → Long 49 (action_pieces a next)
unfolding action_pieces Long
action_long a next = by (is_nop a)
  where
    second : Long 20 (second_pieces a next)
    second = behind_long 19 44 a.second (operand_pieces a next a.second) (operand_long a next a.second)

    operands : Long 40 (operands_pieces a next)
    operands = behind_long 39 32 a.first (operand_pieces a next a.first ++ second_pieces a next)
        (long-append 19 20 (operand_pieces a next a.first) (second_pieces a next) (operand_long a next a.first) second)

    by : (n : Bool) → Long 49 (if n then name (codes "NOP") ∷ [] else mnemonic_pieces a.mnemonic
        ++ operands_pieces a next)
    by true = omega arith
    by false = long-append 9 40 (mnemonic_pieces a.mnemonic) (operands_pieces a next) (mnemonic_long a.mnemonic)
        operands

segments_long : (s : Option SegmentRegister) → Long 3 (segment_pieces s)
unfolding Long
segments_long None = omega arith
segments_long (Some r) = long-append 2 1 (name (segment_name r) ∷ []) (space_sign ∷ []) (segment_long r) (sign_long 32)

lock_long : (l : Bool) → Long 5 (lock_pieces l)
unfolding Long
lock_long true = omega arith
lock_long false = omega arith

repeat_long : (r : Option Repeat) → Long 6 (repeat_pieces r)
unfolding Long
repeat_long None = omega arith
repeat_long (Some NotEqual) = omega arith
repeat_long (Some Equal) = omega arith

prefix_long : (p : Prefixes) → Long 14 (prefix_pieces p)
prefix_long p =
    long-append 8 6 (segment_pieces p.segment ++ lock_pieces p.lock) (repeat_pieces p.repeat)
    (long-append 3 5 (segment_pieces p.segment) (lock_pieces p.lock) (segments_long p.segment) (lock_long p.lock))
    (repeat_long p.repeat)

pieces_long : (i : Ins) (next : ℕ) → Long 63 (pieces i next)
unfolding pieces
pieces_long i next = long-append 14 49 (prefix_pieces i.prefixes) (action_pieces i.action next) (prefix_long i.prefixes)
    (action_long i.action next)

-- ---- its bytes are printed ones

Printed : List ℕ → Type 0
Printed bs = AllByRecursion (λ b. 32 ≤ b) bs

printed-append : (xs ys : List ℕ) → Printed xs → Printed ys → Printed (xs ++ ys)
unfolding Printed
printed-append [] ys h k = k
printed-append (x ∷ xs) ys h k = (h.0, printed-append xs ys h.1 k)

digit_printed : (d : ℕ) → 32 ≤ digit d
digit_printed d = by (nat_lt d 10)
  where
    by : (z : Bool) → 32 ≤ (if z then 48 + d else 55 + d)
    by true = omega arith
    by false = omega arith

in_name_printed : (b : ℕ) → is_in_names b ≡ true → 32 ≤ b
in_name_printed b h = grind (arith, nat_tests)

mark_printed : (b : ℕ) → is_mark b ≡ true → 32 ≤ b
mark_printed b h = grind (arith, nat_tests)

name_printed : (w : List ℕ) → list_all is_in_names w ≡ true → Printed w
unfolding Printed
name_printed [] h = tt
name_printed (b ∷ w) h = let x = both_true (is_in_names b) (list_all is_in_names w) h in
    (in_name_printed b x.0, name_printed w x.1)

byte_printed : (n : ℕ) → Printed (byte_in_text n)
unfolding Printed byte_in_text
byte_printed n = (omega arith, (digit_printed (n / 16), (digit_printed (n % 16), (omega arith, tt))))

word_printed : (n : ℕ) → Printed (word_in_text n)
unfolding Printed word_in_text
word_printed n = (
  omega arith,
  (
    digit_printed (n / 4096),
    (
      digit_printed (n / 256 % 16),
      (digit_printed (n / 16 % 16), (digit_printed (n % 16), (omega arith, tt))),
    ),
  ),
)

pieces_printed : (b : Bool) (ps : List Piece) → parted b ps ≡ true → Printed (text_bytes ps)
unfolding Printed
pieces_printed b [] h = tt
pieces_printed true (name w ∷ ps) h = absurd cc
pieces_printed true (byte n ∷ ps) h = absurd cc
pieces_printed true (word n ∷ ps) h = absurd cc
pieces_printed false (name [] ∷ ps) h = absurd cc
pieces_printed false (name (c ∷ w) ∷ ps) h =
    let x = both_true (list_all is_in_names (c ∷ w)) (parted true ps) h in
    printed-append (c ∷ w) (text_bytes ps) (name_printed (c ∷ w) x.0) (pieces_printed true ps x.1)
pieces_printed false (byte n ∷ ps) h = printed-append (byte_in_text n) (text_bytes ps) (byte_printed n)
    (pieces_printed true ps h)
pieces_printed false (word n ∷ ps) h = printed-append (word_in_text n) (text_bytes ps) (word_printed n)
    (pieces_printed true ps h)
pieces_printed true (sign c ∷ ps) h = let x = both_true (is_mark c) (parted false ps) h in
    (mark_printed c x.0, pieces_printed false ps x.1)
pieces_printed false (sign c ∷ ps) h = let x = both_true (is_mark c) (parted false ps) h in
    (mark_printed c x.0, pieces_printed false ps x.1)

pub texts_are_plain : TextsArePlain
unfolding text_of Long Printed
texts_are_plain i next = record {
  short = pieces_long i next;
  printed = pieces_printed false (pieces i next) (texts_are_parted i next);
}

within : (n : ℕ) → n ≤ 63 → nat_lt 255 n ≡ false
within n h = grind (arith, nat_tests)

-- ---- the law

pub texts_are_read : TextsAreRead
unfolding line_statement text_of Long
texts_are_read i x next s =
    let f = action_fits i.action x s in
    rw (within (length (text_bytes (pieces i next))) (pieces_long i next))
    (ap (λ o. o >>= statement_of) (ap tokens_of (sym (append-nil (text_bytes (pieces i next))))
    ∙ pieces_are_read (pieces i next) [] (texts_are_parted i next) (pieces_fit i next f.0 f.1) tt
    ∙ pieces_again i next) ∙ tokens_read i next (can_be_written i.action x next s))
