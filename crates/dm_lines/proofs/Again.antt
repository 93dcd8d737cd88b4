-- The pieces of an instruction's text are these tokens.
use Rattle.std.proofs.Common.{◌≡◌, ℕ, ◌+◌, ◌%◌, Bool, true, false, List, [], ◌∷◌, ◌++◌, Option, Some, None, refl, sym, ap, ◌∙◌, append_assoc}
use Rattle.std.specs.Prelude.{◌==◌, if◌then◌else◌, codes}
use Rattle.dm_ins.specs.declared.operand.Width.{Width}
use Rattle.dm_ins.specs.declared.operand.WordRegister.TheVariants.{Bx, Bp, Si, Di}
use Rattle.dm_ins.specs.declared.operand.SegmentRegister.{SegmentRegister}
use Rattle.dm_ins.specs.declared.operand.Base.{Base}
use Rattle.dm_ins.specs.declared.operand.Base.TheVariants.{Direct, BxSi, BxDi, BpSi, BpDi, OnSi, OnDi, OnBp, OnBx}
use Rattle.dm_ins.specs.declared.operand.Address.{Address}
use Rattle.dm_ins.specs.declared.operand.Operand.{Operand}
use Rattle.dm_ins.specs.declared.operand.Operand.TheVariants as operand
use Rattle.dm_ins.specs.declared.action.Action.{Action}
use Rattle.dm_ins.specs.declared.prefix.Repeat.{Repeat}
use Rattle.dm_ins.specs.declared.prefix.Repeat.TheVariants.{NotEqual, Equal}
use Rattle.dm_ins.specs.declared.prefix.Prefixes.{Prefixes}
use Rattle.dm_ins.specs.declared.ins.Ins.{Ins}
use Rattle.dm_decode.specs.Pieces.{Piece, name, word, space_sign, plus, comma, left_bracket, right_bracket}
use Rattle.dm_decode.specs.Texts.{base_pieces, displacement_pieces, address_pieces, size_pieces, memory_pieces, operand_pieces, behind, second_pieces, operands_pieces, mnemonic_pieces, is_nop, action_pieces, segment_pieces, lock_pieces, repeat_pieces, prefix_pieces, pieces}
use Rattle.dm_decode.specs.words.Words.{size_word}
use Rattle.dm_decode.proofs.words.Sizes.{sizes_are_shown}
use Rattle.dm_lines.specs.declared.token.Token.{Token}
use Rattle.dm_lines.specs.declared.token.Token.TheVariants as t
use Rattle.dm_lines.specs.Tokens.{closed, joined_to, then_list}
use Rattle.dm_lines.specs.Laws.{piece_tokens, all_tokens}
use Rattle.dm_lines.proofs.Named.{byte_again, word_again, segment_again, nop_again, lock_again, equal_again, not_equal_again, one_again, size_tokens, size_again, mnemonic_tokens, mnemonic_again}

-- ---- pieces one behind another

all-append : (ps qs : List Piece) (xs ys : List Token) → all_tokens ps ≡ Some xs → all_tokens qs ≡ Some ys →
    all_tokens (ps ++ qs) ≡ Some (xs ++ ys)
all-append [] qs xs ys e f = let n : xs ≡ [] = cc in f ∙ rw n refl
all-append (p ∷ ps) qs xs ys e f = by (piece_tokens p) (all_tokens ps) e (λ (zs : List Token) (g : all_tokens ps
    ≡ Some zs). all-append ps qs zs ys g f)
  where
    by : (o r : Option (List Token)) → then_list o r ≡ Some xs → ((zs : List Token) → r ≡ Some zs →
        all_tokens (ps ++ qs) ≡ Some (zs ++ ys)) → then_list o (all_tokens (ps ++ qs)) ≡ Some (xs ++ ys)
    by None r e g = absurd cc
    by (Some us) None e g = absurd cc
    by (Some us) (Some zs) e g =
        let x : us ++ zs ≡ xs = cc in
        ap (joined_to us) (g zs refl) ∙ ap Some (sym (append_assoc us zs ys))
        ∙ ap (λ (z : List Token). Some (z ++ ys)) x

name_then : (w : List ℕ) (x : Token) (ps : List Piece) (ys : List Token) → closed w ≡ Some (x ∷ []) →
    all_tokens ps ≡ Some ys → all_tokens (name w ∷ ps) ≡ Some (x ∷ ys)
name_then w x ps ys e f = rw (e, f) refl

-- ---- operands

abbrev pub base_tokens : Base → List Token
base_tokens Direct = []
base_tokens BxSi = t.Word Bx ∷ t.Plus ∷ t.Word Si ∷ []
base_tokens BxDi = t.Word Bx ∷ t.Plus ∷ t.Word Di ∷ []
base_tokens BpSi = t.Word Bp ∷ t.Plus ∷ t.Word Si ∷ []
base_tokens BpDi = t.Word Bp ∷ t.Plus ∷ t.Word Di ∷ []
base_tokens OnSi = t.Word Si ∷ []
base_tokens OnDi = t.Word Di ∷ []
base_tokens OnBp = t.Word Bp ∷ []
base_tokens OnBx = t.Word Bx ∷ []

abbrev pub displacement_tokens : ℕ → List Token
displacement_tokens n = if n == 0 then [] else t.Plus ∷ t.Number n ∷ []

abbrev pub address_tokens : Base → ℕ → List Token
address_tokens Direct n = t.Number n ∷ []
address_tokens b n = base_tokens b ++ displacement_tokens n

abbrev pub operand_tokens : Action → ℕ → Operand → List Token
operand_tokens a next operand.Nothing = []
operand_tokens a next (operand.ByteRegister r) = t.Byte r ∷ []
operand_tokens a next (operand.WordRegister r) = t.Word r ∷ []
operand_tokens a next (operand.SegmentRegister r) = t.Segment r ∷ []
operand_tokens a next (operand.Memory w m) = size_tokens (size_word a w) ++ t.Open
    ∷ address_tokens m.base m.displacement ++ t.Close ∷ []
operand_tokens a next (operand.ByteValue n) = t.Number n ∷ []
operand_tokens a next (operand.WordValue n) = t.Number n ∷ []
operand_tokens a next operand.One = t.Number 1 ∷ []
operand_tokens a next (operand.Target d) = t.Number ((next + d) % 65536) ∷ []
operand_tokens a next (operand.FarTarget n s) = t.Number s ∷ t.Colon ∷ t.Number n ∷ []

displacement_again : (n : ℕ) → all_tokens (displacement_pieces n) ≡ Some (displacement_tokens n)
displacement_again n = by (n == 0)
  where
    by : (z : Bool) → all_tokens (if z then [] else plus ∷ word n ∷ []) ≡ Some (if z then [] else t.Plus ∷ t.Number n
        ∷ [])
    by true = refl
    by false = refl

base_again : (b : Base) → all_tokens (base_pieces b) ≡ Some (base_tokens b)
base_again Direct = refl
base_again BxSi = rw (word_again Bx, word_again Si) refl
base_again BxDi = rw (word_again Bx, word_again Di) refl
base_again BpSi = rw (word_again Bp, word_again Si) refl
base_again BpDi = rw (word_again Bp, word_again Di) refl
base_again OnSi = rw (word_again Si) refl
base_again OnDi = rw (word_again Di) refl
base_again OnBp = rw (word_again Bp) refl
base_again OnBx = rw (word_again Bx) refl

based_again : (b : Base) (n : ℕ) → all_tokens (base_pieces b ++ displacement_pieces n) ≡ Some (base_tokens b
    ++ displacement_tokens n)
based_again b n = all-append (base_pieces b) (displacement_pieces n) (base_tokens b) (displacement_tokens n)
    (base_again b) (displacement_again n)

address_again : (b : Base) (n : ℕ) → all_tokens (address_pieces (record { base = b; displacement = n }))
    ≡ Some (address_tokens b n)
address_again Direct n = refl
address_again BxSi n = based_again BxSi n
address_again BxDi n = based_again BxDi n
address_again BpSi n = based_again BpSi n
address_again BpDi n = based_again BpDi n
address_again OnSi n = based_again OnSi n
address_again OnDi n = based_again OnDi n
address_again OnBp n = based_again OnBp n
address_again OnBx n = based_again OnBx n

memory_again : (a : Action) (w : Width) (m : Address) → all_tokens (memory_pieces a w m)
    ≡ Some (size_tokens (size_word a w) ++ t.Open ∷ address_tokens m.base m.displacement ++ t.Close ∷ [])
memory_again a w m =
    all-append (size_pieces a w ++ left_bracket ∷ address_pieces m) (right_bracket ∷ []) (size_tokens (size_word a w)
    ++ t.Open ∷ address_tokens m.base m.displacement) (t.Close ∷ [])
    (all-append (size_pieces a w) (left_bracket ∷ address_pieces m) (size_tokens (size_word a w)) (t.Open
    ∷ address_tokens m.base m.displacement)
    (ap all_tokens (sizes_are_shown a w) ∙ size_again (size_word a w)) (ap (joined_to (t.Open
    ∷ [])) (address_again m.base m.displacement)))
    refl

pub operand_again : (a : Action) (next : ℕ) (o : Operand) → all_tokens (operand_pieces a next o)
    ≡ Some (operand_tokens a next o)
operand_again a next operand.Nothing = refl
operand_again a next (operand.ByteRegister r) = rw (byte_again r) refl
operand_again a next (operand.WordRegister r) = rw (word_again r) refl
operand_again a next (operand.SegmentRegister r) = rw (segment_again r) refl
operand_again a next (operand.Memory w m) = memory_again a w m
operand_again a next (operand.ByteValue n) = refl
operand_again a next (operand.WordValue n) = refl
operand_again a next operand.One = rw one_again refl
operand_again a next (operand.Target d) = refl
operand_again a next (operand.FarTarget n s) = refl

-- ---- instructions

abbrev pub second_tokens : Action → ℕ → Operand → List Token
second_tokens a next operand.Nothing = []
second_tokens a next o = t.Comma ∷ operand_tokens a next o

abbrev pub operands_tokens : Action → ℕ → Operand → Operand → List Token
operands_tokens a next operand.Nothing o = []
operands_tokens a next x o = operand_tokens a next x ++ second_tokens a next o

second_again : (a : Action) (next : ℕ) (o : Operand) → all_tokens (behind comma o (operand_pieces a next o))
    ≡ Some (second_tokens a next o)
second_again a next operand.Nothing = refl
second_again a next (operand.ByteRegister r) =
    ap (joined_to (t.Comma ∷ [])) (operand_again a next (operand.ByteRegister r))
second_again a next (operand.WordRegister r) =
    ap (joined_to (t.Comma ∷ [])) (operand_again a next (operand.WordRegister r))
second_again a next (operand.SegmentRegister r) =
    ap (joined_to (t.Comma ∷ [])) (operand_again a next (operand.SegmentRegister r))
second_again a next (operand.Memory w m) = ap (joined_to (t.Comma ∷ [])) (operand_again a next (operand.Memory w m))
second_again a next (operand.ByteValue n) = ap (joined_to (t.Comma ∷ [])) (operand_again a next (operand.ByteValue n))
second_again a next (operand.WordValue n) = ap (joined_to (t.Comma ∷ [])) (operand_again a next (operand.WordValue n))
second_again a next operand.One = ap (joined_to (t.Comma ∷ [])) (operand_again a next operand.One)
second_again a next (operand.Target d) = ap (joined_to (t.Comma ∷ [])) (operand_again a next (operand.Target d))
second_again a next (operand.FarTarget n s) =
    ap (joined_to (t.Comma ∷ [])) (operand_again a next (operand.FarTarget n s))

both_again : (a : Action) (next : ℕ) (x : Operand) → all_tokens (operand_pieces a next x ++ second_pieces a next)
    ≡ Some (operand_tokens a next x ++ second_tokens a next a.second)
both_again a next x = all-append (operand_pieces a next x) (second_pieces a next) (operand_tokens a next x)
    (second_tokens a next a.second) (operand_again a next x) (second_again a next a.second)

no_front : (r : Option (List Token)) → joined_to [] r ≡ r
no_front None = refl
no_front (Some ts) = refl

operands_again : (a : Action) (next : ℕ) (x : Operand) → all_tokens (behind space_sign x (operand_pieces a next x
    ++ second_pieces a next)) ≡ Some (operands_tokens a next x a.second)
operands_again a next operand.Nothing = refl
operands_again a next (operand.ByteRegister r) = no_front _ ∙ both_again a next (operand.ByteRegister r)
operands_again a next (operand.WordRegister r) = no_front _ ∙ both_again a next (operand.WordRegister r)
operands_again a next (operand.SegmentRegister r) = no_front _ ∙ both_again a next (operand.SegmentRegister r)
operands_again a next (operand.Memory w m) = no_front _ ∙ both_again a next (operand.Memory w m)
operands_again a next (operand.ByteValue n) = no_front _ ∙ both_again a next (operand.ByteValue n)
operands_again a next (operand.WordValue n) = no_front _ ∙ both_again a next (operand.WordValue n)
operands_again a next operand.One = no_front _ ∙ both_again a next operand.One
operands_again a next (operand.Target d) = no_front _ ∙ both_again a next (operand.Target d)
operands_again a next (operand.FarTarget n s) = no_front _ ∙ both_again a next (operand.FarTarget n s)

abbrev pub action_tokens : Action → ℕ → List Token
action_tokens a next = if is_nop a then t.Nop ∷ [] else mnemonic_tokens a.mnemonic
    ++ operands_tokens a next a.first a.second

action_again : (a : Action) (next : ℕ) → all_tokens (action_pieces a next) ≡ Some (action_tokens a next)
unfolding action_pieces
action_again a next = by (is_nop a)
  where
    by : (n : Bool) → all_tokens (if n then name (codes "NOP") ∷ [] else mnemonic_pieces a.mnemonic
        ++ operands_pieces a next) ≡ Some (if n then t.Nop ∷ [] else mnemonic_tokens a.mnemonic
        ++ operands_tokens a next a.first a.second)
    by true = rw nop_again refl
    by false = all-append (mnemonic_pieces a.mnemonic) (operands_pieces a next) (mnemonic_tokens a.mnemonic)
        (operands_tokens a next a.first a.second) (mnemonic_again a.mnemonic) (operands_again a next a.first)

abbrev pub segment_tokens : Option SegmentRegister → List Token
segment_tokens None = []
segment_tokens (Some r) = t.Segment r ∷ []

abbrev pub lock_tokens : Bool → List Token
lock_tokens l = if l then t.Lock ∷ [] else []

abbrev pub repeat_tokens : Option Repeat → List Token
repeat_tokens None = []
repeat_tokens (Some r) = t.Repeat r ∷ []

segment_prefix : (s : Option SegmentRegister) → all_tokens (segment_pieces s) ≡ Some (segment_tokens s)
segment_prefix None = refl
segment_prefix (Some r) = rw (segment_again r) refl

lock_prefix : (l : Bool) → all_tokens (lock_pieces l) ≡ Some (lock_tokens l)
lock_prefix true = rw lock_again refl
lock_prefix false = refl

repeat_prefix : (r : Option Repeat) → all_tokens (repeat_pieces r) ≡ Some (repeat_tokens r)
repeat_prefix None = refl
repeat_prefix (Some NotEqual) = rw not_equal_again refl
repeat_prefix (Some Equal) = rw equal_again refl

abbrev pub prefix_tokens : Prefixes → List Token
prefix_tokens p = segment_tokens p.segment ++ lock_tokens p.lock ++ repeat_tokens p.repeat

prefixes_again : (p : Prefixes) → all_tokens (prefix_pieces p) ≡ Some (prefix_tokens p)
prefixes_again p =
    all-append (segment_pieces p.segment ++ lock_pieces p.lock) (repeat_pieces p.repeat) (segment_tokens p.segment
    ++ lock_tokens p.lock) (repeat_tokens p.repeat)
    (all-append (segment_pieces p.segment) (lock_pieces p.lock) (segment_tokens p.segment) (lock_tokens p.lock)
    (segment_prefix p.segment) (lock_prefix p.lock))
    (repeat_prefix p.repeat)

pub pieces_again : (i : Ins) (next : ℕ) → all_tokens (pieces i next) ≡ Some (prefix_tokens i.prefixes
    ++ action_tokens i.action next)
unfolding pieces
pieces_again i next = all-append (prefix_pieces i.prefixes) (action_pieces i.action next) (prefix_tokens i.prefixes)
    (action_tokens i.action next) (prefixes_again i.prefixes) (action_again i.action next)
