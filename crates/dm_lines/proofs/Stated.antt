-- The tokens of an instruction's text are read as the instruction.
use Rattle.std.proofs.Common.{◌≡◌, ℕ, Bool, true, false, List, [], ◌∷◌, ◌++◌, Option, Some, None, refl, sym, ap, ◌∙◌, append-nil}
use Rattle.std.specs.Prelude.{◌==◌, if◌then◌else◌}
use Rattle.std.proofs.lemmas.Bool.{eqb-true}
use Rattle.dm_ins.specs.declared.operand.SegmentRegister.{SegmentRegister}
use Rattle.dm_ins.specs.declared.operand.WordRegister.TheVariants.{Ax}
use Rattle.dm_ins.specs.declared.operand.Base.{Base}
use Rattle.dm_ins.specs.declared.operand.Base.TheVariants.{Direct, BxSi, BxDi, BpSi, BpDi, OnSi, OnDi, OnBp, OnBx}
use Rattle.dm_ins.specs.declared.operand.Operand.{Operand}
use Rattle.dm_ins.specs.declared.operand.Operand.TheVariants as operand
use Rattle.dm_ins.specs.declared.action.Mnemonic.{Mnemonic}
use Rattle.dm_ins.specs.declared.action.Mnemonic.TheVariants as op
use Rattle.dm_ins.specs.declared.action.Action.{Action}
use Rattle.dm_ins.specs.declared.prefix.Repeat.{Repeat}
use Rattle.dm_ins.specs.declared.prefix.Prefixes.{Prefixes}
use Rattle.dm_ins.specs.declared.ins.Ins.{Ins}
use Rattle.dm_decode.specs.Texts.{is_accumulator, is_nop}
use Rattle.dm_ins.specs.Walks.{◌>>=◌}
use Rattle.dm_decode.specs.declared.words.written.Size.{Size}
use Rattle.dm_decode.specs.declared.words.written.Size.TheVariants.{Absent, Byte, Word, Near}
use Rattle.dm_decode.specs.words.Words.{size_word}
use Rattle.dm_lines.specs.declared.token.Token.{Token}
use Rattle.dm_lines.specs.declared.token.Token.TheVariants as t
use Rattle.dm_lines.specs.declared.term.Amount.TheVariants.{Plus}
use Rattle.dm_lines.specs.declared.term.Term.{Term}
use Rattle.dm_lines.specs.declared.term.Term.TheVariants as term
use Rattle.dm_lines.specs.declared.statement.Instruction.{Instruction}
use Rattle.dm_lines.specs.Operands.{onto, inside, base_at, memory_operand, memory_of, term_of, is_comma, begin, parts, term_pair, terms_of}
use Rattle.dm_lines.specs.Statements.{instruction, mnemonic_at, is_memory, exchanges, with_terms, after_prefixes, statement_of}
use Rattle.dm_lines.specs.Own.{memory_term, own_term, own_statement}
use Rattle.dm_lines.proofs.Named.{size_tokens, mnemonic_tokens}
use Rattle.dm_lines.proofs.Again.{base_tokens, displacement_tokens, address_tokens, operand_tokens, second_tokens, operands_tokens, action_tokens, segment_tokens, lock_tokens, repeat_tokens, prefix_tokens}

-- ---- memory

inside_all : (xs : List Token) → inside (xs ++ t.Close ∷ []) ≡ Some xs
inside_all [] = refl
inside_all (x ∷ []) = refl
inside_all (x ∷ y ∷ xs) = ap (onto x) (inside_all (y ∷ xs))

zero_or : (n : ℕ) (z : Bool) → (n == 0) ≡ z → (if z then 0 else n) ≡ n
zero_or n true e = sym (eqb-true n 0 e)
zero_or n false e = refl

place_read : (s : Size) (b : Base) (n : ℕ) → memory_operand s (address_tokens b n) ≡ Some (memory_term s b n)
unfolding base_at
place_read s Direct n = refl
place_read s BxSi n = by (n == 0) refl
  where
    by : (z : Bool) → (n == 0) ≡ z → memory_operand s (base_tokens BxSi ++ (if z then [] else t.Plus ∷ t.Number n ∷ []))
        ≡ Some (term.Memory s BxSi (Plus n))
    by true e = ap (λ (k : ℕ). Some (term.Memory s BxSi (Plus k))) (sym (eqb-true n 0 e))
    by false e = refl
place_read s BxDi n = by (n == 0) refl
  where
    by : (z : Bool) → (n == 0) ≡ z → memory_operand s (base_tokens BxDi ++ (if z then [] else t.Plus ∷ t.Number n ∷ []))
        ≡ Some (term.Memory s BxDi (Plus n))
    by true e = ap (λ (k : ℕ). Some (term.Memory s BxDi (Plus k))) (sym (eqb-true n 0 e))
    by false e = refl
place_read s BpSi n = by (n == 0) refl
  where
    by : (z : Bool) → (n == 0) ≡ z → memory_operand s (base_tokens BpSi ++ (if z then [] else t.Plus ∷ t.Number n ∷ []))
        ≡ Some (term.Memory s BpSi (Plus n))
    by true e = ap (λ (k : ℕ). Some (term.Memory s BpSi (Plus k))) (sym (eqb-true n 0 e))
    by false e = refl
place_read s BpDi n = by (n == 0) refl
  where
    by : (z : Bool) → (n == 0) ≡ z → memory_operand s (base_tokens BpDi ++ (if z then [] else t.Plus ∷ t.Number n ∷ []))
        ≡ Some (term.Memory s BpDi (Plus n))
    by true e = ap (λ (k : ℕ). Some (term.Memory s BpDi (Plus k))) (sym (eqb-true n 0 e))
    by false e = refl
place_read s OnSi n = by (n == 0) refl
  where
    by : (z : Bool) → (n == 0) ≡ z → memory_operand s (base_tokens OnSi ++ (if z then [] else t.Plus ∷ t.Number n ∷ []))
        ≡ Some (term.Memory s OnSi (Plus n))
    by true e = ap (λ (k : ℕ). Some (term.Memory s OnSi (Plus k))) (sym (eqb-true n 0 e))
    by false e = refl
place_read s OnDi n = by (n == 0) refl
  where
    by : (z : Bool) → (n == 0) ≡ z → memory_operand s (base_tokens OnDi ++ (if z then [] else t.Plus ∷ t.Number n ∷ []))
        ≡ Some (term.Memory s OnDi (Plus n))
    by true e = ap (λ (k : ℕ). Some (term.Memory s OnDi (Plus k))) (sym (eqb-true n 0 e))
    by false e = refl
place_read s OnBp n = by (n == 0) refl
  where
    by : (z : Bool) → (n == 0) ≡ z → memory_operand s (base_tokens OnBp ++ (if z then [] else t.Plus ∷ t.Number n ∷ []))
        ≡ Some (term.Memory s OnBp (Plus n))
    by true e = ap (λ (k : ℕ). Some (term.Memory s OnBp (Plus k))) (sym (eqb-true n 0 e))
    by false e = refl
place_read s OnBx n = by (n == 0) refl
  where
    by : (z : Bool) → (n == 0) ≡ z → memory_operand s (base_tokens OnBx ++ (if z then [] else t.Plus ∷ t.Number n ∷ []))
        ≡ Some (term.Memory s OnBx (Plus n))
    by true e = ap (λ (k : ℕ). Some (term.Memory s OnBx (Plus k))) (sym (eqb-true n 0 e))
    by false e = refl

memory_read : (s : Size) (b : Base) (n : ℕ) → memory_of s (address_tokens b n ++ t.Close ∷ [])
    ≡ Some (memory_term s b n)
memory_read s b n = rw (inside_all (address_tokens b n)) (place_read s b n)

sized_read : (s : Size) (b : Base) (n : ℕ) → term_of (size_tokens s ++ t.Open ∷ address_tokens b n ++ t.Close
    ∷ []) ≡ Some (memory_term s b n)
unfolding term_of
sized_read Absent b n = memory_read Absent b n
sized_read Byte b n = memory_read Byte b n
sized_read Word b n = memory_read Word b n
sized_read Near b n = memory_read Near b n

-- ---- operands

unfoldable pub is_nothing : Operand → Bool
is_nothing operand.Nothing = true
is_nothing _ = false

term_read : (a : Action) (next : ℕ) (o : Operand) → is_nothing o ≡ false → term_of (operand_tokens a next o)
    ≡ Some (own_term a next o)
unfolding term_of is_nothing
term_read a next operand.Nothing h = absurd cc
term_read a next (operand.ByteRegister r) h = refl
term_read a next (operand.WordRegister r) h = refl
term_read a next (operand.SegmentRegister r) h = refl
term_read a next (operand.Memory w m) h = sized_read (size_word a w) m.base m.displacement
term_read a next (operand.ByteValue n) h = refl
term_read a next (operand.WordValue n) h = refl
term_read a next operand.One h = refl
term_read a next (operand.Target d) h = refl
term_read a next (operand.FarTarget n s) h = refl

-- ---- commas

no_comma : List Token → Bool
no_comma [] = true
no_comma (x ∷ xs) = if is_comma x then false else no_comma xs

parts_alone : (xs : List Token) → no_comma xs ≡ true → parts xs ≡ xs ∷ []
unfolding no_comma
parts_alone [] h = refl
parts_alone (x ∷ xs) h = by (is_comma x) h (parts_alone xs)
  where
    by : (b : Bool) → (if b then false else no_comma xs) ≡ true → (no_comma xs ≡ true → parts xs ≡ xs ∷ []) →
        (if b then [] ∷ parts xs else begin x (parts xs)) ≡ (x ∷ xs) ∷ []
    by true e f = absurd cc
    by false e f = ap (begin x) (f e)

parts_comma : (xs ys : List Token) → no_comma xs ≡ true → parts (xs ++ t.Comma ∷ ys) ≡ xs ∷ parts ys
unfolding no_comma
parts_comma [] ys h = refl
parts_comma (x ∷ xs) ys h = by (is_comma x) h (parts_comma xs ys)
  where
    by : (b : Bool) → (if b then false else no_comma xs) ≡ true → (no_comma xs ≡ true → parts (xs ++ t.Comma ∷ ys) ≡ xs
        ∷ parts ys) → (if b then [] ∷ parts (xs ++ t.Comma ∷ ys) else begin x (parts (xs ++ t.Comma ∷ ys))) ≡ (x ∷ xs)
        ∷ parts ys
    by true e f = absurd cc
    by false e f = ap (begin x) (f e)

no_comma-append : (xs ys : List Token) → no_comma xs ≡ true → no_comma ys ≡ true → no_comma (xs ++ ys) ≡ true
unfolding no_comma
no_comma-append [] ys h k = k
no_comma-append (x ∷ xs) ys h k = by (is_comma x) h (λ e. no_comma-append xs ys e k)
  where
    by : (b : Bool) → (if b then false else no_comma xs) ≡ true → (no_comma xs ≡ true → no_comma (xs ++ ys) ≡ true) →
        (if b then false else no_comma (xs ++ ys)) ≡ true
    by true e f = absurd cc
    by false e f = f e

displacement_plain : (n : ℕ) → no_comma (displacement_tokens n) ≡ true
unfolding no_comma
displacement_plain n = by (n == 0)
  where
    by : (z : Bool) → no_comma (if z then [] else t.Plus ∷ t.Number n ∷ []) ≡ true
    by true = refl
    by false = refl

address_plain : (b : Base) (n : ℕ) → no_comma (address_tokens b n) ≡ true
unfolding no_comma
address_plain Direct n = refl
address_plain _ n = displacement_plain n

size_plain : (s : Size) → no_comma (size_tokens s) ≡ true
unfolding no_comma
size_plain Absent = refl
size_plain _ = refl

operand_plain : (a : Action) (next : ℕ) (o : Operand) → no_comma (operand_tokens a next o) ≡ true
unfolding no_comma
operand_plain a next (operand.Memory w m) =
    no_comma-append (size_tokens (size_word a w) ++ t.Open ∷ address_tokens m.base m.displacement) (t.Close ∷ [])
    (no_comma-append (size_tokens (size_word a w)) (t.Open ∷ address_tokens m.base m.displacement)
    (size_plain (size_word a w)) (address_plain m.base m.displacement)) refl
operand_plain a next _ = refl

-- ---- two operands

some : List Token → Bool
some [] = false
some (x ∷ xs) = true

terms_begun : (ts : List Token) → some ts ≡ true → terms_of ts ≡ term_pair (parts ts)
unfolding some
terms_begun [] h = absurd cc
terms_begun (x ∷ xs) h = refl

some-append : (xs ys : List Token) → some xs ≡ true → some (xs ++ ys) ≡ true
unfolding some
some-append [] ys h = absurd cc
some-append (x ∷ xs) ys h = refl

sized_some : (s : Size) (ts : List Token) → some (size_tokens s ++ t.Open ∷ ts) ≡ true
unfolding some
sized_some Absent ts = refl
sized_some _ ts = refl

operand_some : (a : Action) (next : ℕ) (o : Operand) → is_nothing o ≡ false → some (operand_tokens a next o) ≡ true
unfolding some is_nothing
operand_some a next operand.Nothing h = absurd cc
operand_some a next (operand.Memory w m) h = some-append (size_tokens (size_word a w) ++ t.Open
    ∷ address_tokens m.base m.displacement) (t.Close ∷ []) (sized_some (size_word a w)
    (address_tokens m.base m.displacement))
operand_some a next _ h = refl

one_term : (xs : List Token) (x : Term) → term_of xs ≡ Some x → term_pair (xs ∷ []) ≡ Some (x, term.Nothing)
one_term xs x e = rw e refl

two_terms : (xs ys : List Token) (x y : Term) → term_of xs ≡ Some x → term_of ys ≡ Some y →
    term_pair (xs ∷ ys ∷ []) ≡ Some (x, y)
two_terms xs ys x y e f = rw (e, f) refl

alone_read : (a : Action) (next : ℕ) (x : Operand) → is_nothing x ≡ false → terms_of (operand_tokens a next x
    ++ []) ≡ Some (own_term a next x, term.Nothing)
alone_read a next x h =
    let xs = operand_tokens a next x in
    ap terms_of (append-nil xs) ∙ terms_begun xs (operand_some a next x h)
    ∙ ap term_pair (parts_alone xs (operand_plain a next x))
    ∙ one_term xs (own_term a next x) (term_read a next x h)

pair_read : (a : Action) (next : ℕ) (x y : Operand) → is_nothing x ≡ false → is_nothing y ≡ false →
    terms_of (operand_tokens a next x ++ t.Comma ∷ operand_tokens a next y) ≡ Some (
      own_term a next x,
      own_term a next y,
    )
pair_read a next x y h k =
    let xs = operand_tokens a next x in
    let ys = operand_tokens a next y in
    terms_begun (xs ++ t.Comma ∷ ys) (some-append xs (t.Comma ∷ ys) (operand_some a next x h))
    ∙ ap term_pair (parts_comma xs ys (operand_plain a next x) ∙ ap (λ (ps : List (List Token)). xs
    ∷ ps) (parts_alone ys (operand_plain a next y)))
    ∙ two_terms xs ys (own_term a next x) (own_term a next y) (term_read a next x h) (term_read a next y k)

second_read : (a : Action) (next : ℕ) (x y : Operand) → is_nothing x ≡ false → terms_of (operand_tokens a next x
    ++ second_tokens a next y) ≡ Some (own_term a next x, own_term a next y)
unfolding is_nothing
second_read a next x operand.Nothing h = alone_read a next x h
second_read a next x y h = pair_read a next x y h refl

-- ---- mnemonics

-- what does not go on with a mnemonic's second word
plain : List Token → Bool
plain [] = true
plain (t.Short ∷ ts) = false
plain (t.Far ∷ ts) = false
plain (x ∷ ts) = true

one_word : (m : Mnemonic) (ts : List Token) → plain ts ≡ true → mnemonic_at (t.Mnemonic m ∷ ts) ≡ Some (m, ts)
unfolding plain
one_word m [] h = refl
one_word m (t.Short ∷ ts) h = absurd cc
one_word m (t.Far ∷ ts) h = absurd cc
one_word m (x ∷ ts) h = refl

word_ends : (p : Prefixes) (m : Mnemonic) (ts : List Token) → plain ts ≡ true → after_prefixes p (t.Mnemonic m
    ∷ ts) ≡ (terms_of ts >>= λ xs. Some (with_terms p m xs.0 xs.1))
word_ends p m ts h = rw (one_word m ts h) refl

action_read : (p : Prefixes) (m : Mnemonic) (ts : List Token) (x y : Term) → plain ts ≡ true →
    terms_of ts ≡ Some (x, y) → after_prefixes p (mnemonic_tokens m ++ ts) ≡ Some (with_terms p m x y)
action_read p op.CallFar ts x y h e = rw e refl
action_read p op.JmpFar ts x y h e = rw e refl
action_read p op.JmpShort ts x y h e = rw e refl
action_read p m ts x y h e = word_ends p m ts h ∙ rw e refl

sized_starts : (s : Size) (ts : List Token) → plain (size_tokens s ++ t.Open ∷ ts) ≡ true
unfolding plain
sized_starts Absent ts = refl
sized_starts _ ts = refl

starts-append : (xs ys : List Token) → some xs ≡ true → plain xs ≡ true → plain (xs ++ ys) ≡ true
unfolding some plain
starts-append [] ys h k = absurd cc
starts-append (t.Short ∷ xs) ys h k = absurd cc
starts-append (t.Far ∷ xs) ys h k = absurd cc
starts-append (x ∷ xs) ys h k = refl

operand_starts : (a : Action) (next : ℕ) (o : Operand) → plain (operand_tokens a next o) ≡ true
unfolding plain
operand_starts a next (operand.Memory w m) =
    let xs = size_tokens (size_word a w) ++ t.Open ∷ address_tokens m.base m.displacement in
    starts-append xs (t.Close ∷ []) (sized_some (size_word a w) (address_tokens m.base m.displacement))
    (sized_starts (size_word a w) (address_tokens m.base m.displacement))
operand_starts a next o = refl

first_starts : (a : Action) (next : ℕ) (x : Operand) (ys : List Token) → is_nothing x ≡ false →
    plain (operand_tokens a next x ++ ys) ≡ true
first_starts a next x ys h = starts-append (operand_tokens a next x) ys (operand_some a next x h)
    (operand_starts a next x)

-- an instruction that can be written: the first operand is there where the second one is, and memory is not the second
-- where operands are exchanged
pub record CanBeWritten (a : Action) (next : ℕ) : Type 0 where
  pub alone : is_nothing a.first ≡ true → a.second ≡ operand.Nothing
  pub in_place : (if exchanges a.mnemonic then is_memory (own_term a next a.second) else false) ≡ false

pub nothing_is : (o : Operand) → is_nothing o ≡ true → o ≡ operand.Nothing
unfolding is_nothing
nothing_is operand.Nothing h = refl
nothing_is (operand.ByteRegister r) h = absurd cc
nothing_is (operand.WordRegister r) h = absurd cc
nothing_is (operand.SegmentRegister r) h = absurd cc
nothing_is (operand.Memory w m) h = absurd cc
nothing_is (operand.ByteValue n) h = absurd cc
nothing_is (operand.WordValue n) h = absurd cc
nothing_is operand.One h = absurd cc
nothing_is (operand.Target d) h = absurd cc
nothing_is (operand.FarTarget n s) h = absurd cc

-- the operands of a text, and how they begin
record OperandsRead (a : Action) (next : ℕ) (x y : Operand) : Type 0 where
  starts : plain (operands_tokens a next x y) ≡ true
  read : terms_of (operands_tokens a next x y) ≡ Some (own_term a next x, own_term a next y)

operands_read : (a : Action) (next : ℕ) (x y : Operand) → (is_nothing x ≡ true → y ≡ operand.Nothing) →
    OperandsRead a next x y
unfolding is_nothing plain
operands_read a next operand.Nothing y h = record { starts = refl; read = rw (h refl) refl }
operands_read a next x y h = record {
  starts = first_starts a next x (second_tokens a next y) refl;
  read = second_read a next x y refl;
}

own : Prefixes → Action → ℕ → Instruction
own p a next = record {
  prefixes = p;
  mnemonic = a.mnemonic;
  first = own_term a next a.first;
  second = own_term a next a.second;
}

in_place_read : (p : Prefixes) (a : Action) (next : ℕ) (b : Bool) → b ≡ false →
    (if b then record {
      prefixes = p;
      mnemonic = a.mnemonic;
      first = own_term a next a.second;
      second = own_term a next a.first;
    } else own p a next) ≡ own p a next
in_place_read p a next true h = absurd cc
in_place_read p a next false h = refl

worded_read : (p : Prefixes) (a : Action) (next : ℕ) → CanBeWritten a next →
    after_prefixes p (mnemonic_tokens a.mnemonic ++ operands_tokens a next a.first a.second) ≡ Some (own p a next)
unfolding own
worded_read p a next c =
    let o = operands_read a next a.first a.second c.alone in
    action_read p a.mnemonic (operands_tokens a next a.first a.second) (own_term a next a.first)
    (own_term a next a.second) o.starts o.read
    ∙ ap Some (in_place_read p a next _ c.in_place)

-- ---- NOP

nop_of : Prefixes → Instruction
nop_of p = record { prefixes = p; mnemonic = op.Xchg; first = term.WordRegister Ax; second = term.WordRegister Ax }

nop_mnemonic : (m : Mnemonic) (b : Bool) → (elim m [ op.Xchg ↦ b | _ ↦ false ]) ≡ true → (m ≡ op.Xchg) × (b ≡ true)
nop_mnemonic op.Xchg b h = (refl, h)
nop_mnemonic _ b h = absurd cc

accumulator_is : (o : Operand) → is_accumulator o ≡ true → o ≡ operand.WordRegister Ax
accumulator_is (operand.WordRegister Ax) h = refl
accumulator_is (operand.WordRegister _) h = absurd cc
accumulator_is _ h = absurd cc

both_accumulators : (x y : Operand) → (if is_accumulator x then is_accumulator y else false) ≡ true →
    (is_accumulator x ≡ true) × (is_accumulator y ≡ true)
both_accumulators x y h = by (is_accumulator x) (is_accumulator y) h
  where
    by : (c d : Bool) → (if c then d else false) ≡ true → (c ≡ true) × (d ≡ true)
    by true d e = (refl, e)
    by false d e = absurd cc

nop_read : (p : Prefixes) (a : Action) (next : ℕ) → is_nop a ≡ true → nop_of p ≡ own p a next
unfolding own nop_of
nop_read p a next h =
    let m = nop_mnemonic a.mnemonic _ h in
    let b = both_accumulators a.first a.second m.1 in
    rw (m.0, accumulator_is a.first b.0, accumulator_is a.second b.1) refl

-- ---- prefixes

line_read : (p : Prefixes) (m : Mnemonic) (ts : List Token) (i : Instruction) → after_prefixes p (t.Mnemonic m
    ∷ ts) ≡ Some i → statement_of (prefix_tokens p ++ t.Mnemonic m ∷ ts) ≡ Some (record {
      label = None;
      item = instruction i;
    })
line_read p m ts i = by p.segment p.lock p.repeat
  where
    by : (s : Option SegmentRegister) (l : Bool) (r : Option Repeat) →
        after_prefixes (record { segment = s; lock = l; repeat = r }) (t.Mnemonic m ∷ ts) ≡ Some i →
        statement_of (segment_tokens s ++ lock_tokens l ++ repeat_tokens r ++ t.Mnemonic m ∷ ts)
        ≡ Some (record { label = None; item = instruction i })
    by None false None h = rw h refl
    by None false (Some r) h = rw h refl
    by None true None h = rw h refl
    by None true (Some r) h = rw h refl
    by (Some s) false None h = rw h refl
    by (Some s) false (Some r) h = rw h refl
    by (Some s) true None h = rw h refl
    by (Some s) true (Some r) h = rw h refl

nop_line : (p : Prefixes) → statement_of (prefix_tokens p ++ t.Nop ∷ []) ≡ Some (record {
  label = None;
  item = instruction (nop_of p);
})
unfolding nop_of
nop_line p = by p.segment p.lock p.repeat
  where
    by : (s : Option SegmentRegister) (l : Bool) (r : Option Repeat) → statement_of (segment_tokens s ++ lock_tokens l
        ++ repeat_tokens r ++ t.Nop ∷ []) ≡ Some (record {
          label = None;
          item = instruction (nop_of (record { segment = s; lock = l; repeat = r }));
        })
    by None false None = refl
    by None false (Some r) = refl
    by None true None = refl
    by None true (Some r) = refl
    by (Some s) false None = refl
    by (Some s) false (Some r) = refl
    by (Some s) true None = refl
    by (Some s) true (Some r) = refl

worded_line : (p : Prefixes) (m : Mnemonic) (ts : List Token) (i : Instruction) → after_prefixes p (mnemonic_tokens m
    ++ ts) ≡ Some i → statement_of (prefix_tokens p ++ (mnemonic_tokens m ++ ts)) ≡ Some (record {
      label = None;
      item = instruction i;
    })
worded_line p op.CallFar ts i h = line_read p op.Call (t.Far ∷ ts) i h
worded_line p op.JmpFar ts i h = line_read p op.Jmp (t.Far ∷ ts) i h
worded_line p op.JmpShort ts i h = line_read p op.Jmp (t.Short ∷ ts) i h
worded_line p m ts i h = line_read p m ts i h

pub tokens_read : (i : Ins) (next : ℕ) → CanBeWritten i.action next → statement_of (prefix_tokens i.prefixes
    ++ action_tokens i.action next) ≡ Some (own_statement i next)
unfolding own
tokens_read i next c = by (is_nop i.action) refl
  where
    by : (n : Bool) → is_nop i.action ≡ n → statement_of (prefix_tokens i.prefixes ++ (if n then t.Nop ∷ [] else
        mnemonic_tokens i.action.mnemonic ++ operands_tokens i.action next i.action.first i.action.second))
        ≡ Some (own_statement i next)
    by true e = nop_line i.prefixes ∙ ap (λ (k : Instruction). Some (record { label = None; item = instruction k }))
        (nop_read i.prefixes i.action next e)
    by false e = worded_line i.prefixes i.action.mnemonic (operands_tokens i.action next i.action.first i.action.second)
        (own i.prefixes i.action next) (worded_read i.prefixes i.action next c)
