-- Words are one instruction at most: a test of each two templates of the table.
use Rattle.std.proofs.Common.{◌≡◌, ℕ, Bool, true, false, List, [], ◌∷◌, Option, Some, None, nat_eq, nat_lt, ◌&&◌, ◌||◌, refl, sym, ap, subst, ◌∙◌, inl, inr}
use Rattle.std.specs.Prelude.{if◌then◌else◌, IsSomeAnd}
use Rattle.std.specs.List.{list_all}
use Rattle.std.proofs.lemmas.Bool.{eqb-true, eq-eqb}
use Rattle.dm_ins.specs.declared.operand.Width.{Width}
use Rattle.dm_ins.specs.declared.operand.Width.TheVariants as width
use Rattle.dm_ins.specs.declared.operand.Address.{Address}
use Rattle.dm_ins.specs.declared.operand.Operand.{Operand}
use Rattle.dm_ins.specs.declared.operand.Operand.TheVariants as operand
use Rattle.dm_ins.specs.declared.action.Mnemonic.{Mnemonic}
use Rattle.dm_ins.specs.declared.action.Mnemonic.TheVariants as op
use Rattle.dm_ins.specs.declared.action.Action.{Action}
use Rattle.dm_ins.specs.declared.fields.Fields.{Fields}
use Rattle.dm_ins.specs.declared.table.OperandKind.{OperandKind}
use Rattle.dm_ins.specs.declared.table.OperandKind.TheVariants as is
use Rattle.dm_ins.specs.declared.table.Template.{Template}
use Rattle.dm_ins.specs.Spelling.{direct, register, at_place, Fills, SpellsAction}
use Rattle.dm_ins.proofs.TableRules.{both_true}
use Rattle.dm_decode.specs.Texts.{is_shift, is_general}
use Rattle.dm_decode.specs.declared.words.written.Size.{Size}
use Rattle.dm_decode.specs.declared.words.written.Size.TheVariants.{Absent, Byte, Word, Near}
use Rattle.dm_decode.specs.declared.words.written.Numeral.{Numeral}
use Rattle.dm_decode.specs.declared.words.written.Written.{Written}
use Rattle.dm_decode.specs.declared.words.written.Written.TheVariants as w
use Rattle.dm_decode.specs.words.Words.{IsNumber, IsWritten, width_word, jump_word, word_before}
use Rattle.dm_decode.specs.words.Laws.{WordsAreOne}
use Rattle.dm_decode.proofs.words.Templates.{if_template, entry_all, templates_all, of_template}

-- ---- sorts of operands

sort : Operand → ℕ
sort operand.Nothing = 0
sort (operand.ByteRegister r) = 1
sort (operand.WordRegister r) = 2
sort (operand.SegmentRegister r) = 3
sort (operand.Memory width.Byte a) = 4
sort (operand.Memory width.Word a) = 5
sort (operand.ByteValue n) = 6
sort (operand.WordValue n) = 7
sort (operand.Target n) = 8
sort operand.One = 9
sort (operand.FarTarget n s) = 10

register_sort : Width → ℕ
register_sort width.Byte = 1
register_sort width.Word = 2

memory_sort : Width → ℕ
memory_sort width.Byte = 4
memory_sort width.Word = 5

sorts : OperandKind → List ℕ
sorts is.Nothing = 0 ∷ []
sorts (is.RegisterOrMemory v) = register_sort v ∷ memory_sort v ∷ []
sorts (is.Register v) = register_sort v ∷ []
sorts is.Memory = 5 ∷ []
sorts is.ByteValue = 6 ∷ []
sorts is.WordValue = 7 ∷ []
sorts is.SignedValue = 7 ∷ []
sorts is.Short = 8 ∷ []
sorts is.Near = 8 ∷ []
sorts (is.Direct v) = memory_sort v ∷ []
sorts is.Far = 10 ∷ []
sorts (is.Escape r) = 6 ∷ []
sorts (is.Byte r) = 1 ∷ []
sorts (is.Word r) = 2 ∷ []
sorts (is.TheSegment r) = 3 ∷ []
sorts is.One = 9 ∷ []

one_true : (b : Bool) → (b && true) ≡ true → b ≡ true
one_true b e = (both_true b true e).0

module _ (p : ℕ → Bool) where
  Good : Operand → Type 0
  Good o = p (sort o) ≡ true

  at_place_sort : (v : Width) (n : ℕ) (a : Option Address) → list_all p (sorts (is.RegisterOrMemory v)) ≡ true →
      p (sort (at_place v n a)) ≡ true
  unfolding sorts sort register_sort memory_sort
  at_place_sort width.Byte n None h = (both_true _ _ h).0
  at_place_sort width.Word n None h = (both_true _ _ h).0
  at_place_sort width.Byte n (Some a) h = one_true _ (both_true (p 1) _ h).1
  at_place_sort width.Word n (Some a) h = one_true _ (both_true (p 2) _ h).1

  register_is_sort : (v : Width) (n : ℕ) → list_all p (sorts (is.Register v)) ≡ true → p (sort (register v n)) ≡ true
  unfolding sorts sort register_sort
  register_is_sort width.Byte n h = one_true _ h
  register_is_sort width.Word n h = one_true _ h

  direct_sort : (v : Width) (n : ℕ) → list_all p (sorts (is.Direct v)) ≡ true → p (sort (operand.Memory v (direct n)))
      ≡ true
  unfolding sorts sort memory_sort
  direct_sort width.Byte n h = one_true _ h
  direct_sort width.Word n h = one_true _ h

  of_kind : (k : OperandKind) (m : Fields) (o : Operand) (d : List ℕ) → Fills k m o d → list_all p (sorts k) ≡ true →
      p (sort o) ≡ true
  unfolding sorts sort
  of_kind is.Nothing m o d f h = rw f.0 (one_true _ h)
  of_kind (is.RegisterOrMemory v) m o d f h = rw f.0 (at_place_sort v m.rm m.memory h)
  of_kind (is.Register v) m o d f h = rw f.0 (register_is_sort v m.register h)
  of_kind is.Memory m o d f h = rw f.2 (one_true _ h)
  of_kind is.ByteValue m o d f h = rw f.2 (one_true _ h)
  of_kind is.WordValue m o d f h = rw f.2 (one_true _ h)
  of_kind is.SignedValue m o d f h = rw f.2 (one_true _ h)
  of_kind is.Short m o d f h = rw f.2 (one_true _ h)
  of_kind is.Near m o d f h = rw f.2 (one_true _ h)
  of_kind (is.Direct v) m o d f h = rw f.2 (direct_sort v f.0 h)
  of_kind is.Far m o d f h = rw f.4 (one_true _ h)
  of_kind (is.Escape r) m o d f h = rw f.0 (one_true _ h)
  of_kind (is.Byte r) m o d f h = rw f.0 (one_true _ h)
  of_kind (is.Word r) m o d f h = rw f.0 (one_true _ h)
  of_kind (is.TheSegment r) m o d f h = rw f.0 (one_true _ h)
  of_kind is.One m o d f h = rw f.0 (one_true _ h)

-- ---- the test

-- mnemonics that need not be told apart have one number
class : Mnemonic → ℕ
class op.Input = 1
class op.Int = 2
class op.Ret = 3
class op.Retf = 3
class op.Rol = 4
class op.Ror = 4
class op.Rcl = 4
class op.Rcr = 4
class op.Shl = 4
class op.Shr = 4
class op.Sar = 4
class op.Call = 5
class op.Jmp = 5
class op.CallFar = 6
class op.JmpFar = 6
class _ = 0

-- how a sort is written
looks : ℕ → ℕ
looks s = if nat_eq s 5 then 4 else if nat_lt s 6 then s else if nat_eq s 10 then 10 else 6

general : ℕ → Bool
general s = nat_eq s 1 || nat_eq s 2

-- the word before memory, where the first and the second operand are general registers or not
memory_word : Mnemonic → Bool → Bool → Width → Size
memory_word m g h v = jump_word m (if (if g then true else if is_shift m then false else h) then Absent else
    width_word v)

size_code : Size → ℕ
size_code Absent = 0
size_code Byte = 1
size_code Word = 2
size_code Near = 3

-- the size word before an operand of the sort x in an action with operands of the sorts s and t
word_code : Mnemonic → ℕ → ℕ → ℕ → ℕ
word_code m s t x = if nat_eq x 4 then size_code (memory_word m (general s) (general t) width.Byte) else if nat_eq x 5
    then size_code (memory_word m (general s) (general t) width.Word) else 0

-- where two actions are written alike, their operands have the same sorts
alike : ℕ → ℕ → ℕ → ℕ → ℕ → Mnemonic → ℕ → ℕ → Bool
alike c x y u v n s t = nat_eq c (class n) && nat_eq x (looks s) && nat_eq y (looks t) &&
    nat_eq u (word_code n s t s) && nat_eq v (word_code n s t t)

implies : Bool → Bool → Bool
implies true b = b
implies false b = true

agree : Mnemonic → ℕ → ℕ → Mnemonic → ℕ → ℕ → Bool
agree m s t n x y = implies (alike (class m) (looks s) (looks t) (word_code m s t s) (word_code m s t t) n x y)
    (nat_eq s x && nat_eq t y)

template_agrees : Mnemonic → ℕ → ℕ → Template → Bool
template_agrees m s t r = list_all (λ x. list_all (λ y. agree m s t r.mnemonic x y) (sorts r.second)) (sorts r.first)

template_fits : Template → Bool
template_fits r = list_all (λ s. list_all (λ t. templates_all (template_agrees r.mnemonic s t)) (sorts r.second))
    (sorts r.first)

all_fit : templates_all template_fits ≡ true
unfolding templates_all entry_all if_template template_fits template_agrees agree alike implies word_code memory_word
    size_code general looks class sorts register_sort memory_sort
all_fit = refl

-- ---- from the test to the law

if_alike : (b c : Bool) → b ≡ true → implies b c ≡ true → c ≡ true
unfolding implies
if_alike true c e h = h
if_alike false c e h = absurd cc

-- two actions of the table with one class that are written alike have operands of the same sorts
same_sorts : (a b : Action) (x y : List ℕ) → SpellsAction a x → SpellsAction b y →
    alike (class a.mnemonic) (looks (sort a.first)) (looks (sort a.second)) (word_code a.mnemonic (sort a.first)
    (sort a.second) (sort a.first)) (word_code a.mnemonic (sort a.first) (sort a.second) (sort a.second)) b.mnemonic
    (sort b.first) (sort b.second) ≡ true
    → (nat_eq (sort a.first) (sort b.first) && nat_eq (sort a.second) (sort b.second)) ≡ true
unfolding template_fits template_agrees agree
same_sorts a b x y p q e =
    let f = of_template template_fits p.first_byte p.fields p.behind p.template all_fit p.has_template in
    let g = of_kind (λ s. list_all (λ t. templates_all (template_agrees p.template.mnemonic s t))
    (sorts p.template.second)) p.template.first p.fields a.first p.first_part p.first f in
    let h = of_kind (λ t. templates_all (template_agrees p.template.mnemonic (sort a.first) t)) p.template.second
    p.fields a.second p.second_part p.second g in
    let i = of_template (template_agrees p.template.mnemonic (sort a.first) (sort a.second)) q.first_byte q.fields
    q.behind q.template h q.has_template in
    let j = of_kind (λ s. list_all (λ t. agree p.template.mnemonic (sort a.first) (sort a.second) q.template.mnemonic s
    t) (sorts q.template.second)) q.template.first q.fields b.first q.first_part q.first i in
    let k = of_kind (λ t. agree p.template.mnemonic (sort a.first) (sort a.second) q.template.mnemonic (sort b.first) t)
    q.template.second q.fields b.second q.second_part q.second j in
    let l : agree a.mnemonic (sort a.first) (sort a.second) b.mnemonic (sort b.first) (sort b.second) ≡ true =
    rw (p.mnemonic, q.mnemonic) k in
    if_alike _ _ e l

-- how a written operand looks, and which operand of a sort it is
look : Written → ℕ
look w.Nothing = 0
look (w.ByteRegister r) = 1
look (w.WordRegister r) = 2
look (w.SegmentRegister r) = 3
look (w.Memory s a) = 4
look (w.Number n) = 6
look (w.Far s o) = 10

or_zero : Option ℕ → ℕ
or_zero None = 0
or_zero (Some n) = n

number_of : ℕ → Numeral → Operand
number_of k n = if nat_eq k 6 then operand.ByteValue (or_zero n.byte) else if nat_eq k 7 then
    operand.WordValue (or_zero n.word) else if nat_eq k 8 then operand.Target n.distance else operand.One

memory_of : ℕ → Address → Operand
memory_of k a = if nat_eq k 4 then operand.Memory width.Byte a else operand.Memory width.Word a

of_sort : Written → ℕ → Operand
of_sort w.Nothing k = operand.Nothing
of_sort (w.ByteRegister r) k = operand.ByteRegister r
of_sort (w.WordRegister r) k = operand.WordRegister r
of_sort (w.SegmentRegister r) k = operand.SegmentRegister r
of_sort (w.Memory s a) k = memory_of k a
of_sort (w.Number n) k = number_of k n
of_sort (w.Far s o) k = operand.FarTarget o s

record Looks (x : Written) (o : Operand) : Type 0 where
  looks_so : looks (sort o) ≡ look x
  again : of_sort x (sort o) ≡ o

looks_as : (x : Written) (p o : Operand) → o ≡ p → Looks x p → Looks x o
looks_as x p o e h = subst (Looks x) (sym e) h

byte_looks : (n : Numeral) (b : Option ℕ) (o : Operand) → n.byte ≡ b → IsSomeAnd b (λ k. o ≡ operand.ByteValue k) →
    Looks (w.Number n) o
unfolding looks sort look of_sort number_of or_zero
byte_looks n None o e h = absurd h
byte_looks n (Some k) o e h = looks_as (w.Number n) (operand.ByteValue k) o h (record {
  looks_so = refl;
  again = rw e refl;
})

word_looks : (n : Numeral) (b : Option ℕ) (o : Operand) → n.word ≡ b → IsSomeAnd b (λ k. o ≡ operand.WordValue k) →
    Looks (w.Number n) o
unfolding looks sort look of_sort number_of or_zero
word_looks n None o e h = absurd h
word_looks n (Some k) o e h = looks_as (w.Number n) (operand.WordValue k) o h (record {
  looks_so = refl;
  again = rw e refl;
})

number_looks : (n : Numeral) (o : Operand) → IsNumber n o → Looks (w.Number n) o
unfolding looks sort look of_sort number_of
number_looks n o (inl e) = byte_looks n n.byte o refl e
number_looks n o (inr (inl e)) = word_looks n n.word o refl e
number_looks n o (inr (inr (inl e))) = looks_as (w.Number n) (operand.Target n.distance) o e (record {
  looks_so = refl;
  again = refl;
})
number_looks n o (inr (inr (inr e))) = looks_as (w.Number n) operand.One o e.1 (record {
  looks_so = refl;
  again = refl;
})

looks_written : (x : Written) (o : Operand) → IsWritten x o → Looks x o
unfolding looks sort look of_sort memory_of
looks_written w.Nothing o e = looks_as _ _ o e (record { looks_so = refl; again = refl })
looks_written (w.ByteRegister r) o e = looks_as _ _ o e (record { looks_so = refl; again = refl })
looks_written (w.WordRegister r) o e = looks_as _ _ o e (record { looks_so = refl; again = refl })
looks_written (w.SegmentRegister r) o e = looks_as _ _ o e (record { looks_so = refl; again = refl })
looks_written (w.Memory s a) o (inl e) = looks_as _ _ o e (record { looks_so = refl; again = refl })
looks_written (w.Memory s a) o (inr e) = looks_as _ _ o e (record { looks_so = refl; again = refl })
looks_written (w.Number n) o e = number_looks n o e
looks_written (w.Far s n) o e = looks_as _ _ o e (record { looks_so = refl; again = refl })

general_sort : (o : Operand) → is_general o ≡ general (sort o)
unfolding general sort
general_sort operand.Nothing = refl
general_sort (operand.ByteRegister r) = refl
general_sort (operand.WordRegister r) = refl
general_sort (operand.SegmentRegister r) = refl
general_sort (operand.Memory width.Byte a) = refl
general_sort (operand.Memory width.Word a) = refl
general_sort (operand.ByteValue n) = refl
general_sort (operand.WordValue n) = refl
general_sort (operand.Target n) = refl
general_sort operand.One = refl
general_sort (operand.FarTarget n s) = refl

word_is : (a : Action) (o : Operand) → size_code (word_before a o) ≡ word_code a.mnemonic (sort a.first) (sort a.second)
    (sort o)
unfolding word_code memory_word size_code sort
word_is a operand.Nothing = refl
word_is a (operand.ByteRegister r) = refl
word_is a (operand.WordRegister r) = refl
word_is a (operand.SegmentRegister r) = refl
word_is a (operand.Memory width.Byte m) = rw (general_sort a.first, general_sort a.second) refl
word_is a (operand.Memory width.Word m) = rw (general_sort a.first, general_sort a.second) refl
word_is a (operand.ByteValue n) = refl
word_is a (operand.WordValue n) = refl
word_is a (operand.Target n) = refl
word_is a operand.One = refl
word_is a (operand.FarTarget n s) = refl

same_nat : (n m : ℕ) → n ≡ m → nat_eq n m ≡ true
same_nat n m e = eq-eqb n m e

five : (a b c d e : Bool) → a ≡ true → b ≡ true → c ≡ true → d ≡ true → e ≡ true → (a && b && c && d && e) ≡ true
five a b c d e p q r s t = rw (p, q, r, s, t) refl

pub words_are_one : WordsAreOne
unfolding alike
words_are_one words a b x y p q sa sb =
    let la = looks_written words.first a.first p.first in
    let lb = looks_written words.first b.first q.first in
    let ma = looks_written words.second a.second p.second in
    let mb = looks_written words.second b.second q.second in
    let n : a.mnemonic ≡ b.mnemonic = p.mnemonic ∙ sym q.mnemonic in
    let u : word_code a.mnemonic (sort a.first) (sort a.second) (sort a.first) ≡ word_code b.mnemonic (sort b.first)
    (sort b.second) (sort b.first) =
    sym (word_is a a.first) ∙ ap size_code (sym p.first_word ∙ q.first_word) ∙ word_is b b.first in
    let v : word_code a.mnemonic (sort a.first) (sort a.second) (sort a.second) ≡ word_code b.mnemonic (sort b.first)
    (sort b.second) (sort b.second) =
    sym (word_is a a.second) ∙ ap size_code (sym p.second_word ∙ q.second_word) ∙ word_is b b.second in
    let k = same_sorts a b x y sa sb (five _ _ _ _ _ (same_nat _ _ (ap class n)) (same_nat _ _ (la.looks_so
    ∙ sym lb.looks_so)) (same_nat _ _ (ma.looks_so ∙ sym mb.looks_so)) (same_nat _ _ u) (same_nat _ _ v)) in
    let both = both_true _ _ k in
    let f : a.first ≡ b.first = sym la.again ∙ ap (of_sort words.first) (eqb-true _ _ both.0) ∙ lb.again in
    let s : a.second ≡ b.second = sym ma.again ∙ ap (of_sort words.second) (eqb-true _ _ both.1) ∙ mb.again in
    same_parts a b n f s
  where
    same_parts : (a b : Action) → a.mnemonic ≡ b.mnemonic → a.first ≡ b.first → a.second ≡ b.second → a ≡ b
    same_parts a b n f s = rw (n, f, s) refl
