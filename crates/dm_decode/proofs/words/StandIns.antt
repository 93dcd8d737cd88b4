-- Words in which others stand for some values are an instruction wherever the words are one, and one with as many
-- bytes.
use Rattle.std.proofs.Common.{◌≡◌, ℕ, ◌%◌, ◌<◌, ◌≤◌, ◌^◌, true, false, List, ◌++◌, length, Option, Some, None, refl, sym, ap, subst, ◌∙◌, arith, inl, inr}
use Rattle.std.specs.Prelude.{◌⊎◌, map, IfSome, IsSomeAnd}
use Rattle.std.proofs.lemmas.List.{length-append}
use Rattle.std.proofs.lemmas.Bool.{cases_lt, lt-ltb}
use Rattle.dm_ins.specs.declared.operand.Width.TheVariants as width
use Rattle.dm_ins.specs.declared.operand.Address.{Address}
use Rattle.dm_ins.specs.declared.operand.Operand.{Operand}
use Rattle.dm_ins.specs.declared.operand.Operand.TheVariants as operand
use Rattle.dm_ins.specs.declared.action.Mnemonic.{Mnemonic}
use Rattle.dm_ins.specs.declared.action.Action.{Action}
use Rattle.dm_ins.specs.declared.ins.Ins.{Ins}
use Rattle.dm_ins.specs.Spelling.{SpellsAction, prefix_byte}
use Rattle.dm_ins.specs.Ins.{Spells}
use Rattle.dm_ins.specs.Order.{before}
use Rattle.dm_ins.specs.inner.Search.{OperandFits}
use Rattle.dm_decode.specs.Texts.{gives_size, is_general}
use Rattle.dm_decode.specs.declared.words.written.Size.{Size}
use Rattle.dm_decode.specs.declared.words.written.Numeral.{Numeral}
use Rattle.dm_decode.specs.declared.words.written.Written.{Written}
use Rattle.dm_decode.specs.declared.words.written.Written.TheVariants as w
use Rattle.dm_decode.specs.declared.words.written.Words.{Words}
use Rattle.dm_decode.specs.words.Words.{IsNumber, IsWritten, AreWords, word_before, word_written}
use Rattle.dm_decode.specs.words.StandIns.{is_move, NumberStands, AddressStands, OperandStands, StandsFor}
use Rattle.dm_decode.specs.words.Laws.{StandInsAreRead, LengthsAreKnown}
use Rattle.dm_ins.specs.Preferred.{IsPreferred}
use Rattle.dm_decode.proofs.words.One.{words_are_one}
use Rattle.dm_decode.proofs.words.Known.{Known, KnownAction, known_action}
use Rattle.dm_decode.proofs.words.Alike.{Alike, alike_self, alike_back, escape_is_no_move}
use Rattle.dm_decode.proofs.words.Lengths.{AlikeActions, as_long}

-- ---- an operand that stands for another one

-- what is written in the place of an operand is one that is alike
record StandIn (m : Mnemonic) (x : Written) (o : Operand) : Type 0 where
  p : Operand
  is_written : IsWritten x p
  alike : Alike m o p
  fits : OperandFits p
  known : Known m p

byte_stands : (m : Mnemonic) (k : Numeral) (b c : Option ℕ) (o : Operand) → k.byte ≡ c →
    IfSome b (λ b. IsSomeAnd c (λ c. (c < 2 ^ 8) × (is_move m ≡ false → c ≡ b % 64)))
    → IsSomeAnd b (λ b. o ≡ operand.ByteValue b) → StandIn m (w.Number k) o
unfolding Alike Known
byte_stands m k None c o e h i = absurd i
byte_stands m k (Some b) None o e h i = absurd h
byte_stands m k (Some b) (Some c) o e h i = rw i (record {
  p = operand.ByteValue c;
  is_written = inl (rw e refl);
  alike = (c, refl, λ f. let d = h.1 f in omega arith);
  fits = h.0;
  known = λ f. let d = h.1 (escape_is_no_move m f) in omega arith;
})

word_stands : (m : Mnemonic) (k : Numeral) (b c : Option ℕ) (o : Operand) → k.word ≡ c →
    IfSome b (λ v. IsSomeAnd c (λ u. (u < 2 ^ 16) × (is_move m ≡ false → u ≡ v)))
    → IsSomeAnd b (λ b. o ≡ operand.WordValue b) → StandIn m (w.Number k) o
unfolding Alike Known
word_stands m k None c o e h i = absurd i
word_stands m k (Some b) None o e h i = absurd h
word_stands m k (Some b) (Some c) o e h i = rw i (record {
  p = operand.WordValue c;
  is_written = inr (inl (rw e refl));
  alike = (c, refl, h.1);
  fits = h.0;
  known = tt;
})

number_stands : (m : Mnemonic) (k n : Numeral) (o : Operand) → NumberStands m k n → IsNumber n o →
    StandIn m (w.Number k) o
unfolding Alike Known
number_stands m k n o s (inl i) = byte_stands m k n.byte k.byte o refl s.byte i
number_stands m k n o s (inr (inl i)) = word_stands m k n.word k.word o refl s.word i
number_stands m k n o s (inr (inr (inl i))) = rw i (record {
  p = operand.Target k.distance;
  is_written = inr (inr (inl refl));
  alike = (k.distance, refl);
  fits = rw s.distance (omega arith);
  known = λ f. (0, omega arith, s.distance);
})
number_stands m k n o s (inr (inr (inr i))) = rw i.1 (record {
  p = operand.One;
  is_written = inr (inr (inr (s.is_one ∙ i.0, refl)));
  alike = refl;
  fits = tt;
  known = tt;
})

memory_stands : (m : Mnemonic) (s t : Size) (a b : Address) (o : Operand) → AddressStands a b →
    (o ≡ operand.Memory width.Byte b) ⊎ (o ≡ operand.Memory width.Word b) → StandIn m (w.Memory s a) o
unfolding Alike Known
memory_stands m s t a b o h (inl i) = rw i (record {
  p = operand.Memory width.Byte a;
  is_written = inl refl;
  alike = (a, refl, record { base = h.base; displacement = h.displacement });
  fits = h.fits;
  known = tt;
})
memory_stands m s t a b o h (inr i) = rw i (record {
  p = operand.Memory width.Word a;
  is_written = inr refl;
  alike = (a, refl, record { base = h.base; displacement = h.displacement });
  fits = h.fits;
  known = tt;
})

itself : (m : Mnemonic) (x y : Written) (o : Operand) → x ≡ y → IsWritten y o → OperandFits o → Known m o →
    StandIn m x o
itself m x y o e i f k = record { p = o; is_written = rw e i; alike = alike_self m o; fits = f; known = k }

stands_in : (m : Mnemonic) (x y : Written) (o : Operand) → OperandStands m x y → IsWritten y o → OperandFits o →
    Known m o → StandIn m x o
stands_in m (w.Number k) (w.Number n) o s i f kn = number_stands m k n o s i
stands_in m (w.Memory s a) (w.Memory t b) o h i f kn = memory_stands m s t a b o h.1 i
stands_in m x y o s i f kn = itself m x y o s i f kn

-- ---- the words before memory

same_word : (m : Mnemonic) (x y : Written) → OperandStands m x y → word_written x ≡ word_written y
same_word m (w.Number k) (w.Number n) s = refl
same_word m (w.Memory s a) (w.Memory t b) h = h.0
same_word m x y e = ap word_written e

as_general : (m : Mnemonic) (o p : Operand) → Alike m o p → is_general p ≡ is_general o
unfolding Alike
as_general m (operand.ByteValue n) p h = rw h.1 refl
as_general m (operand.WordValue n) p h = rw h.1 refl
as_general m (operand.Target n) p h = rw h.1 refl
as_general m (operand.Memory v a) p h = rw h.1 refl
as_general m o p h = rw h refl

same_size : (a b : Action) → AlikeActions a b → gives_size b ≡ gives_size a
same_size a b h = rw (h.mnemonic, as_general _ _ _ h.first, as_general _ _ _ h.second) refl

same_before : (a b : Action) (o p : Operand) → AlikeActions a b → Alike a.mnemonic o p →
    word_before b p ≡ word_before a o
unfolding Alike
same_before a b (operand.Memory v x) p h i = rw (i.1, same_size a b h, h.mnemonic) refl
same_before a b (operand.ByteValue n) p h i = rw i.1 refl
same_before a b (operand.WordValue n) p h i = rw i.1 refl
same_before a b (operand.Target n) p h i = rw i.1 refl
same_before a b o p h i = rw i refl

-- ---- instructions

-- the instruction of words in which others stand for some values
record StandInAction (stand : Words) (a : Action) : Type 0 where
  b : Action
  are_words : AreWords stand b
  alike : AlikeActions a b
  known : KnownAction b

stand_in : (stand words : Words) (a : Action) (x : List ℕ) → StandsFor stand words → AreWords words a →
    SpellsAction a x → StandInAction stand a
stand_in stand words a x s are sp = record {
  b = b;
  alike = al;
  known = record { first = f.known; second = g.known; first_fits = f.fits; second_fits = g.fits };
  are_words = record {
    mnemonic = are.mnemonic ∙ sym s.mnemonic;
    first = f.is_written;
    second = g.is_written;
    first_word = same_word _ _ _ first ∙ are.first_word ∙ sym (same_before a b a.first f.p al f.alike);
    second_word = same_word _ _ _ second ∙ are.second_word ∙ sym (same_before a b a.second g.p al g.alike);
  };
}
  where
    kn : KnownAction a
    kn = known_action a x sp

    first : OperandStands a.mnemonic stand.first words.first
    first = subst (λ (m : Mnemonic). OperandStands m stand.first words.first) (sym are.mnemonic) s.first

    second : OperandStands a.mnemonic stand.second words.second
    second = subst (λ (m : Mnemonic). OperandStands m stand.second words.second) (sym are.mnemonic) s.second

    f : StandIn a.mnemonic stand.first a.first
    f = stands_in a.mnemonic stand.first words.first a.first first are.first kn.first_fits kn.first

    g : StandIn a.mnemonic stand.second a.second
    g = stands_in a.mnemonic stand.second words.second a.second second are.second kn.second_fits kn.second

    b : Action
    b = record { mnemonic = a.mnemonic; first = f.p; second = g.p }

    al : AlikeActions a b
    al = record { mnemonic = refl; first = f.alike; second = g.alike }

pub stand_ins_are_read : StandInsAreRead
stand_ins_are_read stand words a x s are sp =
    let i = stand_in stand words a x s are sp in
    let l = as_long a i.b x sp i.known i.alike in
    (i.b, l.0, i.are_words, l.1)

-- ---- lengths

back : (a b : Action) → AlikeActions a b → AlikeActions b a
back a b h = record {
  mnemonic = sym h.mnemonic;
  first = alike_back _ _ _ (rw h.mnemonic h.first);
  second = alike_back _ _ _ (rw h.mnemonic h.second);
}

not_shorter : (a b : List ℕ) → before a b ≡ false → length b ≤ length a
not_shorter a b e = elim (cases_lt (length a) (length b)) [
  | inl lt ↦
      absurd (wrong (rw (lt-ltb (length a) (length b) lt) at e))
  | inr le ↦ le
]
  where
    wrong : true ≡ false → ⊥
    wrong e = cc

-- the least bytes of an instruction are no longer than what spells one that is alike
no_longer : (i j : Ins) (x y : List ℕ) → AlikeActions j.action i.action → i.prefixes ≡ j.prefixes → IsPreferred i x →
    Spells j y → length x ≤ length y
no_longer i j x y al e en s =
    let kn = known_action i.action en.spells.rest en.spells.action in
    let l = as_long j.action i.action s.rest s.action kn al in
    let other : Spells i (map prefix_byte s.prefixes ++ l.0) = record {
      prefixes = s.prefixes;
      rest = l.0;
      few = s.few;
      keeps = e ∙ s.keeps;
      action = l.1;
      parts = refl;
    } in
    let le : length x ≤ length (map prefix_byte s.prefixes ++ l.0) = not_shorter _ _ (en.least _ other) in
    by (map prefix_byte s.prefixes) l.0 s.rest le l.2 (ap length s.parts)
  where
    by : (p z r : List ℕ) → length x ≤ length (p ++ z) → length z ≡ length r → length y ≡ length (p ++ r) →
        length x ≤ length y
    by p z r le e f = omega (arith, length-append p z, length-append p r)

pub lengths_are_known : LengthsAreKnown
lengths_are_known stand words i j x y s ai aj e p q =
    let t = stand_in stand words j.action q.spells.rest s aj q.spells.action in
    let l = as_long j.action t.b q.spells.rest q.spells.action t.known t.alike in
    let same : t.b ≡ i.action = words_are_one stand t.b i.action l.0 p.spells.rest t.are_words ai l.1 p.spells.action in
    let al : AlikeActions j.action i.action = subst (AlikeActions j.action) same t.alike in
    let le = no_longer i j x y al e p q.spells in
    let ge = no_longer j i y x (back _ _ al) (sym e) q p.spells in
    omega (arith, le, ge)
