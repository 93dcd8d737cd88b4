-- What is written is an operand exactly where it is taken as that operand in one of the four ways.
use Rattle.std.proofs.Common.{◌≡◌, ℕ, List, Option, Some, None, IfNone, ◌+◌, ◌≤◌, ◌≢◌, Bool, true, false, nat_eq, get_or, arith, refl, sym, ap, subst, ◌∙◌, inl, inr}
use Rattle.std.specs.Prelude.{IsSomeAnd, if◌then◌else◌}
use Rattle.std.proofs.lemmas.Bool.{eqb-true, eqb-false}
use Rattle.dm_ins.specs.declared.operand.Operand.{Operand}
use Rattle.dm_ins.specs.declared.operand.Operand.TheVariants as operand
use Rattle.dm_ins.specs.declared.action.Action.{Action}
use Rattle.dm_ins.specs.Spelling.{SpellsAction}
use Rattle.dm_decode.specs.declared.words.written.Numeral.{Numeral}
use Rattle.dm_decode.specs.declared.words.written.Written.{Written}
use Rattle.dm_decode.specs.declared.words.written.Written.TheVariants as w
use Rattle.dm_decode.specs.declared.words.written.Words.{Words}
use Rattle.dm_decode.specs.declared.words.reading.Way.{Way}
use Rattle.dm_decode.specs.declared.words.reading.Way.TheVariants.{AsByte, AsWord, AsTarget, AsOne}
use Rattle.dm_decode.specs.words.Words.{IsNumber, IsWritten, AreWords}
use Rattle.dm_decode.specs.words.inner.Search.{FirstWays, HaveWords, Taken, IsNot, action_of, byte_as, number_as, taken, ways, word_as}

same_some : {A : Type 0} (x y : A) → Some x ≡ Some y → x ≡ y
same_some x y e = cc

none_of : {A : Type 0} {P : Type 0} (x : A) → None ≡ Some x → P
none_of x e = absurd cc

-- ---- from a way to what is written

byte_taken : (b : Option ℕ) (o : Operand) → byte_as b ≡ Some o → IsSomeAnd b (λ n. o ≡ operand.ByteValue n)
byte_taken None o e = none_of o e
byte_taken (Some n) o e = sym (same_some _ _ e)

word_taken : (b : Option ℕ) (o : Operand) → word_as b ≡ Some o → IsSomeAnd b (λ n. o ≡ operand.WordValue n)
word_taken None o e = none_of o e
word_taken (Some n) o e = sym (same_some _ _ e)

one_taken : (b : Bool) (o : Operand) → (if b then Some operand.One else None) ≡ Some o → (b ≡ true) × (o ≡ operand.One)
one_taken true o e = (refl, sym (same_some _ _ e))
one_taken false o e = none_of o e

number_taken : (v : Way) (n : Numeral) (o : Operand) → number_as v n ≡ Some o → IsNumber n o
number_taken AsByte n o e = inl (byte_taken n.byte o e)
number_taken AsWord n o e = inr (inl (word_taken n.word o e))
number_taken AsTarget n o e = inr (inr (inl (sym (same_some _ _ e))))
number_taken AsOne n o e = inr (inr (inr (one_taken n.is_one o e)))

is_taken : (v : Way) (x : Written) (o : Operand) → taken v x ≡ Some o → IsWritten x o
unfolding taken
is_taken AsByte w.Nothing o e = sym (same_some _ _ e)
is_taken AsByte (w.ByteRegister r) o e = sym (same_some _ _ e)
is_taken AsByte (w.WordRegister r) o e = sym (same_some _ _ e)
is_taken AsByte (w.SegmentRegister r) o e = sym (same_some _ _ e)
is_taken AsByte (w.Memory s a) o e = inl (sym (same_some _ _ e))
is_taken AsByte (w.Far s n) o e = sym (same_some _ _ e)
is_taken AsWord (w.Memory s a) o e = inr (sym (same_some _ _ e))
is_taken v (w.Number n) o e = number_taken v n o e
is_taken _ _ o e = none_of o e

pub are_words : (words : Words) (way other : Way) (a : Action) → Taken words way other a → AreWords words a
are_words words way other a t = record {
  mnemonic = t.mnemonic;
  first = is_taken way words.first a.first t.first;
  second = is_taken other words.second a.second t.second;
  first_word = t.have.first_word;
  second_word = t.have.second_word;
}

-- ---- from what is written to a way

byte_way : (b : Option ℕ) (o : Operand) → IsSomeAnd b (λ n. o ≡ operand.ByteValue n) → byte_as b ≡ Some o
byte_way None o e = absurd e
byte_way (Some n) o e = ap Some (sym e)

word_way : (b : Option ℕ) (o : Operand) → IsSomeAnd b (λ n. o ≡ operand.WordValue n) → word_as b ≡ Some o
word_way None o e = absurd e
word_way (Some n) o e = ap Some (sym e)

one_way : (b : Bool) (o : Operand) → (b ≡ true) × (o ≡ operand.One) → (if b then Some operand.One else None) ≡ Some o
one_way b o e = rw (e.0, e.1) refl

number_way : (n : Numeral) (o : Operand) → IsNumber n o → (v : Way) × (number_as v n ≡ Some o)
number_way n o (inl e) = (AsByte, byte_way n.byte o e)
number_way n o (inr (inl e)) = (AsWord, word_way n.word o e)
number_way n o (inr (inr (inl e))) = (AsTarget, ap Some (sym e))
number_way n o (inr (inr (inr e))) = (AsOne, one_way n.is_one o e)

way_of : (x : Written) (o : Operand) → IsWritten x o → (v : Way) × (taken v x ≡ Some o)
unfolding taken
way_of (w.Memory s a) o (inl e) = (AsByte, ap Some (sym e))
way_of (w.Memory s a) o (inr e) = (AsWord, ap Some (sym e))
way_of (w.Number n) o e = number_way n o e
way_of _ o e = (AsByte, ap Some (sym e))

-- ---- words that are no instruction

-- where one of the operands can't be so taken
pub no_first : (words : Words) (way other : Way) → taken way words.first ≡ None → IsNot words way other
no_first words way other e a b t s = none_of a.first (sym e ∙ t.first)

pub no_second : (words : Words) (way other : Way) → taken other words.second ≡ None → IsNot words way other
no_second words way other e a b t s = none_of a.second (sym e ∙ t.second)

same_action : (words : Words) (way other : Way) (f s : Operand) (a : Action) → taken way words.first ≡ Some f →
    taken other words.second ≡ Some s → Taken words way other a → a ≡ action_of words f s
same_action words way other f s a p q t =
    let e : a.first ≡ f = same_some a.first f (sym t.first ∙ p) in
    let g : a.second ≡ s = same_some a.second s (sym t.second ∙ q) in
    rw (sym e, sym g, sym t.mnemonic) refl

abbrev pub Never : Words → Action → Type 0
Never words a = HaveWords words a → (b : List ℕ) → SpellsAction a b → ⊥

-- where the operands that are so taken make none
pub no_spelled : {A : Type 0} (words : Words) (way other : Way) (f s : Operand) (o : Option A) →
    taken way words.first ≡ Some f → taken other words.second ≡ Some s → IfNone o (Never words (action_of words f s)) →
    IfNone o (IsNot words way other)
no_spelled words way other f s None p q h = λ a b t sp. let e = same_action words way other f s a p q t in
    h (subst (HaveWords words) e t.have) b (subst (λ (x : Action). SpellsAction x b) e sp)
no_spelled words way other f s (Some i) p q h = tt

-- one more way
pub one_more : (P : Way → Type 0) (i : ℕ) → FirstWays i P → P (get_or ways i AsByte) → FirstWays (i + 1) P
one_more P i h x k lt = by (nat_eq k i) refl
  where
    by : (b : Bool) → nat_eq k i ≡ b → P (get_or ways k AsByte)
    by true e = subst (λ (j : ℕ). P (get_or ways j AsByte)) (sym (eqb-true k i e)) x
    by false e = h k (let d : k ≢ i = eqb-false k i e in omega arith)

-- a fact of all ways
every_way : (P : Way → Type 0) → FirstWays 4 P → (way : Way) → P way
every_way P h AsByte = h 0 (omega arith)
every_way P h AsWord = h 1 (omega arith)
every_way P h AsTarget = h 2 (omega arith)
every_way P h AsOne = h 3 (omega arith)

pub no_words : (words : Words) (n : ℕ) → 4 ≤ n → FirstWays n (λ way. FirstWays 4 (IsNot words way)) →
    (a : Action) (b : List ℕ) → AreWords words a → SpellsAction a b → ⊥
no_words words n le h a b r s =
    let f = way_of words.first a.first r.first in
    let g = way_of words.second a.second r.second in
    every_way (IsNot words f.0) (every_way (λ way. FirstWays 4 (IsNot words way)) (λ k lt. h k (omega arith)) f.0) g.0 a
    b
    (record {
      mnemonic = r.mnemonic;
      first = f.1;
      second = g.1;
      have = record {
        first_word = r.first_word;
        second_word = r.second_word;
      };
    }) s
