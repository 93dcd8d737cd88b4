-- An instruction that names no label and has no target has the same bytes wherever it stands.
use Rattle.std.proofs.Common.{◌≡◌, ℕ, ◌+◌, true, false, List, length, Option, Some, None, refl, sym, ap, subst, ◌∙◌, inl, inr}
use Rattle.std.specs.Prelude.{is_none}
use Rattle.dm_ins.specs.declared.action.Mnemonic.{Mnemonic}
use Rattle.dm_ins.specs.declared.ins.Ins.{Ins}
use Rattle.dm_ins.specs.declared.operand.Base.TheVariants.{Direct}
use Rattle.dm_ins.specs.declared.operand.Operand.{Operand}
use Rattle.dm_ins.specs.Preferred.{IsPreferred}
use Rattle.dm_ins.proofs.Preferred.{has_preferred}
use Rattle.dm_decode.specs.declared.words.written.Size.{Size}
use Rattle.dm_decode.specs.declared.words.written.Written.{Written}
use Rattle.dm_decode.specs.declared.words.written.Written.TheVariants as w
use Rattle.dm_decode.specs.declared.words.written.Words.{Words}
use Rattle.dm_decode.specs.words.Words.{AreWords, IsNumber, IsWritten, word_written}
use Rattle.dm_decode.specs.words.StandIns.{StandsFor}
use Rattle.dm_decode.specs.words.Laws.{StandInsAreRead, LengthsAreKnown}
use Rattle.dm_lines.specs.declared.token.Name as Name'
use Rattle.dm_lines.specs.declared.term.Amount.{Amount}
use Rattle.dm_lines.specs.declared.term.Term.{Term}
use Rattle.dm_lines.specs.declared.term.Term.TheVariants as term
use Rattle.dm_lines.specs.declared.statement.Instruction.{Instruction}
use Rattle.dm_lines.specs.Operands.{amount_word}
use Rattle.dm_lines.specs.Placing.{number_at, written_of}
use Rattle.dm_lines.specs.Laws.{TermFits, OutlinesStand}
use Rattle.dm_asm.specs.Labels.{Label}
use Rattle.dm_asm.specs.Codes.{written_for, placed_words, outlined, IsCoded}
use Rattle.dm_asm.specs.inner.Fixed.{AreFixed, names_none, targets}
use Rattle.dm_asm.proofs.Placed.{some_same, stands}

-- ---- operands

-- before another instruction the operand is the same
record Again (m : Mnemonic) (t : Term) (labels : List Label) (next : ℕ) (o : Operand) (old : Written) : Type 0 where
  written : Written
  is_placed : written_for labels m next t ≡ Some written
  is : IsWritten written o
  word : word_written written ≡ word_written old

module _ (m : Mnemonic) (labels : List Label) (next : ℕ) (o : Operand) (old : Written) where
  same_again : (t : Term) (x : Written) → written_for labels m next t ≡ Some x → Some x ≡ Some old → IsWritten old o →
      Again m t labels next o old
  same_again t x p e h = record {
    written = x;
    is_placed = p;
    is = subst (λ (y : Written). IsWritten y o) (sym (some_same x old e)) h;
    word = ap word_written (some_same x old e);
  }

  address_again : (s : Size) (l : Option Name'.Name) (n : Amount) → is_none l ≡ true →
      written_of m (term.Address s (record { label = l; amount = n })) 0 0 ≡ Some old → IsWritten old o →
      Again m (term.Address s (record { label = l; amount = n })) labels next o old
  address_again s None n f e h = same_again (term.Address s (record { label = None; amount = n }))
      (w.Memory s (record { base = Direct; displacement = amount_word n })) refl e h
  address_again s (Some l) n f e h = absurd cc

  number_moved : (n : Amount) → targets o ≡ false → IsNumber (number_at n 0) o → IsNumber (number_at n next) o
  number_moved n t (inl e) = inl e
  number_moved n t (inr (inl e)) = inr (inl e)
  number_moved n t (inr (inr (inl e))) = absurd (let f : true ≡ false =
      subst (λ (x : Operand). targets x ≡ false) e t in cc)
  number_moved n t (inr (inr (inr e))) = inr (inr (inr e))

  number_again : (l : Option Name'.Name) (n : Amount) → is_none l ≡ true → targets o ≡ false →
      written_of m (term.Number (record { label = l; amount = n })) 0 0 ≡ Some old → IsWritten old o →
      Again m (term.Number (record { label = l; amount = n })) labels next o old
  number_again None n f t e h =
      let same = some_same (w.Number (number_at n 0)) old e in
      record {
        written = w.Number (number_at n next);
        is_placed = refl;
        is = number_moved n t (subst (λ (y : Written). IsWritten y o) (sym same) h);
        word = ap word_written same;
      }
  number_again (Some l) n f t e h = absurd cc

  again : (t : Term) → names_none t ≡ true → targets o ≡ false → written_of m t 0 0 ≡ Some old → IsWritten old o →
      Again m t labels next o old
  again term.Nothing f t e h = same_again term.Nothing w.Nothing refl e h
  again (term.ByteRegister r) f t e h = same_again (term.ByteRegister r) (w.ByteRegister r) refl e h
  again (term.WordRegister r) f t e h = same_again (term.WordRegister r) (w.WordRegister r) refl e h
  again (term.SegmentRegister r) f t e h = same_again (term.SegmentRegister r) (w.SegmentRegister r) refl e h
  again (term.Memory s b n) f t e h = same_again (term.Memory s b n) (w.Memory s (record {
    base = b;
    displacement = amount_word n;
  })) refl e h
  again (term.Address s v) f t e h = address_again s v.label v.amount f e h
  again (term.Number v) f t e h = number_again v.label v.amount f t e h
  again (term.Far s n) f t e h = same_again (term.Far s n) (w.Far s n) refl e h

-- ---- instructions

pub coded_anywhere : OutlinesStand → StandInsAreRead → LengthsAreKnown →
    (i : Instruction) (words : Words) (ins : Ins) (code : List ℕ) → TermFits i.first → TermFits i.second →
    AreFixed i words → ins.prefixes ≡ i.prefixes → AreWords words ins.action → targets ins.action.first ≡ false →
    targets ins.action.second ≡ false → IsPreferred ins code → (labels : List Label) (at : ℕ) → IsCoded labels at i code
coded_anywhere outlines stand_ins lengths i words ins code ff fs fixed prefixes are tf ts chosen labels at =
    let next = at + length code in
    let a = again i.mnemonic labels next ins.action.first words.first i.first fixed.first_free tf fixed.first
    are.first in
    let b = again i.mnemonic labels next ins.action.second words.second i.second fixed.second_free ts fixed.second
    are.second in
    let v : Words = record { mnemonic = i.mnemonic; first = a.written; second = b.written } in
    let h : placed_words labels next i ≡ Some v = rw (a.is_placed, b.is_placed) refl in
    let these : AreWords v ins.action = record {
      mnemonic = are.mnemonic ∙ fixed.mnemonic;
      first = a.is;
      second = b.is;
      first_word = a.word ∙ are.first_word;
      second_word = b.word ∙ are.second_word;
    } in
    let st : StandsFor (outlined i) v = stands outlines labels next i v ff fs h in
    let r = stand_ins (outlined i) v ins.action chosen.spells.rest st these chosen.spells.action in
    let j = has_preferred i.prefixes r.0 r.1 r.3 in
    let jw : AreWords (outlined i) j.ins.action = subst (AreWords (outlined i)) (sym j.action) r.2 in
    record {
      shape = record {
        ins = j.ins;
        prefixes = j.prefixes;
        words = jw;
        code = j.bytes;
        preferred = j.preferred;
        long = sym (lengths (outlined i) v j.ins ins j.bytes code st jw these (j.prefixes
            ∙ sym prefixes) j.preferred chosen);
      };
      written = v;
      placed = h;
      ins = ins;
      prefixes = prefixes;
      words = these;
      preferred = chosen;
    }
