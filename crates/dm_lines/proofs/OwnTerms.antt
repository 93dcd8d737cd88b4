-- What is written for the operands of a text, and what stands for a value before its label has a place.
use Rattle.std.proofs.Common.{◌≡◌, ℕ, ◌-◌, ◌%◌, ◌<◌, ◌≤◌, ◌^◌, Bool, true, false, Option, Some, None, refl, sym, subst, arith, rules}
use Rattle.std.specs.Prelude.{if◌then◌else◌, nat_lt, nat_le, IfSome}
use Rattle.dm_ins.specs.declared.operand.Base.{Base}
use Rattle.dm_ins.specs.declared.operand.Base.TheVariants.{Direct}
use Rattle.dm_ins.specs.declared.operand.Operand.TheVariants as operand
use Rattle.dm_ins.specs.declared.action.Mnemonic.{Mnemonic}
use Rattle.dm_decode.specs.declared.words.written.Size.{Size}
use Rattle.dm_decode.specs.declared.words.written.Written.{Written}
use Rattle.dm_decode.specs.declared.words.written.Written.TheVariants as w
use Rattle.dm_decode.specs.words.Words.{size_word}
use Rattle.dm_decode.specs.words.StandIns.{is_move, OperandStands, NumberStands}
use Rattle.dm_ins.specs.Walks.{◌>>=◌}
use Rattle.dm_lines.specs.declared.token.Name as Name'
use Rattle.dm_lines.specs.Operands.{amount_word}
use Rattle.dm_lines.specs.declared.term.Amount.{Amount}
use Rattle.dm_lines.specs.declared.term.Amount.TheVariants.{Plus, Minus}
use Rattle.dm_lines.specs.declared.term.Expression.{Expression}
use Rattle.dm_lines.specs.declared.term.Term.TheVariants as term
use Rattle.dm_lines.specs.Placing.{displaced, word_from, standing, low_byte_of, amount_byte, distance_of, number_at, label_at, numeral_from, numeral_at, written_of, number_outline, label_outline, numeral_without, numeral_outline, word_without, word_outline}
use Rattle.dm_lines.specs.Own.{memory_term}
use Rattle.dm_lines.specs.Laws.{AmountFits, OwnTermsAreWritten, OutlinesStand}

memory_written : (m : Mnemonic) (s : Size) (b : Base) (n place next : ℕ) → written_of m (memory_term s b n) place next
    ≡ Some (w.Memory s (record { base = b; displacement = n }))
memory_written m s Direct n place next = refl
memory_written m s _ n place next = refl

pub own_terms_are_written : OwnTermsAreWritten
own_terms_are_written a next place operand.Nothing = refl
own_terms_are_written a next place (operand.ByteRegister r) = refl
own_terms_are_written a next place (operand.WordRegister r) = refl
own_terms_are_written a next place (operand.SegmentRegister r) = refl
own_terms_are_written a next place (operand.Memory v m) =
    memory_written a.mnemonic (size_word a v) m.base m.displacement place next
own_terms_are_written a next place (operand.ByteValue n) = refl
own_terms_are_written a next place (operand.WordValue n) = refl
own_terms_are_written a next place operand.One = refl
own_terms_are_written a next place (operand.Target d) = refl
own_terms_are_written a next place (operand.FarTarget n s) = refl

-- ---- what stands for a value before its label has a place

word_fits : (n : Amount) → AmountFits n → amount_word n < 2 ^ 16
word_fits (Plus n) h = h
word_fits (Minus n) h = omega arith

low_stands : (m : Mnemonic) (n : ℕ) → IfSome (low_byte_of n) (λ b. (n % 64 < 2 ^ 8) ×
    (is_move m ≡ false → n % 64 ≡ b % 64))
low_stands m n = by (nat_lt n 256)
  where
    by : (z : Bool) → IfSome (if z then Some n else None) (λ b. (n % 64 < 2 ^ 8) ×
        (is_move m ≡ false → n % 64 ≡ b % 64))
    by true = (omega arith, λ _. refl)
    by false = tt

byte_stands : (m : Mnemonic) (n : Amount) → IfSome (amount_byte n) (λ b. (amount_word n % 64 < 2 ^ 8) ×
    (is_move m ≡ false → amount_word n % 64 ≡ b % 64))
byte_stands m (Plus n) = low_stands m n
byte_stands m (Minus n) = by (nat_le n 128) refl
  where
    by : (z : Bool) → nat_le n 128 ≡ z → IfSome (if z then Some ((256 - n) % 256) else
        None) (λ b. (((65536 - n) % 65536) % 64 < 2 ^ 8) × (is_move m ≡ false → ((65536 - n) % 65536) % 64 ≡ b % 64))
    by true e = (omega arith, λ _. (let h : n ≤ 128 = search (rules, e) in omega arith))
    by false e = tt

number_stands : (m : Mnemonic) (n : Amount) (next : ℕ) → AmountFits n →
    NumberStands m (number_outline n) (number_at n next)
number_stands m n next h = record {
  byte = byte_stands m n;
  word = (word_fits n h, λ _. refl);
  distance = refl;
  is_one = refl;
}

label_stands : (m : Mnemonic) (target next : ℕ) → NumberStands m (label_outline m) (label_at m target next)
label_stands m target next = by (is_move m) refl
  where
    low : (z : Bool) → is_move m ≡ true → IfSome (if z then Some target else None) (λ b. (0 < 2 ^ 8) ×
        (is_move m ≡ false → 0 ≡ b % 64))
    low true e = (omega arith, λ f. absurd cc)
    low false e = tt

    by : (b : Bool) → b ≡ is_move m → NumberStands m
        (if b then record { byte = Some 0; word = Some 0; distance = 0; is_one = false } else
        record { byte = None; word = None; distance = 0; is_one = false })
        (if b then record {
          byte = low_byte_of target;
          word = Some target;
          distance = distance_of target next;
          is_one = false;
        } else record {
          byte = None;
          word = None;
          distance = distance_of target next;
          is_one = false;
        })
    by true e = record {
      byte = low (nat_lt target 256) (sym e);
      word = (omega arith, λ f. absurd cc);
      distance = refl;
      is_one = refl;
    }
    by false e = record { byte = tt; word = tt; distance = refl; is_one = refl }

standing_number : (m : Mnemonic) (v : Expression) (place next : ℕ) (x : Written) → AmountFits v.amount →
    (numeral_at m v place next >>= λ n. Some (w.Number n)) ≡ Some x → OperandStands m (w.Number (numeral_outline m v)) x
standing_number m v place next x h = by v.label
  where
    moved_to : (l : Name'.Name) (o : Option ℕ) → ((o >>= λ target. Some (label_at m target next)) >>= λ n. Some
        (w.Number n)) ≡ Some x → OperandStands m (w.Number (label_outline m)) x
    moved_to l None e = absurd cc
    moved_to l (Some target) e = let k : w.Number (label_at m target next) ≡ x =
        cc in subst (λ (z : Written). OperandStands m (w.Number (label_outline m)) z) k (label_stands m target next)

    by : (l : Option Name'.Name) → (numeral_from m l v.amount place next >>= λ n. Some (w.Number n)) ≡ Some x →
        OperandStands m (w.Number (numeral_without m l v.amount)) x
    by None e = let k : w.Number (number_at v.amount next) ≡ x = cc in
        subst (λ (z : Written). OperandStands m (w.Number (number_outline v.amount)) z) k
        (number_stands m v.amount next h)
    by (Some l) e = moved_to l (displaced v.amount place) e

standing_address : (m : Mnemonic) (s : Size) (v : Expression) (place : ℕ) (x : Written) → AmountFits v.amount →
    (standing v place >>= λ d. Some (w.Memory s (record { base = Direct; displacement = d }))) ≡ Some x →
    OperandStands m (w.Memory s (record { base = Direct; displacement = word_outline v })) x
standing_address m s v place x h = by v.label
  where
    at : ℕ → Written
    at d = w.Memory s (record { base = Direct; displacement = d })

    moved_to : (o : Option ℕ) → (o >>= λ d. Some (w.Memory s (record { base = Direct; displacement = d }))) ≡ Some x →
        OperandStands m (w.Memory s (record { base = Direct; displacement = 0 })) x
    moved_to None e = absurd cc
    moved_to (Some d) e = let k : w.Memory s (record { base = Direct; displacement = d }) ≡ x =
        cc in subst (λ (z : Written). OperandStands m (w.Memory s (record { base = Direct; displacement = 0 })) z) k
        (refl, record { base = refl; displacement = λ f. absurd cc; fits = omega arith })

    by : (l : Option Name'.Name) → (word_from l v.amount place >>= λ d. Some (w.Memory s (record {
      base = Direct;
      displacement = d;
    }))) ≡ Some x → OperandStands m (w.Memory s (record {
      base = Direct;
      displacement = word_without l v.amount;
    })) x
    by None e = let k : w.Memory s (record { base = Direct; displacement = amount_word v.amount }) ≡ x =
        cc in subst (λ (z : Written). OperandStands m (w.Memory s (record {
          base = Direct;
          displacement = amount_word v.amount;
        })) z) k (
          refl,
          record {
            base = refl;
            displacement = λ _. refl;
            fits = word_fits v.amount h;
          },
        )
    by (Some l) e = moved_to (displaced v.amount place) e

pub outlines_stand : OutlinesStand
outlines_stand m term.Nothing place next x h e = let k : w.Nothing ≡ x =
    cc in subst (λ (z : Written). OperandStands m w.Nothing z) k refl
outlines_stand m (term.ByteRegister r) place next x h e = let k : w.ByteRegister r ≡ x =
    cc in subst (λ (z : Written). OperandStands m (w.ByteRegister r) z) k refl
outlines_stand m (term.WordRegister r) place next x h e = let k : w.WordRegister r ≡ x =
    cc in subst (λ (z : Written). OperandStands m (w.WordRegister r) z) k refl
outlines_stand m (term.SegmentRegister r) place next x h e = let k : w.SegmentRegister r ≡ x =
    cc in subst (λ (z : Written). OperandStands m (w.SegmentRegister r) z) k refl
outlines_stand m (term.Memory s b n) place next x h e =
    let k : w.Memory s (record { base = b; displacement = amount_word n }) ≡ x = cc in
    subst (λ (z : Written). OperandStands m (w.Memory s (record { base = b; displacement = amount_word n })) z) k (
      refl,
      record { base = refl; displacement = λ _. refl; fits = word_fits n h },
    )
outlines_stand m (term.Address s v) place next x h e = standing_address m s v place x h e
outlines_stand m (term.Number v) place next x h e = standing_number m v place next x h e
outlines_stand m (term.Far s o) place next x h e = let k : w.Far s o ≡ x =
    cc in subst (λ (z : Written). OperandStands m (w.Far s o) z) k refl
