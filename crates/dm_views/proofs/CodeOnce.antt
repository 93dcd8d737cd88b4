-- Instructions and registers have one text.
use Rattle.std.proofs.Common.{◌≡◌, ℕ, zero, suc, ◌+◌, ◌≤◌, List, [], ◌++◌, length, take, drop, inl, inr, refl, sym, ◌∙◌, ap, subst, arith}
use Rattle.std.proofs.lemmas.Bool.{cases_lt}
use Rattle.std.proofs.lemmas.List.{take-append-drop, length-take, take-take}
use Rattle.dm_space.specs.Memory.{Memory}
use Rattle.dm_space.specs.EightBytes.{sixteen_after}
use Rattle.dm_ins.specs.declared.ins.Ins.{Ins}
use Rattle.dm_ins.specs.Ins.{BeginsWith}
use Rattle.dm_decode.proofs.Exact.{no_front}
use Rattle.dm_cpu.specs.declared.cpu.Cpu.{Cpu}
use Rattle.dm_cpu.specs.Guest.{up}
use Rattle.dm_views.specs.Code.{instruction_line, IsLine, listed, unlisted, AreLines, none, more, IsCode}
use Rattle.dm_views.specs.Registers.{fields_text, general, special, IsRegistersText}

-- ---- one instruction stands at an address

length_sixteen : (m : Memory) (s o : ℕ) → length (sixteen_after m s o) ≡ 16
unfolding sixteen_after
length_sixteen m s o = refl

record Same (i j : Ins) (k l : ℕ) : Type 0 where
  instruction : i ≡ j
  size : k ≡ l

same_before : (bytes : List ℕ) (m : Memory) (s o : ℕ) (i j : Ins) (k l : ℕ) → bytes ≡ sixteen_after m s o → k ≤ l →
    BeginsWith (sixteen_after m s o) i k → BeginsWith (sixteen_after m s o) j l → Same i j k l
same_before bytes m s o i j k l e h b c =
    let long : length (sixteen_after m s o) ≡ 16 = length_sixteen m s o in
    let short = b.short in
    let other = c.short in
    let front : take l (sixteen_after m s o) ≡ take k (sixteen_after m s o) ++ drop k (take l (sixteen_after m s o))
    = sym (take-append-drop k (take l (sixteen_after m s o))) ∙ ap (λ (xs : List ℕ). xs
    ++ drop k (take l (sixteen_after m s o))) (take-take k l (sixteen_after m s o) h) in
    let both = no_front i j (take k (sixteen_after m s o)) (take l (sixteen_after m s o))
    (drop k (take l (sixteen_after m s o))) b.spells c.spells front in
    let lengths : length (take k (sixteen_after m s o)) ≡ length (take l (sixteen_after m s o)) = ap length both.0 in
    record {
      instruction = both.1;
      size = omega (
        arith,
        length-take k (sixteen_after m s o),
        length-take l (sixteen_after m s o),
      );
    }

stands_once : (m : Memory) (s o : ℕ) (i j : Ins) (k l : ℕ) → BeginsWith (sixteen_after m s o) i k →
    BeginsWith (sixteen_after m s o) j l → Same i j k l
stands_once m s o i j k l b c = elim (cases_lt k l) [
  | inl low ↦ same_before (sixteen_after m s o) m s o i j k l refl (omega arith) b c
  | inr high ↦ let e = same_before (sixteen_after m s o) m s o j i l k refl high c b in
      record { instruction = sym e.instruction; size = sym e.size }
]

-- ---- one line is told

record SameLine (k l : ℕ) (a b : List ℕ) : Type 0 where
  size : k ≡ l
  text : a ≡ b

line_once : (m : Memory) (s o k l : ℕ) (a b : List ℕ) → IsLine m s o k a → IsLine m s o l b → SameLine k l a b
line_once m s o _ _ _ _ (listed i k x) (listed j l y) =
    let e = stands_once m s o i j k l x y in
    record {
      size = e.size;
      text = ap (λ (n : ℕ). instruction_line s o (take n (sixteen_after m s o)) i (up o n)) e.size
          ∙ ap (λ (z : Ins). instruction_line s o (take l (sixteen_after m s o)) z (up o l)) e.instruction;
    }
line_once m s o _ _ _ _ (listed i k x) (unlisted n) = absurd (n i k x)
line_once m s o _ _ _ _ (unlisted n) (listed j l y) = absurd (n j l y)
line_once m s o _ _ _ _ (unlisted n) (unlisted p) = record { size = refl; text = refl }

-- ---- one text

-- the last of some lines
record LastLine (m : Memory) (s o n at : ℕ) (text : List ℕ) : Type 0 where
  before : ℕ
  size : ℕ
  front : List ℕ
  line : List ℕ
  lines : AreLines m s o n before front
  is_line : IsLine m s before size line
  at_is : at ≡ up before size
  text_is : text ≡ front ++ line

last : (m : Memory) (s o k n at : ℕ) (text : List ℕ) → AreLines m s o k at text → k ≡ n + 1 → LastLine m s o n at text
last m s o k n at text none e = absurd (omega arith)
last m s o _ n _ _ (more j before size front line lines is_line) e =
    let same : j ≡ n = omega arith in
    record {
      before = before;
      size = size;
      front = front;
      line = line;
      lines = subst (λ (i : ℕ). AreLines m s o i before front) same lines;
      is_line = is_line;
      at_is = refl;
      text_is = refl;
    }

record None' (o at : ℕ) (text : List ℕ) : Type 0 where
  at_is : at ≡ o
  text_is : text ≡ []

no_lines : (m : Memory) (s o k at : ℕ) (text : List ℕ) → AreLines m s o k at text → k ≡ 0 → None' o at text
no_lines m s o k at text none e = record { at_is = refl; text_is = refl }
no_lines m s o _ _ _ (more j before size front line lines is_line) e = absurd (omega arith)

lines_once : (m : Memory) (s o n at by : ℕ) (a b : List ℕ) → AreLines m s o n at a → AreLines m s o n by b →
    SameLine at by a b
lines_once m s o zero at by a b x y =
    let p = no_lines m s o 0 at a x refl in
    let q = no_lines m s o 0 by b y refl in
    record { size = p.at_is ∙ sym q.at_is; text = p.text_is ∙ sym q.text_is }
lines_once m s o (suc n) at by a b x y =
    let p = last m s o (suc n) n at a x (omega arith) in
    let q = last m s o (suc n) n by b y (omega arith) in
    let front = lines_once m s o n p.before q.before p.front q.front p.lines q.lines in
    let line = line_once m s q.before p.size q.size p.line q.line (subst (λ (z : ℕ). IsLine m s z p.size p.line)
    front.size p.is_line) q.is_line in
    record {
      size = p.at_is ∙ ap (λ (z : ℕ). up z p.size) front.size ∙ ap (up q.before) line.size ∙ sym q.at_is;
      text = p.text_is ∙ ap (λ (z : List ℕ). z ++ p.line) front.text ∙ ap (λ (z : List ℕ). q.front ++ z) line.text
          ∙ sym q.text_is;
    }

pub code_once : (m : Memory) (s o n : ℕ) (a b : List ℕ) → IsCode m s o n a → IsCode m s o n b → a ≡ b
code_once m s o n a b x y = (lines_once m s o n x.0 y.0 a b x.1 y.1).text

pub registers_once : (c : Cpu) (m : Memory) (a b : List ℕ) → IsRegistersText c m a → IsRegistersText c m b → a ≡ b
registers_once c m a b x y =
    x.is ∙ ap (λ (z : List ℕ). fields_text (general c) ++ fields_text (special c)
    ++ z) (line_once m c.cs c.ip x.count y.count x.line y.line x.next y.next).text ∙ sym y.is
