-- The bytes CDh and n begin with the instruction INT n, which reads its vector.
use Rattle.std.proofs.Common.{◌≡◌, ℕ, suc, zero, ◌*◌, ◌/◌, ◌%◌, ◌<◌, ◌≤◌, ◌^◌, Bool, true, false, List, [], ◌∷◌, ◌++◌, take, map, Option, Some, refl, sym, ◌∙◌, ap, subst, arith}
use Rattle.std.specs.Prelude.{◌==◌, ◌&&◌}
use Rattle.std.proofs.lemmas.Bool.{eqb-true}
use Rattle.std.proofs.lemmas.Bool.Decides.{nat_tests}
use Rattle.dm_space.specs.Memory.{linear}
use Rattle.dm_space.specs.EightBytes.{byte_after, sixteen_after}
use Rattle.dm_ins.specs.Ins.{BeginsWith}
use Rattle.dm_ins.specs.declared.ins.Ins.{Ins}
use Rattle.dm_ins.specs.declared.action.Action.{Action}
use Rattle.dm_ins.specs.declared.action.Mnemonic.{Mnemonic}
use Rattle.dm_ins.specs.declared.action.Mnemonic.TheVariants as op
use Rattle.dm_ins.specs.declared.operand.Operand.{Operand}
use Rattle.dm_ins.specs.declared.operand.Operand.TheVariants as operand
use Rattle.dm_ins.specs.declared.operand.SegmentRegister.TheVariants.{Es, Cs, Ss, Ds}
use Rattle.dm_ins.specs.declared.prefix.Prefix.{Prefix}
use Rattle.dm_ins.specs.declared.prefix.Prefix.TheVariants as prefix
use Rattle.dm_ins.specs.declared.prefix.Prefixes.{Prefixes}
use Rattle.dm_ins.specs.declared.prefix.Repeat.TheVariants.{NotEqual, Equal}
use Rattle.dm_ins.specs.declared.table.OpcodeEntry.{OpcodeEntry}
use Rattle.dm_ins.specs.declared.table.OpcodeEntry.TheVariants.{Plain}
use Rattle.dm_ins.specs.declared.table.Template.{Template}
use Rattle.dm_ins.specs.declared.table.OperandKind.TheVariants as is
use Rattle.dm_ins.specs.Table.{entry_of, template}
use Rattle.dm_ins.specs.Spelling.{prefix_byte, HasTemplate, Fills, SpellsAction}
use Rattle.dm_cpu.specs.Guest.{Guest, guest, at_ip, up}
use Rattle.dm_cpu.specs.Operands.{value_of}
use Rattle.dm_touches.specs.declared.access.Access.{Access}
use Rattle.dm_touches.specs.declared.access.Access.TheVariants.{Interrupt}
use Rattle.dm_touches.specs.declared.elements.Element.{Element}
use Rattle.dm_touches.specs.declared.elements.Element.TheVariants.{Word}
use Rattle.dm_touches.specs.declared.elements.Elements.{Elements}
use Rattle.dm_touches.specs.Access.{access_of}
use Rattle.dm_touches.specs.Elements.{far, linear_of}
use Rattle.dm_touches.specs.Touches.{reads, reads_by, writes}
use Rattle.dm_touches.specs.quiet.Marks.{level_at, lies_below, satisfies, satisfy, IsQuiet}
use Rattle.dm_services.specs.state.State.{State}
use Rattle.dm_machine.specs.Step.{fetched}
use Rattle.dm_debug.specs.stops.Events.{calls}
use Rattle.dm_debug.proofs.stops.Nearing.{and_left, and_right}

-- the action is INT n
pub record IsInt (a : Action) (n : ℕ) : Type 0 where
  pub mnemonic : a.mnemonic ≡ op.Int
  pub number : a.first ≡ operand.ByteValue n
  pub fits : n < 256

entry_int : entry_of 0xCD ≡ Plain (template op.Int is.ByteValue is.Nothing)
unfolding entry_of
entry_int = refl

head_of : ℕ → List ℕ → ℕ
head_of d [] = d
head_of d (x ∷ xs) = x

tail_of : List ℕ → List ℕ
tail_of [] = []
tail_of (x ∷ xs) = xs

same_head : (x y : ℕ) (xs ys : List ℕ) → x ∷ xs ≡ y ∷ ys → x ≡ y
unfolding head_of
same_head x y xs ys e = ap (head_of 0) e

same_tail : (x y : ℕ) (xs ys : List ℕ) → x ∷ xs ≡ y ∷ ys → xs ≡ ys
unfolding tail_of
same_tail x y xs ys e = ap tail_of e

no_prefix_byte : (p : Prefix) → 0xCD ≡ prefix_byte p → ⊥
no_prefix_byte (prefix.Segment Es) e = omega (arith, e)
no_prefix_byte (prefix.Segment Cs) e = omega (arith, e)
no_prefix_byte (prefix.Segment Ss) e = omega (arith, e)
no_prefix_byte (prefix.Segment Ds) e = omega (arith, e)
no_prefix_byte prefix.Lock e = omega (arith, e)
no_prefix_byte (prefix.Repeat NotEqual) e = omega (arith, e)
no_prefix_byte (prefix.Repeat Equal) e = omega (arith, e)

number_is : (a : Action) (k m n : ℕ) (rest second : List ℕ) → a.mnemonic ≡ op.Int → a.first ≡ operand.ByteValue m →
    m < 2 ^ 8 → take k (n ∷ rest) ≡ m ∷ second → IsInt a n
number_is a zero m n rest second mn first fits e = (let nothing : [] ≡ m ∷ second = e in cc)
number_is a (suc k) m n rest second mn first fits e =
    let same : n ≡ m = same_head n m (take k rest) second e in
    record { mnemonic = mn; number = first ∙ ap operand.ByteValue (sym same); fits = omega (arith, same, fits) }

action_is : (a : Action) (k n : ℕ) (rest body : List ℕ) → SpellsAction a body → 0xCD ∷ take k (n ∷ rest) ≡ body →
    IsInt a n
action_is a k n rest body x e =
    let whole : 0xCD ∷ take k (n ∷ rest) ≡ x.first_byte ∷ x.behind ++ (x.first_part ++ x.second_part) = e ∙ x.parts in
    let first_byte : 0xCD ≡ x.first_byte = same_head 0xCD x.first_byte (take k (n ∷ rest)) (x.behind
    ++ (x.first_part ++ x.second_part)) whole in
    let others : take k (n ∷ rest) ≡ x.behind ++ (x.first_part ++ x.second_part) =
    same_tail 0xCD x.first_byte (take k (n ∷ rest)) (x.behind ++ (x.first_part ++ x.second_part)) whole in
    let entry : entry_of x.first_byte ≡ Plain (template op.Int is.ByteValue is.Nothing) = ap entry_of (sym first_byte)
    ∙ entry_int in
    let has : HasTemplate (Plain (template op.Int is.ByteValue is.Nothing)) x.fields x.behind x.template =
    subst (λ (o : OpcodeEntry). HasTemplate o x.fields x.behind x.template) entry x.has_template in
    let fills : Fills is.ByteValue x.fields a.first x.first_part =
    subst (λ (r : Template). Fills r.first x.fields a.first x.first_part) has.0 x.first in
    let none : x.behind ≡ [] = has.1.1 in
    let part : x.first_part ≡ fills.0 ∷ [] = fills.3 in
    number_is a k fills.0 n rest x.second_part (x.mnemonic ∙ ap (λ (r : Template). r.mnemonic) has.0) fills.2 fills.1
    (others ∙ ap (λ (d : List ℕ). d ++ (x.first_part ++ x.second_part)) none ∙ ap (λ (d : List ℕ). d
    ++ x.second_part) part)

spelled_by : (a : Action) (k n : ℕ) (rest : List ℕ) (ps : List Prefix) (body : List ℕ) → SpellsAction a body →
    take k (0xCD ∷ n ∷ rest) ≡ map prefix_byte ps ++ body → IsInt a n
spelled_by a zero n rest [] body x e = (let nothing : [] ≡ x.first_byte ∷ x.behind ++ (x.first_part ++ x.second_part) =
    e ∙ x.parts in cc)
spelled_by a zero n rest (p ∷ ps) body x e = (let nothing : [] ≡ prefix_byte p ∷ (map prefix_byte ps ++ body) = e in cc)
spelled_by a (suc k) n rest [] body x e = action_is a k n rest body x e
spelled_by a (suc k) n rest (p ∷ ps) body x e =
    absurd (no_prefix_byte p (same_head 0xCD (prefix_byte p) (take k (n ∷ rest)) (map prefix_byte ps ++ body) e))

-- bytes that begin with CDh and n begin with INT n alone
int_of : (i : Ins) (k n : ℕ) (rest : List ℕ) → BeginsWith (0xCD ∷ n ∷ rest) i k → IsInt i.action n
int_of i k n rest b = spelled_by i.action k n rest b.spells.prefixes b.spells.rest b.spells.action b.spells.parts

-- ---- what INT n reads

reads_vector : (g : Guest) (p : Prefixes) (n : ℕ) (second : Operand) →
    (reads_by g p Interrupt (operand.ByteValue n) second).second ≡ Some (Word 0 (4 * (n % 256)))
unfolding reads_by value_of
reads_vector g p n second = refl

access_int : access_of op.Int ≡ Interrupt
unfolding access_of
access_int = refl

int_reads : (g : Guest) (i : Ins) (k n : ℕ) → IsInt i.action n → (reads g i k).second ≡ Some (Word 0 (4 * (n % 256)))
unfolding reads
int_reads g i k n x =
    let h = at_ip g (up g.cpu.ip k) in
    ap (λ (m : Mnemonic). (reads_by h i.prefixes (access_of m) i.action.first i.action.second).second) x.mnemonic
    ∙ ap (λ (y : Access). (reads_by h i.prefixes y i.action.first i.action.second).second) access_int
    ∙ ap (λ (o : Operand). (reads_by h i.prefixes Interrupt o i.action.second).second) x.number
    ∙ reads_vector h i.prefixes n i.action.second

-- ---- a quiet instruction is no INT whose vector is marked

vector_at : (a20 : Bool) (n : ℕ) → n < 256 → linear a20 0 (4 * (n % 256)) / 16 ≡ n / 4
vector_at true n small = omega (arith, small)
vector_at false n small = omega (arith, small)

passes_second : (p : ℕ → Bool) (a20 : Bool) (e : Elements) → satisfy p a20 e ≡ true → satisfies p a20 e.second ≡ true
passes_second p a20 e t = and_right (satisfies p a20 e.first) (satisfies p a20 e.second)
    (and_left (satisfies p a20 e.first && satisfies p a20 e.second) (satisfies p a20 e.third) t)

below_two : (ms : List ℕ) (a : ℕ) → lies_below ms 2 a ≡ true → level_at ms (a / 16) < 2
below_two ms a e = grind (arith, nat_tests)

no_int : (ms : List ℕ) (t : State) (i : Ins) (k n : ℕ) → IsInt i.action n →
    IsQuiet ms t.memory.a20 (reads (guest t.cpu t.memory) i k) (writes (guest t.cpu t.memory) i k) →
    2 ≤ level_at ms (n / 4) → ⊥
no_int ms t i k n x q marked =
    let g = guest t.cpu t.memory in
    let a20 = t.memory.a20 in
    let address = linear a20 0 (4 * (n % 256)) in
    let second : satisfies (lies_below ms 2) a20 (reads g i k).second ≡ true =
    passes_second (lies_below ms 2) a20 (reads g i k) q.reads in
    let vector : satisfies (lies_below ms 2) a20 (Some (Word 0 (4 * (n % 256)))) ≡ true =
    subst (λ (o : Option Element). satisfies (lies_below ms 2) a20 o ≡ true) (int_reads g i k n x) second in
    let first : lies_below ms 2 address ≡ true = and_left (lies_below ms 2 address)
    (lies_below ms 2 (linear_of a20 (far 0 (up (4 * (n % 256)) 1)))) vector in
    let less : level_at ms (address / 16) < 2 = below_two ms address first in
    let at : address / 16 ≡ n / 4 = vector_at a20 n x.fits in
    let there : level_at ms (address / 16) ≡ level_at ms (n / 4) = ap (level_at ms) at in
    omega (arith, less, there, marked)

-- the bytes at CS:IP where a call is next
fetched_call : (t : State) (n : ℕ) → calls t n ≡ true → (rest : List ℕ) × (fetched t.memory t.cpu ≡ 0xCD ∷ n ∷ rest)
unfolding sixteen_after
fetched_call t n e =
    let m = t.memory in
    let b = byte_after m t.cpu.cs t.cpu.ip in
    let first : b 0 ≡ 0xCD = eqb-true (b 0) 0xCD (and_left (b 0 == 0xCD) (b 1 == n) e) in
    let second : b 1 ≡ n = eqb-true (b 1) n (and_right (b 0 == 0xCD) (b 1 == n) e) in
    let rest : List ℕ = map b (2 ∷ 3 ∷ 4 ∷ 5 ∷ 6 ∷ 7 ∷ 8 ∷ 9 ∷ 10 ∷ 11 ∷ 12 ∷ 13 ∷ 14 ∷ 15 ∷ []) in
    (rest, ap (λ (x : ℕ). x ∷ b 1 ∷ rest) first ∙ ap (λ (x : ℕ). 0xCD ∷ x ∷ rest) second)

calls_by : (ms : List ℕ) (t : State) (i : Ins) (k n : ℕ) (c : Bool) → calls t n ≡ c →
    BeginsWith (fetched t.memory t.cpu) i k
    → IsQuiet ms t.memory.a20 (reads (guest t.cpu t.memory) i k) (writes (guest t.cpu t.memory) i k) →
    2 ≤ level_at ms (n / 4) → c ≡ false
calls_by ms t i k n false e b q marked = refl
calls_by ms t i k n true e b q marked =
    let bytes = fetched_call t n e in
    absurd (no_int ms t i k n (int_of i k n bytes.0 (subst (λ (x : List ℕ). BeginsWith x i k) bytes.1 b)) q marked)

-- where a quiet instruction is next, no call is whose vector is marked
pub no_call : (ms : List ℕ) (t : State) (i : Ins) (k n : ℕ) → BeginsWith (fetched t.memory t.cpu) i k
    → IsQuiet ms t.memory.a20 (reads (guest t.cpu t.memory) i k) (writes (guest t.cpu t.memory) i k) →
    2 ≤ level_at ms (n / 4) → calls t n ≡ false
no_call ms t i k n b q marked = calls_by ms t i k n (calls t n) refl b q marked
