-- The kept prefixes and the least template's bytes are the least spelling.
use Rattle.std.proofs.Common.{◌≡◌, ℕ, ◌^◌, ◌<◌, ◌≤◌, Bool, true, false, List, ◌++◌, length, Option, Some, None, refl, sym, subst, arith, inl, inr}
use Rattle.std.specs.Prelude.{map, IfSome, IsSomeAnd}
use Rattle.std.proofs.lemmas.Bool.{cases_lt, lt-ltb, le-ltb}
use Rattle.dm_ins.specs.declared.operand.Width.{Width}
use Rattle.dm_ins.specs.declared.operand.Width.TheVariants.{Byte, Word}
use Rattle.dm_ins.specs.declared.operand.SegmentRegister.{SegmentRegister}
use Rattle.dm_ins.specs.declared.prefix.Repeat.{Repeat}
use Rattle.dm_ins.specs.declared.prefix.Prefixes.{Prefixes}
use Rattle.dm_ins.specs.declared.operand.Address.{Address}
use Rattle.dm_ins.specs.declared.fields.Fields.{Fields}
use Rattle.dm_ins.specs.declared.action.Action.{Action}
use Rattle.std.proofs.Math.Logic.{∥∥₁_elim}
use Rattle.dm_ins.specs.declared.operand.Operand.{Operand}
use Rattle.dm_ins.specs.declared.keys.Key.{Key}
use Rattle.dm_ins.specs.declared.table.OperandKind.{OperandKind}
use Rattle.dm_ins.specs.declared.table.OperandKind.TheVariants as is
use Rattle.dm_ins.specs.declared.table.Template.{Template}
use Rattle.dm_ins.specs.declared.table.OpcodeEntry.{OpcodeEntry}
use Rattle.dm_ins.specs.declared.table.OpcodeEntry.TheVariants.{Unlisted, Plain, Group, Second}
use Rattle.dm_ins.specs.Table.{entry_of}
use Rattle.dm_ins.specs.Spelling.{sign_extended, SpellsMemory, Fills, has_fields, MaySpellFields, HasTemplate, SpellsAction, prefix_byte, no_prefix, kept, SpellsPrefixed, register, at_place}
use Rattle.dm_ins.specs.Order.{before}
use Rattle.dm_ins.specs.inner.Search.{OperandFits, IsLeast, CandidateAt, prefix_list, segment_list, lock_list, repeat_list}
use Rattle.dm_ins.proofs.Order.{not_longer, not_shorter, not_before_append}
use Rattle.dm_ins.proofs.KeptPrefixes.{prefixes_least}
use Rattle.dm_ins.proofs.Demands.{AtMost}
use Rattle.dm_ins.proofs.Least.{action_least, template_fits}
use Rattle.dm_ins.proofs.Templates.{action_sound}
use Rattle.dm_ins.proofs.NoneLeftOut.{choice_fits, none_left_out}

-- ---- what is spelled has numbers that fit

abbrev MemoryFits : Option Address → Type 0
MemoryFits o = IfSome o (λ a. a.displacement < 2 ^ 16)

extended_fits : (n : ℕ) → n < 2 ^ 8 → sign_extended n < 2 ^ 16
extended_fits n h = elim (cases_lt n 128) [
  | inl lt ↦ rw (lt-ltb n 128 lt) (omega arith)
  | inr le ↦
      rw (le-ltb n 128 le) (omega arith)
]

memory_fits : (a : Option Address) (mode rm : ℕ) (d : List ℕ) → SpellsMemory a mode rm d → MemoryFits a
memory_fits a mode rm d (inl h) = rw h.4 h.3
memory_fits a mode rm d (inr (inl h)) = rw h.2 (omega arith)
memory_fits a mode rm d (inr (inr (inl h))) = rw h.3 (extended_fits h.1 h.2)
memory_fits a mode rm d (inr (inr (inr (inl h)))) = rw h.3 h.2
memory_fits a mode rm d (inr (inr (inr (inr h)))) = rw h.1 tt

fields_fit : (e : OpcodeEntry) (m : Fields) (d : List ℕ) (r : Template) → HasTemplate e m d r → MemoryFits m.memory
fields_fit Unlisted m d r h = absurd h
fields_fit (Plain p) m d r h = by (has_fields p) h.1
  where
    by : (f : Bool) → MaySpellFields f m d → MemoryFits m.memory
    by true s = memory_fits m.memory s.mode m.rm s.displacement s.spells_memory
    by false s = rw s.0 tt
fields_fit (Group g) m d r h = memory_fits m.memory h.1.mode m.rm h.1.displacement h.1.spells_memory
fields_fit (Second c p) m d r h = rw h.1 tt

register_fits : (w : Width) (n : ℕ) → OperandFits (register w n)
register_fits Byte n = tt
register_fits Word n = tt

at_place_fits : (w : Width) (n : ℕ) (a : Option Address) → MemoryFits a → OperandFits (at_place w n a)
at_place_fits w n None f = register_fits w n
at_place_fits w n (Some a) f = f

operand_fits : (k : OperandKind) (m : Fields) (o : Operand) (d : List ℕ) → m.register < 8 → MemoryFits m.memory →
    Fills k m o d → OperandFits o
operand_fits is.Nothing m o d lt f h = rw h.0 tt
operand_fits (is.RegisterOrMemory w) m o d lt f h = rw h.0 (at_place_fits w m.rm m.memory f)
operand_fits (is.Register w) m o d lt f h = rw h.0 (register_fits w m.register)
operand_fits is.Memory m o d lt f h = rw h.2 (let g : MemoryFits (Some h.0) = subst MemoryFits h.1 f in g)
operand_fits is.ByteValue m o d lt f h = rw h.2 h.1
operand_fits is.WordValue m o d lt f h = rw h.2 h.1
operand_fits is.SignedValue m o d lt f h = rw h.2 (extended_fits h.0 h.1)
operand_fits is.Short m o d lt f h = rw h.2 (extended_fits h.0 h.1)
operand_fits is.Near m o d lt f h = rw h.2 h.1
operand_fits (is.Direct w) m o d lt f h = rw h.2 h.1
operand_fits is.Far m o d lt f h = rw h.4 (h.2, h.3)
operand_fits (is.Escape r) m o d lt f h = rw h.0 (omega arith)
operand_fits (is.Byte r) m o d lt f h = rw h.0 tt
operand_fits (is.Word r) m o d lt f h = rw h.0 tt
operand_fits (is.TheSegment r) m o d lt f h = rw h.0 tt
operand_fits is.One m o d lt f h = rw h.0 tt

-- the numbers of an instruction of the table fit their types
pub action_fits : (a : Action) (d : List ℕ) → SpellsAction a d → OperandFits a.first × OperandFits a.second
action_fits a d h =
    let r = template_fits (entry_of h.first_byte) h.fields h.behind h.template h.has_template in
    let f = fields_fit (entry_of h.first_byte) h.fields h.behind h.template h.has_template in (
      operand_fits h.template.first h.fields a.first h.first_part r.0 f h.first,
      operand_fits h.template.second h.fields a.second h.second_part r.0 f h.second,
    )

-- ---- the least spelling

kept_by : (s : Option SegmentRegister) (l : Bool) (r : Option Repeat) → kept no_prefix (segment_list s ++ lock_list l
    ++ repeat_list r) ≡ record { segment = s; lock = l; repeat = r }
kept_by None false None = refl
kept_by None false (Some r) = refl
kept_by None true None = refl
kept_by None true (Some r) = refl
kept_by (Some s) false None = refl
kept_by (Some s) false (Some r) = refl
kept_by (Some s) true None = refl
kept_by (Some s) true (Some r) = refl

few_by : (s : Option SegmentRegister) (l : Bool) (r : Option Repeat) → length (segment_list s ++ lock_list l
    ++ repeat_list r) ≤ 4
few_by None false None = omega arith
few_by None false (Some r) = omega arith
few_by None true None = omega arith
few_by None true (Some r) = omega arith
few_by (Some s) false None = omega arith
few_by (Some s) false (Some r) = omega arith
few_by (Some s) true None = omega arith
few_by (Some s) true (Some r) = omega arith

-- the candidate that has the same bytes as a spelling, or fewer
record Candidate (a : Action) (d : List ℕ) : Type 0 where
  b : ℕ
  g : ℕ
  bytes : List ℕ
  is_candidate : CandidateAt b g a bytes
  least : AtMost bytes d

candidate_of : (a : Action) (d : List ℕ) → SpellsAction a d → Candidate a d
candidate_of a d s =
    let l = action_least a d s in
    let f = action_fits a d s in
    record {
      b = l.b;
      g = l.g;
      bytes = l.c;
      least = l.least;
      is_candidate = record {
        choice = l.choice;
        is_choice = l.is_choice;
        mnemonic = l.mnemonic;
        is_bytes = l.is_bytes;
        first_fits = f.0;
        second_fits = f.1;
      };
    }

-- the least bytes are no more than those of any template
covers : (a : Action) (o : Option (List ℕ)) (b g : ℕ) (c : List ℕ) → IsLeast a o → CandidateAt b g a c →
    IsSomeAnd o (λ v. before c v ≡ false)
covers a o b g c best h =
    let s = none_left_out a.mnemonic b g h.choice h.is_choice h.mnemonic in
    best.least s.place c s.within (subst (λ (k : Key). CandidateAt k.opcode k.register a c) (sym s.is) h)

candidate_not_before : (a : Action) (c d : List ℕ) → IsLeast a (Some c) → SpellsAction a d → before d c ≡ false
candidate_not_before a c d best s =
    let k = candidate_of a d s in
    by k.bytes (covers a (Some c) k.b k.g k.bytes best k.is_candidate) k.least
  where
    by : (x : List ℕ) → before x c ≡ false → AtMost x d → before d c ≡ false
    by x f (inl e) = rw (← e) f
    by x f (inr lt) = not_shorter c d (omega (arith, not_longer c x f))

pub encode_least : (p : Prefixes) (a : Action) (c b : List ℕ) → IsLeast a (Some c) → SpellsPrefixed p a b →
    before b (map prefix_byte (prefix_list p) ++ c) ≡ false
encode_least p a c b best s =
    let q : before (map prefix_byte s.prefixes) (map prefix_byte (prefix_list p)) ≡ false =
    rw s.keeps (prefixes_least s.prefixes s.few) in
    rw s.parts (not_before_append (map prefix_byte s.prefixes) (map prefix_byte (prefix_list p)) s.rest c q
    (candidate_not_before a c s.rest best s.action))

pub best_spells : (a : Action) (c : List ℕ) → IsLeast a (Some c) → SpellsAction a c
best_spells a c best = let h = best.found.2 in action_sound best.found.0 best.found.1 a c
    (choice_fits (entry_of best.found.0) best.found.0 best.found.1 h.choice h.is_choice) h

pub encode_spells : (p : Prefixes) (a : Action) (c : List ℕ) → IsLeast a (Some c) →
    SpellsPrefixed p a (map prefix_byte (prefix_list p) ++ c)
encode_spells p a c best = record {
  prefixes = prefix_list p;
  rest = c;
  few = few_by p.segment p.lock p.repeat;
  keeps = sym (kept_by p.segment p.lock p.repeat);
  action = best_spells a c best;
  parts = refl;
}

pub none_best : (a : Action) (d : List ℕ) → IsLeast a None → SpellsAction a d → ⊥
none_best a d best s = let k = candidate_of a d s in covers a None k.b k.g k.bytes best k.is_candidate

-- an action that some bytes spell has a least candidate
pub no_best : (a : Action) → ∥ ((bytes : List ℕ) × SpellsAction a bytes) ∥₁ → IsLeast a None → ⊥
no_best a h best =
    let none : ((bytes : List ℕ) × SpellsAction a bytes) → ⊥ = λ s. none_best a s.0 best s.1 in
    let one : IsProp ⊥ = hlevel in
    ∥∥₁_elim h one none
