-- Each instruction of the table has preferred bytes, and no others; they are sixteen at most.
use Rattle.std.proofs.Common.{◌≡◌, ℕ, zero, suc, ◌+◌, ◌≤◌, Bool, true, false, List, length, Option, Some, None, IfSome, IfNone, refl, sym, ap, subst, ◌∙◌, arith, inl, inr, nat_lt, length-append}
use Rattle.std.specs.Prelude.{cond}
use Rattle.std.specs.Ordering.{is_lt, is_eq, nat_cmp, ordering_reverse}
use Rattle.std.specs.declared.cmp.Ordering.{Ordering}
use Rattle.std.specs.declared.cmp.Ordering.TheVariants.{Less, Equal, Greater}
use Rattle.std.specs.Cmp.Lexicographic.{slice_cmp, nat_list_cmp_total}
use Rattle.std.proofs.lemmas.List.{length-map}
use Rattle.std.proofs.lemmas.Map.Text.{is_eq-slice_cmp}
use Rattle.std.proofs.lemmas.Slice.Eq.{bytes_eq-Decides}
use denote.Enum.Bare.{sameb, same_true, true_same}
use Rattle.dm_ins.specs.contracts.action.Mnemonic.{the_type}
use Rattle.dm_ins.specs.declared.prefix.Prefixes.{Prefixes}
use Rattle.dm_ins.specs.declared.action.Action.{Action}
use Rattle.dm_ins.specs.declared.fields.Fields.{Fields}
use Rattle.dm_ins.specs.declared.fill.Choice.{Choice}
use Rattle.dm_ins.specs.declared.ins.Ins.{Ins}
use Rattle.dm_ins.specs.declared.operand.Address.{Address}
use Rattle.dm_ins.specs.declared.operand.Operand.{Operand}
use Rattle.dm_ins.specs.declared.table.OpcodeEntry.{OpcodeEntry}
use Rattle.dm_ins.specs.declared.table.OpcodeEntry.TheVariants.{Unlisted, Plain, Group, Second}
use Rattle.dm_ins.specs.declared.keys.Key.{Key}
use Rattle.dm_ins.specs.declared.table.OperandKind.{OperandKind}
use Rattle.dm_ins.specs.declared.table.OperandKind.TheVariants as is
use Rattle.dm_ins.specs.declared.table.Template.{Template}
use Rattle.dm_ins.specs.Table.{entry_of}
use Rattle.dm_ins.specs.Spelling.{SpellsMemory, SpellsFields, Fills, has_fields, MaySpellFields, HasTemplate, SpellsAction, SpellsPrefixed}
use Rattle.dm_ins.specs.Ins.{Spells}
use Rattle.dm_ins.specs.Order.{before}
use Rattle.dm_ins.specs.Preferred.{IsPreferred}
use Rattle.dm_ins.specs.inner.Keys.{keyed, key_at}
use Rattle.dm_ins.specs.inner.Search.{OperandFits, Best, IsLeast, CandidateAt, better_of, bytes_of, choice_at}
use Rattle.dm_ins.proofs.Order.{best_none, best_more, best_at}
use Rattle.dm_ins.proofs.Shortest.{action_fits, encode_least, encode_spells, none_best}

-- ---- there is one at most

neither_less : (r : Ordering) → is_lt r ≡ false → is_lt (ordering_reverse r) ≡ false → is_eq r ≡ true
neither_less Less p q = absurd cc
neither_less Equal p q = refl
neither_less Greater p q = absurd cc

-- the test of `before`, where neither list is shorter
tested : (s t : Bool) (r : Ordering) → cond s true (cond t false (is_lt r)) ≡ false →
    cond t true (cond s false (is_lt (ordering_reverse r))) ≡ false → is_eq r ≡ true
tested true t r p q = absurd cc
tested false true r p q = absurd cc
tested false false r p q = neither_less r p q

neither_before : (a b : List ℕ) → before a b ≡ false → before b a ≡ false → a ≡ b
neither_before a b p q =
    let back : slice_cmp nat_cmp b a ≡ ordering_reverse (slice_cmp nat_cmp a b) = nat_list_cmp_total.antisymm b a in
    let e : is_eq (slice_cmp nat_cmp a b) ≡ true = tested (nat_lt (length a) (length b)) (nat_lt (length b) (length a))
    (slice_cmp nat_cmp a b) p (rw back at q) in
    (bytes_eq-Decides a b).0 (sym (is_eq-slice_cmp a b) ∙ e)

-- what spells an instruction spells another one of the same prefixes and action
carried : (p q : Prefixes) (a b : Action) (bytes : List ℕ) → p ≡ q → a ≡ b → SpellsPrefixed p a bytes →
    SpellsPrefixed q b bytes
carried p q a b bytes e f s = subst (λ (x : Action). SpellsPrefixed q x bytes) f
    (subst (λ (x : Prefixes). SpellsPrefixed x a bytes) e s)

-- instructions of the same prefixes and action have the same preferred bytes
pub preferred_same : (i j : Ins) (x y : List ℕ) → i.prefixes ≡ j.prefixes → i.action ≡ j.action → IsPreferred i x →
    IsPreferred j y → x ≡ y
preferred_same i j x y e f p q =
    neither_before x y (q.least x (carried i.prefixes j.prefixes i.action j.action x e f p.spells))
    (p.least y (carried j.prefixes i.prefixes j.action i.action y (sym e) (sym f) q.spells))

-- ---- there is one

-- the bytes of the template under a first byte and a reg field for an action, if it has any
record Tried (b g : ℕ) (a : Action) : Type 0 where
  bytes : Option (List ℕ)
  found : IfSome bytes (λ v. CandidateAt b g a v)
  none : IfNone bytes ((c : List ℕ) → CandidateAt b g a c → ⊥)

some_choice : (x y : Choice) → Some x ≡ Some y → x ≡ y
some_choice x y e = cc

some_none : {A : Type 0} (r : Option A) (x : A) → r ≡ None → r ≡ Some x → ⊥
some_none r x p q = cc

so_not : (b : Bool) → b ≡ false → b ≡ true → ⊥
so_not b p q = cc

-- a candidate is the one of this choice
of_choice : (b g : ℕ) (a : Action) (x : Choice) (c : List ℕ) → choice_at (entry_of b) b g ≡ Some x →
    (k : CandidateAt b g a c) → k.choice ≡ x
of_choice b g a x c e k = some_choice k.choice x (sym k.is_choice ∙ e)

module _ (b g : ℕ) (a : Action) (first : OperandFits a.first) (second : OperandFits a.second) where
  of_bytes : (x : Choice) → choice_at (entry_of b) b g ≡ Some x → x.template.mnemonic ≡ a.mnemonic →
      (o : Option (List ℕ)) → bytes_of x a.first a.second ≡ o → Tried b g a
  of_bytes x e m None h = record {
    bytes = None;
    found = tt;
    none = λ c k. some_none (bytes_of x a.first a.second) c h (ap (λ (y : Choice). bytes_of y a.first a.second)
        (sym (of_choice b g a x c e k)) ∙ k.is_bytes);
  }
  of_bytes x e m (Some v) h = record {
    bytes = Some v;
    found = record { choice = x; is_choice = e; mnemonic = m; is_bytes = h; first_fits = first; second_fits = second };
    none = tt;
  }

  of_mnemonic : (x : Choice) → choice_at (entry_of b) b g ≡ Some x → (s : Bool) →
      sameb the_type x.template.mnemonic a.mnemonic ≡ s → Tried b g a
  of_mnemonic x e true h = of_bytes x e (same_true the_type tt x.template.mnemonic a.mnemonic h)
      (bytes_of x a.first a.second) refl
  of_mnemonic x e false h = record {
    bytes = None;
    found = tt;
    none = λ c k. so_not (sameb the_type x.template.mnemonic a.mnemonic) h
        (true_same the_type x.template.mnemonic a.mnemonic (ap (λ (y : Choice). y.template.mnemonic)
        (sym (of_choice b g a x c e k)) ∙ k.mnemonic));
  }

  of_template : (o : Option Choice) → choice_at (entry_of b) b g ≡ o → Tried b g a
  of_template None h = record {
    bytes = None;
    found = tt;
    none = λ c k. some_none (choice_at (entry_of b) b g) k.choice h k.is_choice;
  }
  of_template (Some x) h = of_mnemonic x h (sameb the_type x.template.mnemonic a.mnemonic) refl

  tried : Tried b g a
  tried = of_template (choice_at (entry_of b) b g) refl

record HasBest (n : ℕ) (ks : List Key) (a : Action) : Type 0 where
  bytes : Option (List ℕ)
  best : Best n ks a bytes

has_best : (n : ℕ) (ks : List Key) (a : Action) → OperandFits a.first → OperandFits a.second → HasBest n ks a
has_best zero ks a first second = record { bytes = None; best = best_none ks a }
has_best (suc n) ks a first second =
    let y = has_best n ks a first second in
    let t = tried (key_at ks n).opcode (key_at ks n).register a first second in
    record {
      bytes = better_of y.bytes t.bytes;
      best = best_at (n + 1) (suc n) ks a (better_of y.bytes t.bytes) (omega arith) (best_more ks a n y.bytes t.bytes
          y.best t.found t.none);
    }

-- an instruction of these parts, and its preferred bytes
pub record HasPreferred (p : Prefixes) (a : Action) : Type 0 where
  pub ins : Ins
  pub prefixes : ins.prefixes ≡ p
  pub action : ins.action ≡ a
  pub bytes : List ℕ
  pub preferred : IsPreferred ins bytes

pub has_preferred : (p : Prefixes) (a : Action) (bytes : List ℕ) → SpellsAction a bytes → HasPreferred p a
has_preferred p a bytes s = let f = action_fits a bytes s in
    by (has_best (length (keyed a.mnemonic)) (keyed a.mnemonic) a f.0 f.1)
  where
    by_best : (o : Option (List ℕ)) → IsLeast a o → HasPreferred p a
    by_best None best = absurd (none_best a bytes best s)
    by_best (Some c) best = record {
      ins = record { prefixes = p; action = a; has_spelling = ∣ (bytes, s) ∣₁ };
      prefixes = refl;
      action = refl;
      bytes = _;
      preferred = record { spells = encode_spells p a c best; least = λ other t. encode_least p a c other best t };
    }

    by : HasBest (length (keyed a.mnemonic)) (keyed a.mnemonic) a → HasPreferred p a
    by x = by_best x.bytes x.best

-- ---- it is short

memory_short : (a : Option Address) (mode rm : ℕ) (d : List ℕ) → SpellsMemory a mode rm d → length d ≤ 2
memory_short a mode rm d (inl h) = rw h.5 (omega arith)
memory_short a mode rm d (inr (inl h)) = rw h.3 (omega arith)
memory_short a mode rm d (inr (inr (inl h))) = rw h.4 (omega arith)
memory_short a mode rm d (inr (inr (inr (inl h)))) = rw h.4 (omega arith)
memory_short a mode rm d (inr (inr (inr (inr h)))) = rw h.2 (omega arith)

fields_short : (m : Fields) (d : List ℕ) → SpellsFields m d → length d ≤ 3
fields_short m d s = rw s.parts (omega (arith, memory_short m.memory s.mode m.rm s.displacement s.spells_memory))

may_short : (f : Bool) (m : Fields) (d : List ℕ) → MaySpellFields f m d → length d ≤ 3
may_short true m d s = fields_short m d s
may_short false m d s = rw s.1 (omega arith)

template_short : (e : OpcodeEntry) (m : Fields) (d : List ℕ) (r : Template) → HasTemplate e m d r → length d ≤ 3
template_short Unlisted m d r h = absurd h
template_short (Plain p) m d r h = may_short (has_fields p) m d h.1
template_short (Group g) m d r h = fields_short m d h.1
template_short (Second c p) m d r h = rw h.2 (omega arith)

part_short : (k : OperandKind) (m : Fields) (o : Operand) (d : List ℕ) → Fills k m o d → length d ≤ 4
part_short is.Nothing m o d h = rw h.1 (omega arith)
part_short (is.RegisterOrMemory w) m o d h = rw h.1 (omega arith)
part_short (is.Register w) m o d h = rw h.1 (omega arith)
part_short is.Memory m o d h = rw h.3 (omega arith)
part_short is.ByteValue m o d h = rw h.3 (omega arith)
part_short is.WordValue m o d h = rw h.3 (omega arith)
part_short is.SignedValue m o d h = rw h.3 (omega arith)
part_short is.Short m o d h = rw h.3 (omega arith)
part_short is.Near m o d h = rw h.3 (omega arith)
part_short (is.Direct w) m o d h = rw h.3 (omega arith)
part_short is.Far m o d h = rw h.5 (omega arith)
part_short (is.Escape r) m o d h = rw h.1 (omega arith)
part_short (is.Byte r) m o d h = rw h.1 (omega arith)
part_short (is.Word r) m o d h = rw h.1 (omega arith)
part_short (is.TheSegment r) m o d h = rw h.1 (omega arith)
part_short is.One m o d h = rw h.1 (omega arith)

action_short : (a : Action) (d : List ℕ) → SpellsAction a d → length d ≤ 12
action_short a d s =
    rw (s.parts, length-append, length-append)
    (omega (
      arith,
      template_short (entry_of s.first_byte) s.fields s.behind s.template s.has_template,
      part_short s.template.first s.fields a.first s.first_part s.first,
      part_short s.template.second s.fields a.second s.second_part s.second,
    ))

-- four prefixes at most, and twelve bytes
pub spelled_short : (i : Ins) (bytes : List ℕ) → Spells i bytes → length bytes ≤ 16
spelled_short i bytes s =
    rw (s.parts, length-append, length-map) (omega (arith, s.few, action_short i.action s.rest s.action))
