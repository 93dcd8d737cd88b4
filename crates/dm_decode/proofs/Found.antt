-- What is read as an instruction is spelled so.
use Rattle.std.proofs.Common.{◌≡◌, ◌≢◌, ℕ, zero, suc, ◌+◌, ◌*◌, ◌/◌, ◌%◌, ◌^◌, ◌<◌, ◌≤◌, Bool, true, false, List, [], ◌∷◌, ◌++◌, length, get_or, Option, Some, None, refl, sym, ap, subst, ◌∙◌, append_assoc, arith, inl, inr, eqb}
use Rattle.std.specs.Prelude.{◌⊎◌, map, cond}
use Rattle.std.proofs.lemmas.Bool.Decides.{eqb_tells}
use Rattle.dm_ins.specs.declared.operand.Address.{Address}
use Rattle.dm_ins.specs.declared.fields.Fields.{Fields}
use Rattle.dm_ins.specs.declared.operand.Operand.{Operand}
use Rattle.dm_ins.specs.declared.operand.Operand.TheVariants as operand
use Rattle.dm_ins.specs.declared.operand.Width.TheVariants.{Word}
use Rattle.dm_ins.specs.declared.prefix.Prefix.{Prefix}
use Rattle.dm_ins.specs.declared.prefix.Prefixes.{Prefixes}
use Rattle.dm_ins.specs.declared.action.Action.{Action}
use Rattle.dm_ins.specs.declared.table.OperandKind.{OperandKind}
use Rattle.dm_ins.specs.declared.table.OperandKind.TheVariants as is
use Rattle.dm_ins.specs.declared.table.Template.{Template}
use Rattle.dm_ins.specs.declared.table.OpcodeEntry.{OpcodeEntry}
use Rattle.dm_ins.specs.declared.table.OpcodeEntry.TheVariants.{Unlisted, Plain, Group, Second}
use Rattle.dm_ins.specs.Table.{entry_of, member_of}
use Rattle.dm_ins.specs.Spelling.{word_bytes, SpellsMemory, SpellsFields, Fills, has_fields, no_fields, MaySpellFields, HasTemplate, SpellsAction, prefix_byte, no_prefix, with_prefix, kept, SpellsPrefixed}
use Rattle.dm_ins.specs.Walks.{◌>>=◌}
use Rattle.dm_decode.specs.inner.Reading.{byte_at, word_at, memory_at, fields_at, operand_at, template_at, action_at, prefix_of, without, stripped, strips, prefixed_at}
use Rattle.dm_ins.proofs.Walks.{bind_some}
use Rattle.dm_decode.proofs.Again.{with_template, prefix_found}

abbrev pub IsBytes : List ℕ → Type 0
IsBytes bytes = (i : ℕ) → get_or bytes i 0 < 2 ^ 8

pub rest_bytes : (b : ℕ) (bytes : List ℕ) → IsBytes (b ∷ bytes) → IsBytes bytes
rest_bytes b bytes h i = h (suc i)

some_is : {A : Type 0} (x y : A) → Some x ≡ Some y → x ≡ y
some_is x y e = cc

none_is_not : {A : Type 0} (x : A) → None ≡ Some x → ⊥
none_is_not x e = cc

-- what was taken from the front
pub record Takes (bytes text rest : List ℕ) : Type 0 where
  pub parts : bytes ≡ text ++ rest
  pub rest_fits : IsBytes rest

takes_then : (a x b y c : List ℕ) → Takes a x b → Takes b y c → Takes a (x ++ y) c
takes_then a x b y c p q = record {
  parts = p.parts ∙ ap (λ (t : List ℕ). x ++ t) q.parts ∙ sym (append_assoc x y c);
  rest_fits = q.rest_fits;
}

takes_none : (a : List ℕ) → IsBytes a → Takes a [] a
takes_none a h = record { parts = refl; rest_fits = h }

byte_found : (bytes : List ℕ) (n : ℕ) (rest : List ℕ) → IsBytes bytes → byte_at bytes ≡ Some (n, rest) →
    Takes bytes (n ∷ []) rest × (n < 2 ^ 8)
byte_found [] n rest h e = absurd cc
byte_found (b ∷ bytes) n rest h e =
    let x = some_is (b, bytes) (n, rest) e in
    subst (λ (y : ℕ × List ℕ). Takes (b ∷ bytes) (y.0 ∷ []) y.1 × (y.0 < 2 ^ 8)) x (
      record {
        parts = refl;
        rest_fits = rest_bytes b bytes h;
      },
      h 0,
    )

word_found : (bytes : List ℕ) (n : ℕ) (rest : List ℕ) → IsBytes bytes → word_at bytes ≡ Some (n, rest) →
    Takes bytes (word_bytes n) rest × (n < 2 ^ 16)
unfolding word_at
word_found [] n rest h e = absurd cc
word_found (a ∷ []) n rest h e = absurd cc
word_found (a ∷ b ∷ bytes) n rest h e =
    let x = some_is (a + 256 * b, bytes) (n, rest) e in
    let low : (a + 256 * b) % 256 ≡ a = omega (arith, h 0) in
    let high : (a + 256 * b) / 256 ≡ b = omega (arith, h 0) in
    subst (λ (y : ℕ × List ℕ). Takes (a ∷ b ∷ bytes) (word_bytes y.0) y.1 × (y.0 < 2 ^ 16)) x (
      record { parts = rw (low, high) refl; rest_fits = rest_bytes b bytes (rest_bytes a (b ∷ bytes) h) },
      omega (arith, h 0, h 1),
    )

-- ---- memory operands

abbrev MemoryFound : ℕ → ℕ → List ℕ → Option Address × List ℕ → Type 0
MemoryFound mode rm bytes x = (d : List ℕ) × Takes bytes d x.1 × SpellsMemory x.0 mode rm d

chosen : {A : Type 0} (n k : ℕ) (o p : Option A) (y : A) → cond (eqb n k) o p ≡ Some y → ((n ≡ k) × (o ≡ Some y)) ⊎
    ((n ≢ k) × (p ≡ Some y))
chosen n k o p y e = elim (eqb_tells n k) [ inl t ↦ inl (t.1, rw t.0 at e) | inr f ↦ inr (f.1, rw f.0 at e) ]

memory_found : (mode rm : ℕ) (bytes : List ℕ) (x : Option Address × List ℕ) → mode < 4 → IsBytes bytes →
    memory_at mode rm bytes ≡ Some x → MemoryFound mode rm bytes x
unfolding memory_at
memory_found mode rm bytes x lt h e =
    elim (chosen mode 0 _ _ x e) [
      | inl c0 ↦ elim (chosen rm 6 _ _ x c0.1) [
        | inl c6 ↦
            let b = bind_some (word_at bytes) _ x c6.1 in
            let t = word_found bytes b.0.0 b.0.1 h b.1 in
            subst (MemoryFound mode rm bytes) (some_is _ x b.2) (
              word_bytes b.0.0,
              t.0,
              inl (c0.0, c6.0, b.0.0, t.1, refl, refl),
            )
        | inr c6 ↦ subst (MemoryFound mode rm bytes) (some_is _ x c6.1) (
          [],
          takes_none bytes h,
          inr (inl (c0.0, c6.0, refl, refl)),
        )
      ]
      | inr c0 ↦ elim (chosen mode 1 _ _ x c0.1) [
        | inl c1 ↦
            let b = bind_some (byte_at bytes) _ x c1.1 in
            let t = byte_found bytes b.0.0 b.0.1 h b.1 in
            subst (MemoryFound mode rm bytes) (some_is _ x b.2) (
              b.0.0 ∷ [],
              t.0,
              inr (inr (inl (c1.0, b.0.0, t.1, refl, refl))),
            )
        | inr c1 ↦ elim (chosen mode 2 _ _ x c1.1) [
          | inl c2 ↦
              let b = bind_some (word_at bytes) _ x c2.1 in
              let t = word_found bytes b.0.0 b.0.1 h b.1 in
              subst (MemoryFound mode rm bytes) (some_is _ x b.2) (
                word_bytes b.0.0,
                t.0,
                inr (inr (inr (inl (c2.0, b.0.0, t.1, refl, refl)))),
              )
          | inr c2 ↦
              let three : mode ≡ 3 = omega arith in
              subst (MemoryFound mode rm bytes) (some_is _ x c2.1) (
                [],
                takes_none bytes h,
                inr (inr (inr (inr (three, refl, refl)))),
              )
        ]
      ]
    ]

abbrev FieldsFound : List ℕ → Fields × List ℕ → Type 0
FieldsFound bytes x = (d : List ℕ) × Takes bytes d x.1 × SpellsFields x.0 d

fields_found : (bytes : List ℕ) (x : Fields × List ℕ) → IsBytes bytes → fields_at bytes ≡ Some x → FieldsFound bytes x
unfolding fields_at
fields_found bytes x h e =
    let b = bind_some (byte_at bytes) _ x e in
    let t = byte_found bytes b.0.0 b.0.1 h b.1 in
    let a = bind_some (memory_at (b.0.0 / 64) (b.0.0 % 8) b.0.1) _ x b.2 in
    let lt : b.0.0 / 64 < 4 = omega (arith, t.1) in
    let m = memory_found (b.0.0 / 64) (b.0.0 % 8) b.0.1 a.0 lt t.0.rest_fits a.1 in
    let split : b.0.0 ≡ 64 * (b.0.0 / 64) + 8 * (b.0.0 / 8 % 8) + b.0.0 % 8 = omega (arith, t.1) in
    subst (FieldsFound bytes) (some_is _ x a.2) (
      b.0.0 ∷ m.0,
      takes_then bytes (b.0.0 ∷ []) b.0.1 m.0 a.0.1 t.0 m.1,
      record {
        mode = b.0.0 / 64;
        displacement = m.0;
        register_fits = omega arith;
        rm_fits = omega arith;
        spells_memory = m.2;
        parts = ap (λ (k : ℕ). k ∷ m.0) split;
      },
    )

-- ---- operands

abbrev OperandFound : OperandKind → Fields → List ℕ → Operand × List ℕ → Type 0
OperandFound k m bytes x = (d : List ℕ) × Takes bytes d x.1 × Fills k m x.0 d

module _ (m : Fields) (bytes : List ℕ) (x : Operand × List ℕ) (h : IsBytes bytes) where
  empty : (k : OperandKind) (o : Operand) → Fills k m o [] → Some (o, bytes) ≡ Some x → OperandFound k m bytes x
  empty k o f e = subst (OperandFound k m bytes) (some_is (o, bytes) x e) ([], takes_none bytes h, f)

operand_found : (k : OperandKind) (m : Fields) (bytes : List ℕ) (x : Operand × List ℕ) → IsBytes bytes →
    operand_at k m bytes ≡ Some x → OperandFound k m bytes x
unfolding operand_at
operand_found is.Nothing m bytes x h e = empty m bytes x h is.Nothing _ (refl, refl) e
operand_found (is.RegisterOrMemory w) m bytes x h e = empty m bytes x h (is.RegisterOrMemory w) _ (refl, refl) e
operand_found (is.Register w) m bytes x h e = empty m bytes x h (is.Register w) _ (refl, refl) e
operand_found is.Memory m bytes x h e =
    let a = bind_some m.memory _ x e in
    empty m bytes x h is.Memory (operand.Memory Word a.0) (a.0, a.1, refl, refl) a.2
operand_found is.ByteValue m bytes x h e =
    let b = bind_some (byte_at bytes) _ x e in
    let t = byte_found bytes b.0.0 b.0.1 h b.1 in
    subst (OperandFound is.ByteValue m bytes) (some_is _ x b.2) (b.0.0 ∷ [], t.0, (b.0.0, t.1, refl, refl))
operand_found is.WordValue m bytes x h e =
    let b = bind_some (word_at bytes) _ x e in
    let t = word_found bytes b.0.0 b.0.1 h b.1 in
    subst (OperandFound is.WordValue m bytes) (some_is _ x b.2) (word_bytes b.0.0, t.0, (b.0.0, t.1, refl, refl))
operand_found is.SignedValue m bytes x h e =
    let b = bind_some (byte_at bytes) _ x e in
    let t = byte_found bytes b.0.0 b.0.1 h b.1 in
    subst (OperandFound is.SignedValue m bytes) (some_is _ x b.2) (b.0.0 ∷ [], t.0, (b.0.0, t.1, refl, refl))
operand_found is.Short m bytes x h e =
    let b = bind_some (byte_at bytes) _ x e in
    let t = byte_found bytes b.0.0 b.0.1 h b.1 in
    subst (OperandFound is.Short m bytes) (some_is _ x b.2) (b.0.0 ∷ [], t.0, (b.0.0, t.1, refl, refl))
operand_found is.Near m bytes x h e =
    let b = bind_some (word_at bytes) _ x e in
    let t = word_found bytes b.0.0 b.0.1 h b.1 in
    subst (OperandFound is.Near m bytes) (some_is _ x b.2) (word_bytes b.0.0, t.0, (b.0.0, t.1, refl, refl))
operand_found (is.Direct w) m bytes x h e =
    let b = bind_some (word_at bytes) _ x e in
    let t = word_found bytes b.0.0 b.0.1 h b.1 in
    subst (OperandFound (is.Direct w) m bytes) (some_is _ x b.2) (word_bytes b.0.0, t.0, (b.0.0, t.1, refl, refl))
operand_found is.Far m bytes x h e =
    let b = bind_some (word_at bytes) _ x e in
    let t = word_found bytes b.0.0 b.0.1 h b.1 in
    let c = bind_some (word_at b.0.1) _ x b.2 in
    let u = word_found b.0.1 c.0.0 c.0.1 t.0.rest_fits c.1 in
    subst (OperandFound is.Far m bytes) (some_is _ x c.2) (
      word_bytes b.0.0 ++ word_bytes c.0.0,
      takes_then bytes (word_bytes b.0.0) b.0.1 (word_bytes c.0.0) c.0.1 t.0 u.0,
      (
        b.0.0,
        c.0.0,
        t.1,
        u.1,
        refl,
        refl,
      ),
    )
operand_found (is.Escape r) m bytes x h e = empty m bytes x h (is.Escape r) _ (refl, refl) e
operand_found (is.Byte r) m bytes x h e = empty m bytes x h (is.Byte r) _ (refl, refl) e
operand_found (is.Word r) m bytes x h e = empty m bytes x h (is.Word r) _ (refl, refl) e
operand_found (is.TheSegment r) m bytes x h e = empty m bytes x h (is.TheSegment r) _ (refl, refl) e
operand_found is.One m bytes x h e = empty m bytes x h is.One _ (refl, refl) e

-- ---- templates

plain_found : (b : Bool) (p : Template) (bytes : List ℕ) (x : (Template × Fields) × List ℕ) → IsBytes bytes
    → cond b (fields_at bytes >>= with_template p) (Some ((p, no_fields), bytes)) ≡ Some x
    → (d : List ℕ) × Takes bytes d x.1 × (x.0.0 ≡ p) × MaySpellFields b x.0.1 d
plain_found true p bytes x h e =
    let a = bind_some (fields_at bytes) (with_template p) x e in
    let f = fields_found bytes a.0 h a.1 in
    subst (λ (y : (Template × Fields) × List ℕ). (d : List ℕ) × Takes bytes d y.1 × (y.0.0 ≡ p) ×
    SpellsFields y.0.1 d) (some_is _ x a.2) (f.0, f.1, refl, f.2)
plain_found false p bytes x h e =
    subst (λ (y : (Template × Fields) × List ℕ). (d : List ℕ) × Takes bytes d y.1 × (y.0.0 ≡ p) ×
    ((y.0.1 ≡ no_fields) × (d ≡ []))) (some_is ((p, no_fields), bytes) x e) (
      [],
      takes_none bytes h,
      refl,
      (refl, refl),
    )

abbrev TemplateFound : OpcodeEntry → List ℕ → (Template × Fields) × List ℕ → Type 0
TemplateFound e bytes x = (d : List ℕ) × Takes bytes d x.1 × HasTemplate e x.0.1 d x.0.0

template_found : (e : OpcodeEntry) (bytes : List ℕ) (x : (Template × Fields) × List ℕ) → IsBytes bytes →
    template_at e bytes ≡ Some x → TemplateFound e bytes x
unfolding template_at
template_found Unlisted bytes x h e = absurd cc
template_found (Plain p) bytes x h e =
    let f = plain_found (has_fields p) p bytes x h e in
    (f.0, f.1, (f.2, f.3))
template_found (Group g) bytes x h e =
    let a = bind_some (fields_at bytes) _ x e in
    let r = bind_some (member_of g a.0.0.register) _ x a.2 in
    let f = fields_found bytes a.0 h a.1 in
    subst (TemplateFound (Group g) bytes) (some_is _ x r.2) (f.0, f.1, (r.1, f.2))
template_found (Second c p) bytes x h e =
    let b = bind_some (byte_at bytes) _ x e in
    let t = byte_found bytes b.0.0 b.0.1 h b.1 in
    elim (chosen b.0.0 c _ _ x b.2) [
      | inl s ↦ subst (TemplateFound (Second c p) bytes) (some_is _ x s.1) (
        b.0.0 ∷ [],
        t.0,
        (refl, refl, ap (λ (k : ℕ). k ∷ []) s.0),
      )
      | inr s ↦ absurd (none_is_not x s.1)
    ]

abbrev ActionFound : List ℕ → Action × List ℕ → Type 0
ActionFound bytes x = (d : List ℕ) × Takes bytes d x.1 × SpellsAction x.0 d

-- the parts of a template spell its action
action_spelled : (b : ℕ) (m : Fields) (r : Template) (behind first_part second_part : List ℕ) (first second : Operand)
    → HasTemplate (entry_of b) m behind r → Fills r.first m first first_part → Fills r.second m second second_part
    → SpellsAction (record { mnemonic = r.mnemonic; first = first; second = second }) (b ∷ behind
    ++ (first_part ++ second_part))
action_spelled b m r behind first_part second_part first second h p q = record {
  first_byte = b;
  fields = m;
  template = r;
  behind = behind;
  first_part = first_part;
  second_part = second_part;
  has_template = h;
  mnemonic = refl;
  first = p;
  second = q;
  parts = refl;
}

action_found : (bytes : List ℕ) (x : Action × List ℕ) → IsBytes bytes → action_at bytes ≡ Some x → ActionFound bytes x
unfolding action_at
action_found bytes x h e =
    let b = bind_some (byte_at bytes) _ x e in
    let t0 = byte_found bytes b.0.0 b.0.1 h b.1 in
    let r = bind_some (template_at (entry_of b.0.0) b.0.1) _ x b.2 in
    let t1 = template_found (entry_of b.0.0) b.0.1 r.0 t0.0.rest_fits r.1 in
    let o = bind_some (operand_at r.0.0.0.first r.0.0.1 r.0.1) _ x r.2 in
    let t2 = operand_found r.0.0.0.first r.0.0.1 r.0.1 o.0 t1.1.rest_fits o.1 in
    let p = bind_some (operand_at r.0.0.0.second r.0.0.1 o.0.1) _ x o.2 in
    let t3 = operand_found r.0.0.0.second r.0.0.1 o.0.1 p.0 t2.1.rest_fits p.1 in
    let u = takes_then r.0.1 t2.0 o.0.1 t3.0 p.0.1 t2.1 t3.1 in
    let v = takes_then b.0.1 t1.0 r.0.1 (t2.0 ++ t3.0) p.0.1 t1.1 u in
    let w = takes_then bytes (b.0.0 ∷ []) b.0.1 (t1.0 ++ (t2.0 ++ t3.0)) p.0.1 t0.0 v in
    let s = action_spelled b.0.0 r.0.0.1 r.0.0.0 t1.0 t2.0 t3.0 o.0.0 p.0.0 t1.2 t2.2 t3.2 in
    subst (ActionFound bytes) (some_is _ x p.2) (b.0.0 ∷ t1.0 ++ (t2.0 ++ t3.0), w, s)

-- ---- prefixes

record Stripped (n : ℕ) (p : Prefixes) (bytes : List ℕ) (out : Prefixes × List ℕ) : Type 0 where
  xs : List Prefix
  few : length xs ≤ n
  keeps : out.0 ≡ kept p xs
  parts : bytes ≡ map prefix_byte xs ++ out.1
  rest_fits : IsBytes out.1

one_left : (n : ℕ) (p : Prefixes) (bytes : List ℕ) (out : Prefixes × List ℕ) → Stripped n p bytes out →
    Stripped (suc n) p bytes out
one_left n p bytes out s = record {
  xs = s.xs;
  few = omega (arith, s.few);
  keeps = s.keeps;
  parts = s.parts;
  rest_fits = s.rest_fits;
}

module _ (n : ℕ) (again : (p : Prefixes) (bytes : List ℕ) → IsBytes bytes → Stripped n p bytes (strips n p bytes)) where
  strip_found : (o : Option Prefix) (p : Prefixes) (b : ℕ) (bytes : List ℕ) → IsBytes (b ∷ bytes) → prefix_of b ≡ o
      → Stripped (suc n) p (b ∷ bytes) (strips n (without p (b ∷ bytes) o b bytes).0 (without p (b
      ∷ bytes) o b bytes).1)
  strip_found None p b bytes h e = one_left n p (b ∷ bytes) _ (again p (b ∷ bytes) h)
  strip_found (Some x) p b bytes h e =
      let s = again (with_prefix p x) bytes (rest_bytes b bytes h) in
      record {
        xs = x ∷ s.xs;
        few = omega (arith, s.few);
        keeps = s.keeps;
        rest_fits = s.rest_fits;
        parts = ap (λ (k : ℕ). k ∷ bytes) (prefix_found b x e) ∙ ap (λ (t : List ℕ). prefix_byte x ∷ t) s.parts;
      }

strips_found : (n : ℕ) (p : Prefixes) (bytes : List ℕ) → IsBytes bytes → Stripped n p bytes (strips n p bytes)
unfolding stripped
strips_found zero p bytes h = record { xs = []; few = omega arith; keeps = refl; parts = refl; rest_fits = h }
strips_found (suc n) p [] h = one_left n p [] _ (strips_found n p [] h)
strips_found (suc n) p (b ∷ bytes) h = strip_found n (λ q d f. strips_found n q d f) (prefix_of b) p b bytes h refl

abbrev pub PrefixedFound : List ℕ → (Prefixes × Action) × List ℕ → Type 0
PrefixedFound bytes x = (d : List ℕ) × Takes bytes d x.1 × SpellsPrefixed x.0.0 x.0.1 d

pub prefixed_found : (bytes : List ℕ) (x : (Prefixes × Action) × List ℕ) → IsBytes bytes → prefixed_at bytes ≡ Some x →
    PrefixedFound bytes x
unfolding prefixed_at
prefixed_found bytes x h e =
    let s = strips_found 4 no_prefix bytes h in
    let a = bind_some (action_at (strips 4 no_prefix bytes).1) _ x e in
    let t = action_found (strips 4 no_prefix bytes).1 a.0 s.rest_fits a.1 in
    let whole : bytes ≡ (map prefix_byte s.xs ++ t.0) ++ a.0.1 = s.parts ∙ ap (λ (r : List ℕ). map prefix_byte s.xs
    ++ r) t.1.parts ∙ sym (append_assoc (map prefix_byte s.xs) t.0 a.0.1) in
    subst (PrefixedFound bytes) (some_is _ x a.2) (
      map prefix_byte s.xs ++ t.0,
      record { parts = whole; rest_fits = t.1.rest_fits },
      record { prefixes = s.xs; rest = t.0; few = s.few; keeps = s.keeps; action = t.2; parts = refl },
    )
