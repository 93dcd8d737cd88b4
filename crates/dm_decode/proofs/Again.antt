-- What spells an instruction is read as that instruction, whatever follows.
use Rattle.std.proofs.Common.{◌≡◌, ℕ, zero, suc, ◌+◌, ◌*◌, ◌/◌, ◌%◌, ◌<◌, ◌≤◌, Bool, true, false, List, [], ◌∷◌, ◌++◌, length, Option, Some, None, refl, ap, subst, ◌∙◌, append_assoc, arith, inl, inr}
use Rattle.std.specs.Prelude.{◌⊎◌, map, cond}
use Rattle.std.proofs.Common.{eq-eqb, eqb}
use Rattle.std.proofs.lemmas.Bool.{ne_eqb}
use Rattle.std.proofs.lemmas.Bool.Decides.{eqb_tells}
use Rattle.dm_ins.specs.declared.operand.Address.{Address}
use Rattle.dm_ins.specs.declared.prefix.Prefix.{Prefix}
use Rattle.dm_ins.specs.declared.prefix.Prefix.TheVariants as prefix
use Rattle.dm_ins.specs.declared.prefix.Prefixes.{Prefixes}
use Rattle.dm_ins.specs.declared.operand.SegmentRegister.TheVariants.{Es, Cs, Ss, Ds}
use Rattle.dm_ins.specs.declared.prefix.Repeat.TheVariants.{NotEqual, Equal}
use Rattle.dm_ins.specs.declared.action.Action.{Action}
use Rattle.dm_ins.specs.declared.table.Template.{Template}
use Rattle.dm_ins.specs.declared.table.OpcodeEntry.{OpcodeEntry}
use Rattle.dm_ins.specs.declared.table.OpcodeEntry.TheVariants.{Unlisted, Plain, Group, Second}
use Rattle.dm_ins.specs.Table.{entry_of}
use Rattle.dm_ins.specs.declared.fields.Fields.{Fields}
use Rattle.dm_ins.specs.declared.operand.Operand.{Operand}
use Rattle.dm_ins.specs.declared.table.OperandKind.{OperandKind}
use Rattle.dm_ins.specs.declared.table.OperandKind.TheVariants as is
use Rattle.dm_ins.specs.Spelling.{word_bytes, SpellsMemory, SpellsFields, Fills, has_fields, no_fields, MaySpellFields, HasTemplate, SpellsAction, prefix_byte, no_prefix, with_prefix, kept, SpellsPrefixed}
use Rattle.dm_ins.specs.Walks.{◌>>=◌}
use Rattle.dm_decode.specs.inner.Reading.{word_at, memory_at, fields_at, operand_at, template_at, action_at, prefix_of, without, stripped, strips, prefixed_at}

pub word_again : (n : ℕ) (rest : List ℕ) → word_at (word_bytes n ++ rest) ≡ Some (n, rest)
unfolding word_at
word_again n rest = let e : n % 256 + 256 * (n / 256) ≡ n = omega arith in rw e refl

memory_again : (a : Option Address) (mode rm : ℕ) (d rest : List ℕ) → SpellsMemory a mode rm d →
    memory_at mode rm (d ++ rest) ≡ Some (a, rest)
unfolding memory_at
memory_again a mode rm d rest (inl h) = rw (h.0, h.1, h.4, h.5) (rw (word_again h.2 rest) refl)
memory_again a mode rm d rest (inr (inl h)) = rw (h.0, h.2, h.3) (rw (ne_eqb rm 6 h.1) refl)
memory_again a mode rm d rest (inr (inr (inl h))) = rw (h.0, h.3, h.4) refl
memory_again a mode rm d rest (inr (inr (inr (inl h)))) = rw (h.0, h.3, h.4) (rw (word_again h.1 rest) refl)
memory_again a mode rm d rest (inr (inr (inr (inr h)))) = rw (h.0, h.1, h.2) refl

mode_fits : (a : Option Address) (mode rm : ℕ) (d : List ℕ) → SpellsMemory a mode rm d → mode < 4
mode_fits a mode rm d (inl h) = omega arith
mode_fits a mode rm d (inr (inl h)) = omega arith
mode_fits a mode rm d (inr (inr (inl h))) = omega arith
mode_fits a mode rm d (inr (inr (inr (inl h)))) = omega arith
mode_fits a mode rm d (inr (inr (inr (inr h)))) = omega arith

fields_again : (m : Fields) (d rest : List ℕ) → SpellsFields m d → fields_at (d ++ rest) ≡ Some (m, rest)
unfolding fields_at
fields_again m d rest h =
    let fits : h.mode < 4 = mode_fits m.memory h.mode m.rm h.displacement h.spells_memory in
    let e0 : (64 * h.mode + 8 * m.register + m.rm) / 64 ≡ h.mode = omega (arith, h.register_fits, h.rm_fits) in
    let e1 : (64 * h.mode + 8 * m.register + m.rm) / 8 % 8 ≡ m.register = omega (arith, h.register_fits, h.rm_fits) in
    let e2 : (64 * h.mode + 8 * m.register + m.rm) % 8 ≡ m.rm = omega (arith, h.register_fits, h.rm_fits) in
    rw h.parts (rw (e0, e1, e2) (rw (memory_again m.memory h.mode m.rm h.displacement rest h.spells_memory) refl))

operand_again : (k : OperandKind) (m : Fields) (o : Operand) (d rest : List ℕ) → Fills k m o d →
    operand_at k m (d ++ rest) ≡ Some (o, rest)
unfolding operand_at
operand_again is.Nothing m o d rest h = rw (h.0, h.1) refl
operand_again (is.RegisterOrMemory w) m o d rest h = rw (h.0, h.1) refl
operand_again (is.Register w) m o d rest h = rw (h.0, h.1) refl
operand_again is.Memory m o d rest h = rw (h.1, h.2, h.3) refl
operand_again is.ByteValue m o d rest h = rw (h.2, h.3) refl
operand_again is.WordValue m o d rest h = rw (h.2, h.3) (rw (word_again h.0 rest) refl)
operand_again is.SignedValue m o d rest h = rw (h.2, h.3) refl
operand_again is.Short m o d rest h = rw (h.2, h.3) refl
operand_again is.Near m o d rest h = rw (h.2, h.3) (rw (word_again h.0 rest) refl)
operand_again (is.Direct w) m o d rest h = rw (h.2, h.3) (rw (word_again h.0 rest) refl)
operand_again is.Far m o d rest h = rw (h.4, h.5) (rw (
  word_again h.0 (word_bytes h.1 ++ rest),
  word_again h.1 rest,
) refl)
operand_again (is.Escape r) m o d rest h = rw (h.0, h.1) refl
operand_again (is.Byte r) m o d rest h = rw (h.0, h.1) refl
operand_again (is.Word r) m o d rest h = rw (h.0, h.1) refl
operand_again (is.TheSegment r) m o d rest h = rw (h.0, h.1) refl
operand_again is.One m o d rest h = rw (h.0, h.1) refl

abbrev pub with_template : Template → Fields × List ℕ → Option ((Template × Fields) × List ℕ)
with_template p f = Some ((p, f.0), f.1)

plain_again : (b : Bool) (p : Template) (m : Fields) (d rest : List ℕ) → MaySpellFields b m d
    → cond b (fields_at (d ++ rest) >>= with_template p) (Some ((p, no_fields), d ++ rest)) ≡ Some ((p, m), rest)
plain_again true p m d rest h = rw (fields_again m d rest h) refl
plain_again false p m d rest h = rw (h.0, h.1) refl

template_again : (e : OpcodeEntry) (m : Fields) (r : Template) (d rest : List ℕ) → HasTemplate e m d r →
    template_at e (d ++ rest) ≡ Some ((r, m), rest)
unfolding template_at
template_again Unlisted m r d rest h = absurd h
template_again (Plain p) m r d rest h = rw h.0 (plain_again (has_fields p) p m d rest h.1)
template_again (Group g) m r d rest h = rw (fields_again m d rest h.1) (rw h.0 refl)
template_again (Second c p) m r d rest h = rw (h.0, h.1, h.2) (rw (eq-eqb c c refl) refl)

action_again : (a : Action) (d rest : List ℕ) → SpellsAction a d → action_at (d ++ rest) ≡ Some (a, rest)
unfolding action_at
action_again a d rest h =
    let g : (h.behind ++ (h.first_part ++ h.second_part)) ++ rest ≡ h.behind
    ++ (h.first_part ++ (h.second_part ++ rest)) = simp append_assoc in
    rw h.parts (rw g (rw (template_again (entry_of h.first_byte) h.fields h.template h.behind (h.first_part
    ++ (h.second_part ++ rest)) h.has_template)
    (rw (operand_again h.template.first h.fields a.first h.first_part (h.second_part ++ rest) h.first)
    (rw (operand_again h.template.second h.fields a.second h.second_part rest h.second) (rw (← h.mnemonic) refl)))))

-- ---- prefixes

prefix_again : (x : Prefix) → prefix_of (prefix_byte x) ≡ Some x
unfolding prefix_of
prefix_again (prefix.Segment Es) = refl
prefix_again (prefix.Segment Cs) = refl
prefix_again (prefix.Segment Ss) = refl
prefix_again (prefix.Segment Ds) = refl
prefix_again prefix.Lock = refl
prefix_again (prefix.Repeat NotEqual) = refl
prefix_again (prefix.Repeat Equal) = refl

pick : (n k : ℕ) (x y : Prefix) (o : Option Prefix) → cond (eqb n k) (Some x) o ≡ Some y → ((n ≡ k) × (x ≡ y)) ⊎
    (o ≡ Some y)
pick n k x y o e = elim (eqb_tells n k) [ inl t ↦ inl (t.1, (let e2 = rw t.0 at e in cc)) | inr f ↦ inr (rw f.0 at e) ]

pub prefix_found : (b : ℕ) (y : Prefix) → prefix_of b ≡ Some y → b ≡ prefix_byte y
unfolding prefix_of
prefix_found b y e =
    elim (pick b 0x26 _ y _ e) [
      | inl h ↦ rw (← h.1) h.0
      | inr e ↦
          elim (pick b 0x2E _ y _ e) [
            | inl h ↦ rw (← h.1) h.0
            | inr e ↦
                elim (pick b 0x36 _ y _ e) [
                  | inl h ↦ rw (← h.1) h.0
                  | inr e ↦
                      elim (pick b 0x3E _ y _ e) [
                        | inl h ↦ rw (← h.1) h.0
                        | inr e ↦
                            elim (pick b 0xF0 _ y _ e) [
                              | inl h ↦ rw (← h.1) h.0
                              | inr e ↦
                                  elim (pick b 0xF2 _ y _ e) [
                                    | inl h ↦ rw (← h.1) h.0
                                    | inr e ↦
                                        elim (pick b 0xF3 _ y _ e) [ inl h ↦ rw (← h.1) h.0 | inr e ↦ absurd cc ]
                                  ]
                            ]
                      ]
                ]
          ]
    ]

-- no template begins with a prefix's byte
prefix_unlisted : (x : Prefix) → entry_of (prefix_byte x) ≡ Unlisted
unfolding entry_of
prefix_unlisted (prefix.Segment Es) = refl
prefix_unlisted (prefix.Segment Cs) = refl
prefix_unlisted (prefix.Segment Ss) = refl
prefix_unlisted (prefix.Segment Ds) = refl
prefix_unlisted prefix.Lock = refl
prefix_unlisted (prefix.Repeat NotEqual) = refl
prefix_unlisted (prefix.Repeat Equal) = refl

no_template : (x : Prefix) (b : ℕ) (m : Fields) (d : List ℕ) (r : Template) → b ≡ prefix_byte x →
    HasTemplate (entry_of b) m d r → ⊥
no_template x b m d r e h = let f : entry_of b ≡ Unlisted = ap entry_of e ∙ prefix_unlisted x in
    subst (λ t. HasTemplate t m d r) f h

stays_by : (o : Option Prefix) (p : Prefixes) (b : ℕ) (d : List ℕ) → ((x : Prefix) → o ≡ Some x → ⊥) →
    without p (b ∷ d) o b d ≡ (p, b ∷ d)
stays_by None p b d h = refl
stays_by (Some x) p b d h = absurd (h x refl)

action_stays : (a : Action) (d rest : List ℕ) (p : Prefixes) → SpellsAction a d →
    stripped p (d ++ rest) ≡ (p, d ++ rest)
unfolding stripped
action_stays a d rest p h = rw h.parts (stays_by (prefix_of h.first_byte) p h.first_byte _
    (λ x e. no_template x h.first_byte h.fields h.behind h.template (prefix_found h.first_byte x e) h.has_template))

strips_again : (n : ℕ) (p : Prefixes) (xs : List Prefix) (rest : List ℕ) → length xs ≤ n →
    ((q : Prefixes) → stripped q rest ≡ (q, rest)) → strips n p (map prefix_byte xs ++ rest) ≡ (kept p xs, rest)
unfolding stripped
strips_again zero p [] rest few stays = refl
strips_again zero p (x ∷ xs) rest few stays = absurd (omega arith)
strips_again (suc n) p [] rest few stays = rw (stays p) (strips_again n p [] rest (omega arith) stays)
strips_again (suc n) p (x ∷ xs) rest few stays =
    rw (prefix_again x) (strips_again n (with_prefix p x) xs rest (omega arith) stays)

pub prefixed_again : (q : Prefixes) (a : Action) (d rest : List ℕ) → SpellsPrefixed q a d →
    prefixed_at (d ++ rest) ≡ Some ((q, a), rest)
unfolding prefixed_at
prefixed_again q a d rest h =
    let g : (map prefix_byte h.prefixes ++ h.rest) ++ rest ≡ map prefix_byte h.prefixes ++ (h.rest ++ rest) =
    append_assoc (map prefix_byte h.prefixes) h.rest rest in
    let s : strips 4 no_prefix (map prefix_byte h.prefixes ++ (h.rest ++ rest)) ≡ (
      kept no_prefix h.prefixes,
      h.rest ++ rest,
    ) = strips_again 4 no_prefix h.prefixes (h.rest
    ++ rest) h.few (λ q. action_stays a h.rest rest q h.action) in
    let s0 = ap (λ (x : Prefixes × List ℕ). x.0) s in
    let s1 = ap (λ (x : Prefixes × List ℕ). x.1) s in
    rw (h.parts, g) (rw (s0, s1) (rw (action_again a h.rest rest h.action) (rw (← h.keeps) refl)))
