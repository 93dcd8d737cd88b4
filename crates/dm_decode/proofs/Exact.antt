-- Reading at the front of a list is exact, both ways.
use Rattle.std.proofs.Common.{◌≡◌, ℕ, ◌-◌, ◌≤◌, List, [], ◌++◌, length, take, drop, Option, Some, None, refl, sym, ap, subst, ◌∙◌, arith}
use Rattle.std.proofs.lemmas.List.{take-append-drop, take_at, append-nil, length-append, length-drop}
use Rattle.dm_ins.specs.declared.prefix.Prefixes.{Prefixes}
use Rattle.dm_ins.specs.declared.action.Action.{Action}
use Rattle.dm_ins.specs.declared.ins.Ins.{Ins}
use Rattle.dm_ins.specs.Spelling.{SpellsAction}
use Rattle.dm_ins.specs.Ins.{Spells}
use Rattle.dm_decode.specs.inner.Reading.{prefixed_at}
use Rattle.dm_decode.proofs.Again.{prefixed_again}
use Rattle.dm_decode.specs.Decoded.{Decodes}
use Rattle.dm_decode.proofs.Found.{IsBytes, prefixed_found}

-- ---- an instruction is its parts

abbrev Has : Action → Type 0
Has a = ∥ ((bytes : List ℕ) × SpellsAction a bytes) ∥₁

Has-prop : (a : Action) → IsProp (Has a)
Has-prop a = hlevel

abbrev made : (p : Prefixes) (a : Action) → Has a → Ins
made p a h = record { prefixes = p; action = a; has_spelling = h }

by_action : (p : Prefixes) (a b : Action) → a ≡ b → (h : Has a) (k : Has b) → made p a h ≡ made p b k
by_action p a b e = subst (λ x. (h : Has a) (k : Has x) → made p a h ≡ made p x k) e
    (λ h k. ap (made p a) (Has-prop a h k))

by_both : (p q : Prefixes) (a b : Action) → p ≡ q → a ≡ b → (h : Has a) (k : Has b) → made p a h ≡ made q b k
by_both p q a b d e h k = subst (λ x. made p a h ≡ made x b k) d (by_action p a b e h k)

abbrev both : {A B : Type 0} → A → B → Option (A × B)
both x y = Some (x, y)

pair_is : {A B : Type 0} (x y : A × B) → both x.0 x.1 ≡ both y.0 y.1 → x ≡ y
pair_is x y e = cc

-- two equal pairs have equal parts
parts : {A B : Type 0} (a b : A) (m n : B) → both a m ≡ both b n → (a ≡ b) × (m ≡ n)
parts {A} {B} a b m n e =
    let p : ◌≡◌ {A = A × B} (a, m) (b, n) = pair_is (a, m) (b, n) e in
    (ap (λ (x : A × B). x.0) p, ap (λ (x : A × B). x.1) p)

-- what is read from one front as two instructions is one, with the same bytes behind it
read_once : (i j : Ins) (m n : List ℕ) → both {A = Prefixes × Action} (i.prefixes, i.action) m
    ≡ both {A = Prefixes × Action} (j.prefixes, j.action) n → (i ≡ j) × (m ≡ n)
read_once i j m n e =
    let p = parts {A = Prefixes × Action} (i.prefixes, i.action) (j.prefixes, j.action) m n e in
    let q = parts i.prefixes j.prefixes i.action j.action (ap (λ (x : Prefixes × Action). both x.0 x.1) p.0) in
    (by_both i.prefixes j.prefixes i.action j.action q.0 q.1 i.has_spelling j.has_spelling, p.1)

-- ---- reading

front_again : (bytes : List ℕ) (i : Ins) (k : ℕ) → Spells i (take k bytes) →
    prefixed_at bytes ≡ Some ((i.prefixes, i.action), drop k bytes)
front_again bytes i k s = ap prefixed_at (sym (take-append-drop k bytes))
    ∙ prefixed_again i.prefixes i.action (take k bytes) (drop k bytes) s

pub rest_within : (bytes : List ℕ) (p : Prefixes) (a : Action) (rest : List ℕ) → IsBytes bytes →
    Some ((p, a), rest) ≡ prefixed_at bytes → length rest ≤ length bytes
rest_within bytes p a rest h e =
    let f = prefixed_found bytes ((p, a), rest) h (sym e) in
    omega (arith, ap length f.1.parts, length-append f.0 rest)

-- what was read is spelled, so that there is an instruction of these parts
pub read_spelled : (bytes : List ℕ) (p : Prefixes) (a : Action) (rest : List ℕ) → IsBytes bytes →
    Some ((p, a), rest) ≡ prefixed_at bytes → ∥ ((text : List ℕ) × SpellsAction a text) ∥₁
read_spelled bytes p a rest h e = let f = prefixed_found bytes ((p, a), rest) h (sym e) in ∣ (f.2.rest, f.2.action) ∣₁

differ : {A : Type 0} (x : A) → None ≡ Some x → ⊥
differ x e = cc

pub exact_none : (bytes : List ℕ) → None ≡ prefixed_at bytes → Decodes bytes None
exact_none bytes e i k = (λ w. absurd (differ _ w), λ w. absurd (differ _ (e ∙ front_again bytes i k w.1)))

pub exact_some : (bytes : List ℕ) (i : Ins) (rest : List ℕ) → IsBytes bytes → length bytes ≡ 16 →
    Some ((i.prefixes, i.action), rest) ≡ prefixed_at bytes → Decodes bytes (Some (i, 16 - length rest))
exact_some bytes i rest h len e j k = (
  λ w.
      let f = prefixed_found bytes ((i.prefixes, i.action), rest) h (sym e) in
      let p = parts i j (16 - length rest) k w in
      let n : length f.0 ≡ k = omega (arith, ap length f.1.parts, length-append f.0 rest, p.1) in
      let t : take k bytes ≡ f.0 = ap (take k) f.1.parts ∙ take_at f.0 rest k n in
      (omega (arith, p.1), rw (← p.0, t) f.2),
  λ w.
      let p = read_once i j rest (drop k bytes) (e ∙ front_again bytes j k w.1) in
      let n : 16 - length rest ≡ k = omega (arith, ap length p.1, length-drop k bytes, w.0) in
      rw (p.0, n) refl,
)

pub no_front : (i j : Ins) (b c rest : List ℕ) → Spells i b → Spells j c → c ≡ b ++ rest → (b ≡ c) × (i ≡ j)
no_front i j b c rest s t e =
    let p = read_once i j rest [] (sym (prefixed_again i.prefixes i.action b rest s)
    ∙ ap prefixed_at (sym e ∙ sym (append-nil c)) ∙ prefixed_again j.prefixes j.action c [] t) in
    (sym (e ∙ ap (λ (r : List ℕ). b ++ r) p.1 ∙ append-nil b), p.0)
