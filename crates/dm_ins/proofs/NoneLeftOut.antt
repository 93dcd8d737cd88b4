-- The keys of a mnemonic leave no template of it out.
use Rattle.std.proofs.Common.{◌≡◌, ℕ, zero, suc, ◌+◌, ◌<◌, ◌≤◌, Bool, true, false, List, [], ◌∷◌, ◌++◌, length, get_or, Option, Some, None, refl, sym, ap, subst, ◌∙◌, arith, inl, inr, eqb, nat_le}
use Rattle.std.specs.Prelude.{◌⊎◌}
use Rattle.std.specs.List.{list_all}
use Rattle.std.proofs.lemmas.List.{get_or_past}
use Rattle.std.proofs.lemmas.Bool.{cases_lt, eqb-true, leb-true, ltb-true}
use denote.Enum.Bare.{true_same}
use Rattle.dm_ins.specs.contracts.action.Mnemonic.{the_type}
use Rattle.dm_ins.specs.declared.action.Mnemonic.{Mnemonic}
use Rattle.dm_ins.specs.declared.fill.Choice.{Choice}
use Rattle.dm_ins.specs.declared.keys.Key.{Key}
use Rattle.dm_ins.specs.declared.table.Template.{Template}
use Rattle.dm_ins.specs.declared.table.OpcodeEntry.{OpcodeEntry}
use Rattle.dm_ins.specs.declared.table.OpcodeEntry.TheVariants.{Unlisted, Plain, Group, Second}
use Rattle.dm_ins.specs.Table.{entries, entry_of, groups, member_of}
use Rattle.dm_ins.specs.inner.Keys.{key, has_field, is_of, onto, member_keys, entry_keys, keys_from, keyed, key_at}
use Rattle.dm_ins.specs.inner.Search.{choice_at}
use Rattle.dm_ins.proofs.TableRules.{passes}
use Rattle.dm_ins.proofs.Sound.{chosen_true, is_some}
use Rattle.dm_ins.proofs.Walks.{bind_some}

-- ---- the reg field of a template has three bits

few : List (Option Template) → Bool
few rs = nat_le (length rs) 8

groups_few : (n : ℕ) → length (get_or groups n []) ≤ 8
unfolding few
groups_few n = leb-true (length (get_or groups n [])) 8 (passes few [] refl groups n refl)

some_none : {A : Type 0} (r : Option A) (x : A) → r ≡ None → r ≡ Some x → ⊥
some_none r x p q = cc

member_fits : (n g : ℕ) (r : Template) → member_of n g ≡ Some r → g < 8
unfolding member_of
member_fits n g r e = elim (cases_lt g 8) [
  | inl lt ↦ lt
  | inr le ↦ absurd (let f = groups_few n in let past : length (get_or groups n []) ≤ g = omega arith in
      some_none (get_or (get_or groups n []) g None) r (get_or_past (get_or groups n []) g None past) e)
]

pub choice_fits : (e : OpcodeEntry) (b g : ℕ) (x : Choice) → choice_at e b g ≡ Some x → g < 8
choice_fits Unlisted b g x h = absurd cc
choice_fits (Plain p) b g x h = let z : g ≡ 0 = eqb-true g 0 (chosen_true (eqb g 0) _ x h).0 in omega arith
choice_fits (Group n) b g x h = let r = bind_some (member_of n g) _ x h in member_fits n g r.0 r.1
choice_fits (Second c p) b g x h = let z : g ≡ 0 = eqb-true g 0 (chosen_true (eqb g 0) _ x h).0 in omega arith

-- ---- each template has its key

abbrev pub Has : List Key → ℕ → ℕ → Type 0
Has [] b g = ⊥
Has (k ∷ ks) b g = (k ≡ key b g) ⊎ Has ks b g

has_front : (xs ys : List Key) (b g : ℕ) → Has xs b g → Has (xs ++ ys) b g
has_front [] ys b g h = absurd h
has_front (x ∷ xs) ys b g (inl e) = inl e
has_front (x ∷ xs) ys b g (inr h) = inr (has_front xs ys b g h)

has_back : (xs ys : List Key) (b g : ℕ) → Has ys b g → Has (xs ++ ys) b g
has_back [] ys b g h = h
has_back (x ∷ xs) ys b g h = inr (has_back xs ys b g h)

has_first : (t : Bool) (k : Key) (ks : List Key) (b g : ℕ) → t ≡ true → k ≡ key b g → Has (onto t k ks) b g
has_first true k ks b g t e = inl e
has_first false k ks b g t e = absurd cc

has_later : (t : Bool) (k : Key) (ks : List Key) (b g : ℕ) → Has ks b g → Has (onto t k ks) b g
has_later true k ks b g h = inr h
has_later false k ks b g h = h

same_is : (m : Mnemonic) (p q : Template) → p ≡ q → is_of m q ≡ true → is_of m p ≡ true
same_is m p q e t = ap (is_of m) e ∙ t

in_members : (m : Mnemonic) (b from i g : ℕ) (rs : List (Option Template)) (p : Template) → g ≡ from + i →
    get_or rs i None ≡ Some p → is_of m p ≡ true → Has (member_keys m b from rs) b g
in_members m b from i g [] p e h t = absurd cc
in_members m b from zero g (None ∷ rs) p e h t = absurd cc
in_members m b from (suc i) g (None ∷ rs) p e h t = in_members m b (from + 1) i g rs p (omega arith) h t
in_members m b from zero g (Some q ∷ rs) p e h t =
    has_first (is_of m q) (key b from) (member_keys m b (from + 1) rs) b g (same_is m q p (is_some q p h) t)
    (ap (key b) (let f : from ≡ g = omega arith in f))
in_members m b from (suc i) g (Some q ∷ rs) p e h t =
    has_later (is_of m q) (key b from) (member_keys m b (from + 1) rs) b g (in_members m b (from + 1) i g rs p
    (omega arith) h t)

alone : (m : Mnemonic) (b g : ℕ) (p : Template) (x y : Choice) → y ≡ x → y.template ≡ p → eqb g 0 ≡ true →
    is_of m x.template ≡ true → Has (onto (is_of m p) (key b 0) []) b g
alone m b g p x y e f z t =
    has_first (is_of m p) (key b 0) [] b g (same_is m p x.template (sym f ∙ ap (λ (c : Choice). c.template) e) t)
    (ap (key b) (sym (eqb-true g 0 z)))

in_entry : (m : Mnemonic) (b g : ℕ) (e : OpcodeEntry) (x : Choice) → choice_at e b g ≡ Some x →
    is_of m x.template ≡ true → Has (entry_keys m b e) b g
unfolding member_of
in_entry m b g Unlisted x h t = absurd cc
in_entry m b g (Plain p) x h t = let c = chosen_true (eqb g 0) (record {
  opcode = b;
  template = p;
  register = None;
  second = None;
}) x h in alone m b g p x _ c.1 refl c.0 t
in_entry m b g (Group n) x h t =
    let r = bind_some (member_of n g) (λ (p : Template). Some (record {
      opcode = b;
      template = p;
      register = Some g;
      second = None;
    })) x h in
    let y : Choice = record { opcode = b; template = r.0; register = Some g; second = None } in
    in_members m b 0 g g (get_or groups n []) r.0 (omega arith) r.1 (same_is m r.0 x.template
    (ap (λ (c : Choice). c.template) (is_some y x r.2)) t)
in_entry m b g (Second c p) x h t = let d = chosen_true (eqb g 0) (record {
  opcode = b;
  template = p;
  register = None;
  second = Some c;
}) x h in alone m b g p x _ d.1 refl d.0 t

in_entries : (m : Mnemonic) (from i b g : ℕ) (es : List OpcodeEntry) (x : Choice) → b ≡ from + i →
    choice_at (get_or es i Unlisted) b g ≡ Some x → is_of m x.template ≡ true → Has (keys_from m from es) b g
in_entries m from i b g [] x e h t = absurd cc
in_entries m from zero b g (y ∷ es) x e h t =
    let f : b ≡ from = omega arith in
    has_front (entry_keys m from y) (keys_from m (from + 1) es) b g (subst (λ (k : ℕ). Has (entry_keys m k y) b g) f
    (in_entry m b g y x h t))
in_entries m from (suc i) b g (y ∷ es) x e h t = has_back (entry_keys m from y) (keys_from m (from + 1) es) b g
    (in_entries m (from + 1) i b g es x (omega arith) h t)

has_all : (m : Mnemonic) (b g : ℕ) (x : Choice) → choice_at (entry_of b) b g ≡ Some x → x.template.mnemonic ≡ m →
    Has (keyed m) b g
unfolding entry_of keyed
has_all m b g x h e = in_entries m 0 b b g entries x (omega arith) h (true_same the_type x.template.mnemonic m e)

-- the place of a key in a list
pub record Stands (ks : List Key) (b g : ℕ) : Type 0 where
  pub place : ℕ
  pub within : place < length ks
  pub is : key_at ks place ≡ key b g

stands : (ks : List Key) (b g : ℕ) → Has ks b g → Stands ks b g
stands [] b g h = absurd h
stands (k ∷ ks) b g (inl e) = record { place = 0; within = omega arith; is = e }
stands (k ∷ ks) b g (inr h) = let s = stands ks b g h in let lt = s.within in record {
  place = suc s.place;
  within = omega arith;
  is = s.is;
}

-- no template of a mnemonic is left out
pub none_left_out : (m : Mnemonic) (b g : ℕ) (x : Choice) → choice_at (entry_of b) b g ≡ Some x →
    x.template.mnemonic ≡ m → Stands (keyed m) b g
none_left_out m b g x h e = stands (keyed m) b g (has_all m b g x h e)

-- ---- lists whose keys all have a reg field of three bits

pub all_fit : (ks : List Key) (n : ℕ) → list_all has_field ks ≡ true → (key_at ks n).register < 8
all_fit ks n h = ltb-true (key_at ks n).register 8 (passes has_field (key 0 0) refl ks n h)
