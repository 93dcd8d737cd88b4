-- An operand with another value in its place: the instruction keeps its length.
use Rattle.std.proofs.Common.{◌≡◌, ℕ, ◌+◌, ◌*◌, ◌%◌, ◌<◌, Bool, true, false, List, [], ◌∷◌, length, refl, sym, ap, ◌∙◌, arith}
use Rattle.dm_ins.specs.declared.operand.Width.{Width}
use Rattle.dm_ins.specs.declared.operand.Width.TheVariants.{Byte, Word}
use Rattle.dm_ins.specs.declared.operand.Base.{Base}
use Rattle.dm_ins.specs.declared.operand.Base.TheVariants.{Direct}
use Rattle.dm_ins.specs.declared.operand.Address.{Address}
use Rattle.dm_ins.specs.declared.operand.Operand.{Operand}
use Rattle.dm_ins.specs.declared.operand.Operand.TheVariants as operand
use Rattle.dm_ins.specs.declared.action.Mnemonic.{Mnemonic}
use Rattle.dm_ins.specs.declared.action.Mnemonic.TheVariants as op
use Rattle.dm_ins.specs.declared.fields.Fields.{Fields}
use Rattle.dm_ins.specs.declared.table.OperandKind.{OperandKind}
use Rattle.dm_ins.specs.declared.table.OperandKind.TheVariants as is
use Rattle.dm_ins.specs.Spelling.{word_bytes, direct, register, Fills}
use Rattle.dm_ins.specs.inner.Search.{OperandFits}
use Rattle.dm_decode.specs.words.StandIns.{is_move, has_no_base}
use Rattle.dm_decode.proofs.words.Known.{Known, suits, is_near, is_escape, is_opposite}

-- the same registers, and the same displacement behind them
pub record SameBase (a b : Address) : Type 0 where
  pub base : b.base ≡ a.base
  pub displacement : has_no_base a.base ≡ false → b.displacement ≡ a.displacement

-- the second operand is the first one but for its value
unfoldable pub Alike : Mnemonic → Operand → Operand → Type 0
Alike m (operand.ByteValue n) p = (k : ℕ) × (p ≡ operand.ByteValue k) × (is_move m ≡ false → k % 64 ≡ n % 64)
Alike m (operand.WordValue n) p = (k : ℕ) × (p ≡ operand.WordValue k) × (is_move m ≡ false → k ≡ n)
Alike m (operand.Target d) p = (e : ℕ) × (p ≡ operand.Target e)
Alike m (operand.Memory v a) p = (b : Address) × (p ≡ operand.Memory v b) × SameBase a b
Alike m o p = p ≡ o

pub alike_self : (m : Mnemonic) (o : Operand) → Alike m o o
unfolding Alike
alike_self m (operand.ByteValue n) = (n, refl, λ e. refl)
alike_self m (operand.WordValue n) = (n, refl, λ e. refl)
alike_self m (operand.Target d) = (d, refl)
alike_self m (operand.Memory v a) = (a, refl, record { base = refl; displacement = λ e. refl })
alike_self m _ = refl

pub alike_back : (m : Mnemonic) (o p : Operand) → Alike m o p → Alike m p o
unfolding Alike
alike_back m (operand.ByteValue n) p h = rw h.1 (n, refl, λ e. sym (h.2 e))
alike_back m (operand.WordValue n) p h = rw h.1 (n, refl, λ e. sym (h.2 e))
alike_back m (operand.Target d) p h = rw h.1 (d, refl)
alike_back m (operand.Memory v a) p h = rw h.1 (
  a,
  refl,
  record {
    base = sym h.2.base;
    displacement = λ e. sym (h.2.displacement (ap has_no_base (sym h.2.base) ∙ e));
  },
)
alike_back m _ p h = rw h refl

-- ---- addresses

pub same_address : (a b : Address) → SameBase a b → has_no_base a.base ≡ false → b ≡ a
same_address a b h e = rw (h.base, h.displacement e) refl

base_is : (b : Base) → has_no_base b ≡ true → b ≡ Direct
base_is Direct e = refl
base_is _ e = absurd cc

pub direct_is : (a : Address) → has_no_base a.base ≡ true → a ≡ direct a.displacement
direct_is a e = let d = base_is a.base e in rw d refl

-- ---- operands that the mod r/m byte does not place in memory

unfoldable pub uses_memory : OperandKind → Bool
uses_memory (is.RegisterOrMemory v) = true
uses_memory is.Memory = true
uses_memory _ = false

pub escape_is_no_move : (m : Mnemonic) → is_escape m ≡ true → is_move m ≡ false
unfolding is_escape
escape_is_no_move op.Mov e = absurd cc
escape_is_no_move _ e = refl

pub register_alike : (m : Mnemonic) (v : Width) (n : ℕ) (p : Operand) → Alike m (register v n) p → p ≡ register v n
unfolding Alike
register_alike m Byte n p h = h
register_alike m Word n p h = h

abbrev Exchanged : OperandKind → Fields → Operand → List ℕ → Type 0
Exchanged k g p d = (e : List ℕ) × Fills k g p e × (length e ≡ length d)

-- an operand of the template's kind is exchanged; the fields may change in their memory
pub exchanged : (m : Mnemonic) (k : OperandKind) (f g : Fields) (o p : Operand) (d : List ℕ) → f.register < 8 →
    g.register ≡ f.register → suits m k ≡ true → uses_memory k ≡ false → Alike m o p → OperandFits p → Known m p →
    Fills k f o d → Exchanged k g p d
unfolding Alike Known suits uses_memory
exchanged m is.Nothing f g o p d lt r s u al fit kn h = (d, ((rw h.0 at al), h.1), refl)
exchanged m (is.RegisterOrMemory v) f g o p d lt r s u al fit kn h = absurd cc
exchanged m (is.Register v) f g o p d lt r s u al fit kn h = (
  d,
  (
    rw r (register_alike m v f.register p (rw h.0 at al)),
    h.1,
  ),
  refl,
)
exchanged m is.Memory f g o p d lt r s u al fit kn h = absurd cc
exchanged m is.ByteValue f g o p d lt r s u al fit kn h =
    let k = rw h.2 at al in
    (k.0 ∷ [], (k.0, (rw k.1 at fit), k.1, refl), ap length (sym h.3))
exchanged m is.WordValue f g o p d lt r s u al fit kn h =
    let k = rw h.2 at al in
    (word_bytes k.0, (k.0, (rw k.1 at fit), k.1, refl), ap length (sym h.3))
exchanged m is.SignedValue f g o p d lt r s u al fit kn h =
    let k = rw h.2 at al in
    (d, (h.0, h.1, k.1 ∙ ap operand.WordValue (k.2 (is_opposite (is_move m) s)), h.3), refl)
exchanged m is.Short f g o p d lt r s u al fit kn h =
    let k = rw h.2 at al in
    let t = (rw k.1 at kn) (is_opposite (is_near m) s) in
    (t.0 ∷ [], (t.0, t.1, k.1 ∙ ap operand.Target t.2, refl), ap length (sym h.3))
exchanged m is.Near f g o p d lt r s u al fit kn h =
    let k = rw h.2 at al in
    (word_bytes k.0, (k.0, (rw k.1 at fit), k.1, refl), ap length (sym h.3))
exchanged m (is.Direct v) f g o p d lt r s u al fit kn h =
    let k = rw h.2 at al in (
      word_bytes k.0.displacement,
      (
        k.0.displacement,
        (rw k.1 at fit),
        k.1 ∙ ap (operand.Memory v) (direct_is k.0 (ap has_no_base k.2.base)),
        refl,
      ),
      ap length (sym h.3),
    )
exchanged m is.Far f g o p d lt r s u al fit kn h = (d, (h.0, h.1, h.2, h.3, (rw h.4 at al), h.5), refl)
exchanged m (is.Escape c) f g o p d lt r s u al fit kn h =
    let k = rw h.0 at al in
    let small : k.0 < 64 = (rw k.1 at kn) s in
    let same : k.0 % 64 ≡ (8 * (c % 8) + f.register) % 64 = k.2 (escape_is_no_move m s) in
    let e : k.0 ≡ 8 * (c % 8) + f.register = omega arith in
    (d, (rw r (k.1 ∙ ap operand.ByteValue e), h.1), refl)
exchanged m (is.Byte c) f g o p d lt r s u al fit kn h = (d, ((rw h.0 at al), h.1), refl)
exchanged m (is.Word c) f g o p d lt r s u al fit kn h = (d, ((rw h.0 at al), h.1), refl)
exchanged m (is.TheSegment c) f g o p d lt r s u al fit kn h = (d, ((rw h.0 at al), h.1), refl)
exchanged m is.One f g o p d lt r s u al fit kn h = (d, ((rw h.0 at al), h.1), refl)
