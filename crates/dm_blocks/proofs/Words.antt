-- The fields of a header in the eight bytes of its paragraph, as one number.
use Rattle.std.proofs.Common.{◌≡◌, ℕ, suc, ◌+◌, ◌*◌, ◌/◌, ◌%◌, ◌<◌, ◌≤◌, List, [], ◌∷◌, refl, sym, ◌∙◌, ap, subst, arith}
use Rattle.std.specs.Prelude.{slice_index}
use Rattle.dm_space.specs.Memory.{Memory, linear, peek}
use Rattle.dm_space.specs.EightBytes.{little, AreFirstBytes}
use Rattle.dm_blocks.specs.Chain.{word}
use Rattle.dm_blocks.proofs.Bytes.{read-at}
use Rattle.dm_blocks.proofs.Unique.{each_of_five}

abbrev rest : List ℕ → List ℕ
rest [] = []
rest (b ∷ bs) = bs

parted : (xs : List ℕ) → little xs ≡ slice_index xs 0 + 256 * little (rest xs)
parted [] = refl
parted (b ∷ bs) = refl

behind : (xs : List ℕ) (k : ℕ) → slice_index (rest xs) k ≡ slice_index xs (suc k)
behind [] k = refl
behind (b ∷ bs) k = refl

-- a number of bytes by the first five of them, and what is left after these
first-five : (xs : List ℕ) → (r : ℕ) × (little xs ≡ slice_index xs 0 + 256 * (slice_index xs 1
    + 256 * (slice_index xs 2 + 256 * (slice_index xs 3 + 256 * (slice_index xs 4 + 256 * r)))))
first-five xs =
    let a = rest xs in let b = rest a in let c = rest b in let d = rest c in
    let b0 = behind a 0 ∙ behind xs 1 in
    let c0 = behind b 0 ∙ behind a 1 ∙ behind xs 2 in
    let d0 = behind c 0 ∙ behind b 1 ∙ behind a 2 ∙ behind xs 3 in
    (little (rest d), omega (arith, parted xs, parted a, parted b, parted c, parted d, behind xs 0, b0, c0, d0))

fields-of : (a b c d e r w : ℕ) → a < 256 → b < 256 → c < 256 → d < 256 → e < 256 →
    w ≡ a + 256 * (b + 256 * (c + 256 * (d + 256 * (e + 256 * r)))) →
    (w % 0x100 ≡ a) × (w / 0x100 % 0x10000 ≡ b + 256 * c) × (w / 0x1000000 % 0x10000 ≡ d + 256 * e)
fields-of a b c d e r w ha hb hc hd he is = (omega arith, omega arith, omega arith)

pub record HasNumber (m : Memory) (h w : ℕ) : Type 0 where
  pub signature : w % 0x100 ≡ peek m (16 * h)
  pub owner : w / 0x100 % 0x10000 ≡ word m (16 * h + 1)
  pub size : w / 0x1000000 % 0x10000 ≡ word m (16 * h + 3)
  pub bytes : (k : ℕ) → k < 5 → peek m (16 * h + k) < 256

pub number-of : (m : Memory) (h w : ℕ) → h ≤ 0xFFFF → AreFirstBytes m h 0 w → HasNumber m h w
number-of m h w small x =
    let at : (k : ℕ) → k < 8 → slice_index x.bytes k ≡ peek m (16 * h + k) = λ k less.
    let e : (0 + k) % 65536 ≡ k = omega arith in
    x.shown k less (omega arith) ∙ ap (λ o. peek m (linear m.a20 h o)) e ∙ read-at m h k _ small (omega arith) refl in
    let f = first-five x.bytes in
    let t = fields-of _ _ _ _ _ f.0 w (x.are_bytes 0) (x.are_bytes 1) (x.are_bytes 2) (x.are_bytes 3) (x.are_bytes 4)
    (x.is ∙ f.1) in
    let zero : 16 * h + 0 ≡ 16 * h = omega arith in
    let two : 16 * h + 2 ≡ 16 * h + 1 + 1 = omega arith in
    let four : 16 * h + 4 ≡ 16 * h + 3 + 1 = omega arith in
    let e0 = at 0 (omega arith) in
    let e1 = at 1 (omega arith) in
    let e2 = at 2 (omega arith) ∙ ap (peek m) two in
    let e3 = at 3 (omega arith) in
    let e4 = at 4 (omega arith) ∙ ap (peek m) four in
    record {
      signature = t.0 ∙ e0 ∙ ap (peek m) zero;
      owner = t.1 ∙ omega (arith, e1, e2);
      size = t.2 ∙ omega (arith, e3, e4);
      bytes = λ k less. subst (λ v. v < 256) (at k (omega arith)) (x.are_bytes k);
    }
