-- Five bytes as a number.
use Rattle.std.proofs.Common.{◌≡◌, ℕ, ◌+◌, ◌*◌, ◌%◌, ◌<◌, ◌≤◌, refl, sym, ◌∙◌, arith}
use Rattle.dm_space.specs.Memory.{Memory, linear, peek}
use Rattle.dm_space.specs.EightBytes.{IsEightBytes}
use Rattle.dm_blocks.proofs.Bytes.{read-at}
use Rattle.dm_blocks.proofs.Unique.{each_of_five}
use Rattle.dm_checker.specs.ArenaCopy.{IsBits}

-- a byte of a paragraph, as it was read with its segment
byte-at : (m : Memory) (h k : ℕ) → h ≤ 0xFFFF → k < 16 → peek m (linear m.a20 h k) ≡ peek m (16 * h + k)
byte-at m h k small less = read-at m h k _ small less refl

five-of : (a b c d e r w : ℕ) → a < 256 → b < 256 → c < 256 → d < 256 → e < 256 →
    w ≡ a + 256 * (b + 256 * (c + 256 * (d + 256 * (e + 256 * r)))) → w % 0x10000000000
    ≡ a + 256 * (b + 256 * (c + 256 * (d + 256 * (e + 256 * 0))))
five-of a b c d e r w ha hb hc hd he is = omega arith

joined : (a b c d e f g i k l : ℕ) → a ≡ f → b ≡ g → c ≡ i → d ≡ k → e ≡ l →
    a + 256 * (b + 256 * (c + 256 * (d + 256 * (e + 256 * 0))))
    ≡ f + 256 * (g + 256 * (i + 256 * (k + 256 * (l + 256 * 0))))
joined a b c d e f g i k l p q r s t = omega arith

pub bits_of_eight : (m : Memory) (h w : ℕ) → h ≤ 0xFFFF → IsEightBytes m h 0 w → IsBits m h (w % 0x10000000000)
bits_of_eight m h w small x =
    let b0 : peek m (linear m.a20 h 0) < 256 = x.bytes 0 in
    let b1 : peek m (linear m.a20 h 1) < 256 = x.bytes 1 in
    let b2 : peek m (linear m.a20 h 2) < 256 = x.bytes 2 in
    let b3 : peek m (linear m.a20 h 3) < 256 = x.bytes 3 in
    let b4 : peek m (linear m.a20 h 4) < 256 = x.bytes 4 in
    let e0 = byte-at m h 0 small (omega arith) in
    let e1 = byte-at m h 1 small (omega arith) in
    let e2 = byte-at m h 2 small (omega arith) in
    let e3 = byte-at m h 3 small (omega arith) in
    let e4 = byte-at m h 4 small (omega arith) in
    record {
      is = five-of _ _ _ _ _ _ w b0 b1 b2 b3 b4 x.is ∙ joined _ _ _ _ _ _ _ _ _ _ e0 e1 e2 e3 e4;
      bytes = each_of_five (λ k. peek m (16 * h + k) < 256) (omega (arith, e0)) (omega (arith, e1)) (omega (
        arith,
        e2,
      )) (omega (arith, e3)) (omega (arith, e4));
    }

-- two numbers of five bytes that are equal have equal bytes
low_byte : (x y u v : ℕ) → x < 256 → u < 256 → x + 256 * y ≡ u + 256 * v → (x ≡ u) × (y ≡ v)
low_byte x y u v a b e = (omega arith, omega arith)

pub same_bytes : (S T : Memory) (h v w : ℕ) → IsBits S h v → IsBits T h w → v ≡ w → (k : ℕ) → k < 5 →
    peek T (16 * h + k) ≡ peek S (16 * h + k)
same_bytes S T h v w x y e =
    let all = sym y.is ∙ sym e ∙ x.is in
    let one = low_byte _ _ _ _ (y.bytes 0 (omega arith)) (x.bytes 0 (omega arith)) all in
    let two = low_byte _ _ _ _ (y.bytes 1 (omega arith)) (x.bytes 1 (omega arith)) one.1 in
    let three = low_byte _ _ _ _ (y.bytes 2 (omega arith)) (x.bytes 2 (omega arith)) two.1 in
    let four = low_byte _ _ _ _ (y.bytes 3 (omega arith)) (x.bytes 3 (omega arith)) three.1 in
    let five = low_byte _ 0 _ 0 (y.bytes 4 (omega arith)) (x.bytes 4 (omega arith)) four.1 in
    each_of_five (λ k. peek T (16 * h + k) ≡ peek S (16 * h + k)) one.0 two.0 three.0 four.0 five.0
