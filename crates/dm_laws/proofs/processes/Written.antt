-- What writes leave, by linear addresses.
use Rattle.std.proofs.Common.{Bool, ◌≡◌, ◌≢◌, ℕ, zero, suc, ◌+◌, ◌-◌, ◌*◌, ◌/◌, ◌%◌, ◌<◌, ◌≤◌, true, false, if◌then◌else◌, List, [], ◌∷◌, ◌++◌, length, get_or, Option, Some, None, ◌⊎◌, inl, inr, refl, sym, ◌∙◌, ap, subst, arith, nat_lt}
use Rattle.std.specs.Prelude.{IfSome, slice_index_or}
use Rattle.dm_pool.specs.Blocks.{IsLive}
use Rattle.dm_pool.specs.declared.extent.Extent.{Extent}
use Rattle.dm_space.specs.declared.place.Place.{Place}
use Rattle.dm_space.specs.declared.place.Place.TheVariants.{Low, Rom, Nothing}
use Rattle.dm_space.specs.Memory.{Fits, IsPage, Memory, linear, peek, place, poke, shown}
use Rattle.dm_space.specs.Places.{IsShaped, IsWritable}
use Rattle.dm_space.proofs.Places.{linear-low, place-low, poke-poked, poke-shaped, poked-kept, poked-read}
use Rattle.dm_proc.specs.Writes.{Write, apply, block_address, bytes_from, upwards}

-- what has the same map fits the machine, too
if-some : (o : Option ℕ) (P Q : ℕ → Type 0) → ((x : ℕ) → P x → Q x) → IfSome o P → IfSome o Q
if-some None P Q f h = h
if-some (Some x) P Q f h = f x h

pub fits-shaped : (m n : Memory) → IsShaped m n → Fits m → Fits n
fits-shaped m n s f = record {
  low_length = s.ram_size ∙ f.low_length;
  windows_are_four = ap length s.windows ∙ f.windows_are_four;
  pages_there = λ k. (let P : List (Option ℕ) → Type 0 = λ ws. IfSome (slice_index_or ws k None)
      (λ page. IsPage n page) in
      subst P (sym s.windows) (if-some (slice_index_or m.windows k None) (λ page. IsPage m page) (λ page. IsPage n page)
      (λ page h. (live page h.0, s.page_sizes page ∙ h.1)) (f.pages_there k)));
}
  where
    live : (page : ℕ) → IsLive m.blocks page → IsLive n.blocks page
    live page h = (
      h.0,
      (
        h.1.0,
        subst (λ (ps : List (Option Extent)). slice_index_or ps page None
            ≡ Some h.1.0) (sym s.places) h.1.1,
      ),
    )

pub fits-poke : (m : Memory) (a v : ℕ) → Fits m → Fits (poke m a v)
fits-poke m a v f = fits-shaped m (poke m a v) (poke-shaped m a v) f

pub fits-apply : (ws : List Write) (m : Memory) → Fits m → Fits (apply ws m)
fits-apply [] m f = f
fits-apply (w ∷ ws) m f = fits-apply ws (poke m w.address w.byte) (fits-poke m w.address w.byte f)

-- a byte of RAM has one address
low-same : (a b : ℕ) → Low a ≡ Low b → a ≡ b
low-same a b e = cc

shown-not : (o : Option ℕ) (k b : ℕ) → shown o k ≡ Low b → ⊥
shown-not None k b e = cc
shown-not (Some page) k b e = cc

either-place : (t : Bool) (p q : Place) (a b : ℕ) → (p ≡ Low b → a ≡ b) → (q ≡ Low b → a ≡ b) →
    (if t then p else q) ≡ Low b → a ≡ b
either-place true p q a b f g e = f e
either-place false p q a b f g e = g e

nothing-not : (a b : ℕ) → Nothing ≡ Low b → a ≡ b
nothing-not a b e = absurd (let z = e in cc)

rom-not : (k a b : ℕ) → Rom k ≡ Low b → a ≡ b
rom-not k a b e = absurd (let z = e in cc)

pub low-place : (m : Memory) (a b : ℕ) → place m a ≡ Low b → a ≡ b
unfolding place
low-place m a b =
    either-place (nat_lt a 0xC0000) (Low a) _ a b (low-same a b)
    (either-place (nat_lt a 0xD0000) Nothing _ a b (nothing-not a b)
    (either-place (nat_lt a 0xE0000) (Low a) _ a b (low-same a b)
    (either-place (nat_lt a 0xF0000) _ _ a b (λ e. absurd (shown-not _ _ b e))
    (either-place (nat_lt a 0x100000) (Rom (a - 0xF0000)) _ a b (rom-not (a - 0xF0000) a b)
    (either-place (nat_lt a 0x10FFF0) (Low a) Nothing a b (low-same a b) (nothing-not a b))))))

pub apart : (m : Memory) (a b : ℕ) → b < 0xC0000 → a ≢ b → place m a ≢ place m b
apart m a b h ne e = ne (low-place m a b (e ∙ place-low m b h))

pub apply-append : (ws vs : List Write) (m : Memory) → apply (ws ++ vs) m ≡ apply vs (apply ws m)
apply-append [] vs m = refl
apply-append (w ∷ ws) vs m = apply-append ws vs (poke m w.address w.byte)

-- writes between two addresses
abbrev pub Between : ℕ → ℕ → List Write → Type 0
Between lo hi [] = Unit {0}
Between lo hi (w ∷ ws) = (lo ≤ w.address) × (w.address < hi) × Between lo hi ws

pub between-append : (lo hi : ℕ) (ws vs : List Write) → Between lo hi ws → Between lo hi vs → Between lo hi (ws ++ vs)
between-append lo hi [] vs b c = c
between-append lo hi (w ∷ ws) vs b c = (b.0, b.1, between-append lo hi ws vs b.2 c)

pub straight : (a20 : Bool) (s k : ℕ) → 16 * s + k < 0xC0000 → block_address a20 s k ≡ 16 * s + k
straight a20 s k h =
    let x : (s + k / 16) % 65536 * 16 + k % 16 ≡ 16 * s + k = omega arith in
    linear-low a20 ((s + k / 16) % 65536) (k % 16) (omega arith) ∙ x

pub upwards-between : (a20 : Bool) (s k lo hi : ℕ) (bytes : List ℕ) → lo ≤ 16 * s + k → 16 * s + k + length bytes ≤ hi →
    hi ≤ 0xC0000 → Between lo hi (upwards a20 s k bytes)
upwards-between a20 s k lo hi [] f g h = tt
upwards-between a20 s k lo hi (b ∷ bytes) f g h =
    let at = straight a20 s k (omega arith) in
    (omega arith, omega arith, upwards-between a20 s (suc k) lo hi bytes (omega arith) (omega arith) h)

-- other bytes stay
pub untouched : (lo hi a : ℕ) (ws : List Write) (m : Memory) → Between lo hi ws → hi ≤ 0xC0000 → (a < lo) ⊎ (hi ≤ a) →
    Fits m → peek (apply ws m) a ≡ peek m a
untouched lo hi a [] m b h o f = refl
untouched lo hi a (w ∷ ws) m b h o f =
    let low = b.0 in
    let high = b.1 in
    let ne : a ≢ w.address = λ e. elim o [ inl x ↦ omega arith | inr x ↦ omega arith ] in
    untouched lo hi a ws (poke m w.address w.byte) b.2 h o (fits-poke m w.address w.byte f)
    ∙ poked-kept m w.address w.byte (poke m w.address w.byte) a (poke-poked m w.address w.byte f)
    (apart m a w.address (omega arith) ne)

-- what is written stands there
poke-read : (m : Memory) (a v : ℕ) → Fits m → a < 0xC0000 → peek (poke m a v) a ≡ v
poke-read m a v f h = poked-read m a v (poke m a v) (poke-poked m a v f) (subst IsWritable (sym (place-low m a h)) tt)

pub upwards-read : (a20 : Bool) (s k i : ℕ) (bytes : List ℕ) (m : Memory) → Fits m → i < length bytes →
    16 * s + k + length bytes ≤ 0xC0000 → peek (apply (upwards a20 s k bytes) m) (16 * s + k + i) ≡ get_or bytes i 0
upwards-read a20 s k i [] m f l h = absurd (omega arith)
upwards-read a20 s k zero (b ∷ bytes) m f l h =
    let at = straight a20 s k (omega arith) in
    let a : 16 * s + k + 0 ≡ 16 * s + k = omega arith in
    ap (peek (apply (upwards a20 s (suc k) bytes) (poke m (block_address a20 s k) b))) a
    ∙ untouched (16 * s + suc k) (16 * s + k + suc (length bytes)) (16 * s + k) (upwards a20 s (suc k) bytes)
    (poke m (block_address a20 s k) b) (upwards-between a20 s (suc k) _ _ bytes (omega arith) (omega arith) h) h
    (inl (omega arith)) (fits-poke m _ b f)
    ∙ ap (λ x. peek (poke m x b) (16 * s + k)) at ∙ poke-read m (16 * s + k) b f (omega arith)
upwards-read a20 s k (suc i) (b ∷ bytes) m f l h =
    let a : 16 * s + k + suc i ≡ 16 * s + suc k + i = omega arith in
    ap (peek (apply (upwards a20 s (suc k) bytes) (poke m (block_address a20 s k) b))) a
    ∙ upwards-read a20 s (suc k) i bytes (poke m (block_address a20 s k) b) (fits-poke m _ b f) (omega arith)
    (omega arith)

-- bytes that are read
pub from-length : (m : Memory) (s o n : ℕ) → length (bytes_from m s o n) ≡ n
from-length m s o zero = refl
from-length m s o (suc n) = ap suc (from-length m s (suc o) n)

pub from-get : (m : Memory) (s o n i : ℕ) → i < n → get_or (bytes_from m s o n) i 0
    ≡ peek m (linear m.a20 s ((o + i) % 65536))
from-get m s o zero i h = absurd (omega arith)
from-get m s o (suc n) zero h = ap (λ z. peek m (linear m.a20 s (z % 65536))) (let e : o ≡ o + 0 = omega arith in e)
from-get m s o (suc n) (suc i) h = from-get m s (suc o) n i (omega arith)
    ∙ ap (λ z. peek m (linear m.a20 s (z % 65536))) (let e : suc o + i ≡ o + suc i = omega arith in e)

pub from-low : (m : Memory) (s o n i : ℕ) → i < n → o + n ≤ 65536 → 16 * s + o + n ≤ 0xC0000 →
    get_or (bytes_from m s o n) i 0 ≡ peek m (16 * s + o + i)
from-low m s o n i h k l =
    let x : (o + i) % 65536 ≡ o + i = omega arith in
    let y : s * 16 + (o + i) ≡ 16 * s + o + i = omega arith in
    from-get m s o n i h ∙ ap (λ z. peek m (linear m.a20 s z)) x ∙ ap (peek m) (linear-low m.a20 s (o + i) (omega arith)
    ∙ y)

-- two of as many bytes are the same if each is
pub from-same : (m n : Memory) (s t o p k : ℕ) → ((i : ℕ) → i < k → get_or (bytes_from m s o k) i 0
    ≡ get_or (bytes_from n t p k) i 0) → bytes_from m s o k ≡ bytes_from n t p k
from-same m n s t o p k same = list-same (bytes_from m s o k) (bytes_from n t p k) (from-length m s o k
    ∙ sym (from-length n t p k)) (λ i h. same i (let e = from-length m s o k in omega arith))
  where
    list-same : (xs ys : List ℕ) → length xs ≡ length ys → ((i : ℕ) → i < length xs → get_or xs i 0 ≡ get_or ys i 0) →
        xs ≡ ys
    list-same [] [] e f = refl
    list-same [] (y ∷ ys) e f = absurd (omega arith)
    list-same (x ∷ xs) [] e f = absurd (omega arith)
    list-same (x ∷ xs) (y ∷ ys) e f = ap (λ z. z ∷ xs) (f 0 (omega arith))
        ∙ ap (λ zs. y ∷ zs) (list-same xs ys (omega arith) (λ i h. f (suc i) (omega arith)))
