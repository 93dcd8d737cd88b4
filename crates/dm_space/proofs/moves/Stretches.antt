-- Stretches of a span's bytes, and one stretch after another.
use Rattle.std.proofs.Common.{◌≡◌, ℕ, zero, suc, ◌+◌, ◌/◌, ◌%◌, ◌<◌, ◌≤◌, List, [], ◌∷◌, ◌++◌, length, get_or, set, refl, sym, ◌∙◌, ap, subst, arith, inl, get_or-set_same}
use Rattle.std.specs.Prelude.{slice_index}
use Rattle.std.proofs.lemmas.List.{length-set, get_or_default}
use Rattle.dm_region.specs.Parts.{part, with_part}
use Rattle.dm_pool.specs.Blocks.{with_content, moved_bytes}
use Rattle.dm_region.proofs.Written.{twice, written, elsewhere}
use Rattle.dm_pool.proofs.Blocks.{part_length, set_twice}
use Rattle.dm_region.proofs.Bytes.{length-with_part}
use Rattle.dm_space.specs.declared.place.Place.TheVariants.{Page}
use Rattle.dm_space.specs.Copies.{values, bytes_written, copied_in, copied_out, block_copied_in, block_copied_out}
use Rattle.dm_space.specs.Memory.{Memory, Held, place, peek, poke, byte_at, page_bytes, with_blocks, with_byte}
use Rattle.dm_space.specs.inner.SideBySide.{with_stretch}
use Rattle.dm_space.proofs.Copies.{length-values, values-more, values-part, part-more, none-written, one-more, same-content}
use Rattle.dm_space.proofs.Places.{peek-place, page-there}
use Rattle.dm_space.specs.declared.moves.spans.SpanKind.TheVariants.{Linear, Pages, Single}
use Rattle.dm_space.specs.moves.Spans.{Span, place_by_kind, place_in, byte_in, bytes_in, span_written, span_moved, spans_exchanged, IsInside}
use Rattle.dm_space.specs.moves.inner.Copying.{read_in, written_out}
use Rattle.dm_space.proofs.moves.Inside.{page-of, single-of, inside-shaped}
use Rattle.dm_space.proofs.moves.Shapes.{stored-shaped}

-- ---- linear addresses

values-from : (f g : ℕ → ℕ) (s k n : ℕ) → ((j : ℕ) → f (s + j) ≡ g j) → values f (s + k) n ≡ values g k n
values-from f g s k zero h = refl
values-from f g s k (suc n) h =
    let e : suc (s + k) ≡ s + suc k = omega arith in
    ap (λ v. v ∷ values f (suc (s + k)) n) (h k) ∙ ap (λ xs. g k ∷ xs) (ap (λ a. values f a n) e
    ∙ values-from f g s (suc k) n h)

pub read-linear : (h : Held) (r : Span) (k at n : ℕ) → r.kind ≡ Linear → copied_in h (r.start + k) at n
    ≡ read_in h r k at n
read-linear h r k at n e =
    ap (λ (xs : List ℕ). record h { scratch = with_part h.scratch at n xs })
    (values-from (peek h.memory) (byte_in h.memory r) r.start k n
    (λ j. peek-place h.memory (r.start + j) ∙ ap (λ kind. byte_at h.memory (place_by_kind h.memory kind r.blocks
    (r.start + j))) (sym e)))

poked : (m : Memory) (a v : ℕ) → poke m a v ≡ with_byte m (place m a) v
unfolding poke
poked m a v = refl

stored-linear : (vs : List ℕ) (m : Memory) (r : Span) (k : ℕ) → r.kind ≡ Linear →
    bytes_written m (r.start + k) vs ≡ span_written m r k vs
stored-linear [] m r k e = refl
stored-linear (v ∷ vs) m r k e =
    let next : suc (r.start + k) ≡ r.start + suc k = omega arith in
    let first : poke m (r.start + k) v ≡ with_byte m (place_in m r k) v = poked m (r.start + k) v
    ∙ ap (λ kind. with_byte m (place_by_kind m kind r.blocks (r.start + k)) v) (sym e) in
    ap (λ (t : Memory). bytes_written t (suc (r.start + k)) vs) first
    ∙ ap (λ a. bytes_written (with_byte m (place_in m r k) v) a vs) next
    ∙ stored-linear vs (with_byte m (place_in m r k) v) r (suc k) e

pub write-linear : (h : Held) (r : Span) (k at n : ℕ) → r.kind ≡ Linear → copied_out h at (r.start + k) n
    ≡ written_out h r k at n
write-linear h r k at n e = ap (λ (m : Memory). record h { memory = m })
    (stored-linear (part h.scratch at n) h.memory r k e)

-- ---- blocks

-- the n bytes of a span from its byte k on are those of a block from its byte o on, in each memory
abbrev IsBlockStretch : Span → ℕ → ℕ → ℕ → ℕ → Type 0
IsBlockStretch r k p o n = (t : Memory) (i : ℕ) → i < n → place_in t r (k + i) ≡ Page p (o + i)

block-read : (m : Memory) (r : Span) (k p o n : ℕ) → IsBlockStretch r k p o n → o + n ≤ length (page_bytes m p) →
    part (page_bytes m p) o n ≡ values (byte_in m r) k n
block-read m r k p o n stretch fits = sym (values-part (byte_in m r) k n (page_bytes m p) o fits
    (λ i h. ap (byte_at m) (stretch m i h)))

with_contents : Memory → List (List ℕ) → Memory
with_contents m cs = with_blocks m (record m.blocks { contents = cs })

block-stored : (vs : List ℕ) (m : Memory) (r : Span) (k p o : ℕ) → IsBlockStretch r k p o (length vs) →
    p < length m.blocks.contents → o + length vs ≤ length (page_bytes m p) →
    span_written m r k vs ≡ with_stretch m (Page p o) (length vs) vs
unfolding with_contents
block-stored [] m r k p o stretch live fits =
    ap (with_contents m) (sym (ap (set m.blocks.contents p) (none-written (page_bytes m p) o)
    ∙ same-content m.blocks.contents p))
block-stored (v ∷ vs) m r k p o stretch live fits =
    let xs = page_bytes m p in
    let cs = m.blocks.contents in
    let t : Memory = with_blocks m (with_content m.blocks p (set xs o v)) in
    let here : k ≡ k + 0 = omega arith in
    let there : o + 0 ≡ o = omega arith in
    let page : page_bytes t p ≡ set xs o v = get_or-set_same cs p (set xs o v) [] live in
    let first : with_byte m (place_in m r k) v ≡ t = ap (λ q. with_byte m q v) (ap (λ j. place_in m r j) here
    ∙ stretch m 0 (omega arith) ∙ ap (Page p) there) in
    let rest : IsBlockStretch r (suc k) p (suc o) (length vs) = λ u i h.
    let e : suc k + i ≡ k + suc i = omega arith in let f : o + suc i ≡ suc o + i = omega arith in
    ap (λ j. place_in u r j) e ∙ stretch u (suc i) (omega arith) ∙ ap (Page p) f in
    ap (λ (x : Memory). span_written x r (suc k) vs) first
    ∙ block-stored vs t r (suc k) p (suc o) rest (omega (arith, length-set cs p (set xs o v), live)) (omega (
      arith,
      ap length page,
      length-set xs o v,
      fits,
    ))
    ∙ ap (λ (ys : List ℕ). with_contents m (set (set cs p (set xs o v)) p (with_part ys (suc o) (length vs) vs))) page
    ∙ ap (with_contents m) (set_twice cs p (set xs o v) (with_part (set xs o v) (suc o) (length vs) vs))
    ∙ ap (λ (ys : List ℕ). with_contents m (set cs p ys)) (one-more xs vs o v (omega (arith, fits)))

read-block : (h : Held) (r : Span) (k p o at n : ℕ) → IsBlockStretch r k p o n →
    o + n ≤ length (page_bytes h.memory p) →
    block_copied_in h p o at n ≡ read_in h r k at n
read-block h r k p o at n stretch fits = ap (λ (xs : List ℕ). record h { scratch = with_part h.scratch at n xs })
    (block-read h.memory r k p o n stretch fits)

write-block : (h : Held) (r : Span) (k p o at n : ℕ) → IsBlockStretch r k p o n → 0 < n → at + n ≤ length h.scratch →
    o + n ≤ length (page_bytes h.memory p) → block_copied_out h at p o n ≡ written_out h r k at n
write-block h r k p o at n stretch some room fits =
    let vs = part h.scratch at n in
    let long : length vs ≡ n = part_length h.scratch at n room in
    let back : n ≡ length vs = sym long in
    let live = page-there h.memory.blocks.contents p 0 (omega (arith, fits, some)) in
    ap (λ (m : Memory). record h { memory = m })
    (sym (block-stored vs h.memory r k p o (subst (IsBlockStretch r k p o) back stretch) live (omega
    (arith, fits, long))
    ∙ ap (λ j. with_stretch h.memory (Page p o) j vs) long))

-- the places of a stretch of pages, in each memory
pages-stretch : (r : Span) (k n : ℕ) → r.kind ≡ Pages → (r.start + k) % 0x4000 + n ≤ 0x4000 →
    IsBlockStretch r k (slice_index r.blocks ((r.start + k) / 0x4000)) ((r.start + k) % 0x4000) n
pages-stretch r k n e cell t i h =
    let a = r.start + k in
    let s : r.start + (k + i) ≡ a + i = omega arith in
    let q : (a + i) / 0x4000 ≡ a / 0x4000 = omega arith in
    let m : (a + i) % 0x4000 ≡ a % 0x4000 + i = omega arith in
    ap (λ kind. place_by_kind t kind r.blocks (r.start + (k + i))) e ∙ rw (s, q, m) refl

single-stretch : (r : Span) (k n : ℕ) → r.kind ≡ Single → IsBlockStretch r k (slice_index r.blocks 0) (r.start + k) n
single-stretch r k n e t i h = let s : r.start + (k + i) ≡ r.start + k + i = omega arith in
    ap (λ kind. place_by_kind t kind r.blocks (r.start + (k + i))) e ∙ ap (Page (slice_index r.blocks 0)) s

pub read-pages : (h : Held) (r : Span) (k at n : ℕ) → r.kind ≡ Pages → IsInside h.memory r (k + n) → 0 < n →
    (r.start + k) % 0x4000 + n ≤ 0x4000
    → block_copied_in h (slice_index r.blocks ((r.start + k) / 0x4000)) ((r.start + k) % 0x4000) at n
    ≡ read_in h r k at n
read-pages h r k at n e inside some cell =
    read-block h r k _ _ at n (pages-stretch r k n e cell) (omega (
      arith,
      cell,
      (page-of h.memory r k n inside some e).1,
    ))

pub write-pages : (h : Held) (r : Span) (k at n : ℕ) → r.kind ≡ Pages → IsInside h.memory r (k + n) → 0 < n →
    (r.start + k) % 0x4000 + n ≤ 0x4000 → at + n ≤ length h.scratch
    → block_copied_out h at (slice_index r.blocks ((r.start + k) / 0x4000)) ((r.start + k) % 0x4000) n
    ≡ written_out h r k at n
write-pages h r k at n e inside some cell room =
    write-block h r k _ _ at n (pages-stretch r k n e cell) some room (omega (
      arith,
      cell,
      (page-of h.memory r k n inside some e).1,
    ))

pub read-single : (h : Held) (r : Span) (k at n : ℕ) → r.kind ≡ Single → IsInside h.memory r (k + n) →
    block_copied_in h (slice_index r.blocks 0) (r.start + k) at n ≡ read_in h r k at n
read-single h r k at n e inside = read-block h r k _ _ at n (single-stretch r k n e) (omega (
  arith,
  (single-of h.memory r (k + n) inside e).2,
))

pub write-single : (h : Held) (r : Span) (k at n : ℕ) → r.kind ≡ Single → IsInside h.memory r (k + n) → 0 < n →
    at + n ≤ length h.scratch
    → block_copied_out h at (slice_index r.blocks 0) (r.start + k) n ≡ written_out h r k at n
write-single h r k at n e inside some room = write-block h r k _ _ at n (single-stretch r k n e) some room (omega (
  arith,
  (single-of h.memory r (k + n) inside e).2,
))

-- ---- one stretch after another

stored-more : (xs ys : List ℕ) (m : Memory) (r : Span) (k : ℕ) → span_written m r k (xs ++ ys)
    ≡ span_written (span_written m r k xs) r (k + length xs) ys
stored-more [] ys m r k = let e : k ≡ k + 0 = omega arith in ap (λ j. span_written m r j ys) e
stored-more (x ∷ xs) ys m r k =
    let t = with_byte m (place_in m r k) x in
    let e : suc k + length xs ≡ k + suc (length xs) = omega arith in
    stored-more xs ys t r (suc k) ∙ ap (λ j. span_written (span_written t r (suc k) xs) r j ys) e

pub read-none : (h : Held) (r : Span) (k at : ℕ) → h ≡ read_in h r k at 0
read-none h r k at = ap (λ (s : List ℕ). record h { scratch = s }) (sym (none-written h.scratch at))

pub read-more : (h : Held) (r : Span) (at n k : ℕ) → at + n + k ≤ length h.scratch →
    read_in (read_in h r 0 at n) r n (at + n) k ≡ read_in h r 0 at (n + k)
read-more h r at n k fits =
    let f = byte_in h.memory r in
    let e : 0 + n ≡ n = omega arith in
    ap (λ (s : List ℕ). record h { scratch = s })
    (twice h.scratch (values f 0 n) (values f n k) at n k (length-values f 0 n) (length-values f n k) fits
    ∙ ap (with_part h.scratch at (n + k)) (sym (values-more f 0 n k ∙ ap (λ a. values f 0 n ++ values f a k) e)))

pub write-none : (h : Held) (r : Span) (k at : ℕ) → h ≡ written_out h r k at 0
write-none h r k at = refl

pub write-more : (h : Held) (r : Span) (at n k : ℕ) → at + n ≤ length h.scratch →
    written_out (written_out h r 0 at n) r n (at + n) k ≡ written_out h r 0 at (n + k)
write-more h r at n k fits =
    let e : n ≡ 0 + length (part h.scratch at n) = omega (arith, part_length h.scratch at n fits) in
    ap (λ (m : Memory). record h { memory = m })
    (ap (λ b. span_written (span_written h.memory r 0 (part h.scratch at n)) r b (part h.scratch (at + n) k)) e
    ∙ sym (ap (span_written h.memory r 0) (part-more h.scratch at n k)
    ∙ stored-more (part h.scratch at n) (part h.scratch (at + n) k) h.memory r 0))

-- a block of a list
pub indexed : {xs ys : List ℕ} {i j b : ℕ} → b ≡ get_or xs i b → xs ≡ ys → i ≡ j → j < length ys → b ≡ slice_index ys j
indexed {xs} {ys} {i} {j} {b} is same at low = is ∙ ap (λ l. get_or l i b) same ∙ ap (λ k. get_or ys k b) at
    ∙ get_or_default ys j b 0 low

-- ---- whole moves

pub move-done : (h s t : Held) (from to : Span) (n : ℕ) → n ≤ length h.scratch → s ≡ read_in h from 0 0 n →
    t ≡ written_out s to 0 0 n → t.memory ≡ span_moved h.memory from to n
move-done h s t from to n fits e f =
    let vs = bytes_in h.memory from n in
    ap (λ (x : Held). x.memory) (f ∙ ap (λ (x : Held). written_out x to 0 0 n) e)
    ∙ ap (span_written h.memory to 0) (written h.scratch vs 0 n (length-values (byte_in h.memory from) 0 n)
    (omega (arith, fits)))

-- bytes of one block, written to another or the same
pub blocks-done : (h : Held) (from to : Span) (p q n : ℕ) → from.kind ≡ Single → to.kind ≡ Single →
    p ≡ slice_index from.blocks 0 → q ≡ slice_index to.blocks 0 → 0 < n → IsInside h.memory from n →
    IsInside h.memory to n
    → with_blocks h.memory (moved_bytes h.memory.blocks p (from.start + 0) q (to.start + 0) n)
    ≡ span_moved h.memory from to n
blocks-done h from to p q n e f is js some inside there =
    let m = h.memory in
    let xs = part (page_bytes m p) (from.start + 0) n in
    let in_from : from.start + 0 + n ≤ length (page_bytes m p) =
    subst (λ b. from.start + 0 + n ≤ length (page_bytes m b)) (sym is) (omega (
      arith,
      (single-of m from n inside e).2,
    )) in
    let in_to : to.start + 0 + n ≤ length (page_bytes m q) =
    subst (λ b. to.start + 0 + n ≤ length (page_bytes m b)) (sym js) (omega (
      arith,
      (single-of m to n there f).2,
    )) in
    let stretch : IsBlockStretch from 0 p (from.start + 0) n = subst (λ b. IsBlockStretch from 0 b
    (from.start + 0) n) (sym is)
    (single-stretch from 0 n e) in
    let goes : IsBlockStretch to 0 q (to.start + 0) n = subst (λ b. IsBlockStretch to 0 b (to.start + 0) n) (sym js)
    (single-stretch to 0 n f) in
    let read : xs ≡ bytes_in m from n = block-read m from 0 p (from.start + 0) n stretch in_from in
    let long : length xs ≡ n = part_length (page_bytes m p) (from.start + 0) n in_from in
    let back : n ≡ length xs = sym long in
    let live = page-there m.blocks.contents q 0 (omega (arith, in_to, some)) in
    sym (block-stored xs m to 0 q (to.start + 0) (subst (IsBlockStretch to 0 q (to.start + 0)) back goes) live
    (omega (arith, in_to, long)) ∙ ap (λ j. with_stretch m (Page q (to.start + 0)) j xs) long)
    ∙ ap (span_written m to 0) read

pub still-inside : (m : Memory) (t u : Held) (to from : Span) (at n len : ℕ) → t.memory ≡ m →
    u ≡ written_out t to 0 at n → IsInside m from len → IsInside u.memory from len
still-inside m t u to from at n len e f inside =
    subst (λ (x : Held). IsInside x.memory from len) (sym f)
    (inside-shaped t.memory (written_out t to 0 at n).memory from len (stored-shaped t.memory to 0
    (part t.scratch at n)) (subst (λ (x : Memory). IsInside x from len) (sym e) inside))

pub exchange-done : (h s t u v : Held) (from to : Span) (n : ℕ) → n + n ≤ length h.scratch → s ≡ read_in h from 0 0 n →
    t ≡ read_in s to 0 n n → u ≡ written_out t to 0 0 n → v ≡ written_out u from 0 n n →
    v.memory ≡ spans_exchanged h.memory from to n
exchange-done h s t u v from to n fits e f g i =
    let xs = bytes_in h.memory from n in let ys = bytes_in h.memory to n in
    let ex = length-values (byte_in h.memory from) 0 n in let ey = length-values (byte_in h.memory to) 0 n in
    let both = with_part (with_part h.scratch 0 n xs) n n ys in
    let long : length (with_part h.scratch 0 n xs) ≡ length h.scratch =
    length-with_part h.scratch xs 0 n (omega (arith, fits)) ex in
    let room : n + n ≤ length (with_part h.scratch 0 n xs) = omega (arith, long, fits) in
    let first : part both 0 n ≡ xs = elsewhere (with_part h.scratch 0 n xs) ys n n 0 n ey room (inl (omega arith))
    ∙ written h.scratch xs 0 n ex (omega (arith, fits)) in
    let second : part both n n ≡ ys = written (with_part h.scratch 0 n xs) ys n n ey room in
    let is : t ≡ record h { scratch = both } = f ∙ ap (λ (x : Held). read_in x to 0 n n) e in
    ap (λ (x : Held). x.memory) (i ∙ ap (λ (x : Held). written_out x from 0 n n) (g
    ∙ ap (λ (x : Held). written_out x to 0 0 n) is))
    ∙ ap (λ (ws : List ℕ). span_written (span_written h.memory to 0 ws) from 0 (part both n n)) first
    ∙ ap (span_written (span_written h.memory to 0 xs) from 0) second
