-- Where the bytes of a span are.
use Rattle.std.proofs.Common.{◌≡◌, ℕ, ◌+◌, ◌*◌, ◌/◌, ◌%◌, ◌<◌, ◌≤◌, List, Option, None, length, get_or, refl, ◌∙◌, ap, subst, arith}
use Rattle.std.specs.Prelude.{slice_index}
use Rattle.dm_pool.specs.declared.extent.Extent.{Extent}
use Rattle.dm_pool.specs.Blocks.{IsLive}
use Rattle.dm_space.specs.Memory.{Memory, IsPage, page_bytes}
use Rattle.dm_space.specs.Places.{IsShaped}
use Rattle.dm_space.specs.inner.SideBySide.{shift}
use Rattle.dm_space.proofs.Copies.{place-stretch}
use Rattle.dm_space.specs.declared.moves.spans.SpanKind.{SpanKind}
use Rattle.dm_space.specs.declared.moves.spans.SpanKind.TheVariants.{Linear, Pages, Single}
use Rattle.dm_space.specs.moves.Spans.{Span, place_by_kind, place_in, IsWithin, IsInside}

-- ---- fewer bytes, and another memory of one shape

within-less : (m : Memory) (kind : SpanKind) (blocks : List ℕ) (d e : ℕ) → d ≤ e → IsWithin m kind blocks e →
    IsWithin m kind blocks d
within-less m Linear blocks d e h w = omega (arith, h, w)
within-less m Pages blocks d e h w = (omega (arith, h, w.0), w.1)
within-less m Single blocks d e h w = (w.0, w.1, omega (arith, h, w.2))

pub inside-less : (m : Memory) (r : Span) (k n : ℕ) → k ≤ n → IsInside m r n → IsInside m r k
inside-less m r k n h i = record {
  small = omega (arith, h, i.small);
  within = within-less m r.kind r.blocks (r.start + k) (r.start + n) (omega (arith, h)) i.within;
}

live_kept : (m t : Memory) (b : ℕ) → IsShaped m t → IsLive m.blocks b → IsLive t.blocks b
live_kept m t b s p = (p.0, (p.1.0, ap (λ (xs : List (Option Extent)). get_or xs b None) s.places ∙ p.1.1))

within-shaped : (m t : Memory) (kind : SpanKind) (blocks : List ℕ) (e : ℕ) → IsShaped m t → IsWithin m kind blocks e →
    IsWithin t kind blocks e
within-shaped m t Linear blocks e s w = w
within-shaped m t Pages blocks e s w = (
  w.0,
  λ k h. let p = w.1 k h in (
    live_kept m t (slice_index blocks k) s p.0,
    s.page_sizes (slice_index blocks k) ∙ p.1,
  ),
)
within-shaped m t Single blocks e s w = (
  w.0,
  live_kept m t (slice_index blocks 0) s w.1,
  omega (arith, w.2, s.page_sizes (slice_index blocks 0)),
)

pub inside-shaped : (m t : Memory) (r : Span) (n : ℕ) → IsShaped m t → IsInside m r n → IsInside t r n
inside-shaped m t r n s i = record {
  small = i.small;
  within = within-shaped m t r.kind r.blocks (r.start
      + n) s i.within;
}

-- ---- by kind

abbrev Of : Memory → Span → ℕ → SpanKind → Type 0
Of m r n kind = IsWithin m kind r.blocks (r.start + n)

pub linear-end : (m : Memory) (r : Span) (n : ℕ) → IsInside m r n → r.kind ≡ Linear → r.start + n ≤ 0x10FFF0
linear-end m r n i e = subst (Of m r n) e i.within

pub pages-end : (m : Memory) (r : Span) (n : ℕ) → IsInside m r n → r.kind ≡ Pages →
    r.start + n ≤ 0x4000 * length r.blocks
pages-end m r n i e = (subst (Of m r n) e i.within).0

-- the index of the block with byte k
pub page-below : (m : Memory) (r : Span) (k n : ℕ) → IsInside m r (k + n) → 0 < n → r.kind ≡ Pages →
    (r.start + k) / 0x4000 < length r.blocks
page-below m r k n i some e = omega (arith, pages-end m r (k + n) i e)

pub page-of : (m : Memory) (r : Span) (k n : ℕ) → IsInside m r (k + n) → 0 < n → r.kind ≡ Pages →
    IsPage m (slice_index r.blocks ((r.start + k) / 0x4000))
page-of m r k n i some e = (subst (Of m r (k + n)) e i.within).1 _ (page-below m r k n i some e)

abbrev pub IsSingle : Memory → Span → ℕ → Type 0
IsSingle m r n = (length r.blocks ≡ 1) × IsLive m.blocks (slice_index r.blocks 0) ×
    (r.start + n ≤ length (page_bytes m (slice_index r.blocks 0)))

pub single-of : (m : Memory) (r : Span) (n : ℕ) → IsInside m r n → r.kind ≡ Single → IsSingle m r n
single-of m r n i e = subst (Of m r n) e i.within

-- ---- places side by side

spot-stretch : (m : Memory) (kind : SpanKind) (blocks : List ℕ) (a i : ℕ) → a % 0x4000 + i < 0x4000 →
    IsWithin m kind blocks (a + i + 1) → place_by_kind m kind blocks (a + i) ≡ shift (place_by_kind m kind blocks a) i
spot-stretch m Linear blocks a i h w = place-stretch m a i h (omega (arith, w))
spot-stretch m Pages blocks a i h w =
    let q : (a + i) / 0x4000 ≡ a / 0x4000 = omega arith in
    let r : (a + i) % 0x4000 ≡ a % 0x4000 + i = omega arith in
    rw (q, r) refl
spot-stretch m Single blocks a i h w = refl

pub place-in-stretch : (m : Memory) (r : Span) (k n i : ℕ) → IsInside m r (k + n) →
    (r.start + k) % 0x4000 + n ≤ 0x4000 →
    i < n → place_in m r (k + i) ≡ shift (place_in m r k) i
place-in-stretch m r k n i inside cell h =
    let e : r.start + (k + i) ≡ r.start + k + i = omega arith in
    let top : r.start + k + i + 1 ≤ r.start + (k + n) = omega arith in
    ap (place_by_kind m r.kind r.blocks) e
    ∙ spot-stretch m r.kind r.blocks (r.start + k) i (omega arith) (within-less m r.kind r.blocks (r.start + k + i + 1)
    (r.start + (k + n)) top inside.within)
