-- The bytes of blocks.
use Rattle.std.proofs.Common.{◌≡◌, ◌≢◌, ℕ, ◌*◌, ◌+◌, ◌<◌, ◌≤◌, List, [], ◌∷◌, ◌⊎◌, inl, inr, sym, ◌∙◌, ap, subst, arith}
use Rattle.dm_space.specs.Memory.{Memory, byte_at, place}
use Rattle.dm_space.proofs.Places.{peek-place, place-low-injective, place-shaped}
use Rattle.dm_blocks.specs.declared.header.Header.{Header}
use Rattle.dm_blocks.specs.Chain.{Becomes, HasHeader, IsArena, first_header, next}
use Rattle.dm_blocks.proofs.Unique.{arena_unique}
use Rattle.dm_arena.specs.Blocks.{IsIn}
use Rattle.dm_arena.specs.inner.Walks.{Fills}
use Rattle.dm_arena.proofs.Ends.{fills_above, fills_below, fills_ends, fills_of}
use Rattle.dm_laws.specs.arena.Contents.{CallsKeepContents, KeepsContents}
use Rattle.dm_laws.specs.arena.Paragraphs.{paragraphs_taken}
use Rattle.dm_laws.proofs.arena.Conserved.{becomes_arena}

pub fills-length : (h t : ℕ) (L : List Header) → Fills h L t → h + paragraphs_taken L ≡ t
fills-length h t [] f = (let e : h ≡ t = f in omega arith)
fills-length h t (b ∷ L) f = (let e = f.0 in let x = fills-length (next b) t L f.1 in omega arith)

-- no header is within a block
pub outside : (h t : ℕ) (L : List Header) → Fills h L t → (b : Header) → IsIn b L → (g : ℕ) → HasHeader L g →
    (g ≤ b.segment) ⊎ (next b ≤ g)
outside h t [] f b i g w = absurd i
outside h t (c ∷ L) f b (inl e) g (inl q) = inl (let x = ap (λ z. z.segment) e in omega arith)
outside h t (c ∷ L) f b (inl e) g (inr w) = inr (let x = ap next e in let y = fills_above (next c) t L f.1 g w in
    omega arith)
outside h t (c ∷ L) f b (inr i) g (inl q) = inl (let x = above (next c) L f.1 i in omega arith)
  where
    above : (h : ℕ) (L : List Header) → Fills h L t → IsIn b L → h ≤ b.segment
    above h [] f i = absurd i
    above h (d ∷ L) f (inl e) = (let x = f.0 in let y = ap (λ z. z.segment) e in omega arith)
    above h (d ∷ L) f (inr i) = (let x = f.0 in let y = above (next d) L f.1 i in omega arith)
outside h t (c ∷ L) f b (inr i) g (inr w) = outside (next c) t L f.1 b i g w

pub within : (h t : ℕ) (L : List Header) → Fills h L t → (b : Header) → IsIn b L → next b ≤ t
within h t [] f b i = absurd i
within h t (c ∷ L) f b (inl e) = (let x = ap next e in let y = fills_ends (next c) t L f.1 in omega arith)
within h t (c ∷ L) f b (inr i) = within (next c) t L f.1 b i

becomes-keeps : (S T : Memory) (L : List Header) → Becomes S first_header L T → first_header + paragraphs_taken L
    ≤ 0xA000 → KeepsContents L S T
becomes-keeps S T L x low b a i from to =
    let r = fills_of T first_header L x.chain.1 in
    let t = fills-length first_header r.0 L r.1 in
    let inside = within first_header r.0 L r.1 b i in
    let apart : (h k : ℕ) → HasHeader L h → k < 5 → place S a ≢ place S (16 * h + k) = λ h k w small e. (
    let below = fills_below first_header r.0 L r.1 h w in
    let same : a ≡ 16 * h + k = place-low-injective S a (16 * h + k) (omega arith) (omega arith) e in
    elim (outside first_header r.0 L r.1 b i h w) [ inl y ↦ omega arith | inr y ↦ omega arith ]
    ) in
    peek-place T a ∙ ap (byte_at T) (place-shaped S T x.differs.shape a) ∙ x.differs.kept (place S a) apart
    ∙ sym (peek-place S a)

keeps-at : (S T : Memory) (L new : List Header) → Becomes S first_header L T → IsArena T first_header new →
    first_header + paragraphs_taken new ≤ 0xA000 → KeepsContents new S T
keeps-at S T L new x a low =
    let F : List Header → Type 0 = λ X. Becomes S first_header X T in
    becomes-keeps S T new (subst F (arena_unique T first_header L new (becomes_arena S T L x) a) x) low

pub keeps_contents : CallsKeepContents
keeps_contents upper S T new (inl x) a low = keeps-at S T _ new x.4.2 a low
keeps_contents upper S T new (inr (inl x)) a low = keeps-at S T _ new x.1.1 a low
keeps_contents upper S T new (inr (inr x)) a low = keeps-at S T _ new x.2.2 a low
