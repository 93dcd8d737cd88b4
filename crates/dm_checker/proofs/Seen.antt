-- A memory that still shows what was kept: what was kept is a copy of it, and nothing is found between the two
-- memories.
use Rattle.std.proofs.Common.{◌≡◌, ℕ, ◌+◌, ◌*◌, ◌<◌, Bool, true, false, not, inl, inr, List, [], ◌∷◌, ◌++◌, map, Option, Some, None, refl, sym, ◌∙◌, ap, ap₂, subst}
use Rattle.std.specs.Prelude.{◌&&◌, if◌then◌else◌, slice_index_or, IfSome, All}
use Rattle.std.specs.List.{flat_map}
use Rattle.std.proofs.lemmas.Bool.{eq-eqb}
use Rattle.std.proofs.lemmas.List.Elements.{All-head, All-tail}
use Rattle.std.proofs.lemmas.Option.{same_Some}
use Rattle.dm_space.specs.Memory.{Memory, IsPage, place, peek, byte_at}
use Rattle.dm_space.proofs.Places.{peek-place, place-windows}
use Rattle.dm_blocks.specs.declared.header.Header.{Header}
use Rattle.dm_blocks.specs.declared.header.ListedHeader.{ListedHeader}
use Rattle.dm_blocks.specs.Chain.{first_header, link_header, next, IsChain, IsArena, IsArenaBehind, HasHeader}
use Rattle.dm_blocks.specs.Listing.{Path, Follows}
use Rattle.dm_blocks.proofs.Chains.{Agrees, header_kept, spells_kept, has_left, has_right, clear_map}
use Rattle.dm_findings.specs.declared.finding.Contents.{Contents}
use Rattle.dm_findings.specs.declared.finding.Finding.{Finding}
use Rattle.dm_findings.specs.declared.finding.Finding.TheVariants.{Overwritten, MappedAway}
use Rattle.dm_checker.specs.declared.arena_copy.HeaderCopy.{HeaderCopy}
use Rattle.dm_checker.specs.declared.arena_copy.Broken.{Broken}
use Rattle.dm_checker.specs.declared.arena_copy.ArenaCopy.{ArenaCopy}
use Rattle.dm_checker.specs.Shown.{Shown, IsCut, IsShown, cut, alone, parted, parted_cut}
use Rattle.dm_checker.specs.Headers.{shown_at, kept_at, same_contents, is_live, is_there, overwritten, mapped_away}
use Rattle.dm_checker.specs.ArenaCopy.{header_of, broken_at, IsHeaderCopy, IsBrokenIn, IsArenaCopy}
use Rattle.dm_checker.specs.inner.ArenaCopy.{IsSeen}
use Rattle.dm_checker.proofs.Bits.{same_bytes}
use Rattle.dm_checker.proofs.Framed.{contents_by_five, there_by_windows, live_true}

-- ---- the same bytes

abbrev pub AreSameAt : Memory → Memory → ℕ → Type 0
AreSameAt S T h = (k : ℕ) → k < 5 → peek T (16 * h + k) ≡ peek S (16 * h + k)

same_at : (S T : Memory) (h g : ℕ) → h ≡ g → AreSameAt S T h → AreSameAt S T g
same_at S T h g e a = (let F : ℕ → Type 0 = λ x. AreSameAt S T x in subst F e a)

agrees_of : (S T : Memory) (ws : List HeaderCopy) → All (IsHeaderCopy S) ws → All (IsHeaderCopy T) ws →
    Agrees S T (map header_of ws)
agrees_of S T [] a b = record { same = λ g k w less. absurd w }
agrees_of S T (x ∷ ws) a b =
    let rest = agrees_of S T ws (All-tail (IsHeaderCopy S) x ws a) (All-tail (IsHeaderCopy T) x ws b) in
    let here : AreSameAt S T x.header.segment = same_bytes S T x.header.segment x.bits x.bits
    (All-head (IsHeaderCopy S) x ws a) (All-head (IsHeaderCopy T) x ws b) refl in
    record {
      same = λ g k w less. elim w [
        | inl e ↦ same_at S T x.header.segment g e here k less
        | inr r ↦
            rest.same g k r less
      ];
    }

agrees_left : (S T : Memory) (P Q : List Header) → Agrees S T (P ++ Q) → Agrees S T P
agrees_left S T P Q a = record { same = λ g k w. a.same g k (has_left P Q g w) }

agrees_right : (S T : Memory) (P Q : List Header) → Agrees S T (P ++ Q) → Agrees S T Q
agrees_right S T P Q a = record { same = λ g k w. a.same g k (has_right P Q g w) }

agrees_at : (S T : Memory) (P Q : List Header) → P ≡ Q → Agrees S T P → Agrees S T Q
agrees_at S T P Q e a = (let F : List Header → Type 0 = λ X. Agrees S T X in subst F e a)

-- ---- the same lists

path_kept : (S T : Memory) (h : ℕ) (P : List Header) (t : ℕ) → Agrees S T P → Path S h P t → Path T h P t
path_kept S T h [] t a p = p
path_kept S T h (b ∷ P) t a p = (
  p.0,
  header_kept S T b _ (λ k. a.same b.segment k (inl refl)) p.1,
  path_kept S T (next b) P t (agrees_right S T (b ∷ []) P a) p.2,
)

follows_back : (S T : Memory) (F P : List Header) (at : ℕ) (e : ListedHeader) → T.windows ≡ S.windows →
    AreSameAt S T at → Follows T F P at e → Follows S F P at e
follows_back S T F P at e windows same f =
    let here : AreSameAt S T e.header.segment = same_at S T at e.header.segment (sym f.at) same in
    record {
      at = f.at;
      header = header_kept T S e.header _ (λ k less. sym (here k less)) f.header;
      clear = clear_map T S _ (λ a. sym (place-windows S T a windows)) f.clear;
      apart = f.apart;
    }

cut_kept : (S T : Memory) (F : List Header) (start : ℕ) (P : List Header) (at : ℕ) → T.windows ≡ S.windows →
    Agrees S T P → AreSameAt S T at → IsCut S F start P at → IsCut T F start P at
cut_kept S T F start P at windows a same c = record {
  leads = record {
    path = path_kept S T start P at a c.leads.path;
    clear = clear_map S T _ (λ x. place-windows S T x windows) c.leads.clear;
    apart = c.leads.apart;
  };
  none = λ e f. c.none e (follows_back S T F P at e windows same f);
}

chain_kept : (S T : Memory) (start : ℕ) (L : List Header) → Agrees S T L → IsChain S start L → IsChain T start L
chain_kept S T start L a c = (c.0, spells_kept S T start L a c.1)

arena_kept : (S T : Memory) (start : ℕ) (L : List Header) → T.windows ≡ S.windows → Agrees S T L → IsArena S start L →
    IsArena T start L
arena_kept S T start L windows a x = (
  chain_kept S T start L a x.0,
  clear_map S T L (λ y. place-windows S T y windows) x.1,
)

behind_kept : (S T : Memory) (F : List Header) (start : ℕ) (L : List Header) → T.windows ≡ S.windows → Agrees S T L →
    IsArenaBehind S F start L → IsArenaBehind T F start L
behind_kept S T F start L windows a x = (
  chain_kept S T start L a x.0,
  clear_map S T (F ++ L) (λ y. place-windows S T y windows) x.1,
  x.2,
)

shown_kept : (upper : Bool) (S T : Memory) (shown : Shown) → T.windows ≡ S.windows → Agrees S T shown.headers →
    ((at : ℕ) → shown.broken ≡ Some at → AreSameAt S T at) → IsShown upper S shown → IsShown upper T shown
shown_kept upper S T shown windows a same (cut at c is) =
    cut at (cut_kept S T [] first_header shown.headers at windows a (same at is) c) is
shown_kept upper S T shown windows a same (alone l p is) =
    alone (arena_kept S T first_header shown.headers windows a l) p is
shown_kept upper S T shown windows a same (parted L U l p u e is) =
    let both = agrees_at S T shown.headers (L ++ U) e a in
    parted L U (arena_kept S T first_header L windows (agrees_left S T L U both) l) p
    (behind_kept S T L link_header U windows (agrees_right S T L U both) u) e is
shown_kept upper S T shown windows a same (parted_cut L P at l p c e is) =
    let both = agrees_at S T shown.headers (L ++ P) e a in
    parted_cut L P at (arena_kept S T first_header L windows (agrees_left S T L P both) l) p
    (cut_kept S T L link_header P at windows (agrees_right S T L P both) (same at is) c) e is

no_segment : (at : ℕ) → None ≡ Some at → ⊥
no_segment at e = cc

broken_same : (S T : Memory) (o : Option Broken) (at : ℕ) → IsBrokenIn S o → IsBrokenIn T o → broken_at o ≡ Some at →
    AreSameAt S T at
broken_same S T None at a b e = absurd (no_segment at e)
broken_same S T (Some there) at a b e = same_at S T there.segment at (same_Some _ _ e)
    (same_bytes S T there.segment there.bits there.bits a b refl)

-- ---- what was kept

seen_windows : (before upper : Bool) (S T : Memory) (w : ArenaCopy) → IsArenaCopy before S w → IsSeen upper T w →
    T.windows ≡ S.windows
seen_windows before upper S T w x y = y.windows ∙ x.windows

seen_agrees : (before upper : Bool) (S T : Memory) (w : ArenaCopy) → IsArenaCopy before S w → IsSeen upper T w →
    Agrees S T (map header_of w.headers.items)
seen_agrees before upper S T w x y = agrees_of S T w.headers.items x.headers y.headers

-- what a memory still shows is a copy of it
pub seen_arena : (before upper : Bool) (S T : Memory) (w : ArenaCopy) → IsArenaCopy before S w → IsSeen upper T w →
    IsArenaCopy upper T w
seen_arena before upper S T w x y =
    let shown : Shown = record { headers = map header_of w.headers.items; broken = broken_at w.broken } in
    let F : Bool → Type 0 = λ b. IsShown b T shown in
    record {
      setting = sym y.setting;
      windows = sym y.windows;
      shown = subst F (sym (y.setting ∙ x.setting)) (shown_kept before S T shown (seen_windows before upper S T w x y)
          (seen_agrees before upper S T w x y) (λ at. broken_same S T w.broken at x.there y.there) x.shown);
      headers = y.headers;
      there = y.there;
      marked = x.marked;
    }

-- ---- nothing is found

three : (a b c : Bool) → a ≡ true → b ≡ true → c ≡ true → (a && b && c) ≡ true
three a b c e f g = rw (e, f, g) refl

pub same_as_itself : (c : Contents) → same_contents c c ≡ true
same_as_itself c = three _ _ _ (eq-eqb c.signature c.signature refl) (eq-eqb c.owner c.owner refl)
    (eq-eqb c.size c.size refl)

same_by : (c d : Contents) → c ≡ d → same_contents c d ≡ true
same_by c d e = ap (λ (x : Contents). same_contents x d) e ∙ same_as_itself d

none_if_same : (there same : Bool) (fs : List Finding) → same ≡ true → (if there && not same then fs else []) ≡ []
none_if_same true same fs e = rw e refl
none_if_same false same fs e = refl

none_if_both : (there same : Bool) (fs : List Finding) → there ≡ true → same ≡ true →
    (if there && same then [] else fs) ≡ []
none_if_both there same fs e f = rw (e, f) refl

none_of_each : (f : Header → List Finding) (hs : List Header) → ((b : Header) → HasHeader hs b.segment → f b ≡ []) →
    flat_map f hs ≡ []
none_of_each f [] n = refl
none_of_each f (b ∷ hs) n = ap₂ (λ (x y : List Finding). x ++ y) (n b (inl refl))
    (none_of_each f hs (λ c w. n c (inr w)))

kept_shown : (S T : Memory) (h : ℕ) → T.windows ≡ S.windows → kept_at S T h ≡ shown_at T h
kept_shown S T h windows = contents_by_five _ _ (λ k less. ap (byte_at T) (sym (place-windows S T (16 * h + k) windows))
    ∙ sym (peek-place T (16 * h + k)))

live_if : (T : Memory) (o : Option ℕ) → IfSome o (IsPage T) → IfSome o (λ page. is_live T.blocks page ≡ true)
live_if T None p = tt
live_if T (Some page) p = live_true T.blocks page p.0

pages_there : (S T : Memory) → T.windows ≡ S.windows → ((k : ℕ) → IfSome (slice_index_or T.windows k None) (IsPage T)) →
    (k : ℕ) → IfSome (slice_index_or S.windows k None) (λ page. is_live T.blocks page ≡ true)
pages_there S T windows pages k =
    let F : List (Option ℕ) → Type 0 = λ ws. IfSome (slice_index_or ws k None) (λ page. is_live T.blocks page ≡ true) in
    subst F windows (live_if T (slice_index_or T.windows k None) (pages k))

-- no header was overwritten
pub seen_overwritten : (before upper : Bool) (S T : Memory) (w : ArenaCopy) → IsArenaCopy before S w →
    IsSeen upper T w → flat_map (overwritten S T) (map header_of w.headers.items) ≡ []
seen_overwritten before upper S T w x y =
    let a = seen_agrees before upper S T w x y in
    let windows = seen_windows before upper S T w x y in
    none_of_each (overwritten S T) (map header_of w.headers.items) (λ b has.
    none_if_same (is_there T (place S (16 * b.segment))) (same_contents (kept_at S T b.segment) (shown_at S b.segment))
    (Overwritten b.segment (shown_at S b.segment) (kept_at S T b.segment) ∷ [])
    (same_by _ _ (kept_shown S T b.segment windows ∙ contents_by_five _ _ (λ k less. a.same b.segment k has less))))

-- no header was mapped away
pub seen_mapped_away : (before upper : Bool) (S T : Memory) (w : ArenaCopy) → IsArenaCopy before S w →
    IsSeen upper T w → flat_map (mapped_away S T) (map header_of w.headers.items) ≡ []
seen_mapped_away before upper S T w x y =
    let windows = seen_windows before upper S T w x y in
    none_of_each (mapped_away S T) (map header_of w.headers.items) (λ b has.
    none_if_both (is_there T (place S (16 * b.segment))) (same_contents (kept_at S T b.segment) (shown_at T b.segment))
    (MappedAway b.segment ∷ [])
    (there_by_windows S T (16 * b.segment) (pages_there S T windows y.pages))
    (same_by _ _ (kept_shown S T b.segment windows)))
