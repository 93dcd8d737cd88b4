-- The arena has one list of records.
use Rattle.std.proofs.Common.{◌≡◌, ℕ, Bool, List, [], ◌∷◌, ◌++◌, Option, Some, None, false, true, inl, inr, refl, sym, ◌∙◌, ap, ap₂, subst, append-nil, append_assoc}
use Rattle.dm_space.specs.Memory.{Memory}
use Rattle.dm_blocks.specs.declared.header.Header.{Header}
use Rattle.dm_blocks.specs.declared.header.ListedHeader.{ListedHeader}
use Rattle.dm_blocks.specs.Chain.{first_header, link_header, next, AreApart, HasHeader, IsClear, IsHeader, is_parted}
use Rattle.dm_blocks.specs.Listing.{Path, Follows}
use Rattle.dm_blocks.proofs.Chains.{has_left, has_right, has_either, clear_within}
use Rattle.dm_blocks.proofs.OneHeader.{header-unique}
use Rattle.dm_blocks.proofs.Unique.{chain_unique}
use Rattle.dm_blocks.proofs.Walks.{no_arena}
use Rattle.dm_views.specs.declared.inventory.arena.ArenaBlock.{ArenaBlock}
use Rattle.dm_views.specs.inventory.Arena.{list_records, front_records, IsWhole, IsCutShort, IsListed, whole, cut_short, IsListedArena, destroyed, alone, parted}

-- behind the headers F and those of the list before them, headers after which none can follow
record IsStuck (m : Memory) (F before : List Header) (h : ℕ) (P : List Header) (t : ℕ) : Type 0 where
  path : Path m h P t
  clear : IsClear m (F ++ (before ++ P))
  apart : AreApart F (before ++ P)
  none : (e : ListedHeader) → Follows m F (before ++ P) t e → ⊥

-- a header that others follow is one of the list
among : (before : List Header) (q : Header) (Q : List Header) (g : ℕ) → HasHeader ((before ++ []) ++ q ∷ []) g →
    HasHeader (before ++ q ∷ Q) g
among before q Q g w = elim (has_either (before ++ []) (q ∷ []) g w) [
  | inl i ↦ has_left before (q ∷ Q) g (let F : List Header → Type 0 = λ X. HasHeader X g in
      subst F (append-nil before) i)
  | inr r ↦ has_right before (q ∷ Q) g (elim r [ inl s ↦ inl s | inr z ↦ absurd z ])
]

-- a header behind the others follows them
follows : (m : Memory) (F before : List Header) (h t : ℕ) (q : Header) (Q : List Header) → h ≡ t → q.segment ≡ h →
    IsHeader m q 0x4D → IsClear m (F ++ (before ++ q ∷ Q)) → AreApart F (before ++ q ∷ Q) →
    Follows m F (before ++ []) t (record { header = q; last = false })
follows m F before h t q Q e at x c a = record {
  at = at ∙ e;
  header = x;
  apart = λ g w v. a g w (among before q Q g v);
  clear = clear_within m (F ++ (before ++ q ∷ Q)) (F ++ ((before ++ []) ++ q ∷ []))
      (λ g w. elim (has_either F ((before ++ []) ++ q ∷ []) g w) [
        | inl i ↦ has_left F (before ++ q ∷ Q) g i
        | inr r ↦ has_right F (before ++ q ∷ Q) g (among before q Q g r)
      ]) c;
}

-- one header further
further : (m : Memory) (F before : List Header) (h : ℕ) (p : Header) (P : List Header) (t : ℕ) →
    IsStuck m F before h (p ∷ P) t → IsStuck m F (before ++ p ∷ []) (next p) P t
further m F before h p P t b =
    let same = sym (append_assoc before (p ∷ []) P) in
    let C : List Header → Type 0 = λ X. IsClear m (F ++ X) in
    let A : List Header → Type 0 = λ X. AreApart F X in
    let N : List Header → Type 0 = λ X. (e : ListedHeader) → Follows m F X t e → ⊥ in
    record { path = b.path.2; clear = subst C same b.clear; apart = subst A same b.apart; none = subst N same b.none }

record SamePath (P Q : List Header) (t u : ℕ) : Type 0 where
  headers : P ≡ Q
  at : t ≡ u

stuck_once : (m : Memory) (F before : List Header) (h : ℕ) (P : List Header) (t : ℕ) (Q : List Header) (u : ℕ) →
    IsStuck m F before h P t → IsStuck m F before h Q u → SamePath P Q t u
stuck_once m F before h [] t [] u a b = record { headers = refl; at = sym a.path ∙ b.path }
stuck_once m F before h [] t (q ∷ Q) u a b =
    absurd (a.none (record { header = q; last = false }) (follows m F before h t q Q a.path b.path.0 b.path.1 b.clear
    b.apart))
stuck_once m F before h (p ∷ P) t [] u a b =
    absurd (b.none (record { header = p; last = false }) (follows m F before h u p P b.path a.path.0 a.path.1 a.clear
    a.apart))
stuck_once m F before h (p ∷ P) t (q ∷ Q) u a b =
    let one = (header-unique m p q 0x4D 0x4D a.path.1 b.path.1 (a.path.0 ∙ sym b.path.0)).0 in
    let G : Header → Type 0 = λ x. IsStuck m F (before ++ x ∷ []) (next x) P t in
    let rest = stuck_once m F (before ++ q ∷ []) (next q) P t Q u (subst G one (further m F before h p P t a))
    (further m F before h q Q u b) in
    record { headers = ap (λ (x : Header). x ∷ P) one ∙ ap (λ (X : List Header). q ∷ X) rest.headers; at = rest.at }

-- ---- one list

-- the same records, and the same place where a list breaks, if it does
abbrev pub AreSame : List ArenaBlock → List ArenaBlock → Option ℕ → Option ℕ → Type 0
AreSame a b s t = (a ≡ b) × (s ≡ t)

stuck : (m : Memory) (F : List Header) (start list at : ℕ) (a : List ArenaBlock) (x : IsCutShort m F start list at a) →
    IsStuck m F [] start x.headers at
stuck m F start list at a x = record {
  path = x.leads.path;
  clear = x.leads.clear;
  apart = x.leads.apart;
  none = x.none;
}

cut_once : (m : Memory) (F : List Header) (start list k n : ℕ) (a b : List ArenaBlock) (s t : Option ℕ) →
    IsCutShort m F start list k a → IsCutShort m F start list n b → s ≡ Some k → t ≡ Some n → AreSame a b s t
cut_once m F start list k n a b s t x y is same =
    let one = stuck_once m F [] start x.headers k y.headers n (stuck m F start list k a x)
    (stuck m F start list n b y) in (
      x.is ∙ ap (λ (X : List Header). front_records list X) one.headers ∙ sym y.is,
      is ∙ ap (λ (i : ℕ). Some i) one.at ∙ sym same,
    )

one_list : (m : Memory) (F : List Header) (start list : ℕ) (L M : List Header) (a b : List ArenaBlock) →
    IsWhole m F start list L a → IsWhole m F start list M b → L ≡ M
one_list m F start list L M a b x y = chain_unique m start L M x.spelled.0 y.spelled.0

whole_once : (m : Memory) (F : List Header) (start list : ℕ) (L M : List Header) (a b : List ArenaBlock) →
    IsWhole m F start list L a → IsWhole m F start list M b → a ≡ b
whole_once m F start list L M a b x y = x.is ∙ ap (λ (X : List Header). list_records list X)
    (one_list m F start list L M a b x y) ∙ sym y.is

either : (m : Memory) (F : List Header) (start list k : ℕ) (L : List Header) (a b : List ArenaBlock) →
    IsWhole m F start list L a → IsCutShort m F start list k b → ⊥
either m F start list k L a b x y = no_arena m F start y.headers k y.leads y.none L x.spelled

list_once : (m : Memory) (F : List Header) (start list : ℕ) (a b : List ArenaBlock) (s t : Option ℕ) →
    IsListed m F start list a s → IsListed m F start list b t → AreSame a b s t
list_once m F start list a b s t (whole L x is) (whole M y same) = (
  whole_once m F start list L M a b x y,
  is ∙ sym same,
)
list_once m F start list a b s t (whole L x is) (cut_short n y same) = absurd (either m F start list n L a b x y)
list_once m F start list a b s t (cut_short k x is) (whole M y same) = absurd (either m F start list k M b a y x)
list_once m F start list a b s t (cut_short k x is) (cut_short n y same) =
    cut_once m F start list k n a b s t x y is same

-- ---- both lists

not_both : (upper : Bool) (L M : List Header) → L ≡ M → is_parted upper L ≡ false → is_parted upper M ≡ true → ⊥
not_both upper L M e off on = (let z : false ≡ true = sym off ∙ ap (is_parted upper) e ∙ on in cc)

pub arena_once : (upper : Bool) (m : Memory) (a b : List ArenaBlock) (s t : Option ℕ) → IsListedArena upper m a s →
    IsListedArena upper m b t → AreSame a b s t
arena_once upper m a b s t (destroyed k x is) (destroyed n y same) =
    cut_once m [] first_header 0 k n a b s t x y is same
arena_once upper m a b s t (destroyed k x is) (alone M y off same) = absurd (either m [] first_header 0 k M b a y x)
arena_once upper m a b s t (destroyed k x is) (parted M first second y on v e) =
    absurd (either m [] first_header 0 k M first a y x)
arena_once upper m a b s t (alone L x off is) (destroyed n y same) = absurd (either m [] first_header 0 n L a b x y)
arena_once upper m a b s t (alone L x off is) (alone M y z same) = (
  whole_once m [] first_header 0 L M a b x y,
  is ∙ sym same,
)
arena_once upper m a b s t (alone L x off is) (parted M first second y on v e) =
    absurd (not_both upper L M (one_list m [] first_header 0 L M a first x y) off on)
arena_once upper m a b s t (parted L first second x on u e) (destroyed n y same) =
    absurd (either m [] first_header 0 n L first b x y)
arena_once upper m a b s t (parted L first second x on u e) (alone M y off same) =
    absurd (not_both upper M L (one_list m [] first_header 0 M L b first y x) off on)
arena_once upper m a b s t (parted L first second x on u e) (parted M other rest y set v f) =
    let F : List Header → Type 0 = λ X. IsListed m X link_header 1 second s in
    let below = whole_once m [] first_header 0 L M first other x y in
    let above = list_once m M link_header 1 second rest s t (subst F (one_list m [] first_header 0 L M first other x y)
    u) v in
    (e ∙ ap₂ (λ (p q : List ArenaBlock). p ++ q) below above.0 ∙ sym f, above.1)
