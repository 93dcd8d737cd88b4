-- A memory shows one arena.
use Rattle.std.proofs.Common.{◌≡◌, ℕ, Bool, List, [], ◌∷◌, ◌++◌, false, true, Option, Some, inl, inr, refl, sym, ◌∙◌, ap, ap₂, subst, append-nil, append_assoc}
use Rattle.dm_space.specs.Memory.{Memory}
use Rattle.dm_blocks.specs.declared.header.Header.{Header}
use Rattle.dm_blocks.specs.declared.header.ListedHeader.{ListedHeader}
use Rattle.dm_blocks.specs.Chain.{first_header, link_header, next, AreApart, HasHeader, IsClear, IsHeader, IsArena, IsArenaBehind, is_parted}
use Rattle.dm_blocks.specs.Listing.{Path, Follows}
use Rattle.dm_blocks.proofs.Chains.{has_left, has_right, has_either, clear_within}
use Rattle.dm_blocks.proofs.OneHeader.{header-unique}
use Rattle.dm_blocks.proofs.Unique.{chain_unique, arena_unique}
use Rattle.dm_blocks.proofs.Walks.{no_arena}
use Rattle.dm_checker.specs.Shown.{Shown, IsCut, IsShown, cut, alone, parted, parted_cut}

-- ---- a list that is cut short

-- behind the headers F and those of the list before them, headers after which none can follow
record IsStuck (m : Memory) (F before : List Header) (h : ℕ) (P : List Header) (t : ℕ) : Type 0 where
  path : Path m h P t
  clear : IsClear m (F ++ (before ++ P))
  apart : AreApart F (before ++ P)
  none : (e : ListedHeader) → Follows m F (before ++ P) t e → ⊥

-- a header that others follow is one of the list
among : (before : List Header) (q : Header) (Q : List Header) (g : ℕ) → HasHeader ((before ++ []) ++ q ∷ []) g →
    HasHeader (before ++ q ∷ Q) g
among before q Q g w = elim (has_either (before ++ []) (q ∷ []) g w) [
  | inl i ↦ has_left before (q ∷ Q) g (let F : List Header → Type 0 = λ X. HasHeader X g in
      subst F (append-nil before) i)
  | inr r ↦ has_right before (q ∷ Q) g (elim r [ inl s ↦ inl s | inr z ↦ absurd z ])
]

-- a header behind the others follows them
follows : (m : Memory) (F before : List Header) (h t : ℕ) (q : Header) (Q : List Header) → h ≡ t → q.segment ≡ h →
    IsHeader m q 0x4D → IsClear m (F ++ (before ++ q ∷ Q)) → AreApart F (before ++ q ∷ Q) →
    Follows m F (before ++ []) t (record { header = q; last = false })
follows m F before h t q Q e at x c a = record {
  at = at ∙ e;
  header = x;
  apart = λ g w v. a g w (among before q Q g v);
  clear = clear_within m (F ++ (before ++ q ∷ Q)) (F ++ ((before ++ []) ++ q ∷ []))
      (λ g w. elim (has_either F ((before ++ []) ++ q ∷ []) g w) [
        | inl i ↦ has_left F (before ++ q ∷ Q) g i
        | inr r ↦ has_right F (before ++ q ∷ Q) g (among before q Q g r)
      ]) c;
}

-- one header further
further : (m : Memory) (F before : List Header) (h : ℕ) (p : Header) (P : List Header) (t : ℕ) →
    IsStuck m F before h (p ∷ P) t → IsStuck m F (before ++ p ∷ []) (next p) P t
further m F before h p P t b =
    let same = sym (append_assoc before (p ∷ []) P) in
    let C : List Header → Type 0 = λ X. IsClear m (F ++ X) in
    let A : List Header → Type 0 = λ X. AreApart F X in
    let N : List Header → Type 0 = λ X. (e : ListedHeader) → Follows m F X t e → ⊥ in
    record { path = b.path.2; clear = subst C same b.clear; apart = subst A same b.apart; none = subst N same b.none }

record SamePath (P Q : List Header) (t u : ℕ) : Type 0 where
  headers : P ≡ Q
  at : t ≡ u

stuck_once : (m : Memory) (F before : List Header) (h : ℕ) (P : List Header) (t : ℕ) (Q : List Header) (u : ℕ) →
    IsStuck m F before h P t → IsStuck m F before h Q u → SamePath P Q t u
stuck_once m F before h [] t [] u a b = record { headers = refl; at = sym a.path ∙ b.path }
stuck_once m F before h [] t (q ∷ Q) u a b =
    absurd (a.none (record { header = q; last = false }) (follows m F before h t q Q a.path b.path.0 b.path.1 b.clear
    b.apart))
stuck_once m F before h (p ∷ P) t [] u a b =
    absurd (b.none (record { header = p; last = false }) (follows m F before h u p P b.path a.path.0 a.path.1 a.clear
    a.apart))
stuck_once m F before h (p ∷ P) t (q ∷ Q) u a b =
    let one = (header-unique m p q 0x4D 0x4D a.path.1 b.path.1 (a.path.0 ∙ sym b.path.0)).0 in
    let G : Header → Type 0 = λ x. IsStuck m F (before ++ x ∷ []) (next x) P t in
    let rest = stuck_once m F (before ++ q ∷ []) (next q) P t Q u (subst G one (further m F before h p P t a))
    (further m F before h q Q u b) in
    record { headers = ap (λ (x : Header). x ∷ P) one ∙ ap (λ (X : List Header). q ∷ X) rest.headers; at = rest.at }

stuck : (m : Memory) (F : List Header) (start : ℕ) (P : List Header) (t : ℕ) → IsCut m F start P t →
    IsStuck m F [] start P t
stuck m F start P t x = record { path = x.leads.path; clear = x.leads.clear; apart = x.leads.apart; none = x.none }

cut_once : (m : Memory) (F : List Header) (start : ℕ) (P : List Header) (t : ℕ) (Q : List Header) (u : ℕ) →
    IsCut m F start P t → IsCut m F start Q u → SamePath P Q t u
cut_once m F start P t Q u x y = stuck_once m F [] start P t Q u (stuck m F start P t x) (stuck m F start Q u y)

-- ---- a list is whole or it is cut short

first_alone : (m : Memory) (L : List Header) → IsArena m first_header L → IsArenaBehind m [] first_header L
first_alone m L a = (a.0, a.1, λ g w v. absurd w)

not_first : (m : Memory) (L P : List Header) (t : ℕ) → IsArena m first_header L → IsCut m [] first_header P t → ⊥
not_first m L P t a x = no_arena m [] first_header P t x.leads x.none L (first_alone m L a)

not_second : (m : Memory) (L M U P : List Header) (t : ℕ) → L ≡ M → IsArenaBehind m L link_header U →
    IsCut m M link_header P t → ⊥
not_second m L M U P t e a x =
    let F : List Header → Type 0 = λ X. IsArenaBehind m X link_header U in
    no_arena m M link_header P t x.leads x.none U (subst F e a)

not_both : (upper : Bool) (m : Memory) (L M : List Header) → IsArena m first_header L → IsArena m first_header M →
    is_parted upper L ≡ false → is_parted upper M ≡ true → ⊥
not_both upper m L M a b off on = (let z : false ≡ true = sym off
    ∙ ap (is_parted upper) (arena_unique m first_header L M a b) ∙ on in cc)

-- ---- what is shown

same_shown : (a b : Shown) → a.headers ≡ b.headers → a.broken ≡ b.broken → a ≡ b
same_shown a b h k = λ i. record { headers = h i; broken = k i }

same_broken : (o p : Option ℕ) (t u : ℕ) → o ≡ Some t → p ≡ Some u → t ≡ u → o ≡ p
same_broken o p t u e f same = e ∙ ap (λ (x : ℕ). Some x) same ∙ sym f

both : (P Q R S : List Header) → P ≡ Q → R ≡ S → P ++ R ≡ Q ++ S
both P Q R S e f = ap₂ (λ (x y : List Header). x ++ y) e f

pub shown_once : (upper : Bool) (m : Memory) (a b : Shown) → IsShown upper m a → IsShown upper m b → a ≡ b
shown_once upper m a b (cut t x e) (cut u y f) =
    let s = cut_once m [] first_header a.headers t b.headers u x y in
    same_shown a b s.headers (same_broken a.broken b.broken t u e f s.at)
shown_once upper m a b (cut t x e) (alone y off f) = absurd (not_first m b.headers a.headers t y x)
shown_once upper m a b (cut t x e) (parted L U y on v is f) = absurd (not_first m L a.headers t y x)
shown_once upper m a b (cut t x e) (parted_cut L P u y on v is f) = absurd (not_first m L a.headers t y x)
shown_once upper m a b (alone x off e) (cut u y f) = absurd (not_first m a.headers b.headers u x y)
shown_once upper m a b (alone x off e) (alone y out f) =
    same_shown a b (arena_unique m first_header a.headers b.headers x y) (e ∙ sym f)
shown_once upper m a b (alone x off e) (parted L U y on v is f) = absurd (not_both upper m a.headers L x y off on)
shown_once upper m a b (alone x off e) (parted_cut L P u y on v is f) = absurd (not_both upper m a.headers L x y off on)
shown_once upper m a b (parted L U x on v is e) (cut u y f) = absurd (not_first m L b.headers u x y)
shown_once upper m a b (parted L U x on v is e) (alone y off f) = absurd (not_both upper m b.headers L y x off on)
shown_once upper m a b (parted L U x on v is e) (parted M W y set w are f) =
    let one = arena_unique m first_header L M x y in
    same_shown a b (is ∙ both L M U W one (chain_unique m link_header U W v.0 w.0) ∙ sym are) (e ∙ sym f)
shown_once upper m a b (parted L U x on v is e) (parted_cut M P u y set w are f) =
    absurd (not_second m L M U P u (arena_unique m first_header L M x y) v w)
shown_once upper m a b (parted_cut L P t x on v is e) (cut u y f) = absurd (not_first m L b.headers u x y)
shown_once upper m a b (parted_cut L P t x on v is e) (alone y off f) = absurd (not_both upper m b.headers L y x off on)
shown_once upper m a b (parted_cut L P t x on v is e) (parted M U y set w are f) =
    absurd (not_second m M L U P t (arena_unique m first_header M L y x) w v)
shown_once upper m a b (parted_cut L P t x on v is e) (parted_cut M Q u y set w are f) =
    let one = arena_unique m first_header L M x y in
    let F : List Header → Type 0 = λ X. IsCut m X link_header P t in
    let s = cut_once m M link_header P t Q u (subst F one v) w in
    same_shown a b (is ∙ both L M P Q one s.headers ∙ sym are) (same_broken a.broken b.broken t u e f s.at)
