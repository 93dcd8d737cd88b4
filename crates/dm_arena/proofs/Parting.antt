-- Both lists: freed in, linked and parted.
use Rattle.std.proofs.Common.{◌≡◌, ◌≢◌, ℕ, ◌*◌, ◌+◌, ◌<◌, ◌≤◌, Bool, true, false, not, ◌||◌, nat_eq, List, [], ◌∷◌, ◌++◌, inl, inr, refl, sym, ◌∙◌, ap, subst, arith, append_assoc, Ok}
use Rattle.std.proofs.lemmas.Bool.Decides.{nat_tests}
use Rattle.std.specs.Bool.{beq}
use Rattle.dm_space.specs.Memory.{Memory, place, peek, byte_at}
use Rattle.dm_space.proofs.Places.{paragraph-apart, place-shaped, peek-place, shaped-then}
use Rattle.dm_blocks.specs.declared.header.Header.{Header}
use Rattle.dm_blocks.specs.declared.header.ListedHeader.{ListedHeader}
use Rattle.dm_blocks.specs.Chain.{AreApart, Becomes, DiffersInHeaders, HasHeader, IsArena, IsArenaBehind, IsChain, IsClear, IsHeader, IsNonEmpty, NoArenaBehind, Spells, first_header, is_linked, link_header, signature_byte, next, signature, is_parted}
use Rattle.dm_blocks.specs.Reading.{IsEndingAt, NoEndAt, is_nil}
use Rattle.dm_blocks.proofs.Chains.{Agrees, clear_map, clear_within, has_either, has_left, has_right, spells_above, spells_below, spells_end, spells_kept, spells_replace}
use Rattle.dm_blocks.proofs.Unique.{arena_unique}
use Rattle.dm_arena.specs.Owned.{ReleasesBoth, released}
use Rattle.dm_arena.specs.Linking.{BeginsAt, EndsAt, BecomesLinked, BecomesUnlinked, LinkRefused, Links}
use Rattle.dm_arena.specs.inner.Walks.{IsHeaderWritten}
use Rattle.dm_arena.proofs.Releasing.{released-has}
use Rattle.dm_arena.proofs.Written.{agrees_written}

-- headers apart from those that are written are spelled as before
agrees_beside : (S T : Memory) (L U : List Header) → DiffersInHeaders S L T → IsClear S (L ++ U) → AreApart L U →
    Agrees S T U
agrees_beside S T L U d c apart = record {
  same = λ g k w small.
      peek-place T _ ∙ ap (byte_at T) (place-shaped S T d.shape _)
      ∙ d.kept _ (λ h j v sj e. (let same : place S (16 * g) ≡ place S (16 * h) =
      (paragraph-apart S g h k j (omega arith) (omega arith) (c.writable g (has_right L U g w)) e).0 in
      let at : g ≡ h = c.apart g h (has_right L U g w) (has_left L U h v) same in
      let G : ℕ → Type 0 = λ x. HasHeader L x in
      apart g (subst G (sym at) v) w))
      ∙ sym (peek-place S _);
}

-- the owner's blocks freed in the first list, and then in the second
module _ (S : Memory) (owner : ℕ) (L U : List Header) (a : IsArena S first_header L)
    (b : IsArenaBehind S L link_header U) (T : Memory) (x : Becomes S first_header (released owner L) T) where
  clear_first : IsClear S (released owner L ++ U)
  clear_first = clear_within S (L ++ U) _ (λ g w. elim (has_either (released owner L) U g w) [
    | inl l ↦
        has_left L U g (released-has owner L g l)
    | inr r ↦ has_right L U g r
  ]) b.1

  pub second_there : IsArena T link_header U
  second_there = (
    (
      b.0.0,
      spells_kept S T link_header U (agrees_beside S T (released owner L) U x.differs clear_first
          (λ g w v. b.2 g (released-has owner L g w) v)) b.0.1,
    ),
    clear_map S T U (place-shaped S T x.differs.shape) (clear_within S (L ++ U) U (λ g w. has_right L U g w) b.1),
  )

  module _ (V : Memory) (y : Becomes T link_header (released owner U) V) where
    clear_second : IsClear T (released owner U ++ released owner L)
    clear_second = clear_map S T _ (place-shaped S T x.differs.shape) (clear_within S (L
        ++ U) _ (λ g w. elim (has_either (released owner U) (released owner L) g w) [
          | inl l ↦
              has_right L U g (released-has owner U g l)
          | inr r ↦ has_left L U g (released-has owner L g r)
        ]) b.1)

    pub both_released : (upper : Bool) → is_parted upper L ≡ true → ReleasesBoth upper S owner V
    both_released upper parted = record {
      first = L;
      second = U;
      arena = a;
      parted = parted;
      behind = b;
      first_chain = (
        x.chain.0,
        spells_kept T V first_header (released owner L) (agrees_beside T V (released owner U)
            (released owner L) y.differs clear_second (λ g w v. b.2 g (released-has owner L g v)
            (released-has owner U g w))) x.chain.1,
      );
      second_chain = y.chain;
      differs = record {
        shape = shaped-then S T V x.differs.shape y.differs.shape;
        kept = λ p ne.
            y.differs.kept p (λ h k w small e. ne h k (has_right (released owner L) (released owner U) h w) small (e
            ∙ place-shaped S T x.differs.shape _))
            ∙ x.differs.kept p (λ h k w. ne h k (has_left (released owner L) (released owner U) h w));
      };
    }

-- the block before the link block's header
linked-by : (b : Header) (L : List Header) (r : Bool) → nat_eq b.segment 0x9FFF ≡ r → r || is_linked L ≡ true →
    (is_linked L ≡ true → HasHeader L 0x9FFF) → HasHeader (b ∷ L) 0x9FFF
linked-by b L true e l f = inl (grind (arith, nat_tests))
linked-by b L false e l f = inr (f l)

pub linked-at : (L : List Header) → is_linked L ≡ true → HasHeader L 0x9FFF
linked-at [] l = absurd (let x : false ≡ true = l in cc)
linked-at (b ∷ L) l = linked-by b L (nat_eq b.segment 0x9FFF) refl l (linked-at L)

pub at-linked : (L : List Header) → HasHeader L 0x9FFF → is_linked L ≡ true
at-linked [] w = absurd w
at-linked (b ∷ L) (inl e) = (let t : nat_eq b.segment 0x9FFF ≡ true = grind (arith, nat_tests) in rw t refl)
at-linked (b ∷ L) (inr w) = either (nat_eq b.segment 0x9FFF) (is_linked L) (at-linked L w)
  where
    either : (x y : Bool) → y ≡ true → x || y ≡ true
    either true y e = refl
    either false y e = e

pub begins-linked : (P Q : List Header) → BeginsAt Q link_header → is_linked (P ++ Q) ≡ true
begins-linked P [] b = absurd b
begins-linked P (q ∷ Q) b = at-linked (P ++ q ∷ Q) (has_right P (q ∷ Q) 0x9FFF (inl b))

true≢false : (r : Bool) → r ≡ true → r ≡ false → ⊥
true≢false r t f = absurd (let x : true ≡ false = sym t ∙ f in cc)

-- a linked list has a block that ends there
pub end-found : (S : Memory) (h : ℕ) (L : List Header) → Spells S h L → h ≢ 0x9FFF → is_linked L ≡ true →
    NoEndAt L 0x9FFF → ⊥
end-found S h L s ne l n = by h L s ne (linked-at L l) n
  where
    by : (h : ℕ) (L : List Header) → Spells S h L → h ≢ 0x9FFF → HasHeader L 0x9FFF → NoEndAt L 0x9FFF → ⊥
    by h [] s ne w n = w
    by h (b ∷ L) s ne (inl e) n = ne (sym s.0 ∙ e)
    by h (b ∷ L) s ne (inr w) n = by (next b) L s.2 n.0 w n.1

-- one that isn't ends nowhere else
pub end-none : (L : List Header) → NoEndAt L 0x9FFF → EndsAt L 0x9FFF → ⊥
end-none [] n e = e
end-none (b ∷ []) n e = n.0 e
end-none (b ∷ c ∷ L) n e = end-none (c ∷ L) n.1 e

ends-last : (P : List Header) (b : Header) (h : ℕ) → next b ≡ h → EndsAt (P ++ b ∷ []) h
ends-last [] b h e = e
ends-last (p ∷ []) b h e = e
ends-last (p ∷ q ∷ P) b h e = ends-last (q ∷ P) b h e

nonempty-with : (P : List Header) (b : Header) (Q : List Header) → IsNonEmpty (P ++ b ∷ Q)
nonempty-with [] b Q = tt
nonempty-with (p ∷ P) b Q = tt

signature-more : (U : List Header) → IsNonEmpty U → signature U ≡ 0x4D
signature-more [] n = absurd n
signature-more (c ∷ U) n = refl

-- the list, and its block that ends at the link block's header
module _ (S : Memory) (L : List Header) (e : ListedHeader) (P Q : List Header) (a : IsArena S first_header L)
    (f : IsEndingAt S L 0x9FFF e P Q) where
  spelled : Spells S first_header (P ++ e.header ∷ Q)
  spelled = let F : List Header → Type 0 = λ X. Spells S first_header X in subst F f.is a.0.1

  rest-at : Spells S 0x9FFF Q
  rest-at = let F : ℕ → Type 0 = λ x. Spells S x Q in subst F f.at f.rest

  has : (g : ℕ) → HasHeader (P ++ e.header ∷ Q) g → HasHeader L g
  has g w = let F : List Header → Type 0 = λ X. HasHeader X g in subst F (sym f.is) w

  none-behind : (X : List Header) → Q ≡ X → is_linked L ≡ false → Q ≡ []
  none-behind [] is n = is
  none-behind (c ∷ X) is n =
      let F : List Header → Type 0 = λ Y. Spells S 0x9FFF Y in
      let G : List Header → Type 0 = λ Y. HasHeader Y 0x9FFF in
      let at : c.segment ≡ 0x9FFF = (subst F is rest-at).0 in
      let w : HasHeader Q 0x9FFF = subst G (sym is) (inl at) in
      absurd (true≢false (is_linked L) (at-linked L (has 0x9FFF (has_right P (e.header ∷ Q) 0x9FFF (inr w)))) n)

  pub alone : is_linked L ≡ false → L ≡ P ++ e.header ∷ []
  alone n = f.is ∙ ap (λ X. P ++ e.header ∷ X) (none-behind Q refl n)

  pub ends : is_linked L ≡ false → EndsAt L 0x9FFF
  ends n = (let F : List Header → Type 0 = λ X. EndsAt X 0x9FFF in
      subst F (sym (alone n)) (ends-last P e.header 0x9FFF f.at))

  begins-by : (X : List Header) → Q ≡ X → is_linked L ≡ true → BeginsAt Q 0x9FFF
  begins-by [] is l =
      let F : List Header → Type 0 = λ X. HasHeader X 0x9FFF in
      let w : HasHeader (P ++ e.header ∷ Q) 0x9FFF = subst F f.is (linked-at L l) in
      let G : List Header → Type 0 = λ X. HasHeader (P ++ e.header ∷ X) 0x9FFF in
      let at = f.at in
      absurd (elim (has_either P (e.header ∷ []) 0x9FFF (subst G is w)) [
        | inl i ↦ (let y = spells_below S first_header P e.header Q spelled 0x9FFF i in omega arith)
        | inr r ↦ elim r [ inl q ↦ omega arith | inr z ↦ z ]
      ])
  begins-by (c ∷ X) is l =
      let F : List Header → Type 0 = λ Y. Spells S 0x9FFF Y in
      let G : List Header → Type 0 = λ Y. BeginsAt Y 0x9FFF in
      subst G (sym is) (subst F is rest-at).0

  before-has : (g : ℕ) → HasHeader P g → g < e.header.segment
  before-has g w = spells_below S first_header P e.header Q spelled g w

  -- the list that ends there
  pub cut_off : is_linked L ≡ true → (T : Memory) → IsHeaderWritten S e.header 0x5A T → BecomesUnlinked S T
  cut_off l T x =
      let M = P ++ e.header ∷ [] in
      let F : List Header → Type 0 = λ X. IsArena S first_header X in
      let inM : (g : ℕ) → HasHeader M g → HasHeader L g = λ g w. has g (elim (has_either P (e.header ∷ []) g w) [
        | inl i ↦ has_left P (e.header ∷ Q) g i
        | inr r ↦ elim r [ inl q ↦ has_right P (e.header ∷ Q) g (inl q) | inr z ↦ absurd z ]
      ]) in
      let clear : IsClear S M = clear_within S L M inM a.1 in
      let there : HasHeader M e.header.segment = has_right P (e.header ∷ []) e.header.segment (inl refl) in
      let low : Agrees S T P = agrees_written S T e.header _ M P x clear there (λ g w. has_left P (e.header
      ∷ []) g w) (λ g w q. (let y = before-has g w in omega arith)) in
      let y : IsHeader T e.header 0x5A = x.written (clear.writable e.header.segment there) in
      record {
        before = M;
        after = Q;
        arena = subst F (f.is ∙ sym (append_assoc P (e.header ∷ []) Q)) a;
        begins = begins-by Q refl l;
        becomes = record {
          clear = clear;
          chain = (
            nonempty-with P e.header [],
            spells_replace S T first_header P e.header e.header Q [] spelled low refl (refl, y, tt),
          );
          differs = record { shape = x.shape; kept = λ p ne. x.kept p (λ k. ne e.header.segment k there) };
        };
      }

  -- the list that goes on
  module _ (n : is_linked L ≡ false) (U : List Header) (b : IsArenaBehind S L link_header U) (T : Memory)
      (x : IsHeaderWritten S e.header 0x4D T) where
    pub goes_on : BecomesLinked S T
    goes_on =
        let M = L ++ U in
        let hasP : (g : ℕ) → HasHeader P g → HasHeader L g = λ g w. has g (has_left P (e.header ∷ Q) g w) in
        let here : HasHeader L e.header.segment = has e.header.segment (has_right P (e.header
        ∷ Q) e.header.segment (inl refl)) in
        let there : HasHeader M e.header.segment = has_left L U e.header.segment here in
        let low : Agrees S T P = agrees_written S T e.header _ M P x b.1 there (λ g w. has_left L U g (hasP g w))
        (λ g w q. (let y = before-has g w in omega arith)) in
        let high : Agrees S T U = agrees_written S T e.header _ M U x b.1 there (λ g w. has_right L U g w)
        (λ g w q. (let G : ℕ → Type 0 = λ z. HasHeader L z in b.2 g (subst G (sym q) here) w)) in
        let y : IsHeader T e.header 0x4D = x.written (b.1.writable e.header.segment there) in
        let G : ℕ → Type 0 = λ z. IsHeader T e.header z in
        let H : ℕ → Type 0 = λ z. Spells T z U in
        let K : List Header → Type 0 = λ X. Spells T first_header (X ++ U) in
        let I : List Header → Type 0 = λ X. IsNonEmpty (X ++ U) in
        let J : List Header → Type 0 = λ X. Spells T first_header X in
        let N : List Header → Type 0 = λ X. IsNonEmpty X in
        let joined : (P ++ e.header ∷ []) ++ U ≡ P ++ e.header ∷ U = append_assoc P (e.header ∷ []) U in
        let spells : Spells T first_header (P ++ e.header ∷ U) =
        spells_replace S T first_header P e.header e.header Q U spelled low refl (
          refl,
          subst G (sym (signature-more U b.0.0)) y,
          subst H (sym f.at) (spells_kept S T 0x9FFF U high b.0.1),
        ) in
        record {
          first = L;
          second = U;
          arena = a;
          parted = n;
          ends = ends n;
          behind = b;
          becomes = record {
            clear = b.1;
            chain = (
              subst I (sym (alone n)) (subst N (sym joined) (nonempty-with P e.header U)),
              subst K (sym (alone n)) (subst J (sym joined) spells),
            );
            differs = record { shape = x.shape; kept = λ p ne. x.kept p (λ k. ne e.header.segment k there) };
          };
        }

-- the call that links or parts
other-true : (b : Bool) → (b ≡ true → ⊥) → b ≡ false
other-true true n = absurd (n refl)
other-true false n = refl

other-false : (b : Bool) → (b ≡ false → ⊥) → b ≡ true
other-false true n = refl
other-false false n = absurd (n refl)

pub link_none : (S : Memory) (on : Bool) (L : List Header) → IsArena S first_header L → NoEndAt L 0x9FFF →
    (is_linked L ≡ on → ⊥) → LinkRefused S on
link_none S true L a n ne = inr (L, a, other-true (is_linked L) ne, λ e. absurd (end-none L n e))
link_none S false L a n ne = absurd (end-found S first_header L a.0.1 (λ e. omega arith)
    (other-false (is_linked L) ne) n)

pub link_alone : (S : Memory) (on : Bool) (L : List Header) → on ≡ true → IsArena S first_header L →
    (is_linked L ≡ on → ⊥) → NoArenaBehind S L link_header → LinkRefused S on
link_alone S true L is a ne none = inr (L, a, other-true (is_linked L) ne, λ e. none)
link_alone S false L is a ne none = absurd (let x : false ≡ true = is in cc)

pub links : (S : Memory) (on : Bool) (L : List Header) (a : IsArena S first_header L) (e : ListedHeader)
    (P Q : List Header) (f : IsEndingAt S L 0x9FFF e P Q) (T : Memory) →
    IsHeaderWritten S e.header (signature_byte (not on)) T → (is_linked L ≡ on → ⊥) →
    (on ≡ true → (M U : List Header) × IsArena S first_header M × IsArenaBehind S M link_header U) →
    Links S on (Ok tt) T
links S true L a e P Q f T x ne second =
    let b = second refl in
    let F : List Header → Type 0 = λ X. IsArenaBehind S X link_header b.1 in
    inr (goes_on S L e P Q a f (other-true (is_linked L) ne) b.1 (subst F (arena_unique S first_header b.0 L b.2 a) b.3)
    T x)
links S false L a e P Q f T x ne second = inr (cut_off S L e P Q a f (other-false (is_linked L) ne) T x)

pub clash : (b : Bool) → b ≡ true → b ≡ false → ⊥
clash b t f = true≢false b t f

pub differ : (a b c : Bool) → beq a c ≡ false → a ≡ b → b ≡ c → ⊥
differ true b c n e f = by c (e ∙ f) n
  where
    by : (c : Bool) → true ≡ c → beq true c ≡ false → ⊥
    by true e n = absurd (let x : true ≡ false = n in cc)
    by false e n = absurd (let x : true ≡ false = e in cc)
differ false b c n e f = by c (e ∙ f) n
  where
    by : (c : Bool) → false ≡ c → beq false c ≡ false → ⊥
    by true e n = absurd (let x : false ≡ true = e in cc)
    by false e n = absurd (let x : true ≡ false = n in cc)
