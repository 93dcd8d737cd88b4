-- The paragraphs of the page frame at which a walk has met a header.
use Rattle.std.proofs.Common.{◌≡◌, ◌≢◌, ℕ, zero, suc, ◌*◌, ◌<◌, Bool, true, false, MatchBool, List, [], ◌∷◌, ◌++◌, length, get_or, set, replicate, ◌⊎◌, inl, inr, refl, sym, ◌∙◌, ap, subst, arith}
use Rattle.std.proofs.lemmas.Bool.{cases_lt}
use Rattle.std.proofs.lemmas.List.{get_or-set_same, get_or-set_other, length-set, length-replicate}
use Rattle.dm_space.specs.declared.place.Place.TheVariants.{Low, Page}
use Rattle.dm_space.specs.Memory.{Memory, place}
use Rattle.dm_blocks.specs.declared.header.Header.{Header}
use Rattle.dm_blocks.specs.Chain.{HasHeader}
use Rattle.dm_blocks.specs.inner.Occupied.{frame_paragraph, AreOccupied, IsOccupiedBy}
use Rattle.dm_blocks.specs.inner.Standing.{MayStand}
use Rattle.dm_blocks.proofs.Chains.{has_left, has_right, has_either}
use Rattle.dm_blocks.proofs.Places.{page-framed, paragraph-small, paragraph-apart, page-first, page-second, low≢page}
use Rattle.dm_blocks.proofs.Stands.{page-stands, occupied-stands}

number-decide : (a b : ℕ) → (a ≡ b) ⊎ (a ≢ b)
number-decide a b = elim (cases_lt a b) [
  | inl l ↦ inr (λ e. omega arith)
  | inr g ↦ elim (cases_lt b a) [ inl l ↦ inr (λ e. omega arith) | inr h ↦ inl (omega arith) ]
]

-- none is occupied
none-set : (n k : ℕ) → get_or (replicate n false) k false ≡ false
none-set zero k = refl
none-set (suc n) zero = refl
none-set (suc n) (suc k) = none-set n k

true≢false : (b : Bool) → b ≡ true → b ≡ false → ⊥
true≢false b t f = (let x : true ≡ false = sym t ∙ f in cc)

pub none-occupied : (S : Memory) (occupied : List Bool) (n : ℕ) → n ≡ 0x1000 → occupied ≡ replicate n false →
    AreOccupied S [] occupied
none-occupied S occupied n size is = record {
  size = ap length is ∙ length-replicate n false ∙ size;
  each = λ g b k w. absurd w;
  only = λ k e. absurd (true≢false (get_or occupied k false) e (ap (λ x. get_or x k false) is ∙ none-set n k));
}

-- one more is occupied
set-here : (occupied : List Bool) (i j : ℕ) → i < length occupied → j ≡ i → get_or (set occupied i true) j false ≡ true
set-here occupied i j small e = ap (λ x. get_or (set occupied i true) x false) e
    ∙ get_or-set_same occupied i true false small

set-keeps : (occupied : List Bool) (i j : ℕ) → i < length occupied → get_or occupied j false ≡ true →
    get_or (set occupied i true) j false ≡ true
set-keeps occupied i j small t = elim (number-decide j i) [
  | inl e ↦ set-here occupied i j small e
  | inr ne ↦ get_or-set_other occupied i j true false ne ∙ t
]

set-is : (occupied : List Bool) (i j : ℕ) → get_or (set occupied i true) j false ≡ true → (j ≡ i) ⊎
    (get_or occupied j false ≡ true)
set-is occupied i j t = elim (number-decide j i) [
  | inl e ↦ inl e
  | inr ne ↦ inr (sym (get_or-set_other occupied i j true false ne) ∙ t)
]

one : (b : Header) (g : ℕ) → HasHeader (b ∷ []) g → g ≡ b.segment
one b g (inl e) = sym e
one b g (inr x) = absurd x

occupied-more : (S : Memory) (P Q : List Header) (k : ℕ) → ((g : ℕ) → HasHeader P g → HasHeader Q g) →
    IsOccupiedBy S P k → IsOccupiedBy S Q k
occupied-more S P Q k in' m = record {
  segment = m.segment;
  block = m.block;
  offset = m.offset;
  has = in' m.segment m.has;
  page = m.page;
  is = m.is;
}

-- a header in RAM occupies no paragraph of the frame
pub low-occupied : (S : Memory) (P : List Header) (occupied : List Bool) (h l : ℕ) → AreOccupied S P occupied →
    place S (16 * h) ≡ Low l → (b : Header) → b.segment ≡ h → AreOccupied S (P ++ b ∷ []) occupied
low-occupied S P occupied h l a e b at = record {
  size = a.size;
  each = λ g block k w p. elim (has_either P (b ∷ []) g w) [
    | inl i ↦ a.each g block k i p
    | inr o ↦ absurd (low≢page l block k (sym e ∙ ap (λ x. place S (16 * x)) (sym at ∙ sym (one b g o)) ∙ p))
  ];
  only = λ k t. occupied-more S P (P ++ b ∷ []) k (λ g w. has_left P (b ∷ []) g w) (a.only k t);
}

-- a header in a page
module _ (S : Memory) (P : List Header) (occupied : List Bool) (h block offset : ℕ) (a : AreOccupied S P occupied)
    (e : place S (16 * h) ≡ Page block offset) where
  pub page-occupied : (new : List Bool) → new ≡ set occupied (frame_paragraph S block offset) true → (b : Header) →
      b.segment ≡ h → AreOccupied S (P ++ b ∷ []) new
  page-occupied new is b at =
      let i = frame_paragraph S block offset in
      let within : i < length occupied = (let s = paragraph-small S block offset (page-framed S h block offset e) in
      let z = a.size in omega arith) in
      let there : place S (16 * b.segment) ≡ Page block offset = ap (λ x. place S (16 * x)) at ∙ e in
      let F : List Bool → Type 0 = λ x. AreOccupied S (P ++ b ∷ []) x in
      subst F (sym is) (record {
        size = length-set occupied i true ∙ a.size;
        each = λ g c k w p. elim (has_either P (b ∷ []) g w) [
          | inl l ↦ set-keeps occupied i (frame_paragraph S c k) within (a.each g c k l p)
          | inr o ↦ (let same : Page c k ≡ Page block offset = sym p ∙ ap (λ x. place S (16 * x)) (one b g o) ∙ there in
              let cs : c ≡ block = page-first c k block offset same in
              let ks : k ≡ offset = page-second c k block offset same in
              set-here occupied i (frame_paragraph S c k) within (ap (λ x. frame_paragraph S x k) cs
              ∙ ap (frame_paragraph S block) ks))
        ];
        only = λ k t. elim (set-is occupied i k t) [
          | inl q ↦ record {
            segment = b.segment;
            block = block;
            offset = offset;
            has = has_right P (b ∷ []) b.segment (inl refl);
            page = there;
            is = sym q;
          }
          | inr q ↦ occupied-more S P (P ++ b ∷ []) k (λ g w. has_left P (b ∷ []) g w) (a.only k q)
        ];
      })

  pub untaken : get_or occupied (frame_paragraph S block offset) false ≡ false → MayStand S P h
  untaken f = page-stands S P h block offset e (λ o. true≢false (get_or occupied (frame_paragraph S block offset) false)
      (a.each o.segment block offset o.has o.is) f)

  pub taken : get_or occupied (frame_paragraph S block offset) false ≡ true → MayStand S P h → ⊥
  taken t =
      let m = a.only (frame_paragraph S block offset) t in
      let same : Page m.block m.offset ≡ Page block offset =
      paragraph-apart S m.block m.offset block offset (page-framed S m.segment m.block m.offset m.page)
      (page-framed S h block offset e) m.is in
      occupied-stands S P h (Page block offset) e (record { segment = m.segment; has = m.has; is = m.page ∙ same })

pub paragraph-within : (S : Memory) (h block offset : ℕ) → place S (16 * h) ≡ Page block offset →
    frame_paragraph S block offset < 0x1000
paragraph-within S h block offset e = paragraph-small S block offset (page-framed S h block offset e)

page-by : (S : Memory) (P : List Header) (old new : List Bool) (h block offset : ℕ) (r : Bool) → AreOccupied S P old →
    place S (16 * h) ≡ Page block offset →
    MatchBool r ((get_or old (frame_paragraph S block offset) false ≡ false) ×
    (new ≡ set old (frame_paragraph S block offset) true)) ((get_or old (frame_paragraph S block offset) false
    ≡ true) × (new ≡ old)) →
    MatchBool r (MayStand S P h × ((b : Header) → b.segment ≡ h → AreOccupied S (P ++ b ∷ []) new)) ((MayStand S P h →
    ⊥) × (new ≡ old))
page-by S P old new h block offset true a e m = (
  untaken S P old h block offset a e m.0,
  page-occupied S P old h block offset a e new m.1,
)
page-by S P old new h block offset false a e m = (taken S P old h block offset a e m.0, m.1)

pub page-admits : (S : Memory) (P : List Header) (old new : List Bool) (h block offset i : ℕ) (r : Bool) →
    AreOccupied S P old → place S (16 * h) ≡ Page block offset → i ≡ frame_paragraph S block offset →
    MatchBool r ((get_or old i false ≡ false) × (new ≡ set old i true)) ((get_or old i false ≡ true) × (new ≡ old)) →
    MatchBool r (MayStand S P h × ((b : Header) → b.segment ≡ h → AreOccupied S (P ++ b ∷ []) new)) ((MayStand S P h →
    ⊥) × (new ≡ old))
page-admits S P old new h block offset i r a e is m =
    let F : ℕ → Type 0 = λ x. MatchBool r ((get_or old x false ≡ false) ×
    (new ≡ set old x true)) ((get_or old x false ≡ true) × (new ≡ old)) in
    page-by S P old new h block offset r a e (subst F is m)
