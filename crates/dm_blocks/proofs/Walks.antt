-- Steps of the walk that tells the headers.
use Rattle.std.proofs.Common.{◌≡◌, ◌≢◌, ℕ, ◌<◌, ◌≤◌, Bool, true, false, List, [], ◌∷◌, ◌++◌, ◌*◌, ◌⊎◌, inl, inr, refl, sym, ◌∙◌, ap, ap₂, subst, arith, append_assoc, append-nil, Option, Some, None}
use Rattle.std.specs.Prelude.{if◌then◌else◌}
use Rattle.dm_space.specs.Memory.{Memory, place}
use Rattle.dm_space.specs.Places.{IsWritable}
use Rattle.dm_blocks.specs.declared.header.Header.{Header}
use Rattle.dm_blocks.specs.declared.header.ListedHeader.{ListedHeader}
use Rattle.dm_blocks.specs.Chain.{IsHeader, signature, Spells, HasHeader, IsNonEmpty, next, IsClear, IsArena, IsArenaBehind, NoArenaBehind, AreApart, first_header, signature_byte}
use Rattle.dm_blocks.specs.Reading.{is_nil}
use Rattle.dm_blocks.specs.inner.Reading.{HasCaughtUp, IsCursor}
use Rattle.dm_blocks.specs.declared.listing.Met.{Met}
use Rattle.dm_blocks.specs.declared.listing.Met.TheVariants.{Told, End, Destroyed}
use Rattle.dm_blocks.specs.Listing.{Walking, Path, Leads, Follows, Closes, IsBehind, IsMet, IsMetFrom, MeetsNext, start_of}
use Rattle.dm_blocks.proofs.Chains.{has_left, has_right, has_either, clear_within}
use Rattle.dm_blocks.specs.inner.Occupied.{AreOccupied, FitsAt, FitsWalk}
use Rattle.dm_blocks.specs.inner.Standing.{MayStand}
use Rattle.dm_blocks.proofs.OneHeader.{header-unique}
use Rattle.dm_blocks.proofs.Stands.{clear-with}
use Rattle.dm_blocks.proofs.Cursors.{cursor-later, cursor-start, met, not-met}

signature-append : (P Q : List Header) (b : Header) → signature (P ++ b ∷ Q) ≡ 0x4D
signature-append [] Q b = refl
signature-append (p ∷ P) Q b = refl

header-signed : (S : Memory) (b : Header) (m n : ℕ) → m ≡ n → IsHeader S b m → IsHeader S b n
header-signed S b m n e x = let F : ℕ → Type 0 = λ v. IsHeader S b v in subst F e x

path-spells : (S : Memory) (h : ℕ) (P : List Header) (t : ℕ) (b : Header) → Path S h P t → b.segment ≡ t →
    IsHeader S b 0x5A → Spells S h (P ++ b ∷ [])
path-spells S h [] t b p at x = (at ∙ sym p, x, tt)
path-spells S h (q ∷ P) t b p at x = (
  p.0,
  header-signed S q _ _ (sym (signature-append P [] b)) p.1,
  path-spells S (next q) P t b p.2 at x,
)

pub path-more : (S : Memory) (h : ℕ) (P : List Header) (t : ℕ) (b : Header) → Path S h P t → b.segment ≡ t →
    IsHeader S b 0x4D → Path S h (P ++ b ∷ []) (next b)
path-more S h [] t b p at x = (at ∙ sym p, x, refl)
path-more S h (q ∷ P) t b p at x = (p.0, p.1, path-more S (next q) P t b p.2 at x)

-- a list goes on behind the headers of a path
path-splits : (S : Memory) (h : ℕ) (P : List Header) (t : ℕ) (L : List Header) → Path S h P t → Spells S h L →
    IsNonEmpty L → (K : List Header) × (L ≡ P ++ K) × IsNonEmpty K × Spells S t K
path-splits S h [] t L p s n = (L, refl, n, (let F : ℕ → Type 0 = λ x. Spells S x L in subst F p s))
path-splits S h (q ∷ P) t [] p s n = absurd n
path-splits S h (q ∷ P) t (b ∷ []) p s n = (let u = header-unique S b q _ _ s.1 p.1 (s.0 ∙ sym p.0) in let v = u.1 in
    absurd (omega arith))
path-splits S h (q ∷ P) t (b ∷ c ∷ M) p s n =
    let u = header-unique S b q _ _ s.1 p.1 (s.0 ∙ sym p.0) in
    let F : ℕ → Type 0 = λ x. Spells S x (c ∷ M) in
    let r = path-splits S (next q) P t (c ∷ M) p.2 (subst F (ap next u.0) s.2) tt in
    (r.0, ap (λ X. b ∷ X) r.1 ∙ ap (λ z. z ∷ (P ++ r.0)) u.0, r.2, r.3)

nonempty : (P : List Header) (b : Header) (Q : List Header) → IsNonEmpty (P ++ b ∷ Q)
nonempty [] b Q = tt
nonempty (p ∷ P) b Q = tt

-- the headers of a path are below its end, and there is one path
path-rises : (S : Memory) (h : ℕ) (P : List Header) (t : ℕ) → Path S h P t → h ≤ t
path-rises S h [] t p = omega arith
path-rises S h (q ∷ P) t p = (let y = path-rises S (next q) P t p.2 in let x = p.0 in omega arith)

pub path-below : (S : Memory) (h : ℕ) (P : List Header) (t : ℕ) → Path S h P t → (g : ℕ) → HasHeader P g → g < t
path-below S h [] t p g w = absurd w
path-below S h (q ∷ P) t p g (inl e) = (let y = path-rises S (next q) P t p.2 in omega arith)
path-below S h (q ∷ P) t p g (inr w) = path-below S (next q) P t p.2 g w

path-unique : (S : Memory) (h : ℕ) (P Q : List Header) (t : ℕ) → Path S h P t → Path S h Q t → P ≡ Q
path-unique S h [] [] t p q = refl
path-unique S h [] (b ∷ Q) t p q = (let y = path-rises S (next b) Q t q.2 in let x = q.0 in absurd (omega arith))
path-unique S h (a ∷ P) [] t p q = (let y = path-rises S (next a) P t p.2 in let x = p.0 in absurd (omega arith))
path-unique S h (a ∷ P) (b ∷ Q) t p q =
    let u = header-unique S a b _ _ p.1 q.1 (p.0 ∙ sym q.0) in
    let F : ℕ → Type 0 = λ x. Path S x Q t in
    ap₂ (λ x X. x ∷ X) u.0 (path-unique S (next a) P Q t p.2 (subst F (sym (ap next u.0)) q.2))

-- the headers F, then P, then that of e
behind_either : (F P : List Header) (b : Header) (g : ℕ) → HasHeader (F ++ (P ++ b ∷ [])) g → HasHeader (F ++ P) g ⊎
    (g ≡ b.segment)
behind_either F P b g w = elim (has_either F (P ++ b ∷ []) g w) [
  | inl i ↦ inl (has_left F P g i)
  | inr r ↦ elim (has_either P (b ∷ []) g r) [
    | inl i ↦ inl (has_right F P g i)
    | inr o ↦ elim o [ inl q ↦ inr (sym q) | inr z ↦ absurd z ]
  ]
]

pub told : (S : Memory) (F : List Header) (f : ℕ) (P : List Header) (t : ℕ) (e : ListedHeader) → Leads S F f P t →
    MayStand S (F ++ P) t → (HasHeader F t → ⊥) → e.header.segment ≡ t → IsHeader S e.header (signature_byte e.last) →
    Follows S F P t e
told S F f P t e l may new at x = record {
  at = at;
  header = x;
  clear = clear-with S (F ++ P) t (F ++ (P ++ e.header ∷ [])) l.clear may
      (λ g w. elim (behind_either F P e.header g w) [
        | inl i ↦ inl i
        | inr q ↦ inr (q ∙ at)
      ]);
  apart = λ g w v. elim (has_either P (e.header ∷ []) g v) [
    | inl i ↦ l.apart g w i
    | inr o ↦ elim o [
      | inl q ↦ new (let G : ℕ → Type 0 = λ x. HasHeader F x in subst G (sym q ∙ at) w)
      | inr z ↦
          absurd z
    ]
  ];
}

-- a header that follows may stand there
stood : (S : Memory) (F : List Header) (f : ℕ) (P : List Header) (t : ℕ) (e : ListedHeader) → Leads S F f P t →
    Follows S F P t e → MayStand S (F ++ P) t
stood S F f P t e l x =
    let last : HasHeader (P ++ e.header ∷ []) e.header.segment = has_right P (e.header
    ∷ []) e.header.segment (inl refl) in
    let here : HasHeader (F ++ (P ++ e.header ∷ [])) e.header.segment =
    has_right F (P ++ e.header ∷ []) e.header.segment last in
    let W : ℕ → Type 0 = λ y. IsWritable (place S (16 * y)) in
    let G : ℕ → Type 0 = λ y. HasHeader (P ++ e.header ∷ []) y in
    record {
      writable = subst W x.at (x.clear.writable e.header.segment here);
      apart = λ g w same. (let at = x.at in
          let to : place S (16 * g) ≡ place S (16 * e.header.segment) = same ∙ ap (λ z. place S (16 * z)) (sym at) in
          elim (has_either F P g w) [
            | inl i ↦ (let y : g ≡ e.header.segment = x.clear.apart g e.header.segment (has_left F (P ++ e.header
                ∷ []) g i) here to in x.apart g i (subst G (sym y) last))
            | inr i ↦ (let y : g ≡ e.header.segment = x.clear.apart g e.header.segment (has_right F (P ++ e.header
                ∷ []) g (has_left P (e.header ∷ []) g i)) here to in
                let z = path-below S f P t l.path g i in
                absurd (omega arith))
          ]);
    }

pub closes : (S : Memory) (F : List Header) (f : ℕ) (P : List Header) (t : ℕ) (e : ListedHeader) → Leads S F f P t →
    Follows S F P t e → Closes S F f P e
closes S F f P t e l x last = (
  (
    nonempty P e.header [],
    path-spells S f P t e.header l.path x.at (header-signed S e.header _ _ (ap signature_byte last) x.header),
  ),
  x.clear,
  x.apart,
)

bad-by : (S : Memory) (F P : List Header) (t : ℕ) (e : ListedHeader) (r : Bool) → e.last ≡ r →
    ((b : Header) (L : List Header) → b.segment ≡ t → IsHeader S b (signature L) → ⊥) → Follows S F P t e → ⊥
bad-by S F P t e true last bad f = bad e.header [] f.at (header-signed S e.header _ _ (ap signature_byte last) f.header)
bad-by S F P t e false last bad f = bad e.header (e.header ∷ []) f.at (header-signed S e.header _ _
    (ap signature_byte last) f.header)

pub bad-header : (S : Memory) (F P : List Header) (t : ℕ) (e : ListedHeader) → ((b : Header) (L : List Header) →
    b.segment ≡ t → IsHeader S b (signature L) → ⊥) → Follows S F P t e → ⊥
bad-header S F P t e bad f = bad-by S F P t e _ refl bad f

nil-signature : (K : List Header) → signature_byte (is_nil K) ≡ signature K
nil-signature [] = refl
nil-signature (c ∷ K) = refl

follows-of : (S : Memory) (F P : List Header) (t : ℕ) (L K : List Header) → IsClear S (F ++ L) → AreApart F L → L ≡ P
    ++ K → IsNonEmpty K → Spells S t K → (e : ListedHeader) × Follows S F P t e
follows-of S F P t L [] c d is n s = absurd n
follows-of S F P t L (k ∷ K) c d is n s =
    let within : (g : ℕ) → HasHeader (P ++ k ∷ []) g → HasHeader L g = λ g w. (let G : List Header → Type 0 =
    λ X. HasHeader X g in subst G (sym is) (elim (has_either P (k ∷ []) g w) [
      | inl i ↦ has_left P (k ∷ K) g i
      | inr r ↦ has_right P (k ∷ K) g (elim r [ inl q ↦ inl q | inr z ↦ absurd z ])
    ])) in (
      record { header = k; last = is_nil K },
      record {
        at = s.0;
        header = header-signed S k _ _ (sym (nil-signature K)) s.1;
        clear = clear_within S (F ++ L) _ (λ g w. elim (has_either F (P ++ k ∷ []) g w) [
          | inl i ↦ has_left F L g i
          | inr r ↦ has_right F L g (within g r)
        ]) c;
        apart = λ g w v. d g w (within g v);
      },
    )

-- where no header can follow, there is no arena
pub no_arena : (S : Memory) (F : List Header) (f : ℕ) (P : List Header) (t : ℕ) → Leads S F f P t →
    ((e : ListedHeader) → Follows S F P t e → ⊥) → NoArenaBehind S F f
no_arena S F f P t l bad L a =
    let r = path-splits S f P t L l.path a.0.1 a.0.0 in
    let x = follows-of S F P t L r.0 a.1 a.2 r.1 r.2 r.3 in
    bad x.0 x.1

occupied_on : (m : Memory) (F P : List Header) (b : Header) (occupied : List Bool) →
    AreOccupied m ((F ++ P) ++ b ∷ []) occupied → AreOccupied m (F ++ (P ++ b ∷ [])) occupied
occupied_on m F P b occupied a = (let G : List Header → Type 0 = λ X. AreOccupied m X occupied in
    subst G (append_assoc F P (b ∷ [])) a)

-- a walk that has told a header
under_way : (m : Memory) (second : Bool) (F : List Header) → IsBehind m second F →
    (P : List Header) (t : ℕ) (e : ListedHeader) (cursor : Option ℕ) (new : List Bool) (r : Bool) → e.last ≡ r →
    Leads m F (start_of second) P t → Follows m F P t e → AreOccupied m (F ++ (P ++ e.header ∷ [])) new →
    IsCursor m F cursor t → FitsAt m second F (if r then None else Some (next e.header)) cursor new
under_way m false F b P t e cursor new true last l x a k =
    let c = closes m F 0x100 P t e l x last in
    let G : List Header → Type 0 = λ X. IsClear m (X ++ (P ++ e.header ∷ [])) in
    let H : List Header → Type 0 = λ X. AreOccupied m (X ++ (P ++ e.header ∷ [])) new in
    (P ++ e.header ∷ [], (c.0, subst G b c.1), subst H b a)
under_way m true F b P t e cursor new true last l x a k = tt
under_way m second F b P t e cursor new false last l x a k = (
  P ++ e.header ∷ [],
  record {
    path = path-more m (start_of second) P t e.header l.path x.at (header-signed m e.header _ _
        (ap signature_byte last) x.header);
    clear = x.clear;
    apart = x.apart;
  },
  a,
  cursor-later m F cursor t (next e.header) (let at = x.at in omega arith) k,
)

pub at_last : (o : Option ℕ) (e : ListedHeader) → e.last ≡ true → o ≡ None → o ≡ (if e.last then None else
    Some (next e.header))
at_last o e last is = rw last is

pub at_more : (o : Option ℕ) (e : ListedHeader) (n : ℕ) → e.last ≡ false → o ≡ Some n → n ≡ next e.header →
    o ≡ (if e.last then None else Some (next e.header))
at_more o e n last is n-is = rw last (is ∙ ap (λ x. Some x) n-is)

-- the walk that has told all
pub step_end : (m : Memory) (second : Bool) (o : Option ℕ) (cursor : Option ℕ) (occupied : List Bool) →
    FitsWalk (record { memory = m; second = second; at = o }) cursor occupied → o ≡ None → (w : Walking) →
    record { memory = m; second = second; at = o } ≡ w → MeetsNext w End w.at
step_end m second o cursor occupied u none w is =
    let G : Walking → Type 0 = λ y. MeetsNext y End y.at in
    let H : Option ℕ → Type 0 = λ y. MeetsNext (record { memory = m; second = second; at = y }) End y in
    subst G is (subst H (sym none) (record { front = u.0; behind = u.1; told = tt; meets = refl }))

-- the walk that stands at the segment t
module _ (m : Memory) (second : Bool) (o : Option ℕ) (cursor : Option ℕ) (occupied : List Bool)
    (u : FitsWalk (record { memory = m; second = second; at = o }) cursor occupied) (t : ℕ) (there : o ≡ Some t) where
  stands : (P : List Header) × Leads m u.0 (start_of second) P t × AreOccupied m (u.0 ++ P) occupied ×
      IsCursor m u.0 cursor t
  stands = let G : Option ℕ → Type 0 = λ x. FitsAt m second u.0 x cursor occupied in subst G there u.2

  same : (P : List Header) → Leads m u.0 (start_of second) P t → stands.0 ≡ P
  same P l = path-unique m (start_of second) stands.0 P t stands.1.path l.path

  pub cursor_there : IsCursor m u.0 cursor t
  cursor_there = stands.3

  below : HasHeader stands.0 t → ⊥
  below w = (let x = path-below m (start_of second) stands.0 t stands.1.path t w in omega arith)

  module _ (w : Walking) (is : record { memory = m; second = second; at = o } ≡ w) where
    pub steps_by : (s : Met) (o' : Option ℕ) → IsMetFrom m u.0 (start_of second) t s o' → MeetsNext w s o'
    steps_by s o' x =
        let G : Walking → Type 0 = λ y. MeetsNext y s o' in
        let H : Option ℕ → Type 0 = λ y. MeetsNext (record { memory = m; second = second; at = y }) s o' in
        subst G is (subst H (sym there) (record { front = u.0; behind = u.1; told = (stands.0, stands.1); meets = x }))

    at_of : w.at ≡ Some t
    at_of = ap (λ x. x.at) (sym is) ∙ there

    -- nothing there is a header
    pub step_bad : ((b : Header) (L : List Header) → b.segment ≡ t → IsHeader m b (signature L) → ⊥) →
        MeetsNext w (Destroyed t) w.at
    step_bad bad = steps_by (Destroyed t) w.at (
      refl,
      at_of,
      no_arena m u.0 (start_of second) stands.0 t stands.1 (λ e. bad-header m u.0 stands.0 t e bad),
      λ P l e. bad-header m u.0 P t e bad,
    )

  -- the cursor has caught up
  module _ (caught : Option ℕ) (moves : (F : List Header) → IsCursor m F cursor t → IsCursor m F caught t ×
      HasCaughtUp caught t) where
    moved : IsCursor m u.0 caught t × HasCaughtUp caught t
    moved = moves u.0 stands.3

    pub stays_moved : FitsWalk (record { memory = m; second = second; at = o }) caught occupied
    stays_moved =
        let G : Option ℕ → Type 0 = λ x. FitsAt m second u.0 x caught occupied in
        (u.0, u.1, subst G (sym there) (stands.0, stands.1, stands.2, moved.0))

    -- the first list has a header there
    on_first : caught ≡ Some t → (P : List Header) → Leads m u.0 (start_of second) P t → (e : ListedHeader) →
        Follows m u.0 P t e → ⊥
    on_first is P l e x =
        let G : ℕ → Type 0 = λ y. HasHeader u.0 y in
        x.apart e.header.segment (subst G (sym x.at) (met m u.0 caught t moved.0 is)) (has_right P (e.header
        ∷ []) e.header.segment (inl refl))

    pub step_met : caught ≡ Some t → (w : Walking) → record { memory = m; second = second; at = o } ≡ w →
        MeetsNext w (Destroyed t) o
    step_met met-is w is = steps_by w is (Destroyed t) o (
      refl,
      there,
      no_arena m u.0 (start_of second) stands.0 t stands.1 (on_first met-is stands.0 stands.1),
      on_first met-is,
    )

    module _ (apart : caught ≢ Some t) where
      new_there : HasHeader u.0 t → ⊥
      new_there = not-met m u.0 caught t moved.0 moved.1 apart

      none_there : HasHeader (u.0 ++ stands.0) t → ⊥
      none_there w = elim (has_either u.0 stands.0 t w) [ inl i ↦ new_there i | inr i ↦ below i ]

      -- no header may stand there
      module _ (new : List Bool) (refuses : (Q : List Header) → AreOccupied m Q occupied → (HasHeader Q t → ⊥) →
          (MayStand m Q t → ⊥) × (new ≡ occupied)) where
        refused : (P : List Header) → Leads m u.0 (start_of second) P t → (e : ListedHeader) → Follows m u.0 P t e → ⊥
        refused P l e x =
            let G : List Header → Type 0 = λ X. MayStand m (u.0 ++ X) t in
            (refuses (u.0 ++ stands.0) stands.2 none_there).0 (subst G (sym (same P l))
            (stood m u.0 (start_of second) P t e l x))

        pub step_refused : (w : Walking) → record { memory = m; second = second; at = o } ≡ w →
            MeetsNext w (Destroyed t) o
        step_refused w is = steps_by w is (Destroyed t) o (
          refl,
          there,
          no_arena m u.0 (start_of second) stands.0 t stands.1 (refused stands.0 stands.1),
          refused,
        )

        pub stays : FitsWalk (record { memory = m; second = second; at = o }) caught new
        stays = let G : List Bool → Type 0 = λ x. FitsWalk (record { memory = m; second = second; at = o }) caught x in
            subst G (sym (refuses (u.0 ++ stands.0) stands.2 none_there).1) stays_moved

      -- the header of e is told
      module _ (new : List Bool) (admits : (Q : List Header) → AreOccupied m Q occupied → (HasHeader Q t → ⊥) →
          MayStand m Q t × ((b : Header) → b.segment ≡ t → AreOccupied m (Q ++ b ∷ []) new)) (e : ListedHeader)
          (at : e.header.segment ≡ t) (x : IsHeader m e.header (signature_byte e.last)) where
        follows : (P : List Header) → Leads m u.0 (start_of second) P t → Follows m u.0 P t e
        follows P l =
            let G : List Header → Type 0 = λ X. MayStand m (u.0 ++ X) t in
            told m u.0 (start_of second) P t e l (subst G (same P l) (admits (u.0 ++ stands.0) stands.2 none_there).0)
            new_there at x

        pub step_told : (w : Walking) → record { memory = m; second = second; at = o } ≡ w → (o' : Option ℕ) →
            o' ≡ (if e.last then None else Some (next e.header)) → MeetsNext w (Told e) o'
        step_told w is o' at-is = steps_by w is (Told e) o' (
          at-is,
          λ P l. (
            follows P l,
            closes m u.0 (start_of second) P t e l (follows P l),
          ),
        )

        pub goes_on : (o' : Option ℕ) → o' ≡ (if e.last then None else Some (next e.header)) →
            FitsWalk (record { memory = m; second = second; at = o' }) caught new
        goes_on o' at-is =
            let G : Option ℕ → Type 0 = λ y. FitsWalk (record { memory = m; second = second; at = y }) caught new in
            subst G (sym at-is) (
              u.0,
              u.1,
              under_way m second u.0 u.1 stands.0 t e caught new e.last refl stands.1 (follows stands.0
                  stands.1) (occupied_on m u.0 stands.0 e.header new ((admits (u.0 ++ stands.0) stands.2 none_there).1
                  e.header at)) moved.0,
            )

-- from a first list that was told whole, the walk over the second one begins
second_by : (m : Memory) (second : Bool) (o : Option ℕ) (cursor c : Option ℕ) (occupied : List Bool) (F : List Header) →
    second ≡ false → o ≡ None → c ≡ Some first_header → FitsAt m second F o cursor occupied →
    FitsWalk (record { memory = m; second = true; at = Some 0x9FFF }) c occupied
second_by m second o cursor c occupied F s none start u =
    let G : Bool → Type 0 = λ x. FitsAt m x F o cursor occupied in
    let H : Option ℕ → Type 0 = λ x. FitsAt m false F x cursor occupied in
    let v : (L : List Header) × IsArena m first_header L × AreOccupied m L occupied = subst H none (subst G s u) in
    let C : List Header → Type 0 = λ X. IsClear m X in
    let A : List Header → Type 0 = λ X. AreOccupied m X occupied in
    let K : Option ℕ → Type 0 = λ x. IsCursor m v.0 x 0x9FFF in (
      v.0,
      v.1,
      (
        [],
        record { path = refl; clear = subst C (sym (append-nil v.0)) v.1.1; apart = λ g w z. z },
        subst A (sym (append-nil v.0)) v.2,
        subst K (sym start) (cursor-start m first_header 0x9FFF v.0 (record { nonempty = v.1.0.0; spells = v.1.0.1 })),
      ),
    )

pub second-begins : (m : Memory) (second : Bool) (o : Option ℕ) (cursor : Option ℕ) (occupied : List Bool) →
    FitsWalk (record { memory = m; second = second; at = o }) cursor occupied → second ≡ false → o ≡ None →
    FitsWalk (record { memory = m; second = true; at = Some 0x9FFF }) (Some first_header) occupied
second-begins m second o cursor occupied u s none =
    second_by m second o cursor (Some first_header) occupied u.0 s none refl u.2
