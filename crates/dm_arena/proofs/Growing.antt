-- A block with the free blocks right after it.
use Rattle.std.proofs.Common.{Bool, ◌≡◌, ℕ, ◌<◌, ◌≤◌, true, false, List, [], ◌∷◌, ◌++◌, inl, inr, refl, sym, ◌∙◌, ap, ap₂, subst, arith, append_assoc}
use Rattle.std.specs.Prelude.{option_to_list}
use Rattle.dm_space.specs.Memory.{Memory}
use Rattle.dm_blocks.specs.declared.header.Header.{Header}
use Rattle.dm_blocks.specs.declared.header.ListedHeader.{ListedHeader}
use Rattle.dm_arena.specs.declared.cut.Cut.{Cut}
use Rattle.dm_arena.specs.declared.fit.Fit.TheVariants.{First}
use Rattle.dm_blocks.specs.Chain.{Spells, HasHeader, IsNonEmpty, next, IsClear, IsArena, Becomes}
use Rattle.dm_blocks.specs.Reading.{IsSpelledFrom, IsFront, IsFoundAt}
use Rattle.dm_arena.specs.inner.Walks.{Fills, IsReplaceable, IsReplaced, IsGrown, IsGrowable}
use Rattle.dm_blocks.specs.Chain.{is_free}
use Rattle.dm_arena.specs.Blocks.{merge, cut_block, cut_low}
use Rattle.dm_arena.specs.inner.Blocks.{cut_list}
use Rattle.dm_arena.specs.Owned.{BlockAndFreeAt, absorb, AllFree, BeginsTaken, is_link_block, resized}
use Rattle.dm_arena.specs.inner.Standing.{AreOutside, IsNew, MaySplit}
use Rattle.dm_blocks.proofs.Chains.{has_left, has_right, has_either, spells_end, spells_above, spells_below, clear_within}
use Rattle.dm_arena.proofs.Ends.{fills_above, fills_below}
use Rattle.dm_arena.proofs.Beside.{clear-cut, unclear-cut, new-cut}
use Rattle.dm_arena.proofs.Allocating.{cut_fills}

absorb-push : (b : Header) (R : List Header) (c : Header) → absorb b (R ++ c ∷ []) ≡ merge (absorb b R) c
absorb-push b [] c = refl
absorb-push b (d ∷ R) c = absorb-push (merge b d) R c

spells_at : (S : Memory) (h k : ℕ) (L : List Header) → h ≡ k → Spells S h L → Spells S k L
spells_at S h k L e s = let P : ℕ → Type 0 = λ x. Spells S x L in subst P e s

absorb-segment : (b : Header) (R : List Header) → (absorb b R).segment ≡ b.segment
absorb-segment b [] = refl
absorb-segment b (c ∷ R) = absorb-segment (merge b c) R

absorb-owner : (b : Header) (R : List Header) → (absorb b R).owner ≡ b.owner
absorb-owner b [] = refl
absorb-owner b (c ∷ R) = absorb-owner (merge b c) R

absorb-fills : (S : Memory) (b : Header) (R Q : List Header) → Spells S (next b) (R ++ Q) →
    Fills (next b) R (next (absorb b R))
absorb-fills S b [] Q s = refl
absorb-fills S b (c ∷ R) Q s =
    let e : next c ≡ next (merge b c) = (let x = s.0 in omega arith) in
    let F : ℕ → Type 0 = λ z. Fills z R (next (absorb (merge b c) R)) in
    (s.0, subst F (sym e) (absorb-fills S (merge b c) R Q (spells_at S _ _ (R ++ Q) e s.2)))

nonempty : (P : List Header) (d : Header) (Q : List Header) → IsNonEmpty (P ++ d ∷ Q)
nonempty [] d Q = tt
nonempty (q ∷ P) d Q = tt

module _ (up : Bool) where
  free-push : (R : List Header) (c : Header) → AllFree up R → is_free up c ≡ true → AllFree up (R ++ c ∷ [])
  free-push [] c a f = (f, tt)
  free-push (d ∷ R) c a f = (a.0, free-push R c a.1 f)

  pub grown_start : (S : Memory) (e : ListedHeader) (K : List Header) → IsGrowable S e K → (R : List Header) ×
      (Q : List Header) × IsGrown up S e K e R Q
  grown_start S e K g = ([], K, record { is = refl; free = tt; header = refl; last = g.last; rest = g.rest })

  pub grown_more : (S : Memory) (e : ListedHeader) (K : List Header) (g a : ListedHeader) (R Q : List Header) →
      IsGrown up S e K g R Q → g.last ≡ false → is_free up a.header ≡ true → a.header.segment ≡ next g.header →
      (t : ℕ) → t ≡ next g.header → ((M : List Header) → IsSpelledFrom S t M → (N : List Header) × IsFront S M a N) →
      (R' : List Header) × (Q' : List Header) × IsGrown up S e K (record {
        header = merge g.header a.header;
        last = a.last;
      }) R' Q'
  grown_more S e K g a R [] x l f there t ist front = absurd (let y : false ≡ true = sym l ∙ x.last in cc)
  grown_more S e K g a R (c ∷ Q) x l f there t ist front =
      let r = front (c ∷ Q) (record { nonempty = tt; spells = spells_at S _ _ (c ∷ Q) (sym ist) x.rest }) in
      let y : IsFront S (c ∷ Q) a r.0 = r.1 in (
        R ++ a.header ∷ [],
        r.0,
        record {
          is = x.is ∙ ap (λ X. R ++ X) y.is ∙ sym (append_assoc R (a.header ∷ []) r.0);
          free = free-push R a.header x.free f;
          header = ap (λ z. merge z a.header) x.header ∙ sym (absorb-push e.header R a.header);
          last = y.last;
          rest = spells_at S _ _ r.0 (omega arith) y.rest;
        },
      )

  pub grown_last : (S : Memory) (e : ListedHeader) (K : List Header) (g : ListedHeader) (R Q : List Header) →
      IsGrown up S e K g R Q → g.last ≡ true → BeginsTaken up Q
  grown_last S e K g R [] x l = tt
  grown_last S e K g R (c ∷ Q) x l = absurd (let y : true ≡ false = sym l ∙ x.last in cc)

  pub grown_before_taken : (S : Memory) (e : ListedHeader) (K : List Header) (g a : ListedHeader) (R Q : List Header) →
      IsGrown up S e K g R Q → is_free up a.header ≡ false → (t : ℕ) → t ≡ next g.header →
      ((M : List Header) → IsSpelledFrom S t M → (N : List Header) × IsFront S M a N) → BeginsTaken up Q
  grown_before_taken S e K g a R [] x f t ist front = tt
  grown_before_taken S e K g a R (c ∷ Q) x f t ist front =
      let r = front (c ∷ Q) (record { nonempty = tt; spells = spells_at S _ _ (c ∷ Q) (sym ist) x.rest }) in
      let y : IsFront S (c ∷ Q) a r.0 = r.1 in
      let z : c ≡ a.header = (let w = y.is in cc) in
      rw z f

  pub grown_next : (S : Memory) (e : ListedHeader) (K : List Header) (g : ListedHeader) (R Q : List Header) →
      IsGrown up S e K g R Q → g.last ≡ false → (t : ℕ) → t ≡ next g.header → (M : List Header) × IsSpelledFrom S t M
  grown_next S e K g R [] x l t ist = absurd (let y : false ≡ true = sym l ∙ x.last in cc)
  grown_next S e K g R (c ∷ Q) x l t ist = (
    c ∷ Q,
    record {
      nonempty = tt;
      spells = spells_at S _ _ (c
          ∷ Q) (sym ist) x.rest;
    },
  )

  -- the arena L, the block of e in it, and g, which is the block with the free blocks right after it
  module _ (S : Memory) (start : ℕ) (L : List Header) (segment n : ℕ) (e g : ListedHeader) (P K R Q : List Header)
      (a : IsArena S start L) (f : IsFoundAt S L segment e P K) (x : IsGrown up S e K g R Q) (stops : BeginsTaken up Q)
      (other : is_link_block up segment ≡ false) where
    pub is : L ≡ P ++ e.header ∷ (R ++ Q)
    is = f.is ∙ ap (λ X. P ++ e.header ∷ X) x.is

    abbrev pub with_free : BlockAndFreeAt up S start segment
    with_free = record {
      list = L;
      before = P;
      block = e.header;
      free_after = R;
      after = Q;
      arena = a;
      is = is;
      at = f.at;
      other = other;
      free = x.free;
      stops = stops;
    }

    pub size_is : g.header.size ≡ (absorb e.header R).size
    size_is = ap (λ z. z.size) x.header

    spelled : Spells S start (P ++ e.header ∷ (R ++ Q))
    spelled = let F : List Header → Type 0 = λ X. Spells S start X in subst F is a.0.1

    same-end : next g.header ≡ next (absorb e.header R)
    same-end = ap next x.header

    inner : Fills (next e.header) R (next (absorb e.header R))
    inner = absorb-fills S e.header R Q (spells_end S start P e.header (R ++ Q) spelled).2

    before : (h : ℕ) → HasHeader P h → h < e.header.segment
    before h w = spells_below S start P e.header (R ++ Q) spelled h w

    behind : (h : ℕ) → HasHeader Q h → next (absorb e.header R) ≤ h
    behind h w = (let y = spells_above S (next g.header) Q x.rest h w in let z = same-end in omega arith)

    has : (h : ℕ) → HasHeader (P ++ e.header ∷ (R ++ Q)) h → HasHeader L h
    has h w = let F : List Header → Type 0 = λ X. HasHeader X h in subst F (sym is) w

    kept-within : (h : ℕ) → HasHeader (P ++ e.header ∷ Q) h → HasHeader L h
    kept-within h w = elim (has_either P (e.header ∷ Q) h w) [
      | inl l ↦ has h (has_left P (e.header ∷ (R ++ Q)) h l)
      | inr r ↦ elim r [
        | inl q ↦ has h (has_right P (e.header ∷ (R ++ Q)) h (inl q))
        | inr v ↦ has h (has_right P (e.header ∷ (R ++ Q)) h (inr (has_right R Q h v)))
      ]
    ]

    -- the headers that stay: those that are not within the block with the free blocks right after it
    pub outside : (t : ℕ) → t ≡ next g.header → AreOutside L e.header.segment t (P ++ e.header ∷ Q)
    outside t ist = record {
      has = λ h w o. (let F : List Header → Type 0 = λ X. HasHeader X h in
          elim (has_either P (e.header ∷ (R ++ Q)) h (subst F is w)) [
            | inl l ↦ has_left P (e.header ∷ Q) h l
            | inr r ↦ elim r [
              | inl q ↦ has_right P (e.header ∷ Q) h (inl q)
              | inr q ↦ elim (has_either R Q h q) [
                | inl u ↦ (let low = fills_above (next e.header) _ R inner h u in
                    let high = fills_below (next e.header) _ R inner h u in
                    let z = same-end in
                    absurd (elim o [ inl y ↦ omega arith | inr y ↦ omega arith ]))
                | inr v ↦ has_right P (e.header ∷ Q) h (inr v)
              ]
            ]
          ]);
      within = kept-within;
      outside = λ h w. elim (has_either P (e.header ∷ Q) h w) [
        | inl l ↦ inl (let y = before h l in omega arith)
        | inr r ↦ elim r [
          | inl q ↦ inl (omega arith)
          | inr v ↦ inr (let y = behind h v in let z = same-end in omega arith)
        ]
      ];
    }

    module _ (within : n ≤ g.header.size) (c : Cut) (cut_is : cut_list c ≡ cut_block First n g.header.owner g.header)
      where
        list_is : cut_list c ≡ cut_low n e.header.owner (absorb e.header R)
        list_is = cut_is ∙ ap₂ (λ o z. cut_low n o z) (ap (λ z. z.owner) x.header ∙ absorb-owner e.header R) x.header

        fills : Fills e.header.segment (cut_list c) (next (absorb e.header R))
        fills =
            let F : List Header → Type 0 = λ X. Fills e.header.segment X (next (absorb e.header R)) in
            let G : ℕ → Type 0 = λ z. Fills z (cut_low n e.header.owner (absorb e.header R))
            (next (absorb e.header R)) in
            subst F (sym list_is) (subst G (absorb-segment e.header R) (cut_fills First n e.header.owner
            (absorb e.header R) (let y = size_is in omega arith)))

        pub resized_new : IsNew (P ++ e.header ∷ Q) c.second
        resized_new = new-cut P e.header Q (next (absorb e.header R)) c.first c.second before behind fills

        pub clear_resized : MaySplit S (P ++ e.header ∷ Q) c.second → IsClear S (P ++ (cut_list c ++ Q))
        clear_resized m = clear-cut S P e.header Q c.first c.second fills.0 (clear_within S L (P ++ e.header
            ∷ Q) kept-within a.1) m

        pub resizing : IsClear S (P ++ (cut_list c ++ Q)) → IsReplaceable S start P (e.header
            ∷ R) Q (cut_list c) g.last e.header.segment (next (absorb e.header R))
        resizing k = record {
          nonempty = tt;
          spells = spelled;
          old_fills = (refl, inner);
          new_fills = fills;
          end = x.last;
          clear = k;
        }

        pub resizes : IsClear S (P ++ (cut_list c ++ Q)) → (T : Memory) → IsReplaced S start P Q (cut_list c) T →
            (r : BlockAndFreeAt up S start segment) × (n ≤ (absorb r.block r.free_after).size) × Becomes S start
            (resized r n) T
        resizes k T r =
            let F : List Header → Type 0 = λ X. Becomes S start (P ++ (X ++ Q)) T in (
              with_free,
              (let y = size_is in omega arith),
              subst F list_is (record {
                clear = k;
                chain = (nonempty P c.first (option_to_list c.second ++ Q), r.spells);
                differs = record {
                  shape = r.differs.shape;
                  kept = λ p ne. r.differs.kept p (λ h k w. ne h k
                      (has_right P (cut_list c ++ Q) h (has_left (cut_list c) Q h w)));
                };
              }),
            )

        pub unresized : (MaySplit S (P ++ e.header ∷ Q) c.second → ⊥) → (r : BlockAndFreeAt up S start segment) ×
            (n ≤ (absorb r.block r.free_after).size) × (IsClear S (resized r n) → ⊥)
        unresized m =
            let F : List Header → Type 0 = λ X. IsClear S (P ++ (X ++ Q)) in (
              with_free,
              (let y = size_is in omega arith),
              λ k. unclear-cut S P e.header Q c.first c.second fills.0 resized_new m (subst F (sym list_is) k),
            )
