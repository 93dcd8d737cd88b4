-- Steps of the one walk of functions 48h and 49h.
use Rattle.std.proofs.Common.{Bool, ◌≡◌, ℕ, true, false, ◌||◌, max, List, [], ◌∷◌, ◌++◌, refl, sym, ◌∙◌, ap, subst, arith, Option, None, Some, append_assoc}
use Rattle.std.specs.Prelude.{option_to_list, if◌then◌else◌}
use Rattle.std.specs.Bool.{OnFalse}
use Rattle.dm_space.specs.Memory.{Memory}
use Rattle.dm_space.proofs.Places.{shaped-same}
use Rattle.dm_blocks.specs.declared.header.Header.{Header}
use Rattle.dm_blocks.specs.declared.header.ListedHeader.{ListedHeader}
use Rattle.dm_blocks.specs.Chain.{first_header, HasHeader, IsArena, Spells, is_free, next}
use Rattle.dm_blocks.specs.Reading.{IsFront, IsSpelledFrom}
use Rattle.dm_blocks.specs.Listing.{Leads, LeadsOn, StandsAfter}
use Rattle.dm_blocks.proofs.LowPart.{stands-up}
use Rattle.dm_arena.specs.declared.fit.Strategy.{Strategy}
use Rattle.dm_arena.specs.declared.fit.Choice.{Choice}
use Rattle.dm_arena.specs.declared.joined.JoinedBlock.{JoinedBlock}
use Rattle.dm_arena.specs.declared.survey.Survey.{Survey}
use Rattle.dm_arena.specs.Blocks.{join, largest, merge}
use Rattle.dm_arena.specs.inner.Walks.{pick, IsChoosing, IsJoinedFront, IsJoining}
use Rattle.dm_arena.specs.inner.Survey.{IsJoinedBlock, IsJoiningBlock, IsJoinedTo, MayJoin, IsSurveying, IsSurvey}
use Rattle.dm_arena.proofs.Reading.{joining_start, joining_more, exit_last, exit_taken, exit_before_taken, next_spelled}
use Rattle.dm_arena.proofs.Choosing.{met_more, all_block, all_largest, choosing_all, left-all}

-- a walk goes on over adjacent free blocks
pub proceeds_then : (S : Memory) (h t u v w : ℕ) (l m : Bool) → LeadsOn S h l t → l ≡ false → t ≡ u → LeadsOn S u m v →
    v ≡ w → LeadsOn S h m w
proceeds_then S h t u v w l m p f e q g = λ P x.
    (let up = stands-up S l t f (p P x) in
    let there : Leads S [] first_header up.0 u = subst (λ k. Leads S [] first_header up.0 k) e up.1 in
    subst (λ k. StandsAfter S m k) g (q up.0 there))

-- whether adjacent free blocks were met
pub or_true : (s r b : Bool) → s ≡ true → b ≡ s → b ≡ s || r
or_true s r b e f = rw (f, e) refl

pub or_false : (s r b : Bool) → s ≡ false → b ≡ r → b ≡ s || r
or_false s r b e f = rw (e, f) refl

pub or_none : (s : Bool) → s ≡ s || false
or_none true = refl
or_none false = refl

module _ (up : Bool) where
  pub open_start : (S : Memory) (L : List Header) (e : ListedHeader) → (K : List Header) × IsFront S L e K →
      (K : List Header) × IsJoiningBlock up S L e false K
  unfolding joining_start
  open_start S L e (K, f) = (K, record { joining = (joining_start up S L e (K, f)).1; single = f.is })

  pub open_more : (S : Memory) (L : List Header) (e a : ListedHeader) (several : Bool) (K : List Header) →
      IsJoiningBlock up S L e several K → e.last ≡ false → is_free up e.header ≡ true → is_free up a.header ≡ true →
      a.header.segment ≡ next e.header → (t : ℕ) → t ≡ next e.header → ((M : List Header) → IsSpelledFrom S t M →
      (N : List Header) × IsFront S M a N) → (N : List Header) ×
      IsJoiningBlock up S L (record { header = merge e.header a.header; last = a.last }) true N
  open_more S L e a several K o l fe fa there t ist front =
      let m = joining_more up S L e a K o.joining l fe fa there t ist front in
      (m.0, record { joining = m.1; single = tt })

  pub close_last : (S : Memory) (L : List Header) (e : ListedHeader) (several : Bool) → e.last ≡ true →
      (K : List Header) × IsJoiningBlock up S L e several K → (K : List Header) ×
      IsJoinedBlock up S L (record { listed = e; several = several }) K
  unfolding exit_last
  close_last S L e several l ([], o) = (
    [],
    record {
      front = (exit_last up S L e l ([], o.joining)).1;
      single = o.single;
    },
  )
  close_last S L e several l (c ∷ K, o) = absurd (let x : true ≡ false = sym l ∙ o.joining.last in cc)

  pub close_taken : (S : Memory) (L : List Header) (e : ListedHeader) (several : Bool) → is_free up e.header ≡ false →
      (K : List Header) × IsJoiningBlock up S L e several K → (K : List Header) ×
      IsJoinedBlock up S L (record { listed = e; several = several }) K
  unfolding exit_taken
  close_taken S L e several f ([], o) = (
    [],
    record {
      front = (exit_taken up S L e f ([], o.joining)).1;
      single = o.single;
    },
  )
  close_taken S L e several f (c ∷ K, o) = (
    c ∷ K,
    record {
      front = (exit_taken up S L e f (c ∷ K, o.joining)).1;
      single = o.single;
    },
  )

  pub close_before_taken : (S : Memory) (L : List Header) (e a : ListedHeader) (several : Bool) → e.last ≡ false →
      is_free up e.header ≡ true → is_free up a.header ≡ false → (t : ℕ) → t ≡ next e.header →
      ((M : List Header) → IsSpelledFrom S t M → (N : List Header) × IsFront S M a N) → (K : List Header) ×
      IsJoiningBlock up S L e several K → (K : List Header) × IsJoinedBlock up S L (record {
        listed = e;
        several =
            several;
      }) K
  unfolding exit_before_taken
  close_before_taken S L e a several l fe fa t ist front ([], o) = absurd (let x : false ≡ true = sym l
      ∙ o.joining.last in cc)
  close_before_taken S L e a several l fe fa t ist front (c ∷ K, o) = (
    c ∷ K,
    record {
      front = (exit_before_taken up S L e a l fe fa t ist front (c ∷ K, o.joining)).1;
      single = o.single;
    },
  )

  -- a block that is taken is joined with no other
  pub taken_front : (S : Memory) (L : List Header) (e : ListedHeader) → is_free up e.header ≡ false →
      (K : List Header) × IsFront S L e K → (K : List Header) × IsJoinedBlock up S L (record {
        listed = e;
        several = false;
      }) K
  taken_front S L e f x = close_taken S L e false f (open_start S L e x)

  -- what is left to write where the headers before are those of the joined list
  joined_by : (several : Bool) (S : Memory) (L : List Header) (from h : ℕ) (K : List Header) →
      MayJoin up several S L from h K → IsSpelledFrom S h K → IsSpelledFrom S first_header L → IsJoinedTo up S L from
  joined_by true S L from h K m k l = m
  joined_by false S L from h K m k l = record {
    done = m.1.0;
    rest = K;
    nonempty = k.nonempty;
    joining = record {
      rest = subst (λ x. Spells S x K) (sym m.0) k.spells;
      spells = subst (λ X. Spells S first_header X) m.1.1 l.spells;
      is = sym m.1.2;
      within = λ g w. subst (λ X. HasHeader X g) (sym m.1.1) w;
      differs = record { shape = shaped-same S; kept = λ p ne. refl };
    };
  }

  may_step : (several joined : Bool) (S : Memory) (L : List Header) (from h : ℕ) (K : List Header) (e : ListedHeader)
      (N : List Header) (t : ℕ) → MayJoin up several S L from h K → IsSpelledFrom S h K →
      IsSpelledFrom S first_header L → join up K ≡ e.header ∷ join up N → OnFalse joined (K ≡ e.header ∷ N) →
      MayJoin up (several || joined) S L (if several || joined then from else t) t N
  may_step true joined S L from h K e N t m k l j s = m
  may_step false true S L from h K e N t m k l j s = joined_by false S L from h K m k l
  may_step false false S L from h K e N t m k l j s = (
    refl,
    (
      m.1.0 ++ e.header ∷ [],
      m.1.1 ∙ ap (λ X. m.1.0 ++ X) s ∙ sym (append_assoc m.1.0 (e.header ∷ []) N),
      m.1.2 ∙ ap (λ X. m.1.0 ++ X) j ∙ sym (append_assoc m.1.0 (e.header ∷ []) (join up N)),
    ),
  )

  pub survey_all : (S : Memory) (L : List Header) (st : Strategy) (n : ℕ) → IsSpelledFrom S first_header L →
      IsSurveying up S L st n false first_header first_header (record { block = None; largest = 0 }) L
  survey_all S L st n s = record {
    choosing = choosing_all up S L st n None first_header s;
    joins = (refl, ([], refl, refl));
  }

  module _ (S : Memory) (L : List Header) (st : Strategy) (n : ℕ) (several : Bool) (from h : ℕ) (choice : Choice)
      (K : List Header) (c : IsSurveying up S L st n several from h choice K) (l : IsSpelledFrom S first_header L)
      (r : JoinedBlock) (N : List Header) (f : IsJoinedBlock up S K r N) (more : Choice) (block : more.block
      ≡ pick up st n choice.block (option_to_list (Some r.listed.header))) (most : more.largest
      ≡ max choice.largest (largest up st (option_to_list (Some r.listed.header)))) where
    pub survey_more : r.listed.last ≡ false → (t u : ℕ) (b : Bool) → t ≡ next r.listed.header →
        b ≡ several || r.several →
        u ≡ (if b then from else t) → (M : List Header) × IsSurveying up S L st n b u t more M
    unfolding met_more
    survey_more e t u b ist isb isu =
        let x = met_more up S L st n None h choice K c.choosing r.listed N f.front more block most e t ist in
        let step = may_step several r.several S L from h K r.listed N t c.joins c.choosing.spelled l f.front.is
        f.single in
        let at : MayJoin up b S L (if b then from else t) t N = subst (λ v. MayJoin up v S L (if v then from else
        t) t N) (sym isb) step in
        (N, record { choosing = x.1; joins = subst (λ v. MayJoin up b S L v t N) (sym isu) at })

    pub survey_whole : r.listed.last ≡ true → (s : Survey) → s ≡ record { choice = more; from = from } →
        IsSurvey up S L st n s
    survey_whole e s is = rw is (record {
      block_is = all_block up S L st n None h choice K c.choosing r.listed N f.front more block most e
          ∙ ap (pick up st n None) (left-all (join up L));
      largest_is = all_largest up S L st n None h choice K c.choosing r.listed N f.front more block most e
          ∙ ap (largest up st) (left-all (join up L));
      joined = joined_by several S L from h K c.joins c.choosing.spelled l;
    })
