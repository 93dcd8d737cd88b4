-- The laws of single calls.
use Rattle.std.proofs.Common.{Bool, ◌≡◌, ◌≢◌, ℕ, ◌+◌, ◌≤◌, true, List, [], ◌∷◌, ◌++◌, inl, inr, refl, sym, ◌∙◌, ap, subst}
use Rattle.dm_space.specs.Memory.{Memory}
use Rattle.dm_space.proofs.Places.{place-shaped}
use Rattle.dm_blocks.specs.declared.header.Header.{Header}
use Rattle.dm_blocks.specs.Chain.{Becomes, IsArena, Spells, first_header, is_free}
use Rattle.dm_blocks.proofs.Chains.{clear_map, spells_end}
use Rattle.dm_arena.specs.declared.fit.Strategy.{Strategy}
use Rattle.dm_arena.specs.Allocation.{Taking, with_cut}
use Rattle.dm_arena.specs.Blocks.{IsIn, cut_block, cut_low, in_effect}
use Rattle.dm_arena.specs.Owned.{BlockAndFreeAt, absorb, freed, resized}
use Rattle.dm_arena.proofs.Allocating.{fits_size, in_middle}
use Rattle.dm_arena.specs.declared.fit.Fit.TheVariants.{First}
use Rattle.dm_laws.proofs.arena.Absorbed.{absorb-cover, absorb-segment, all_free, paragraphs-absorb}
use Rattle.dm_laws.specs.arena.Conservation.{Allocated, AllocationConservesBlocks, FreeingConservesBlocks, Resized, ResizingConservesBlocks}
use Rattle.dm_laws.specs.arena.Paragraphs.{paragraphs_taken}
use Rattle.dm_laws.proofs.arena.Within.{in_either, in_left, in_replaced, in_right, paragraphs-replaced}
use Rattle.dm_laws.proofs.arena.Joins.{and-left, free_in_join, kept_in_join, not-both, owned_in_join, paragraphs-join, part-of}
use Rattle.dm_laws.proofs.arena.Cuts.{IsCut, cut-is, cut-others, cut-paragraphs, cut-there, cut-within, taken}

pub becomes_arena : (S T : Memory) (L : List Header) → Becomes S first_header L T → IsArena T first_header L
becomes_arena S T L b = (b.chain, clear_map S T L (place-shaped S T b.differs.shape) b.clear)

-- 48h
module _ (up : Bool) (S T : Memory) (st : Strategy) (n owner : ℕ) (t : Taking up S first_header st n)
    (b : Becomes S first_header (with_cut t owner) T) where
  cut : IsCut n owner t.block (taken st.fit n owner t.block) (cut_block st.fit n owner t.block)
  cut = cut-is st.fit n owner t.block (fits_size up (in_effect up t.list st) n t.block t.fit.fit)

  is_block_free : is_free up t.block ≡ true
  is_block_free = and-left _ _ (and-left _ _ t.fit.fit)

  allocated : (segment : ℕ) → segment ≡ (taken st.fit n owner t.block).segment + 1 → Allocated up S T n owner segment
  allocated segment e =
      let new : Header = taken st.fit n owner t.block in
      let C : List Header = cut_block st.fit n owner t.block in
      record {
        old = t.list;
        new = with_cut t owner;
        block = new;
        spelled = t.arena;
        becomes = becomes_arena S T (with_cut t owner) b;
        end = paragraphs-replaced t.before C (t.block ∷ []) t.after (cut-paragraphs n owner t.block new C cut)
            ∙ ap paragraphs_taken (sym t.joined) ∙ paragraphs-join up t.list;
        there = in_right t.before (C ++ t.after) new (in_left C t.after new (cut-there n owner t.block new C cut));
        at = sym e;
        owned = refl;
        sized = refl;
        free = λ p h. free_in_join up S first_header t.list t.arena.0.1 p (record {
          block = t.block;
          there = (let F : List Header → Type 0 = λ X. IsIn t.block X in
              subst F (sym t.joined) (in_middle t.before t.block t.after));
          free = is_block_free;
          part = cut-within n owner t.block new C cut p h;
        });
        kept = λ d i u. (let F : List Header → Type 0 = λ X. IsIn d X in
            in_replaced t.before C (t.block ∷ []) t.after d
            (λ j. elim j [ inl q ↦ absurd (not-both _ is_block_free (ap (is_free up) (sym q) ∙ u)) | inr z ↦ absurd z ])
            (subst F t.joined (kept_in_join up t.list d u i)));
        others = λ d i o. elim (in_either t.before (C ++ t.after) d i) [
          | inl l ↦ inl (owned d o (in_left t.before (t.block ∷ t.after) d l))
          | inr r ↦ elim (in_either C t.after d r) [
            | inl c ↦ inr (cut-others n owner t.block new C cut d o c)
            | inr q ↦ inl (owned d o (in_right t.before (t.block ∷ t.after) d (inr q)))
          ]
        ];
      }
    where
      owned : (d : Header) → d.owner ≢ 0 → IsIn d (t.before ++ t.block ∷ t.after) → IsIn d t.list
      owned d o i = (let F : List Header → Type 0 = λ X. IsIn d X in
          owned_in_join up t.list d o (subst F (sym t.joined) i))

pub allocation_conserves : AllocationConservesBlocks
allocation_conserves up S T st n owner segment x = allocated up S T st n owner x.0 x.2 segment x.1

-- 49h
pub freeing_conserves : FreeingConservesBlocks
freeing_conserves up S T segment x =
    let f = x.0 in
    let F : Header → List Header → Type 0 = λ d X. IsIn d X in
    record {
      old = f.list;
      new = f.before ++ freed f.block ∷ f.after;
      block = f.block;
      spelled = f.arena;
      becomes = becomes_arena S T _ x.1;
      end = paragraphs-replaced f.before (freed f.block ∷ []) (f.block ∷ []) f.after refl
          ∙ ap paragraphs_taken (sym f.is);
      there = subst (F f.block) (sym f.is) (in_middle f.before f.block f.after);
      at = f.at;
      free = in_middle f.before (freed f.block) f.after;
      kept = λ d i s. in_replaced f.before (freed f.block ∷ []) (f.block ∷ []) f.after d
          (λ j. elim j [ inl q ↦ absurd (s (ap (λ z. z.segment) q)) | inr z ↦ absurd z ])
          (subst (F d) f.is i);
      others = λ d i s. subst (F d) (sym f.is) (in_replaced f.before (f.block ∷ []) (freed f.block ∷ []) f.after d
          (λ j. elim j [ inl q ↦ absurd (s (ap (λ z. z.segment) q)) | inr z ↦ absurd z ])
          i);
    }

-- 4Ah
module _ (up : Bool) (S T : Memory) (segment n : ℕ) (r : BlockAndFreeAt up S first_header segment) (h : n
    ≤ (absorb r.block r.free_after).size) (b : Becomes S first_header (resized r n) T) where
  resized_cut : IsCut n r.block.owner (absorb r.block r.free_after) (taken First n r.block.owner
      (absorb r.block r.free_after))
      (cut_low n r.block.owner (absorb r.block r.free_after))
  resized_cut = cut-is First n r.block.owner (absorb r.block r.free_after) h

  resizes : Resized up S T segment n
  resizes =
      let whole : Header = absorb r.block r.free_after in
      let new : Header = taken First n r.block.owner whole in
      let C : List Header = cut_low n r.block.owner whole in
      let F : Header → List Header → Type 0 = λ d X. IsIn d X in
      let G : Header → Type 0 = λ d. IsIn d (r.before ++ (C ++ r.after)) in
      let same : new ≡ record r.block { size = n } = ap (λ s. record {
        segment = s;
        owner = r.block.owner;
        size = n;
      }) (absorb-segment r.block r.free_after) in
      let spelled : Spells S first_header (r.before ++ r.block ∷ (r.free_after ++ r.after)) =
      (let H : List Header → Type 0 = λ X. Spells S first_header X in subst H r.is r.arena.0.1) in
      record {
        old = r.list;
        new = resized r n;
        block = r.block;
        spelled = r.arena;
        becomes = becomes_arena S T (resized r n) b;
        end = paragraphs-replaced r.before C (r.block ∷ r.free_after) r.after
            (cut-paragraphs n r.block.owner whole new C
            resized_cut ∙ paragraphs-absorb r.block r.free_after) ∙ ap paragraphs_taken (sym r.is);
        there = subst (F r.block) (sym r.is) (in_middle r.before r.block (r.free_after ++ r.after));
        at = r.at;
        sized = subst G same (in_right r.before (C ++ r.after) new (in_left C r.after new
            (cut-there n r.block.owner whole new C resized_cut)));
        free = λ p g. elim (absorb-cover up S r.block r.free_after r.after
            (spells_end S first_header r.before r.block (r.free_after
            ++ r.after) spelled).2 r.free p (cut-within n r.block.owner whole new C resized_cut p
            (part-of p _ _ (sym same) g))) [
              | inl x ↦ inl x
              | inr x ↦ inr (record {
                block = x.block;
                there = subst (F x.block) (sym r.is) (in_right r.before (r.block ∷ (r.free_after ++ r.after)) x.block
                    (inr (in_left r.free_after r.after x.block x.there)));
                free = x.free;
                part = x.part;
              })
            ];
        kept = λ d i s u. in_replaced r.before C (r.block ∷ r.free_after) r.after d
            (λ j. elim j [
              | inl q ↦ absurd (s (ap (λ z. z.segment) q))
              | inr z ↦
                  absurd (not-both _ (all_free up r.free_after d r.free z) u)
            ])
            (subst (F d) r.is i);
        others = λ d i s o. subst (F d) (sym r.is) (in_replaced r.before (r.block ∷ r.free_after) C r.after d
            (λ j. absurd (s (ap (λ z. z.segment) (cut-others n r.block.owner whole new C resized_cut d o j)
            ∙ absorb-segment r.block r.free_after)))
            i);
      }

pub resizing_conserves : ResizingConservesBlocks
resizing_conserves up S T segment n x = resizes up S T segment n x.0 x.1 x.2
