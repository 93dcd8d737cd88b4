-- Instructions and their bytes.
use Rattle.std.proofs.Common.{◌≡◌, ℕ, ◌+◌, List, length, Option, Some, None, IfNone, refl, sym, subst, ◌∙◌}
use Rattle.dm_ins.specs.Walks.{◌>>=◌}
use Rattle.dm_ins.specs.declared.ins.Ins.{Ins}
use Rattle.dm_ins.specs.declared.action.Action.{Action}
use Rattle.dm_ins.specs.Preferred.{IsPreferred}
use Rattle.dm_ins.specs.Spelling.{SpellsAction}
use Rattle.dm_decode.specs.declared.words.written.Words.{Words}
use Rattle.dm_decode.specs.words.Words.{AreWords}
use Rattle.dm_decode.specs.words.StandIns.{StandsFor}
use Rattle.dm_decode.specs.words.Laws.{WordsAreOne, LengthsAreKnown}
use Rattle.dm_lines.specs.declared.statement.Instruction.{Instruction}
use Rattle.dm_lines.specs.Laws.{TermFits, OutlinesStand}
use Rattle.dm_asm.specs.Labels.{Label, term_place}
use Rattle.dm_asm.specs.Codes.{written_for, placed_words, outlined, HasShape, IsCoded}
use Rattle.dm_asm.proofs.Chosen.{shape_once, words_encode_once}

pub bind_some : {A B : Type 0} (r : Option A) (f : A → Option B) (y : B) → (r >>= f) ≡ Some y → (x : A) × (r ≡ Some x) ×
    (f x ≡ Some y)
bind_some None f y h = absurd cc
bind_some (Some x) f y h = (x, refl, h)

pub some_same : {A : Type 0} (x y : A) → ◌≡◌ {A = Option A} (Some x) (Some y) → x ≡ y
some_same x y h = cc

pub not_none : {A : Type 0} (r : Option A) (x : A) → r ≡ None → r ≡ Some x → ⊥
not_none r x p q = cc

pub stands : OutlinesStand → (labels : List Label) (next : ℕ) (i : Instruction) (w : Words) → TermFits i.first →
    TermFits i.second → placed_words labels next i ≡ Some w → StandsFor (outlined i) w
stands law labels next i w ff fs h =
    let a = bind_some (written_for labels i.mnemonic next i.first) _ w h in
    let b = bind_some (written_for labels i.mnemonic next i.second) _ w a.2 in
    let p = bind_some (term_place labels i.first) _ a.0 a.1 in
    let q = bind_some (term_place labels i.second) _ b.0 b.1 in
    subst (StandsFor (outlined i)) (some_same _ w b.2)
    (record {
      mnemonic = refl;
      first = law i.mnemonic i.first p.0 next a.0 ff p.2;
      second = law i.mnemonic i.second q.0 next b.0 fs q.2;
    })

pub coded : OutlinesStand → LengthsAreKnown → (labels : List Label) (at n : ℕ) (i : Instruction) (w : Words) (ins : Ins)
    (code : List ℕ) → HasShape i n → TermFits i.first → TermFits i.second → placed_words labels (at + n) i ≡ Some w →
    ins.prefixes ≡ i.prefixes → AreWords w ins.action → IsPreferred ins code → IsCoded labels at i code
coded law lengths labels at n i w ins code shape ff fs h prefixes words chosen =
    let len : length code ≡ n = sym (shape.long ∙ lengths (outlined i) w shape.ins ins shape.code code
    (stands law labels (at + n) i w ff fs h) shape.words words (shape.prefixes
    ∙ sym prefixes) shape.preferred chosen) in
    record {
      shape = subst (HasShape i) (sym len) shape;
      written = w;
      placed = subst (λ (k : ℕ). placed_words labels (at + k) i ≡ Some w) (sym len) h;
      ins = ins;
      prefixes = prefixes;
      words = words;
      preferred = chosen;
    }

-- the words of an instruction that has bytes, where its length is known
same_place : WordsAreOne → (labels : List Label) (at n : ℕ) (i : Instruction) (code : List ℕ) → HasShape i n →
    (c : IsCoded labels at i code) → placed_words labels (at + n) i ≡ Some c.written
same_place one labels at n i code shape c =
    subst (λ (k : ℕ). placed_words labels (at + k) i ≡ Some c.written) (shape_once one i (length code) n c.shape shape)
    c.placed

pub not_placed : WordsAreOne → (labels : List Label) (at n : ℕ) (i : Instruction) (code : List ℕ) → HasShape i n →
    placed_words labels (at + n) i ≡ None → IsCoded labels at i code → ⊥
not_placed one labels at n i code shape h c = not_none _ c.written h (same_place one labels at n i code shape c)

pub not_read : WordsAreOne → (labels : List Label) (at n : ℕ) (i : Instruction) (w : Words) (code : List ℕ) →
    HasShape i n → placed_words labels (at + n) i ≡ Some w → ((a : Action) (b : List ℕ) → AreWords w a →
    SpellsAction a b → ⊥) → IsCoded labels at i code → ⊥
not_read one labels at n i w code shape h none c =
    let e : c.written ≡ w = some_same _ _ (sym (same_place one labels at n i code shape c) ∙ h) in
    none c.ins.action c.preferred.spells.rest (subst (λ (v : Words). AreWords v c.ins.action) e c.words)
    c.preferred.spells.action

pub coded_once : WordsAreOne → (labels : List Label) (at : ℕ) (i : Instruction) (a b : List ℕ) → IsCoded labels at i a →
    IsCoded labels at i b → a ≡ b
coded_once one labels at i a b c d =
    let e : c.written ≡ d.written = some_same _ _ (sym c.placed ∙ same_place one labels at (length a) i b c.shape d) in
    words_encode_once one d.written c.ins d.ins a b (c.prefixes
    ∙ sym d.prefixes) (subst (λ (v : Words). AreWords v c.ins.action) e c.words) d.words c.preferred d.preferred

pub if_none : {A : Type 0} (r : Option A) (P : Type 0) → P → IfNone r P
if_none None P p = p
if_none (Some x) P p = tt
