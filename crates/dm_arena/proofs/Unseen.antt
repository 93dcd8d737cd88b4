-- No call depends on what no program sees, or changes it.
use Rattle.std.proofs.Common.{Bool, ◌≡◌, ℕ, ◌+◌, ◌*◌, ◌<◌, List, [], ◌∷◌, ◌++◌, true, false, inl, inr, sym, ◌∙◌, ap, ap₂, subst, Result, Ok, Err}
use Rattle.dm_space.specs.Memory.{Memory, place, peek}
use Rattle.dm_space.specs.Places.{IsWritable}
use Rattle.dm_space.specs.Unseen.{IsUnseen}
use Rattle.dm_blocks.specs.declared.header.Header.{Header}
use Rattle.dm_arena.specs.declared.refusal.ArenaRefusal.{ArenaRefusal}
use Rattle.dm_arena.specs.declared.refusal.ArenaRefusal.TheVariants.{Destroyed, Short, NoBlock}
use Rattle.dm_arena.specs.declared.fit.Strategy.{Strategy}
use Rattle.dm_blocks.specs.Chain.{first_header, link_header, word, IsHeader, Spells, IsChain, IsClear, IsArena, IsArenaBehind, NoArena, NoArenaBehind, Becomes, DiffersInHeaders, next}
use Rattle.dm_arena.specs.Allocation.{Taking, with_cut, Allocates, AllocateRefused}
use Rattle.dm_arena.specs.Owned.{BlockAt, Frees, FreeRefused, BlockAndFreeAt, resized, Resizes, ResizeRefused, ReleaseRefused, Releases, released}
use Rattle.dm_arena.specs.Pair.{Pairing, Planned, IsPair, with_pair, Placed, Pairs, PairRefused}
use Rattle.dm_arena.specs.Linking.{BecomesLinked, BecomesUnlinked, IsSo, LinkRefused, Links, TellsLinked}
use Rattle.dm_arena.specs.inner.Unseen.{IgnoresUnseen}

-- two memories show the same bytes at the same places
record Shows (A B : Memory) : Type 0 where
  peek_same : (a : ℕ) → peek B a ≡ peek A a
  place_same : (a : ℕ) → place B a ≡ place A a

word-same : (A B : Memory) → Shows A B → (a : ℕ) → word B a ≡ word A a
word-same A B v a = ap₂ (λ x y. x + 256 * y) (v.peek_same a) (v.peek_same (a + 1))

header-same : (A B : Memory) → Shows A B → (b : Header) (m : ℕ) → IsHeader A b m → IsHeader B b m
header-same A B v b m h = record {
  fits = h.fits;
  bytes = λ k small. subst (λ x. x < 256) (sym (v.peek_same (16 * b.segment + k))) (h.bytes k small);
  signed = v.peek_same (16 * b.segment) ∙ h.signed;
  owned = word-same A B v (16 * b.segment + 1) ∙ h.owned;
  sized = word-same A B v (16 * b.segment + 3) ∙ h.sized;
}

spells-same : (A B : Memory) → Shows A B → (h : ℕ) (L : List Header) → Spells A h L → Spells B h L
spells-same A B v h [] s = tt
spells-same A B v h (b ∷ L) s = (s.0, header-same A B v b _ s.1, spells-same A B v (next b) L s.2)

chain-same : (A B : Memory) → Shows A B → (start : ℕ) (L : List Header) → IsChain A start L → IsChain B start L
chain-same A B v start L c = (c.0, spells-same A B v start L c.1)

clear-same : (A B : Memory) → Shows A B → (L : List Header) → IsClear A L → IsClear B L
clear-same A B v L c = record {
  writable = λ h w. subst IsWritable (sym (v.place_same (16 * h))) (c.writable h w);
  apart = λ h g w u e. c.apart h g w u (sym (v.place_same (16 * h)) ∙ e ∙ v.place_same (16 * g));
}

arena-same : (A B : Memory) → Shows A B → (start : ℕ) (L : List Header) → IsArena A start L → IsArena B start L
arena-same A B v start L a = (chain-same A B v start L a.0, clear-same A B v L a.1)

-- the memory before a call and the one after it, both changed out of sight
module _ (f : Memory → Memory) (u : IsUnseen f) where
  there : (S : Memory) → Shows S (f S)
  there S = record { peek_same = u.peek_same S; place_same = u.place_same S }

  back : (S : Memory) → Shows (f S) S
  back S = record { peek_same = λ a. sym (u.peek_same S a); place_same = λ a. sym (u.place_same S a) }

  none-unseen : (S : Memory) (start : ℕ) → NoArena S start → NoArena (f S) start
  none-unseen S start none L a = none L (arena-same (f S) S (back S) start L a)

  unclear-unseen : (S : Memory) (L : List Header) → (IsClear S L → ⊥) → IsClear (f S) L → ⊥
  unclear-unseen S L n c = n (clear-same (f S) S (back S) L c)

  becomes-unseen : (S : Memory) (start : ℕ) (L : List Header) (T : Memory) → Becomes S start L T →
      Becomes (f S) start L (f T)
  becomes-unseen S start L T b = record {
    clear = clear-same S (f S) (there S) L b.clear;
    chain = chain-same T (f T) (there T) start L b.chain;
    differs = record {
      shape = u.shape_same S T b.differs.shape;
      kept = λ p ne. u.byte_same S T p b.differs.shape (b.differs.kept p (λ h k w small e. ne h k w small (e
          ∙ sym (u.place_same S (16 * h + k)))));
    };
  }

  differs-unseen : (S T : Memory) (L : List Header) → DiffersInHeaders S L T → DiffersInHeaders (f S) L (f T)
  differs-unseen S T L d = record {
    shape = u.shape_same S T d.shape;
    kept = λ p ne. u.byte_same S T p d.shape (d.kept p (λ h k w small e. ne h k w small (e
        ∙ sym (u.place_same S (16 * h + k)))));
  }

  behind-unseen : (S : Memory) (L : List Header) (start : ℕ) (U : List Header) → IsArenaBehind S L start U →
      IsArenaBehind (f S) L start U
  behind-unseen S L start U b = (
    chain-same S (f S) (there S) start U b.0,
    clear-same S (f S) (there S) (L ++ U) b.1,
    b.2,
  )

  none_behind-unseen : (S : Memory) (L : List Header) (start : ℕ) → NoArenaBehind S L start →
      NoArenaBehind (f S) L start
  none_behind-unseen S L start n U b = n U (
    chain-same (f S) S (back S) start U b.0,
    clear-same (f S) S (back S) (L ++ U) b.1,
    b.2,
  )

  so-unseen : (S : Memory) (on : Bool) (T : Memory) → IsSo S on T → IsSo (f S) on (f T)
  so-unseen S on T x = record {
    list = x.list;
    arena = arena-same S (f S) (there S) first_header x.list x.arena;
    is = x.is;
    same = ap f x.same;
  }

  goes-unseen : (S T : Memory) → BecomesLinked S T → BecomesLinked (f S) (f T)
  goes-unseen S T x = record {
    first = x.first;
    second = x.second;
    arena = arena-same S (f S) (there S) first_header x.first x.arena;
    parted = x.parted;
    ends = x.ends;
    behind = behind-unseen S x.first link_header x.second x.behind;
    becomes = becomes-unseen S first_header (x.first ++ x.second) T x.becomes;
  }

  cut-unseen : (S T : Memory) → BecomesUnlinked S T → BecomesUnlinked (f S) (f T)
  cut-unseen S T x = record {
    before = x.before;
    after = x.after;
    arena = arena-same S (f S) (there S) first_header (x.before ++ x.after) x.arena;
    begins = x.begins;
    becomes = becomes-unseen S first_header x.before T x.becomes;
  }

  link_refused-unseen : (S : Memory) (on : Bool) → LinkRefused S on → LinkRefused (f S) on
  link_refused-unseen S true (inl none) = inl (none-unseen S first_header none)
  link_refused-unseen S true (inr r) = inr (
    r.0,
    arena-same S (f S) (there S) first_header r.0 r.1,
    r.2,
    λ e. none_behind-unseen S r.0 link_header (r.3 e),
  )
  link_refused-unseen S false none = none-unseen S first_header none

  pub linking-unseen : (S T : Memory) (on : Bool) (r : Result (Unit {0}) ArenaRefusal) → Links S on r T →
      Links (f S) on r (f T)
  linking-unseen S T true (Ok x) (inl a) = inl (so-unseen S true T a)
  linking-unseen S T true (Ok x) (inr a) = inr (goes-unseen S T a)
  linking-unseen S T false (Ok x) (inl a) = inl (so-unseen S false T a)
  linking-unseen S T false (Ok x) (inr a) = inr (cut-unseen S T a)
  linking-unseen S T true (Err e) a = (ap f a.0, a.1, link_refused-unseen S true a.2)
  linking-unseen S T false (Err e) a = (ap f a.0, a.1, link_refused-unseen S false a.2)

  pub telling-unseen : (S : Memory) (r : Result Bool ArenaRefusal) → TellsLinked S r → TellsLinked (f S) r
  telling-unseen S (Ok on) a = (a.0, arena-same S (f S) (there S) first_header a.0 a.1, a.2)
  telling-unseen S (Err e) a = (a.0, none-unseen S first_header a.1)

module _ (up : Bool) where
  abbrev taking-same : (A B : Memory) → Shows A B → {start : ℕ} {st : Strategy} {n : ℕ} → Taking up A start st n →
      Taking up B start st n
  taking-same A B v {start} t = record {
    list = t.list;
    before = t.before;
    block = t.block;
    after = t.after;
    arena = arena-same A B v start t.list t.arena;
    joined = t.joined;
    fit = t.fit;
  }

  abbrev block-same : (A B : Memory) → Shows A B → {start segment : ℕ} → BlockAt up A start segment →
      BlockAt up B start segment
  block-same A B v {start} b = record {
    list = b.list;
    before = b.before;
    block = b.block;
    after = b.after;
    arena = arena-same A B v start b.list b.arena;
    is = b.is;
    at = b.at;
    other = b.other;
  }

  abbrev block_and_free-same : (A B : Memory) → Shows A B → {start segment : ℕ} → BlockAndFreeAt up A start segment →
      BlockAndFreeAt up B start segment
  block_and_free-same A B v {start} b = record {
    list = b.list;
    before = b.before;
    block = b.block;
    free_after = b.free_after;
    after = b.after;
    arena = arena-same A B v start b.list b.arena;
    is = b.is;
    at = b.at;
    other = b.other;
    free = b.free;
    stops = b.stops;
  }

  abbrev pairing-same : (A B : Memory) → Shows A B →
      {start : ℕ} {st : Strategy} {environment least most owner size : ℕ} →
      Pairing up A start st environment least most owner size → Pairing up B start st environment least most owner size
  pairing-same A B v p = record {
    first = taking-same A B v p.first;
    before = p.before;
    block = p.block;
    after = p.after;
    split = p.split;
    fit = p.fit;
    size_is = p.size_is;
    enough = p.enough;
    owner_is = p.owner_is;
  }

  module _ (f : Memory → Memory) (u : IsUnseen f) where
    allocate_refused-unseen : (S : Memory) (start : ℕ) (st : Strategy) (n owner : ℕ) (e : ArenaRefusal) →
        AllocateRefused up S start st n owner e → AllocateRefused up (f S) start st n owner e
    allocate_refused-unseen S start st n owner Destroyed (inl none) = inl (none-unseen f u S start none)
    allocate_refused-unseen S start st n owner Destroyed (inr r) = inr (
      taking-same S (f S) (there f u S) r.0,
      unclear-unseen f u S (with_cut r.0 owner) r.1,
    )
    allocate_refused-unseen S start st n owner (Short most) r = (
      r.0,
      arena-same S (f S) (there f u S) start r.0 r.1,
      r.2,
      r.3,
    )
    allocate_refused-unseen S start st n owner NoBlock r = r

    pub allocation-unseen : (S T : Memory) (st : Strategy) (n owner : ℕ) (r : Result ℕ ArenaRefusal) →
        Allocates up S st n owner r T → Allocates up (f S) st n owner r (f T)
    allocation-unseen S T st n owner (Ok segment) a = (
      taking-same S (f S) (there f u S) a.0,
      a.1,
      becomes-unseen f u S first_header (with_cut a.0 owner) T a.2,
    )
    allocation-unseen S T st n owner (Err e) a = (ap f a.0, allocate_refused-unseen S first_header st n owner e a.1)

    free_refused-unseen : (S : Memory) (segment : ℕ) (e : ArenaRefusal) → FreeRefused up S first_header segment e →
        FreeRefused up (f S) first_header segment e
    free_refused-unseen S segment Destroyed r = none-unseen f u S first_header r
    free_refused-unseen S segment (Short most) r = r
    free_refused-unseen S segment NoBlock r = (r.0, arena-same S (f S) (there f u S) first_header r.0 r.1, r.2)

    pub freeing-unseen : (S T : Memory) (segment : ℕ) (r : Result (Unit {0}) ArenaRefusal) → Frees up S segment r T →
        Frees up (f S) segment r (f T)
    freeing-unseen S T segment (Ok x) a = (
      block-same S (f S) (there f u S) a.0,
      becomes-unseen f u S first_header _ T a.1,
    )
    freeing-unseen S T segment (Err e) a = (ap f a.0, free_refused-unseen S segment e a.1)

    resize_refused-unseen : (S : Memory) (segment n : ℕ) (e : ArenaRefusal) →
        ResizeRefused up S first_header segment n e → ResizeRefused up (f S) first_header segment n e
    resize_refused-unseen S segment n Destroyed (inl none) = inl (none-unseen f u S first_header none)
    resize_refused-unseen S segment n Destroyed (inr r) = inr (
      block_and_free-same S (f S) (there f u S) r.0,
      r.1,
      unclear-unseen f u S (resized r.0 n) r.2,
    )
    resize_refused-unseen S segment n (Short most) r = (block_and_free-same S (f S) (there f u S) r.0, r.1, r.2)
    resize_refused-unseen S segment n NoBlock r = (r.0, arena-same S (f S) (there f u S) first_header r.0 r.1, r.2)

    pub resizing-unseen : (S T : Memory) (segment n : ℕ) (r : Result (Unit {0}) ArenaRefusal) →
        Resizes up S segment n r T → Resizes up (f S) segment n r (f T)
    resizing-unseen S T segment n (Ok x) a = (
      block_and_free-same S (f S) (there f u S) a.0,
      a.1,
      becomes-unseen f u S first_header _ T a.2,
    )
    resizing-unseen S T segment n (Err e) a = (ap f a.0, resize_refused-unseen S segment n e a.1)

    release_refused-unseen : (S : Memory) → ReleaseRefused up S → ReleaseRefused up (f S)
    release_refused-unseen S (inl none) = inl (none-unseen f u S first_header none)
    release_refused-unseen S (inr r) = inr (
      r.0,
      arena-same S (f S) (there f u S) first_header r.0 r.1,
      r.2,
      none_behind-unseen f u S r.0 link_header r.3,
    )

    pub releasing-unseen : (S T : Memory) (owner : ℕ) (r : Result (Unit {0}) ArenaRefusal) → Releases up S owner r T →
        Releases up (f S) owner r (f T)
    releasing-unseen S T owner (Ok x) (inl a) = inl (record {
      list = a.list;
      arena = arena-same S (f S) (there f u S) first_header a.list a.arena;
      alone = a.alone;
      becomes = becomes-unseen f u S first_header (released owner a.list) T a.becomes;
    })
    releasing-unseen S T owner (Ok x) (inr a) = inr (record {
      first = a.first;
      second = a.second;
      arena = arena-same S (f S) (there f u S) first_header a.first a.arena;
      parted = a.parted;
      behind = behind-unseen f u S a.first link_header a.second a.behind;
      first_chain = chain-same T (f T) (there f u T) first_header (released owner a.first) a.first_chain;
      second_chain = chain-same T (f T) (there f u T) link_header (released owner a.second) a.second_chain;
      differs = differs-unseen f u S T (released owner a.first ++ released owner a.second) a.differs;
    })
    releasing-unseen S T owner (Err e) a = (ap f a.0, a.1, release_refused-unseen S a.2)

    pair_refused-unseen : (S : Memory) (start : ℕ) (st : Strategy) (environment least most : ℕ) (e : ArenaRefusal) →
        PairRefused up S start st environment least most e → PairRefused up (f S) start st environment least most e
    pair_refused-unseen S start st environment least most Destroyed (inl none) = inl (none-unseen f u S start none)
    pair_refused-unseen S start st environment least most Destroyed (inr r) =
        inr (r.0, r.1, pairing-same S (f S) (there f u S) r.2, unclear-unseen f u S (with_pair r.2) r.3)
    pair_refused-unseen S start st environment least most (Short room) r = (
      r.0,
      arena-same S (f S) (there f u S) start r.0 r.1,
      r.2,
      λ owner size p. r.3 owner size (pairing-same (f S) S (back f u S) p),
    )
    pair_refused-unseen S start st environment least most NoBlock r = r

    pub pair-unseen : (S : Memory) (start : ℕ) (st : Strategy) (environment least most : ℕ) (pair : Planned) →
        IsPair up S start st environment least most pair → IsPair up (f S) start st environment least most pair
    pair-unseen S start st environment least most pair p = record {
      pairing = pairing-same S (f S) (there f u S) p.pairing;
      environment_is = p.environment_is;
      first_is = p.first_is;
      second_is = p.second_is;
      clear = clear-same S (f S) (there f u S) _ p.clear;
    }

    pub pairing-unseen : (S T : Memory) (st : Strategy) (environment least most : ℕ) (r : Result Placed ArenaRefusal) →
        Pairs up S st environment least most r T → Pairs up (f S) st environment least most r (f T)
    pairing-unseen S T st environment least most (Ok placed) a = (
      a.0,
      record {
        pairing = pairing-same S (f S) (there f u S) a.1.pairing;
        environment_is = a.1.environment_is;
        first_is = a.1.first_is;
        second_is = a.1.second_is;
        clear = clear-same S (f S) (there f u S) _ a.1.clear;
      },
      a.2,
      becomes-unseen f u S first_header _ T a.3,
    )
    pairing-unseen S T st environment least most (Err e) a =
        (ap f a.0, pair_refused-unseen S first_header st environment least most e a.1)

pub ignores_unseen : IgnoresUnseen
ignores_unseen f u = record {
  allocation = λ upper. allocation-unseen upper f u;
  freeing = λ upper. freeing-unseen upper f u;
  resizing = λ upper. resizing-unseen upper f u;
  releasing = λ upper. releasing-unseen upper f u;
  pairing = λ upper. pairing-unseen upper f u;
  linking = linking-unseen f u;
  telling = telling-unseen f u;
}
