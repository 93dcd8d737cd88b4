-- Lists of blocks: joined, chosen from and cut. `upper` is the setting whether upper memory belongs to the arena:
-- only then is there a link block, which counts as taken.
-- MS-DOS Programmer's Reference, functions 48h, 4Ah and 58h: which free block is taken, and which end of it.
use Rattle.std.specs.Prelude.{Bool, IsTrue, List, [], cond, max, nat_le, nat_lt, not, true, ℕ, if◌then◌else◌, ◌&&◌, ◌+◌, ◌-◌, ◌==◌, ◌||◌, ◌∷◌, ◌≡◌, ◌⊎◌}
use Rattle.dm_blocks.specs.declared.header.Header.{Header}
use Rattle.dm_blocks.specs.Chain.{is_free, is_linked, link_header}
use Rattle.dm_arena.specs.declared.fit.Area.{Area}
use Rattle.dm_arena.specs.declared.fit.Area.TheVariants.{All, Upper, UpperFirst}
use Rattle.dm_arena.specs.declared.fit.Fit.{Fit}
use Rattle.dm_arena.specs.declared.fit.Fit.TheVariants.{Best, First, Last}
use Rattle.dm_arena.specs.declared.fit.Strategy.{Strategy}

-- the block b made larger by the block c after it, with c's header; segment and owner stay
abbrev pub merge : Header → Header → Header
merge b c = record b { size = b.size + (1 + c.size) }

-- the list of b and then L, with adjacent free blocks joined into one
abbrev pub join_after : Bool → Header → List Header → List Header
join_after upper b [] = b ∷ []
join_after upper b (c ∷ L) = cond (is_free upper b && is_free upper c) (join_after upper (merge b c) L) (b
    ∷ join_after upper c L)

-- the list L with adjacent free blocks joined into one
abbrev pub join : Bool → List Header → List Header
join upper [] = []
join upper (b ∷ L) = join_after upper b L

-- the block is one of upper memory: its header is above the link block's, 9FFFh
abbrev pub is_upper : Header → Bool
is_upper b = nat_lt link_header b.segment

-- whether a strategy with this area looks at the block: with `Upper` only at blocks of upper memory, else at all
abbrev pub is_in : Area → Header → Bool
is_in All b = true
is_in Upper b = is_upper b
is_in UpperFirst b = true

-- the strategy that a call uses for the list L: its area counts only where upper memory belongs to the arena and L
-- goes on there; else the area is `All`
abbrev pub in_effect : Bool → List Header → Strategy → Strategy
in_effect upper L strategy = record strategy { area = if upper && is_linked L then strategy.area else All }

-- the strategy looks at the block: it is free, and in the area
abbrev pub is_candidate : Bool → Strategy → Header → Bool
is_candidate upper strategy b = is_free upper b && is_in strategy.area b

-- the size of the block in paragraphs if the strategy looks at it, else 0
abbrev pub free_size : Bool → Strategy → Header → ℕ
free_size upper strategy b = cond (is_candidate upper strategy b) b.size 0

-- the size in paragraphs of the largest block of the list that the strategy looks at; 0 if there is none
abbrev pub largest : Bool → Strategy → List Header → ℕ
largest upper strategy [] = 0
largest upper strategy (b ∷ L) = max (free_size upper strategy b) (largest upper strategy L)

-- the strategy looks at the block, and the block has at least n paragraphs
abbrev pub fits : Bool → Strategy → ℕ → Header → Bool
fits upper strategy n b = is_candidate upper strategy b && nat_le n b.size

-- of two blocks of one area the fit takes b rather than c: `First` takes the lower one, `Best` the smaller and of
-- equal ones the lower, `Last` the higher. True for b itself
abbrev pub prefers_by : Fit → Header → Header → Bool
prefers_by First b c = nat_le b.segment c.segment
prefers_by Best b c = nat_lt b.size c.size || (b.size == c.size && nat_le b.segment c.segment)
prefers_by Last b c = nat_le c.segment b.segment

-- whether the first of two blocks is taken rather than the second, where b says that the first has a property (to be
-- one of upper memory) and c that the second has it: if one alone has it, that one is taken; else `test` decides
abbrev pub before_or : Bool → Bool → Bool → Bool
before_or b c test = cond b (not c || test) (not c && test)

-- of two blocks the strategy with this area and fit takes b rather than c: with `UpperFirst` a block of upper memory
-- comes before one of conventional memory; else the fit decides
abbrev pub prefers_in : Area → Fit → Header → Header → Bool
prefers_in All fit b c = prefers_by fit b c
prefers_in Upper fit b c = prefers_by fit b c
prefers_in UpperFirst fit b c = before_or (is_upper b) (is_upper c) (prefers_by fit b c)

-- the strategy takes b rather than c
abbrev pub prefers : Strategy → Header → Header → Bool
prefers strategy b c = prefers_in strategy.area strategy.fit b c

-- the list has the header b
abbrev pub IsIn : Header → List Header → Type 0
IsIn b [] = ⊥
IsIn b (c ∷ L) = (b ≡ c) ⊎ IsIn b L

-- b is the block that the strategy takes from L for n paragraphs: it is large enough, and preferred to each block of
-- L that is
pub record IsFit (upper : Bool) (strategy : Strategy) (n : ℕ) (L : List Header) (b : Header) : Type 0 where
  pub fit : IsTrue (fits upper strategy n b)
  pub preferred : (c : Header) → IsIn c L → IsTrue (fits upper strategy n c) → IsTrue (prefers strategy b c)

-- the one or two headers for the block b with n paragraphs at its low end given to the owner. If b is larger, the
-- rest above them is a free block with a header of its own; n is at most b's size
abbrev pub cut_low : ℕ → ℕ → Header → List Header
cut_low n owner b = cond (b.size == n)
    (record b { owner = owner } ∷ [])
    (record { segment = b.segment; owner = owner; size = n } ∷ record {
      segment = b.segment + 1 + n;
      owner = 0;
      size = b.size - n - 1;
    } ∷ [])

-- the one or two headers for the block b with n paragraphs at its high end given to the owner. If b is larger, the
-- rest below them is free, and its header is at b's segment; n is at most b's size
abbrev pub cut_high : ℕ → ℕ → Header → List Header
cut_high n owner b = cond (b.size == n)
    (record b { owner = owner } ∷ [])
    (record { segment = b.segment; owner = 0; size = b.size - n - 1 } ∷ record {
      segment = b.segment + b.size - n;
      owner = owner;
      size = n;
    } ∷ [])

-- the block b cut by its fit: at the low end for first and best fit, at the high end for last fit
abbrev pub cut_block : Fit → ℕ → ℕ → Header → List Header
cut_block First n owner b = cut_low n owner b
cut_block Best n owner b = cut_low n owner b
cut_block Last n owner b = cut_high n owner b

-- the segment of the header of the n paragraphs that the fit takes from the block b
abbrev pub taken_segment : Fit → ℕ → Header → ℕ
taken_segment First n b = b.segment
taken_segment Best n b = b.segment
taken_segment Last n b = b.segment + b.size - n
