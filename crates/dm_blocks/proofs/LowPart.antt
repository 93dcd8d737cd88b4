-- The headers of the first list below segment C000h.
use Rattle.std.proofs.Common.{◌≡◌, ℕ, ◌+◌, ◌*◌, ◌<◌, ◌≤◌, Bool, true, false, Option, Some, None, List, [], ◌∷◌, ◌++◌, refl, sym, ◌∙◌, ap, subst, arith}
use Rattle.std.specs.Prelude.{IfSome}
use Rattle.dm_space.specs.Memory.{Memory, place}
use Rattle.dm_space.specs.declared.place.Place.TheVariants.{Low}
use Rattle.dm_space.proofs.Places.{place-low}
use Rattle.dm_blocks.specs.declared.header.Header.{Header}
use Rattle.dm_blocks.specs.declared.header.ListedHeader.{ListedHeader}
use Rattle.dm_blocks.specs.Chain.{HasHeader, IsArena, IsHeader, NoArena, first_header, next, signature, signature_byte}
use Rattle.dm_blocks.specs.Listing.{Follows, Leads, LeadsOn, StandsAfter}
use Rattle.dm_blocks.specs.Reading.{IsListedAt}
use Rattle.dm_blocks.specs.inner.Low.{IsUpTo}
use Rattle.dm_blocks.specs.inner.Standing.{MayStand}
use Rattle.dm_blocks.proofs.Occupying.{low-occupied}
use Rattle.dm_blocks.proofs.Stands.{low-stands}
use Rattle.dm_blocks.proofs.Walks.{path-more, path-below, told, closes, bad-header, no_arena}

-- no header is passed yet
pub at-first : (S : Memory) → IsUpTo S [] first_header
at-first S = record {
  leads = record {
    path = refl;
    clear = record { writable = λ h w. absurd w; apart = λ h g w. absurd w };
    apart = λ g w v. w;
  };
  unoccupied = λ occupied a. a;
}

header-signed : (S : Memory) (b : Header) (m n : ℕ) → m ≡ n → IsHeader S b m → IsHeader S b n
header-signed S b m n e x = let F : ℕ → Type 0 = λ v. IsHeader S b v in subst F e x

-- the headers P lead to segment t below C000h
module _ (S : Memory) (P : List Header) (t : ℕ) (u : IsUpTo S P t) where
  pub none-behind : ((b : Header) (L : List Header) → b.segment ≡ t → IsHeader S b (signature L) → ⊥) →
      NoArena S first_header
  none-behind bad L a = no_arena S [] 0x100 P t u.leads (λ e. bad-header S [] P t e bad) L (a.0, a.1, λ g x y. x)

  module _ (low : t < 0xC000) (e : ListedHeader) (at : e.header.segment ≡ t) (x : IsHeader S e.header
      (signature_byte e.last)) where
    ram : place S (16 * t) ≡ Low (16 * t)
    ram = place-low S (16 * t) (omega arith)

    new : HasHeader P t → ⊥
    new w = let l = path-below S 0x100 P t u.leads.path t w in omega arith

    follows : Follows S [] P t e
    follows = told S [] 0x100 P t e u.leads (low-stands S P t (16 * t) ram new) (λ w. w) at x

    pub whole : e.last ≡ true → (L : List Header) × IsArena S first_header L
    whole last = let a = closes S [] 0x100 P t e u.leads follows last in (P ++ e.header ∷ [], (a.0, a.1))

    pub one-more : e.last ≡ false → (Q : List Header) × IsUpTo S Q (next e.header)
    one-more last = (
      P ++ e.header ∷ [],
      record {
        leads = record {
          path = path-more S 0x100 P t e.header u.leads.path at (header-signed S e.header _ _
              (ap signature_byte last) x);
          clear = follows.clear;
          apart = follows.apart;
        };
        unoccupied = λ occupied a. low-occupied S P occupied t (16 * t) (u.unoccupied occupied a) ram e.header at;
      },
    )

-- at the first header no header is passed
pub leads-first : (S : Memory) → Leads S [] first_header [] first_header
leads-first S = (at-first S).leads

-- a header that is read below C000h leads a walk on
module _ (S : Memory) (P : List Header) (t : ℕ) (u : Leads S [] first_header P t) (low : t < 0xC000) (e : ListedHeader)
    (at : e.header.segment ≡ t) (x : IsHeader S e.header (signature_byte e.last)) where
  fresh : HasHeader P t → ⊥
  fresh w = let l = path-below S 0x100 P t u.path t w in omega arith

  after : Follows S [] P t e
  after = told S [] 0x100 P t e u (low-stands S P t (16 * t) (place-low S (16 * t) (omega arith)) fresh) (λ w. w) at x

  stands-by : (last : Bool) → e.last ≡ last → StandsAfter S last (next e.header)
  stands-by true l = let a = closes S [] 0x100 P t e u after l in (P ++ e.header ∷ [], (a.0, a.1))
  stands-by false l = (
    P ++ e.header ∷ [],
    record {
      path = path-more S 0x100 P t e.header u.path at (header-signed S e.header _ _ (ap signature_byte l) x);
      clear = after.clear;
      apart = after.apart;
    },
  )

  pub stands : StandsAfter S e.last (next e.header)
  stands = stands-by e.last refl

pub proceeds : (S : Memory) (h : ℕ) (o : Option ListedHeader) → h < 0xC000 → IsListedAt S h o →
    IfSome o (λ e. LeadsOn S h e.last (next e.header))
proceeds S h None low x = tt
proceeds S h (Some e) low x = λ P u. stands S P h u low e x.0 x.1

pub stands-whole : (S : Memory) (last : Bool) (t : ℕ) → last ≡ true → StandsAfter S last t → (L : List Header) ×
    IsArena S first_header L
stands-whole S last t l s = subst (λ b. StandsAfter S b t) l s

pub stands-up : (S : Memory) (last : Bool) (t : ℕ) → last ≡ false → StandsAfter S last t → (P : List Header) ×
    Leads S [] first_header P t
stands-up S last t l s = subst (λ b. StandsAfter S b t) l s
