use Rattle.std.proofs.Common.{◌≡◌, ◌++◌, Option, None, length, drop, replicate, refl, sym, ap, ◌∙◌, subst, arith}
use Rattle.std.proofs.lemmas.List.{length-drop}
use Rattle.std.proofs.lemmas.Bool.{OnTrue_from, OnFalse_from}
use Rattle.dm_region.proofs.Written.{part_length}
use Rattle.dm_pool.specs.declared.extent.Extent.{Extent}
use Rattle.dm_pool.specs.Gaps.{gaps}
use Rattle.dm_pool.specs.Blocks.{contents_of, IsPool}
use Rattle.dm_pool.specs.FreeList.{AreBased, Spells}
use Rattle.dm_pool.specs.Stored.{Stored}
use Rattle.dm_pool.specs.inner.Order.{IsToldIn}
use Rattle.dm_pool.proofs.Fits.{tells_gaps}
use Rattle.dm_pool.proofs.Fresh.{none_places}
use Rattle.dm_pool.proofs.Layouts.{pool_of}
use Rattle.dm_pool.proofs.Stored.{not_used, pool_behind, used_store, whole_parts}
use Rattle.dm_pool.proofs.store.Store.free_list.Goals as goal

pub returns-clause-region : goal.returns-clause-region
returns-clause-region c =
    let xs = c.self.inside.region.bytes in
    subst (λ (s : Stored). xs ≡ s.low ++ (s.scratch ++ drop 0x310000 xs)) c.self.view_is
    (whole_parts xs 0x110000 0x200000 0x310000 refl)

pub returns-clause-sizes : goal.returns-clause-sizes
returns-clause-sizes c =
    let xs = c.self.inside.region.bytes in let k = c.self.invariant in
    subst (λ (s : Stored). (length s.low ≡ 0x110000) × (length s.scratch ≡ 0x200000)) c.self.view_is (
      part_length xs 0 0x110000 (omega (arith, k.store.whole)),
      part_length xs 0x110000 0x200000 (omega (
        arith,
        k.store.whole,
      )),
    )

pub returns-clause-blocks : goal.returns-clause-blocks
returns-clause-blocks c =
    let xs = c.self.inside.region.bytes in let t = c.self.inside.table in
    subst (λ (s : Stored). IsPool s.blocks.units s.blocks.places (drop 0x310000 xs)) c.self.view_is
    (pool_of t.units t.places (drop 0x310000 xs) c.recall.ensures.laid (omega (
      arith,
      length-drop 0x310000 xs,
      c.self.invariant.store.whole,
    )))

pub returns-clause-based : goal.returns-clause-based
returns-clause-based c = subst (λ (s : Stored). AreBased s.blocks.places) c.self.view_is c.recall.ensures.based

pub returns-clause-contents : goal.returns-clause-contents
returns-clause-contents c =
    let xs = c.self.inside.region.bytes in let t = c.self.inside.table in
    subst (λ (s : Stored). contents_of s.blocks.places (drop 0x310000 xs) ≡ s.blocks.contents) c.self.view_is
    (ap (contents_of t.places) (pool_behind xs t c.self.invariant.store))

pub returns-clause-unused : goal.returns-clause-unused
returns-clause-unused c =
    let h = c.self.inside.region in let t = c.self.inside.table in let u = c.self.inside.in_use in
    OnFalse_from u _ (λ e. subst (λ (s : Stored). s.blocks.places ≡ replicate {A = Option Extent} 576 None)
    c.self.view_is (not_used h t u c.self.invariant e ∙ none_places t.units))

pub returns-clause-lent : goal.returns-clause-lent
returns-clause-lent c = OnTrue_from c.self.inside.in_use _ c.self.invariant.used

pub returns-clause-free : goal.returns-clause-free
returns-clause-free c =
    let h = c.self.inside.region in let t = c.self.inside.table in let u = c.self.inside.in_use in let p =
    drop 0x310000 h.bytes in
    OnTrue_from u _ (λ e.
    let s = used_store h t u c.self.invariant e in
    let told = subst (IsToldIn t) (sym (pool_behind h.bytes t s)) s.listed in
    subst (λ (s : Stored). Spells p c.first-first.result (gaps s.blocks.places s.blocks.units)) c.self.view_is
    (subst (λ n. Spells p n (gaps t.places t.units)) (sym c.first-first.ensures)
    (subst (Spells p t.first) (tells_gaps t.places t.units p t.first c.recall.ensures.based told.tells)
    told.tells.told)))
