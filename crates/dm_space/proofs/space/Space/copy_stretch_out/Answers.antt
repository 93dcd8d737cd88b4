use Rattle.std.proofs.Common.{ℕ, ◌+◌, ◌%◌, ◌<◌, ◌≤◌, ◌≡◌, ◌⊎◌, inl, inr, length, ap, ◌∙◌, sym, arith}
use Rattle.dm_region.specs.Parts.{part}
use Rattle.dm_region.proofs.Bytes.{length-with_part}
use Rattle.dm_pool.specs.Stored.{Stored}
use Rattle.dm_pool.proofs.Blocks.{part_length}
use Rattle.dm_space.specs.declared.place.Place.{Place}
use Rattle.dm_space.specs.declared.place.Place.TheVariants.{Low, Page, Rom, Nothing}
use Rattle.dm_space.specs.Copies.{copied_out}
use Rattle.dm_space.specs.Memory.{Held, IsHeld, place, page_bytes}
use Rattle.dm_space.specs.inner.Memory.{held}
use Rattle.dm_space.proofs.Copies.{low-fits, page-fits, all-there, out-stretch}
use Rattle.dm_space.proofs.Keeping.{held_low, held_content}
use Rattle.dm_space.proofs.Shifts.{shifts_as}
use Rattle.dm_space.proofs.space.Space.copy_stretch_out.Goals as goal

pub copy-requires-clause-destination : goal.copy-requires-clause-destination
copy-requires-clause-destination c =
    let s = c.self.inside in
    let there = all-there (held s.store s.windows s.a20) c.args.linear c.args.len (Low c.in-Low.to) c.self.invariant.0
    (ap (λ (h : Held). place h.memory c.args.linear) c.self.view_is ∙ sym c.place.ensures.place
    ∙ c.in-Low.is) c.requires.some c.requires.stretch c.requires.addresses in
    (tt, low-fits (held s.store s.windows s.a20).memory c.in-Low.to c.args.len c.requires.some there)

pub invariant_of-self : goal.invariant_of-self
invariant_of-self c =
    let s = c.self.inside in
    let there = all-there (held s.store s.windows s.a20) c.args.linear c.args.len (Low c.in-Low.to) c.self.invariant.0
    (ap (λ (h : Held). place h.memory c.args.linear) c.self.view_is ∙ sym c.place.ensures.place
    ∙ c.in-Low.is) c.requires.some c.requires.stretch c.requires.addresses in
    let room = low-fits (held s.store s.windows s.a20).memory c.in-Low.to c.args.len c.requires.some there in (
      held_low s.store s.windows s.a20 c.copy.new.self _ c.copy.ensures
          (length-with_part s.store.low (part s.store.scratch c.args.at c.args.len) c.in-Low.to c.args.len room
          (part_length s.store.scratch c.args.at c.args.len (omega (
            arith,
            c.requires.scratch,
            c.self.invariant.0.scratch_length,
          )))) c.self.invariant.0,
      shifts_as s.a20 s.store s.windows s.shifts c.copy.new.self (ap (λ (x : Stored). x.blocks.places) c.copy.ensures)
          c.self.invariant.1,
    )

pub copy-requires-in-Page-clause-destination : goal.copy-requires-in-Page-clause-destination
copy-requires-in-Page-clause-destination c =
    let s = c.self.inside in
    let there = all-there (held s.store s.windows s.a20) c.args.linear c.args.len (Page c.in-Page.block c.in-Page.to)
    c.self.invariant.0 (ap (λ (h : Held). place h.memory c.args.linear) c.self.view_is ∙ sym c.place.ensures.place
    ∙ c.in-Page.is) c.requires.some c.requires.stretch c.requires.addresses in
    let first = there 0 c.requires.some in (
      first.0,
      page-fits (held s.store s.windows s.a20).memory c.in-Page.block c.in-Page.to c.args.len c.requires.some
          there,
    )

pub invariant_of-self-in-Page : goal.invariant_of-self-in-Page
invariant_of-self-in-Page c =
    let s = c.self.inside in let m = (held s.store s.windows s.a20).memory in
    let there = all-there (held s.store s.windows s.a20) c.args.linear c.args.len (Page c.in-Page.block c.in-Page.to)
    c.self.invariant.0 (ap (λ (h : Held). place h.memory c.args.linear) c.self.view_is ∙ sym c.place.ensures.place
    ∙ c.in-Page.is) c.requires.some c.requires.stretch c.requires.addresses in
    let room = page-fits m c.in-Page.block c.in-Page.to c.args.len c.requires.some there in (
      held_content s.store s.windows s.a20 c.copy-in-Page.new.self c.in-Page.block _ c.copy-in-Page.ensures
          (length-with_part (page_bytes m c.in-Page.block) (part s.store.scratch c.args.at c.args.len) c.in-Page.to
          c.args.len room (part_length s.store.scratch c.args.at c.args.len (omega (
            arith,
            c.requires.scratch,
            c.self.invariant.0.scratch_length,
          ))))
          c.self.invariant.0,
      shifts_as s.a20 s.store s.windows s.shifts c.copy-in-Page.new.self (ap (λ (x : Stored). x.blocks.places)
          c.copy-in-Page.ensures) c.self.invariant.1,
    )

pub returns-in-Low : goal.returns-in-Low
returns-in-Low c =
    let s = c.self.inside in
    ap (λ (t : Stored). held t s.windows s.a20) c.copy.ensures
    ∙ out-stretch (held s.store s.windows s.a20) c.args.linear c.args.len (Low c.in-Low.to) c.self.invariant.0
    (ap (λ (h : Held). place h.memory c.args.linear) c.self.view_is ∙ sym c.place.ensures.place
    ∙ c.in-Low.is) c.requires.some c.requires.stretch c.requires.addresses c.args.at (omega (
      arith,
      c.requires.scratch,
      c.self.invariant.0.scratch_length,
    ))
    ∙ ap (λ (h : Held). copied_out h c.args.at c.args.linear c.args.len) c.self.view_is

pub returns-in-Page : goal.returns-in-Page
returns-in-Page c =
    let s = c.self.inside in
    ap (λ (t : Stored). held t s.windows s.a20) c.copy-in-Page.ensures
    ∙ out-stretch (held s.store s.windows s.a20) c.args.linear c.args.len (Page c.in-Page.block c.in-Page.to)
    c.self.invariant.0 (ap (λ (h : Held). place h.memory c.args.linear) c.self.view_is ∙ sym c.place.ensures.place
    ∙ c.in-Page.is) c.requires.some c.requires.stretch c.requires.addresses c.args.at (omega (
      arith,
      c.requires.scratch,
      c.self.invariant.0.scratch_length,
    ))
    ∙ ap (λ (h : Held). copied_out h c.args.at c.args.linear c.args.len) c.self.view_is

-- what is written where nothing is kept
lost : (h : Held) (a at n : ℕ) (p : Place) → IsHeld h → p ≡ place h.memory a → ((k : ℕ) × (p ≡ Rom k)) ⊎ (p ≡ Nothing) →
    0 < n → a % 0x4000 + n ≤ 0x4000 → a + n ≤ 0x10FFF0 → at + n ≤ length h.scratch → h ≡ copied_out h at a n
lost h a at n p is e w some cell top fits = elim w [
  | inl r ↦ out-stretch h a n (Rom r.0) is (sym e ∙ r.1) some cell top at fits
  | inr r ↦ out-stretch h a n Nothing is (sym e ∙ r) some cell top at fits
]

pub returns-in-Rom : goal.returns-in-Rom
returns-in-Rom c =
    let held = c.a20-sizes.ensures.held in
    lost c.args.self.now c.args.linear c.args.at c.args.len c.place.result held c.place.ensures.place c.in-Rom.is
    c.requires.some c.requires.stretch c.requires.addresses (omega (arith, c.requires.scratch, held.scratch_length))
