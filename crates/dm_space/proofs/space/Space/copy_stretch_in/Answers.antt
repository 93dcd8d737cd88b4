use Rattle.std.proofs.Common.{List, ℕ, replicate, ap, ◌∙◌, sym, arith}
use Rattle.std.proofs.lemmas.List.{length-replicate}
use Rattle.dm_region.specs.Parts.{part}
use Rattle.dm_region.proofs.Bytes.{length-with_part}
use Rattle.dm_pool.specs.Stored.{Stored}
use Rattle.dm_pool.proofs.Blocks.{part_length}
use Rattle.dm_space.specs.declared.place.Place.TheVariants.{Low, Page, Rom, Nothing}
use Rattle.dm_space.specs.Copies.{values, copied_in}
use Rattle.dm_space.specs.Memory.{Held, place, page_bytes}
use Rattle.dm_space.specs.inner.Memory.{held}
use Rattle.dm_space.specs.Rom.{rom}
use Rattle.dm_space.proofs.Copies.{length-values, low-fits, page-fits, rom-fits, all-there, in-stretch}
use Rattle.dm_space.proofs.Keeping.{held_scratch, front_lent}
use Rattle.dm_space.proofs.Shifts.{shifts_as}
use Rattle.dm_space.proofs.space.Space.copy_stretch_in.Goals as goal

pub copy-requires-clause-source : goal.copy-requires-clause-source
copy-requires-clause-source c =
    let s = c.self.inside in
    let there = all-there (held s.store s.windows s.a20) c.args.linear c.args.len (Low c.in-Low.from) c.self.invariant.0
    (ap (λ (h : Held). place h.memory c.args.linear) c.self.view_is ∙ sym c.place.ensures.place
    ∙ c.in-Low.is) c.requires.some c.requires.stretch c.requires.addresses in
    (tt, low-fits (held s.store s.windows s.a20).memory c.in-Low.from c.args.len c.requires.some there)

pub invariant_of-self : goal.invariant_of-self
invariant_of-self c =
    let s = c.self.inside in
    let there = all-there (held s.store s.windows s.a20) c.args.linear c.args.len (Low c.in-Low.from) c.self.invariant.0
    (ap (λ (h : Held). place h.memory c.args.linear) c.self.view_is ∙ sym c.place.ensures.place
    ∙ c.in-Low.is) c.requires.some c.requires.stretch c.requires.addresses in
    let source = low-fits (held s.store s.windows s.a20).memory c.in-Low.from c.args.len c.requires.some there in (
      held_scratch s.store s.windows s.a20 c.copy.new.self _ c.copy.ensures
          (length-with_part s.store.scratch (part s.store.low c.in-Low.from c.args.len) c.args.at c.args.len
          (omega (arith, c.requires.scratch, c.self.invariant.0.scratch_length))
          (part_length s.store.low c.in-Low.from c.args.len source)) c.self.invariant.0,
      shifts_as s.a20 s.store s.windows s.shifts c.copy.new.self (ap (λ (x : Stored). x.blocks.places) c.copy.ensures)
          c.self.invariant.1,
    )

pub copy-requires-in-Page-clause-source : goal.copy-requires-in-Page-clause-source
copy-requires-in-Page-clause-source c =
    let s = c.self.inside in
    let there = all-there (held s.store s.windows s.a20) c.args.linear c.args.len (Page c.in-Page.block c.in-Page.from)
    c.self.invariant.0 (ap (λ (h : Held). place h.memory c.args.linear) c.self.view_is ∙ sym c.place.ensures.place
    ∙ c.in-Page.is) c.requires.some c.requires.stretch c.requires.addresses in
    let first = there 0 c.requires.some in (
      first.0,
      page-fits (held s.store s.windows s.a20).memory c.in-Page.block c.in-Page.from c.args.len c.requires.some
          there,
    )

pub invariant_of-self-in-Page : goal.invariant_of-self-in-Page
invariant_of-self-in-Page c =
    let s = c.self.inside in let m = (held s.store s.windows s.a20).memory in
    let there = all-there (held s.store s.windows s.a20) c.args.linear c.args.len (Page c.in-Page.block c.in-Page.from)
    c.self.invariant.0 (ap (λ (h : Held). place h.memory c.args.linear) c.self.view_is ∙ sym c.place.ensures.place
    ∙ c.in-Page.is) c.requires.some c.requires.stretch c.requires.addresses in
    let source = page-fits m c.in-Page.block c.in-Page.from c.args.len c.requires.some there in (
      held_scratch s.store s.windows s.a20 c.copy-in-Page.new.self _ c.copy-in-Page.ensures
          (length-with_part s.store.scratch (part (page_bytes m c.in-Page.block) c.in-Page.from c.args.len) c.args.at
          c.args.len (omega (arith, c.requires.scratch, c.self.invariant.0.scratch_length))
          (part_length (page_bytes m c.in-Page.block) c.in-Page.from c.args.len source))
          c.self.invariant.0,
      shifts_as s.a20 s.store s.windows s.shifts c.copy-in-Page.new.self (ap (λ (x : Stored). x.blocks.places)
          c.copy-in-Page.ensures) c.self.invariant.1,
    )

pub read_rom-requires-clause-offset : goal.read_rom-requires-clause-offset
read_rom-requires-clause-offset c =
    let s = c.self.inside in
    let there = all-there (held s.store s.windows s.a20) c.args.linear c.args.len (Rom c.in-Rom.from) c.self.invariant.0
    (ap (λ (h : Held). place h.memory c.args.linear) c.self.view_is ∙ sym c.place.ensures.place
    ∙ c.in-Rom.is) c.requires.some c.requires.stretch c.requires.addresses in
    rom-fits (held s.store s.windows s.a20).memory c.in-Rom.from c.args.len c.requires.some there

pub returns-in-Low : goal.returns-in-Low
returns-in-Low c =
    let s = c.self.inside in
    ap (λ (t : Stored). held t s.windows s.a20) c.copy.ensures
    ∙ in-stretch (held s.store s.windows s.a20) c.args.linear c.args.len (Low c.in-Low.from) c.self.invariant.0
    (ap (λ (h : Held). place h.memory c.args.linear) c.self.view_is ∙ sym c.place.ensures.place
    ∙ c.in-Low.is) c.requires.some c.requires.stretch c.requires.addresses c.args.at
    ∙ ap (λ (h : Held). copied_in h c.args.linear c.args.at c.args.len) c.self.view_is

pub returns-in-Page : goal.returns-in-Page
returns-in-Page c =
    let s = c.self.inside in
    ap (λ (t : Stored). held t s.windows s.a20) c.copy-in-Page.ensures
    ∙ in-stretch (held s.store s.windows s.a20) c.args.linear c.args.len (Page c.in-Page.block c.in-Page.from)
    c.self.invariant.0 (ap (λ (h : Held). place h.memory c.args.linear) c.self.view_is ∙ sym c.place.ensures.place
    ∙ c.in-Page.is) c.requires.some c.requires.stretch c.requires.addresses c.args.at
    ∙ ap (λ (h : Held). copied_in h c.args.linear c.args.at c.args.len) c.self.view_is

pub returns-in-Rom : goal.returns-in-Rom
returns-in-Rom c =
    let s = c.self.inside in
    ap (λ (xs : List ℕ). held (record s.store { scratch = xs }) s.windows s.a20)
    (front_lent s.store.scratch c.scratch_mut.result.now c.read_rom.new.bytes (values rom c.in-Rom.from c.args.len)
    c.args.at c.args.len (omega (arith, c.requires.scratch, c.self.invariant.0.scratch_length))
    (length-values rom c.in-Rom.from c.args.len) c.scratch_mut.ensures.value c.read_rom.auto.bytes
    c.read_rom.ensures)
    ∙ in-stretch (held s.store s.windows s.a20) c.args.linear c.args.len (Rom c.in-Rom.from) c.self.invariant.0
    (ap (λ (h : Held). place h.memory c.args.linear) c.self.view_is ∙ sym c.place.ensures.place
    ∙ c.in-Rom.is) c.requires.some c.requires.stretch c.requires.addresses c.args.at
    ∙ ap (λ (h : Held). copied_in h c.args.linear c.args.at c.args.len) c.self.view_is

pub returns-in-Nothing : goal.returns-in-Nothing
returns-in-Nothing c =
    let s = c.self.inside in
    ap (λ (xs : List ℕ). held (record s.store { scratch = xs }) s.windows s.a20)
    (front_lent s.store.scratch c.scratch_mut-in-Nothing.result.now c.read_nothing.new.bytes
    (replicate c.args.len 0xFF) c.args.at c.args.len (omega (
      arith,
      c.requires.scratch,
      c.self.invariant.0.scratch_length,
    )) (length-replicate c.args.len 0xFF) c.scratch_mut-in-Nothing.ensures.value
    c.read_nothing.auto.bytes c.read_nothing.ensures)
    ∙ in-stretch (held s.store s.windows s.a20) c.args.linear c.args.len (Nothing) c.self.invariant.0
    (ap (λ (h : Held). place h.memory c.args.linear) c.self.view_is ∙ sym c.place.ensures.place
    ∙ c.in-Nothing.is) c.requires.some c.requires.stretch c.requires.addresses c.args.at
    ∙ ap (λ (h : Held). copied_in h c.args.linear c.args.at c.args.len) c.self.view_is
