use Rattle.std.proofs.Common.{◌≡◌, ◌-◌, ◌/◌, ◌%◌, subst}
use Rattle.std.specs.Prelude.{IfSome, slice_index_or}
use Rattle.dm_space.specs.declared.place.Place.TheVariants.{Page}
use Rattle.dm_space.specs.Memory.{Held, place}
use Rattle.dm_space.specs.inner.Memory.{held}
use Rattle.dm_space.proofs.Reading.{window_shows}
use Rattle.dm_space.proofs.space.Space.page_at.Goals as goal

pub returns-clause-place : goal.returns-clause-place
returns-clause-place c =
    let s = c.self.inside in
    subst (λ (h : Held). IfSome (slice_index_or s.windows ((c.args.at - 0xE0000) / 0x4000) c.index-self-at.result)
    (λ block. place h.memory c.args.at ≡ Page block (c.args.at % 0x4000))) c.self.view_is
    (window_shows (held s.store s.windows s.a20).memory c.args.at c.index-self-at.result
    c.self.invariant.0.fits.windows_are_four c.requires.0 c.requires.1)
