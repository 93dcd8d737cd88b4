-- What the kind of a side tells.
use Rattle.std.proofs.Common.{◌≡◌, true, refl}
use Rattle.dm_space.specs.declared.moves.spans.SpanKind.{SpanKind}
use Rattle.dm_space.specs.declared.moves.spans.SpanKind.TheVariants.{Linear, Pages, Single}
use Rattle.dm_xms.specs.inner.Sides.{is_single}

pub single_kind : (k : SpanKind) → is_single k ≡ true → k ≡ Single
single_kind Linear e = absurd cc
single_kind Pages e = absurd cc
single_kind Single e = refl
