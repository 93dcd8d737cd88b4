use Rattle.std.proofs.Common.{[], refl}
use Rattle.dm_blocks.proofs.Cursors.{cursor-none}
use Rattle.dm_blocks.proofs.listing.walk.Goals as goal

pub invariant_of-result : goal.invariant_of-result
invariant_of-result c = (
  [],
  refl,
  (
    [],
    record {
      path = refl;
      clear = record { writable = λ h w. absurd w; apart = λ h g w. absurd w };
      apart = λ g w v. w;
    },
    c.new.ensures _,
    cursor-none _ _,
  ),
)
