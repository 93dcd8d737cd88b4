use Rattle.std.proofs.Common.{refl}
use Rattle.dm_arena.proofs.Allocating.{and-true}
use Rattle.dm_arena.proofs.laws.arena_is_conventional.Goals as goal

pub returns : goal.returns
returns c = record {
  free = λ b. refl;
  whole = λ L s b. and-true _;
  by_fit = λ L s b d. refl;
  any = λ h. refl;
  one = λ L. refl;
}
