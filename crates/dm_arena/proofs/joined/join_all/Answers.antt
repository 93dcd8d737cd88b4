use Rattle.std.proofs.Common.{[], refl}
use Rattle.dm_space.proofs.Places.{shaped-same}
use Rattle.dm_arena.proofs.joined.join_all.Goals as goal

pub join_from-requires-clause-joined : goal.join_from-requires-clause-joined
join_from-requires-clause-joined c = λ L a. record {
  done = [];
  rest = L;
  nonempty = a.0.0;
  joining = record {
    rest = a.0.1;
    spells = a.0.1;
    is = refl;
    within = λ g w. w;
    differs = record { shape = shaped-same _; kept = λ p ne. refl };
  };
}
