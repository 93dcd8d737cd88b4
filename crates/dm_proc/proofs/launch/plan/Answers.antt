use Rattle.std.proofs.Common.{Bool, ◌≡◌, ℕ, refl, subst, arith}
use Rattle.dm_space.specs.Memory.{Memory}
use Rattle.dm_arena.specs.declared.fit.Strategy.{Strategy}
use Rattle.dm_arena.specs.declared.refusal.ArenaRefusal.{ArenaRefusal}
use Rattle.dm_blocks.specs.Chain.{first_header}
use Rattle.dm_arena.specs.Pair.{Planned, IsPair, PairRefused}
use Rattle.dm_proc.proofs.launch.plan.Goals as goal

pair-at : (up : Bool) (S : Memory) (st : Strategy) (a b c x y z : ℕ) (p : Planned) → a ≡ x → b ≡ y → c ≡ z →
    IsPair up S first_header st a b c p → IsPair up S first_header st x y z p
pair-at up S st a b c x y z p e f g h =
    let P : ℕ → Type 0 = λ n. IsPair up S first_header st n b c p in
    let Q : ℕ → Type 0 = λ n. IsPair up S first_header st x n c p in
    let R : ℕ → Type 0 = λ n. IsPair up S first_header st x y n p in
    subst R g (subst Q f (subst P e h))

refused-at : (up : Bool) (S : Memory) (st : Strategy) (a b c x y z : ℕ) (r q : ArenaRefusal) → a ≡ x → b ≡ y → c ≡ z →
    r ≡ q → PairRefused up S first_header st a b c r → PairRefused up S first_header st x y z q
refused-at up S st a b c x y z r q e f g i h =
    let P : ℕ → Type 0 = λ n. PairRefused up S first_header st n b c r in
    let Q : ℕ → Type 0 = λ n. PairRefused up S first_header st x n c r in
    let R : ℕ → Type 0 = λ n. PairRefused up S first_header st x y n r in
    let T : ArenaRefusal → Type 0 = λ t. PairRefused up S first_header st x y z t in
    subst T i (subst R g (subst Q f (subst P e h)))

pub returns-in-Ok : goal.returns-in-Ok
returns-in-Ok c = pair-at _ _ _ _ _ _ _ _ _ _ (omega arith) c.least.ensures.value c.most.ensures c.in-Ok.ensures

pub returns-in-Err-Short : goal.returns-in-Err-Short
returns-in-Err-Short c = (
  c.in-Err-Short.field-0-0,
  (
    refl,
    refused-at _ _ _ _ _ _ _ _ _ _ _ (omega arith) c.least.ensures.value c.most.ensures
        c.in-Err-Short.field-0-is c.in-Err-Short.ensures,
  ),
)

pub returns-in-Err-Destroyed : goal.returns-in-Err-Destroyed
returns-in-Err-Destroyed c = (
  refl,
  refused-at _ _ _ _ _ _ _ _ _ _ _ (omega arith) c.least.ensures.value c.most.ensures
      c.in-Err-Destroyed.field-0-is c.in-Err-Destroyed.ensures,
)
