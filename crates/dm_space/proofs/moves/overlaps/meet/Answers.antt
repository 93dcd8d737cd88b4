use Rattle.dm_space.proofs.moves.Some.{meet-up, meet-down}
use Rattle.dm_space.proofs.moves.overlaps.meet.Goals as goal

pub returns-then-a-b : goal.returns-then-a-b
returns-then-a-b c = meet-up c.args.a c.args.n c.args.b c.args.l c.if-a-b.true c.requires.l

pub returns-else-a-b : goal.returns-else-a-b
returns-else-a-b c = meet-down c.args.a c.args.n c.args.b c.args.l c.if-a-b.false c.requires.n
