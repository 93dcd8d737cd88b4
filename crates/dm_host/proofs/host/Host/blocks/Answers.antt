use Rattle.std.proofs.Common.{List, ◌++◌, ◌∙◌, ap, sym}
use Rattle.dm_views.specs.declared.inventory.arena.ArenaBlock.{ArenaBlock}
use Rattle.dm_host.proofs.host.Host.blocks.Goals as goal

pub returns-in-Ok-clause-ok : goal.returns-in-Ok-clause-ok
returns-in-Ok-clause-ok c = let listed = c.in-Ok.ensures in record {
  machine = c.in-Some.machine.now;
  loaded = sym c.in-Some.ensures;
  shows = rw (listed.1 ∙ ap (λ (old : List ArenaBlock). old ++ listed.0) c.new-blocks.ensures.items)
      (rw (c.space.ensures, c.upper.ensures) at listed.2);
}
