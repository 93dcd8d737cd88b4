use Rattle.std.proofs.Common.{sym, subst}
use Rattle.dm_xms.specs.inner.Tables.{Rise}
use Rattle.dm_xms.proofs.Rising.{rise_gone}
use Rattle.dm_xms.proofs.tables.Xms.release_upper.Goals as goal

pub invariant_of-self : goal.invariant_of-self
invariant_of-self c = record {
  handles = c.self.invariant.handles;
  local = c.self.invariant.local;
  uppers = subst (Rise 0xD000) (sym c.remove.ensures.items) (rise_gone c.self.inside.uppers.items c.in-Some.at
      c.self.invariant.uppers);
}
