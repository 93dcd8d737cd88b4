use Rattle.std.proofs.Common.{ap, ◌∙◌}
use Rattle.dm_gdb.specs.Servers.{Served}
use Rattle.dm_gdb.proofs.Replying.{goes_as}
use Rattle.dm_gdb.proofs.server.Server.go.Goals as goal

pub returns-clause-goes : goal.returns-clause-goes
returns-clause-goes c =
    goes_as _ _ _ _ _ _ _ _ _ _ c.go_on.ensures.goes (c.breaks.ensures
    ∙ ap (λ (s : Served). s.points.breaks) c.self.view_is) (c.watches.ensures
    ∙ ap (λ (s : Served). s.points.watches) c.self.view_is)
    (ap (λ (s : Served). s.history.machine) c.self.view_is)
