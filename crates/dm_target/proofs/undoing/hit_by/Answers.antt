use Rattle.std.proofs.Common.{◌≡◌, ◌∙◌, sym, ap, Some, None}
use Rattle.std.specs.List.{find}
use Rattle.dm_cpu.specs.declared.cpu.Cpu.{Cpu}
use Rattle.dm_space.specs.Memory.{Memory}
use Rattle.dm_space.specs.EntryPoints.{entry_point_at}
use Rattle.dm_target.specs.Watching.{is_changed}
use Rattle.dm_target.proofs.undoing.hit_by.Goals as goal

pub returns-in-Some : goal.returns-in-Some
returns-in-Some c t e =
    let here : c.entry_point_at.result ≡ entry_point_at c.args.machine.now.cpu.cs c.args.machine.now.cpu.ip
    = c.entry_point_at.ensures ∙ ap (λ (x : Cpu). entry_point_at x.cs x.ip) c.cpu-cpu.ensures in
    record {
      acted = λ what at. c.first_changed.ensures t.memory e
          ∙ ap (λ (m : Memory). find (is_changed t.memory m) c.args.watches.now) c.space.ensures;
      performed = λ i length none begins. absurd (let no : Some c.in-Some.field-0 ≡ None = sym c.in-Some.is ∙ here
          ∙ none in cc);
    }

pub returns-in-None : goal.returns-in-None
returns-in-None c t e =
    let here : c.entry_point_at.result ≡ entry_point_at c.args.machine.now.cpu.cs c.args.machine.now.cpu.ip
    = c.entry_point_at.ensures ∙ ap (λ (x : Cpu). entry_point_at x.cs x.ip) c.cpu-cpu.ensures in
    record {
      acted = λ what at. absurd (let no : None ≡ Some what = sym c.in-None.is ∙ here ∙ at in cc);
      performed = λ i length none begins. c.first_hit.ensures i length begins;
    }
