use Rattle.std.proofs.Common.{List, Option, length, subst, ap, arith}
use Rattle.dm_findings.specs.declared.finding.Origin.{Origin}
use Rattle.dm_origins.specs.inner.Chunks.{freed_by}
use Rattle.dm_origins.specs.inner.Freed.{within, Frees}
use Rattle.dm_origins.proofs.Chunked.{length-freed_by}
use Rattle.dm_origins.proofs.Freeing.{set_none}
use Rattle.dm_origins.proofs.chunks.Chunks.set.Goals as goal

pub loop-at-init : goal.loop-at-init
loop-at-init c =
    let ms = c.self.inside.wholes.items in
    let ps = c.self.inside.each.items in
    let F : List (Option Origin) → Type 0 = λ f. Frees (within c.args.first c.args.first) c.args.origin f
    (freed_by ms ps) in
    record {
      from = omega arith;
      to = c.requires.order;
      most = omega (arith, length-freed_by ms ps, ap (λ (f : List (Option Origin)). length f) c.self.view_is);
      wholes = omega arith;
      each = omega arith;
      frees = subst F c.self.view_is (set_none c.args.first c.args.origin (freed_by ms ps));
    }
