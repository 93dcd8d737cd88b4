use Rattle.std.proofs.Common.{Bool, List, [], ◌∷◌, ◌++◌, Option, None, ◌∙◌, ap₂, ap}
use Rattle.dm_findings.specs.declared.finding.Origin.{Origin}
use Rattle.dm_findings.specs.declared.processes.process.Process.{Process}
use Rattle.dm_origins.specs.declared.handles.Since.{Since}
use Rattle.dm_origins.specs.declared.handles.Since.TheVariants.{Unused}
use Rattle.dm_origins.specs.declared.uppers.UpperSince.{UpperSince}
use Rattle.dm_origins.specs.Origins.{Known, known_first, nothing_known, seen_handle}
use Rattle.dm_origins.proofs.origins.Origins.new.Goals as goal

known : List Since → List Since → List (Option UpperSince) → Since → Since → List (Option Origin) → List Process → Known
known xs ys us a l fs ps = record {
  handles = xs;
  blocks = ys;
  uppers = us;
  area = a;
  line = l;
  freed = fs;
  processes = ps;
}

pub returns : goal.returns
unfolding nothing_known known
returns c =
    let xs = c.look_at_handles.new.known in
    let ys = c.look_at_blocks.new.known in
    let us = c.look_at_uppers.new.known in
    let area = c.seen-area.ensures ∙ ap (λ (b : Bool). seen_handle b None Unused) c.hma.ensures in
    let none = nothing_known c.args.present in
    let t = known_first c.args.ems.now c.args.xms.now c.args.on c.args.present in
    let pushed = c.in_ok-push.ensures.items ∙ ap (λ (l : List Process). l ++ c.args.present
    ∷ []) c.new-processes.ensures.items in
    ap₂ (known xs ys us c.seen-area.result c.seen-line.result) c.in_ok-freed.ensures pushed
    ∙ ap₂ (λ (vs ws : List Since). known vs ws us c.seen-area.result c.seen-line.result none.freed none.processes)
    c.look_at_handles.ensures c.look_at_blocks.ensures
    ∙ ap (λ (vs : List (Option UpperSince)). known t.handles t.blocks vs c.seen-area.result c.seen-line.result
    none.freed none.processes) c.look_at_uppers.ensures
    ∙ ap₂ (λ (a l : Since). known t.handles t.blocks t.uppers a l none.freed none.processes) area c.seen-line.ensures
