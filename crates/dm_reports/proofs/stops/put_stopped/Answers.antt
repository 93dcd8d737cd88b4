use Rattle.std.specs.Prelude.{codes}
use Rattle.std.proofs.Common.{◌∷◌, []}
use Rattle.dm_findings.specs.Sites.{site_of}
use Rattle.dm_reports.specs.Stops.{reason_text, stop_site_text, what_text, stopped_text}
use Rattle.dm_reports.proofs.Puts.{behind, ends_with}
use Rattle.dm_reports.proofs.stops.put_stopped.Goals as goal

pub returns : goal.returns
unfolding stopped_text
returns c =
    let old = c.args.out.now.items in
    let m = c.args.space.now.memory in
    let cpu = c.args.cpu.now in
    let why = behind old (codes "stopped: ") (reason_text c.args.stop) _ _ c.in_ok-extend_from_slice.ensures.items
    (rw c.reason_of.ensures at c.in_ok-extend_from_slice-2.ensures.items) in
    let place = behind old _ (stop_site_text (site_of m cpu)) _ _ why (rw (
      c.site_of.ensures,
      c.call_of.ensures,
    ) at c.in_ok-put_place.ensures) in
    let what = behind old _ (what_text c.args.stop m cpu) _ _ place c.in_ok-put_what.ensures in
    ends_with c.extend_from_slice-3.result old _ (10 ∷ []) _ _ _ what c.extend_from_slice-3.ensures.items
