use Rattle.std.proofs.Common.{◌≡◌, List, map, true, ◌∙◌, ap, sym, length, arith}
use Rattle.std.specs.List.{list_any}
use Rattle.std.proofs.lemmas.List.{length-map, with_items_is}
use Rattle.dm_findings.specs.declared.report.Listed.{Listed}
use Rattle.dm_findings.specs.Report.{Reported}
use Rattle.dm_findings.specs.inner.Listing.{is_again, counted}
use Rattle.dm_findings.proofs.Reports.{enters_again}
use Rattle.dm_findings.proofs.report.Report.enter.Goals as goal

pub returns-then-is_known-clause-ok : goal.returns-then-is_known-clause-ok
returns-then-is_known-clause-ok c =
    let old = c.args.self.now in
    let f = c.args.found in
    let lines : c.self.inside.listed.items ≡ old.listed = ap (λ (r : Reported). r.listed) c.self.view_is in
    let known : list_any (is_again f) old.listed ≡ true = rw (
      ← lines,
      ← c.deref.ensures.value,
      ← c.is_known.ensures,
    ) c.if-is_known.true in
    let changed : c.count_again.new.lines ≡ map (counted f) c.self.inside.listed.items =
    rw c.deref_mut.ensures.value at c.count_again.ensures in
    let same : length c.count_again.new.lines ≡ c.self.inside.listed.len =
    omega (arith, ap (λ (l : List Listed). length l) changed, length-map c.self.inside.listed.items (counted f)) in
    enters_again f old _ known (with_items_is c.self.inside.listed c.count_again.new.lines same ∙ changed
    ∙ ap (map (counted f)) lines) (ap (λ (r : Reported). r.omitted) c.self.view_is)
    (ap (λ (r : Reported). r.errors) c.self.view_is) (ap (λ (r : Reported). r.notes) c.self.view_is)
