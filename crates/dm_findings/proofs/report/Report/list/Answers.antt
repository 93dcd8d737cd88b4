use Rattle.std.proofs.Common.{◌≡◌, ℕ, ◌+◌, ◌<◌, ◌≤◌, List, ◌++◌, ◌∷◌, [], nat_lt, true, false, ◌∙◌, ap, sym, arith}
use Rattle.std.specs.Prelude.{count_by, min}
use Rattle.std.proofs.lemmas.Bool.Decides.{nat_tests}
use Rattle.dm_findings.specs.declared.report.Listed.{Listed}
use Rattle.dm_findings.specs.Findings.{is_an_error}
use Rattle.dm_findings.specs.Report.{Reported, line_of}
use Rattle.dm_findings.specs.inner.Listing.{is_kind}
use Rattle.dm_findings.proofs.Reports.{enters_new, enters_out, most_counted}
use Rattle.dm_findings.proofs.report.Report.list.Goals as goal

pub returns-in_ok-push-clause-ok : goal.returns-in_ok-push-clause-ok
returns-in_ok-push-clause-ok c =
    let old = c.args.self.now in
    let f = c.args.found in
    let lines : c.self.inside.listed.items ≡ old.listed = ap (λ (r : Reported). r.listed) c.self.view_is in
    let counted : c.count_kind.result ≡ count_by (is_kind (is_an_error f)) old.listed =
    rw (c.is_error.ensures, c.deref.ensures.value, lines) at c.count_kind.ensures in
    let room : nat_lt (count_by (is_kind (is_an_error f)) old.listed) 100 ≡ true =
    rw (sym counted) (let less = c.if-count_kind-lt-MOST.true in grind (arith, nat_tests)) in
    enters_new f old _ c.requires room (c.in_ok-push.ensures.items ∙ ap (λ (l : List Listed). l ++ line_of f []
    ∷ []) lines) (ap (λ (r : Reported). r.omitted) c.self.view_is)
    (ap (λ (r : Reported). r.errors) c.self.view_is) (ap (λ (r : Reported). r.notes) c.self.view_is)

pub returns-else-count_kind-lt-MOST-clause-ok : goal.returns-else-count_kind-lt-MOST-clause-ok
returns-else-count_kind-lt-MOST-clause-ok c =
    let old = c.args.self.now in
    let f = c.args.found in
    let lines : c.self.inside.listed.items ≡ old.listed = ap (λ (r : Reported). r.listed) c.self.view_is in
    let counted : c.count_kind.result ≡ count_by (is_kind (is_an_error f)) old.listed =
    rw (c.is_error.ensures, c.deref.ensures.value, lines) at c.count_kind.ensures in
    let room : nat_lt (count_by (is_kind (is_an_error f)) old.listed) 100 ≡ false =
    rw (sym counted) (let least = c.if-count_kind-lt-MOST.false in grind (arith, nat_tests)) in
    enters_out f old _ c.requires room lines (c.saturating_add-self-inside.ensures
    ∙ ap (λ (r : Reported). min (r.omitted + 1) most_counted) c.self.view_is)
    (ap (λ (r : Reported). r.errors) c.self.view_is) (ap (λ (r : Reported). r.notes) c.self.view_is)
