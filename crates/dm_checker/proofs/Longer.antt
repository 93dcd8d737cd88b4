-- Findings that are listed stay listed when more are found.
use Rattle.std.proofs.Common.{◌≡◌, ◌≤◌, Bool, true, false, List, [], ◌∷◌, ◌++◌, length, refl, sym, ◌∙◌, ap, append-nil, append_assoc, arith}
use Rattle.std.proofs.lemmas.List.{length-append, length-map, nil_from_length}
use Rattle.dm_findings.specs.declared.finding.Found.{Found}
use Rattle.dm_findings.specs.declared.report.Listed.{Listed}
use Rattle.dm_findings.specs.Report.{Reported, is_listed, lines_from, report_of}
use Rattle.dm_checker.specs.Checks.{reported}
use Rattle.dm_checker.specs.Checking.{IsLonger, founds}
use Rattle.dm_checker.specs.inner.Steps.{ReportsMore}
use Rattle.dm_checker.proofs.Telling.{reported_append}

-- the findings of lines begin with those of others
record Begins (old new : List Listed) : Type 0 where
  more : List Found
  is : founds new ≡ founds old ++ more

begins_by : (seen : List Found) (x : Found) (xs ys : List Found) (b : Bool) → is_listed seen x ≡ b →
    (b ≡ true → Begins (lines_from (seen ++ x ∷ []) xs) (lines_from (seen ++ x ∷ []) (xs ++ ys)))
    → (b ≡ false → Begins (lines_from seen xs) (lines_from seen (xs ++ ys))) →
    Begins (lines_from seen (x ∷ xs)) (lines_from seen (x ∷ (xs ++ ys)))
begins_by seen x xs ys true is h k = (let p = h refl in record {
  more = p.more;
  is = rw is (ap (λ (l : List Found). x ∷ l) p.is);
})
begins_by seen x xs ys false is h k = (let p = k refl in record { more = p.more; is = rw is p.is })

lines_begin : (xs seen ys : List Found) → Begins (lines_from seen xs) (lines_from seen (xs ++ ys))
lines_begin [] seen ys = record { more = founds (lines_from seen ys); is = refl }
lines_begin (x ∷ xs) seen ys = begins_by seen x xs ys (is_listed seen x) refl (λ e. lines_begin xs (seen ++ x
    ∷ []) ys) (λ e. lines_begin xs seen ys)

report_begins : (xs ys : List Found) → IsLonger (report_of xs) (report_of (xs ++ ys))
unfolding report_of
report_begins xs ys = (let p = lines_begin xs [] ys in record { more = p.more; is = p.is })

pub longer_same : (r : Reported) → IsLonger r r
longer_same r = record { more = []; is = sym (append-nil (founds r.listed)) }

pub longer_on : (a b c : Reported) → IsLonger a b → IsLonger b c → IsLonger a c
longer_on a b c p q = record {
  more = p.more ++ q.more;
  is = q.is ∙ ap (λ (l : List Found). l
      ++ q.more) p.is ∙ append_assoc (founds a.listed) p.more q.more;
}

pub longer_by : (free : Bool) (a b : Reported) (fs more : List Found) → a ≡ report_of (reported free fs) →
    ReportsMore free a b more → IsLonger a b
longer_by free a b fs more e h =
    let p = report_begins (reported free fs) (reported free more) in
    record {
      more = p.more;
      is = ap (λ (r : Reported). founds r.listed) (h fs e ∙ ap report_of (reported_append free fs more)) ∙ p.is
          ∙ ap (λ (r : Reported). founds r.listed ++ p.more) (sym e);
    }

-- ---- where no more is listed, the same is

none_more : (xs ys : List Found) → length (xs ++ ys) ≤ length xs → ys ≡ []
none_more xs ys few = nil_from_length ys (let both = length-append xs ys in omega (arith, few, both))

pub listed_same : (a b : Reported) → IsLonger a b → length b.listed ≤ length a.listed →
    founds b.listed ≡ founds a.listed
listed_same a b p few =
    let of_a = length-map a.listed (λ (l : Listed). l.found) in
    let of_b = length-map b.listed (λ (l : Listed). l.found) in
    let is = ap (λ (l : List Found). length l) p.is in
    let none = none_more (founds a.listed) p.more (omega (arith, few, of_a, of_b, is)) in
    p.is ∙ ap (λ (l : List Found). founds a.listed ++ l) none ∙ append-nil (founds a.listed)
