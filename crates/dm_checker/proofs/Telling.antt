-- Findings that are told with the step that they are about.
use Rattle.std.specs.Prelude.{◌&&◌, if◌then◌else◌}
use Rattle.std.proofs.Common.{◌≡◌, ℕ, ◌+◌, ◌<◌, Bool, true, false, not, List, [], ◌∷◌, ◌++◌, map, take, length, get_or, refl, sym, ◌∙◌, ap, ap₂, append-nil, append_assoc}
use Rattle.std.proofs.lemmas.List.{take_more, map-append}
use Rattle.dm_services.specs.state.State.{State}
use Rattle.dm_findings.specs.declared.finding.Act.{Act}
use Rattle.dm_findings.specs.declared.finding.Finding.{Finding}
use Rattle.dm_findings.specs.declared.finding.Found.{Found}
use Rattle.dm_findings.specs.declared.sites.Site.{Site}
use Rattle.dm_findings.specs.Report.{Reported, report_of}
use Rattle.dm_findings.specs.Sites.{site_of}
use Rattle.dm_origins.specs.Origins.{Known, origin_of}
use Rattle.dm_checker.specs.declared.acts.Before.{Before}
use Rattle.dm_findings.specs.Findings.{is_of_free_memory}
use Rattle.dm_checker.specs.Checks.{reported}
use Rattle.dm_checker.specs.Findings.{IsAct, found_at, IsFound, some}
use Rattle.dm_checker.specs.inner.Steps.{IsBefore, found_by, ReportsMore}

-- ---- what is reported

cond_front : (skip : Bool) (f : Found) (xs ys : List Found) → (if skip then xs ++ ys else f ∷ (xs ++ ys)) ≡ (if skip
    then xs else f ∷ xs) ++ ys
cond_front true f xs ys = refl
cond_front false f xs ys = refl

pub reported_append : (free : Bool) (fs gs : List Found) → reported free (fs ++ gs) ≡ reported free fs
    ++ reported free gs
reported_append free [] gs = refl
reported_append free (f ∷ fs) gs =
    ap (λ (l : List Found). if not free && is_of_free_memory f.finding then l else f ∷ l) (reported_append free fs gs)
    ∙ cond_front (not free && is_of_free_memory f.finding) f (reported free fs) (reported free gs)

pub reports_none : (free : Bool) (r : Reported) → ReportsMore free r r []
reports_none free r fs e = e ∙ ap (λ (l : List Found). report_of (reported free l)) (sym (append-nil fs))

pub reports_more : (free : Bool) (a b c : Reported) (xs ys : List Found) → ReportsMore free a b xs →
    ReportsMore free b c ys → ReportsMore free a c (xs ++ ys)
reports_more free a b c xs ys h k fs e = k (fs ++ xs) (h fs e)
    ∙ ap (λ (l : List Found). report_of (reported free l)) (append_assoc fs xs ys)

pub reports_as : (free : Bool) (a b : Reported) (xs ys : List Found) → xs ≡ ys → ReportsMore free a b xs →
    ReportsMore free a b ys
reports_as free a b xs ys same h fs e = h fs e ∙ ap (λ (l : List Found). report_of (reported free (fs ++ l))) same

-- a finding that is left out
pub left_out_one : (free : Bool) (r : Reported) (f : Found) → (not free && is_of_free_memory f.finding) ≡ true →
    ReportsMore free r r (f ∷ [])
left_out_one free r f skip fs e =
    let one : reported free (f ∷ []) ≡ [] = ap (λ (b : Bool). if b then [] else f ∷ []) skip in
    e ∙ ap report_of (sym (reported_append free fs (f ∷ []) ∙ ap (λ (l : List Found). reported free fs ++ l) one
    ∙ append-nil (reported free fs)))

-- a finding that is added
pub added_one : (free : Bool) (a b : Reported) (f : Found) → (not free && is_of_free_memory f.finding) ≡ false →
    ((gs : List Found) → a ≡ report_of gs → b ≡ report_of (gs ++ f ∷ [])) → ReportsMore free a b (f ∷ [])
added_one free a b f told add fs e =
    let one : reported free (f ∷ []) ≡ f ∷ [] = ap (λ (x : Bool). if x then [] else f ∷ []) told in
    add (reported free fs) e ∙ ap report_of (sym (reported_append free fs (f ∷ [])
    ∙ ap (λ (l : List Found). reported free fs ++ l) one))

-- one finding more of a list
pub told_more : (free : Bool) (f : Finding → Found) (fs : List Finding) (i : ℕ) (d : Finding) (a b c : Reported) →
    i < length fs → ReportsMore free a b (map f (take i fs)) → ReportsMore free b c (f (get_or fs i d) ∷ []) →
    ReportsMore free a c (map f (take (i + 1) fs))
told_more free f fs i d a b c less h k =
    let same : map f (take (i + 1) fs) ≡ map f (take i fs) ++ f (get_or fs i d) ∷ []
    = ap (map f) (take_more fs i d less) ∙ map-append f (take i fs) (get_or fs i d ∷ []) in
    reports_as free a c _ _ (sym same) (reports_more free a b c (map f (take i fs)) (f (get_or fs i d) ∷ []) h k)

-- the findings of a step, as the state before it tells them
pub found_same : (s t : State) (b : Before) (step : ℕ) (k : Known) (a : Act) (fs : List Finding) → IsBefore s b →
    step ≡ t.steps → map (found_by b step k a) fs ≡ found_at s t k a fs
found_same s t b step k a fs h e =
    ap₂ (λ (p : Site) (n : ℕ). map (λ (f : Finding). record {
      step = n;
      process = b.present;
      site = p;
      act = a;
      finding = f;
      origin = origin_of k b.a20 f;
    }) fs) h.site e
    ∙ ap₂ (λ (n : ℕ) (a20 : Bool). map (λ (f : Finding). record {
      step = t.steps;
      process = n;
      site = site_of s.memory s.cpu;
      act = a;
      finding = f;
      origin = origin_of k a20 f;
    }) fs) h.present h.a20

-- a report that tells them
pub record Tells (free : Bool) (s t : State) (k : Known) (fs : List Finding) (old new : Reported) : Type 0 where
  pub more : List Found
  pub found : IsFound s t k fs more
  pub reports : ReportsMore free old new more

pub tells : (free : Bool) (s t : State) (b : Before) (step : ℕ) (k : Known) (a : Act) (fs : List Finding)
    (old new : Reported) → IsBefore s b → IsAct s a → step ≡ t.steps →
    ReportsMore free old new (map (found_by b step k a) fs) → Tells free s t k fs old new
tells free s t b step k a fs old new h act e r =
    let same = found_same s t b step k a fs h e in
    record { more = found_at s t k a fs; found = some a act refl; reports = reports_as free old new _ _ same r }
