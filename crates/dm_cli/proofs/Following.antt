-- Lines of findings that are printed as they are found.
use Rattle.std.proofs.Common.{◌≡◌, ℕ, ◌+◌, ◌-◌, ◌≤◌, Bool, true, false, List, [], ◌∷◌, ◌++◌, length, length-append, take, drop, Option, refl, sym, ◌∙◌, ap, ap₂, subst, arith, append_assoc}
use Rattle.std.proofs.KnownBytes.{Appends-nil, Appends-trans}
use Rattle.std.proofs.Math.Seq.{take-append-add}
use Rattle.std.proofs.lemmas.List.{take-append-le}
use Rattle.std.specs.Io.KnownBytes.{Appends}
use Rattle.dm_console.specs.writers.Out.{AppendsPart, HasFailed}
use Rattle.dm_services.specs.declared.state.stop.Stop.{Stop}
use Rattle.dm_services.specs.state.State.{State}
use Rattle.dm_findings.specs.declared.finding.Found.{Found}
use Rattle.dm_findings.specs.declared.report.Listed.{Listed}
use Rattle.dm_findings.specs.Report.{Reported, report_of}
use Rattle.dm_findings.proofs.Reports.{none-reported}
use Rattle.dm_json.specs.declared.forms.Format.{Format}
use Rattle.dm_json.specs.Forms.{end_in, found_in, lines_in, processes_in, summary_in, report_in}
use Rattle.dm_findings.specs.declared.processes.process.Process.{Process}
use Rattle.dm_checker.specs.Checks.{IsReport, here}
use Rattle.dm_checker.specs.Checking.{UnderWay, IsUnderWay, IsLonger, founds, going, had_ended}
use Rattle.dm_cli.specs.Checking.{IsLost, all_in, some_steps, all_steps}
use Rattle.dm_cli.specs.Messages.{Prints, HasPrinted, Stream, all, part}
use Rattle.dm_cli.specs.inner.Checking.{HasFollowed}

-- ---- streams

pub prints_of : (failed : Bool) (text : List ℕ) (a b : Stream) → HasPrinted failed text a b → Prints text a b
prints_of false text a b h = all h.0 h.1
prints_of true text a b h = part h.0 h.1

part_longer : (x y : List ℕ) (a b : Option (List ℕ)) → AppendsPart a b x → AppendsPart a b (x ++ y)
part_longer x y a b p = (
  p.0,
  (let h = length-append x y in let k = p.1 in omega (arith, h, k)),
  subst (Appends a b) (sym (take-append-le p.0 x y p.1)) p.2,
)

then_part : (x y : List ℕ) (a b c : Option (List ℕ)) → Appends a b x → AppendsPart b c y → AppendsPart a c (x ++ y)
then_part x y a b c first p = (
  length x + p.0,
  (let h = length-append x y in let k = p.1 in omega (arith, h, k)),
  subst (Appends a c) (sym (take-append-add x y p.0)) (Appends-trans a b c x (take p.0 y) first p.2),
)

-- nothing more is printed
pub printed_no_more : (failed : Bool) (before text : List ℕ) (a b : Stream) → failed ≡ true →
    HasPrinted failed before a b → HasPrinted true (before ++ text) a b
printed_no_more false before text a b e h = cc
printed_no_more true before text a b e h = (part_longer before text a.bytes b.bytes h.0, h.1)

-- one text more
pub printed_more : (failed : Bool) (before text : List ℕ) (a b c : Stream) → failed ≡ false →
    HasPrinted failed before a b → Appends b.bytes c.bytes text → c.failures ≡ b.failures →
    HasPrinted false (before ++ text) a c
printed_more true before text a b c e h x same = cc
printed_more false before text a b c e h x same = (Appends-trans a.bytes b.bytes c.bytes before text h.0 x, same ∙ h.1)

pub printed_part : (failed : Bool) (before text : List ℕ) (a b c : Stream) → failed ≡ false →
    HasPrinted failed before a b → AppendsPart b.bytes c.bytes text → HasFailed b.failures c.failures →
    HasPrinted true (before ++ text) a c
printed_part true before text a b c e h x f = cc
printed_part false before text a b c e h x f = (
  then_part before text a.bytes b.bytes c.bytes h.0 x,
  subst (λ (n : ℕ). HasFailed n c.failures) h.1 f,
)

pub nothing_printed : (a : Stream) → HasPrinted false [] a a
nothing_printed a = (Appends-nil a.bytes, refl)

-- ---- lines

heads : (o n : Listed) (os ns : List Listed) (more : List Found) → founds (n ∷ ns) ≡ founds (o ∷ os) ++ more →
    (n.found ≡ o.found) × (founds ns ≡ founds os ++ more)
heads o n os ns more e = (cc, cc)

pub lines_grow : (form : Format) (os ns : List Listed) (more : List Found) → founds ns ≡ founds os ++ more →
    lines_in form ns ≡ lines_in form os ++ lines_in form (drop (length os) ns)
lines_grow form [] ns more e = refl
lines_grow form (o ∷ os) [] more e = absurd (let x : [] ≡ o.found ∷ (founds os ++ more) = e in cc)
lines_grow form (o ∷ os) (n ∷ ns) more e =
    let h = heads o n os ns more e in
    ap₂ (λ (f : Found) (l : List ℕ). found_in form f ++ l) h.0 (lines_grow form os ns more h.1)
    ∙ sym (append_assoc (found_in form o.found) (lines_in form os) (lines_in form (drop (length os) ns)))

pub lines_few : (os ns : List Listed) (more : List Found) → founds ns ≡ founds os ++ more → length os ≤ length ns
lines_few [] ns more e = omega arith
lines_few (o ∷ os) [] more e = absurd (let x : [] ≡ o.found ∷ (founds os ++ more) = e in cc)
lines_few (o ∷ os) (n ∷ ns) more e = (let h = lines_few os ns more (heads o n os ns more e).1 in omega (arith, h))

pub none_listed : (r : Reported) → r ≡ report_of [] → r.listed ≡ []
none_listed r e = ap (λ (x : Reported). x.listed) (e ∙ none-reported)

-- ---- where an allocation failed

pub lost_of : (form : Format) (s t : State) (n : ℕ) (c : UnderWay) (failed : Bool) (a b : Stream) → IsUnderWay s n t c →
    HasPrinted failed (lines_in form c.report.listed) a b → IsLost s n c.free form a b
lost_of form s t n c failed a b (going e made arena) h =
    some_steps (n - c.left) t made.found (omega arith) made.finds
    (subst (λ (r : Reported). Prints (lines_in form r.listed) a b) made.reports (prints_of failed _ a b h))
lost_of form s t n c failed a b (had_ended code e f g i first) h =
    some_steps 0 s [] (omega arith) here (subst (λ (r : Reported). Prints (lines_in form r.listed) a b) i
    (prints_of failed _ a b h))

pub lost_with : (form : Format) (s t : State) (n : ℕ) (c : UnderWay) (free failed : Bool) (a b : Stream) →
    c.free ≡ free → IsUnderWay s n t c → HasPrinted failed (lines_in form c.report.listed) a b →
    IsLost s n free form a b
lost_with form s t n c free failed a b e way h = subst (λ (f : Bool). IsLost s n f form a b) e
    (lost_of form s t n c failed a b way h)

-- the stream stays
pub lost_kept : {E : Type 0} (form : Format) (stream : E → Stream) (old new : E) (s : State) (n : ℕ) (free : Bool)
    (a : Stream) → new ≡ old → IsLost s n free form a (stream old) → IsLost s n free form a (stream new)
lost_kept form stream old new s n free a e h = subst (λ x. IsLost s n free form a (stream x)) (sym e) h

pub lost_free : (form : Format) (s : State) (n : ℕ) (free other : Bool) (a b : Stream) → free ≡ other →
    IsLost s n free form a b → IsLost s n other form a b
lost_free form s n free other a b e h = subst (λ (f : Bool). IsLost s n f form a b) e h

pub report_free : (s t : State) (n : ℕ) (free other : Bool) (stop : Stop) (r : Reported) → free ≡ other →
    IsReport s n free stop t r → IsReport s n other stop t r
report_free s t n free other stop r e h = subst (λ (f : Bool). IsReport s n f stop t r) e h

pub first_printed : (form : Format) (ls : List Listed) (a : Stream) → ls ≡ [] → HasPrinted false (lines_in form ls) a a
first_printed form ls a e = subst (λ (l : List Listed). HasPrinted false (lines_in form l) a a) (sym e)
    (nothing_printed a)

pub lost_at_once : (form : Format) (s : State) (n : ℕ) (free : Bool) (a : Stream) → IsLost s n free form a a
lost_at_once form s n free a =
    some_steps 0 s [] (omega arith) here
    (subst (λ (l : List Listed). Prints (lines_in form l) a a) (sym (none_listed (report_of []) refl))
    (prints_of false [] a a (nothing_printed a)))

pub lost_all : (form : Format) (s t : State) (n : ℕ) (stop : Stop) (c d : UnderWay) (failed : Bool) (a b : Stream) →
    HasFollowed s n form c stop t d failed a b → IsLost s n c.free form a b
lost_all form s t n stop c d failed a b h = all_steps stop t d.report h.report (prints_of failed _ a b h.printed)

-- ---- the whole text

pub whole_text : (a b c d : List ℕ) → a ++ (b ++ c ++ d) ≡ a ++ b ++ c ++ d
whole_text a b c d = sym (append_assoc a (b ++ c) d) ∙ ap (λ (l : List ℕ). l ++ d) (sym (append_assoc a b c))

pub whole_printed : (form : Format) (now : Bool) (r : Reported) (ps : List Process) (stop : Stop) (t : State)
    (text : List ℕ) (a b : Stream)
    → text ≡ summary_in form r ++ processes_in form ps ++ end_in form stop t.memory t.cpu →
    HasPrinted now (lines_in form r.listed ++ text) a b → HasPrinted now (all_in form r ps stop t) a b
whole_printed form now r ps stop t text a b e h =
    subst (λ (l : List ℕ). HasPrinted now l a b)
    (ap (λ (x : List ℕ). lines_in form r.listed ++ x) e ∙ whole_text (lines_in form r.listed) (summary_in form r)
    (processes_in form ps) (end_in form stop t.memory t.cpu)) h

-- the lines of the findings that are listed now, behind those that were listed before
pub grown : (form : Format) (old new : Reported) → IsLonger old new → (count : ℕ) → count ≡ length old.listed →
    (failed : Bool) (a b : Stream)
    → HasPrinted failed (lines_in form old.listed ++ lines_in form (drop count new.listed)) a b →
    HasPrinted failed (lines_in form new.listed) a b
grown form old new longer count e failed a b h =
    let split = ap (λ (k : ℕ). lines_in form old.listed ++ lines_in form (drop k new.listed)) e
    ∙ sym (lines_grow form old.listed new.listed longer.more longer.is) in
    subst (λ (l : List ℕ). HasPrinted failed l a b) split h

pub grown_by : (form : Format) (old new shown : Reported) → shown ≡ new → IsLonger old new → (count : ℕ) →
    count ≡ length old.listed → (failed : Bool) (a b : Stream)
    → HasPrinted failed (lines_in form old.listed ++ lines_in form (drop count shown.listed)) a b →
    HasPrinted failed (lines_in form new.listed) a b
grown_by form old new shown same longer count e failed a b h =
    grown form old new longer count e failed a b (subst (λ (r : Reported). HasPrinted failed (lines_in form old.listed
    ++ lines_in form (drop count r.listed)) a b) same h)
