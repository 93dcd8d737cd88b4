-- The report of one more finding.
use Rattle.std.proofs.Common.{◌≡◌, ℕ, suc, ◌+◌, ◌-◌, Bool, true, false, nat_lt, ◌||◌, ◌&&◌, List, [], ◌∷◌, ◌++◌, map, refl, sym, ◌∙◌, ap, ap₂, arith, append-nil, append_assoc}
use Rattle.std.proofs.lemmas.Bool.Decides.{nat_tests}
use Rattle.std.proofs.lemmas.List.Sums.{sum_by-append}
use Rattle.std.specs.Prelude.{if◌then◌else◌, cond, count_by, min, ◌^◌, not}
use Rattle.std.specs.List.{list_any}
use Rattle.dm_findings.specs.declared.finding.Found.{Found}
use Rattle.dm_findings.specs.declared.report.Listed.{Listed}
use Rattle.dm_findings.specs.Findings.{is_an_error, is_a_note}
use Rattle.dm_findings.specs.Repeats.{is_repeated}
use Rattle.dm_findings.specs.Report.{Reported, bounded_count, last_step, line_of, repeats, is_listed, lines_from, left_out, report_of}
use Rattle.dm_findings.specs.inner.Listing.{found_of, is_again, is_kind, one_more, counted, new_line, out_with, Lists}

-- ---- counts

abbrev one_if : Bool → ℕ
one_if b = cond b 1 0

abbrev pub most_counted : ℕ
most_counted = 2 ^ 64 - 1

count-more : (p : Found → Bool) (fs : List Found) (f : Found) → count_by p (fs ++ f ∷ []) ≡ count_by p fs + one_if (p f)
count-more p fs f = sum_by-append (λ x. one_if (p x)) fs (f ∷ []) ∙ ap (λ (n : ℕ). count_by p fs + n) (omega arith)

counted-more : (p : Found → Bool) (fs : List Found) (f : Found) → p f ≡ true → min (bounded_count p fs + 1) most_counted
    ≡ bounded_count p (fs ++ f ∷ [])
counted-more p fs f is = let k = count-more p fs f ∙ ap (λ (b : Bool). count_by p fs + one_if b) is in omega (arith, k)

counted-same : (p : Found → Bool) (fs : List Found) (f : Found) → p f ≡ false → bounded_count p fs ≡ bounded_count p (fs
    ++ f ∷ [])
counted-same p fs f is = let k = count-more p fs f ∙ ap (λ (b : Bool). count_by p fs + one_if b) is in omega (arith, k)

-- ---- one line

last-more : (p : Found → Bool) (fs : List Found) (step : ℕ) (f : Found) → last_step step p (fs ++ f ∷ []) ≡ (if p f then
    f.step else last_step step p fs)
last-more p [] step f = refl
last-more p (g ∷ fs) step f = last-more p fs (if p g then g.step else step) f

line-by : (g f : Found) (fs : List Found) (b : Bool) → is_repeated g f ≡ b → line_of g (fs ++ f ∷ []) ≡ (if b then
    one_more f (line_of g fs) else line_of g fs)
line-by g f fs true is = ap₂ (λ (m l : ℕ). record { found = g; more = m; last = l })
    (sym (counted-more (is_repeated g) fs f is)) (last-more (is_repeated g) fs g.step f
    ∙ ap (λ (b : Bool). if b then f.step else last_step g.step (is_repeated g) fs) is)
line-by g f fs false is = ap₂ (λ (m l : ℕ). record { found = g; more = m; last = l })
    (sym (counted-same (is_repeated g) fs f is)) (last-more (is_repeated g) fs g.step f
    ∙ ap (λ (b : Bool). if b then f.step else last_step g.step (is_repeated g) fs) is)

line-more : (g f : Found) (fs : List Found) → line_of g (fs ++ f ∷ []) ≡ counted f (line_of g fs)
line-more g f fs = line-by g f fs (is_repeated g f) refl

-- ---- all lines

-- the lines with f behind them, where the findings of `seen` and of the lines are listed
abbrev with_line : List Found → List Listed → Found → List Listed
with_line seen ls f = map (counted f) ls ++ (if is_listed (seen ++ map found_of ls) f then line_of f [] ∷ [] else [])

lines-none : (seen : List Found) (f : Found) → lines_from seen (f ∷ []) ≡ with_line seen [] f
lines-none seen f = ap (λ (s : List Found). if is_listed s f then line_of f [] ∷ [] else []) (sym (append-nil seen))

lines-front : (seen : List Found) (g f : Found) (fs : List Found) (ls : List Listed) →
    with_line (seen ++ g ∷ []) ls f ≡ map (counted f) ls ++ (if is_listed (seen ++ map found_of (line_of g fs ∷ ls)) f
    then line_of f [] ∷ [] else [])
lines-front seen g f fs ls = ap (λ (s : List Found). map (counted f) ls ++ (if is_listed s f then line_of f [] ∷ [] else
    [])) (append_assoc seen (g ∷ []) (map found_of ls))

lines-by : (seen : List Found) (g f : Found) (fs : List Found) (b : Bool) → is_listed seen g ≡ b →
    (b ≡ true → lines_from (seen ++ g ∷ []) (fs ++ f ∷ []) ≡ with_line (seen ++ g ∷ []) (lines_from (seen ++ g
    ∷ []) fs) f) → (b ≡ false → lines_from seen (fs ++ f ∷ []) ≡ with_line seen (lines_from seen fs) f) →
    lines_from seen (g ∷ (fs ++ f ∷ [])) ≡ with_line seen (lines_from seen (g ∷ fs)) f
lines-by seen g f fs true is h k = rw is (ap₂ (λ (l : Listed) (ls : List Listed). l ∷ ls) (line-more g f fs) (h refl
    ∙ lines-front seen g f fs (lines_from (seen ++ g ∷ []) fs)))
lines-by seen g f fs false is h k = rw is (k refl)

lines-more : (fs seen : List Found) (f : Found) → lines_from seen (fs ++ f ∷ []) ≡ with_line seen (lines_from seen fs) f
lines-more [] seen f = lines-none seen f
lines-more (g ∷ fs) seen f = lines-by seen g f fs (is_listed seen g) refl (λ e. lines-more fs (seen ++ g
    ∷ []) f) (λ e. lines-more fs seen f)

-- ---- those that are left out

abbrev out_more : List Found → Found → ℕ
out_more seen f = if is_listed seen f then 0 else if repeats seen f then 0 else 1

out-one : (seen : List Found) (f : Found) (b c : Bool) → is_listed seen f ≡ b → repeats seen f ≡ c →
    left_out seen (f ∷ []) ≡ 0 + out_more seen f
out-one seen f true c is again = rw is refl
out-one seen f false true is again = rw (is, again) refl
out-one seen f false false is again = rw (is, again) refl

out-by : (seen : List Found) (g f : Found) (fs : List Found) (ls : List Listed) (b c : Bool) → is_listed seen g ≡ b →
    repeats seen g ≡ c
    → left_out (seen ++ g ∷ []) (fs ++ f ∷ []) ≡ left_out (seen ++ g ∷ []) fs + out_more ((seen ++ g ∷ [])
    ++ map found_of (lines_from (seen ++ g ∷ []) fs)) f
    → left_out seen (fs ++ f ∷ []) ≡ left_out seen fs + out_more (seen ++ map found_of (lines_from seen fs)) f
    → left_out seen (g ∷ (fs ++ f ∷ [])) ≡ left_out seen (g ∷ fs) + out_more (seen
    ++ map found_of (lines_from seen (g ∷ fs))) f
out-by seen g f fs ls true c is again h k = rw is (h ∙ ap (λ (s : List Found). left_out (seen ++ g
    ∷ []) fs + out_more s f) (append_assoc seen (g ∷ []) (map found_of (lines_from (seen ++ g ∷ []) fs))))
out-by seen g f fs ls false true is again h k = rw (is, again) k
out-by seen g f fs ls false false is again h k = rw (is, again) (omega (arith, k))

out-more : (fs seen : List Found) (f : Found) → left_out seen (fs ++ f ∷ []) ≡ left_out seen fs + out_more (seen
    ++ map found_of (lines_from seen fs)) f
out-more [] seen f = out-one seen f (is_listed seen f) (repeats seen f) refl refl
    ∙ ap (λ (s : List Found). 0 + out_more s f) (sym (append-nil seen))
out-more (g ∷ fs) seen f = out-by seen g f fs (lines_from seen fs) (is_listed seen g) (repeats seen g) refl refl
    (out-more fs (seen ++ g ∷ []) f) (out-more fs seen f)

bounded-out : (seen : List Found) (f : Found) (n : ℕ) (b c : Bool) → is_listed seen f ≡ b → repeats seen f ≡ c →
    min (n + out_more seen f) most_counted ≡ (if is_listed seen f then min n most_counted else if repeats seen f then
    min n most_counted else min (min n most_counted + 1) most_counted)
bounded-out seen f n true c is again = rw is (omega arith)
bounded-out seen f n false true is again = rw (is, again) (omega arith)
bounded-out seen f n false false is again = rw (is, again) (omega arith)

-- ---- lines that a finding does not repeat

or-false : (a b : Bool) → (a || b) ≡ false → (a ≡ false) × (b ≡ false)
or-false true b e = (let no : true ≡ false = e in cc)
or-false false b e = (refl, e)

none-counted : (f : Found) (ls : List Listed) → list_any (is_again f) ls ≡ false → map (counted f) ls ≡ ls
none-counted f [] none = refl
none-counted f (l ∷ ls) none =
    let both = or-false (is_again f l) (list_any (is_again f) ls) none in
    let same : counted f l ≡ l = ap (λ (b : Bool). if b then one_more f l else l) both.0 in
    ap₂ (λ (x : Listed) (xs : List Listed). x ∷ xs) same (none-counted f ls both.1)

any-found : (f : Found) (ls : List Listed) → repeats (map found_of ls) f ≡ list_any (is_again f) ls
any-found f [] = refl
any-found f (l ∷ ls) = ap (λ (b : Bool). is_again f l || b) (any-found f ls)

count-front : {A : Type 0} (p : A → Bool) (x : A) (xs : List A) → count_by p (x ∷ xs) ≡ one_if (p x) + count_by p xs
count-front {A} p x xs = sum_by-append (λ y. one_if (p y)) (x ∷ []) xs ∙ ap (λ (n : ℕ). n + count_by p xs) (omega arith)

count-found : (p : Found → Bool) (ls : List Listed) → count_by p (map found_of ls) ≡ count_by (λ l. p l.found) ls
count-found p [] = refl
count-found p (l ∷ ls) = count-front p l.found (map found_of ls)
    ∙ ap (λ (n : ℕ). one_if (p l.found) + n) (count-found p ls) ∙ sym (count-front (λ (x : Listed). p x.found) l ls)

-- ---- how a finding is entered

-- whether fewer than 100 of the kind of f are listed
abbrev room_for : List Listed → Found → Bool
room_for ls f = nat_lt (count_by (is_kind (is_an_error f)) ls) 100

room-by : (ls : List Listed) (f : Found) (b : Bool) → is_an_error f ≡ b →
    nat_lt (if b then count_by is_an_error (map found_of ls) else count_by is_a_note (map found_of ls)) 100
    ≡ nat_lt (count_by (is_kind b) ls) 100
room-by ls f true e = ap (λ (n : ℕ). nat_lt n 100) (count-found is_an_error ls)
room-by ls f false e = ap (λ (n : ℕ). nat_lt n 100) (count-found is_a_note ls)

listed-by : (ls : List Listed) (f : Found) (again room : Bool) → list_any (is_again f) ls ≡ again →
    room_for ls f ≡ room → is_listed (map found_of ls) f ≡ (not again && room)
listed-by ls f again room e h = ap₂ (λ (a r : Bool). not a && r) (any-found f ls ∙ e) (room-by ls f (is_an_error f) refl
    ∙ h)

-- a finding that repeats one that is listed
pub enters_again : (f : Found) (old new : Reported) → list_any (is_again f) old.listed ≡ true →
    new.listed ≡ map (counted f) old.listed → new.omitted ≡ old.omitted → new.errors ≡ old.errors →
    new.notes ≡ old.notes → Lists f old new
enters_again f old new known lines out errors notes =
    let off : is_listed (map found_of old.listed) f ≡ false =
    listed-by old.listed f true (room_for old.listed f) known refl in
    let again : repeats (map found_of old.listed) f ≡ true = any-found f old.listed ∙ known in
    record {
      listed = lines ∙ sym (append-nil _) ∙ ap (λ (b : Bool). map (counted f) old.listed
          ++ (if b then line_of f [] ∷ [] else [])) (sym off);
      omitted = out ∙ (rw (off, again) refl);
      errors = errors;
      notes = notes;
    }

-- a finding that is listed
pub enters_new : (f : Found) (old new : Reported) → list_any (is_again f) old.listed ≡ false →
    room_for old.listed f ≡ true → new.listed ≡ old.listed ++ line_of f [] ∷ [] → new.omitted ≡ old.omitted →
    new.errors ≡ old.errors → new.notes ≡ old.notes → Lists f old new
enters_new f old new none room lines out errors notes =
    let on : is_listed (map found_of old.listed) f ≡ true = listed-by old.listed f false true none room in
    record {
      listed = lines ∙ ap₂ (λ (ls : List Listed) (b : Bool). ls ++ (if b then line_of f [] ∷ [] else
          [])) (sym (none-counted f old.listed none)) (sym on);
      omitted = out ∙ (rw on refl);
      errors = errors;
      notes = notes;
    }

-- a finding that is left out
pub enters_out : (f : Found) (old new : Reported) → list_any (is_again f) old.listed ≡ false →
    room_for old.listed f ≡ false → new.listed ≡ old.listed → new.omitted ≡ min (old.omitted + 1) most_counted →
    new.errors ≡ old.errors → new.notes ≡ old.notes → Lists f old new
enters_out f old new none room lines out errors notes =
    let off : is_listed (map found_of old.listed) f ≡ false = listed-by old.listed f false false none room in
    let again : repeats (map found_of old.listed) f ≡ false = any-found f old.listed ∙ none in
    record {
      listed = lines ∙ sym (append-nil _) ∙ ap₂ (λ (ls : List Listed) (b : Bool). ls
          ++ (if b then line_of f [] ∷ [] else [])) (sym (none-counted f old.listed none)) (sym off);
      omitted = out ∙ (rw (off, again) refl);
      errors = errors;
      notes = notes;
    }

-- ---- reports

parts : (r : Reported) (a : List Listed) (b c d : ℕ) → r.listed ≡ a → r.errors ≡ b → r.notes ≡ c → r.omitted ≡ d →
    r ≡ record { listed = a; errors = b; notes = c; omitted = d }
parts r a b c d e f g h =
    ap (λ (x : List Listed). record { listed = x; errors = r.errors; notes = r.notes; omitted = r.omitted }) e
    ∙ ap (λ (x : ℕ). record { listed = a; errors = x; notes = r.notes; omitted = r.omitted }) f
    ∙ ap (λ (x : ℕ). record { listed = a; errors = b; notes = x; omitted = r.omitted }) g
    ∙ ap (λ (x : ℕ). record { listed = a; errors = b; notes = c; omitted = x }) h

-- the lines and the findings left out, with one finding more
lines-of : (f : Found) (fs : List Found) (old new : Reported) → Lists f old new → old.listed ≡ lines_from [] fs →
    new.listed ≡ lines_from [] (fs ++ f ∷ [])
lines-of f fs old new x e = x.listed ∙ ap (λ (ls : List Listed). map (counted f) ls ++ new_line ls f) e
    ∙ sym (lines-more fs [] f)

out-of : (f : Found) (fs : List Found) (old new : Reported) → Lists f old new → old.listed ≡ lines_from [] fs →
    old.omitted ≡ min (left_out [] fs) most_counted → new.omitted ≡ min (left_out [] (fs ++ f ∷ [])) most_counted
out-of f fs old new x e h =
    let seen = map found_of (lines_from [] fs) in
    x.omitted ∙ ap₂ (λ (ls : List Listed) (n : ℕ). out_with ls f n) e h
    ∙ sym (bounded-out seen f (left_out [] fs) (is_listed seen f) (repeats seen f) refl refl)
    ∙ ap (λ (n : ℕ). min n most_counted) (sym (out-more fs [] f))

-- the report with an error more
pub error-added : (old mid new : Reported) (f : Found) → is_an_error f ≡ true → Lists f old mid →
    new.listed ≡ mid.listed → new.omitted ≡ mid.omitted → new.errors ≡ min (mid.errors + 1) most_counted →
    new.notes ≡ mid.notes → (fs : List Found) → old ≡ report_of fs → new ≡ report_of (fs ++ f ∷ [])
unfolding report_of
error-added old mid new f is x lines out errors notes fs e =
    let k : old.listed ≡ lines_from [] fs = ap (λ (r : Reported). r.listed) e in
    let u : old.omitted ≡ min (left_out [] fs) most_counted = ap (λ (r : Reported). r.omitted) e in
    let n : old.errors ≡ bounded_count is_an_error fs = ap (λ (r : Reported). r.errors) e in
    let m : old.notes ≡ bounded_count is_a_note fs = ap (λ (r : Reported). r.notes) e in
    parts new _ _ _ _
    (lines ∙ lines-of f fs old mid x k)
    (errors ∙ ap (λ (z : ℕ). min (z + 1) most_counted) (x.errors ∙ n) ∙ counted-more is_an_error fs f is)
    (notes ∙ x.notes ∙ m ∙ counted-same is_a_note fs f (ap not is))
    (out ∙ out-of f fs old mid x k u)

-- the report with a note more
pub note-added : (old mid new : Reported) (f : Found) → is_an_error f ≡ false → Lists f old mid →
    new.listed ≡ mid.listed → new.omitted ≡ mid.omitted → new.errors ≡ mid.errors →
    new.notes ≡ min (mid.notes + 1) most_counted → (fs : List Found) → old ≡ report_of fs →
    new ≡ report_of (fs ++ f ∷ [])
unfolding report_of
note-added old mid new f is x lines out errors notes fs e =
    let k : old.listed ≡ lines_from [] fs = ap (λ (r : Reported). r.listed) e in
    let u : old.omitted ≡ min (left_out [] fs) most_counted = ap (λ (r : Reported). r.omitted) e in
    let n : old.errors ≡ bounded_count is_an_error fs = ap (λ (r : Reported). r.errors) e in
    let m : old.notes ≡ bounded_count is_a_note fs = ap (λ (r : Reported). r.notes) e in
    parts new _ _ _ _
    (lines ∙ lines-of f fs old mid x k)
    (errors ∙ x.errors ∙ n ∙ counted-same is_an_error fs f is)
    (notes ∙ ap (λ (z : ℕ). min (z + 1) most_counted) (x.notes ∙ m) ∙ counted-more is_a_note fs f (ap not is))
    (out ∙ out-of f fs old mid x k u)

pub none-reported : report_of [] ≡ record { listed = []; errors = 0; notes = 0; omitted = 0 }
unfolding report_of
none-reported = refl
