-- The end of the innermost process.
use Rattle.std.proofs.Common.{◌≡◌, ℕ, ◌+◌, ◌<◌, Bool, true, false, ◌||◌, List, [], ◌∷◌, ◌++◌, length, take, drop, get_or, Some, refl, sym, ◌∙◌, ap, ap₂, add-one}
use Rattle.std.proofs.Math.ListN.{set}
use Rattle.std.proofs.Math.Seq.{split_at}
use Rattle.std.proofs.lemmas.List.{drop-set, take-append-drop, take-set}
use Rattle.std.specs.List.{list_any}
use Rattle.dm_findings.specs.declared.processes.process.Process.{Process}
use Rattle.dm_findings.specs.processes.Processes.{runs, with_end}

or_false : (a b : Bool) → (a || b) ≡ false → (a ≡ false) × (b ≡ false)
or_false true b e = (let no : true ≡ false = e in cc)
or_false false b e = (refl, e)

or_true : (a b : Bool) → b ≡ true → (a || b) ≡ true
or_true true b e = refl
or_true false b e = e

-- the process with its last step
abbrev pub ended : ℕ → Process → Process
ended step p = record p { last = Some step }

pub none_runs : (step : ℕ) (ps : List Process) → list_any runs ps ≡ false → with_end step ps ≡ ps
none_runs step [] e = refl
none_runs step (p ∷ ps) e = (let both = or_false (runs p) (list_any runs ps) e in rw (both.0, both.1) refl)

some_runs : (front back : List Process) (p : Process) → runs p ≡ true → list_any runs (front ++ p ∷ back) ≡ true
some_runs [] back p e = rw e refl
some_runs (q ∷ front) back p e = or_true (runs q) (list_any runs (front ++ p ∷ back)) (some_runs front back p e)

-- the last that runs, with others before it and behind it
pub last_ends : (step : ℕ) (front back : List Process) (p : Process) → runs p ≡ true → list_any runs back ≡ false →
    with_end step (front ++ p ∷ back) ≡ front ++ ended step p ∷ back
last_ends step [] back p e none = rw (none, e) refl
last_ends step (q ∷ front) back p e none = rw (some_runs front back p e) (ap (λ (l : List Process). q
    ∷ l) (last_ends step front back p e none))

-- the last that runs, by its index
pub ends_at : (step : ℕ) (old ps : List Process) (i : ℕ) (d : Process) → ps ≡ old → i < length ps →
    runs (get_or ps i d) ≡ true → list_any runs (drop (i + 1) ps) ≡ false
    → set ps i (ended step (get_or ps i d)) ≡ with_end step old
ends_at step old ps i d same less is none =
    let x = get_or ps i d in
    let y = ended step x in
    let cut : ps ≡ take i ps ++ x ∷ drop (i + 1) ps = rw add-one (split_at ps i d less) in
    let made : set ps i y ≡ take i ps ++ y ∷ drop (i + 1) ps
    = sym (take-append-drop i (set ps i y)) ∙ ap₂ (λ (a b : List Process). a
    ++ b) (take-set ps i y) (drop-set ps i y less) in
    made ∙ sym (last_ends step (take i ps) (drop (i + 1) ps) x is none)
    ∙ ap (λ (l : List Process). with_end step l) (sym cut ∙ same)
