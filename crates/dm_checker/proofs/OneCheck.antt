-- A checked run is a run, and has one list of findings.
use Rattle.std.proofs.Common.{◌≡◌, ◌≢◌, ℕ, zero, suc, ◌+◌, ◌<◌, List, [], ◌++◌, Some, None, refl, sym, ◌∙◌, ap₂, subst, arith, inl, inr}
use Rattle.std.proofs.lemmas.Bool.{cases_lt}
use Rattle.dm_services.specs.declared.state.stop.Stop.{Stop}
use Rattle.dm_services.specs.declared.state.stop.Stop.TheVariants.{Memory as NoMemory}
use Rattle.dm_services.specs.state.State.{State}
use Rattle.dm_machine.specs.Step.{MakesStep}
use Rattle.dm_machine.specs.Run.{Answers, Goes, StopsWithin}
use Rattle.dm_machine.specs.Run as run
use Rattle.dm_machine.proofs.OneRun.{goes-one}
use Rattle.dm_machine.proofs.OneStop.{some-none, not_beyond, run-one}
use Rattle.dm_findings.specs.declared.finding.Found.{Found}
use Rattle.dm_origins.specs.Origins.{Known}
use Rattle.dm_checker.specs.Origins.{IsKnownAfter, OriginsIn, known_at}
use Rattle.dm_checker.specs.Origins as origins
use Rattle.dm_checker.specs.Checks.{FindsAt, FindsAtStop, FindsIn, here, further, Checks, over, whole, cut}
use Rattle.dm_checker.specs.Laws.{ACheckedRunIsARun, CheckHasOneReport}
use Rattle.dm_checker.proofs.FoundOnce.{known_once, step_once, stop_once}

pub finds_goes : (s t : State) (n : ℕ) (found : List Found) → FindsIn s n t found → Goes s n t
finds_goes s _ _ _ here = run.here
finds_goes s _ _ _ (further n t u k l fs gs h o a w x) = run.further n t u (finds_goes s t n fs h) a

origins_goes : (s t : State) (n : ℕ) (k : Known) → OriginsIn s n t k → Goes s n t
origins_goes s _ _ _ origins.here = run.here
origins_goes s _ _ _ (origins.further n t u k l h a w) = run.further n t u (origins_goes s t n k h) a

pub checked_run : ACheckedRunIsARun
checked_run s t n stop found (over code e f g h) = run.over code e f g
checked_run s t n stop found (whole e f x) = run.whole e f (finds_goes s t n found x)
checked_run s t n stop found (cut made before k fs gs e less x o a y is) =
    run.cut e (record { made = made; before = before; fewer = less; goes = finds_goes s before made fs x; answers = a })

-- ---- who allocated and who freed

record LastKnown (s : State) (n : ℕ) (m : Known) (u : State) : Type 0 where
  before : State
  known : Known
  origins : OriginsIn s n before known
  knows : IsKnownAfter before u known m

last_known : (s u : State) (m n : ℕ) (k : Known) → OriginsIn s m u k → m ≡ n + 1 → LastKnown s n k u
last_known s u m n k origins.here e = absurd (omega arith)
last_known s u m n k (origins.further j t v l o h a x) e =
    let same : j ≡ n = omega arith in
    record { before = t; known = l; origins = subst (λ (i : ℕ). OriginsIn s i t l) same h; knows = x }

first_known : (s u : State) (m : ℕ) (k : Known) → OriginsIn s m u k → m ≡ 0 → k ≡ known_at s
first_known s u m k origins.here e = refl
first_known s u m k (origins.further j t v l o h a x) e = absurd (omega arith)

origins_once : (s t u : State) (n : ℕ) (k l : Known) → OriginsIn s n t k → OriginsIn s n u l → k ≡ l
origins_once s t u zero k l x y = first_known s t 0 k x refl ∙ sym (first_known s u 0 l y refl)
origins_once s t u (suc n) k l x y =
    let i = last_known s t (suc n) n k x (omega arith) in
    let j = last_known s u (suc n) n l y (omega arith) in
    let same = origins_once s i.before j.before n i.known j.known i.origins j.origins in
    let before = goes-one s i.before j.before n (origins_goes s i.before n i.known i.origins)
    (origins_goes s j.before n j.known j.origins) in
    let to = goes-one s t u (suc n) (origins_goes s t (suc n) k x) (origins_goes s u (suc n) l y) in
    let F : State → Type 0 = λ v. IsKnownAfter v t i.known k in
    let G : State → Type 0 = λ v. IsKnownAfter j.before v i.known k in
    known_once j.before u i.known j.known k l same (subst G to (subst F before i.knows)) j.knows

-- ---- findings

-- the last of the steps
record Last (s : State) (n : ℕ) (found : List Found) (u : State) : Type 0 where
  before : State
  front : List Found
  more : List Found
  known : Known
  after : Known
  finds : FindsIn s n before front
  origins : OriginsIn s n before known
  steps : MakesStep before (record { stop = None; state = u })
  knows : IsKnownAfter before u known after
  at : FindsAt before u after more
  is : found ≡ front ++ more

last : (s u : State) (m n : ℕ) (found : List Found) → FindsIn s m u found → m ≡ n + 1 → Last s n found u
last s u m n found here e = absurd (omega arith)
last s u m n found (further j t v k l fs gs h o a w x) e =
    let same : j ≡ n = omega arith in
    record {
      before = t;
      front = fs;
      more = gs;
      known = k;
      after = l;
      finds = subst (λ (i : ℕ). FindsIn s i t fs) same h;
      origins = subst (λ (i : ℕ). OriginsIn s i t k) same o;
      steps = a;
      knows = w;
      at = x;
      is = refl;
    }

none_made : (s u : State) (m : ℕ) (found : List Found) → FindsIn s m u found → m ≡ 0 → found ≡ []
none_made s u m found here e = refl
none_made s u m found (further j t v k l fs gs h o a w x) e = absurd (omega arith)

both : (a b c d : List Found) → a ≡ b → c ≡ d → a ++ c ≡ b ++ d
both a b c d e f = ap₂ (λ (x y : List Found). x ++ y) e f

in_once : (s t u : State) (n : ℕ) (fs gs : List Found) → FindsIn s n t fs → FindsIn s n u gs → fs ≡ gs
in_once s t u zero fs gs x y = none_made s t 0 fs x refl ∙ sym (none_made s u 0 gs y refl)
in_once s t u (suc n) fs gs x y =
    let i = last s t (suc n) n fs x (omega arith) in
    let j = last s u (suc n) n gs y (omega arith) in
    let front = in_once s i.before j.before n i.front j.front i.finds j.finds in
    let before = goes-one s i.before j.before n (finds_goes s i.before n i.front i.finds)
    (finds_goes s j.before n j.front j.finds) in
    let to = goes-one s t u (suc n) (finds_goes s t (suc n) fs x) (finds_goes s u (suc n) gs y) in
    let F : State → Type 0 = λ v. FindsAt v t i.after i.more in
    let G : State → Type 0 = λ v. FindsAt j.before v i.after i.more in
    let K : State → Type 0 = λ v. IsKnownAfter v t i.known i.after in
    let L : State → Type 0 = λ v. IsKnownAfter j.before v i.known i.after in
    let known = origins_once s i.before j.before n i.known j.known i.origins j.origins in
    let after = known_once j.before u i.known j.known i.after j.after known (subst L to (subst K before i.knows))
    j.knows in
    let more = step_once j.before u i.after j.after i.more j.more after (subst G to (subst F before i.at)) j.at in
    i.is ∙ both i.front j.front i.more j.more front more ∙ sym j.is

-- ---- runs that a stop cuts short

record Cut (s : State) (n : ℕ) (stop : Stop) (t : State) (found : List Found) : Type 0 where
  made : ℕ
  before : State
  front : List Found
  more : List Found
  known : Known
  fewer : made < n
  finds : FindsIn s made before front
  origins : OriginsIn s made before known
  answers : Answers before (Some stop) t
  at : FindsAtStop before stop t known more
  is : found ≡ front ++ more

within : (s t : State) (n m : ℕ) (stop : Stop) (found : List Found) → (c : Cut s n stop t found) → c.made < m →
    StopsWithin s m stop t
within s t n m stop found c less =
    record {
      made = c.made;
      before = c.before;
      fewer = less;
      goes = finds_goes s c.before c.made c.front c.finds;
      answers = c.answers;
    }

not_further : (s t u : State) (n m : ℕ) (stop : Stop) (fs gs : List Found) → stop ≢ NoMemory → FindsIn s m u gs →
    (c : Cut s n stop t fs) → c.made < m → ⊥
not_further s t u n m stop fs gs p x c less = not_beyond s u t m stop p (finds_goes s u m gs x)
    (within s t n m stop fs c less)

same_made : (s t u : State) (n : ℕ) (a b : Stop) (fs gs : List Found) → a ≡ b → t ≡ u → (c : Cut s n a t fs) →
    (d : Cut s n b u gs) → c.made ≡ d.made → fs ≡ gs
same_made s t u n a b fs gs stop to c d e =
    let x : FindsIn s d.made c.before c.front = subst (λ (k : ℕ). FindsIn s k c.before c.front) e c.finds in
    let front = in_once s c.before d.before d.made c.front d.front x d.finds in
    let before = goes-one s c.before d.before d.made (finds_goes s c.before d.made c.front x)
    (finds_goes s d.before d.made d.front d.finds) in
    let F : State → Type 0 = λ v. FindsAtStop v a t c.known c.more in
    let G : Stop → Type 0 = λ z. FindsAtStop d.before z t c.known c.more in
    let H : State → Type 0 = λ v. FindsAtStop d.before b v c.known c.more in
    let origins : OriginsIn s d.made c.before c.known = subst (λ (k : ℕ). OriginsIn s k c.before c.known) e c.origins in
    let known = origins_once s c.before d.before d.made c.known d.known origins d.origins in
    let more = stop_once d.before b u c.known d.known c.more d.more known
    (subst H to (subst G stop (subst F before c.at))) d.at in
    c.is ∙ both c.front d.front c.more d.more front more ∙ sym d.is

cut_once : (s t u : State) (n : ℕ) (a b : Stop) (fs gs : List Found) → a ≢ NoMemory → b ≢ NoMemory → a ≡ b → t ≡ u →
    Cut s n a t fs → Cut s n b u gs → fs ≡ gs
cut_once s t u n a b fs gs p q stop to c d = elim (cases_lt c.made d.made) [
  | inl less ↦ absurd (not_further s t d.before n d.made a fs d.front p d.finds c less)
  | inr least ↦
      elim (cases_lt d.made c.made) [
        | inl less ↦ absurd (not_further s u c.before n c.made b gs c.front q c.finds d less)
        | inr most ↦ same_made s t u n a b fs gs stop to c d (omega (arith, least, most))
      ]
]

found_once : (s t u : State) (n : ℕ) (a b : Stop) (fs gs : List Found) → Checks s n a t fs → Checks s n b u gs →
    a ≢ NoMemory → b ≢ NoMemory → a ≡ b → t ≡ u → fs ≡ gs
found_once s t u n a b fs gs (over c e f g h) (over d i j k l) p q stop to = h ∙ sym l
found_once s t u n a b fs gs (over c e f g h) (whole i j x) p q stop to = absurd (some-none s.exited c e i)
found_once s t u n a b fs gs (over c e f g h) (cut made before k l m i less x o w y is) p q stop to =
    absurd (some-none s.exited c e i)
found_once s t u n a b fs gs (whole i j x) (over c e f g h) p q stop to = absurd (some-none s.exited c e i)
found_once s t u n a b fs gs (whole i j x) (whole k l y) p q stop to = in_once s t u n fs gs x y
found_once s t u n a b fs gs (whole i j x) (cut made before k l m e less y o w z is) p q stop to =
    let d : Cut s n b u gs = record {
      made = made;
      before = before;
      front = l;
      more = m;
      known = k;
      fewer = less;
      finds = y;
      origins = o;
      answers = w;
      at = z;
      is = is;
    } in
    absurd (not_further s u t n n b gs fs q x d less)
found_once s t u n a b fs gs (cut made before k l m i less x o w y is) (over c e f g h) p q stop to =
    absurd (some-none s.exited c e i)
found_once s t u n a b fs gs (cut made before k l m e less y o w z is) (whole i j x) p q stop to =
    let d : Cut s n a t fs = record {
      made = made;
      before = before;
      front = l;
      more = m;
      known = k;
      fewer = less;
      finds = y;
      origins = o;
      answers = w;
      at = z;
      is = is;
    } in
    absurd (not_further s t u n n a fs gs p x d less)
found_once s t u n a b fs gs (cut made before k l m e less y o w z is)
    (cut made' before' k' l' m' e' less' y' o' w' z' is') p q stop to =
    cut_once s t u n a b fs gs p q stop to
    (record {
      made = made;
      before = before;
      front = l;
      more = m;
      known = k;
      fewer = less;
      finds = y;
      origins = o;
      answers = w;
      at = z;
      is = is;
    })
    (record {
      made = made';
      before = before';
      front = l';
      more = m';
      known = k';
      fewer = less';
      finds = y';
      origins = o';
      answers = w';
      at = z';
      is = is';
    })

pub check_once : CheckHasOneReport
check_once s t u n a b fs gs x y p q =
    let one = run-one s t u n a b (checked_run s t n a fs x) (checked_run s u n b gs y) p q in
    (one.0, one.1, found_once s t u n a b fs gs x y p q one.0 one.1)
