-- Replies, by what they are equal to.
use Rattle.std.proofs.Common.{◌≡◌, ◌≤◌, ◌-◌, ℕ, Bool, true, false, List, Option, Some, Result, Ok, Err, refl, sym, ap, subst, ◌∙◌}
use Rattle.std.specs.Prelude.{IfOk, OnOk}
use Rattle.dm_services.specs.declared.state.stop.Stop.{Stop}
use Rattle.dm_services.specs.state.State.{State}
use Rattle.dm_requests.specs.declared.request.Point.{Point}
use Rattle.dm_requests.specs.declared.request.Request.{Request}
use Rattle.dm_requests.specs.declared.request.Request.TheVariants as request
use Rattle.dm_target.specs.declared.going.Pause.{Pause}
use Rattle.dm_target.specs.declared.going.StepRange.{StepRange}
use Rattle.dm_gdb.specs.declared.replies.Reply.{Reply}
use Rattle.dm_target.specs.Going.{Continues}
use Rattle.dm_requests.specs.declared.commands.command.Command.{Command}
use Rattle.dm_debug.specs.Debugged.{Debugged}
use Rattle.dm_history.specs.Timelines.{Timeline, new_timeline}
use Rattle.dm_debug.specs.Sessions.{Displays, Does, DoesPart, shows, goes, traces, sets, clears, enters, nothing, ran, traced}
use Rattle.dm_gdb.specs.Monitor.{is_shown, step_asked, stepped_reply}
use Rattle.dm_machine.specs.Run.{IsRun}
use Rattle.dm_gdb.specs.Servers.{Served, Replies, goes_to, is_plain, is_exit, gone, at_state, restarted, arrival_reply, step_reply}

-- a reply, where request, reply and session are known to be these
pub replies_as : (s t u : Served) (most : ℕ) (r q : Request) (told said : Reply) → Replies s most q said u → r ≡ q →
    told ≡ said → t ≡ u → Replies s most r told t
replies_as s t u most r q told said h e f g =
    subst (λ (x : Request). Replies s most x told t) (sym e)
    (subst (λ (x : Reply). Replies s most q x t) (sym f)
    (subst (λ (x : Served). Replies s most q said x) (sym g) h))

-- the reply of a step, where breakpoints and machine are known to be these
pub step_told : (told : Reply) (ps qs : List ℕ) (why : Pause) (m t : State) → told ≡ step_reply ps why m → ps ≡ qs →
    m ≡ t → told ≡ step_reply qs why t
step_told told ps qs why m t h e f = h ∙ ap (λ (xs : List ℕ). step_reply xs why m) e
    ∙ ap (λ (x : State). step_reply qs why x) f

-- the same of a run
pub arrival_told : (told : Reply) (ps qs : List ℕ) (why : Pause) (m t : State) → told ≡ arrival_reply ps why m →
    ps ≡ qs → m ≡ t → told ≡ arrival_reply qs why t
arrival_told told ps qs why m t h e f = h ∙ ap (λ (xs : List ℕ). arrival_reply xs why m) e
    ∙ ap (λ (x : State). arrival_reply qs why x) f

-- a request that is none of those of the machine
pub only_these : (r : Request) → (r ≡ request.Registers → ⊥) → ((n : ℕ) → r ≡ request.Register n → ⊥) →
    ((a n : ℕ) → r ≡ request.Memory a n → ⊥)
    → ((a : ℕ) (bytes : List ℕ) → r ≡ request.SetMemory a bytes → ⊥) → ((n : ℕ) (bytes : List ℕ) →
    r ≡ request.SetRegister n bytes → ⊥)
    → ((a n : ℕ) → r ≡ request.Features a n → ⊥) → ((line : List ℕ) → r ≡ request.Command line → ⊥)
    → (r ≡ request.Offsets → ⊥) → (r ≡ request.FirstThreads → ⊥) → (r ≡ request.EndProgram → ⊥) →
    ((p : Point) → r ≡ request.Insert p → ⊥)
    → ((p : Point) → r ≡ request.Remove p → ⊥) → (r ≡ request.Step → ⊥) → (r ≡ request.Continue → ⊥) →
    ((a b : ℕ) → r ≡ request.Range a b → ⊥)
    → (r ≡ request.StepBack → ⊥) → (r ≡ request.ContinueBack → ⊥) → (r ≡ request.Restart → ⊥) → is_plain r ≡ true
only_these request.Registers a b c d e g h i j k l m o q u v z w = absurd (a refl)
only_these (request.Register n) a b c d e g h i j k l m o q u v z w = absurd (b n refl)
only_these (request.Memory x n) a b c d e g h i j k l m o q u v z w = absurd (c x n refl)
only_these (request.SetMemory x bytes) a b c d e g h i j k l m o q u v z w = absurd (d x bytes refl)
only_these (request.SetRegister n bytes) a b c d e g h i j k l m o q u v z w = absurd (e n bytes refl)
only_these (request.Features x n) a b c d e g h i j k l m o q u v z w = absurd (g x n refl)
only_these (request.Command line) a b c d e g h i j k l m o q u v z w = absurd (h line refl)
only_these request.Offsets a b c d e g h i j k l m o q u v z w = absurd (i refl)
only_these request.FirstThreads a b c d e g h i j k l m o q u v z w = absurd (j refl)
only_these request.EndProgram a b c d e g h i j k l m o q u v z w = absurd (k refl)
only_these (request.Insert p) a b c d e g h i j k l m o q u v z w = absurd (l p refl)
only_these (request.Remove p) a b c d e g h i j k l m o q u v z w = absurd (m p refl)
only_these request.Step a b c d e g h i j k l m o q u v z w = absurd (o refl)
only_these request.Continue a b c d e g h i j k l m o q u v z w = absurd (q refl)
only_these (request.Range x y) a b c d e g h i j k l m o q u v z w = absurd (u x y refl)
only_these request.StepBack a b c d e g h i j k l m o q u v z w = absurd (v refl)
only_these request.ContinueBack a b c d e g h i j k l m o q u v z w = absurd (z refl)
only_these request.Restart a b c d e g h i j k l m o q u v z w = absurd (w refl)
only_these _ a b c d e g h i j k l m o q u v z w = refl

-- steps, where breakpoints and machine are known to be these
pub goes_as : (ps qs : List ℕ) (vs ws : List Point) (span : Option StepRange) (m s : State) (most : ℕ) (why : Pause)
    (t : State) → Continues ps vs span m most why t → ps ≡ qs → vs ≡ ws → m ≡ s
    → Continues qs ws span s most why t
goes_as ps qs vs ws span m s most why t h e g f =
    subst (λ (x : State). Continues qs ws span x most why t) f
    (subst (λ (xs : List Point). Continues qs xs span m most why t) g
    (subst (λ (xs : List ℕ). Continues xs vs span m most why t) e h))

-- what holds of a result's value, and what holds with it, is another fact of the value
pub if_ok_both : {A E : Type 0} → (r : Result A E) (P : Type 0) (Q R : A → Type 0) → ((x : A) → P → Q x → R x) →
    OnOk r P → IfOk r Q → IfOk r R
if_ok_both (Ok x) P Q R f h k = f x h k
if_ok_both (Err e) P Q R f h k = tt

-- the session after steps, where what changed is known
pub gone_as : (s a b : Served) (m : State) (told said : Reply) → a ≡ at_state s m →
    b ≡ record a { ended = is_exit told } → told ≡ said → b ≡ gone s said m
gone_as s a b m told said e f g =
    f ∙ ap (λ (x : Served). record x { ended = is_exit told }) e
    ∙ ap (λ (x : Reply). record (at_state s m) { ended = is_exit x }) g

-- a command that shows something shows it, and changes nothing
pub shown_only : (c : Command) (s t : Debugged) (text : List ℕ) → is_shown c ≡ true → Does s c text t →
    Displays s c text × (t ≡ s)
shown_only c s t text h (shows _ _ displays) = (displays, refl)
shown_only _ s t text h (goes n _ u x) = absurd cc
shown_only _ s t text h (traces n _ u x) = absurd cc
shown_only _ s t text h (sets a) = absurd cc
shown_only _ s t text h (clears a) = absurd cc
shown_only _ s t text h (enters a typed) = absurd cc

-- nor if it is cut off
pub cut_only : (c : Command) (s t : Debugged) → is_shown c ≡ true → DoesPart s c t → t ≡ s
cut_only c s t h (nothing _) = refl
cut_only _ s t h (ran n why u r) = absurd cc
cut_only _ s t h (traced n u r) = absurd cc

-- steps up to one that is wanted, where what is known is of the session as it was read
pub goes_to_as : (a s : Served) (x : Timeline) (most : ℕ) (line : List ℕ) (n here : ℕ) (why : Stop) (told : Reply) → a ≡ s →
    step_asked line ≡ Some n → here ≡ a.history.machine.steps → here ≤ n
    → IsRun a.history.machine (n - here) why x.machine → x ≡ record a.history { machine = x.machine } →
    told ≡ stepped_reply why
    → Replies s most (request.Command line) told (record a { history = x })
goes_to_as a s x most line n here why told e is at le went f g =
    subst (λ (y : Served). Replies y most (request.Command line) told (record a { history = x })) e
    (replies_as a (record a { history = x }) (at_state a x.machine) most (request.Command line)
    (request.Command line) told (stepped_reply why)
    (goes_to line n why x.machine is (subst (λ (k : ℕ). k ≤ n) at le)
    (subst (λ (k : ℕ). IsRun a.history.machine (n - k) why x.machine) at went)) refl g
    (ap (λ (h : Timeline). record a { history = h }) f))

-- a result that is a value, which is true
pub is_ok_true : {E : Type 0} → (r : Result Bool E) (b : Bool) → r ≡ Ok b → b ≡ true → r ≡ Ok true
is_ok_true r b e f = e ∙ ap (λ (x : Bool). Ok x) f

-- the session after the program was started again, where what changed is known
pub restarted_as : (a s t : Served) (h : Timeline) → a ≡ s → h ≡ new_timeline a.history.beginning →
    t ≡ record a { history = h; shown = 0; ended = false } → t ≡ restarted s
restarted_as a s t h e f g = g ∙ ap (λ (x : Timeline). record a { history = x; shown = 0; ended = false }) f
    ∙ ap restarted e
