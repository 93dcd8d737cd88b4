-- One list of findings is found of a step.
use Rattle.std.proofs.Common.{◌≡◌, ℕ, ◌≤◌, List, ◌++◌, length, take, drop, Option, Some, refl, sym, ◌∙◌, ap, ap₂, subst, arith, inl, inr}
use Rattle.std.proofs.lemmas.Bool.{cases_lt}
use Rattle.std.proofs.lemmas.List.{take-append-drop, length-take, take-take}
use Rattle.dm_space.specs.Memory.{Memory}
use Rattle.dm_space.specs.EightBytes.{sixteen_after}
use Rattle.dm_ins.specs.declared.ins.Ins.{Ins}
use Rattle.dm_decode.proofs.Exact.{no_front}
use Rattle.dm_cpu.specs.declared.cpu.Cpu.{Cpu}
use Rattle.dm_cpu.specs.Guest.{guest, up}
use Rattle.dm_services.specs.declared.state.stop.Stop.{Stop}
use Rattle.dm_services.specs.declared.state.stop.Stop.TheVariants.{Exited, Steps as AllSteps, Halted, Unlisted, InputEnded, Destroyed, Memory as NoMemory}
use Rattle.dm_services.specs.state.State.{State}
use Rattle.dm_machine.specs.Step.{fetched}
use Rattle.dm_ins.specs.Ins.{BeginsWith}
use Rattle.dm_machine.proofs.OneStop.{some-none}
use Rattle.dm_findings.specs.declared.calls.Call.{Call}
use Rattle.dm_findings.specs.declared.finding.Act.{Act}
use Rattle.dm_findings.specs.declared.finding.Act.TheVariants as act
use Rattle.dm_findings.specs.declared.finding.Finding.{Finding}
use Rattle.dm_findings.specs.declared.finding.Found.{Found}
use Rattle.dm_findings.specs.Calls.{call_of}
use Rattle.dm_origins.specs.Origins.{Known}
use Rattle.dm_checker.specs.Shown.{Shown}
use Rattle.dm_checker.specs.Origins.{known_by, IsKnownAfter}
use Rattle.dm_touches.specs.Found.{touch_findings}
use Rattle.dm_checker.specs.Arranged.{arranged}
use Rattle.dm_checker.specs.Findings.{findings, Finds, FindsTouched, touching, calling, over, IsAct, called, instructed, found_at, IsFound, none, some}
use Rattle.dm_checker.specs.Checks.{FindsAt, FindsAtEnd, FindsAtStop, left_behind}
use Rattle.dm_checker.proofs.ShownOnce.{shown_once}

-- ---- what acts

length-fetched : (m : Memory) (c : Cpu) → length (fetched m c) ≡ 16
unfolding sixteen_after
length-fetched m c = refl

record Same (i j : Ins) (k m : ℕ) : Type 0 where
  instruction : i ≡ j
  length_is : k ≡ m

same-before : (bytes : List ℕ) (i j : Ins) (k m : ℕ) → length bytes ≡ 16 → k ≤ m → BeginsWith bytes i k →
    BeginsWith bytes j m → Same i j k m
same-before bytes i j k m len h b c =
    let short = b.short in
    let long = c.short in
    let front : take m bytes ≡ take k bytes ++ drop k (take m bytes)
    = sym (take-append-drop k (take m bytes)) ∙ ap (λ (xs : List ℕ). xs ++ drop k (take m bytes))
    (take-take k m bytes h) in
    let same = no_front i j (take k bytes) (take m bytes) (drop k (take m bytes)) b.spells c.spells front in
    let lengths : length (take k bytes) ≡ length (take m bytes) = ap length same.0 in
    record { instruction = same.1; length_is = omega (arith, length-take k bytes, length-take m bytes) }

same-begins : (bytes : List ℕ) (i j : Ins) (k m : ℕ) → length bytes ≡ 16 → BeginsWith bytes i k → BeginsWith bytes j m →
    Same i j k m
same-begins bytes i j k m len b c = elim (cases_lt k m) [
  | inl low ↦ same-before bytes i j k m len (omega arith) b c
  | inr high ↦ let s = same-before bytes j i m k len high c b in record {
    instruction = sym s.instruction;
    length_is = sym s.length_is;
  }
]

some-same : {A : Type 0} (o : Option A) (a b : A) → o ≡ Some a → o ≡ Some b → a ≡ b
some-same o a b e f = cc

pub act_once : (s : State) (a b : Act) → IsAct s a → IsAct s b → a ≡ b
act_once s a b (called c e f) (called d g h) = f ∙ ap (λ (x : Call). act.Call x) (some-same (call_of s.cpu) c d e g)
    ∙ sym h
act_once s a b (called c e f) (instructed i k g x h) = absurd (some-none (call_of s.cpu) c e g)
act_once s a b (instructed i k g x h) (called c e f) = absurd (some-none (call_of s.cpu) c e g)
act_once s a b (instructed i k e x f) (instructed j m g y h) =
    let same = same-begins (fetched s.memory s.cpu) i j k m (length-fetched s.memory s.cpu) x y in
    f ∙ ap₂ (λ (l : Ins) (n : ℕ). act.Instruction l (up s.cpu.ip n)) same.instruction same.length_is ∙ sym h

-- ---- what is touched

touched_once : (s : State) (old : Shown) (a b : List Finding) → FindsTouched s old a → FindsTouched s old b → a ≡ b
touched_once s old a b (touching i k e f x g) (touching j m h l y n) =
    let same = same-begins (fetched s.memory s.cpu) i j k m (length-fetched s.memory s.cpu) x y in
    g ∙ ap₂ (λ (o : Ins) (p : ℕ). touch_findings (guest s.cpu s.memory) o p old.broken old.headers) same.instruction
    same.length_is ∙ sym n
touched_once s old a b (touching i k e f x g) (calling c h l) = absurd (some-none (call_of s.cpu) c h f)
touched_once s old a b (touching i k e f x g) (over c h l) = absurd (some-none s.exited c h e)
touched_once s old a b (calling c e f) (touching j m h l y n) = absurd (some-none (call_of s.cpu) c e l)
touched_once s old a b (calling c e f) (calling d h l) = f ∙ sym l
touched_once s old a b (calling c e f) (over d h l) = f ∙ sym l
touched_once s old a b (over c e f) (touching j m h l y n) = absurd (some-none s.exited c e h)
touched_once s old a b (over c e f) (calling d h l) = f ∙ sym l
touched_once s old a b (over c e f) (over d h l) = f ∙ sym l

pub finds_once : (s t : State) (a b : List Finding) → Finds s t a → Finds s t b → a ≡ b
finds_once s t a b x y =
    let old = shown_once s.upper s.memory x.old y.old x.before y.before in
    let new = shown_once t.upper t.memory x.new y.new x.after y.after in
    let F : Shown → Type 0 = λ o. FindsTouched s o x.touched in
    let touched = touched_once s y.old x.touched y.touched (subst F old x.touches) y.touches in
    x.is ∙ ap₂ (λ (o n : Shown). x.touched ++ findings s t o n ++ arranged s t o n) old new
    ∙ ap (λ (l : List Finding). l ++ findings s t y.old y.new ++ arranged s t y.old y.new) touched ∙ sym y.is

found_with : (s t : State) (k : Known) (fs gs : List Finding) (a b : List Found) → fs ≡ gs → IsFound s t k fs a →
    IsFound s t k gs b → a ≡ b
found_with s t k fs gs a b same (none e f) (none g h) = f ∙ sym h
found_with s t k fs gs a b same (none e f) (some w x g) =
    f ∙ sym (g ∙ ap (λ (l : List Finding). found_at s t k w l) (sym same ∙ e))
found_with s t k fs gs a b same (some w x g) (none e f) = g ∙ ap (λ (l : List Finding). found_at s t k w l) (same ∙ e)
    ∙ sym f
found_with s t k fs gs a b same (some v x g) (some w y h) =
    g ∙ ap₂ (λ (z : Act) (l : List Finding). found_at s t k z l) (act_once s v w x y) same ∙ sym h

found_once : (s t : State) (k m : Known) (fs gs : List Finding) (a b : List Found) → k ≡ m → fs ≡ gs →
    IsFound s t k fs a → IsFound s t m gs b → a ≡ b
found_once s t k m fs gs a b one same x y = (let F : Known → Type 0 = λ l. IsFound s t l fs a in
    found_with s t m fs gs a b same (subst F one x) y)

-- ---- who allocated and who freed

pub known_once : (s t : State) (k l m n : Known) → k ≡ l → IsKnownAfter s t k m → IsKnownAfter s t l n → m ≡ n
known_once s t k l m n same x y =
    let old = shown_once s.upper s.memory x.old y.old x.before y.before in
    let new = shown_once t.upper t.memory x.new y.new x.after y.after in
    x.is ∙ ap₂ (λ (o p : Shown). known_by s t o p (call_of s.cpu) k) old new
    ∙ ap (λ (z : Known). known_by s t y.old y.new (call_of s.cpu) z) same ∙ sym y.is

-- ---- a step, and the end of a run

pub step_once : (s t : State) (k l : Known) (a b : List Found) → k ≡ l → FindsAt s t k a → FindsAt s t l b → a ≡ b
step_once s t k l a b one x y = found_once s t k l x.findings y.findings a b one
    (finds_once s t x.findings y.findings x.finds y.finds) x.told y.told

end_once : (s t : State) (k l : Known) (a b : List Found) → k ≡ l → FindsAtEnd s t k a → FindsAtEnd s t l b → a ≡ b
end_once s t k l a b one x y =
    let same = ap (λ (l : List Finding). l ++ left_behind s t) (finds_once s t x.findings y.findings x.finds y.finds) in
    let known = known_once s t k l x.known y.known one x.knows y.knows in
    found_once s t x.known y.known (x.findings ++ left_behind s t) (y.findings
    ++ left_behind s t) a b known same x.told y.told

pub stop_once : (s : State) (stop : Stop) (t : State) (k l : Known) (a b : List Found) → k ≡ l →
    FindsAtStop s stop t k a → FindsAtStop s stop t l b → a ≡ b
stop_once s (Exited code) t k l a b one x y = end_once s t k l a b one x y
stop_once s AllSteps t k l a b one x y = x ∙ sym y
stop_once s Halted t k l a b one x y = x ∙ sym y
stop_once s Unlisted t k l a b one x y = x ∙ sym y
stop_once s InputEnded t k l a b one x y = x ∙ sym y
stop_once s Destroyed t k l a b one x y = x ∙ sym y
stop_once s NoMemory t k l a b one x y = x ∙ sym y
