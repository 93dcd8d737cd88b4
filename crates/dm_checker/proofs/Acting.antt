-- What acts in a step, by what it started from.
use Rattle.std.proofs.Common.{◌≡◌, ℕ, List, Option, Some, None, refl, sym, ◌∙◌, ap, subst}
use Rattle.dm_ins.specs.declared.ins.Ins.{Ins}
use Rattle.dm_decode.specs.Decoded.{Decodes}
use Rattle.dm_cpu.specs.declared.cpu.Cpu.{Cpu}
use Rattle.dm_cpu.specs.Guest.{Guest, guest, up}
use Rattle.dm_exec.specs.declared.effect.Next.{Next}
use Rattle.dm_exec.specs.declared.effect.Next.TheVariants.{Go, Halt}
use Rattle.dm_exec.specs.Effect.{effect, next_of}
use Rattle.dm_services.specs.declared.state.stop.Stop.TheVariants.{Exited, Halted, Unlisted}
use Rattle.dm_services.specs.state.State.{State, Answer}
use Rattle.dm_space.specs.declared.entry_points.EntryPoint.{EntryPoint}
use Rattle.dm_space.specs.declared.entry_points.EntryPoint.TheVariants as entry_point
use Rattle.dm_space.specs.EntryPoints.{entry_point_at}
use Rattle.dm_machine.specs.Step.{MakesStep, ActsUnlessEnded, Acts, Instructs, listed, unlisted, fetched, after}
use Rattle.dm_ins.specs.Ins.{BeginsWith}
use Rattle.dm_machine.specs.Run.{Answers}
use Rattle.dm_findings.specs.declared.calls.Call.{Call}
use Rattle.dm_findings.specs.declared.finding.Act.TheVariants as act
use Rattle.dm_findings.specs.Calls.{call_at, call_of}
use Rattle.dm_checker.specs.declared.acts.Before.{Before}
use Rattle.dm_checker.specs.Findings.{IsAct, called, instructed}
use Rattle.dm_checker.specs.inner.Steps.{IsBefore, IsUnlisted, IsNextAct, an_instruction, no_instruction}

pub call_acts : (b : Before) (call : Call) → b.call ≡ Some call → (s : State) → IsBefore s b → IsAct s (act.Call call)
call_acts b call e s h = called call (sym h.call ∙ e) refl

begins : (bytes : List ℕ) (o : Option (Ins × ℕ)) (i : Ins) (k : ℕ) → Decodes bytes o → o ≡ Some (i, k) →
    BeginsWith bytes i k
begins bytes o i k d e = let both = (d i k).0 e in record { short = both.0; spells = both.1 }

pub instruction_acts : (b : Before) (o : Option (Ins × ℕ)) (i : Ins) (k behind : ℕ) → b.call ≡ None →
    Decodes b.bytes o → o ≡ Some (i, k) → behind ≡ up b.cpu.ip k → (s : State) → IsBefore s b →
    IsAct s (act.Instruction i behind)
instruction_acts b o i k behind none d e is s h =
    let F : List ℕ → Type 0 = λ bytes. BeginsWith bytes i k in
    instructed i k (sym h.call ∙ none) (subst F (h.bytes none) (begins b.bytes o i k d e))
    (ap (λ (n : ℕ). act.Instruction i n) (is ∙ ap (λ (c : Cpu). up c.ip k) h.cpu))

pub some_none : {A : Type 0} (a : A) → Some a ≡ None → ⊥
some_none a e = cc

pub nothing_acts : (b : Before) (o : Option (Ins × ℕ)) → b.call ≡ None → Decodes b.bytes o → o ≡ None → (s : State) →
    IsBefore s b → IsUnlisted s
nothing_acts b o none d e s h = record {
  call = sym h.call ∙ none;
  none = λ i k x. (let F : List ℕ → Type 0 = λ bytes. BeginsWith bytes i k in
      let y : BeginsWith b.bytes i k = subst F (sym (h.bytes none)) x in
      some_none (i, k) (sym ((d i k).1 (y.short, y.spells)) ∙ e));
}

-- ---- the instruction that comes next

pub called_next : (b : Before) (call : Call) → b.call ≡ Some call → (s : State) → IsBefore s b → IsNextAct s None
called_next b call e s h = no_instruction (λ i k none x. some_none call (sym e ∙ h.call ∙ none))

pub decoded_next : (b : Before) (o : Option (Ins × ℕ)) → b.call ≡ None → Decodes b.bytes o → (s : State) →
    IsBefore s b → IsNextAct s o
decoded_next b None none d s h = no_instruction (λ i k e x. (let F : List ℕ → Type 0 = λ bytes. BeginsWith bytes i k in
    let y : BeginsWith b.bytes i k = subst F (sym (h.bytes none)) x in
    some_none (i, k) (sym ((d i k).1 (y.short, y.spells)))))
decoded_next b (Some (i, k)) none d s h =
    let F : List ℕ → Type 0 = λ bytes. BeginsWith bytes i k in
    an_instruction i k (sym h.call ∙ none) (subst F (h.bytes none) (begins b.bytes (Some (i, k)) i k d refl))

-- ---- steps in which nothing acts

-- an answer that comes where no call is served
uncalled : (s : State) (x : Answer) (o : Option EntryPoint) → call_at s.cpu o ≡ None → Acts s o x → Instructs s x
uncalled s x (Some (entry_point.Service service)) none h = absurd (some_none _ none)
uncalled s x (Some (entry_point.Driver driver)) none h = absurd (some_none _ none)
uncalled s x None none h = h

pub uncalled_acts : (s : State) (x : Answer) → call_of s.cpu ≡ None → Acts s (entry_point_at s.cpu.cs s.cpu.ip) x →
    Instructs s x
unfolding call_of
uncalled_acts s x none h = uncalled s x (entry_point_at s.cpu.cs s.cpu.ip) none h

unlisted_acts : (s t : State) → ((i : Ins) (k : ℕ) → BeginsWith (fetched s.memory s.cpu) i k → ⊥) →
    Instructs s (record { stop = None; state = t }) → ⊥
unlisted_acts s t none (listed i k b e) = none i k b
unlisted_acts s t none (unlisted f e) = (let stop : None ≡ Some Unlisted = ap (λ (x : Answer). x.stop) e in cc)

unlisted_runs : (s t : State) (o : Option ℕ) → IsUnlisted s → ActsUnlessEnded s o (record { stop = None; state = t }) →
    ⊥
unlisted_runs s t (Some code) u e = (let stop : None ≡ Some (Exited code) = ap (λ (x : Answer). x.stop) e in cc)
unlisted_runs s t None u h = unlisted_acts s t u.none (uncalled_acts s _ u.call h)

-- a step that was made began with a call or an instruction
pub unlisted_stops : (s t : State) → IsUnlisted s → Answers s None t → ⊥
unfolding MakesStep
unlisted_stops s t u h = unlisted_runs s t s.exited u h

-- ---- exits without a call

exits_none : (s t : State) (n : Next) (g : Guest) (code : ℕ) → record { stop = Some (Exited code); state = t }
    ≡ after s n g → ⊥
exits_none s t Go g code e = (let stop : Some (Exited code) ≡ None = ap (λ (x : Answer). x.stop) e in cc)
exits_none s t Halt g code e = (let stop : Some (Exited code) ≡ Some Halted = ap (λ (x : Answer). x.stop) e in cc)

instructs_none : (s t : State) (code : ℕ) → Instructs s (record { stop = Some (Exited code); state = t }) → ⊥
instructs_none s t code (listed i k b e) = exits_none s t (next_of i.action.mnemonic)
    (effect (guest s.cpu s.memory) i k) code e
instructs_none s t code (unlisted f e) = (let stop : Some (Exited code) ≡ Some Unlisted =
    ap (λ (x : Answer). x.stop) e in cc)

exits_over : (s t : State) (code : ℕ) (o : Option ℕ) → call_of s.cpu ≡ None →
    ActsUnlessEnded s o (record { stop = Some (Exited code); state = t }) → t ≡ s
exits_over s t code (Some other) none e = ap (λ (x : Answer). x.state) e
exits_over s t code None none h = absurd (instructs_none s t code (uncalled_acts s _ none h))

over_before : (s t : State) (code : ℕ) (o : Option ℕ) → call_of s.cpu ≡ None →
    ActsUnlessEnded s o (record { stop = Some (Exited code); state = t }) → (other : ℕ) × (o ≡ Some other)
over_before s t code (Some other) none e = (other, refl)
over_before s t code None none h = absurd (instructs_none s t code (uncalled_acts s _ none h))

pub had_ended : (s t : State) (code : ℕ) → call_of s.cpu ≡ None → Answers s (Some (Exited code)) t → (other : ℕ) ×
    (s.exited ≡ Some other)
unfolding MakesStep
had_ended s t code none h = over_before s t code s.exited none h

-- the program had ended before
pub exit_changes_nothing : (s t : State) (code : ℕ) → call_of s.cpu ≡ None → Answers s (Some (Exited code)) t → t ≡ s
unfolding MakesStep
exit_changes_nothing s t code none h = exits_over s t code s.exited none h
