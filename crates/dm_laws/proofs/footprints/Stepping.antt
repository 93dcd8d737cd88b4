-- A step by an instruction depends on what is fetched and read.
use Rattle.std.proofs.Common.{◌≡◌, ℕ, Option, None, refl, sym, subst, ap, ◌∙◌}
use Rattle.dm_space.specs.EntryPoints.{entry_point_at}
use Rattle.dm_space.specs.declared.entry_points.EntryPoint.{EntryPoint}
use Rattle.dm_ins.specs.declared.ins.Ins.{Ins}
use Rattle.dm_ins.specs.Ins.{BeginsWith}
use Rattle.dm_cpu.specs.declared.cpu.Cpu.{Cpu}
use Rattle.dm_services.specs.state.State.{State}
use Rattle.dm_machine.specs.Step.{fetched, instructed, Acts, ActsUnlessEnded, Instructs, MakesStep}
use Rattle.dm_laws.specs.footprints.Steps.{guest_of, StepsDependOnReads}
use Rattle.dm_laws.proofs.footprints.Depending.{effects_depend}
use Rattle.dm_laws.proofs.footprints.Running.{same_instruction}

-- a step by the instruction at CS:IP
instructed_step : (t : State) (i : Ins) (length : ℕ) → entry_point_at t.cpu.cs t.cpu.ip ≡ None → t.exited ≡ None →
    BeginsWith (fetched t.memory t.cpu) i length → MakesStep t (instructed t i length)
unfolding MakesStep
instructed_step t i length e x b =
    let F : Option EntryPoint → Type 0 = λ o. Acts t o (instructed t i length) in
    let G : Option ℕ → Type 0 = λ o. ActsUnlessEnded t o (instructed t i length) in
    subst G (sym x) (subst F (sym e) (Instructs.listed i length b refl))

pub steps_depend : StepsDependOnReads
steps_depend s t i length e x b a o =
    let C : Cpu → Type 0 = λ c. BeginsWith (fetched t.memory c) i length in
    let begins = subst C (sym a.registers) (same_instruction s.memory t.memory s.cpu i length o b) in
    let there : entry_point_at t.cpu.cs t.cpu.ip ≡ None = ap (λ (c : Cpu). entry_point_at c.cs c.ip) a.registers ∙ e in
    (instructed_step t i length there x begins, effects_depend (guest_of s) (guest_of t) i length a)
