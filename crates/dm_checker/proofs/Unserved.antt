-- Calls of functions of INT 21h that are not served.
use Rattle.std.proofs.Common.{◌≡◌, ℕ, Bool, true, false, [], ◌∷◌, Option, Some, None, refl, ◌∙◌, ap, subst}
use Rattle.std.specs.Prelude.{◌/◌, if◌then◌else◌}
use Rattle.dm_ins.specs.declared.operand.ByteRegister.TheVariants.{Ah, Al}
use Rattle.dm_cpu.specs.declared.cpu.Cpu.{Cpu}
use Rattle.dm_cpu.specs.Cpu.{byte_of}
use Rattle.dm_cpu.specs.Stack.{interrupt_return}
use Rattle.dm_space.specs.declared.entry_points.Service.TheVariants as service
use Rattle.dm_space.specs.declared.entry_points.Driver.TheVariants as driver
use Rattle.dm_space.specs.declared.entry_points.EntryPoint.{EntryPoint}
use Rattle.dm_space.specs.declared.entry_points.EntryPoint.TheVariants as entry_point
use Rattle.dm_space.specs.EntryPoints.{entry_point_at}
use Rattle.dm_services.specs.state.State.{State, Answer}
use Rattle.dm_services.specs.declared.functions.Function.{Function}
use Rattle.dm_services.specs.declared.functions.Function.TheVariants.{Unknown}
use Rattle.dm_services.specs.Functions.{function_of, no_function, Calls}
use Rattle.dm_machine.specs.Step.{MakesStep, ActsUnlessEnded, Acts}
use Rattle.dm_findings.specs.declared.calls.Call.{Call}
use Rattle.dm_findings.specs.declared.calls.Call.TheVariants.{Dos, Interrupt}
use Rattle.dm_findings.specs.declared.finding.Finding.TheVariants.{Refused}
use Rattle.dm_findings.specs.Calls.{is_bare_return, call_at, call_of}
use Rattle.dm_origins.specs.outcomes.Calls.{may_be_refused, refused_by_dos, call_findings}
use Rattle.dm_checker.specs.Laws.{UnservedCallsAreFound}
use Rattle.dm_checker.proofs.Reading.{still_running}

unknown : (s : State) (x : Answer) (n : ℕ) → function_of n ≡ Unknown → Calls s (function_of n) x → x ≡ no_function s
unknown s x n none h = subst (λ f. Calls s f x) none h

-- ---- the call

record Called (c : Cpu) (n : ℕ) (o : Option EntryPoint) : Type 0 where
  entry : o ≡ Some (entry_point.Service service.Dos)
  number : byte_of c Ah ≡ n

not_bare : (c : Cpu) (n : ℕ) (b : Bool) → (if b then Some (Interrupt (c.ip / 4)) else None) ≡ Some (Dos n) → ⊥
not_bare c n true e = cc
not_bare c n false e = cc

called : (c : Cpu) (n : ℕ) (o : Option EntryPoint) → call_at c o ≡ Some (Dos n) → Called c n o
called c n (Some (entry_point.Service service.DivideError)) e = absurd (cc)
called c n (Some (entry_point.Service service.Terminate)) e = absurd (cc)
called c n (Some (entry_point.Service service.Dos)) e = record { entry = refl; number = cc }
called c n (Some (entry_point.Driver driver.ExpandedMemory)) e = absurd (cc)
called c n (Some (entry_point.Driver driver.Multiplex)) e = absurd (cc)
called c n (Some (entry_point.Driver driver.ExtendedMemory)) e = absurd (cc)
called c n None e = absurd (not_bare c n (is_bare_return c.cs c.ip) e)

called_at : (s : State) (n : ℕ) → call_of s.cpu ≡ Some (Dos n) → Called s.cpu n (entry_point_at s.cpu.cs s.cpu.ip)
unfolding call_of
called_at s n e = called s.cpu n (entry_point_at s.cpu.cs s.cpu.ip) e

answers : (s t : State) (n : ℕ) → call_of s.cpu ≡ Some (Dos n) → function_of n ≡ Unknown →
    MakesStep s (record { stop = None; state = t }) → record { stop = None; state = t } ≡ no_function s
unfolding MakesStep
answers s t n e none h =
    let k = called_at s n e in
    let x : Answer = record { stop = None; state = t } in
    let acts : Acts s (entry_point_at s.cpu.cs s.cpu.ip) x =
    subst (λ (o : Option ℕ). ActsUnlessEnded s o x) (still_running s t h) h in
    let calls : Calls s (function_of (byte_of s.cpu Ah)) x =
    subst (λ (o : Option EntryPoint). Acts s o x) k.entry acts in
    unknown s x n none (subst (λ (m : ℕ). Calls s (function_of m) x) k.number calls)

-- ---- what is found of it

record Fails (c : Cpu) : Type 0 where
  carry : c.flags.carry ≡ true
  code : byte_of c Al ≡ 1

fails : (s t : State) → record { stop = None; state = t } ≡ no_function s → Fails t.cpu
unfolding no_function byte_of interrupt_return
fails s t e =
    let same : t.cpu ≡ (no_function s).state.cpu = ap (λ (x : Answer). x.state.cpu) e in
    record { carry = ap (λ (c : Cpu). c.flags.carry) same; code = ap (λ (c : Cpu). byte_of c Al) same }

refused : (c d : Cpu) → Fails d → (if may_be_refused Unknown then refused_by_dos c d Unknown else []) ≡ Refused 1 ∷ []
unfolding byte_of
refused c d f = rw (f.carry, f.code) refl

pub unserved_found : UnservedCallsAreFound
unserved_found s t n e none h =
    ap (λ (k : Option Call). call_findings s.cpu t.cpu k) e ∙
    ap (λ (f : Function). if may_be_refused f then refused_by_dos s.cpu t.cpu f else []) none ∙
    refused s.cpu t.cpu (fails s t (answers s t n e none h))
