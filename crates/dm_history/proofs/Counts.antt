-- What a step does to the count of steps and to the code with which the program ended.
use Rattle.std.proofs.Common.{◌≡◌, ℕ, ◌+◌, ◌-◌, ◌^◌, ◌==◌, min, Bool, true, false, cond, nat_lt, List, [], ◌∷◌, Option, Some, None, Result, Ok, Err, refl, sym, ap, subst}
use Rattle.dm_space.specs.Memory.{Memory, linear, peek}
use Rattle.dm_ins.specs.declared.operand.ByteRegister.TheVariants.{Al, Ah}
use Rattle.dm_arena.specs.declared.refusal.ArenaRefusal.{ArenaRefusal}
use Rattle.dm_arena.specs.declared.fit.Strategy.{Strategy}
use Rattle.dm_cpu.specs.declared.cpu.Cpu.{Cpu}
use Rattle.dm_cpu.specs.Cpu.{byte_of}
use Rattle.dm_cpu.specs.Guest.{Guest, guest}
use Rattle.dm_exec.specs.declared.effect.Next.{Next}
use Rattle.dm_exec.specs.declared.effect.Next.TheVariants.{Go, Halt}
use Rattle.dm_exec.specs.Effect.{effect, next_of}
use Rattle.dm_proc.specs.declared.refusal.ExecRefusal.{ExecRefusal}
use Rattle.dm_proc.specs.declared.refusal.ArenaDestroyed.{ArenaDestroyed}
use Rattle.dm_proc.specs.declared.parent.Ending.{Ending}
use Rattle.dm_proc.specs.declared.parent.Ending.TheVariants as ending
use Rattle.dm_proc.specs.Processes.{Processes}
use Rattle.dm_space.specs.declared.entry_points.EntryPoint.{EntryPoint}
use Rattle.dm_space.specs.declared.entry_points.EntryPoint.TheVariants as entry_point
use Rattle.dm_space.specs.declared.entry_points.Driver.TheVariants.{ExpandedMemory, Multiplex, ExtendedMemory}
use Rattle.dm_space.specs.declared.entry_points.Service.{Service}
use Rattle.dm_space.specs.declared.entry_points.Service.TheVariants as service
use Rattle.dm_space.specs.declared.entry_points.Service.TheVariants.{DivideError, Dos}
use Rattle.dm_space.specs.EntryPoints.{entry_point_at}
use Rattle.dm_services.specs.declared.state.stop.Stop.{Stop}
use Rattle.dm_services.specs.declared.state.stop.Stop.TheVariants.{Exited, Halted, Unlisted, InputEnded, Destroyed, Steps as AllSteps}
use Rattle.dm_services.specs.state.State.{State, Answer, go, stop_at}
use Rattle.dm_services.specs.Text.{print}
use Rattle.dm_services.specs.Characters.{character_of, read_character, echo_of, echo_character, write_character, poll_of, poll_character, direct_character, check_input}
use Rattle.dm_services.specs.Lines.{line_length, line_read, line_into, read_line}
use Rattle.dm_services.specs.Handles.{bad_handle, waits, read_handle, write_handle}
use Rattle.dm_services.specs.Vectors.{set_vector, get_vector}
use Rattle.dm_services.specs.System.{tell_version, tell_process}
use Rattle.dm_services.specs.Allocation.{allocated, settled}
use Rattle.dm_services.specs.declared.strategies.StrategyFunction.{StrategyFunction}
use Rattle.dm_services.specs.declared.strategies.StrategyFunction.TheVariants as subfunction
use Rattle.dm_services.specs.Strategies.{TellsLink, link_told, SetsLink, StrategyCalls, strategy_of, set_to, wanted}
use Rattle.dm_services.specs.Processes.{executed, overlaid, LoadingAs, concluded, Terminating, StayingResident, tell_code}
use Rattle.dm_services.specs.declared.functions.Function.{Function}
use Rattle.dm_services.specs.declared.functions.Function.TheVariants as function
use Rattle.dm_services.specs.Functions.{function_of, flush_and_read, no_function, Calls}
use Rattle.dm_services.specs.Services.{Serves}
use Rattle.dm_services.proofs.Reading.{by_function}
use Rattle.dm_machine.specs.Step.{MakesStep, ActsUnlessEnded, Acts, Instructs, listed, unlisted, after}

-- the count one higher; at 2^64 - 1 it stays
abbrev pub counted : ℕ → ℕ
counted n = min (n + 1) (2 ^ 64 - 1)

-- a stop that is neither the end of the program nor the last of some steps
abbrev pub IsEarly : Stop → Type 0
IsEarly AllSteps = ⊥
IsEarly (Exited code) = ⊥
IsEarly _ = Unit {0}

-- the result x of a step from s goes on, ends the program, comes after its end, or stops before the step
pub data Counts (s : State) (x : Answer) : Type 0 where
  goes : x.stop ≡ None → x.state.steps ≡ counted s.steps → x.state.exited ≡ s.exited → Counts s x
  ends : (code : ℕ) → x.stop ≡ Some (Exited code) → x.state.steps ≡ counted s.steps → x.state.exited ≡ Some code →
      Counts s x
  over : (code : ℕ) → s.exited ≡ Some code → x ≡ stop_at (Exited code) s → Counts s x
  stays : (stop : Stop) → IsEarly stop → x ≡ stop_at stop s → Counts s x

-- a step that is counted, from a state with as many steps
on : (s r : State) → r.steps ≡ s.steps → r.exited ≡ s.exited → Counts s (go r)
on s r e f = goes refl (ap counted e) f

input_ended : (s : State) → Counts s (stop_at InputEnded s)
input_ended s = stays InputEnded tt refl

choice-counts : (s : State) (b : Bool) (x y : Answer) → Counts s x → Counts s y → Counts s (cond b x y)
choice-counts s true x y h g = h
choice-counts s false x y h g = g

character-counts : (s : State) (xs : List ℕ) → Counts s (character_of s xs)
character-counts s [] = input_ended s
character-counts s (x ∷ xs) = on s _ refl refl

read_character-counts : (s : State) → Counts s (read_character s)
unfolding read_character
read_character-counts s = character-counts s s.console.input

echo-counts : (s : State) (xs : List ℕ) → Counts s (echo_of s xs)
echo-counts s [] = input_ended s
echo-counts s (x ∷ xs) = on s _ refl refl

echo_character-counts : (s : State) → Counts s (echo_character s)
unfolding echo_character
echo_character-counts s = echo-counts s s.console.input

write_character-counts : (s : State) → Counts s (write_character s)
unfolding write_character
write_character-counts s = on s _ refl refl

poll-counts : (s : State) (xs : List ℕ) → Counts s (poll_of s xs)
poll-counts s [] = on s _ refl refl
poll-counts s (x ∷ xs) = on s _ refl refl

poll_character-counts : (s : State) → Counts s (poll_character s)
unfolding poll_character
poll_character-counts s = poll-counts s s.console.input

direct_character-counts : (s : State) → Counts s (direct_character s)
unfolding direct_character
direct_character-counts s = choice-counts s _ _ _ (poll_character-counts s) (write_character-counts s)

check_input-counts : (s : State) → Counts s (check_input s)
unfolding check_input
check_input-counts s = on s _ refl refl

line-counts : (s : State) (m : ℕ) (o : Option ℕ) → Counts s (line_read s m o)
line-counts s m None = input_ended s
line-counts s m (Some n) = on s _ refl refl

line_into-counts : (s : State) (m : ℕ) → Counts s (line_into s m)
line_into-counts s m = choice-counts s (m == 0) _ _ (on s _ refl refl) (line-counts s m (line_length s.console.input))

read_line-counts : (s : State) → Counts s (read_line s)
unfolding read_line
read_line-counts s = line_into-counts s (peek s.memory (linear s.memory.a20 s.cpu.ds s.cpu.dx))

flush_and_read-counts : (s : State) → Counts s (flush_and_read s)
unfolding flush_and_read
flush_and_read-counts s = by_function (λ g. Counts s (g s)) (echo_character-counts s) (direct_character-counts s)
    (read_character-counts s) (read_line-counts s) (on s _ refl refl) (function_of (byte_of s.cpu Al))

bad_handle-counts : (s : State) → Counts s (bad_handle s)
unfolding bad_handle
bad_handle-counts s = on s _ refl refl

read_handle-counts : (s : State) → Counts s (read_handle s)
unfolding read_handle
read_handle-counts s =
    choice-counts s (nat_lt s.cpu.bx 3) _ _ (choice-counts s (waits s) _ _ (input_ended s) (on s _ refl refl))
    (bad_handle-counts s)

write_handle-counts : (s : State) → Counts s (write_handle s)
unfolding write_handle
write_handle-counts s = choice-counts s (nat_lt s.cpu.bx 3) _ _ (on s _ refl refl) (bad_handle-counts s)

set_vector-counts : (s : State) → Counts s (set_vector s)
unfolding set_vector
set_vector-counts s = on s _ refl refl

get_vector-counts : (s : State) → Counts s (get_vector s)
unfolding get_vector
get_vector-counts s = on s _ refl refl

tell_version-counts : (s : State) → Counts s (tell_version s)
unfolding tell_version
tell_version-counts s = on s _ refl refl

tell_process-counts : (s : State) → Counts s (tell_process s)
unfolding tell_process
tell_process-counts s = on s _ refl refl

print-counts : (s : State) → Counts s (print s)
unfolding print
print-counts s = on s _ refl refl

allocated-counts : (s : State) (r : Result ℕ ArenaRefusal) (m : Memory) → Counts s (allocated s r m)
allocated-counts s (Ok segment) m = on s _ refl refl
allocated-counts s (Err e) m = on s _ refl refl

settled-counts : (s : State) (r : Result (Unit {0}) ArenaRefusal) (m : Memory) → Counts s (settled s r m)
settled-counts s (Ok x) m = on s _ refl refl
settled-counts s (Err e) m = on s _ refl refl

set_to-counts : (s : State) (o : Option Strategy) → Counts s (set_to s o)
set_to-counts s None = on s _ refl refl
set_to-counts s (Some strategy) = on s _ refl refl

link_told-counts : (s : State) (r : Result Bool ArenaRefusal) → Counts s (link_told s r)
link_told-counts s (Ok b) = on s _ refl refl
link_told-counts s (Err e) = on s _ refl refl

no_function-counts : (s : State) → Counts s (no_function s)
unfolding no_function
no_function-counts s = on s _ refl refl

executed-counts : (s : State) (r : Result (Unit {0}) ExecRefusal) (qs : Processes) (d : Cpu) (n : Memory) →
    Counts s (executed s r qs d n)
executed-counts s (Ok x) qs d n = on s _ refl refl
executed-counts s (Err e) qs d n = on s _ refl refl

overlaid-counts : (s : State) (r : Result (Unit {0}) ExecRefusal) (n : Memory) → Counts s (overlaid s r n)
overlaid-counts s (Ok x) n = on s _ refl refl
overlaid-counts s (Err e) n = on s _ refl refl

concluded-counts : (s : State) (code : ℕ) (r : Result Ending ArenaDestroyed) (qs : Processes) (d : Cpu) (n : Memory) →
    Counts s (concluded s code r qs d n)
concluded-counts s code (Ok ending.Returned) qs d n = on s _ refl refl
concluded-counts s code (Ok ending.Exited) qs d n = ends code refl refl refl
concluded-counts s code (Err e) qs d n = stays Destroyed tt refl

tell_code-counts : (s : State) → Counts s (tell_code s)
unfolding tell_code
tell_code-counts s = on s _ refl refl

by : (s : State) (x y : Answer) → x ≡ y → Counts s y → Counts s x
by s x y e h = subst (λ z. Counts s z) (sym e) h

loading-counts : (s : State) (action : Bool) (x : Answer) → LoadingAs action s x → Counts s x
loading-counts s true x a = by s x _ a.answer (overlaid-counts s a.result a.memory)
loading-counts s false x a = by s x _ a.answer (executed-counts s a.result a.processes a.cpu a.memory)

terminating-counts : (s : State) (code : ℕ) (x : Answer) → Terminating s code x → Counts s x
terminating-counts s code x a = by s x _ a.answer (concluded-counts s code a.result a.processes a.cpu a.memory)

keeping-counts : (s : State) (x : Answer) → StayingResident s x → Counts s x
keeping-counts s x a = by s x _ a.answer (concluded-counts s (byte_of s.cpu Al) a.result a.processes a.cpu a.memory)

tells-count : (s : State) (upper : Bool) (x : Answer) → TellsLink upper s x → Counts s x
tells-count s false x e = by s x _ e (link_told-counts s (Ok false))
tells-count s true x a = by s x _ a.answer (link_told-counts s a.result)

sets-count : (s : State) (o : Option Bool) (x : Answer) → SetsLink o s x → Counts s x
sets-count s None x e = by s x _ e (on s _ refl refl)
sets-count s (Some b) x a = by s x _ a.answer (settled-counts s a.result a.memory)

-- the functions of 58h
strategy-counts : (s : State) (f : StrategyFunction) (x : Answer) → StrategyCalls s f x → Counts s x
strategy-counts s subfunction.TellStrategy x e = by s x _ e (on s _ refl refl)
strategy-counts s subfunction.SetStrategy x e = by s x _ e (set_to-counts s (strategy_of s.upper s.cpu.bx))
strategy-counts s subfunction.TellLink x h = tells-count s s.upper x h
strategy-counts s subfunction.SetLink x h = sets-count s (wanted s.upper s.cpu.bx) x h
strategy-counts s subfunction.Unknown x e = by s x _ e (on s _ refl refl)

-- the functions of INT 21h
calls-count : (s : State) (f : Function) (x : Answer) → Calls s f x → Counts s x
calls-count s function.EchoCharacter x e = by s x _ e (echo_character-counts s)
calls-count s function.WriteCharacter x e = by s x _ e (write_character-counts s)
calls-count s function.DirectCharacter x e = by s x _ e (direct_character-counts s)
calls-count s function.DirectInput x e = by s x _ e (read_character-counts s)
calls-count s function.ReadCharacter x e = by s x _ e (read_character-counts s)
calls-count s function.WriteText x e = by s x _ e (print-counts s)
calls-count s function.ReadLine x e = by s x _ e (read_line-counts s)
calls-count s function.CheckInput x e = by s x _ e (check_input-counts s)
calls-count s function.FlushAndRead x e = by s x _ e (flush_and_read-counts s)
calls-count s function.SetVector x e = by s x _ e (set_vector-counts s)
calls-count s function.Version x e = by s x _ e (tell_version-counts s)
calls-count s function.GetVector x e = by s x _ e (get_vector-counts s)
calls-count s function.ReadHandle x e = by s x _ e (read_handle-counts s)
calls-count s function.WriteHandle x e = by s x _ e (write_handle-counts s)
calls-count s function.Allocate x a = by s x _ a.answer (allocated-counts s a.result a.memory)
calls-count s function.Free x a = by s x _ a.answer (settled-counts s a.result a.memory)
calls-count s function.Resize x a = by s x _ a.answer (settled-counts s a.result a.memory)
calls-count s function.LoadProgram x a = loading-counts s _ x a
calls-count s function.Exit x a = terminating-counts s _ x a
calls-count s function.Keep x a = keeping-counts s x a
calls-count s function.Terminate x a = terminating-counts s 0 x a
calls-count s function.ExitCode x e = by s x _ e (tell_code-counts s)
calls-count s function.Process x e = by s x _ e (tell_process-counts s)
calls-count s function.AllocationStrategy x h = strategy-counts s _ x h
calls-count s function.Unknown x e = by s x _ e (no_function-counts s)

serves-count : (s : State) (service : Service) (x : Answer) → Serves s service x → Counts s x
serves-count s DivideError x a = terminating-counts s 0xFF x a
serves-count s service.Terminate x a = terminating-counts s 0 x a
serves-count s Dos x h = calls-count s (function_of (byte_of s.cpu Ah)) x h

after-counts : (s : State) (n : Next) (g : Guest) → Counts s (after s n g)
after-counts s Go g = on s _ refl refl
after-counts s Halt g = stays Halted tt refl

instructs-count : (s : State) (x : Answer) → Instructs s x → Counts s x
instructs-count s x (listed i k b e) = by s x _ e (after-counts s (next_of i.action.mnemonic)
    (effect (guest s.cpu s.memory) i k))
instructs-count s x (unlisted h e) = by s x _ e (stays Unlisted tt refl)

acts-count : (s : State) (o : Option EntryPoint) (x : Answer) → Acts s o x → Counts s x
acts-count s (Some (entry_point.Service service)) x h = serves-count s service x h
acts-count s (Some (entry_point.Driver ExpandedMemory)) x e = by s x _ e (on s _ refl refl)
acts-count s (Some (entry_point.Driver Multiplex)) x e = by s x _ e (on s _ refl refl)
acts-count s (Some (entry_point.Driver ExtendedMemory)) x e = by s x _ e (on s _ refl refl)
acts-count s None x h = instructs-count s x h

runs-count : (s : State) (o : Option ℕ) (x : Answer) → s.exited ≡ o → ActsUnlessEnded s o x → Counts s x
runs-count s (Some code) x e h = over code e h
runs-count s None x e h = acts-count s (entry_point_at s.cpu.cs s.cpu.ip) x h

pub steps-count : (s : State) (x : Answer) → MakesStep s x → Counts s x
unfolding MakesStep
steps-count s x h = runs-count s s.exited x refl h

-- once the program has ended, a step returns its code again
pub ended-stays : (s : State) (code : ℕ) (x : Answer) → s.exited ≡ Some code → MakesStep s x →
    x ≡ stop_at (Exited code) s
unfolding MakesStep
ended-stays s code x e h = subst (λ o. ActsUnlessEnded s o x) e h

pub ended-step : (s : State) (code : ℕ) → s.exited ≡ Some code → MakesStep s (stop_at (Exited code) s)
unfolding MakesStep
ended-step s code e = subst (λ o. ActsUnlessEnded s o (stop_at (Exited code) s)) (sym e) refl
