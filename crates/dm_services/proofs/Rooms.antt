-- A service gives back no room
use Rattle.std.proofs.Common.{◌≡◌, ℕ, ◌≤◌, ◌==◌, Bool, true, false, cond, nat_lt, List, [], ◌∷◌, Option, Some, None, Result, Ok, Err, sym, subst, arith}
use Rattle.std.proofs.lemmas.List.{length-append}
use Rattle.dm_space.specs.Memory.{Memory, linear, peek}
use Rattle.dm_proc.specs.Writes.{bytes_from}
use Rattle.dm_ins.specs.declared.operand.ByteRegister.TheVariants.{Al, Dl, Ah}
use Rattle.dm_arena.specs.declared.refusal.ArenaRefusal.{ArenaRefusal}
use Rattle.dm_arena.specs.declared.fit.Strategy.{Strategy}
use Rattle.dm_console.specs.Streams.{Streams}
use Rattle.dm_cpu.specs.declared.cpu.Cpu.{Cpu}
use Rattle.dm_cpu.specs.Cpu.{byte_of}
use Rattle.dm_space.specs.declared.entry_points.Service.{Service}
use Rattle.dm_space.specs.declared.entry_points.Service.TheVariants as service
use Rattle.dm_space.specs.declared.entry_points.Service.TheVariants.{DivideError, Dos}
use Rattle.dm_services.specs.declared.functions.Function.{Function}
use Rattle.dm_services.specs.declared.functions.Function.TheVariants.{EchoCharacter, WriteCharacter, DirectCharacter, DirectInput, ReadCharacter, WriteText, ReadLine, CheckInput, FlushAndRead, SetVector, Version, Keep, GetVector, ReadHandle, WriteHandle, Allocate, Free, Resize, LoadProgram, Exit, ExitCode, Process, AllocationStrategy, Terminate, Unknown}
use Rattle.dm_services.specs.state.State.{State, Answer}
use Rattle.dm_services.specs.Text.{written, text_at, print}
use Rattle.dm_services.specs.Characters.{character_of, read_character, echo_of, echo_character, write_character, poll_of, poll_character, direct_character, check_input}
use Rattle.dm_services.specs.Lines.{line_length, line_read, line_into, read_line}
use Rattle.dm_services.specs.Handles.{bad_handle, waits, read_handle, write_handle}
use Rattle.dm_services.specs.Vectors.{set_vector, get_vector}
use Rattle.dm_services.specs.System.{tell_version, tell_process}
use Rattle.dm_services.specs.Allocation.{allocated, settled}
use Rattle.dm_services.specs.declared.strategies.StrategyFunction.{StrategyFunction}
use Rattle.dm_services.specs.declared.strategies.StrategyFunction.TheVariants.{TellStrategy, SetStrategy, TellLink, SetLink, Unknown as NoSubfunction}
use Rattle.dm_services.specs.Strategies as strategies
use Rattle.dm_services.specs.Strategies.{TellsLink, link_told, SetsLink, StrategyCalls, strategy_of, set_to, wanted}
use Rattle.dm_proc.specs.declared.refusal.ExecRefusal.{ExecRefusal}
use Rattle.dm_proc.specs.declared.refusal.ArenaDestroyed.{ArenaDestroyed}
use Rattle.dm_proc.specs.declared.parent.Ending.{Ending}
use Rattle.dm_proc.specs.declared.parent.Ending.TheVariants as ending
use Rattle.dm_proc.specs.Processes.{Processes}
use Rattle.dm_services.specs.Processes.{executed, overlaid, LoadingAs, concluded, Terminating, StayingResident, tell_code}
use Rattle.dm_services.specs.Functions.{function_of, flush_and_read, no_function, Calls}
use Rattle.dm_services.specs.Services.{Serves}
use Rattle.dm_services.specs.inner.Laws.{limit}
use Rattle.dm_services.proofs.Reading.{by_function}

abbrev pub Keeps : State → Answer → Type 0
Keeps s x = limit s.console ≤ limit x.state.console

pub same : (n : ℕ) → n ≤ n
same n = omega arith

written-keeps : (c : Streams) (bytes : List ℕ) → limit c ≤ limit (written c bytes)
written-keeps c bytes = let long = length-append c.output bytes in omega (arith, long)

choice-keeps : (s : State) (b : Bool) (x y : Answer) → Keeps s x → Keeps s y → Keeps s (cond b x y)
choice-keeps s true x y h g = h
choice-keeps s false x y h g = g

character-keeps : (s : State) (xs : List ℕ) → Keeps s (character_of s xs)
character-keeps s [] = same _
character-keeps s (x ∷ xs) = same _

read_character-keeps : (s : State) → Keeps s (read_character s)
unfolding read_character
read_character-keeps s = character-keeps s s.console.input

echo-keeps : (s : State) (xs : List ℕ) → Keeps s (echo_of s xs)
echo-keeps s [] = same _
echo-keeps s (x ∷ xs) = written-keeps (record s.console { input = xs }) (x ∷ [])

echo_character-keeps : (s : State) → Keeps s (echo_character s)
unfolding echo_character
echo_character-keeps s = echo-keeps s s.console.input

write_character-keeps : (s : State) → Keeps s (write_character s)
unfolding write_character
write_character-keeps s = written-keeps s.console (byte_of s.cpu Dl ∷ [])

poll-keeps : (s : State) (xs : List ℕ) → Keeps s (poll_of s xs)
poll-keeps s [] = same _
poll-keeps s (x ∷ xs) = same _

poll_character-keeps : (s : State) → Keeps s (poll_character s)
unfolding poll_character
poll_character-keeps s = poll-keeps s s.console.input

direct_character-keeps : (s : State) → Keeps s (direct_character s)
unfolding direct_character
direct_character-keeps s = choice-keeps s (byte_of s.cpu Dl == 0xFF) _ _ (poll_character-keeps s)
    (write_character-keeps s)

check_input-keeps : (s : State) → Keeps s (check_input s)
unfolding check_input
check_input-keeps s = same _

line-keeps : (s : State) (m : ℕ) (o : Option ℕ) → Keeps s (line_read s m o)
line-keeps s m None = same _
line-keeps s m (Some n) = same _

line_into-keeps : (s : State) (m : ℕ) → Keeps s (line_into s m)
line_into-keeps s m = choice-keeps s (m == 0) _ _ (same _) (line-keeps s m (line_length s.console.input))

read_line-keeps : (s : State) → Keeps s (read_line s)
unfolding read_line
read_line-keeps s = line_into-keeps s (peek s.memory (linear s.memory.a20 s.cpu.ds s.cpu.dx))

flush_and_read-keeps : (s : State) → Keeps s (flush_and_read s)
unfolding flush_and_read
flush_and_read-keeps s = by_function (λ g. Keeps s (g s)) (echo_character-keeps s) (direct_character-keeps s)
    (read_character-keeps s) (read_line-keeps s) (same _) (function_of (byte_of s.cpu Al))

bad_handle-keeps : (s : State) → Keeps s (bad_handle s)
unfolding bad_handle
bad_handle-keeps s = same _

read_handle-keeps : (s : State) → Keeps s (read_handle s)
unfolding read_handle
read_handle-keeps s = choice-keeps s (nat_lt s.cpu.bx 3) _ _ (choice-keeps s (waits s) _ _ (same _) (same _))
    (bad_handle-keeps s)

write_handle-keeps : (s : State) → Keeps s (write_handle s)
unfolding write_handle
write_handle-keeps s = choice-keeps s (nat_lt s.cpu.bx 3) _ _ (written-keeps s.console
    (bytes_from s.memory s.cpu.ds s.cpu.dx s.cpu.cx)) (bad_handle-keeps s)

set_vector-keeps : (s : State) → Keeps s (set_vector s)
unfolding set_vector
set_vector-keeps s = same _

get_vector-keeps : (s : State) → Keeps s (get_vector s)
unfolding get_vector
get_vector-keeps s = same _

tell_version-keeps : (s : State) → Keeps s (tell_version s)
unfolding tell_version
tell_version-keeps s = same _

tell_process-keeps : (s : State) → Keeps s (tell_process s)
unfolding tell_process
tell_process-keeps s = same _

print-keeps : (s : State) → Keeps s (print s)
unfolding print
print-keeps s = written-keeps s.console (text_at s.memory s.cpu.ds s.cpu.dx)

allocated-keeps : (s : State) (r : Result ℕ ArenaRefusal) (m : Memory) → Keeps s (allocated s r m)
allocated-keeps s (Ok segment) m = same _
allocated-keeps s (Err e) m = same _

settled-keeps : (s : State) (r : Result (Unit {0}) ArenaRefusal) (m : Memory) → Keeps s (settled s r m)
settled-keeps s (Ok x) m = same _
settled-keeps s (Err e) m = same _

set_to-keeps : (s : State) (o : Option Strategy) → Keeps s (set_to s o)
set_to-keeps s None = same _
set_to-keeps s (Some strategy) = same _

link_told-keeps : (s : State) (r : Result Bool ArenaRefusal) → Keeps s (link_told s r)
link_told-keeps s (Ok on) = same _
link_told-keeps s (Err e) = same _

no_function-keeps : (s : State) → Keeps s (no_function s)
unfolding no_function
no_function-keeps s = same _

executed-keeps : (s : State) (r : Result (Unit {0}) ExecRefusal) (qs : Processes) (d : Cpu) (n : Memory) →
    Keeps s (executed s r qs d n)
executed-keeps s (Ok x) qs d n = same _
executed-keeps s (Err e) qs d n = same _

overlaid-keeps : (s : State) (r : Result (Unit {0}) ExecRefusal) (n : Memory) → Keeps s (overlaid s r n)
overlaid-keeps s (Ok x) n = same _
overlaid-keeps s (Err e) n = same _

concluded-keeps : (s : State) (code : ℕ) (r : Result Ending ArenaDestroyed) (qs : Processes) (d : Cpu) (n : Memory) →
    Keeps s (concluded s code r qs d n)
concluded-keeps s code (Ok ending.Returned) qs d n = same _
concluded-keeps s code (Ok ending.Exited) qs d n = same _
concluded-keeps s code (Err e) qs d n = same _

tell_code-keeps : (s : State) → Keeps s (tell_code s)
unfolding tell_code
tell_code-keeps s = same _

pub by : (s : State) (x y : Answer) → x ≡ y → Keeps s y → Keeps s x
by s x y e h = subst (λ z. Keeps s z) (sym e) h

loading-keeps : (s : State) (action : Bool) (x : Answer) → LoadingAs action s x → Keeps s x
loading-keeps s true x a = by s x _ a.answer (overlaid-keeps s a.result a.memory)
loading-keeps s false x a = by s x _ a.answer (executed-keeps s a.result a.processes a.cpu a.memory)

terminating-keeps : (s : State) (code : ℕ) (x : Answer) → Terminating s code x → Keeps s x
terminating-keeps s code x a = by s x _ a.answer (concluded-keeps s code a.result a.processes a.cpu a.memory)

keeping-keeps : (s : State) (x : Answer) → StayingResident s x → Keeps s x
keeping-keeps s x a = by s x _ a.answer (concluded-keeps s (byte_of s.cpu Al) a.result a.processes a.cpu a.memory)

tells-keep : (s : State) (upper : Bool) (x : Answer) → TellsLink upper s x → Keeps s x
tells-keep s false x e = by s x _ e (link_told-keeps s (Ok false))
tells-keep s true x a = by s x _ a.answer (link_told-keeps s a.result)

sets-keep : (s : State) (o : Option Bool) (x : Answer) → SetsLink o s x → Keeps s x
sets-keep s None x e = by s x _ e (same _)
sets-keep s (Some on) x a = by s x _ a.answer (settled-keeps s a.result a.memory)

strategy-keeps : (s : State) (f : StrategyFunction) (x : Answer) → StrategyCalls s f x → Keeps s x
strategy-keeps s TellStrategy x e = by s x _ e (same _)
strategy-keeps s SetStrategy x e = by s x _ e (set_to-keeps s (strategy_of s.upper s.cpu.bx))
strategy-keeps s TellLink x a = tells-keep s s.upper x a
strategy-keeps s SetLink x a = sets-keep s (wanted s.upper s.cpu.bx) x a
strategy-keeps s NoSubfunction x e = by s x _ e (same _)

calls-keep : (s : State) (g : Function) (x : Answer) → Calls s g x → Keeps s x
calls-keep s EchoCharacter x e = by s x _ e (echo_character-keeps s)
calls-keep s WriteCharacter x e = by s x _ e (write_character-keeps s)
calls-keep s DirectCharacter x e = by s x _ e (direct_character-keeps s)
calls-keep s DirectInput x e = by s x _ e (read_character-keeps s)
calls-keep s ReadCharacter x e = by s x _ e (read_character-keeps s)
calls-keep s WriteText x e = by s x _ e (print-keeps s)
calls-keep s ReadLine x e = by s x _ e (read_line-keeps s)
calls-keep s CheckInput x e = by s x _ e (check_input-keeps s)
calls-keep s FlushAndRead x e = by s x _ e (flush_and_read-keeps s)
calls-keep s SetVector x e = by s x _ e (set_vector-keeps s)
calls-keep s Version x e = by s x _ e (tell_version-keeps s)
calls-keep s GetVector x e = by s x _ e (get_vector-keeps s)
calls-keep s ReadHandle x e = by s x _ e (read_handle-keeps s)
calls-keep s WriteHandle x e = by s x _ e (write_handle-keeps s)
calls-keep s Allocate x a = by s x _ a.answer (allocated-keeps s a.result a.memory)
calls-keep s Free x a = by s x _ a.answer (settled-keeps s a.result a.memory)
calls-keep s Resize x a = by s x _ a.answer (settled-keeps s a.result a.memory)
calls-keep s LoadProgram x a = loading-keeps s _ x a
calls-keep s Exit x a = terminating-keeps s _ x a
calls-keep s Keep x a = keeping-keeps s x a
calls-keep s Terminate x a = terminating-keeps s 0 x a
calls-keep s ExitCode x e = by s x _ e (tell_code-keeps s)
calls-keep s Process x e = by s x _ e (tell_process-keeps s)
calls-keep s AllocationStrategy x e = strategy-keeps s (strategies.subfunction_of (byte_of s.cpu Al)) x e
calls-keep s Unknown x e = by s x _ e (no_function-keeps s)

pub serves-keep : (s : State) (service : Service) (x : Answer) → Serves s service x → Keeps s x
serves-keep s DivideError x a = terminating-keeps s 0xFF x a
serves-keep s service.Terminate x a = terminating-keeps s 0 x a
serves-keep s Dos x h = calls-keep s (function_of (byte_of s.cpu Ah)) x h
