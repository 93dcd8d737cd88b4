-- A service keeps the map of memory, and the tables of expanded memory
use Rattle.std.proofs.Common.{◌≡◌, ℕ, ◌+◌, ◌*◌, ◌==◌, Bool, true, false, cond, nat_lt, List, [], ◌∷◌, Option, Some, None, Result, Ok, Err, refl, sym, subst}
use Rattle.dm_space.specs.Memory.{Memory, linear, peek}
use Rattle.dm_space.specs.Places.{IsShaped}
use Rattle.dm_space.proofs.Places.{shaped-same}
use Rattle.dm_ins.specs.declared.operand.ByteRegister.TheVariants.{Al, Dl, Ah}
use Rattle.dm_arena.specs.declared.refusal.ArenaRefusal.{ArenaRefusal}
use Rattle.dm_arena.specs.declared.fit.Strategy.{Strategy}
use Rattle.dm_cpu.specs.declared.cpu.Cpu.{Cpu}
use Rattle.dm_cpu.specs.Cpu.{byte_of}
use Rattle.dm_space.specs.declared.entry_points.Service.{Service}
use Rattle.dm_space.specs.declared.entry_points.Service.TheVariants as service
use Rattle.dm_space.specs.declared.entry_points.Service.TheVariants.{DivideError, Dos}
use Rattle.dm_services.specs.declared.functions.Function.{Function}
use Rattle.dm_services.specs.declared.functions.Function.TheVariants.{EchoCharacter, WriteCharacter, DirectCharacter, DirectInput, ReadCharacter, WriteText, ReadLine, CheckInput, FlushAndRead, SetVector, Version, Keep, GetVector, ReadHandle, WriteHandle, Allocate, Free, Resize, LoadProgram, Exit, ExitCode, Process, AllocationStrategy, Terminate, Unknown}
use Rattle.dm_services.specs.state.State.{State, Answer, interrupt_returned}
use Rattle.dm_services.specs.Text.{print}
use Rattle.dm_services.specs.Characters.{character_of, read_character, echo_of, echo_character, write_character, poll_of, poll_character, direct_character, check_input}
use Rattle.dm_services.specs.Lines.{line_length, line_read, line_into, read_line}
use Rattle.dm_services.specs.Handles.{bad_handle, waits, read_handle, write_handle}
use Rattle.dm_services.specs.Vectors.{set_vector, get_vector}
use Rattle.dm_services.specs.System.{tell_version, tell_process}
use Rattle.dm_services.specs.Allocation.{allocated, settled}
use Rattle.dm_services.specs.declared.strategies.StrategyFunction.{StrategyFunction}
use Rattle.dm_services.specs.declared.strategies.StrategyFunction.TheVariants.{TellStrategy, SetStrategy, TellLink, SetLink, Unknown as NoSubfunction}
use Rattle.dm_services.specs.Strategies as strategies
use Rattle.dm_services.specs.Strategies.{TellsLink, link_told, SetsLink, StrategyCalls, strategy_of, set_to, wanted}
use Rattle.dm_proc.specs.declared.refusal.ExecRefusal.{ExecRefusal}
use Rattle.dm_proc.specs.declared.refusal.ArenaDestroyed.{ArenaDestroyed}
use Rattle.dm_proc.specs.declared.parent.Ending.{Ending}
use Rattle.dm_proc.specs.declared.parent.Ending.TheVariants as ending
use Rattle.dm_proc.specs.Processes.{Processes}
use Rattle.dm_services.specs.Processes.{executed, overlaid, LoadingAs, concluded, Terminating, StayingResident, tell_code}
use Rattle.dm_services.specs.Functions.{function_of, flush_and_read, no_function, Calls}
use Rattle.dm_services.specs.Services.{Serves}
use Rattle.dm_services.specs.inner.Laws.{ServicesKeepTheMap, ServicesKeepTheTables}
use Rattle.dm_services.proofs.Reading.{by_function}
use Rattle.dm_services.proofs.MapParts.{word-kept, bytes-kept, return-kept, allocates-kept, frees-kept, resizes-kept, links-kept, executes-kept, overlays-kept, terminates-kept, keeps-kept}

-- the answer's memory has the map of the state's, and its tables are the state's
abbrev Kept : State → Answer → Type 0
Kept s x = IsShaped s.memory x.state.memory × (x.state.ems ≡ s.ems) × (x.state.xms ≡ s.xms)

-- memory as it was
fixed : (s : State) → IsShaped s.memory s.memory × (s.ems ≡ s.ems) × (s.xms ≡ s.xms)
fixed s = (shaped-same s.memory, refl, refl)

-- back in the program, with memory as it was
still : (s : State) (c : Cpu) → IsShaped s.memory (interrupt_returned (record s { cpu = c })).memory × (s.ems ≡ s.ems) ×
    (s.xms ≡ s.xms)
still s c = (return-kept s.memory c s.memory (shaped-same s.memory), refl, refl)

choice-kept : (s : State) (b : Bool) (x y : Answer) → Kept s x → Kept s y → Kept s (cond b x y)
choice-kept s true x y h g = h
choice-kept s false x y h g = g

character-kept : (s : State) (xs : List ℕ) → Kept s (character_of s xs)
character-kept s [] = fixed s
character-kept s (x ∷ xs) = still s _

read_character-kept : (s : State) → Kept s (read_character s)
unfolding read_character
read_character-kept s = character-kept s s.console.input

echo-kept : (s : State) (xs : List ℕ) → Kept s (echo_of s xs)
echo-kept s [] = fixed s
echo-kept s (x ∷ xs) = still s _

echo_character-kept : (s : State) → Kept s (echo_character s)
unfolding echo_character
echo_character-kept s = echo-kept s s.console.input

write_character-kept : (s : State) → Kept s (write_character s)
unfolding write_character
write_character-kept s = still s _

poll-kept : (s : State) (xs : List ℕ) → Kept s (poll_of s xs)
poll-kept s [] = still s _
poll-kept s (x ∷ xs) = still s _

poll_character-kept : (s : State) → Kept s (poll_character s)
unfolding poll_character
poll_character-kept s = poll-kept s s.console.input

direct_character-kept : (s : State) → Kept s (direct_character s)
unfolding direct_character
direct_character-kept s = choice-kept s (byte_of s.cpu Dl == 0xFF) _ _ (poll_character-kept s) (write_character-kept s)

check_input-kept : (s : State) → Kept s (check_input s)
unfolding check_input
check_input-kept s = still s _

line-kept : (s : State) (m : ℕ) (o : Option ℕ) → Kept s (line_read s m o)
line-kept s m None = fixed s
line-kept s m (Some n) = (
  return-kept s.memory _ _ (bytes-kept s.memory _ _ _ _ (bytes-kept s.memory s.memory _ _ _
      (shaped-same s.memory))),
  refl,
  refl,
)

line_into-kept : (s : State) (m : ℕ) → Kept s (line_into s m)
line_into-kept s m = choice-kept s (m == 0) _ _ (still s _) (line-kept s m (line_length s.console.input))

read_line-kept : (s : State) → Kept s (read_line s)
unfolding read_line
read_line-kept s = line_into-kept s (peek s.memory (linear s.memory.a20 s.cpu.ds s.cpu.dx))

flush_and_read-kept : (s : State) → Kept s (flush_and_read s)
unfolding flush_and_read
flush_and_read-kept s = by_function (λ g. Kept s (g s)) (echo_character-kept s) (direct_character-kept s)
    (read_character-kept s) (read_line-kept s) (still s _) (function_of (byte_of s.cpu Al))

bad_handle-kept : (s : State) → Kept s (bad_handle s)
unfolding bad_handle
bad_handle-kept s = still s _

read_handle-kept : (s : State) → Kept s (read_handle s)
unfolding read_handle
read_handle-kept s =
    choice-kept s (nat_lt s.cpu.bx 3) _ _
    (choice-kept s (waits s) _ _ (fixed s) (
      return-kept s.memory _ _ (bytes-kept s.memory s.memory _ _ _
          (shaped-same s.memory)),
      refl,
      refl,
    )) (bad_handle-kept s)

write_handle-kept : (s : State) → Kept s (write_handle s)
unfolding write_handle
write_handle-kept s = choice-kept s (nat_lt s.cpu.bx 3) _ _ (still s _) (bad_handle-kept s)

set_vector-kept : (s : State) → Kept s (set_vector s)
unfolding set_vector
set_vector-kept s =
    let n = 4 * byte_of s.cpu Al in (
      return-kept s.memory _ _ (word-kept s.memory _ 0 (n + 2) s.cpu.ds (word-kept s.memory s.memory 0 n s.cpu.dx
          (shaped-same s.memory))),
      refl,
      refl,
    )

get_vector-kept : (s : State) → Kept s (get_vector s)
unfolding get_vector
get_vector-kept s = still s _

tell_version-kept : (s : State) → Kept s (tell_version s)
unfolding tell_version
tell_version-kept s = still s _

tell_process-kept : (s : State) → Kept s (tell_process s)
unfolding tell_process
tell_process-kept s = still s _

print-kept : (s : State) → Kept s (print s)
unfolding print
print-kept s = still s _

no_function-kept : (s : State) → Kept s (no_function s)
unfolding no_function
no_function-kept s = still s _

tell_code-kept : (s : State) → Kept s (tell_code s)
unfolding tell_code
tell_code-kept s = still s _

-- ---- blocks

allocated-kept : (s : State) (r : Result ℕ ArenaRefusal) (m : Memory) → IsShaped s.memory m → Kept s (allocated s r m)
allocated-kept s (Ok segment) m h = (return-kept s.memory _ m h, refl, refl)
allocated-kept s (Err e) m h = (return-kept s.memory _ m h, refl, refl)

settled-kept : (s : State) (r : Result (Unit {0}) ArenaRefusal) (m : Memory) → IsShaped s.memory m →
    Kept s (settled s r m)
settled-kept s (Ok u) m h = (return-kept s.memory _ m h, refl, refl)
settled-kept s (Err e) m h = (return-kept s.memory _ m h, refl, refl)

set_to-kept : (s : State) (o : Option Strategy) → Kept s (set_to s o)
set_to-kept s None = still s _
set_to-kept s (Some strategy) = still s _

link_told-kept : (s : State) (r : Result Bool ArenaRefusal) → Kept s (link_told s r)
link_told-kept s (Ok on) = still s _
link_told-kept s (Err e) = still s _

-- ---- programs

executed-kept : (s : State) (r : Result (Unit {0}) ExecRefusal) (qs : Processes) (d : Cpu) (n : Memory) →
    IsShaped s.memory n → Kept s (executed s r qs d n)
executed-kept s (Ok x) qs d n h = (h, refl, refl)
executed-kept s (Err e) qs d n h = still s _

overlaid-kept : (s : State) (r : Result (Unit {0}) ExecRefusal) (n : Memory) → IsShaped s.memory n →
    Kept s (overlaid s r n)
overlaid-kept s (Ok x) n h = (return-kept s.memory _ n h, refl, refl)
overlaid-kept s (Err e) n h = still s _

concluded-kept : (s : State) (code : ℕ) (r : Result Ending ArenaDestroyed) (qs : Processes) (d : Cpu) (n : Memory) →
    IsShaped s.memory n → Kept s (concluded s code r qs d n)
concluded-kept s code (Ok ending.Returned) qs d n h = (h, refl, refl)
concluded-kept s code (Ok ending.Exited) qs d n h = (h, refl, refl)
concluded-kept s code (Err e) qs d n h = fixed s

by : (s : State) (x y : Answer) → x ≡ y → Kept s y → Kept s x
by s x y e h = subst (λ z. Kept s z) (sym e) h

loading-kept : (s : State) (action : Bool) (x : Answer) → LoadingAs action s x → Kept s x
loading-kept s true x a = by s x _ a.answer (overlaid-kept s a.result a.memory
    (overlays-kept s.cpu s.memory s.programs a.result a.memory a.overlays))
loading-kept s false x a =
    by s x _ a.answer
    (executed-kept s a.result a.processes a.cpu a.memory
    (executes-kept s.upper s.processes s.cpu s.memory s.programs s.strategy a.result a.processes a.cpu a.memory
    a.executes))

terminating-kept : (s : State) (code : ℕ) (x : Answer) → Terminating s code x → Kept s x
terminating-kept s code x a =
    by s x _ a.answer
    (concluded-kept s code a.result a.processes a.cpu a.memory
    (terminates-kept s.upper s.processes s.cpu s.memory code a.result a.processes a.cpu a.memory a.terminates))

keeping-kept : (s : State) (x : Answer) → StayingResident s x → Kept s x
keeping-kept s x a =
    by s x _ a.answer
    (concluded-kept s (byte_of s.cpu Al) a.result a.processes a.cpu a.memory
    (keeps-kept s.upper s.processes s.cpu s.memory (byte_of s.cpu Al) s.cpu.dx a.result a.processes a.cpu a.memory
    a.stays))

-- ---- all calls

tells-kept : (s : State) (upper : Bool) (x : Answer) → TellsLink upper s x → Kept s x
tells-kept s false x e = by s x _ e (link_told-kept s (Ok false))
tells-kept s true x a = by s x _ a.answer (link_told-kept s a.result)

sets-kept : (s : State) (o : Option Bool) (x : Answer) → SetsLink o s x → Kept s x
sets-kept s None x e = by s x _ e (still s _)
sets-kept s (Some on) x a = by s x _ a.answer (settled-kept s a.result a.memory
    (links-kept s.memory on a.result a.memory a.links))

strategy-kept : (s : State) (f : StrategyFunction) (x : Answer) → StrategyCalls s f x → Kept s x
strategy-kept s TellStrategy x e = by s x _ e (still s _)
strategy-kept s SetStrategy x e = by s x _ e (set_to-kept s (strategy_of s.upper s.cpu.bx))
strategy-kept s TellLink x a = tells-kept s s.upper x a
strategy-kept s SetLink x a = sets-kept s (wanted s.upper s.cpu.bx) x a
strategy-kept s NoSubfunction x e = by s x _ e (still s _)

calls-kept : (s : State) (g : Function) (x : Answer) → Calls s g x → Kept s x
calls-kept s EchoCharacter x e = by s x _ e (echo_character-kept s)
calls-kept s WriteCharacter x e = by s x _ e (write_character-kept s)
calls-kept s DirectCharacter x e = by s x _ e (direct_character-kept s)
calls-kept s DirectInput x e = by s x _ e (read_character-kept s)
calls-kept s ReadCharacter x e = by s x _ e (read_character-kept s)
calls-kept s WriteText x e = by s x _ e (print-kept s)
calls-kept s ReadLine x e = by s x _ e (read_line-kept s)
calls-kept s CheckInput x e = by s x _ e (check_input-kept s)
calls-kept s FlushAndRead x e = by s x _ e (flush_and_read-kept s)
calls-kept s SetVector x e = by s x _ e (set_vector-kept s)
calls-kept s Version x e = by s x _ e (tell_version-kept s)
calls-kept s GetVector x e = by s x _ e (get_vector-kept s)
calls-kept s ReadHandle x e = by s x _ e (read_handle-kept s)
calls-kept s WriteHandle x e = by s x _ e (write_handle-kept s)
calls-kept s Allocate x a = by s x _ a.answer (allocated-kept s a.result a.memory
    (allocates-kept s.upper s.memory s.strategy s.cpu.bx s.processes.present a.result a.memory a.allocates))
calls-kept s Free x a = by s x _ a.answer (settled-kept s a.result a.memory
    (frees-kept s.upper s.memory s.cpu.es a.result a.memory a.frees))
calls-kept s Resize x a = by s x _ a.answer (settled-kept s a.result a.memory
    (resizes-kept s.upper s.memory s.cpu.es s.cpu.bx a.result a.memory a.resizes))
calls-kept s LoadProgram x a = loading-kept s _ x a
calls-kept s Exit x a = terminating-kept s _ x a
calls-kept s Keep x a = keeping-kept s x a
calls-kept s Terminate x a = terminating-kept s 0 x a
calls-kept s ExitCode x e = by s x _ e (tell_code-kept s)
calls-kept s Process x e = by s x _ e (tell_process-kept s)
calls-kept s AllocationStrategy x e = strategy-kept s (strategies.subfunction_of (byte_of s.cpu Al)) x e
calls-kept s Unknown x e = by s x _ e (no_function-kept s)

served-kept : (s : State) (service : Service) (x : Answer) → Serves s service x → Kept s x
served-kept s DivideError x a = terminating-kept s 0xFF x a
served-kept s service.Terminate x a = terminating-kept s 0 x a
served-kept s Dos x h = calls-kept s (function_of (byte_of s.cpu Ah)) x h

pub serves-kept : ServicesKeepTheMap
serves-kept s service x h = (served-kept s service x h).0

pub tables-kept : ServicesKeepTheTables
tables-kept s service x h = let k = served-kept s service x h in (k.1, k.2)
