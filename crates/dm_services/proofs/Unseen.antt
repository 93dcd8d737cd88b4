-- Services, in memory that is changed out of sight
use Rattle.std.proofs.Common.{◌≡◌, ℕ, Bool, true, false, Option, Some, None, Result, Ok, Err, refl, sym, ◌∙◌, ap}
use Rattle.dm_space.specs.Memory.{Memory}
use Rattle.dm_space.specs.Unseen.{IsUnseen}
use Rattle.dm_ins.specs.declared.operand.ByteRegister.TheVariants.{Al, Ah}
use Rattle.dm_cpu.specs.declared.cpu.Cpu.{Cpu}
use Rattle.dm_cpu.specs.Cpu.{byte_of}
use Rattle.dm_space.specs.declared.entry_points.Service.{Service}
use Rattle.dm_space.specs.declared.entry_points.Service.TheVariants as service
use Rattle.dm_space.specs.declared.entry_points.Service.TheVariants.{DivideError, Dos}
use Rattle.dm_services.specs.declared.functions.Function.{Function}
use Rattle.dm_services.specs.declared.functions.Function.TheVariants.{EchoCharacter, WriteCharacter, DirectCharacter, DirectInput, ReadCharacter, WriteText, ReadLine, CheckInput, FlushAndRead, SetVector, Version, Keep, GetVector, ReadHandle, WriteHandle, Allocate, Free, Resize, LoadProgram, Exit, ExitCode, Process, AllocationStrategy, Terminate, Unknown}
use Rattle.dm_arena.specs.declared.fit.Strategy.{Strategy}
use Rattle.dm_arena.specs.declared.refusal.ArenaRefusal.{ArenaRefusal}
use Rattle.dm_arena.proofs.Unseen.{allocation-unseen, freeing-unseen, resizing-unseen, linking-unseen, telling-unseen}
use Rattle.dm_services.specs.state.State.{State, Answer}
use Rattle.dm_services.specs.Text.{text_within, print}
use Rattle.dm_services.specs.Allocation.{answered, allocated, settled}
use Rattle.dm_services.specs.declared.strategies.StrategyFunction.{StrategyFunction}
use Rattle.dm_services.specs.declared.strategies.StrategyFunction.TheVariants.{TellStrategy, SetStrategy, TellLink, SetLink, Unknown as NoSubfunction}
use Rattle.dm_services.specs.Strategies as strategies
use Rattle.dm_services.specs.Strategies.{TellingLink, TellsLink, link_told, Linking, SetsLink, StrategyCalls, strategy_of, set_to, wanted}
use Rattle.dm_proc.specs.declared.refusal.ExecRefusal.{ExecRefusal}
use Rattle.dm_proc.specs.declared.refusal.ArenaDestroyed.{ArenaDestroyed}
use Rattle.dm_proc.specs.declared.parent.Ending.{Ending}
use Rattle.dm_proc.specs.declared.parent.Ending.TheVariants.{Returned, Exited}
use Rattle.dm_proc.specs.Processes.{Processes}
use Rattle.dm_proc.proofs.Unseen.{ignores_unseen}
use Rattle.dm_services.specs.Processes.{not_loaded, executed, overlaid, LoadingAs, concluded, Terminating, StayingResident, tell_code}
use Rattle.dm_services.specs.Functions.{function_of, no_function, Calls}
use Rattle.dm_services.specs.Services.{Serves}
use Rattle.dm_services.specs.Laws.{with_change}
use Rattle.dm_services.specs.inner.Laws.{answer_with}
use Rattle.dm_services.proofs.UnseenParts.{bytes_from-unseen, return-parts}
use Rattle.dm_services.proofs.ConsoleUnseen.{read_character-unseen, echo_character-unseen, write_character-unseen, direct_character-unseen, check_input-unseen, read_line-unseen, flush_and_read-unseen, read_handle-unseen, write_handle-unseen, set_vector-unseen, get_vector-unseen, tell_version-unseen, tell_process-unseen}

text-unseen : (f : Memory → Memory) (u : IsUnseen f) (m : Memory) (s o n : ℕ) →
    text_within (f m) s o n ≡ text_within m s o n
unfolding text_within
text-unseen f u m s o n = rw (bytes_from-unseen f u m s o n) refl

print-unseen : (f : Memory → Memory) (u : IsUnseen f) (s : State) → print (with_change f s) ≡ answer_with f (print s)
unfolding print
print-unseen f u s = simp (text-unseen f u, return-parts f u)

no_function-unseen : (f : Memory → Memory) (u : IsUnseen f) (s : State) → no_function (with_change f s)
    ≡ answer_with f (no_function s)
unfolding no_function
no_function-unseen f u s = simp (return-parts f u)

-- the answers of the calls that allocate
answered-unseen : (f : Memory → Memory) (u : IsUnseen f) (s : State) (c : Cpu) (m : Memory) (b : Bool) →
    answered (with_change f s) c (f m) b ≡ answer_with f (answered s c m b)
answered-unseen f u s c m b = simp (return-parts f u)

allocated-unseen : (f : Memory → Memory) (u : IsUnseen f) (s : State) (r : Result ℕ ArenaRefusal) (m : Memory) →
    allocated (with_change f s) r (f m) ≡ answer_with f (allocated s r m)
allocated-unseen f u s (Ok segment) m = answered-unseen f u s _ m false
allocated-unseen f u s (Err e) m = answered-unseen f u s _ m true

settled-unseen : (f : Memory → Memory) (u : IsUnseen f) (s : State) (r : Result (Unit {0}) ArenaRefusal) (m : Memory) →
    settled (with_change f s) r (f m) ≡ answer_with f (settled s r m)
settled-unseen f u s (Ok x) m = answered-unseen f u s _ m false
settled-unseen f u s (Err e) m = answered-unseen f u s _ m true

set_to-unseen : (f : Memory → Memory) (u : IsUnseen f) (s : State) (o : Option Strategy) →
    set_to (with_change f s) o ≡ answer_with f (set_to s o)
set_to-unseen f u s None = answered-unseen f u s _ s.memory true
set_to-unseen f u s (Some strategy) = answered-unseen f u (record s { strategy = strategy }) s.cpu s.memory false

link_told-unseen : (f : Memory → Memory) (u : IsUnseen f) (s : State) (r : Result Bool ArenaRefusal) →
    link_told (with_change f s) r ≡ answer_with f (link_told s r)
link_told-unseen f u s (Ok on) = answered-unseen f u s _ s.memory false
link_told-unseen f u s (Err e) = answered-unseen f u s _ s.memory true

telling_link-unseen : (f : Memory → Memory) (u : IsUnseen f) (s : State) (x : Answer) → TellingLink s x →
    TellingLink (with_change f s) (answer_with f x)
telling_link-unseen f u s x a = record {
  result = a.result;
  tells = telling-unseen f u s.memory a.result a.tells;
  answer = ap (answer_with f) a.answer ∙ sym (link_told-unseen f u s a.result);
}

tells-unseen : (f : Memory → Memory) (u : IsUnseen f) (s : State) (upper : Bool) (x : Answer) → TellsLink upper s x →
    TellsLink upper (with_change f s) (answer_with f x)
tells-unseen f u s false x e = ap (answer_with f) e ∙ sym (link_told-unseen f u s (Ok false))
tells-unseen f u s true x a = telling_link-unseen f u s x a

linking-unseen-call : (f : Memory → Memory) (u : IsUnseen f) (s : State) (on : Bool) (x : Answer) → Linking on s x →
    Linking on (with_change f s) (answer_with f x)
linking-unseen-call f u s on x a = record {
  result = a.result;
  memory = f a.memory;
  links = linking-unseen f u s.memory a.memory on a.result a.links;
  answer = ap (answer_with f) a.answer ∙ sym (settled-unseen f u s a.result a.memory);
}

sets-unseen : (f : Memory → Memory) (u : IsUnseen f) (s : State) (o : Option Bool) (x : Answer) → SetsLink o s x →
    SetsLink o (with_change f s) (answer_with f x)
sets-unseen f u s None x e = ap (answer_with f) e ∙ sym (answered-unseen f u s _ s.memory true)
sets-unseen f u s (Some on) x a = linking-unseen-call f u s on x a

strategy-unseen : (f : Memory → Memory) (u : IsUnseen f) (s : State) (g : StrategyFunction) (x : Answer) →
    StrategyCalls s g x → StrategyCalls (with_change f s) g (answer_with f x)
strategy-unseen f u s TellStrategy x e = ap (answer_with f) e ∙ sym (answered-unseen f u s _ s.memory false)
strategy-unseen f u s SetStrategy x e = ap (answer_with f) e ∙ sym (set_to-unseen f u s (strategy_of s.upper s.cpu.bx))
strategy-unseen f u s TellLink x a = tells-unseen f u s s.upper x a
strategy-unseen f u s SetLink x a = sets-unseen f u s (wanted s.upper s.cpu.bx) x a
strategy-unseen f u s NoSubfunction x e = ap (answer_with f) e ∙ sym (answered-unseen f u s _ s.memory true)

not_loaded-unseen : (f : Memory → Memory) (u : IsUnseen f) (s : State) (e : ExecRefusal) →
    not_loaded (with_change f s) e ≡ answer_with f (not_loaded s e)
not_loaded-unseen f u s e = answered-unseen f u s _ s.memory true

executed-unseen : (f : Memory → Memory) (u : IsUnseen f) (s : State) (r : Result (Unit {0}) ExecRefusal)
    (qs : Processes) (d : Cpu) (n : Memory) →
    executed (with_change f s) r qs d (f n) ≡ answer_with f (executed s r qs d n)
executed-unseen f u s (Ok x) qs d n = refl
executed-unseen f u s (Err e) qs d n = not_loaded-unseen f u s e

overlaid-unseen : (f : Memory → Memory) (u : IsUnseen f) (s : State) (r : Result (Unit {0}) ExecRefusal) (n : Memory) →
    overlaid (with_change f s) r (f n) ≡ answer_with f (overlaid s r n)
overlaid-unseen f u s (Ok x) n = answered-unseen f u s _ n false
overlaid-unseen f u s (Err e) n = not_loaded-unseen f u s e

loading-unseen : (f : Memory → Memory) (u : IsUnseen f) (s : State) (action : Bool) (x : Answer) →
    LoadingAs action s x → LoadingAs action (with_change f s) (answer_with f x)
loading-unseen f u s true x a = record {
  result = a.result;
  memory = f a.memory;
  overlays = (ignores_unseen f u).overlay s.cpu s.memory s.programs a.result a.memory a.overlays;
  answer = ap (answer_with f) a.answer ∙ sym (overlaid-unseen f u s a.result a.memory);
}
loading-unseen f u s false x a = record {
  result = a.result;
  processes = a.processes;
  cpu = a.cpu;
  memory = f a.memory;
  executes = (ignores_unseen f u).starting s.upper s.processes s.cpu s.memory s.programs s.strategy a.result a.processes
      a.cpu a.memory a.executes;
  answer = ap (answer_with f) a.answer ∙ sym (executed-unseen f u s a.result a.processes a.cpu a.memory);
}

concluded-unseen : (f : Memory → Memory) (s : State) (code : ℕ) (r : Result Ending ArenaDestroyed) (qs : Processes)
    (d : Cpu) (n : Memory) →
    concluded (with_change f s) code r qs d (f n) ≡ answer_with f (concluded s code r qs d n)
concluded-unseen f s code (Ok Returned) qs d n = refl
concluded-unseen f s code (Ok Exited) qs d n = refl
concluded-unseen f s code (Err e) qs d n = refl

terminating-unseen : (f : Memory → Memory) (u : IsUnseen f) (s : State) (code : ℕ) (x : Answer) → Terminating s code x →
    Terminating (with_change f s) code (answer_with f x)
terminating-unseen f u s code x a = record {
  result = a.result;
  processes = a.processes;
  cpu = a.cpu;
  memory = f a.memory;
  terminates = (ignores_unseen f u).terminating s.upper s.processes s.cpu s.memory code a.result a.processes a.cpu
      a.memory a.terminates;
  answer = ap (answer_with f) a.answer ∙ sym (concluded-unseen f s code a.result a.processes a.cpu a.memory);
}

keeping-unseen : (f : Memory → Memory) (u : IsUnseen f) (s : State) (x : Answer) → StayingResident s x →
    StayingResident (with_change f s) (answer_with f x)
keeping-unseen f u s x a = record {
  result = a.result;
  processes = a.processes;
  cpu = a.cpu;
  memory = f a.memory;
  stays = (ignores_unseen f u).staying s.upper s.processes s.cpu s.memory (byte_of s.cpu Al) s.cpu.dx a.result
      a.processes a.cpu a.memory a.stays;
  answer = ap (answer_with f) a.answer ∙ sym (concluded-unseen f s (byte_of s.cpu Al) a.result a.processes a.cpu
      a.memory);
}

tell_code-unseen : (f : Memory → Memory) (u : IsUnseen f) (s : State) → tell_code (with_change f s)
    ≡ answer_with f (tell_code s)
unfolding tell_code
tell_code-unseen f u s = simp (return-parts f u)

calls-unseen : (f : Memory → Memory) (u : IsUnseen f) (s : State) (g : Function) (x : Answer) → Calls s g x →
    Calls (with_change f s) g (answer_with f x)
calls-unseen f u s EchoCharacter x e = ap (answer_with f) e ∙ sym (echo_character-unseen f u s)
calls-unseen f u s WriteCharacter x e = ap (answer_with f) e ∙ sym (write_character-unseen f u s)
calls-unseen f u s DirectCharacter x e = ap (answer_with f) e ∙ sym (direct_character-unseen f u s)
calls-unseen f u s DirectInput x e = ap (answer_with f) e ∙ sym (read_character-unseen f u s)
calls-unseen f u s ReadCharacter x e = ap (answer_with f) e ∙ sym (read_character-unseen f u s)
calls-unseen f u s WriteText x e = ap (answer_with f) e ∙ sym (print-unseen f u s)
calls-unseen f u s ReadLine x e = ap (answer_with f) e ∙ sym (read_line-unseen f u s)
calls-unseen f u s CheckInput x e = ap (answer_with f) e ∙ sym (check_input-unseen f u s)
calls-unseen f u s FlushAndRead x e = ap (answer_with f) e ∙ sym (flush_and_read-unseen f u s)
calls-unseen f u s SetVector x e = ap (answer_with f) e ∙ sym (set_vector-unseen f u s)
calls-unseen f u s Version x e = ap (answer_with f) e ∙ sym (tell_version-unseen f u s)
calls-unseen f u s GetVector x e = ap (answer_with f) e ∙ sym (get_vector-unseen f u s)
calls-unseen f u s ReadHandle x e = ap (answer_with f) e ∙ sym (read_handle-unseen f u s)
calls-unseen f u s WriteHandle x e = ap (answer_with f) e ∙ sym (write_handle-unseen f u s)
calls-unseen f u s Process x e = ap (answer_with f) e ∙ sym (tell_process-unseen f u s)
calls-unseen f u s Allocate x a = record {
  result = a.result;
  memory = f a.memory;
  allocates = allocation-unseen s.upper f u s.memory a.memory s.strategy s.cpu.bx s.processes.present a.result
      a.allocates;
  answer = ap (answer_with f) a.answer ∙ sym (allocated-unseen f u s a.result a.memory);
}
calls-unseen f u s Free x a = record {
  result = a.result;
  memory = f a.memory;
  frees = freeing-unseen s.upper f u s.memory a.memory s.cpu.es a.result a.frees;
  answer = ap (answer_with f) a.answer ∙ sym (settled-unseen f u s a.result a.memory);
}
calls-unseen f u s Resize x a = record {
  result = a.result;
  memory = f a.memory;
  resizes = resizing-unseen s.upper f u s.memory a.memory s.cpu.es s.cpu.bx a.result a.resizes;
  answer = ap (answer_with f) a.answer ∙ sym (settled-unseen f u s a.result a.memory);
}
calls-unseen f u s AllocationStrategy x e = strategy-unseen f u s (strategies.subfunction_of (byte_of s.cpu Al)) x e
calls-unseen f u s Terminate x a = terminating-unseen f u s 0 x a
calls-unseen f u s LoadProgram x a = loading-unseen f u s _ x a
calls-unseen f u s Exit x a = terminating-unseen f u s _ x a
calls-unseen f u s Keep x a = keeping-unseen f u s x a
calls-unseen f u s ExitCode x e = ap (answer_with f) e ∙ sym (tell_code-unseen f u s)
calls-unseen f u s Unknown x e = ap (answer_with f) e ∙ sym (no_function-unseen f u s)

pub serves-unseen : (f : Memory → Memory) (u : IsUnseen f) (s : State) (service : Service) (x : Answer) →
    Serves s service x → Serves (with_change f s) service (answer_with f x)
serves-unseen f u s DivideError x a = terminating-unseen f u s 0xFF x a
serves-unseen f u s service.Terminate x a = terminating-unseen f u s 0 x a
serves-unseen f u s Dos x h = calls-unseen f u s (function_of (byte_of s.cpu Ah)) x h
