-- Steps and runs with more input after that of the state.
use Rattle.std.proofs.Common.{◌≡◌, ℕ, ◌+◌, Bool, true, false, List, [], ◌++◌, Option, Some, None, Result, Ok, Err, refl, sym, ◌∙◌, ap, subst, arith}
use Rattle.std.specs.Prelude.{if◌then◌else◌}
use Rattle.std.specs.List.{concat}
use Rattle.std.proofs.lemmas.List.{append_assoc}
use Rattle.dm_space.specs.Memory.{Memory}
use Rattle.dm_space.specs.declared.entry_points.Driver.{Driver}
use Rattle.dm_space.specs.declared.entry_points.Driver.TheVariants.{ExpandedMemory, Multiplex, ExtendedMemory}
use Rattle.dm_space.specs.declared.entry_points.EntryPoint.{EntryPoint}
use Rattle.dm_space.specs.declared.entry_points.EntryPoint.TheVariants as entry_point
use Rattle.dm_space.specs.declared.entry_points.Service.TheVariants as service
use Rattle.dm_space.specs.EntryPoints.{entry_point_at}
use Rattle.dm_cpu.specs.declared.cpu.Cpu.{Cpu}
use Rattle.dm_cpu.specs.Cpu.{byte_of}
use Rattle.dm_cpu.specs.Guest.{Guest, guest}
use Rattle.dm_ins.specs.declared.operand.ByteRegister.TheVariants.{Ah, Al}
use Rattle.dm_exec.specs.declared.effect.Next.{Next}
use Rattle.dm_exec.specs.declared.effect.Next.TheVariants.{Go, Halt}
use Rattle.dm_exec.specs.Effect.{effect, next_of}
use Rattle.dm_arena.specs.declared.refusal.ArenaRefusal.{ArenaRefusal}
use Rattle.dm_arena.specs.declared.fit.Strategy.{Strategy}
use Rattle.dm_proc.specs.Processes.{Processes}
use Rattle.dm_proc.specs.declared.parent.Ending.{Ending}
use Rattle.dm_proc.specs.declared.parent.Ending.TheVariants.{Returned, Exited}
use Rattle.dm_proc.specs.declared.refusal.ExecRefusal.{ExecRefusal}
use Rattle.dm_proc.specs.declared.refusal.ArenaDestroyed.{ArenaDestroyed}
use Rattle.dm_services.specs.declared.state.stop.Stop.TheVariants.{InputEnded}
use Rattle.dm_services.specs.state.State.{Answer, State}
use Rattle.dm_services.specs.declared.functions.Function.{Function}
use Rattle.dm_services.specs.declared.functions.Function.TheVariants as function
use Rattle.dm_services.specs.declared.strategies.StrategyFunction.{StrategyFunction}
use Rattle.dm_services.specs.declared.strategies.StrategyFunction.TheVariants.{TellStrategy, SetStrategy, TellLink, SetLink, Unknown}
use Rattle.dm_services.specs.Allocation.{allocated, settled}
use Rattle.dm_services.specs.Functions.{Calls, function_of, no_function}
use Rattle.dm_services.specs.Handles.{write_handle, write_to_console, bad_handle}
use Rattle.dm_services.specs.Processes.{StayingResident, LoadingAs, Terminating, concluded, executed, overlaid, tell_code}
use Rattle.dm_services.specs.Strategies.{SetsLink, StrategyCalls, TellsLink, link_told, set_to, strategy_of, subfunction_of, wanted}
use Rattle.dm_services.specs.System.{tell_process, tell_version}
use Rattle.dm_services.specs.Text.{print}
use Rattle.dm_services.specs.Vectors.{get_vector, set_vector}
use Rattle.dm_drivers.specs.Drivers.{driven}
use Rattle.dm_machine.specs.Run.{Goes}
use Rattle.dm_machine.specs.Step.{Acts, ActsUnlessEnded, Instructs, MakesStep, after}
use Rattle.dm_laws.specs.supplies.Supplies.{GoesByPieces, GoesUnasked, PiecesAreOneInput, StepsTakeMoreInput, asks, asks_at, asks_by, supplied, supplied_answer}
use Rattle.dm_laws.proofs.supplies.Services.{echoes, reads, writes, acts_directly, checks, reads_line, flushes, reads_handle}

module _ (bytes : List ℕ) (more : Bool) where
  abbrev G : State → State
  G = supplied bytes more

  abbrev A : Answer → Answer
  A = supplied_answer bytes more

  -- ---- results by their cases

  on_allocated : (s : State) (r : Result ℕ ArenaRefusal) (m : Memory) → A (allocated s r m) ≡ allocated (G s) r m
  on_allocated s (Ok segment) m = refl
  on_allocated s (Err e) m = refl

  on_settled : (s : State) (r : Result (Unit {0}) ArenaRefusal) (m : Memory) → A (settled s r m) ≡ settled (G s) r m
  on_settled s (Ok u) m = refl
  on_settled s (Err e) m = refl

  on_executed : (s : State) (r : Result (Unit {0}) ExecRefusal) (q : Processes) (c : Cpu) (m : Memory) →
      A (executed s r q c m) ≡ executed (G s) r q c m
  on_executed s (Ok u) q c m = refl
  on_executed s (Err e) q c m = refl

  on_overlaid : (s : State) (r : Result (Unit {0}) ExecRefusal) (m : Memory) → A (overlaid s r m) ≡ overlaid (G s) r m
  on_overlaid s (Ok u) m = refl
  on_overlaid s (Err e) m = refl

  on_concluded : (s : State) (code : ℕ) (r : Result Ending ArenaDestroyed) (q : Processes) (c : Cpu) (m : Memory) →
      A (concluded s code r q c m) ≡ concluded (G s) code r q c m
  on_concluded s code (Ok Returned) q c m = refl
  on_concluded s code (Ok Exited) q c m = refl
  on_concluded s code (Err e) q c m = refl

  on_link : (s : State) (r : Result Bool ArenaRefusal) → A (link_told s r) ≡ link_told (G s) r
  on_link s (Ok on) = refl
  on_link s (Err e) = refl

  on_strategy : (s : State) (o : Option Strategy) → A (set_to s o) ≡ set_to (G s) o
  on_strategy s None = refl
  on_strategy s (Some strategy) = refl

  -- ---- functions

  terminating : (s : State) (code : ℕ) (x : Answer) → Terminating s code x → Terminating (G s) code (A x)
  terminating s code x t = record {
    result = t.result;
    processes = t.processes;
    cpu = t.cpu;
    memory = t.memory;
    terminates = t.terminates;
    answer = ap A t.answer ∙ on_concluded s code t.result t.processes t.cpu t.memory;
  }

  keeping : (s : State) (x : Answer) → StayingResident s x → StayingResident (G s) (A x)
  keeping s x t = record {
    result = t.result;
    processes = t.processes;
    cpu = t.cpu;
    memory = t.memory;
    stays = t.stays;
    answer = ap A t.answer ∙ on_concluded s (byte_of s.cpu Al) t.result t.processes t.cpu t.memory;
  }

  loading : (s : State) (b : Bool) (x : Answer) → LoadingAs b s x → LoadingAs b (G s) (A x)
  loading s true x l = record {
    result = l.result;
    memory = l.memory;
    overlays = l.overlays;
    answer = ap A l.answer ∙ on_overlaid s l.result l.memory;
  }
  loading s false x l = record {
    result = l.result;
    processes = l.processes;
    cpu = l.cpu;
    memory = l.memory;
    executes = l.executes;
    answer = ap A l.answer ∙ on_executed s l.result l.processes l.cpu l.memory;
  }

  tells_link : (s : State) (b : Bool) (x : Answer) → TellsLink b s x → TellsLink b (G s) (A x)
  tells_link s false x e = ap A e ∙ on_link s (Ok false)
  tells_link s true x t = record { result = t.result; tells = t.tells; answer = ap A t.answer ∙ on_link s t.result }

  sets_link : (s : State) (o : Option Bool) (x : Answer) → SetsLink o s x → SetsLink o (G s) (A x)
  sets_link s None x e = ap A e
  sets_link s (Some on) x l = record {
    result = l.result;
    memory = l.memory;
    links = l.links;
    answer = ap A l.answer ∙ on_settled s l.result l.memory;
  }

  strategies : (s : State) (f : StrategyFunction) (x : Answer) → StrategyCalls s f x → StrategyCalls (G s) f (A x)
  strategies s TellStrategy x e = ap A e
  strategies s SetStrategy x e = ap A e ∙ on_strategy s (strategy_of s.upper s.cpu.bx)
  strategies s TellLink x t = tells_link s s.upper x t
  strategies s SetLink x l = sets_link s (wanted s.upper s.cpu.bx) x l
  strategies s Unknown x e = ap A e

  writes_handle : (s : State) (b : Bool) → A (if b then write_to_console s else bad_handle s) ≡ (if b then
      write_to_console (G s) else bad_handle (G s))
  unfolding bad_handle
  writes_handle s true = refl
  writes_handle s false = refl

  goes_by : (x y : Answer) → x ≡ y → (x.stop ≡ Some InputEnded → ⊥) → y.stop ≡ Some InputEnded → ⊥
  goes_by x y e goes h = goes (ap (λ (z : Answer). z.stop) e ∙ h)

  calls : (s : State) (f : Function) (x : Answer) → Calls s f x → asks_by s f ≡ false → (x.stop ≡ Some InputEnded → ⊥) →
      Calls (G s) f (A x)
  unfolding write_handle print set_vector get_vector tell_version tell_process tell_code no_function
  calls s function.EchoCharacter x e a goes = ap A e ∙ echoes bytes more s (goes_by x _ e goes)
  calls s function.WriteCharacter x e a goes = ap A e ∙ writes bytes more s
  calls s function.DirectCharacter x e a goes = ap A e ∙ acts_directly bytes more s a
  calls s function.DirectInput x e a goes = ap A e ∙ reads bytes more s (goes_by x _ e goes)
  calls s function.ReadCharacter x e a goes = ap A e ∙ reads bytes more s (goes_by x _ e goes)
  calls s function.WriteText x e a goes = ap A e
  calls s function.ReadLine x e a goes = ap A e ∙ reads_line bytes more s (goes_by x _ e goes)
  calls s function.CheckInput x e a goes = ap A e ∙ checks bytes more s a
  calls s function.FlushAndRead x e a goes = ap A e ∙ flushes bytes more s a (goes_by x _ e goes)
  calls s function.SetVector x e a goes = ap A e
  calls s function.Version x e a goes = ap A e
  calls s function.Keep x k a goes = keeping s x k
  calls s function.GetVector x e a goes = ap A e
  calls s function.ReadHandle x e a goes = ap A e ∙ reads_handle bytes more s a
  calls s function.WriteHandle x e a goes = ap A e ∙ writes_handle s _
  calls s function.Allocate x l a goes = record {
    result = l.result;
    memory = l.memory;
    allocates = l.allocates;
    answer = ap A l.answer ∙ on_allocated s l.result l.memory;
  }
  calls s function.Free x l a goes = record {
    result = l.result;
    memory = l.memory;
    frees = l.frees;
    answer = ap A l.answer ∙ on_settled s l.result l.memory;
  }
  calls s function.Resize x l a goes = record {
    result = l.result;
    memory = l.memory;
    resizes = l.resizes;
    answer = ap A l.answer ∙ on_settled s l.result l.memory;
  }
  calls s function.LoadProgram x l a goes = loading s _ x l
  calls s function.Exit x t a goes = terminating s (byte_of s.cpu Al) x t
  calls s function.ExitCode x e a goes = ap A e
  calls s function.Process x e a goes = ap A e
  calls s function.AllocationStrategy x l a goes = strategies s (subfunction_of (byte_of s.cpu Al)) x l
  calls s function.Terminate x t a goes = terminating s 0 x t
  calls s function.Unknown x e a goes = ap A e

  -- ---- steps

  drives : (s : State) (d : Driver) → A (driven s d) ≡ driven (G s) d
  drives s ExpandedMemory = refl
  drives s Multiplex = refl
  drives s ExtendedMemory = refl

  after_next : (s : State) (n : Next) (g : Guest) → A (after s n g) ≡ after (G s) n g
  after_next s Go g = refl
  after_next s Halt g = refl

  instructs : (s : State) (x : Answer) → Instructs s x → Instructs (G s) (A x)
  instructs s x (Instructs.listed i length b e) = Instructs.listed i length b (ap A e
      ∙ after_next s (next_of i.action.mnemonic) (effect (guest s.cpu s.memory) i length))
  instructs s x (Instructs.unlisted n e) = Instructs.unlisted n (ap A e)

  acts : (s : State) (p : Option EntryPoint) (x : Answer) → Acts s p x → asks_at s p ≡ false →
      (x.stop ≡ Some InputEnded → ⊥) → Acts (G s) p (A x)
  acts s None x i a goes = instructs s x i
  acts s (Some (entry_point.Driver driver)) x e a goes = ap A e ∙ drives s driver
  acts s (Some (entry_point.Service service.DivideError)) x t a goes = terminating s 0xFF x t
  acts s (Some (entry_point.Service service.Terminate)) x t a goes = terminating s 0 x t
  acts s (Some (entry_point.Service service.Dos)) x c a goes = calls s (function_of (byte_of s.cpu Ah)) x c a goes

  unless_ended : (s : State) (o : Option ℕ) (x : Answer) → ActsUnlessEnded s o x → asks s ≡ false →
      (x.stop ≡ Some InputEnded → ⊥) → ActsUnlessEnded (G s) o (A x)
  unless_ended s (Some code) x e a goes = ap A e
  unless_ended s None x t a goes = acts s (entry_point_at s.cpu.cs s.cpu.ip) x t a goes

  steps : (s : State) (x : Answer) → MakesStep s x → asks s ≡ false → (x.stop ≡ Some InputEnded → ⊥) →
      MakesStep (G s) (A x)
  unfolding MakesStep
  steps s x m a goes = unless_ended s s.exited x m a goes

  -- ---- runs

  no_stop : None ≡ Some InputEnded → ⊥
  no_stop e = cc

  pub goes : (s : State) (n : ℕ) (t : State) → GoesUnasked s n t → Goes (G s) n (G t)
  goes s n t GoesUnasked.here = Goes.here
  goes s n t (GoesUnasked.further k u v g a m) = Goes.further k (G u) (G v) (goes s k u g)
      (steps u (record { stop = None; state = v }) m a no_stop)

pub steps_take : StepsTakeMoreInput
steps_take s x bytes more m a goes = steps bytes more s x m a goes

-- a run and then another one
joined : (s : State) (n : ℕ) (t : State) (m : ℕ) (u : State) → Goes s n t → Goes t m u → Goes s (n + m) u
joined s n t m u first Goes.here = subst (λ k. Goes s k t) (omega arith) first
joined s n t m u first (Goes.further k v w g step) =
    subst (λ j. Goes s j w) (omega arith) (Goes.further (n + k) v w (joined s n t k v first g) step)

pub pieces_are_one : PiecesAreOneInput
pieces_are_one s t pieces n more (GoesByPieces.whole r u k g) = goes [] more r k u g
pieces_are_one s t pieces n more (GoesByPieces.piece r v u k m bytes others g rest) =
    let all : List ℕ = bytes ++ concat others in
    let one : State = supplied all more v in
    let two : State = supplied (concat others) more (supplied bytes v.console.more v) in
    let same : one ≡ two = ap (λ input. record v { console = record v.console { input = input; more = more } })
    (sym (append_assoc v.console.input bytes (concat others))) in
    joined (supplied all more r) k two m (supplied [] more u) (subst (λ w. Goes (supplied all more r) k w) same
    (goes all more r k v g)) (pieces_are_one (supplied bytes v.console.more v) u others m more rest)
