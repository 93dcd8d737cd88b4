-- What is found of a step, as it is put behind what stood there.
use Rattle.std.proofs.Common.{◌≡◌, ℕ, Bool, true, false, List, [], ◌++◌, map, Option, Some, None, refl, sym, ◌∙◌, ap, ap₂, subst, append-nil, append_assoc}
use Rattle.std.specs.Prelude.{◌||◌, All}
use Rattle.std.specs.List.{flat_map}
use Rattle.dm_space.specs.Memory.{Memory}
use Rattle.dm_blocks.specs.declared.header.Header.{Header}
use Rattle.dm_cpu.specs.declared.cpu.Cpu.{Cpu}
use Rattle.dm_services.specs.state.State.{State}
use Rattle.dm_findings.specs.declared.calls.Call.{Call}
use Rattle.dm_findings.specs.declared.calls.Call.TheVariants.{DivideError, Terminate, Dos, ExpandedMemory, Multiplex, ExtendedMemory, Interrupt}
use Rattle.dm_findings.specs.declared.finding.Finding.{Finding}
use Rattle.dm_findings.specs.Calls.{call_of}
use Rattle.dm_checker.specs.declared.acts.Before.{Before}
use Rattle.dm_checker.specs.declared.arena_copy.HeaderCopy.{HeaderCopy}
use Rattle.dm_checker.specs.declared.arena_copy.ArenaCopy.{ArenaCopy}
use Rattle.dm_services.specs.declared.functions.Function.{Function}
use Rattle.dm_services.specs.Functions.{function_of}
use Rattle.dm_origins.specs.outcomes.Calls.{allocates, frees, resizes, arranges_lists, is_arena_function, ends_for_good, stays_resident, is_ending, is_starting, arranges, call_findings}
use Rattle.dm_checker.specs.Freed.{freed_twice}
use Rattle.dm_checker.specs.Headers.{overwritten, mapped_away}
use Rattle.dm_checker.specs.Shown.{Shown}
use Rattle.dm_checker.specs.Arranged.{other_freed, stack_freed, not_resized, if_whole, arranged_by, arranged}
use Rattle.dm_checker.specs.Findings.{turn_found, all_overwritten, findings, FindsTouched, Finds}
use Rattle.dm_checker.specs.ArenaCopy.{header_of, broken_at, IsHeaderCopy, IsArenaCopy}
use Rattle.dm_checker.specs.inner.ArenaCopy.{shown_of, IsSeen}
use Rattle.dm_checker.specs.inner.Steps.{IsBefore, Looks}
use Rattle.dm_checker.proofs.Leaked.{five_more}
use Rattle.dm_checker.proofs.Still.{seen_findings}

-- ---- after a look at the whole arena

pub overwritten_none : (may : Bool) (S T : Memory) (hs : List Header) (out u : List Finding) → may ≡ true → u ≡ out →
    u ≡ out ++ all_overwritten may S T hs
overwritten_none may S T hs out u e f = f ∙ sym (append-nil out) ∙ ap (λ (m : Bool). out
    ++ all_overwritten m S T hs) (sym e)

pub overwritten_all : (may : Bool) (S T : Memory) (hs : List Header) (out u : List Finding) → may ≡ false → u ≡ out
    ++ flat_map (overwritten S T) hs → u ≡ out ++ all_overwritten may S T hs
overwritten_all may S T hs out u e f = f ∙ ap (λ (m : Bool). out ++ all_overwritten m S T hs) (sym e)

-- what is put of each header that was kept
pub at_arena : (f : Memory → Header → List Finding) (w : ArenaCopy) (ws : List HeaderCopy) (out u : List Finding) →
    ws ≡ w.headers.items → ((S : Memory) → w.windows ≡ S.windows → All (IsHeaderCopy S) ws → u ≡ out
    ++ flat_map (f S) (map header_of ws)) → (upper : Bool) (S : Memory) → IsArenaCopy upper S w → u ≡ out
    ++ flat_map (f S) (map header_of w.headers.items)
at_arena f w ws out u e h upper S x =
    let F : List HeaderCopy → Type 0 = λ l. All (IsHeaderCopy S) l in
    h S x.windows (subst F (sym e) x.headers) ∙ ap (λ (l : List HeaderCopy). out ++ flat_map (f S) (map header_of l)) e

abbrev found_of : Cpu → Cpu → Option Call → Memory → Memory → ArenaCopy → ArenaCopy → List Finding
found_of c d call S T old new =
    all_overwritten (arranges c call) S T (map header_of old.headers.items)
    ++ flat_map (mapped_away S T) (map header_of old.headers.items)
    ++ turn_found (broken_at old.broken) (broken_at new.broken)
    ++ freed_twice c d call (map header_of old.headers.items)
    ++ call_findings c d call

same_found : (s t : State) (b : Before) (d : Cpu) (T : Memory) (old new : ArenaCopy) → IsBefore s b → d ≡ t.cpu →
    T ≡ t.memory → found_of b.cpu d b.call s.memory T old new ≡ findings s t (shown_of old) (shown_of new)
same_found s t b d T old new h e f =
    ap₂ (λ (c : Cpu) (k : Option Call). found_of c d k s.memory T old new) h.cpu h.call
    ∙ ap₂ (λ (x : Cpu) (m : Memory). found_of s.cpu x (call_of s.cpu) s.memory m old new) e f

-- what is found of blocks that the call freed or did not resize
pub arranged_as : (s t : State) (b : Before) (d : Cpu) (old new : ArenaCopy) → IsBefore s b → d ≡ t.cpu →
    arranged_by b.a20 b.present b.cpu d b.call (shown_of old).headers (shown_of new)
    ≡ arranged s t (shown_of old) (shown_of new)
arranged_as s t b d old new h e =
    ap₂ (λ (a : Bool) (p : ℕ). arranged_by a p b.cpu d b.call (shown_of old).headers (shown_of new)) h.a20 h.present
    ∙ ap₂ (λ (c : Cpu) (k : Option Call). arranged_by s.memory.a20 s.processes.present c d k (shown_of old).headers
    (shown_of new)) h.cpu h.call
    ∙ ap (λ (x : Cpu). arranged_by s.memory.a20 s.processes.present s.cpu x (call_of s.cpu) (shown_of old).headers
    (shown_of new)) e

-- what the step touches stands before what is found of it otherwise
pub with_touched : (s t : State) (old new : ArenaCopy) (a b : List Finding) → IsArenaCopy s.upper s.memory old →
    IsArenaCopy t.upper t.memory new → a ≡ findings s t (shown_of old) (shown_of new) →
    b ≡ arranged s t (shown_of old) (shown_of new) → (touched : List Finding) → FindsTouched s (shown_of old) touched →
    Finds s t (touched ++ (a ++ b))
with_touched s t old new a b before after e f touched x = record {
  old = shown_of old;
  new = shown_of new;
  touched = touched;
  before = before.shown;
  after = after.shown;
  touches = x;
  is = ap₂ (λ (l m : List Finding). touched ++ (l ++ m)) e f
      ∙ sym (append_assoc touched (findings s t (shown_of old) (shown_of new)) (arranged s t (shown_of old)
      (shown_of new)));
}

pub looks_by : (s t : State) (b : Before) (d : Cpu) (T : Memory) (old new : ArenaCopy) (ws vs : List HeaderCopy)
    (out u v w x y z : List Finding) → IsBefore s b → IsArenaCopy s.upper s.memory old →
    IsArenaCopy t.upper t.memory new →
    d ≡ t.cpu → T ≡ t.memory → ws ≡ old.headers.items → u ≡ out ++ all_overwritten (arranges b.cpu b.call) s.memory T
    (map header_of old.headers.items) → v ≡ u ++ flat_map (mapped_away s.memory T) (map header_of old.headers.items) →
    w ≡ v ++ turn_found (broken_at old.broken) (broken_at new.broken) → vs ≡ old.headers.items → x ≡ w
    ++ freed_twice b.cpu d b.call (map header_of ws) → y ≡ x ++ call_findings b.cpu d b.call → z ≡ y
    ++ arranged_by b.a20 b.present b.cpu d b.call (map header_of vs) (shown_of new) → Looks s t old out z
looks_by s t b d T old new ws vs out u v w x y z h before after e f same p q r others o n m =
    let freed = o ∙ ap (λ (l : List HeaderCopy). w ++ freed_twice b.cpu d b.call (map header_of l)) same in
    let five : y ≡ out ++ findings s t (shown_of old) (shown_of new) = five_more out _ _ _ _ _ u v w x y p q r freed n
    ∙ ap (λ (l : List Finding). out ++ l) (same_found s t b d T old new h e f) in
    let put : z ≡ y ++ arranged s t (shown_of old) (shown_of new) = m ∙ ap (λ (l : List HeaderCopy). y
    ++ arranged_by b.a20 b.present b.cpu d b.call (map header_of l) (shown_of new)) others
    ∙ ap (λ (l : List Finding). y ++ l) (arranged_as s t b d old new h e) in
    record {
      more = findings s t (shown_of old) (shown_of new) ++ arranged s t (shown_of old) (shown_of new);
      is = put ∙ ap (λ (l : List Finding). l ++ arranged s t (shown_of old) (shown_of new)) five
          ∙ append_assoc out (findings s t (shown_of old) (shown_of new)) (arranged s t (shown_of old) (shown_of new));
      finds = with_touched s t old new _ _ before after refl refl;
    }

-- ---- where memory still shows what was kept

or_left : (a b : Bool) → (a || b) ≡ false → a ≡ false
or_left true b e = e
or_left false b e = refl

or_right : (a b : Bool) → (a || b) ≡ false → b ≡ false
or_right true b e = (let z : true ≡ false = e in cc)
or_right false b e = e

not_freeing : (c : Cpu) (f : Function) → (is_arena_function f || is_ending f || is_starting c f) ≡ false →
    frees f ≡ false
not_freeing c f e =
    let arena : is_arena_function f ≡ false = or_left (is_arena_function f) (is_ending f)
    (or_left _ (is_starting c f) e) in
    or_right (allocates f) (frees f) (or_left _ (resizes f) (or_left _ (arranges_lists f) arena))

freed_none : (c d : Cpu) (call : Option Call) (hs : List Header) → arranges c call ≡ false →
    freed_twice c d call hs ≡ []
freed_none c d None hs e = refl
freed_none c d (Some DivideError) hs e = refl
freed_none c d (Some Terminate) hs e = refl
freed_none c d (Some (Dos number)) hs e = (let off = not_freeing c (function_of number) e in rw off refl)
freed_none c d (Some (ExpandedMemory number)) hs e = refl
freed_none c d (Some Multiplex) hs e = refl
freed_none c d (Some (ExtendedMemory number)) hs e = refl
freed_none c d (Some (Interrupt number)) hs e = refl

-- functions that do not free, resize or keep
not_arranging : (c : Cpu) (f : Function) → (is_arena_function f || is_ending f || is_starting c f) ≡ false →
    (frees f ≡ false) × (resizes f ≡ false) × (stays_resident f ≡ false)
not_arranging c f e =
    let both = or_left (is_arena_function f || is_ending f) (is_starting c f) e in
    let arena : is_arena_function f ≡ false = or_left (is_arena_function f) (is_ending f) both in
    let ending : is_ending f ≡ false = or_right (is_arena_function f) (is_ending f) both in
    let lists : (allocates f || frees f || resizes f) ≡ false = or_left _ (arranges_lists f) arena in (
      not_freeing c f e,
      or_right (allocates f || frees f) (resizes f) lists,
      or_right (ends_for_good f) (stays_resident f) ending,
    )

if_whole_none : (o : Option ℕ) (fs : List Finding) → fs ≡ [] → if_whole o fs ≡ []
if_whole_none None fs e = e
if_whole_none (Some at) fs e = refl

arranged_dos : (a20 : Bool) (present : ℕ) (c d : Cpu) (number : ℕ) (old : List Header) (new : Shown) →
    frees (function_of number) ≡ false → resizes (function_of number) ≡ false → stays_resident (function_of number)
    ≡ false → arranged_by a20 present c d (Some (Dos number)) old new ≡ []
arranged_dos a20 present c d number old new e f g =
    let first : other_freed present c d number old ≡ [] = rw e refl in
    let stack : stack_freed a20 c d number new.headers ≡ [] = rw (e, f) refl in
    let kept : not_resized present c number new.headers ≡ [] = rw g refl in
    ap₂ (λ (l m : List Finding). l ++ m) first (if_whole_none new.broken _ (ap₂ (λ (l m : List Finding). l
    ++ m) stack kept))

arranged_none : (a20 : Bool) (present : ℕ) (c d : Cpu) (call : Option Call) (old : List Header) (new : Shown) →
    arranges c call ≡ false → arranged_by a20 present c d call old new ≡ []
arranged_none a20 present c d None old new e = refl
arranged_none a20 present c d (Some DivideError) old new e = refl
arranged_none a20 present c d (Some Terminate) old new e = refl
arranged_none a20 present c d (Some (Dos number)) old new e = (let off = not_arranging c (function_of number) e in
    arranged_dos a20 present c d number old new off.0 off.1 off.2)
arranged_none a20 present c d (Some (ExpandedMemory number)) old new e = refl
arranged_none a20 present c d (Some Multiplex) old new e = refl
arranged_none a20 present c d (Some (ExtendedMemory number)) old new e = refl
arranged_none a20 present c d (Some (Interrupt number)) old new e = refl

pub seen_looks : (s t : State) (b : Before) (d : Cpu) (w : ArenaCopy) (out y : List Finding) → IsBefore s b →
    IsArenaCopy s.upper s.memory w → IsSeen t.upper t.memory w → IsArenaCopy t.upper t.memory w →
    arranges b.cpu b.call ≡ false → d ≡ t.cpu → y ≡ out ++ call_findings b.cpu d b.call → Looks s t w out y
seen_looks s t b d w out y h before seen after off e r =
    let calm : arranges s.cpu (call_of s.cpu) ≡ false = ap₂ (λ (c : Cpu) (k : Option Call). arranges c k) (sym h.cpu)
    (sym h.call) ∙ off in
    let same : call_findings b.cpu d b.call ≡ call_findings s.cpu t.cpu (call_of s.cpu)
    = ap₂ (λ (c : Cpu) (k : Option Call). call_findings c d k) h.cpu h.call
    ∙ ap (λ (x : Cpu). call_findings s.cpu x (call_of s.cpu)) e in
    let none = freed_none s.cpu t.cpu (call_of s.cpu) (map header_of w.headers.items) calm in
    let calls = call_findings s.cpu t.cpu (call_of s.cpu) in
    let found : calls ≡ findings s t (shown_of w) (shown_of w) = sym (seen_findings s t w before seen
    ∙ ap (λ (l : List Finding). l ++ calls) none) in
    let still : [] ≡ arranged s t (shown_of w) (shown_of w) =
    sym (arranged_none s.memory.a20 s.processes.present s.cpu t.cpu (call_of s.cpu) (shown_of w).headers
    (shown_of w) calm) in
    record {
      more = calls ++ [];
      is = r ∙ ap (λ (l : List Finding). out ++ l) (same ∙ sym (append-nil calls));
      finds = with_touched s t w w calls [] before after found still;
    }
