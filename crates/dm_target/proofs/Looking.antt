-- One step under watchpoints.
use Rattle.std.proofs.Common.{◌≡◌, ℕ, ◌<◌, Bool, List, [], Option, Some, None, refl, sym, ◌∙◌, ap, subst}
use Rattle.std.specs.Prelude.{All, IfSome}
use Rattle.std.specs.List.{find}
use Rattle.dm_space.specs.Memory.{Memory}
use Rattle.dm_space.specs.declared.entry_points.EntryPoint.{EntryPoint}
use Rattle.dm_space.specs.EntryPoints.{entry_point_at}
use Rattle.dm_ins.specs.declared.ins.Ins.{Ins}
use Rattle.dm_ins.specs.Ins.{BeginsWith}
use Rattle.dm_cpu.specs.declared.cpu.Cpu.{Cpu}
use Rattle.dm_cpu.specs.Guest.{guest}
use Rattle.dm_decode.specs.Decoded.{Decodes}
use Rattle.dm_touches.specs.declared.elements.Elements.{Elements}
use Rattle.dm_touches.specs.Touches.{reads, writes}
use Rattle.dm_requests.specs.declared.request.Point.{Point}
use Rattle.dm_services.specs.declared.state.stop.Stop.{Stop}
use Rattle.dm_services.specs.declared.state.stop.Stop.TheVariants.{Exited, Halted, Unlisted, InputEnded, Destroyed, Steps as AllSteps, Memory as NoMemory}
use Rattle.dm_services.specs.state.State.{State}
use Rattle.dm_machine.specs.declared.until.Breakpoint.{Breakpoint}
use Rattle.dm_machine.specs.Step.{fetched}
use Rattle.dm_machine.specs.Run.{IsRun}
use Rattle.dm_machine.specs.Unmarked.{GoesUnmarked}
use Rattle.dm_machine.specs.Near.{GoesNear}
use Rattle.dm_target.specs.declared.going.Pause.{Pause}
use Rattle.dm_target.specs.declared.going.Pause.TheVariants.{Hit, Stopped}
use Rattle.dm_target.specs.declared.going.StepRange.{StepRange}
use Rattle.dm_target.specs.Watching.{Hits, performed, acted, is_touched, is_changed}
use Rattle.dm_target.specs.inner.Looking.{Looks, IsGuarded, RunsUnhit, all_bytes, pause_at, pairs_of, missed, hits, stops, wants}
use Rattle.dm_target.proofs.Passing.{Misses, misses_none, misses_marked, near_passes}
use Rattle.dm_target.proofs.Stepping.{performs, decoded_as}

-- ---- what the instruction hits

ins_of : Ins → Option (Ins × ℕ) → Ins
ins_of i None = i
ins_of i (Some x) = x.0

length_of : ℕ → Option (Ins × ℕ) → ℕ
length_of k None = k
length_of k (Some x) = x.1

same_ins : (i j : Ins) (k n : ℕ) → ◌≡◌ {A = Option (Ins × ℕ)} (Some (i, k)) (Some (j, n)) → i ≡ j
unfolding ins_of
same_ins i j k n e = ap (ins_of i) e

same_length : (i j : Ins) (k n : ℕ) → ◌≡◌ {A = Option (Ins × ℕ)} (Some (i, k)) (Some (j, n)) → k ≡ n
unfolding length_of
same_length i j k n e = ap (length_of k) e

some_none : {A : Type 0} (a : A) → None ≡ Some a → ⊥
some_none a e = cc

pub hit_decoded : (m : State) (bytes : List ℕ) (cpu : Cpu) (mem : Memory) (a20 : Bool) (ins : Ins) (len : ℕ)
    (rs ws : Elements) (watches : List Point) (r : Option Point)
    → mem ≡ m.memory → cpu ≡ m.cpu → bytes ≡ fetched mem cpu → Decodes bytes (Some (ins, len)) →
    rs ≡ reads (guest cpu mem) ins len → ws ≡ writes (guest cpu mem) ins len → a20 ≡ mem.a20
    → r ≡ find (is_touched a20 rs ws) watches → (i : Ins) (k : ℕ) → BeginsWith (fetched m.memory m.cpu) i k
    → r ≡ find (is_touched m.memory.a20 (reads (guest m.cpu m.memory) i k) (writes (guest m.cpu m.memory) i k)) watches
hit_decoded m bytes cpu mem a20 ins len rs ws watches r memory registers fetches decodes read written on is i k b =
    let same : bytes ≡ fetched m.memory m.cpu = fetches ∙ ap (λ (x : Memory). fetched x cpu) memory
    ∙ ap (λ (x : Cpu). fetched m.memory x) registers in
    let begins = subst (λ (x : List ℕ). BeginsWith x i k) (sym same) b in
    let found = decoded_as bytes (Some (ins, len)) i k decodes begins in
    let first : ins ≡ i = same_ins ins i len k found in
    let second : len ≡ k = same_length ins i len k found in
    let R : rs ≡ reads (guest m.cpu m.memory) i k = read ∙ ap (λ (x : Cpu). reads (guest x mem) ins len) registers
    ∙ ap (λ (x : Memory). reads (guest m.cpu x) ins len) memory
    ∙ ap (λ (x : Ins). reads (guest m.cpu m.memory) x len) first
    ∙ ap (λ (n : ℕ). reads (guest m.cpu m.memory) i n) second in
    let W : ws ≡ writes (guest m.cpu m.memory) i k = written ∙ ap (λ (x : Cpu). writes (guest x mem) ins len) registers
    ∙ ap (λ (x : Memory). writes (guest m.cpu x) ins len) memory
    ∙ ap (λ (x : Ins). writes (guest m.cpu m.memory) x len) first
    ∙ ap (λ (n : ℕ). writes (guest m.cpu m.memory) i n) second in
    is ∙ ap (λ (x : Bool). find (is_touched x rs ws) watches) (on ∙ ap (λ (x : Memory). x.a20) memory)
    ∙ ap (λ (x : Elements). find (is_touched m.memory.a20 x ws) watches) R
    ∙ ap (λ (x : Elements). find (is_touched m.memory.a20 (reads (guest m.cpu m.memory) i k) x) watches) W

pub none_decoded : (m : State) (bytes : List ℕ) (cpu : Cpu) (mem : Memory) (i : Ins) (k : ℕ) → mem ≡ m.memory →
    cpu ≡ m.cpu → bytes ≡ fetched mem cpu → Decodes bytes None → BeginsWith (fetched m.memory m.cpu) i k → ⊥
none_decoded m bytes cpu mem i k memory registers fetches decodes b =
    let same : bytes ≡ fetched m.memory m.cpu = fetches ∙ ap (λ (x : Memory). fetched x cpu) memory
    ∙ ap (λ (x : Cpu). fetched m.memory x) registers in
    let begins = subst (λ (x : List ℕ). BeginsWith x i k) (sym same) b in
    some_none (i, k) (decoded_as bytes None i k decodes begins)

-- ---- what the step hits

pub looks_as : (watches : List Point) (s t : State) (stop : Stop) (hit : Option Point) (o : Option Pause) →
    IsRun s 1 stop t → o ≡ pause_at stop hit → (stop ≡ AllSteps → Hits watches s t hit) → Looks watches s o t
looks_as watches s t AllSteps None o run e h = subst (λ (x : Option Pause). Looks watches s x t) (sym e)
    (missed t run (h refl))
looks_as watches s t AllSteps (Some p) o run e h = subst (λ (x : Option Pause). Looks watches s x t) (sym e)
    (hits p t run (h refl))
looks_as watches s t (Exited code) hit o run e h = subst (λ (x : Option Pause). Looks watches s x t) (sym e)
    (stops (Exited code) t (λ no. cc) run)
looks_as watches s t Halted hit o run e h = subst (λ (x : Option Pause). Looks watches s x t) (sym e)
    (stops Halted t (λ no. cc) run)
looks_as watches s t Unlisted hit o run e h = subst (λ (x : Option Pause). Looks watches s x t) (sym e)
    (stops Unlisted t (λ no. cc) run)
looks_as watches s t InputEnded hit o run e h = subst (λ (x : Option Pause). Looks watches s x t) (sym e)
    (stops InputEnded t (λ no. cc) run)
looks_as watches s t Destroyed hit o run e h = subst (λ (x : Option Pause). Looks watches s x t) (sym e)
    (stops Destroyed t (λ no. cc) run)
looks_as watches s t NoMemory hit o run e h = subst (λ (x : Option Pause). Looks watches s x t) (sym e)
    (stops NoMemory t (λ no. cc) run)

-- what the instruction at CS:IP of m hits
abbrev pub HitBy : List Point → State → Option Point → Type 0
HitBy watches m hit = (i : Ins) (k : ℕ) → BeginsWith (fetched m.memory m.cpu) i k →
    hit ≡ find (is_touched m.memory.a20 (reads (guest m.cpu m.memory) i k) (writes (guest m.cpu m.memory) i k)) watches

pub performs_hits : (watches : List Point) (s m t : State) (stop : Stop) (hit : Option Point) → m ≡ s →
    entry_point_at s.cpu.cs s.cpu.ip ≡ None → IsRun s 1 stop t → HitBy watches m hit → stop ≡ AllSteps →
    Hits watches s t hit
performs_hits watches s m t stop hit same none run h all =
    let b = performs s t none (subst (λ (x : Stop). IsRun s 1 x t) all run) in
    let by = subst (λ (x : State). HitBy watches x hit) same h in
    performed b.ins b.length none b.begins (by b.ins b.length b.begins)

pub changed_hits : (watches : List Point) (s t : State) (what : EntryPoint) (m n : Memory) (hit : Option Point)
    (bytes : List ℕ) → entry_point_at s.cpu.cs s.cpu.ip ≡ Some what → m ≡ s.memory → n ≡ t.memory
    → bytes ≡ all_bytes m watches → ((x : Memory) → bytes ≡ all_bytes x watches → hit ≡ find (is_changed x n) watches) →
    Hits watches s t hit
changed_hits watches s t what m n hit bytes at before after kept h =
    acted what at (h m kept ∙ ap (λ (x : Memory). find (is_changed x n) watches) before
    ∙ ap (λ (x : Memory). find (is_changed s.memory x) watches) after)

-- ---- steps that are made at once

misses_by : (watches : List Point) (s t : State) (n : ℕ) (o : Option (List ℕ)) →
    IfSome o (λ m. All (IsGuarded m) watches) → IfSome o (λ m. GoesUnmarked m s n t) → (o ≡ None → watches ≡ []) →
    Misses watches s n
misses_by watches s t n None g u h = misses_none watches s n (h refl)
misses_by watches s t n (Some ms) g u h = misses_marked ms watches s t n g u

pub passes_near : (points : List ℕ) (watches : List Point) (span : Option StepRange) (s m t : State) (c : Cpu)
    (pairs slice : List Breakpoint) (o : Option (List ℕ)) (n : ℕ) → span ≡ None → m ≡ s → c ≡ m.cpu → c.cs < 65536
    → pairs ≡ pairs_of c.cs points → slice ≡ pairs → IfSome o (λ ms. All (IsGuarded ms) watches) →
    IfSome o (λ ms. GoesUnmarked ms s n t) → (o ≡ None → watches ≡ []) → GoesNear slice s n t
    → RunsUnhit points watches span s n t
passes_near points watches span s m t c pairs slice o n ends same cpu small are is g u h near =
    let segment : c.cs ≡ s.cpu.cs = ap (λ (x : Cpu). x.cs) cpu ∙ ap (λ (x : State). x.cpu.cs) same in
    let whole : slice ≡ pairs_of s.cpu.cs points = is ∙ are ∙ ap (λ k. pairs_of k points) segment in
    subst (λ (x : Option StepRange). RunsUnhit points watches x s n t) (sym ends)
    (near_passes points watches s t n (subst (λ k. k < 65536) segment small) (misses_by watches s t n o g u h)
    (subst (λ (x : List Breakpoint). GoesNear x s n t) whole near))

-- ---- a step that hit nothing

pub looked_run : (watches : List Point) (s t : State) (o : Option Pause) → Looks watches s o t → o ≡ None →
    IsRun s 1 AllSteps t
looked_run watches s t o (missed u run h) e = run
looked_run watches s t o (hits p u run h) e = (let some : Some (Hit p) ≡ None = e in cc)
looked_run watches s t o (stops why u other run) e = (let some : Some (Stopped why) ≡ None = e in cc)
looked_run watches s t o (wants what watched at) e = (let some : Some (Stopped NoMemory) ≡ None = e in cc)

pub looked_hits : (watches : List Point) (s t : State) (o : Option Pause) → Looks watches s o t → o ≡ None →
    Hits watches s t None
looked_hits watches s t o (missed u run h) e = h
looked_hits watches s t o (hits p u run h) e = (let some : Some (Hit p) ≡ None = e in cc)
looked_hits watches s t o (stops why u other run) e = (let some : Some (Stopped why) ≡ None = e in cc)
looked_hits watches s t o (wants what watched at) e = (let some : Some (Stopped NoMemory) ≡ None = e in cc)
