-- What is found of the bytes that a step touches, as it is put behind what stood there.
use Rattle.std.proofs.Common.{◌≡◌, ℕ, List, [], ◌++◌, map, Option, Some, None, refl, sym, ◌∙◌, ap, ap₂, append-nil, append_assoc}
use Rattle.dm_space.specs.Memory.{Memory}
use Rattle.dm_ins.specs.declared.ins.Ins.{Ins}
use Rattle.dm_ins.specs.Ins.{BeginsWith}
use Rattle.dm_cpu.specs.declared.cpu.Cpu.{Cpu}
use Rattle.dm_cpu.specs.Guest.{guest}
use Rattle.dm_services.specs.state.State.{State}
use Rattle.dm_machine.specs.Step.{fetched}
use Rattle.dm_machine.specs.Run.{Answers}
use Rattle.dm_findings.specs.declared.calls.Call.{Call}
use Rattle.dm_findings.specs.declared.finding.Finding.{Finding}
use Rattle.dm_findings.specs.Calls.{call_of}
use Rattle.dm_touches.specs.declared.elements.Elements.{Elements}
use Rattle.dm_touches.specs.Elements.{bytes_of}
use Rattle.dm_touches.specs.Touches.{reads, writes}
use Rattle.dm_touches.specs.Found.{of_headers, of_places, touch_findings}
use Rattle.dm_checker.specs.declared.arena_copy.ArenaCopy.{ArenaCopy}
use Rattle.dm_checker.specs.Findings.{FindsTouched, touching, calling}
use Rattle.dm_checker.specs.ArenaCopy.{header_of, broken_at}
use Rattle.dm_checker.specs.inner.ArenaCopy.{shown_of}
use Rattle.dm_checker.specs.inner.Steps.{IsNextAct, an_instruction, no_instruction, Touches}
use Rattle.dm_checker.proofs.Acting.{some_none, unlisted_stops}
use Rattle.dm_checker.proofs.Reading.{still_running}

-- a step that is made without an instruction performs a call
made_by_call : (s t : State) (w : ArenaCopy) (o : Option Call) → call_of s.cpu ≡ o →
    ((i : Ins) (k : ℕ) → call_of s.cpu ≡ None → BeginsWith (fetched s.memory s.cpu) i k → ⊥) → Answers s None t →
    FindsTouched s (shown_of w) []
made_by_call s t w (Some call) e none a = calling call e refl
made_by_call s t w None e none a = absurd (unlisted_stops s t (record { call = e; none = λ i k x. none i k e x }) a)

-- nothing is touched
pub touches_none : (s : State) (w : ArenaCopy) (out : List Finding) → IsNextAct s None → Touches s w out out
touches_none s w out (no_instruction f) = record {
  more = [];
  is = sym (append-nil out);
  going = λ t a. made_by_call s t w _ refl f a;
  calling = λ call e. calling call e refl;
}

found_of : (m : Memory) (w : ArenaCopy) (rs ws : Elements) → List Finding
found_of m w rs ws = of_headers m.a20 (bytes_of rs) (bytes_of ws) (broken_at w.broken) (map header_of w.headers.items)
    ++ of_places m (bytes_of ws)

same_found : (s : State) (w : ArenaCopy) (i : Ins) (k : ℕ) → found_of s.memory w (reads (guest s.cpu s.memory) i k)
    (writes (guest s.cpu s.memory) i k) ≡ touch_findings (guest s.cpu s.memory) i k (shown_of w).broken
    (shown_of w).headers
unfolding touch_findings found_of
same_found s w i k = refl

found_from : (s : State) (w : ArenaCopy) (i : Ins) (k : ℕ) (c : Cpu) (m : Memory) (rs ws : Elements) → c ≡ s.cpu →
    m ≡ s.memory → rs ≡ reads (guest c m) i k → ws ≡ writes (guest c m) i k →
    found_of m w rs ws ≡ touch_findings (guest s.cpu s.memory) i k (shown_of w).broken (shown_of w).headers
found_from s w i k c m rs ws same here r v =
    ap₂ (λ (a b : Elements). found_of m w a b) r v
    ∙ ap₂ (λ (d : Cpu) (n : Memory). found_of n w (reads (guest d n) i k) (writes (guest d n) i k)) same here
    ∙ same_found s w i k

-- what an instruction touches
pub touches_some : (s : State) (w : ArenaCopy) (i : Ins) (k : ℕ) (c : Cpu) (m : Memory) (rs ws : Elements)
    (out mid new : List Finding) → IsNextAct s (Some (i, k)) → c ≡ s.cpu → m ≡ s.memory → rs ≡ reads (guest c m) i k →
    ws ≡ writes (guest c m) i k
    → mid ≡ out ++ of_headers m.a20 (bytes_of rs) (bytes_of ws) (broken_at w.broken) (map header_of w.headers.items) →
    new ≡ mid ++ of_places m (bytes_of ws) → Touches s w out new
unfolding found_of
touches_some s w i k c m rs ws out mid new (an_instruction j l none begins) same here r v first next =
    let found = found_from s w i k c m rs ws same here r v in
    let more = touch_findings (guest s.cpu s.memory) i k (shown_of w).broken (shown_of w).headers in
    record {
      more = more;
      is = next ∙ ap (λ (l : List Finding). l ++ of_places m (bytes_of ws)) first ∙ append_assoc out _ _
          ∙ ap (λ (l : List Finding). out ++ l) found;
      going = λ t a. touching i k (still_running s t a) none begins refl;
      calling = λ call e. absurd (some_none call (sym e ∙ none));
    }
