-- Repetitions, one by one.
use Rattle.std.proofs.Common.{◌≡◌, ℕ, zero, suc, ◌-◌, ◌<◌, ◌||◌, Bool, true, false, if◌then◌else◌, nat_eq, Option, Some, None, refl, ◌∙◌, ap, arith}
use Rattle.std.proofs.lemmas.Bool.Decides.{nat_tests}
use Rattle.dm_alu.specs.declared.width.Width.{Width}
use Rattle.dm_alu.specs.declared.width.Width.TheVariants.{Byte, Word}
use Rattle.dm_ins.specs.declared.ins.Ins.{Ins}
use Rattle.dm_ins.specs.declared.operand.SegmentRegister.{SegmentRegister}
use Rattle.dm_ins.specs.declared.operand.SegmentRegister.TheVariants.{Es, Cs, Ss, Ds}
use Rattle.dm_ins.specs.declared.prefix.Repeat.{Repeat}
use Rattle.dm_cpu.specs.declared.cpu.Cpu.{Cpu}
use Rattle.dm_cpu.specs.Cpu.{byte_of, segment_of, with_byte, with_word, word_of}
use Rattle.dm_cpu.specs.Guest.{Guest, at_ip, down, on_cpu, up}
use Rattle.dm_cpu.specs.Operands.{data_segment}
use Rattle.dm_cpu.specs.Values.{accumulator, read_in, with_accumulator, written_in}
use Rattle.dm_exec.specs.declared.operation.Operation.{Operation}
use Rattle.dm_exec.specs.declared.operation.StringOperation.{StringOperation}
use Rattle.dm_exec.specs.declared.operation.StringOperation.TheVariants.{Compare, Load, Move, Scan, Store}
use Rattle.dm_exec.specs.Effect.{operation_effect, effect}
use Rattle.dm_exec.specs.Strings.{counted, destination_advanced, ends, once, source, source_advanced, string_effect}
use Rattle.dm_laws.specs.instructions.Repetitions.{IsRepeated, OnlyCounts, RepetitionIsElements, elements, performed, with_cx_ip}

-- an element depends on neither CX nor IP, and leaves both
segment-same : (g : Guest) (cx ip : ℕ) (override : Option SegmentRegister) →
    data_segment (with_cx_ip g cx ip).cpu override g.cpu.ds ≡ data_segment g.cpu override g.cpu.ds
unfolding segment_of
segment-same g cx ip None = refl
segment-same g cx ip (Some Es) = refl
segment-same g cx ip (Some Cs) = refl
segment-same g cx ip (Some Ss) = refl
segment-same g cx ip (Some Ds) = refl

source-same : (w : Width) (g : Guest) (cx ip : ℕ) (override : Option SegmentRegister) →
    source w (with_cx_ip g cx ip) override ≡ source w g override
unfolding source
source-same w g cx ip override = ap (λ s. read_in w g.memory s g.cpu.si) (segment-same g cx ip override)

accumulator-same : (w : Width) (g : Guest) (cx ip : ℕ) → accumulator w (with_cx_ip g cx ip).cpu ≡ accumulator w g.cpu
unfolding accumulator byte_of word_of
accumulator-same Byte g cx ip = refl
accumulator-same Word g cx ip = refl

loaded-same : (w : Width) (g : Guest) (cx ip v : ℕ) →
    on_cpu (with_cx_ip g cx ip) (source_advanced w (with_accumulator w (with_cx_ip g cx ip).cpu v))
    ≡ with_cx_ip (on_cpu g (source_advanced w (with_accumulator w g.cpu v))) cx ip
unfolding source_advanced with_accumulator with_byte with_word
loaded-same Byte g cx ip v = refl
loaded-same Word g cx ip v = refl

once-same : (w : Width) (g : Guest) (cx ip : ℕ) (override : Option SegmentRegister) (operation : StringOperation) →
    OnlyCounts operation → once w (with_cx_ip g cx ip) override operation
    ≡ with_cx_ip (once w g override operation) cx ip
unfolding once source_advanced destination_advanced
once-same w g cx ip override Move o = ap (λ v. on_cpu (record g { memory = written_in w g.memory g.cpu.es g.cpu.di v })
    (destination_advanced w (source_advanced w (with_cx_ip g cx ip).cpu))) (source-same w g cx ip override)
once-same w g cx ip override Compare o = absurd o
once-same w g cx ip override Store o = ap (λ v. on_cpu (record g { memory = written_in w g.memory g.cpu.es g.cpu.di v })
    (destination_advanced w (with_cx_ip g cx ip).cpu)) (accumulator-same w g cx ip)
once-same w g cx ip override Load o =
    ap (λ v. on_cpu (with_cx_ip g cx ip) (source_advanced w (with_accumulator w (with_cx_ip g cx ip).cpu v)))
    (source-same w g cx ip override) ∙ loaded-same w g cx ip (source w g override)
once-same w g cx ip override Scan o = absurd o

never-ends : (r : Repeat) (operation : StringOperation) (c : Cpu) → OnlyCounts operation →
    ends r operation c.flags ≡ false
unfolding ends
never-ends r Move c o = refl
never-ends r Compare c o = absurd o
never-ends r Store c o = refl
never-ends r Load c o = refl
never-ends r Scan c o = absurd o

nonzero : (c : ℕ) → 0 < c → nat_eq c 0 ≡ false
nonzero c h = grind (arith, nat_tests)

or-false : (x y : Bool) → y ≡ false → x || y ≡ x
or-false true y e = refl
or-false false y e = e

counts : (r : Repeat) (operation : StringOperation) (start : ℕ) (E : Guest) (c past : ℕ) → OnlyCounts operation →
    0 < c → c < 65536 → on_cpu (with_cx_ip E c past) (counted r operation start (with_cx_ip E c past).cpu)
    ≡ with_cx_ip E (c - 1) (if nat_eq (c - 1) 0 then past else start)
unfolding counted
counts r operation start E c past o h k =
    let d : down c 1 ≡ c - 1 = omega arith in
    ap (λ (t : Bool). with_cx_ip E (down c 1) (if t then past else start)) (or-false (nat_eq (down c 1) 0)
    (ends r operation (with_cx_ip E c past).cpu.flags) (never-ends r operation (with_cx_ip E c past).cpu o))
    ∙ ap (λ z. with_cx_ip E z (if nat_eq z 0 then past else start)) d

chosen : (b : Bool) (g h : Guest) → b ≡ false → (if b then g else h) ≡ h
chosen true g h e = absurd (let z : true ≡ false = e in cc)
chosen false g h e = refl

taken : (b : Bool) (g h : Guest) → b ≡ true → (if b then g else h) ≡ g
taken true g h e = refl
taken false g h e = absurd (let z : false ≡ true = e in cc)

module _ (i : Ins) (len : ℕ) (w : Width) (operation : StringOperation) (s : IsRepeated i w operation)
    (o : OnlyCounts operation) where
  effect-is : (g : Guest) → effect g i len ≡ string_effect w (at_ip g (up g.cpu.ip len)) i.prefixes.segment
      (Some s.repeat) operation g.cpu.ip
  unfolding effect
  effect-is g =
      ap (λ (x : Operation). operation_effect (at_ip g (up g.cpu.ip len)) i.prefixes g.cpu.ip x i.action.first
      i.action.second) s.string
      ∙ ap (λ (p : Option Repeat). string_effect w (at_ip g (up g.cpu.ip len)) i.prefixes.segment p operation g.cpu.ip)
      s.prefixed

  -- one repetition, where CX is not 0
  step : (E : Guest) (c ip : ℕ) → 0 < c → c < 65536 → effect (with_cx_ip E c ip) i len
      ≡ with_cx_ip (once w E i.prefixes.segment operation) (c - 1) (if nat_eq (c - 1) 0 then up ip len else ip)
  unfolding string_effect
  step E c ip h k =
      let past = up ip len in
      let H : Guest = once w (with_cx_ip E c past) i.prefixes.segment operation in
      effect-is (with_cx_ip E c ip)
      ∙ chosen (nat_eq c 0) (with_cx_ip E c past) (on_cpu H (counted s.repeat operation ip H.cpu)) (nonzero c h)
      ∙ ap (λ (x : Guest). on_cpu x (counted s.repeat operation ip x.cpu))
      (once-same w E c past i.prefixes.segment operation o)
      ∙ counts s.repeat operation ip (once w E i.prefixes.segment operation) c past o h k

  module _ (g : Guest) (small : g.cpu.cx < 65536) where
    after : ℕ → Guest
    after n = elements n w i.prefixes.segment operation g

    part : (n : ℕ) → n < g.cpu.cx → performed n i len g ≡ with_cx_ip (elements n w i.prefixes.segment operation g)
        (g.cpu.cx - n) g.cpu.ip
    part zero h = ap (λ z. with_cx_ip g z g.cpu.ip) (let e : g.cpu.cx ≡ g.cpu.cx - 0 = omega arith in e)
    part (suc n) h =
        let E : Guest = elements n w i.prefixes.segment operation g in
        let F : Guest = elements (suc n) w i.prefixes.segment operation g in
        let c = g.cpu.cx - n in
        let less : c - 1 ≡ g.cpu.cx - suc n = omega arith in
        ap (λ x. effect x i len) (part n (omega arith)) ∙ step E c g.cpu.ip (omega arith) (omega arith)
        ∙ ap (λ (t : Bool). with_cx_ip F (c - 1) (if t then up g.cpu.ip len else g.cpu.ip))
        (nonzero (c - 1) (omega arith))
        ∙ ap (λ z. with_cx_ip F z g.cpu.ip) less

    whole : (k : ℕ) → k ≡ g.cpu.cx → 0 < k → performed k i len g
        ≡ with_cx_ip (elements k w i.prefixes.segment operation g) 0 (up g.cpu.ip len)
    whole zero e h = absurd (omega arith)
    whole (suc m) e h =
        let E : Guest = elements m w i.prefixes.segment operation g in
        let F : Guest = elements (suc m) w i.prefixes.segment operation g in
        let c = g.cpu.cx - m in
        let last : c - 1 ≡ 0 = omega arith in
        ap (λ x. effect x i len) (part m (omega arith)) ∙ step E c g.cpu.ip (omega arith) (omega arith)
        ∙ ap (λ z. with_cx_ip F z (if nat_eq z 0 then up g.cpu.ip len else g.cpu.ip)) last

    none : g.cpu.cx ≡ 0 → effect g i len ≡ at_ip g (up g.cpu.ip len)
    unfolding string_effect
    none e =
        let past = up g.cpu.ip len in
        let H : Guest = once w (at_ip g past) i.prefixes.segment operation in
        effect-is g ∙ taken (nat_eq g.cpu.cx 0) (at_ip g past) (on_cpu H (counted s.repeat operation g.cpu.ip H.cpu))
        (ap (λ z. nat_eq z 0) e)

pub repetition : RepetitionIsElements
repetition g i len w operation s o small = record {
  part = part i len w operation s o g small;
  whole = whole i len w operation s o g small g.cpu.cx refl;
  none = none i len w operation s o g small;
}
