-- What a repeated string instruction comes to: as many elements as CX says, one after the other. (Each repetition is an
-- instruction of its own, after which IP is at the first prefix again, until CX is 0.)
-- Source: Intel 8086 Family User's Manual, section 2.7, String Instructions, Repeat.
use Rattle.std.specs.Prelude.{Option, Some, suc, zero, ℕ, ◌-◌, ◌<◌, ◌≡◌}
use Rattle.dm_alu.specs.declared.width.Width.{Width}
use Rattle.dm_ins.specs.declared.ins.Ins.{Ins}
use Rattle.dm_ins.specs.declared.operand.SegmentRegister.{SegmentRegister}
use Rattle.dm_ins.specs.declared.prefix.Repeat.{Repeat}
use Rattle.dm_cpu.specs.Guest.{Guest, at_ip, on_cpu, up}
use Rattle.dm_exec.specs.declared.operation.Operation.TheVariants.{String}
use Rattle.dm_exec.specs.declared.operation.StringOperation.{StringOperation}
use Rattle.dm_exec.specs.declared.operation.StringOperation.TheVariants.{Compare, Load, Move, Scan, Store}
use Rattle.dm_exec.specs.Effect.{effect}
use Rattle.dm_exec.specs.Operation.{operation_of}
use Rattle.dm_exec.specs.Strings.{once}

-- the guest after an instruction of `len` bytes is performed n times
abbrev pub performed : ℕ → Ins → ℕ → Guest → Guest
performed zero i len g = g
performed (suc n) i len g = effect (performed n i len g) i len

-- the guest after n elements of a string operation without a repeat prefix, which leaves CX and IP
abbrev pub elements : ℕ → Width → Option SegmentRegister → StringOperation → Guest → Guest
elements zero w override operation g = g
elements (suc n) w override operation g = once w (elements n w override operation g) override operation

-- the guest with other values in CX and IP
abbrev pub with_cx_ip : Guest → ℕ → ℕ → Guest
with_cx_ip g cx ip = on_cpu g (record g.cpu { cx = cx; ip = ip })

-- MOVS, STOS or LODS, whose repetitions no comparison ends
abbrev pub OnlyCounts : StringOperation → Type 0
OnlyCounts Move = Unit {0}
OnlyCounts Compare = ⊥
OnlyCounts Store = Unit {0}
OnlyCounts Load = Unit {0}
OnlyCounts Scan = ⊥

-- i is this string operation with a repeat prefix
pub record IsRepeated (i : Ins) (w : Width) (operation : StringOperation) : Type 0 where
  pub repeat : Repeat
  pub prefixed : i.prefixes.repeat ≡ Some repeat
  pub string : operation_of i.action.mnemonic ≡ String operation w

-- performed fewer times than CX says, it has done as many elements, CX is so much lower, and IP is at the instruction
-- again; as many times as CX says, it has done them all, CX is 0, and IP is past the instruction
pub record RepeatsByCx (g : Guest) (i : Ins) (len : ℕ) (w : Width) (operation : StringOperation) : Type 0 where
  pub part : (n : ℕ) → n < g.cpu.cx → performed n i len g ≡ with_cx_ip (elements n w i.prefixes.segment operation g)
      (g.cpu.cx - n) g.cpu.ip
  pub whole : 0 < g.cpu.cx → performed g.cpu.cx i len g ≡ with_cx_ip (elements g.cpu.cx w i.prefixes.segment operation
      g) 0 (up g.cpu.ip len)
  pub none : g.cpu.cx ≡ 0 → performed 1 i len g ≡ at_ip g (up g.cpu.ip len)

-- REP with MOVS, STOS and LODS does as many elements as CX says
abbrev pub RepetitionIsElements : Type 0
RepetitionIsElements =
    (g : Guest) (i : Ins) (len : ℕ) (w : Width) (operation : StringOperation) → IsRepeated i w operation →
    OnlyCounts operation → g.cpu.cx < 65536
    → RepeatsByCx g i len w operation
