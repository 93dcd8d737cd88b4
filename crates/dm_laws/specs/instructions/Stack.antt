-- What PUSH and POP come to: POP takes what PUSH left.
-- Source: Intel 8086 Family User's Manual, section 2.3 (stack), and section 2.7, Data Transfer Instructions.
use Rattle.std.specs.Prelude.{Option, ◌%◌, ◌+◌, ◌<◌, ◌≡◌, ◌≢◌}
use Rattle.dm_space.specs.Memory.{Fits, linear, place}
use Rattle.dm_space.specs.Places.{IsWritable}
use Rattle.dm_ins.specs.declared.operand.Operand.{Operand}
use Rattle.dm_ins.specs.declared.operand.Operand.TheVariants.{SegmentRegister as InSegment, WordRegister as InWord}
use Rattle.dm_ins.specs.declared.operand.SegmentRegister.{SegmentRegister}
use Rattle.dm_ins.specs.declared.operand.WordRegister.{WordRegister}
use Rattle.dm_ins.specs.declared.operand.WordRegister.TheVariants.{Sp}
use Rattle.dm_cpu.specs.Guest.{Guest, down, guest}
use Rattle.dm_cpu.specs.Operands.{with_operand}
use Rattle.dm_cpu.specs.Stack.{push}
use Rattle.dm_operations.specs.declared.stack.StackOperation.TheVariants.{Pop, Push}
use Rattle.dm_operations.specs.Stack.{pushed_value, stack_effect}
use Rattle.dm_laws.specs.instructions.WellFormed.{IsWellFormed}

-- memory has the sizes of the machine, and the word below the stack's top is at two places that keep what is written:
-- it is not in ROM, nor where no memory is, nor does a window show one byte of it twice
pub record HasRoomOnStack (g : Guest) : Type 0 where
  pub fits : Fits g.memory
  pub low : IsWritable (place g.memory (linear g.memory.a20 g.cpu.ss (down g.cpu.sp 2)))
  pub high : IsWritable (place g.memory (linear g.memory.a20 g.cpu.ss ((down g.cpu.sp 2 + 1) % 65536)))
  pub apart :
      place g.memory (linear g.memory.a20 g.cpu.ss ((down g.cpu.sp 2 + 1) % 65536)) ≢ place g.memory
      (linear g.memory.a20 g.cpu.ss (down g.cpu.sp 2))

-- PUSH of one operand and POP into another: the second takes what was pushed, SP is as it was, and memory has the word
-- below the stack's top; all else is as a move leaves it. Any override may stand at either instruction
abbrev pub PopTakesWhatWasPushed : Type 0
PopTakesWhatWasPushed =
    (g : Guest) (first second : Option SegmentRegister) (a b : Operand) → IsWellFormed g → HasRoomOnStack g →
    pushed_value g first a < 65536
    → stack_effect (stack_effect g first Push a) second Pop b
    ≡ with_operand (guest g.cpu (push g (pushed_value g first a)).memory) second b (pushed_value g first a)

-- PUSH and POP of a register leave all registers as they were: of a word register but SP, and of a segment register
pub record PushThenPopKeeps (g : Guest) : Type 0 where
  pub word : (r : WordRegister) → r ≢ Sp → (first second : Option SegmentRegister) →
      (stack_effect (stack_effect g first Push (InWord r)) second Pop (InWord r)).cpu ≡ g.cpu
  pub segment : (r : SegmentRegister) (first second : Option SegmentRegister) →
      (stack_effect (stack_effect g first Push (InSegment r)) second Pop (InSegment r)).cpu ≡ g.cpu

-- they do wherever the stack has room
abbrev pub PushThenPopKeepsRegisters : Type 0
PushThenPopKeepsRegisters = (g : Guest) → IsWellFormed g → HasRoomOnStack g → PushThenPopKeeps g
