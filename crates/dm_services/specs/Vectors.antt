-- INT 21h, interrupt vectors: MS-DOS Programmer's Reference, "Set Interrupt Vector" (25h), "Get Interrupt Vector"
-- (35h). Vector n is the words offset and segment at 0000:4n (Intel 8086 Family User's Manual, section 2.6). Each call
-- returns by popping IP, CS and FLAGS, and counts the step.
use Rattle.std.specs.Prelude.{ℕ, ◌+◌, ◌*◌}
use Rattle.dm_space.specs.Memory.{Memory, peek16, poke16}
use Rattle.dm_cpu.specs.Cpu.{byte_of}
use Rattle.dm_ins.specs.declared.operand.ByteRegister.TheVariants.{Al}
use Rattle.dm_services.specs.state.State.{State, Answer, go, interrupt_returned}

-- the memory with the vector of interrupt `number`, the two words at 0000:4*number, set to segment:offset
abbrev pub with_vector : Memory → ℕ → ℕ → ℕ → Memory
with_vector m number segment offset = poke16 (poke16 m 0 (4 * number) offset) 0 (4 * number + 2) segment

-- 25h: sets the vector of interrupt AL to DS:DX; AX stays
unfoldable pub set_vector : State → Answer
set_vector s = go (interrupt_returned (record s { memory = with_vector s.memory (byte_of s.cpu Al) s.cpu.ds s.cpu.dx }))

-- 35h: returns the vector of interrupt AL in ES:BX; memory stays
unfoldable pub get_vector : State → Answer
get_vector s = go (interrupt_returned (record s {
  cpu = record s.cpu {
    es = peek16 s.memory 0 (4 * byte_of s.cpu Al + 2);
    bx = peek16 s.memory 0 (4 * byte_of s.cpu Al);
  };
}))
