-- What a call of INT 67h reads and changes, and the registers that it returns (LIM EMS 4.0, section 3: AH is the
-- status, 0 for success).
use Rattle.std.specs.Prelude.{ℕ, Result, Ok, Err}
use Rattle.dm_space.specs.Memory.{Memory}
use Rattle.dm_ins.specs.declared.operand.ByteRegister.TheVariants.{Ah}
use Rattle.dm_cpu.specs.declared.cpu.Cpu.{Cpu}
use Rattle.dm_cpu.specs.Cpu.{with_byte}
use Rattle.dm_ems.specs.declared.status.Status.{Status}
use Rattle.dm_ems.specs.Status.{code_of}
use Rattle.dm_ems.specs.Tables.{Tables, Expanded, expanded}
use Rattle.dm_ems.specs.Calls.{result_of, state_after}

-- the registers of the program that calls, the tables of the driver, and the memory
pub record Caller : Type 0 where
  pub cpu : Cpu
  pub x : Expanded

-- registers, tables and memory as one state
abbrev pub caller : Cpu → Tables → Memory → Caller
caller cpu ems memory = record { cpu = cpu; x = expanded ems memory }

-- the registers with this status in AH; the others stay
abbrev pub with_status : Cpu → ℕ → Cpu
with_status c status = with_byte c Ah status

-- the state with other registers; tables and memory stay
abbrev pub on_cpu : Caller → Cpu → Caller
on_cpu c cpu = record c { cpu = cpu }

-- the registers after success: AH is 0, the others stay
abbrev pub succeeded : Cpu → Cpu
succeeded cpu = with_status cpu 0

-- the registers after an error: AH is its status, the others stay
abbrev pub refused : Cpu → Status → Cpu
refused cpu e = with_status cpu (code_of e)

-- the registers after a call: if it succeeds, `set` of the result, and AH is 0; else AH alone changes, to the status
-- of the error
abbrev pub settled : {A : Type 0} → Cpu → Result A Status → (A → Cpu) → Cpu
settled cpu (Ok v) set = succeeded (set v)
settled cpu (Err e) set = refused cpu e

-- the registers after a call: if it succeeds, `set` of the result, which sets AH too; else AH alone changes, to the
-- status of the error
abbrev pub settled_with_status : {A : Type 0} → Cpu → Result A Status → (A → Cpu) → Cpu
settled_with_status cpu (Ok v) set = set v
settled_with_status cpu (Err e) set = refused cpu e

-- the state after a call: registers as in `settled`, and the tables and memory that the call leaves, which an error
-- does not change
abbrev pub after_call : {A : Type 0} → Caller → Result (A × Expanded) Status → (A → Cpu) → Caller
after_call c r set = record { cpu = settled c.cpu (result_of r) set; x = state_after c.x r }

-- the same with registers as in `settled_with_status`
abbrev pub after_call_with_status : {A : Type 0} → Caller → Result (A × Expanded) Status → (A → Cpu) → Caller
after_call_with_status c r set = record { cpu = settled_with_status c.cpu (result_of r) set; x = state_after c.x r }

-- the state after a list is written, which cannot fail: `set` of its count, AH is 0, and the tables and memory with the
-- list
abbrev pub after_list : Caller → (ℕ × Expanded) → (ℕ → Cpu) → Caller
after_list c told set = record { cpu = succeeded (set told.0); x = told.1 }
