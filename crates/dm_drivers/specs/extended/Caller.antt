-- What a call of the extended memory driver reads and changes, and the registers that it returns (XMS 3.0: AX is 1
-- for success, except in 00h, in 08h, and in 07h while A20 is off; for an error AX is 0, and BL is its code).
use Rattle.std.specs.Prelude.{ℕ, Result, Ok, Err}
use Rattle.dm_space.specs.Memory.{Memory}
use Rattle.dm_ins.specs.declared.operand.ByteRegister.TheVariants.{Bl}
use Rattle.dm_cpu.specs.declared.cpu.Cpu.{Cpu}
use Rattle.dm_cpu.specs.Cpu.{with_byte}
use Rattle.dm_xms.specs.declared.status.Status.{Status}
use Rattle.dm_xms.specs.Status.{code_of}
use Rattle.dm_xms.specs.Tables.{Tables, Extended, extended}
use Rattle.dm_xms.specs.Calls.{result_of, state_after}

-- the registers of the program that calls, the tables of the driver, and the memory
pub record Caller : Type 0 where
  pub cpu : Cpu
  pub x : Extended

-- registers, tables and memory as one state
abbrev pub caller : Cpu → Tables → Memory → Caller
caller cpu xms memory = record { cpu = cpu; x = extended xms memory }

-- the state with other registers; tables and memory stay
abbrev pub on_cpu : Caller → Cpu → Caller
on_cpu c cpu = record c { cpu = cpu }

-- the registers after success: AX is 1, the others stay
abbrev pub succeeded : Cpu → Cpu
succeeded cpu = record cpu { ax = 1 }

-- the registers after an error: AX is 0 and BL its code, the others stay. With code 0 those of 07h while A20 is off
abbrev pub refused : Cpu → ℕ → Cpu
refused cpu code = with_byte (record cpu { ax = 0 }) Bl code

-- the registers after a call: if it succeeds, `set` of the result, and AX is 1; else AX is 0 and BL the error code,
-- and the others stay
abbrev pub settled : {A : Type 0} → Cpu → Result A Status → (A → Cpu) → Cpu
settled cpu (Ok v) set = succeeded (set v)
settled cpu (Err e) set = refused cpu (code_of e)

-- the state after a call: registers as in `settled`, and the tables and memory that the call leaves, which an error
-- does not change
abbrev pub after_call : {A : Type 0} → Caller → Result (A × Extended) Status → (A → Cpu) → Caller
after_call c r set = record { cpu = settled c.cpu (result_of r) set; x = state_after c.x r }

-- the state after a call that changes the tables but not memory: registers as in `settled`, and the tables that the
-- call leaves
abbrev pub after_tables : {A : Type 0} → Caller → Result (A × Tables) Status → (A → Cpu) → Caller
after_tables c r set = record { cpu = settled c.cpu (result_of r) set; x = extended (state_after c.x.xms r) c.x.memory }

-- the state after a call that may change tables and memory even where it returns an error (04h and 06h): registers as
-- in `settled`, and the tables and memory that the call leaves
abbrev pub after_act : Caller → (Result (Unit {0}) Status × Extended) → Caller
after_act c r = record { cpu = settled c.cpu r.0 (λ done. c.cpu); x = r.1 }
