-- The registers that a call on upper memory blocks returns (XMS 3.0, functions 10h to 12h). Success sets AX to 1; an
-- error sets AX to 0 and BL to its code. Registers that are not named stay; so does memory, and after an error so do
-- the tables.
use Rattle.std.specs.Prelude.{Result, Ok, Err}
use Rattle.dm_cpu.specs.declared.cpu.Cpu.{Cpu}
use Rattle.dm_xms.specs.declared.uppers.UpperRefusal.{UpperRefusal}
use Rattle.dm_xms.specs.declared.uppers.UpperRefusal.TheVariants as refusal
use Rattle.dm_xms.specs.Tables.{Tables, extended}
use Rattle.dm_xms.specs.Calls.{result_of, state_after}
use Rattle.dm_xms.specs.Uppers.{code_of}
use Rattle.dm_drivers.specs.extended.Caller.{Caller, succeeded, refused}

-- the registers with DX after an error: for B0h the largest number of paragraphs that the call can get, for B1h 0; for
-- B2h DX stays
abbrev pub with_room : Cpu → UpperRefusal → Cpu
with_room cpu (refusal.Smaller n) = record cpu { dx = n }
with_room cpu refusal.NoneFree = record cpu { dx = 0 }
with_room cpu refusal.Unknown = cpu

-- the registers after a call: if it succeeds, `set` of the result, and AX is 1; else AX is 0, BL the error code, and
-- DX as in `with_room`
abbrev pub settled : {A : Type 0} → Cpu → Result A UpperRefusal → (A → Cpu) → Cpu
settled cpu (Ok v) set = succeeded (set v)
settled cpu (Err e) set = refused (with_room cpu e) (code_of e)

-- the state after a call on upper memory blocks, which may change the tables but not memory
abbrev pub after_call : {A : Type 0} → Caller → Result (A × Tables) UpperRefusal → (A → Cpu) → Caller
after_call c r set = record { cpu = settled c.cpu (result_of r) set; x = extended (state_after c.x.xms r) c.x.memory }
