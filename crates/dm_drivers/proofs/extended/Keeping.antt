-- Calls keep the tables and the memory consistent, and leave what is outside.
use Rattle.std.proofs.Common.{Bool, true, false, if◌then◌else◌, Err}
use Rattle.dm_ins.specs.declared.operand.ByteRegister.TheVariants.{Ah}
use Rattle.dm_cpu.specs.Cpu.{byte_of}
use Rattle.dm_cpu.specs.declared.cpu.Cpu.{Cpu}
use Rattle.dm_xms.specs.declared.tables.Upper.{Upper}
use Rattle.dm_xms.specs.declared.uppers.UpperRefusal.TheVariants as refusal
use Rattle.dm_xms.specs.Uppers.{request_upper, release_upper, resize_upper}
use Rattle.dm_xms.specs.Tables.{Extended}
use Rattle.dm_xms.specs.Consistent.{IsConsistent}
use Rattle.dm_xms.specs.inner.Outside.{LeavesOutside}
use Rattle.dm_xms.proofs.Consistent.{calls_keep}
use Rattle.dm_xms.proofs.Leaving.{calls_leave, leaves_all}
use Rattle.dm_drivers.specs.extended.Caller.{Caller}
use Rattle.dm_drivers.specs.extended.Uppers as uppers
use Rattle.dm_drivers.specs.declared.extended.functions.Function.{Function}
use Rattle.dm_drivers.specs.declared.extended.functions.Function.TheVariants.{Version, TakeArea, ReleaseArea, EnableGlobally, DisableGlobally, EnableLocally, DisableLocally, Line, FreeSize, Allocate, Deallocate, MoveMemory, Lock, Unlock, Information, Reallocate, RequestUpper, ReleaseUpper, ResizeUpper, Unknown}
use Rattle.dm_drivers.specs.extended.Functions.{call, function_of}
use Rattle.dm_drivers.specs.extended.inner.Laws.{ExtendedMemoryCallsKeep}

-- what a call does to the tables and the memory
record Keeps (x y : Extended) : Type 0 where
  pub consistency : IsConsistent x → IsConsistent y
  pub outside : LeavesOutside x y

nothing : (x : Extended) → Keeps x x
nothing x = record { consistency = λ l. l; outside = leaves_all x }

request_keeps : (upper : Bool) (c : Caller) (set : Upper → Cpu) → Keeps c.x (uppers.after_call c (if upper then
    Err refusal.NoneFree else request_upper c.x.xms c.cpu.dx) set).x
request_keeps true c set = nothing c.x
request_keeps false c set = record {
  consistency = calls_keep.requesting c.x c.cpu.dx;
  outside = calls_leave.requesting c.x c.cpu.dx;
}

release_keeps : (upper : Bool) (c : Caller) (set : Unit {0} → Cpu) →
    Keeps c.x (uppers.after_call c (if upper then Err refusal.Unknown else release_upper c.x.xms c.cpu.dx) set).x
release_keeps true c set = nothing c.x
release_keeps false c set = record {
  consistency = calls_keep.releasing c.x c.cpu.dx;
  outside = calls_leave.releasing c.x c.cpu.dx;
}

resize_keeps : (upper : Bool) (c : Caller) (set : Unit {0} → Cpu) →
    Keeps c.x (uppers.after_call c (if upper then Err refusal.Unknown else
    resize_upper c.x.xms c.cpu.dx c.cpu.bx) set).x
resize_keeps true c set = nothing c.x
resize_keeps false c set = record {
  consistency = calls_keep.resizing c.x c.cpu.dx c.cpu.bx;
  outside = calls_leave.resizing c.x c.cpu.dx c.cpu.bx;
}

call_keeps : (upper : Bool) (c : Caller) (f : Function) → Keeps c.x (call upper c f).x
unfolding call
call_keeps upper c Version = nothing c.x
call_keeps upper c TakeArea = record { consistency = calls_keep.taking_area c.x; outside = calls_leave.taking_area c.x }
call_keeps upper c ReleaseArea = record {
  consistency = calls_keep.releasing_area c.x;
  outside = calls_leave.releasing_area c.x;
}
call_keeps upper c EnableGlobally = record {
  consistency = calls_keep.enabling_globally c.x;
  outside = calls_leave.enabling_globally c.x;
}
call_keeps upper c DisableGlobally = record {
  consistency = calls_keep.disabling_globally c.x;
  outside = calls_leave.disabling_globally c.x;
}
call_keeps upper c EnableLocally = record {
  consistency = calls_keep.enabling_locally c.x;
  outside = calls_leave.enabling_locally c.x;
}
call_keeps upper c DisableLocally = record {
  consistency = calls_keep.disabling_locally c.x;
  outside = calls_leave.disabling_locally c.x;
}
call_keeps upper c Line = nothing c.x
call_keeps upper c FreeSize = nothing c.x
call_keeps upper c Allocate = record {
  consistency = calls_keep.allocating c.x c.cpu.dx;
  outside = calls_leave.allocating c.x c.cpu.dx;
}
call_keeps upper c Deallocate = record {
  consistency = calls_keep.deallocating c.x c.cpu.dx;
  outside = calls_leave.deallocating c.x c.cpu.dx;
}
call_keeps upper c MoveMemory = record {
  consistency = calls_keep.moving c.x c.cpu.ds c.cpu.si;
  outside = calls_leave.moving c.x c.cpu.ds c.cpu.si;
}
call_keeps upper c Lock = record {
  consistency = calls_keep.locking c.x c.cpu.dx;
  outside = calls_leave.locking c.x c.cpu.dx;
}
call_keeps upper c Unlock = record {
  consistency = calls_keep.unlocking c.x c.cpu.dx;
  outside = calls_leave.unlocking c.x c.cpu.dx;
}
call_keeps upper c Information = nothing c.x
call_keeps upper c Reallocate = record {
  consistency = calls_keep.reallocating c.x c.cpu.dx c.cpu.bx;
  outside = calls_leave.reallocating c.x c.cpu.dx c.cpu.bx;
}
call_keeps upper c RequestUpper = request_keeps upper c (λ u. record c.cpu { bx = u.segment; dx = u.paragraphs })
call_keeps upper c ReleaseUpper = release_keeps upper c (λ done. c.cpu)
call_keeps upper c ResizeUpper = resize_keeps upper c (λ done. c.cpu)
call_keeps upper c Unknown = nothing c.x

pub keep : ExtendedMemoryCallsKeep
keep = record {
  consistency = λ upper c. (call_keeps upper c (function_of (byte_of c.cpu Ah))).consistency;
  outside = λ upper c. (call_keeps upper c (function_of (byte_of c.cpu Ah))).outside;
}
