-- Calls keep the tables and the memory consistent, and leave what is outside.
use Rattle.std.proofs.Common.{ℕ, ◌==◌, Bool, true, false, cond, List, Option, Some, None, Ok}
use Rattle.dm_ins.specs.declared.operand.ByteRegister.TheVariants.{Al, Ah}
use Rattle.dm_cpu.specs.declared.cpu.Cpu.{Cpu}
use Rattle.dm_cpu.specs.Cpu.{byte_of}
use Rattle.dm_ems.specs.declared.status.Status.TheVariants.{UnknownHandle}
use Rattle.dm_ems.specs.declared.tables.Handle.{Handle}
use Rattle.dm_ems.specs.Consistent.{IsConsistent}
use Rattle.dm_ems.specs.inner.Outside.{LeavesOutside}
use Rattle.dm_ems.specs.Calls.{slot, state_after, need}
use Rattle.dm_ems.specs.Names as names
use Rattle.dm_ems.specs.Names.{writing}
use Rattle.dm_ems.proofs.Keeping.{calls_keep, writes_keep}
use Rattle.dm_ems.proofs.Leaving.{calls_leave, leaves_all, leaves_shaped}
use Rattle.dm_ems_move.proofs.Keeping.{moves_keep}
use Rattle.dm_ems_move.proofs.Leaving.{moves_leave}
use Rattle.dm_ems_move.proofs.Shown.{bytes_shaped}
use Rattle.dm_drivers.specs.expanded.Caller.{Caller}
use Rattle.dm_drivers.specs.declared.expanded.functions.Function.{Function}
use Rattle.dm_drivers.specs.declared.expanded.functions.Function.TheVariants.{Status, Frame, PageCounts, Allocate, MapPage, Deallocate, Version, SaveMap, RestoreMap, CountHandles, CountPages, ListPages, WholeMap, MapMany, Reallocate, HandleName, Directory, Regions, Mappable, Unknown}
use Rattle.dm_drivers.specs.expanded.Functions.{call, function_of, handle_name, directory, regions, mappable}
use Rattle.dm_drivers.specs.expanded.inner.Laws.{ExpandedMemoryCallsKeep}

-- what a call does to the tables and the memory
record Keeps (c d : Caller) : Type 0 where
  pub consistency : IsConsistent c.x → IsConsistent d.x
  pub outside : LeavesOutside c.x d.x

nothing : (c : Caller) (cpu : Cpu) → Keeps c (record c { cpu = cpu })
nothing c cpu = record { consistency = λ l. l; outside = leaves_all c.x }

choice : (c : Caller) (b : Bool) (d e : Caller) → Keeps c d → Keeps c e → Keeps c (cond b d e)
choice c true d e h g = h
choice c false d e h g = g

-- ---- bytes

writing_keeps : (c : Caller) (cpu : Cpu) (s o : ℕ) (bytes : List ℕ) →
    Keeps c (record { cpu = cpu; x = writing c.x s o bytes })
writing_keeps c cpu s o bytes =
    let shape = bytes_shaped c.x.memory s o bytes in
    record { consistency = writes_keep c.x _ shape; outside = leaves_shaped c.x _ shape }

told_keeps : (c : Caller) (cpu : Cpu) (o : Option Handle) (s p : ℕ) →
    Keeps c (record {
      cpu = cpu;
      x = state_after c.x (need o UnknownHandle (λ (h : Handle). Ok (
        tt {0},
        writing c.x s p h.name,
      )));
    })
told_keeps c cpu None s p = nothing c cpu
told_keeps c cpu (Some h) s p = writing_keeps c cpu s p h.name

-- ---- the functions with subfunctions

handle_name_keeps : (c : Caller) (n : ℕ) → Keeps c (handle_name c n)
unfolding handle_name names.get_name
handle_name_keeps c n =
    choice c (n == 0) _ _ (told_keeps c _ (slot c.x c.cpu.dx) c.cpu.es c.cpu.di)
    (choice c (n == 1) _ _ (record {
      consistency = calls_keep.naming c.x c.cpu.dx c.cpu.ds c.cpu.si;
      outside = calls_leave.naming c.x c.cpu.dx c.cpu.ds c.cpu.si;
    })
    (nothing c _))

directory_keeps : (c : Caller) (n : ℕ) → Keeps c (directory c n)
unfolding directory names.list_names
directory_keeps c n =
    choice c (n == 0) _ _ (writing_keeps c _ c.cpu.es c.cpu.di _)
    (choice c (n == 1) _ _ (nothing c _)
    (choice c (n == 2) _ _ (nothing c _)
    (nothing c _)))

regions_keeps : (c : Caller) (n : ℕ) → Keeps c (regions c n)
unfolding regions
regions_keeps c n =
    choice c (n == 0) _ _ (record {
      consistency = moves_keep.moving c.x c.cpu.ds c.cpu.si;
      outside = moves_leave.moving c.x c.cpu.ds c.cpu.si;
    })
    (choice c (n == 1) _ _ (record {
      consistency = moves_keep.exchanging c.x c.cpu.ds c.cpu.si;
      outside = moves_leave.exchanging c.x c.cpu.ds c.cpu.si;
    })
    (nothing c _))

mappable_keeps : (c : Caller) (n : ℕ) → Keeps c (mappable c n)
unfolding mappable
mappable_keeps c n =
    choice c (n == 0) _ _ (writing_keeps c _ c.cpu.es c.cpu.di _)
    (choice c (n == 1) _ _ (nothing c _)
    (nothing c _))

-- ---- all functions

call_keeps : (c : Caller) (f : Function) → Keeps c (call c f)
unfolding call names.list_pages
call_keeps c Status = nothing c _
call_keeps c Frame = nothing c _
call_keeps c PageCounts = nothing c _
call_keeps c Allocate = record {
  consistency = calls_keep.allocating c.x c.cpu.bx;
  outside = calls_leave.allocating c.x c.cpu.bx;
}
call_keeps c MapPage = record {
  consistency = calls_keep.mapping c.x (byte_of c.cpu Al) c.cpu.bx c.cpu.dx;
  outside = calls_leave.mapping c.x (byte_of c.cpu Al) c.cpu.bx c.cpu.dx;
}
call_keeps c Deallocate = record {
  consistency = calls_keep.deallocating c.x c.cpu.dx;
  outside = calls_leave.deallocating c.x c.cpu.dx;
}
call_keeps c Version = nothing c _
call_keeps c SaveMap = record {
  consistency = calls_keep.saving c.x c.cpu.dx;
  outside = calls_leave.saving c.x c.cpu.dx;
}
call_keeps c RestoreMap = record {
  consistency = calls_keep.restoring c.x c.cpu.dx;
  outside = calls_leave.restoring c.x c.cpu.dx;
}
call_keeps c CountHandles = nothing c _
call_keeps c CountPages = nothing c _
call_keeps c ListPages = writing_keeps c _ c.cpu.es c.cpu.di _
call_keeps c WholeMap = record {
  consistency = moves_keep.setting c.x (byte_of c.cpu
      Al) c.cpu.es c.cpu.di c.cpu.ds c.cpu.si;
  outside = moves_leave.setting c.x (byte_of c.cpu Al) c.cpu.es c.cpu.di c.cpu.ds c.cpu.si;
}
call_keeps c MapMany = record {
  consistency = moves_keep.mapping c.x (byte_of c.cpu
      Al) c.cpu.dx c.cpu.cx c.cpu.ds c.cpu.si;
  outside = moves_leave.mapping c.x (byte_of c.cpu Al) c.cpu.dx c.cpu.cx c.cpu.ds c.cpu.si;
}
call_keeps c Reallocate = record {
  consistency = moves_keep.reallocating c.x c.cpu.dx c.cpu.bx;
  outside = moves_leave.reallocating c.x c.cpu.dx c.cpu.bx;
}
call_keeps c HandleName = handle_name_keeps c (byte_of c.cpu Al)
call_keeps c Directory = directory_keeps c (byte_of c.cpu Al)
call_keeps c Regions = regions_keeps c (byte_of c.cpu Al)
call_keeps c Mappable = mappable_keeps c (byte_of c.cpu Al)
call_keeps c Unknown = nothing c _

pub keep : ExpandedMemoryCallsKeep
keep = record {
  consistency = λ c. (call_keeps c (function_of (byte_of c.cpu Ah))).consistency;
  outside = λ c. (call_keeps c (function_of (byte_of c.cpu Ah))).outside;
}
