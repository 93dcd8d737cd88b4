use Rattle.std.proofs.Common.{refl}
use Rattle.std.proofs.KnownBytes.{Keeps-refl}
use Rattle.dm_cli.specs.Program.{runs, checks, debugs, debugs_by_gdb, assembles, disassembles}
use Rattle.dm_cli.proofs.commands.dm_main.Goals as goal

pub returns-in-Ok-Run : goal.returns-in-Ok-Run
returns-in-Ok-Run g c =
    runs _ _ (record {
      right = c.in-Ok-Run.ensures.no_fault;
      says = rw c.in-Ok-Run.field-0-is at c.in-Ok-Run.ensures.ok;
    }) (rw c.in-Ok-Run.field-0-is at c.run.ensures.does)
    c.report.ensures.line (c.run.ensures.kept.saves, c.run.ensures.kept.count, c.run.ensures.kept.found_same) c.run.ensures.reads
    c.report.ensures.status

pub returns-in-Ok-Check : goal.returns-in-Ok-Check
returns-in-Ok-Check g c =
    checks _ _ _ (record {
      right = c.in-Ok-Check.ensures.no_fault;
      says = rw c.in-Ok-Check.field-0-is at c.in-Ok-Check.ensures.ok;
    })
    (rw c.in-Ok-Check.field-0-is at c.check.ensures.does)
    c.concluded.ensures.line (c.check.ensures.kept.saves, c.check.ensures.kept.count, c.check.ensures.kept.found_same) c.check.ensures.reads
    c.concluded.ensures.status

pub returns-in-Ok-Debug : goal.returns-in-Ok-Debug
returns-in-Ok-Debug g c =
    debugs _ _ (record {
      right = c.in-Ok-Debug.ensures.no_fault;
      says = rw c.in-Ok-Debug.field-0-is at c.in-Ok-Debug.ensures.ok;
    })
    (rw c.in-Ok-Debug.field-0-is at c.debug.ensures.does)
    c.told.ensures.line (c.debug.ensures.kept.saves, c.debug.ensures.kept.count, c.debug.ensures.kept.found_same) c.debug.ensures.reads
    c.told.ensures.status

pub returns-in-Ok-Gdb : goal.returns-in-Ok-Gdb
returns-in-Ok-Gdb g c =
    debugs_by_gdb _ _ (record {
      right = c.in-Ok-Gdb.ensures.no_fault;
      says = rw c.in-Ok-Gdb.field-0-is at c.in-Ok-Gdb.ensures.ok;
    }) (rw c.in-Ok-Gdb.field-0-is at c.gdb.ensures.does)
    c.told-in-Ok-Gdb.ensures.line (c.gdb.ensures.kept.saves, c.gdb.ensures.kept.count, c.gdb.ensures.kept.found_same) c.gdb.ensures.reads
    c.told-in-Ok-Gdb.ensures.status

pub returns-in-Ok-Asm : goal.returns-in-Ok-Asm
returns-in-Ok-Asm g c =
    assembles _ _ (record {
      right = c.in-Ok-Asm.ensures.no_fault;
      says = rw c.in-Ok-Asm.field-0-is at c.in-Ok-Asm.ensures.ok;
    }) (rw c.in-Ok-Asm.field-0-is at c.asm.ensures.does)
    c.told-in-Ok-Asm.ensures.line (Keeps-refl _, refl) c.asm.ensures.reads c.told-in-Ok-Asm.ensures.status

pub returns-in-Ok-Disasm : goal.returns-in-Ok-Disasm
returns-in-Ok-Disasm g c =
    disassembles c.in-Ok-Disasm.path _ (record {
      right = c.in-Ok-Disasm.ensures.no_fault;
      says = rw c.in-Ok-Disasm.field-0-is at c.in-Ok-Disasm.ensures.ok;
    })
    (rw c.in-Ok-Disasm.field-0-is at c.disasm.ensures.does)
    c.told-in-Ok-Disasm.ensures.line (c.disasm.ensures.kept.saves, c.disasm.ensures.kept.count, c.disasm.ensures.kept.found_same) c.disasm.ensures.reads
    c.told-in-Ok-Disasm.ensures.status
