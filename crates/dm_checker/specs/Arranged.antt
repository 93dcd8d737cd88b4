-- The findings about calls that free, resize or keep blocks of the arena: a block of another process that is freed, a
-- stack that is in a free block since the call, and a resident process whose block was not resized.
-- Source: MS-DOS Programmer's Reference, functions 31h, 49h and 4Ah.
use Rattle.std.specs.Prelude.{ℕ, ◌+◌, ◌==◌, ◌&&◌, ◌||◌, not, Bool, false, if◌then◌else◌, List, [], ◌∷◌, ◌++◌, Option, Some, None}
use Rattle.std.specs.List.{flat_map}
use Rattle.dm_space.specs.Memory.{linear}
use Rattle.dm_cpu.specs.declared.cpu.Cpu.{Cpu}
use Rattle.dm_cpu.specs.Guest.{up}
use Rattle.dm_blocks.specs.declared.header.Header.{Header}
use Rattle.dm_services.specs.state.State.{State}
use Rattle.dm_services.specs.Functions.{function_of}
use Rattle.dm_origins.specs.outcomes.Calls.{frees, stays_resident, resizes}
use Rattle.dm_findings.specs.declared.calls.Call.{Call}
use Rattle.dm_findings.specs.declared.calls.Call.TheVariants.{Dos}
use Rattle.dm_findings.specs.declared.finding.Finding.{Finding}
use Rattle.dm_findings.specs.declared.finding.Finding.TheVariants.{OtherFreed, StackFreed, NotResized}
use Rattle.dm_findings.specs.Calls.{call_of}
use Rattle.dm_touches.specs.Found.{is_in_free}
use Rattle.dm_checker.specs.Shown.{Shown}

-- ---- a block of another process

-- the finding that the block behind the header is the one at the segment, and belongs to a process other than the
-- present one (`present`, the segment of its prefix); none if it is another block or free
abbrev pub other_block : ℕ → ℕ → Header → List Finding
other_block present segment b =
    if (b.segment + 1 == segment) && not (b.owner == 0) && not (b.owner == present) then OtherFreed segment b.owner ∷ []
    else []

-- the finding that a call of 49h freed the block at segment ES, which another process owned; none for any other call.
-- c and d are the registers before and after the call, `headers` the arena before it
abbrev pub other_freed : ℕ → Cpu → Cpu → ℕ → List Header → List Finding
other_freed present c d number headers =
    if frees (function_of number) && not d.flags.carry then flat_map (other_block present c.es) headers else []

-- ---- the stack

-- the finding that the linear address is in the memory of the block behind the header, and the block is free
abbrev pub stack_in : ℕ → Header → List Finding
stack_in address b = if is_in_free b address then StackFreed (up b.segment 1) ∷ [] else []

-- the finding that after a call of 49h or 4Ah that succeeded the stack that it was made on is in a free block, by the
-- return address at SS:SP; `headers` is the arena after it
abbrev pub stack_freed : Bool → Cpu → Cpu → ℕ → List Header → List Finding
stack_freed a20 c d number headers =
    if (frees (function_of number) || resizes (function_of number)) && not d.flags.carry
    then flat_map (stack_in (linear a20 c.ss c.sp)) headers else []

-- ---- a resident process

-- whether one of the headers is that of the block at the segment, with this size
abbrev pub has_size : ℕ → ℕ → List Header → Bool
has_size segment size [] = false
has_size segment size (b ∷ headers) = ((b.segment + 1 == segment) && (b.size == size)) || has_size segment size headers

-- the finding that a process stays resident by 31h, and its block has another size than DX asked for; `headers` is the
-- arena after the call
abbrev pub not_resized : ℕ → Cpu → ℕ → List Header → List Finding
not_resized present c number headers =
    if stays_resident (function_of number) && not (has_size present c.dx headers) then NotResized c.dx ∷ [] else []

-- ---- all of it

-- the findings, if no list breaks at a segment (None); else none
abbrev pub if_whole : Option ℕ → List Finding → List Finding
if_whole None fs = fs
if_whole (Some at) fs = []

-- what is found by the list of blocks after the call, if that list is valid
abbrev pub found_after_call : Bool → ℕ → Cpu → Cpu → ℕ → Shown → List Finding
found_after_call a20 present c d number new = if_whole new.broken (stack_freed a20 c d number new.headers
    ++ not_resized present c number new.headers)

-- what is found of a call, by the arena before it (old) and after it (new): of a function of INT 21h alone
abbrev pub arranged_by : Bool → ℕ → Cpu → Cpu → Option Call → List Header → Shown → List Finding
arranged_by a20 present c d (Some (Dos number)) old new = other_freed present c d number old
    ++ found_after_call a20 present c d number new
arranged_by a20 present c d _ old new = []

-- what is found of the step from s to t, if it performs a call: a block of another process that it freed, a stack that
-- is in a free block since, and a resident process's block that was not resized
abbrev pub arranged : State → State → Shown → Shown → List Finding
arranged s t old new = arranged_by s.memory.a20 s.processes.present s.cpu t.cpu (call_of s.cpu) old.headers new
