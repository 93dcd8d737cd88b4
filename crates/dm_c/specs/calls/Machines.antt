-- What each call does with a host: its status, what it sets, and the host h that becomes g. `before` and `after` are
-- what C passes by reference, before the call and after it. The export of a name `n` is `dm_c_n`.
use Rattle.std.specs.Prelude.{◌≡◌, ◌⊎◌, ℕ, Bool, List, map, length, drop, Option, Some}
use Rattle.dm_services.specs.declared.state.stop.Stop.{Stop}
use Rattle.dm_machine.specs.Run.{IsRun}
use Rattle.dm_machine.specs.Until.{RunsUntil}
use Rattle.dm_space.specs.Buffers.{with_bytes}
use Rattle.dm_debug.specs.Sessions.{with_machine}
use Rattle.dm_host.specs.declared.refusal.Refusal.{Refusal}
use Rattle.dm_host.specs.declared.refusal.Refusal.TheVariants.{Memory as NoMemory, NotLoaded}
use Rattle.dm_host.specs.Hosts.{Hosted, Works, Shows, IsNotLoaded}
use Rattle.dm_host.specs.Loading.{Adds, IsUnadded, Loads, IsUnloaded}
use Rattle.dm_host.specs.Memory.{bytes_at}
use Rattle.dm_host.specs.Linear.{bytes_at_linear, with_bytes_at_linear}
use Rattle.dm_host.specs.Input.{SetsMore, Supplies, IsUnsupplied}
use Rattle.dm_host.specs.Commands.{IsCommanded, IsUncommanded}
use Rattle.dm_host.specs.Checking.{Checks, IsUnchecked}
use Rattle.dm_c.specs.declared.calls.values.Stopped.{Stopped}
use Rattle.dm_c.specs.declared.calls.values.Registers.{Registers}
use Rattle.dm_c.specs.declared.calls.values.Point.{Point}
use Rattle.dm_c.specs.calls.Statuses.{status_of, stopped_of, registers_of, cpu_of, point_of}
use Rattle.dm_c.specs.calls.Calls.{IsDoneOrRefused, GivesItems}

-- `dm_c_add`: a program is added; at a refusal nothing changes
abbrev pub AddsTo : Hosted → List ℕ → List ℕ → ℕ → Hosted → Type 0
AddsTo h name program status g = IsDoneOrRefused status (Adds h name program g) (λ why. IsUnadded h name why × (g ≡ h))

-- `dm_c_load`: the program of the name is loaded, or the status says why not; with 13 (short) and 3 (out of memory)
-- the host is then spent, with any other nothing changes
abbrev pub LoadsTo : Hosted → List ℕ → List ℕ → List ℕ → ℕ → Hosted → Type 0
LoadsTo h name tail input status g = IsDoneOrRefused status (Loads h name tail input g)
    (λ why. IsUnloaded h name tail input why g)

-- `dm_c_run`: a run of at most n steps, and why it stopped; if no program is loaded, nothing changes
abbrev pub RunsBy : Hosted → ℕ → Stopped → Stopped → ℕ → Hosted → Type 0
RunsBy h n before after status g =
    IsDoneOrRefused status ((stop : Stop) × Works h (λ s t. IsRun s.machine n stop t.machine ×
    (t.points ≡ s.points)) g × (after ≡ stopped_of (Some stop)))
    (λ why. IsNotLoaded h why × (g ≡ h) × (after ≡ before))

-- `dm_c_run_until`: a run of at most n steps, up to a breakpoint, and why it stopped; if no program is loaded, or
-- the allocation of the list of breakpoints failed, nothing changes
abbrev pub RunsUntilTo : Hosted → ℕ → List Point → Stopped → Stopped → ℕ → Hosted → Type 0
RunsUntilTo h n points before after status g =
    IsDoneOrRefused status ((stop : Option Stop) ×
    Works h (λ s t. RunsUntil s.machine n (map point_of points) stop t.machine × (t.points ≡ s.points)) g ×
    (after ≡ stopped_of stop))
    (λ why. (IsNotLoaded h why ⊎ (why ≡ NoMemory)) × (g ≡ h) × (after ≡ before))

-- `dm_c_steps`: how many steps were made; if no program is loaded, nothing changes
abbrev pub StepsTo : Hosted → ℕ → ℕ → ℕ → Hosted → Type 0
StepsTo h before after status g = IsDoneOrRefused status (Shows h (λ s. after ≡ s.steps)) (λ why. IsNotLoaded h why ×
    (after ≡ before)) × (g ≡ h)

-- `dm_c_registers`: the registers; if no program is loaded, nothing changes
abbrev pub RegistersTo : Hosted → Registers → Registers → ℕ → Hosted → Type 0
RegistersTo h before after status g = IsDoneOrRefused status (Shows h (λ s. after ≡ registers_of s.cpu))
    (λ why. IsNotLoaded h why × (after ≡ before)) × (g ≡ h)

-- `dm_c_set_registers`: the registers and flags are set; if no program is loaded, nothing changes
abbrev pub SetsRegistersTo : Hosted → Registers → ℕ → Hosted → Type 0
SetsRegistersTo h registers status g =
    IsDoneOrRefused status (Works h (λ s t. t ≡ with_machine s (record s.machine { cpu = cpu_of registers })) g)
    (λ why. IsNotLoaded h why × (g ≡ h))

-- `dm_c_read`: the bytes of memory from segment:offset on fill the buffer; if no program is loaded, nothing changes
abbrev pub ReadsTo : Hosted → ℕ → ℕ → List ℕ → List ℕ → ℕ → Hosted → Type 0
ReadsTo h segment offset before after status g =
    IsDoneOrRefused status (Shows h (λ s. after ≡ bytes_at s.memory segment offset (length before)))
    (λ why. IsNotLoaded h why × (after ≡ before)) × (g ≡ h)

-- `dm_c_write`: the bytes are written to memory from segment:offset on; if no program is loaded, nothing changes
abbrev pub WritesTo : Hosted → ℕ → ℕ → List ℕ → ℕ → Hosted → Type 0
WritesTo h segment offset bytes status g =
    IsDoneOrRefused status (Works h (λ s t. t ≡ with_machine s (record s.machine
    { memory = with_bytes s.machine.memory segment offset bytes })) g) (λ why. IsNotLoaded h why × (g ≡ h))

-- `dm_c_read_linear`: the bytes of memory from a linear address up fill the buffer; if no program is loaded, nothing
-- changes
abbrev pub ReadsLinearTo : Hosted → ℕ → List ℕ → List ℕ → ℕ → Hosted → Type 0
ReadsLinearTo h address before after status g =
    IsDoneOrRefused status (Shows h (λ s. after ≡ bytes_at_linear s.memory address (length before)))
    (λ why. IsNotLoaded h why × (after ≡ before)) × (g ≡ h)

-- `dm_c_write_linear`: the bytes are written to memory from a linear address up; if no program is loaded, nothing
-- changes
abbrev pub WritesLinearTo : Hosted → ℕ → List ℕ → ℕ → Hosted → Type 0
WritesLinearTo h address bytes status g =
    IsDoneOrRefused status (Works h (λ s t. t ≡ with_machine s (record s.machine
    { memory = with_bytes_at_linear s.machine.memory address bytes })) g) (λ why. IsNotLoaded h why × (g ≡ h))

-- `dm_c_output`: what was written to the console, from the offset on, is copied to the front of the buffer, if it
-- fits, and `wanted` becomes its length; past the end of the output there are no bytes. If no program is loaded (status
-- 14), nothing changes
abbrev pub OutputTo : Hosted → ℕ → List ℕ → List ℕ → ℕ → ℕ → ℕ → Hosted → Type 0
OutputTo h from before after wanted_before wanted status g =
    (Shows h (λ s. GivesItems (drop from s.console.output) before after wanted status)
    ⊎ (IsNotLoaded h NotLoaded × (status ≡ status_of NotLoaded) × (after ≡ before) × (wanted ≡ wanted_before))) ×
    (g ≡ h)

-- `dm_c_output_count`: how many bytes were written to the console; if no program is loaded, nothing changes
abbrev pub OutputCountTo : Hosted → ℕ → ℕ → ℕ → Hosted → Type 0
OutputCountTo h before after status g =
    IsDoneOrRefused status (Shows h (λ s. after ≡ length s.console.output)) (λ why. IsNotLoaded h why ×
    (after ≡ before)) × (g ≡ h)

-- `dm_c_open_input` (true) and `dm_c_close_input` (false): more console input may come after what is left, or no
-- more; if no program is loaded, nothing changes
abbrev pub SetsMoreTo : Hosted → Bool → ℕ → Hosted → Type 0
SetsMoreTo h more status g = IsDoneOrRefused status (SetsMore h more g) (λ why. IsNotLoaded h why × (g ≡ h))

-- `dm_c_supply`: the bytes are added to the end of the console input; if no program is loaded, its input is closed
-- or an allocation failed, nothing changes
abbrev pub SuppliesTo : Hosted → List ℕ → ℕ → Hosted → Type 0
SuppliesTo h bytes status g = IsDoneOrRefused status (Supplies h bytes g) (λ why. IsUnsupplied h why × (g ≡ h))

-- `dm_c_input_left`: how many bytes of console input are left; if no program is loaded, nothing changes
abbrev pub InputLeftTo : Hosted → ℕ → ℕ → ℕ → Hosted → Type 0
InputLeftTo h before after status g =
    IsDoneOrRefused status (Shows h (λ s. after ≡ length s.console.input)) (λ why. IsNotLoaded h why ×
    (after ≡ before)) × (g ≡ h)

-- `dm_c_command`: the debugger command of a line is executed; `wanted` becomes how many bytes its answer has, and
-- stays at a refusal
abbrev pub CommandsTo : Hosted → List ℕ → ℕ → ℕ → ℕ → Hosted → Type 0
CommandsTo h line before wanted status g =
    IsDoneOrRefused status (IsCommanded h line g × (wanted ≡ length g.answer)) (λ why. IsUncommanded h line why g ×
    (wanted ≡ before))

-- `dm_c_check`: a run of at most n steps under the memory checker; `after` is why it stopped, and `wanted` how many
-- bytes the report has. Both are as before at a refusal
abbrev pub ChecksTo : Hosted → ℕ → Stopped → Stopped → ℕ → ℕ → ℕ → Hosted → Type 0
ChecksTo h n before after wanted_before wanted status g =
    IsDoneOrRefused status ((stop : Stop) × Checks h n stop g × (after ≡ stopped_of (Some stop)) ×
    (wanted ≡ length g.answer))
    (λ why. IsUnchecked h n why g × (after ≡ before) × (wanted ≡ wanted_before))

-- `dm_c_answer`: the answer of the last command or checked run that had one is copied to the front of the buffer, if
-- it fits, and `wanted` is its length; the host stays
abbrev pub AnswersTo : Hosted → List ℕ → List ℕ → ℕ → ℕ → Hosted → Type 0
AnswersTo h before after wanted status g = GivesItems h.answer before after wanted status × (g ≡ h)
