-- The machine as it starts, and as it is once the first program is loaded.
use Rattle.std.specs.Prelude.{◌≡◌, ℕ, Bool, false, if◌then◌else◌, List, [], ◌∷◌, length, replicate, Some, None}
use Rattle.dm_pool.specs.declared.sizes.Sizes.{Sizes}
use Rattle.dm_pool.specs.Blocks.{no_blocks}
use Rattle.dm_pool.specs.Stored.{units_of}
use Rattle.dm_space.specs.Memory.{Memory}
use Rattle.dm_space.specs.Buffers.{with_bytes}
use Rattle.dm_space.specs.Start.{IsStart}
use Rattle.dm_ems.specs.Tables.{new_tables}
use Rattle.dm_xms.specs.Tables as xms
use Rattle.dm_alu.specs.declared.flags.Flags.{Flags}
use Rattle.dm_cpu.specs.declared.cpu.Cpu.{Cpu}
use Rattle.dm_arena.specs.declared.fit.Area.TheVariants.{All}
use Rattle.dm_arena.specs.declared.fit.Fit.TheVariants.{First}
use Rattle.dm_load.specs.Image.{IsGood}
use Rattle.dm_proc.specs.declared.refusal.ExecRefusal.{ExecRefusal}
use Rattle.dm_proc.specs.Programs.{program_of}
use Rattle.dm_proc.specs.Request.{Passed}
use Rattle.dm_proc.specs.Environment.{environment}
use Rattle.dm_proc.specs.Processes.{Begins, PlanRefused}
use Rattle.dm_services.specs.state.State.{State}

-- all flags clear
abbrev pub clear_flags : Flags
clear_flags = record {
  carry = false;
  parity = false;
  adjust = false;
  zero = false;
  sign = false;
  trap = false;
  interrupt = false;
  direction = false;
  overflow = false;
}

-- all registers 0, all flags clear
abbrev pub clear_registers : Cpu
clear_registers = record {
  ax = 0;
  cx = 0;
  dx = 0;
  bx = 0;
  sp = 0;
  bp = 0;
  si = 0;
  di = 0;
  es = 0;
  cs = 0;
  ss = 0;
  ds = 0;
  ip = 0;
  flags = clear_flags;
}

-- the memory with the three headers of an arena that goes on in upper memory: at 0100h `Z`, owner 0, size 9EFEh; at
-- 9FFFh the link block, `M`, owner 0008h, size 3000h; at D000h `Z`, owner 0, size 0FFFh
unfoldable pub with_upper_headers : Memory → Memory
with_upper_headers m =
    with_bytes (with_bytes (with_bytes m
    0x0100 0 (0x5A ∷ 0 ∷ 0 ∷ 0xFE ∷ 0x9E ∷ []))
    0x9FFF 0 (0x4D ∷ 0x08 ∷ 0 ∷ 0x00 ∷ 0x30 ∷ []))
    0xD000 0 (0x5A ∷ 0 ∷ 0 ∷ 0xFF ∷ 0x0F ∷ [])

-- the memory with the headers of an arena that goes on in upper memory if `upper` is true; otherwise the memory itself
abbrev pub with_headers : Bool → Memory → Memory
with_headers upper m = if upper then with_upper_headers m else m

-- m is the memory of a machine as it starts, with no block in its pool, and with the arena headers of `with_headers` if
-- `upper`
pub record IsStartWith (upper : Bool) (sizes : Sizes) (m : Memory) : Type 0 where
  pub plain : Memory
  pub start : IsStart (no_blocks (units_of sizes)) plain
  pub headers : m ≡ with_headers upper plain

-- s is a machine as it starts: memory as in `IsStartWith`, registers 0, no handle but handle 0 of expanded memory, this
-- input, after which no more comes, no output, no process, the strategy first fit in all of the arena
pub record IsNew (sizes : Sizes) (variables : List ℕ) (upper : Bool) (programs : List (List ℕ ×
    List ℕ)) (input : List ℕ) (s : State) : Type 0 where
  pub memory : IsStartWith upper sizes s.memory
  pub others : s ≡ record {
    cpu = clear_registers;
    memory = s.memory;
    ems = new_tables sizes.ems_pages;
    xms = xms.new_tables;
    console = record { input = input; more = false; output = []; room = 0 };
    processes = record { present = 0; parents = []; code = 0 };
    strategy = record { fit = First; area = All };
    exited = None;
    steps = 0;
    programs = programs;
    variables = variables;
    sizes = sizes;
    upper = upper;
  }

-- what the first program is passed: the command tail, and two file control blocks of zeros
abbrev pub passed_first : List ℕ → Passed
passed_first tail = record { tail = tail; first = replicate 16 0; second = replicate 16 0 }

-- loading the first program, of this name and with this tail, leads from s to t: memory, registers and processes are
-- those of its start, and all else stays
pub record IsLoaded (s : State) (name tail : List ℕ) (t : State) : Type 0 where
  pub file : List ℕ
  pub found : program_of s.programs name ≡ Some file
  pub good : IsGood file
  pub begins : Begins s.upper s.memory s.strategy file s.variables name (passed_first tail) t.processes t.cpu t.memory
  pub others : t ≡ record s { cpu = t.cpu; memory = t.memory; processes = t.processes }

-- the store has the program of this name, and its file is neither a COM nor a good MZ program
pub record IsBadProgram (s : State) (name : List ℕ) : Type 0 where
  pub file : List ℕ
  pub found : program_of s.programs name ≡ Some file
  pub bad : IsGood file → ⊥

-- the program's file is good, but memory has no room for the blocks of environment and program, or holds no valid block
-- list
pub record HasNoRoom (s : State) (name : List ℕ) : Type 0 where
  pub file : List ℕ
  pub found : program_of s.programs name ≡ Some file
  pub good : IsGood file
  pub why : ExecRefusal
  pub refused : PlanRefused s.upper s.memory s.strategy (length (environment s.variables name)) file why
