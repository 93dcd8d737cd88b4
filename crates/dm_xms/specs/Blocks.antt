-- Extended memory blocks (XMS 3.0, functions 08h to 0Ah and 0Ch to 0Fh). Errors are tried in the order in which they
-- are written; an error changes nothing. A block of n KiB is a block of n units of the pool.
use Rattle.std.specs.Prelude.{ℕ, ◌+◌, ◌-◌, ◌*◌, min, nat_lt, ◌==◌, is_none, count_by, position, get_or, if◌then◌else◌, Option, Some, None, Result, Ok, Err}
use Rattle.dm_pool.specs.declared.extent.Extent.{Extent}
use Rattle.dm_pool.specs.Blocks.{Blocks, taken, without, resized}
use Rattle.dm_pool.specs.Gaps.{gaps, largest, free_units}
use Rattle.dm_space.specs.Memory.{Memory, with_blocks}
use Rattle.dm_xms.specs.declared.status.Status.{Status}
use Rattle.dm_xms.specs.declared.status.Status.TheVariants.{NoMemory, NoHandleLeft, UnknownHandle, NotLocked, Locked, TooManyLocks}
use Rattle.dm_xms.specs.declared.blocks.FreeMemory.{FreeMemory}
use Rattle.dm_xms.specs.declared.blocks.HandleInformation.{HandleInformation}
use Rattle.dm_xms.specs.Tables.{Tables, Extended}
use Rattle.dm_xms.specs.Calls.{need, slot, with_slot}

-- the size in KiB of the largest gap of the pool; 0 if it has none
abbrev pub largest_gap : Extended → ℕ
largest_gap x = largest (gaps x.memory.blocks.places x.memory.blocks.units)

-- the size in KiB of all gaps of the pool together
abbrev pub all_free : Extended → ℕ
all_free x = free_units (gaps x.memory.blocks.places x.memory.blocks.units)

-- 08h: the largest gap and all gaps in KiB, each FFFFh at most, as it is returned in a word; an error if there is no
-- gap
unfoldable pub free_memory : Extended → Result FreeMemory Status
free_memory x = if largest_gap x == 0 then Err NoMemory else Ok (record {
  largest = min 0xFFFF (largest_gap x);
  total = min 0xFFFF (all_free x);
})

-- the state with other tables and with other blocks in the pool; RAM, windows and A20 stay
abbrev pub leaving : Extended → Tables → Blocks → Extended
leaving x xms blocks = record { xms = xms; memory = with_blocks x.memory blocks }

-- 09h: a new block of zeros in the lowest gap of the pool that holds it, which gets the lowest handle that is not in
-- use; the handle is the result. A block of 0 KiB needs no gap. Fails where no handle is left; else where no gap holds
-- the block, or the pool has no number left
unfoldable pub allocate : Extended → ℕ → Result (ℕ × Extended) Status
allocate x kib =
    need (position is_none x.xms.handles) NoHandleLeft (λ k.
    need (taken x.memory.blocks kib) NoMemory (λ new.
    Ok (k + 1, leaving x (with_slot x.xms (k + 1) (Some (record { block = new.0; kib = kib; locks = 0 }))) new.1)))

-- 0Ah: a handle and its block are freed; an error if the handle is not in use, or its block is locked
unfoldable pub deallocate : Extended → ℕ → Result (Unit {0} × Extended) Status
deallocate x handle =
    need (slot x.xms handle) UnknownHandle (λ s.
    if nat_lt 0 s.locks then Err Locked else
    Ok (tt, leaving x (with_slot x.xms handle None) (without x.memory.blocks s.block)))

-- the first unit of the pool that a block has; 0 if there is no block
abbrev pub first_unit : Option Extent → ℕ
first_unit None = 0
first_unit (Some b) = b.base

-- the linear address of a block's first byte, 110000h if there is no such block or it has 0 KiB; the pool begins at
-- 110000h, above all memory that a program can address
abbrev pub begin_address : Memory → ℕ → ℕ
begin_address m block = 0x110000 + 0x400 * first_unit (get_or m.blocks.places block None)

-- 0Ch: the block of a handle gets one lock more, and the result is its linear address; an error if the handle is not
-- in use, or its block has 255 locks already
unfoldable pub lock : Extended → ℕ → Result (ℕ × Extended) Status
lock x handle =
    need (slot x.xms handle) UnknownHandle (λ s.
    if s.locks == 255 then Err TooManyLocks else
    Ok (
      begin_address x.memory s.block,
      record x { xms = with_slot x.xms handle (Some (record s { locks = s.locks + 1 })) },
    ))

-- 0Dh: the block of a handle gets one lock less; an error if the handle is not in use, or its block has no lock
unfoldable pub unlock : Tables → ℕ → Result (Unit {0} × Tables) Status
unlock xms handle =
    need (slot xms handle) UnknownHandle (λ s.
    if s.locks == 0 then Err NotLocked else
    Ok (tt, with_slot xms handle (Some (record s { locks = s.locks - 1 }))))

-- 0Eh: the number of locks and the size in KiB of a handle's block, and the number of handles that are not in use; an
-- error if this handle is not in use
unfoldable pub information : Tables → ℕ → Result HandleInformation Status
information xms handle =
    need (slot xms handle) UnknownHandle (λ s.
    Ok (record { locks = s.locks; free = count_by is_none xms.handles; kib = s.kib }))

-- 0Fh: the block of a handle gets another size in KiB. It stays where it is if it fits there, else it moves to the
-- lowest gap that holds it, its old place counted as taken; one of 0 KiB lies at 110000h then. Its bytes up to the
-- smaller size stay, new ones are zeros. Fails if the handle is not in use, the block is locked, or it fits nowhere
unfoldable pub reallocate : Extended → ℕ → ℕ → Result (Unit {0} × Extended) Status
reallocate x handle kib =
    need (slot x.xms handle) UnknownHandle (λ s.
    if nat_lt 0 s.locks then Err Locked else
    need (resized x.memory.blocks s.block kib) NoMemory (λ blocks.
    Ok (tt, leaving x (with_slot x.xms handle (Some (record s { kib = kib }))) blocks)))
