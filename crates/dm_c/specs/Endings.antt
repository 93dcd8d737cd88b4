-- How an export ends, on a handle that holds a machine or none.
use Rattle.std.specs.Prelude.{◌≡◌, Option, Some, None}
use denote.RawPtr.{null_ptr}
use Rattle.dm_host.specs.Hosts.{Hosted}
use Rattle.dm_c.specs.declared.handle.MachineHandle.{MachineHandle}

-- the handle is as C's `MEZGULD_NONE`: it holds no machine, and both its pointer and its tag are 0
abbrev pub IsNone : MachineHandle → Type 0
IsNone h = (h.inside.value ≡ None) × (h.inside.at ≡ null_ptr) × (h.tag ≡ 0)

-- a call on a handle: it holds no machine (old) and none after (new), and Absent holds; or it holds a machine before
-- and after, and Does holds of the two
pub data IsCall (old new : Option Hosted) (Absent : Type 0) (Does : Hosted → Hosted → Type 0) : Type 0 where
  absent : old ≡ None → new ≡ None → Absent → IsCall old new Absent Does
  called : (h g : Hosted) → old ≡ Some h → new ≡ Some g → Does h g → IsCall old new Absent Does
