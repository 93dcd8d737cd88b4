-- What the exports do that make a machine in a handle: the status, and what the handle holds.
use Rattle.std.specs.Prelude.{◌≡◌, ℕ, ◌≤◌, Bool, List, [], length, Option, Some, None}
use Rattle.dm_pool.specs.declared.sizes.Sizes.{Sizes}
use Rattle.dm_pool.specs.Stored.{IsTooLarge}
use Rattle.dm_host.specs.declared.refusal.Refusal.{Refusal}
use Rattle.dm_host.specs.Setups.{IsNewFault}
use Rattle.dm_host.specs.Hosts.{Hosted, new_host}
use Rattle.dm_c.specs.calls.Statuses.{status_of}

-- `dm_c_new`: a machine with no programs is made in a handle that holds no machine, of at most 512 pages and 15,360
-- KiB, and of at most 32,767 bytes of variables; a handle in use stays (status 2), and at a refusal the handle still
-- holds none
pub data Makes (old new : Option Hosted) (sizes : Sizes) (variables : List ℕ) (upper : Bool) (status : ℕ) : Type 0 where
  in_use : (h : Hosted) → old ≡ Some h → new ≡ Some h → status ≡ 2 → Makes old new sizes variables upper status
  made : old ≡ None → new ≡ Some (new_host (record {
    sizes = sizes;
    variables = variables;
    upper = upper;
    programs = [];
  })) → status ≡ 0
      → (IsTooLarge sizes → ⊥) × (length variables ≤ 0x7FFF) → Makes old new sizes variables upper status
  refused : (why : Refusal) → old ≡ None → new ≡ None → status ≡ status_of why → IsNewFault sizes variables why →
      Makes old new sizes variables upper status

-- `dm_c_copy`: a second machine, the same as h, is made in a handle that holds none; a handle in use stays (status
-- 2), and where an allocation failed (status 3) the handle still holds none
pub data CopiesTo (h : Hosted) (old new : Option Hosted) (status : ℕ) : Type 0 where
  occupied : (other : Hosted) → old ≡ Some other → new ≡ Some other → status ≡ 2 → CopiesTo h old new status
  copied : old ≡ None → new ≡ Some h → status ≡ 0 → CopiesTo h old new status
  no_memory : old ≡ None → new ≡ None → status ≡ 3 → CopiesTo h old new status
