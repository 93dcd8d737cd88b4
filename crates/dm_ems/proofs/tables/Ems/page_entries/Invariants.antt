use Rattle.std.proofs.Common.{◌≡◌, ◌≤◌, ◌*◌, get_or, None}
use Rattle.arrayvec.specs.ArrayVec.{array_vec_len}
use Rattle.dm_ems.specs.Names.{in_turn, page_entry}
use Rattle.dm_ems.proofs.tables.Ems.page_entries.Given as goal

-- the entries of the handles so far
abbrev pub invariant-loop-handle : goal.invariant-loop-handle
invariant-loop-handle l = (l.entries.items ≡ in_turn (λ h. page_entry l.self h (get_or l.self.handles h None))
    l.handle) × (array_vec_len l.entries ≤ 4 * l.handle)
