use Rattle.std.proofs.Common.{ap, [], ◌+◌, ◌≤◌, length, get_or, sym, subst, arith}
use Rattle.dm_region.specs.Parts.{part}
use Rattle.dm_region.proofs.Bytes.{length-with_part}
use Rattle.dm_pool.proofs.Blocks.{part_length}
use Rattle.dm_space.specs.Memory.{Held}
use Rattle.dm_space.proofs.Keeping.{held_scratch}
use Rattle.dm_space.proofs.Shifts.{shifts_as}
use Rattle.dm_pool.specs.Stored.{Stored}
use Rattle.dm_space.proofs.space.Space.copy_block_in.Goals as goal

pub invariant_of-self : goal.invariant_of-self
invariant_of-self c =
    let s = c.self.inside in let a = c.args in
    let bytes = get_or s.store.blocks.contents a.block [] in
    let source : a.from + a.len ≤ length bytes = subst (λ (h : Held). a.from + a.len
    ≤ length (get_or h.memory.blocks.contents a.block [])) (sym c.self.view_is) c.requires.block.1 in (
      held_scratch s.store s.windows s.a20 c.copy.new.self _ c.copy.ensures
          (length-with_part s.store.scratch (part bytes a.from a.len) a.at a.len (omega (
            arith,
            c.requires.scratch,
            c.self.invariant.0.scratch_length,
          )) (part_length bytes a.from a.len source)) c.self.invariant.0,
      shifts_as s.a20 s.store s.windows s.shifts c.copy.new.self (ap (λ (x : Stored). x.blocks.places) c.copy.ensures)
          c.self.invariant.1,
    )
