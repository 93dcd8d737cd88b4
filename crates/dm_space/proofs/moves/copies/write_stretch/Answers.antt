use Rattle.std.proofs.Common.{◌+◌, ◌/◌, ◌%◌, ◌≤◌, length, ◌∙◌, ap, sym, refl, arith}
use Rattle.std.specs.Prelude.{slice_index}
use Rattle.dm_space.specs.Copies.{copied_out, block_copied_out}
use Rattle.dm_space.proofs.moves.Inside.{page-below, single-of}
use Rattle.dm_space.proofs.moves.Stretches.{indexed, write-linear, write-pages, write-single}
use Rattle.dm_space.proofs.moves.copies.write_stretch.Goals as goal

pub returns-in-Linear : goal.returns-in-Linear
returns-in-Linear c =
    let a = c.args in let h = a.space.now in
    c.copy_out.ensures ∙ ap (λ to. copied_out h a.at to a.len) c.at-to.ensures
    ∙ write-linear h a.span.now a.k a.at a.len (sym c.in-Linear.ensures)

pub returns-in-Pages : goal.returns-in-Pages
returns-in-Pages c =
    let a = c.args in let h = a.space.now in let r = a.span.now in let kind = sym c.in-Pages.ensures in
    let room : a.at + a.len ≤ length h.scratch = omega (
      arith,
      c.requires.scratch,
      c.a20-sizes.ensures.held.scratch_length,
    ) in
    let block = indexed c.index-blocks-to.is c.blocks-in-Pages.ensures (ap (λ to. to / 0x4000) c.at-to.ensures)
    (page-below h.memory r a.k a.len c.requires.inside c.requires.some kind) in
    c.copy_block_out.ensures ∙ ap (λ p. block_copied_out h a.at p (c.at-to.result % 0x4000) a.len) block
    ∙ ap (λ to. block_copied_out h a.at (slice_index r.blocks ((r.start + a.k) / 0x4000)) (to % 0x4000) a.len)
    c.at-to.ensures
    ∙ write-pages h r a.k a.at a.len kind c.requires.inside c.requires.some c.requires.stretch room

pub returns-in-Single : goal.returns-in-Single
returns-in-Single c =
    let a = c.args in let h = a.space.now in let r = a.span.now in let kind = sym c.in-Single.ensures in
    let room : a.at + a.len ≤ length h.scratch = omega (
      arith,
      c.requires.scratch,
      c.a20-sizes.ensures.held.scratch_length,
    ) in
    let block = indexed c.index-blocks-0.is c.blocks-in-Single.ensures refl (omega (
      arith,
      (single-of h.memory r (a.k + a.len) c.requires.inside kind).0,
    )) in
    c.copy_block_out-in-Single.ensures ∙ ap (λ p. block_copied_out h a.at p c.at-to.result a.len) block
    ∙ ap (λ to. block_copied_out h a.at (slice_index r.blocks 0) to a.len) c.at-to.ensures
    ∙ write-single h r a.k a.at a.len kind c.requires.inside c.requires.some room
