use Rattle.std.proofs.Common.{◌+◌, ◌/◌, ◌%◌, ◌∙◌, ap, sym, refl, arith}
use Rattle.std.specs.Prelude.{slice_index}
use Rattle.dm_space.specs.Copies.{copied_in, block_copied_in}
use Rattle.dm_space.proofs.moves.Inside.{page-below, single-of}
use Rattle.dm_space.proofs.moves.Stretches.{indexed, read-linear, read-pages, read-single}
use Rattle.dm_space.proofs.moves.copies.read_stretch.Goals as goal

pub returns-in-Linear : goal.returns-in-Linear
returns-in-Linear c =
    let a = c.args in let h = a.space.now in
    c.copy_in.ensures ∙ ap (λ from. copied_in h from a.at a.len) c.at-from.ensures
    ∙ read-linear h a.span.now a.k a.at a.len (sym c.in-Linear.ensures)

pub returns-in-Pages : goal.returns-in-Pages
returns-in-Pages c =
    let a = c.args in let h = a.space.now in let r = a.span.now in let kind = sym c.in-Pages.ensures in
    let block = indexed c.index-blocks-from.is c.blocks-in-Pages.ensures (ap (λ from. from / 0x4000) c.at-from.ensures)
    (page-below h.memory r a.k a.len c.requires.inside c.requires.some kind) in
    c.copy_block_in.ensures ∙ ap (λ p. block_copied_in h p (c.at-from.result % 0x4000) a.at a.len) block
    ∙ ap (λ from. block_copied_in h (slice_index r.blocks ((r.start + a.k) / 0x4000)) (from % 0x4000) a.at a.len)
    c.at-from.ensures
    ∙ read-pages h r a.k a.at a.len kind c.requires.inside c.requires.some c.requires.stretch

pub returns-in-Single : goal.returns-in-Single
returns-in-Single c =
    let a = c.args in let h = a.space.now in let r = a.span.now in let kind = sym c.in-Single.ensures in
    let block = indexed c.index-blocks-0.is c.blocks-in-Single.ensures refl (omega (
      arith,
      (single-of h.memory r (a.k + a.len) c.requires.inside kind).0,
    )) in
    c.copy_block_in-in-Single.ensures ∙ ap (λ p. block_copied_in h p c.at-from.result a.at a.len) block
    ∙ ap (λ from. block_copied_in h (slice_index r.blocks 0) from a.at a.len) c.at-from.ensures
    ∙ read-single h r a.k a.at a.len kind c.requires.inside
