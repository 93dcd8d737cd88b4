use Rattle.std.proofs.Common.{◌≡◌, ◌+◌, ◌*◌, ◌%◌, ℕ, List, slice_index, refl, ap, ◌∙◌, arith}
use Rattle.std.proofs.lemmas.Bool.Decides.{nat_tests}
use Rattle.dm_space.specs.Memory.{Held, page_bytes}
use Rattle.dm_space.proofs.Reading.{word_in_page}
use Rattle.dm_space.proofs.space.Space.peek16_anywhere.Goals as goal

pub returns-in-Some : goal.returns-in-Some
returns-in-Some c =
    let at = c.args.segment * 16 + c.args.offset in
    let k = at % 16384 in
    let block = c.in-Some.block in
    let bytes : c.bytes.result.now ≡ page_bytes c.args.self.now.memory block = c.bytes.ensures
    ∙ ap (λ (h : Held). page_bytes h.memory block) c.self.view_is in
    word_in_page c.args.self.now.memory c.args.segment c.args.offset at k block c.word_at.result (grind (
      arith,
      nat_tests,
    )) refl (omega (arith, c.if-at-lt917504.false)) (omega (arith, c.if-at-ge983040.false))
    (grind (arith, nat_tests)) c.in-Some.ensures.place (c.word_at.ensures
    ∙ ap (λ (xs : List ℕ). slice_index xs k + 256 * slice_index xs (k + 1)) bytes)
