use Rattle.std.proofs.Common.{◌≡◌, ◌+◌, ◌*◌, ◌%◌, ℕ, List, slice_index, refl, ap, ◌∙◌, arith}
use Rattle.dm_space.specs.Memory.{Held, page_bytes}
use Rattle.dm_space.proofs.Reading.{byte_in_page}
use Rattle.dm_space.proofs.space.Space.peek_anywhere.Goals as goal

pub returns-in-Some : goal.returns-in-Some
returns-in-Some c =
    let at = c.args.segment * 16 + c.args.offset in
    let block = c.in-Some.block in
    let bytes : c.bytes.result.now ≡ page_bytes c.args.self.now.memory block = c.bytes.ensures
    ∙ ap (λ (h : Held). page_bytes h.memory block) c.self.view_is in
    byte_in_page c.args.self.now.memory c.args.segment c.args.offset at block _ refl (omega (
      arith,
      c.if-at-lt983040.true,
    )) c.in-Some.ensures.place (ap (λ (xs : List ℕ). slice_index xs (at % 16384)) bytes)
