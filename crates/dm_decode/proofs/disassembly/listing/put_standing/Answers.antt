use Rattle.std.proofs.Common.{false, true, ◌∙◌, ◌++◌, sym, ◌+◌, ◌-◌, take, drop, ◌≡◌}
use Rattle.std.specs.Prelude.{codes}
use Rattle.dm_decode.specs.disassembly.Listing.{data_text, instruction_text}
use Rattle.dm_decode.proofs.disassembly.Lines.{shows_preferred, shows_other, sliced, three_put}
use Rattle.dm_decode.proofs.disassembly.listing.put_standing.Goals as goal

pub returns-in_ok-put_instruction : goal.returns-in_ok-put_instruction
returns-in_ok-put_instruction c =
    let bytes = c.args.bytes.now in
    let at = c.args.at in
    let len = c.args.len in
    let i = c.args.ins.now in
    let own = take (at + len - at) (drop at bytes) in (
      instruction_text i at len,
      c.in_ok-put_instruction.ensures,
      shows_preferred bytes own c.encode.result.items at len i c.requires.stands (sliced bytes at
          len) c.encode.ensures (sym c.as_slice.ensures.value ∙ c.same.ensures.0 (search (c.if-same.true))),
    )

pub returns-in_ok-put_instruction-2 : goal.returns-in_ok-put_instruction-2
returns-in_ok-put_instruction-2 c =
    let bytes = c.args.bytes.now in
    let at = c.args.at in
    let len = c.args.len in
    let i = c.args.ins.now in
    let own = take (at + len - at) (drop at bytes) in (
      data_text own ++ codes " ; " ++ instruction_text i at len,
      three_put _ _ _ _ _ _ _ c.in_ok-put_data.ensures c.in_ok-extend_from_slice.ensures.items
          c.in_ok-put_instruction-2.ensures,
      shows_other bytes own c.encode.result.items at len i c.requires.stands (sliced bytes at len) c.encode.ensures
          (λ e. let h = c.same.ensures.1 (c.as_slice.ensures.value ∙ e) in let no : false ≡ true = sym c.if-same.false
          ∙ h in cc),
    )
