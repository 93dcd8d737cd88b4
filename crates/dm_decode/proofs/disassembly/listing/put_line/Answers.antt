use Rattle.std.proofs.Common.{◌+◌, ◌-◌, take, drop}
use Rattle.dm_decode.specs.disassembly.Listing.{data_text}
use Rattle.dm_decode.proofs.disassembly.Lines.{shows_single, sliced}
use Rattle.dm_decode.proofs.disassembly.listing.put_line.Goals as goal

pub returns-in_default : goal.returns-in_default
returns-in_default c =
    let bytes = c.args.bytes.now in
    let at = c.args.at in (
      data_text (take (at + 1 - at) (drop at bytes)),
      c.in_ok-put_data.ensures,
      shows_single bytes (take (at + 1 - at) (drop at bytes)) at c.requires.within (sliced bytes at
          1) c.in_default.ensures.none,
    )
