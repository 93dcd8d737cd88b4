use Rattle.std.proofs.Common.{◌+◌, ◌<◌, get_or, arith}
use Rattle.dm_load.specs.Image.{entry}
use Rattle.dm_load.proofs.header.targets_reach.Goals as goal

pub returns : goal.returns
returns c = λ k.
    (let file = c.args.file.now in
    let at = entry file k in
    let a : get_or file at 0 < 256 = (c.type_inv.file at).fits in
    let b : get_or file (at + 1) 0 < 256 = (c.type_inv.file (at + 1)).fits in
    let d : get_or file (at + 2) 0 < 256 = (c.type_inv.file (at + 2)).fits in
    let e : get_or file (at + 2 + 1) 0 < 256 = (c.type_inv.file (at + 2 + 1)).fits in
    omega arith)
