use Rattle.std.proofs.Common.{◌≡◌, true, ◌∙◌, arith}
use Rattle.std.specs.Prelude.{◌==◌}
use Rattle.std.proofs.lemmas.Bool.Decides.{nat_tests}
use Rattle.dm_touches.specs.Elements.{bytes_of}
use Rattle.dm_touches.proofs.Firsts.{first_as, free_as}
use Rattle.dm_touches.proofs.found.first_in_free.Goals as goal

pub returns : goal.returns
returns c =
    let b = c.args.header.now in
    let free : (b.owner == 0) ≡ true = (let no = c.if-header-ne0.false in grind (arith, nat_tests)) in
    c.first_of.ensures ∙ first_as c.args.a20 _ _ (free_as b free) (bytes_of c.args.elements.now)
