use Rattle.std.proofs.Common.{◌≡◌, None, set, sym, ap, ◌∙◌, subst}
use Rattle.std.proofs.lemmas.List.{map-set}
use Rattle.dm_pool.specs.Blocks.{content, contents_of}
use Rattle.dm_pool.proofs.Takes.{same_blocks}
use Rattle.dm_pool.proofs.pool.give.Goals as goal

pub returns-clause-blocks : goal.returns-clause-blocks
returns-clause-blocks c =
    let t = c.args.table.now in let xs = c.args.bytes.now in let k = c.args.slot in let new = c.retell.new.table in
    let places = c.retell.ensures.places ∙ c.remove.ensures.places in
    let units = c.retell.ensures.units ∙ c.remove.ensures.units in
    let contents = subst (λ ps. contents_of ps c.retell.new.bytes ≡ contents_of ps xs) (sym c.retell.ensures.places)
    c.retell.ensures.contents in
    same_blocks new.units t.units new.places (set t.places k None) _ (set (contents_of t.places xs) k _) units places
    (contents ∙ ap (λ ps. contents_of ps xs) places ∙ map-set (content xs) t.places k None)
