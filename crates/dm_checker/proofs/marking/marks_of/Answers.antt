use Rattle.std.proofs.Common.{Bool, arith, subst}
use Rattle.dm_checker.specs.inner.Marking.{Keeps, HasMap}
use Rattle.dm_checker.proofs.Levels.{map_kept, headers_kept, all_marked}
use Rattle.dm_checker.proofs.marking.marks_of.Goals as goal

pub returns : goal.returns
returns c =
    let last : Keeps 1 c.mark_headers.new.marks c.mark_free.new.marks = c.mark_free.ensures.keeps 1 (omega arith) in
    let both : Keeps 1 c.mark_map.new.marks c.mark_free.new.marks = λ p h. last p (c.mark_headers.ensures.keeps p h) in
    let map = subst (λ (b : Bool). HasMap c.args.windows.now b c.mark_map.new.marks) c.has_high.ensures
    c.mark_map.ensures in
    all_marked c.args.windows.now c.args.headers.now c.mark_free.new.marks (map_kept _ _ _ _ map both)
    (headers_kept c.args.headers.now _ _ c.mark_headers.ensures.marked last) c.mark_free.ensures.marked
