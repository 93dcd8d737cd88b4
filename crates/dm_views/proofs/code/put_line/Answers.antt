use Rattle.std.proofs.Common.{refl, rules, arith}
use Rattle.dm_views.proofs.CodeTexts.{line_listed, line_unlisted, short}
use Rattle.dm_views.proofs.code.put_line.Goals as goal

pub returns-in_default : goal.returns-in_default
returns-in_default c = (
  _,
  c.in_ok-put_unlisted.ensures,
  line_unlisted _ _ _ c.sixteen_bytes-bytes.result _ 0 c.sixteen_bytes-bytes.ensures refl c.in_default.ensures,
)

pub slice_bounds-bytes-end : goal.slice_bounds-bytes-end
slice_bounds-bytes-end c =
    let few = short _ _ _ c.in-Some.ensures in
    omega arith

pub slice_bounds-put_listed-end : goal.slice_bounds-put_listed-end
slice_bounds-put_listed-end c =
    let few = short _ _ _ c.in-Some.ensures in
    search rules

pub returns : goal.returns
returns c = (_, c.in_ok-put_listed.ensures, line_listed _ _ _ _ _ _ c.sixteen_bytes-bytes.ensures c.in-Some.ensures)
