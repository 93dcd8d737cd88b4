use Rattle.std.specs.Prelude.{◌≡◌, ◌++◌, take}
use Rattle.std.specs.List.{flat_map}
use Rattle.dm_json.specs.Forms.{line_in}
use Rattle.dm_json.proofs.forms.put_lines_in.Given as goal

-- the lines of the findings so far
abbrev pub invariant-loop-line : goal.invariant-loop-line
invariant-loop-line l = l.out.items ≡ l.initial.out.items ++ flat_map (line_in l.form) (take l.line-index l.lines)
