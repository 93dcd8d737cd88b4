use Rattle.std.specs.Prelude.{◌≡◌, ◌++◌, take}
use Rattle.std.specs.List.{flat_map}
use Rattle.dm_json.specs.Objects.{again_object}
use Rattle.dm_json.proofs.objects.put_all_again_objects.Given as goal

-- the lines about the further occurrences of the findings so far
abbrev pub invariant-loop-line : goal.invariant-loop-line
invariant-loop-line l = l.out.items ≡ l.initial.out.items ++ flat_map again_object (take l.line-index l.lines)
