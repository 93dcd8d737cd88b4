-- A part of the invariant of `Parts`. Private contracts and proofs alone name this.
use Rattle.std.specs.Prelude.{◌<◌, All, List}
use Rattle.dm_proc.specs.declared.parent.Parent.{Parent}

-- each process that waits for a child has a segment other than 0, that of its program segment prefix
abbrev pub HaveSegments : List Parent → Type 0
HaveSegments parents = All (λ p. 0 < p.segment) parents
