use Rattle.std.proofs.Common.{◌≡◌, length, ◌++◌, take, drop}
use Rattle.dm_ems.specs.Tables.{with_windows}
use Rattle.dm_ems.proofs.pages.set_windows.Given as goal

-- the windows so far show what they are to
abbrev pub invariant-loop-window : goal.invariant-loop-window
invariant-loop-window l =
    (length l.initial.space.memory.windows ≡ 4)
    × (l.space ≡ record l.initial.space {
      memory = with_windows l.initial.space.memory (take l.window l.windows
          ++ drop l.window l.initial.space.memory.windows);
    })
