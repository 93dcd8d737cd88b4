use Rattle.std.proofs.Common.{◌≡◌, ◌++◌}
use Rattle.dm_views.specs.Digits.{in_turn}
use Rattle.dm_views.specs.Pages.{handle_text, window_text}
use Rattle.dm_views.proofs.pages.put_pages.Given as goal

abbrev pub invariant-loop-handle : goal.invariant-loop-handle
invariant-loop-handle l = l.out.items ≡ l.initial.out.items ++ in_turn (handle_text l.ems) l.handle

abbrev pub invariant-loop-window : goal.invariant-loop-window
invariant-loop-window l = l.out.items ≡ l.initial.out.items ++ in_turn (window_text l.ems l.space.memory) l.window
