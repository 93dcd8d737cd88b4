use Rattle.std.proofs.Common.{ℕ, ◌++◌, ◌∙◌, Option, ap}
use Rattle.dm_views.specs.Pages.{window_line}
use Rattle.dm_views.proofs.NumberedTexts.{numbered_none, numbered_more}
use Rattle.dm_views.proofs.pages.put_pages.Goals as goal

pub loop-handle-init : goal.loop-handle-init
loop-handle-init c = numbered_none _ _

pub loop-handle-preserved : goal.loop-handle-preserved
loop-handle-preserved c = numbered_more _ _ _ _ _ c.loop-handle.invariant c.in_ok-put_handle.ensures

pub loop-window-init : goal.loop-window-init
loop-window-init c = numbered_none _ _

pub loop-window-preserved : goal.loop-window-preserved
loop-window-preserved c =
    numbered_more _ _ _ _ _ c.loop-window.invariant (
    c.in_ok-put_window.ensures ∙ ap (λ (p : Option (ℕ × ℕ)). c.loop-window.out.items
    ++ window_line c.loop-window.window p) c.window.ensures
    )
