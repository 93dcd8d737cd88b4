use Rattle.std.proofs.Common.{◌≡◌, None, Some}
use Rattle.std.specs.Prelude.{if◌then◌else◌}
use Rattle.dm_blocks.specs.Chain.{next}
use Rattle.dm_blocks.proofs.Walks.{at_last, at_more, step_bad, stays_moved, step_met, step_refused, stays, step_told, goes_on}
use Rattle.dm_blocks.proofs.listing.Headers.advance.Goals as goal
use Rattle.dm_blocks.proofs.listing.Headers.advance.Goals.{then-listed, else-listed}

pub returns-in_default-header_at-clause-met : goal.returns-in_default-header_at-clause-met
returns-in_default-header_at-clause-met c = step_bad _ _ _ _ _ c.self.invariant _ c.in-Some.is _ c.self.view_is
    c.in_default-header_at.ensures

pub invariant_of-self : goal.invariant_of-self
invariant_of-self c = stays_moved _ _ _ _ _ c.self.invariant _ c.in-Some.is _ c.catch_up-self-inside.ensures

pub returns-then-stands_at-clause-met : goal.returns-then-stands_at-clause-met
returns-then-stands_at-clause-met c = step_met _ _ _ _ _ c.self.invariant _ c.in-Some.is _
    c.catch_up-self-inside.ensures c.if-stands_at.ensures _ c.self.view_is

pub invariant_of-self-then-not-admit : goal.invariant_of-self-then-not-admit
invariant_of-self-then-not-admit c = stays _ _ _ _ _ c.self.invariant _ c.in-Some.is _ c.catch_up-self-inside.ensures
    c.if-stands_at.ensures _ c.if-not-admit.ensures

pub returns-then-not-admit-clause-met : goal.returns-then-not-admit-clause-met
returns-then-not-admit-clause-met c = step_refused _ _ _ _ _ c.self.invariant _ c.in-Some.is _
    c.catch_up-self-inside.ensures c.if-stands_at.ensures _ c.if-not-admit.ensures _ c.self.view_is

pub invariant_of-self-2 : goal.invariant_of-self-2
invariant_of-self-2 c =
    let x = c.in-Some-header_at.ensures in
    let e = c.in-Some-header_at.listed in
    let at : c.if-listed.self ≡ (if e.last then None else Some (next e.header)) = elim c.if-listed.branch [
      | then-listed w ↦ at_last _ e w.if-listed.true w.self-is
      | else-listed w ↦ at_more _ e _ w.if-listed.false w.self-is w.next.ensures
    ] in
    goes_on _ _ _ _ _ c.self.invariant _ c.in-Some.is _ c.catch_up-self-inside.ensures c.if-stands_at.ensures _
    c.if-not-admit.ensures e x.0 x.1 _ at

pub returns-clause-met : goal.returns-clause-met
returns-clause-met c =
    let x = c.in-Some-header_at.ensures in
    let e = c.in-Some-header_at.listed in
    let at : c.if-listed.self ≡ (if e.last then None else Some (next e.header)) = elim c.if-listed.branch [
      | then-listed w ↦ at_last _ e w.if-listed.true w.self-is
      | else-listed w ↦ at_more _ e _ w.if-listed.false w.self-is w.next.ensures
    ] in
    step_told _ _ _ _ _ c.self.invariant _ c.in-Some.is _ c.catch_up-self-inside.ensures c.if-stands_at.ensures _
    c.if-not-admit.ensures e x.0 x.1 _ c.self.view_is _ at
