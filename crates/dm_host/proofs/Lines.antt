-- From why a session refuses a line to why the host does.
use Rattle.std.proofs.Common.{◌≡◌, refl, ap, sym, ◌∙◌, List, ℕ, true, Option, inl, inr}
use Rattle.dm_requests.specs.commands.Commands.{command_of}
use Rattle.dm_debug.specs.Debugged.{Debugged}
use Rattle.dm_debug.specs.Sessions.{IsCutOff, IsPartlyWritten, is_syntax, is_full}
use Rattle.dm_debug.specs.declared.refusal.CommandRefusal as session
use Rattle.dm_debug.specs.declared.refusal.CommandRefusal.TheVariants as why
use Rattle.dm_host.specs.declared.host.Stage.TheVariants.{Loaded}
use Rattle.dm_host.specs.Hosts.{Hosted, with_stage}
use Rattle.dm_host.specs.Commands.{IsUncommanded, syntax, full, no_memory}
use Rattle.dm_host.specs.inner.Answers.{refusal_of}

stays : (h : Hosted) (s t : Debugged) → h.stage ≡ Loaded s → t ≡ s → with_stage h (Loaded t) ≡ h
stays h s t loaded same = ap (λ x. with_stage h (Loaded x)) same ∙ ap (λ x. with_stage h x) (sym loaded)

pub uncommanded : (h : Hosted) (s t : Debugged) (line : List ℕ) (e : session.CommandRefusal) (a b : Option (List ℕ)) →
    h.stage ≡ Loaded s
    → (e ≡ why.Syntax → (is_syntax s (command_of line) ≡ true) × (t ≡ s)) →
    (e ≡ why.Full → (is_full s (command_of line) ≡ true) × (t ≡ s))
    → (e ≡ why.Memory → IsCutOff s line t) → (e ≡ why.Write → IsPartlyWritten s line t a b)
    → IsUncommanded h line (refusal_of e) (with_stage h (Loaded t))
uncommanded h s t line why.Syntax a b loaded syntax_is full_is cut part = let p = syntax_is refl in
    syntax s loaded p.0 refl (stays h s t loaded p.1)
uncommanded h s t line why.Full a b loaded syntax_is full_is cut part = let p = full_is refl in
    full s loaded p.0 refl (stays h s t loaded p.1)
uncommanded h s t line why.Memory a b loaded syntax_is full_is cut part =
    no_memory s t loaded (inl (cut refl)) refl refl
uncommanded h s t line why.Write a b loaded syntax_is full_is cut part = let p = part refl in
    no_memory s t loaded (inr (p.command, p.text, p.read, p.does)) refl refl
