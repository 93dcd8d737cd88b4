-- Debugger commands on a host's machine, and their answers.
use Rattle.std.specs.Prelude.{◌≡◌, ◌⊎◌, ℕ, true, List, Some, None}
use Rattle.dm_requests.specs.declared.commands.command.Command.{Command}
use Rattle.dm_requests.specs.commands.Commands.{command_of}
use Rattle.dm_debug.specs.Debugged.{Debugged}
use Rattle.dm_debug.specs.Sessions.{Does, IsCutOff, is_syntax, is_full}
use Rattle.dm_host.specs.declared.refusal.Refusal.{Refusal}
use Rattle.dm_host.specs.declared.refusal.Refusal.TheVariants.{NotLoaded, Syntax, Full, Memory}
use Rattle.dm_host.specs.declared.host.Stage.TheVariants.{Loaded}
use Rattle.dm_host.specs.Hosts.{Hosted, with_stage, machine_of}

-- the line's command is executed on the host h, which becomes g, and what it prints is kept as the answer
pub record IsCommanded (h : Hosted) (line : List ℕ) (g : Hosted) : Type 0 where
  pub before : Debugged
  pub after : Debugged
  pub command : Command
  pub text : List ℕ
  pub loaded : h.stage ≡ Loaded before
  pub read : command_of line ≡ Some command
  pub does : Does before command text after
  pub is : g ≡ record h { stage = Loaded after; answer = text }

-- the line's command was executed, or some first part of it or none, which led from session s to t
abbrev pub IsDoneOrPart : Debugged → List ℕ → Debugged → Type 0
IsDoneOrPart s line t = IsCutOff s line t ⊎ ((command : Command) × (text : List ℕ) × (command_of line ≡ Some command) ×
    Does s command text t)

-- why a line has no answer from the host h, and the host g after it: no program is loaded, or the line is no command,
-- clears a breakpoint that is not set or sets a seventeenth one, and nothing has changed; or an allocation failed, and
-- the command, or some first part of it, may have been executed. The answer before stays
pub data IsUncommanded (h : Hosted) (line : List ℕ) (why : Refusal) (g : Hosted) : Type 0 where
  not_loaded : machine_of h.stage ≡ None → why ≡ NotLoaded → g ≡ h → IsUncommanded h line why g
  syntax : (s : Debugged) → h.stage ≡ Loaded s → is_syntax s (command_of line) ≡ true → why ≡ Syntax → g ≡ h →
      IsUncommanded h line why g
  full : (s : Debugged) → h.stage ≡ Loaded s → is_full s (command_of line) ≡ true → why ≡ Full → g ≡ h →
      IsUncommanded h line why g
  no_memory : (s t : Debugged) → h.stage ≡ Loaded s → IsDoneOrPart s line t → why ≡ Memory →
      g ≡ with_stage h (Loaded t) → IsUncommanded h line why g
