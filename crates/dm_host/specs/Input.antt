-- Console input that comes while a host's program runs.
use Rattle.std.specs.Prelude.{◌≡◌, Bool, true, false, List, ℕ}
use Rattle.dm_debug.specs.Sessions.{with_machine}
use Rattle.dm_debug.specs.Input.{with_more, with_supply}
use Rattle.dm_host.specs.declared.refusal.Refusal.{Refusal}
use Rattle.dm_host.specs.declared.refusal.Refusal.TheVariants.{Memory, InputClosed}
use Rattle.dm_host.specs.Hosts.{Hosted, Works, Shows, IsNotLoaded}

-- the program's input is opened (true) or closed (false) in the host h, which becomes g
abbrev pub SetsMore : Hosted → Bool → Hosted → Type 0
SetsMore h more g = Works h (λ s t. t ≡ with_machine s (with_more s.machine more)) g

-- the program's input is open in the host h, and these bytes are added to its end; the host becomes g
abbrev pub Supplies : Hosted → List ℕ → Hosted → Type 0
Supplies h bytes g = Works h (λ s t. (s.machine.console.more ≡ true) ×
    (t ≡ with_machine s (with_supply s.machine bytes))) g

-- why no input is added in the host, in this order: no program is loaded; its input is closed; an allocation failed
pub data IsUnsupplied (h : Hosted) (why : Refusal) : Type 0 where
  not_loaded : IsNotLoaded h why → IsUnsupplied h why
  closed : Shows h (λ s. s.console.more ≡ false) → why ≡ InputClosed → IsUnsupplied h why
  no_memory : Shows h (λ s. s.console.more ≡ true) → why ≡ Memory → IsUnsupplied h why
