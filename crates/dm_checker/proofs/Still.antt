-- A step after which memory still shows what was kept: its headers are as they were, and calls alone are found.
use Rattle.std.proofs.Common.{◌≡◌, ℕ, Bool, true, false, List, [], ◌++◌, map, Option, Some, None, refl}
use Rattle.std.specs.Prelude.{if◌then◌else◌}
use Rattle.dm_services.specs.state.State.{State}
use Rattle.dm_findings.specs.declared.finding.Finding.{Finding}
use Rattle.dm_findings.specs.Calls.{call_of}
use Rattle.dm_checker.specs.declared.arena_copy.ArenaCopy.{ArenaCopy}
use Rattle.dm_origins.specs.outcomes.Calls.{arranges, call_findings}
use Rattle.dm_checker.specs.Freed.{freed_twice}
use Rattle.dm_checker.specs.Findings.{turn_found, findings}
use Rattle.dm_checker.specs.ArenaCopy.{header_of, broken_at, IsArenaCopy}
use Rattle.dm_checker.specs.inner.ArenaCopy.{shown_of, IsSeen}
use Rattle.dm_checker.proofs.Seen.{seen_overwritten, seen_mapped_away}

pub seen_turned : (o : Option ℕ) → turn_found o o ≡ []
seen_turned None = refl
seen_turned (Some at) = refl

none_either_way : (may : Bool) (fs : List Finding) → fs ≡ [] → (if may then [] else fs) ≡ []
none_either_way true fs e = refl
none_either_way false fs e = e

four_none : (a b c d e : List Finding) → a ≡ [] → b ≡ [] → c ≡ [] → a ++ b ++ c ++ d ++ e ≡ d ++ e
four_none a b c d e p q r = rw (p, q, r) refl

-- of a step after which memory shows the same headers, only what a call did is found
pub seen_findings : (s t : State) (w : ArenaCopy) → IsArenaCopy s.upper s.memory w → IsSeen t.upper t.memory w →
    findings s t (shown_of w) (shown_of w) ≡ freed_twice s.cpu t.cpu (call_of s.cpu) (map header_of w.headers.items)
    ++ call_findings s.cpu t.cpu (call_of s.cpu)
seen_findings s t w x y = four_none _ _ _ _ _
    (none_either_way (arranges s.cpu (call_of s.cpu)) _ (seen_overwritten s.upper t.upper s.memory t.memory w x y))
    (seen_mapped_away s.upper t.upper s.memory t.memory w x y)
    (seen_turned (broken_at w.broken))
