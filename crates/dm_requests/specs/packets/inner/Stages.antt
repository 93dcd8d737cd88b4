-- How a receiver keeps where its stream stands. Private contracts and proofs alone name these.
use Rattle.std.specs.Prelude.{ℕ, Bool, true, false, List, Option, Some, None}
use Rattle.dm_requests.specs.declared.packets.receiver.Stage.{Stage}
use Rattle.dm_requests.specs.declared.packets.receiver.Stage.TheVariants as stage
use Rattle.dm_requests.specs.packets.Reading.{Reading, between, within, checked, half}

-- the bytes that are kept; None if they were too many
abbrev pub if_kept : Bool → List ℕ → Option (List ℕ)
if_kept true content = None
if_kept false content = Some content

-- where a stream stands, by which byte of a packet is next and the packet's content so far
abbrev pub reading_at : Stage → Option (List ℕ) → Reading
reading_at stage.Between content = between
reading_at stage.Content content = within content
reading_at stage.High content = checked content
reading_at (stage.Low high) content = half content high
