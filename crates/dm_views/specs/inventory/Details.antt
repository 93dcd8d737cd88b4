-- What a finding is about, as numbers with the names that `dm check --json` gives them; those that a kind does not have
-- are 0.
use Rattle.std.specs.Prelude.{ℕ, Bool, if◌then◌else◌}
use Rattle.dm_findings.specs.declared.finding.Contents as found
use Rattle.dm_findings.specs.declared.finding.Finding.{Finding}
use Rattle.dm_findings.specs.declared.finding.Finding.TheVariants.{Overwritten, MappedAway, Destroyed, Whole, FreedTwice, Refused, NotAllocated, DivisionError, NotServed, Short, NotFreed, Held, FreeRead, FreeWritten, StackFreed, WindowLost, RomWritten, NothingWritten, TailWritten, OtherFreed, NotResized}
use Rattle.dm_findings.specs.declared.finding.Kept.{Kept}
use Rattle.dm_findings.specs.declared.finding.Kept.TheVariants as kept
use Rattle.dm_views.specs.declared.inventory.details.Contents.{Contents}
use Rattle.dm_views.specs.declared.inventory.details.Details.{Details}
use Rattle.dm_views.specs.inventory.Pages.{truth_number}

-- the contents of a header
abbrev pub contents_record : found.Contents → Contents
contents_record c = record { signature = c.signature; owner = c.owner; size = c.size }

-- contents of zeros
abbrev pub no_contents : Contents
no_contents = record { signature = 0; owner = 0; size = 0 }

-- no numbers
abbrev pub no_details : Details
no_details = record {
  old_contents = no_contents;
  new_contents = no_contents;
  header = 0;
  byte = 0;
  block = 0;
  owner = 0;
  segment = 0;
  offset = 0;
  window = 0;
  handle = 0;
  pages = 0;
  saved = 0;
  kib = 0;
  locked = 0;
  code = 0;
  wanted = 0;
  available = 0;
}

-- what a program has allocated at its end
abbrev pub kept_details : Kept → Details
kept_details (kept.Handle handle pages saved) = record no_details {
  handle = handle;
  pages = pages;
  saved = truth_number saved;
}
kept_details (kept.Window window) = record no_details { window = window }
kept_details (kept.Block handle kib locked) = record no_details {
  handle = handle;
  kib = kib;
  locked = truth_number locked;
}
kept_details (kept.Upper at) = record no_details { block = at }
kept_details kept.Area = no_details
kept_details kept.Line = no_details

-- what the finding is about: the header of a list and its contents, or a byte of it; a block, its owner, and a byte in
-- it; a window, and a byte in it; a byte elsewhere; the code of an error; paragraphs that were wanted and are
-- available; and what a program has allocated at its end. A failed allocation has the code 8, not enough memory
abbrev pub details_of : Finding → Details
details_of (Overwritten at old new) = record no_details {
  header = at;
  old_contents = contents_record old;
  new_contents = contents_record new;
}
details_of (MappedAway at) = record no_details { header = at }
details_of (Destroyed at) = record no_details { header = at }
details_of Whole = no_details
details_of (FreedTwice at) = record no_details { block = at }
details_of (Refused code) = record no_details { code = code }
details_of (NotAllocated code) = record no_details { code = code }
details_of DivisionError = no_details
details_of NotServed = no_details
details_of (Short asked largest) = record no_details { code = 8; wanted = asked; available = largest }
details_of (FreeRead block segment offset) = record no_details { block = block; segment = segment; offset = offset }
details_of (FreeWritten block segment offset) = record no_details { block = block; segment = segment; offset = offset }
details_of (StackFreed at) = record no_details { block = at }
details_of (WindowLost window segment offset) = record no_details {
  window = window;
  segment = segment;
  offset = offset;
}
details_of (RomWritten segment offset) = record no_details { segment = segment; offset = offset }
details_of (NothingWritten segment offset) = record no_details { segment = segment; offset = offset }
details_of (TailWritten at byte) = record no_details { header = at; byte = byte }
details_of (OtherFreed at owner) = record no_details { block = at; owner = owner }
details_of (NotResized asked) = record no_details { wanted = asked }
details_of (NotFreed kept) = kept_details kept
details_of (Held kept) = kept_details kept
