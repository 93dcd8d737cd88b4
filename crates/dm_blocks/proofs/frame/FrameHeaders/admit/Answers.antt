use Rattle.std.proofs.Common.{arith, refl}
use Rattle.dm_blocks.proofs.Stands.{place-of, low-stands, lost-stands}
use Rattle.dm_blocks.proofs.Occupying.{low-occupied, page-admits, paragraph-within}
use Rattle.dm_blocks.proofs.frame.FrameHeaders.admit.Goals as goal

pub returns-in-Low : goal.returns-in-Low
returns-in-Low c =
    let e = place-of c.args.space.now.memory c.args.segment _ _ c.back.ensures c.in-Low.is in
    λ P a n. (low-stands _ P c.args.segment _ e n, low-occupied _ P _ c.args.segment _ a e)

pub returns-in-Rom : goal.returns-in-Rom
returns-in-Rom c = λ P a n. (lost-stands _ P c.args.segment _ c.back.ensures c.in-Rom.is, refl)

pub occupy-requires : goal.occupy-requires
occupy-requires c =
    let e = place-of c.args.space.now.memory c.args.segment _ _ c.back.ensures c.in-Page.is in
    omega (
      arith,
      paragraph-within c.args.space.now.memory c.args.segment c.in-Page.block c.in-Page.offset e,
      c.paragraph_of.ensures,
    )

pub returns-in-Page : goal.returns-in-Page
returns-in-Page c =
    let e = place-of c.args.space.now.memory c.args.segment _ _ c.back.ensures c.in-Page.is in
    λ P a n. page-admits _ P _ _ c.args.segment _ _ _ _ a e c.paragraph_of.ensures c.occupy.ensures
