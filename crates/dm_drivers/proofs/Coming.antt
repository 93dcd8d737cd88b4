-- Pages and blocks that are promised come.
use Rattle.dm_ems.specs.Tables.{expanded}
use Rattle.dm_ems.proofs.Coming as new_handles
use Rattle.dm_ems_move.proofs.Coming as other_numbers
use Rattle.dm_xms.specs.Tables.{extended}
use Rattle.dm_xms.proofs.Coming as new_blocks
use Rattle.dm_services.proofs.state.Numbers.{page_numbers, block_numbers}
use Rattle.dm_drivers.specs.Laws.{PagesCome, BlockComes}

pub pages : PagesCome
pages = record {
  allocating = λ s y n h l. new_handles.pages_come (expanded s.ems s.memory) y n h l.ems (page_numbers s l);
  reallocating = λ s y h n r l. other_numbers.pages_come (expanded s.ems s.memory) y h n r l.ems (page_numbers s l);
}

pub block : BlockComes
block s kib l = new_blocks.block_comes (extended s.xms s.memory) kib l.xms (block_numbers s l)
