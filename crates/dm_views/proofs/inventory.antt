pub mod ArenaRecords
pub mod ArenaLists
pub mod NumberedRecords
pub mod ArenaOnce
