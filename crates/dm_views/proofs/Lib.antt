pub mod NumberedTexts
pub mod ArenaTexts
pub mod CodeTexts
pub mod CodeOnce
pub mod ArenaLists
pub mod ArenaOnce
