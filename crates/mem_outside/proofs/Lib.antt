-- Lemmas about files and documents in memory.
pub mod FirstFiles
pub mod Places
pub mod ShelfBytes
