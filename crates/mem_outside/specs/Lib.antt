pub mod MemSink
pub mod Shelf
pub mod MemOutputs
pub mod MemInputs
