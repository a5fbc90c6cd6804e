-- What a command line asks for is what `clap` answers, and it is one thing.
pub mod FilterAsks
