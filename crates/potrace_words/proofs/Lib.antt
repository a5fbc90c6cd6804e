-- A command line asks for at most one thing, and it can be done.
pub mod OneAsk
pub mod Possible
