-- Definitions that only inner contracts use. No promise rests on them.
pub mod OneFillReply
