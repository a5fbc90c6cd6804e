pub mod EpsText
