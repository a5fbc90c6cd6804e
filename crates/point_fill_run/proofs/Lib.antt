-- Why the program makes the same page again.
pub mod RoundTrip
