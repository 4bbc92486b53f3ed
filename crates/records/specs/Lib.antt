pub mod Record
pub mod Answers
pub mod RoundTrip
