-- What starts have listed: entries by tags are kept, and lists of references are meant.
pub mod References
pub mod Starts
