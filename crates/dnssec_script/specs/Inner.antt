-- What the reader promises to the crates above. No contract of their public calls names it.
pub mod Statement
pub mod Reading
