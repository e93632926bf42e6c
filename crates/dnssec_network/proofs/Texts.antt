-- Notes as a text, and the reports that are due by them.
pub mod Noting
pub mod Asking
pub mod Reporting
pub mod Parting
