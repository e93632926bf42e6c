pub mod KeySet
pub mod Step
pub mod WaitEnd
pub mod Laws
