pub mod Made
pub mod Bridges
pub mod Memory
pub mod Step
pub mod Stands
pub mod Rings
pub mod ByNumber
