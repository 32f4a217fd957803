pub mod Octets
pub mod Store
pub mod History
pub mod Watch
pub mod Pace
pub mod Buffer
