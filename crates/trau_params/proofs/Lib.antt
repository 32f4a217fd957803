pub mod AreBits
mod BlockBits
mod FieldPlaces
pub mod FieldsRead
pub mod FieldsWritten
pub mod Four
pub mod OneFrame
pub mod Fronts
