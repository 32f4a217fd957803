-- What a run gives, from its lines and its orders.
pub mod Run
pub mod Lines
pub mod Facts
pub mod Now
pub mod Mark
