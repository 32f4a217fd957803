pub mod Alaw
pub mod Companding
pub mod Laws
pub mod Mulaw
pub mod Period
