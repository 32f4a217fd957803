pub mod DecodedOctets
pub mod Frame
