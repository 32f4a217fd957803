mod Laid
mod Mapping
mod MuOctets
mod MuSegments
mod Octets
mod Rows
mod Segments
