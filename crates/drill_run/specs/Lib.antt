-- What a drill leaves, and the rooms of its lines.
pub mod Drilled
pub mod Rooms
