pub mod Downlink
pub mod Heard
pub mod Lines
mod UpLaws
pub mod OrderLaws
pub mod LineLaws
pub mod HalfLaws
pub mod LegLaws
pub mod HalfSteps
mod Noted
pub mod NotedRuns
