pub mod CallNumber
