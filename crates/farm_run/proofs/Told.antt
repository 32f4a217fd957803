-- The ends of calls, as the board is told of them.
pub mod Few
pub mod Boards
pub mod Portions
pub mod Lacking
pub mod Next
pub mod Ends
