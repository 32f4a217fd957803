-- The rule of one deque.
pub mod Deque
-- The joins of the passes.
pub mod Joins
-- One worker.
pub mod Member
-- The workers of a pool together.
pub mod Pool
-- The room of a pool.
pub mod Room
