-- The job of the tests of `pool_run`.
pub mod Counter
