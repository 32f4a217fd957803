-- The pool machine: its state and steps, whole lists of steps, and the deques as the code keeps them.
pub mod Machine
pub mod Steps
pub mod Waiting
