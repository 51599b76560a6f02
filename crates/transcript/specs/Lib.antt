pub mod Machine
pub mod Names
pub mod Phases
pub mod Rehearsal
