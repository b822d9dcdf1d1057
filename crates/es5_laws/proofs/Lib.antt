pub mod Writing
pub mod Depths
pub mod OwnCode
pub mod SameTasks
pub mod SameSteps
pub mod SameCalls
pub mod SameNodes
pub mod SameRuns
