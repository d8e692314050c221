pub mod DateSteps
