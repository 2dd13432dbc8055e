pub mod ConfirmationLaws
pub mod FailureLaws
pub mod StepLaws
mod WriteLaws
