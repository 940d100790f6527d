pub use Rattle.phase_field.specs.Field
pub mod Input
pub mod Lent
pub mod Refusal
pub mod Verdict
