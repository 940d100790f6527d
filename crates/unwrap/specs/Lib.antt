pub use Rattle.phase_field.specs.Field
pub use Rattle.phase_input.specs.Input
pub use Rattle.phase_cost.specs.Cost
pub mod Promise
