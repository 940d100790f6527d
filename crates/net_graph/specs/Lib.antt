pub mod Graph
pub mod Network
pub mod Node
pub mod Sound
pub mod Order
