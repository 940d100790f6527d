pub mod Made
pub mod Left
