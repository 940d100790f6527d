pub mod Picture
