pub mod Document
pub mod Draft
pub mod Picture
pub mod Section
