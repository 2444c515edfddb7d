pub mod Lengths
pub mod Edits
pub mod Pieces
pub mod Flanks
pub mod Code
