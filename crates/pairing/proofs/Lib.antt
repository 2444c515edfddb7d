-- What the proofs of several functions use, and the laws for the crates above.
pub mod With
pub mod Cases
pub mod Laws
pub mod MateLaws
