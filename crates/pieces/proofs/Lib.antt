pub mod WalkingLaws
pub mod PlaceLaws
pub mod CheckLaws
pub mod WriteLaws
