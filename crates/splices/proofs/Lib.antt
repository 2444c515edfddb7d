pub mod With
pub mod TakenLaws
pub mod WalkLaws
pub mod MappingLaws
