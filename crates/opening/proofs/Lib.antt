pub mod FirstLaws
pub mod FrontLaws
