pub mod OperationLaws
pub mod BytesLaws
pub mod SplicedLaws
pub mod Table93Laws
pub mod Table92Laws
pub mod Table94Laws
pub mod ShortLaws
