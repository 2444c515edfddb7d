pub mod BytesLaws
pub mod RoomLaws
pub mod CallLaws
pub mod RecordLaws
pub mod Unique
pub mod RefusalLaws
