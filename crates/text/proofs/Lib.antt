pub mod DecimalLaws
pub mod RoomLaws
pub mod WholeLaws
pub mod LineLaws
pub mod Examples
