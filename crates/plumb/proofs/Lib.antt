pub mod EuclidLaws
pub mod BoundsLaws
pub mod PlumbedLaws
pub mod OwnRoomLaws
pub mod PlumbCallLaws
