pub mod RangeLaws
pub mod StrayLaws
pub mod SoundLaws
pub mod JoinLaws
pub mod PlainLaws
pub mod CheckLaws
pub mod RefusalLaws
