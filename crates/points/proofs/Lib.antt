pub mod NumberLaws
pub mod DoubleLaws
pub mod PlaneLaws
