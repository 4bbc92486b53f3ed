pub mod PlanedLaws
