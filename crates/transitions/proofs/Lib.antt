-- The files of lemmas, each over those before it.
pub mod ActionLaws
pub mod SearchLaws
pub mod ValueLaws
pub mod TaskLaws
pub mod SceneLaws
pub mod RuleLaws
pub mod MatterLaws
