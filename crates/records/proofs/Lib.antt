-- The files of lemmas, each over those before it.
pub mod ByteLaws
pub mod LayoutLaws
pub mod HeadLaws
pub mod FitLaws
pub mod MissingLaws
pub mod WrittenLaws
pub mod RecordLaws
pub mod KindLaws
pub mod ReadLaws
