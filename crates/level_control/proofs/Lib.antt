-- The files of lemmas, each over those before it.
pub mod ActionLaws
pub mod ArrayLaws
pub mod PathLaws
pub mod TimeLaws
pub mod SeenLaws
pub mod EventLaws
pub mod FadeInvariant
pub mod StartLaws
pub mod ReachedLaws
pub mod EveryFade
