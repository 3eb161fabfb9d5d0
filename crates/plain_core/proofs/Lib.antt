pub mod object_lemmas
pub mod step_lemmas
pub mod opening_lemmas
