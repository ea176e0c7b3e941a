-- The look over stored boxes as checks: what each way out of it gives, and what holds of a scene that passes.
pub mod Looked
