-- Far pairs of a mesh: as code tests them, and of which parts it can.
pub mod Apart
pub mod Spanned
