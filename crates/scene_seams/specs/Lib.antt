-- The table of seams: what it says of a scene, with one seam more and with all.
pub mod Scanning
pub mod OneMore
pub mod Table
pub mod Alone
pub mod Sewing
