-- A scene turned round where it stands: one exchange of two coordinates at a time, one vertex number at a time.
pub mod Exchanging
pub mod Renumbering
pub mod Scene
pub mod OneTurning
