-- Cases shown of the definitions, by computing: what each says of something, so that none can be emptied unseen.
pub mod InMotion
pub mod ReadShown
pub mod FirstFault
pub mod ObjShown
pub mod SeriesShown
pub mod NumbersShown
pub mod ContactsShown
pub mod ClaimsShown
pub mod OrderShown
pub mod PiercedShown
pub mod MeshShown
