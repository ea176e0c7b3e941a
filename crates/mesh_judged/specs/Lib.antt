-- A stretch of rows judged, in lists of one's own and in lent ones.
pub mod Judged
