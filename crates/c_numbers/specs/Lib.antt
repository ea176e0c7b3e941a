-- An answer as one number, and back.
-- that what it carries is small
pub mod Small
-- answers to claims
pub mod Claims
-- contacts
pub mod Contacts
-- what a number tells, read again
pub mod Telling
-- from a number back to its answer
pub mod Back
-- from a row of contacts back to the contact
pub mod RowsBack
-- lengths of saved texts
pub mod Saved
-- calls over stored boxes
pub mod Stored
-- lists of one's own: that what is carried is small
pub mod OwnSmall
-- the answer of an import: what it is, that a line is small, and the way back
pub mod ImportNumbers
-- a line of a file stays below 2^30
pub mod ImportSmall
-- from the number back to what the answer says, as a caller goes
pub mod ImportBack
