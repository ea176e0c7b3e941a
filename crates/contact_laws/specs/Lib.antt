-- When and where: the numbers of a contact follow from the determinants of its piece, and go with it through maps and shifts.
pub mod Cuts
pub mod Solving
pub mod Told
pub mod Numbers
pub mod OneNumber
pub mod Sent
