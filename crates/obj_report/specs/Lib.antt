-- What two OBJ files print: what is asked for, how it is shown right, and that it is one text.
pub mod Asking
pub mod Printed
pub mod ReadSoFar
