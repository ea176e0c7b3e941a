-- Laws of a right answer and of the computed search below a number; the number of a refusal is in src.
pub mod Answering
pub mod Speaking
pub mod Deciding
pub mod Below
pub mod Printed
