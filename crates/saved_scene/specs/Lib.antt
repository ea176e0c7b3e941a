-- A scene as text: what is written, how it is made of lines and fields, and how an answer is shown right.
pub mod Rows
pub mod Lengths
pub mod Shaped
pub mod Answering
pub mod OneSave
