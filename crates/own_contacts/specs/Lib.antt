-- From the contacts of the entries to the answer of the whole call.
pub mod Answering
pub mod OneResult
