-- From the numbers of a hit pair to the answer of the call.
pub mod Ready
pub mod Answering
pub mod Handed
