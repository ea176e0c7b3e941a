-- Orders of parts: how an inverse tells them, that this is what meaning asks, and what is told of lent lists.
pub mod Orders
pub mod Deciding
pub mod Told
