-- Pierced: what follows from the definition.
-- events that all stand at one time have weights exactly when their places have, whatever that time is
pub mod OneTime
-- weights in some piece of a pair
pub mod SomeWeights
-- a point that goes from one end of an edge to the other against a resting triangle
pub mod Crossing
-- parts whose boxes at that time do not meet
pub mod BoxesApart
-- demand 3's maps, another order of writing, and rational weights
pub mod Kept
