-- What was asked of contacts, as theorems.
-- what keeps the hit, the time and the shares of each piece keeps the contact of the pair
pub mod Carried
-- 'Demand 3 extends to contacts
pub mod Demand3
-- 'Each number over 2^20 is at most the exact value and short of it by less than 1 in 2^20, said of k, the shares and the whole weights by multiplying out', and the time handed out 'loses nothing'
pub mod Numbers
-- demand 1 for contacts
pub mod Demand1
-- demand 3 for contacts as an integrator meets it, in answers
pub mod SameAnswer
-- of a text the contacts that are printed are one
pub mod OnePrinted
-- a whole scene met in one call, its ends and corners in another order
pub mod AnyWriting
-- a contact by computing
pub mod Shown
