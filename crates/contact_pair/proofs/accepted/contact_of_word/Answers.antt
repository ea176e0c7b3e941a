-- A hit has its numbers, and the other words stay.
use mathlib.Core.Path.{subst}
use Rattle.meaning.specs.Resting.{PairSettled}
use Rattle.meaning.specs.WholeContacts.{WholeContactIs}
use Rattle.contact_pair.proofs.accepted.contact_of_word.Goals as goal

pub contact_numbers-requires : goal.contact_numbers-requires
contact_numbers-requires c = let p = c.requires in (p.0, p.1, subst (PairSettled _ _ _ _) c.in-Hit.is p.2)

pub returns-in-Hit : goal.returns-in-Hit
unfolding WholeContactIs
returns-in-Hit c = c.contact_numbers.ensures

pub returns-in-Miss : goal.returns-in-Miss
unfolding WholeContactIs
returns-in-Miss c = subst (PairSettled _ _ _ _) c.in-Miss.is c.requires.2

pub returns-in-Touch : goal.returns-in-Touch
unfolding WholeContactIs
returns-in-Touch c = subst (PairSettled _ _ _ _) c.in-Touch.is c.requires.2

pub returns-in-Apart : goal.returns-in-Apart
unfolding WholeContactIs
returns-in-Apart c = subst (PairSettled _ _ _ _) c.in-Apart.is c.requires.2
