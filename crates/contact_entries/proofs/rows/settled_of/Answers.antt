-- Each word is its own.
use Rattle.meaning.specs.WholeContacts.{word_of}
use Rattle.contact_entries.proofs.rows.settled_of.Goals as goal

pub returns-in-Hit : goal.returns-in-Hit
unfolding word_of
returns-in-Hit c = rw c.in-Hit.is

pub returns-in-Miss : goal.returns-in-Miss
unfolding word_of
returns-in-Miss c = rw c.in-Miss.is

pub returns-in-Touch : goal.returns-in-Touch
unfolding word_of
returns-in-Touch c = rw c.in-Touch.is

pub returns-in-Apart : goal.returns-in-Apart
unfolding word_of
returns-in-Apart c = rw c.in-Apart.is
