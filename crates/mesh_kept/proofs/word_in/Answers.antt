-- By the byte: the word whose byte it is, else the last.
use mathlib.Core.Path.{sym}
use Rattle.meaning.specs.SceneWords.{byte_of}
use Rattle.meaning.specs.declared.Settled.TheVariants.{Hit, Miss, Touch}
use Rattle.list_words.specs.Listed.{word_of_its_byte}
use Rattle.mesh_kept.specs.Totals.{last_word}
use Rattle.mesh_kept.proofs.word_in.Goals as goal

pub returns-then-byte-eq0 : goal.returns-then-byte-eq0
unfolding byte_of
returns-then-byte-eq0 c = word_of_its_byte Hit (sym c.if-byte-eq0.true)

pub returns-then-byte-eq1 : goal.returns-then-byte-eq1
unfolding byte_of
returns-then-byte-eq1 c = word_of_its_byte Miss (sym c.if-byte-eq1.true)

pub returns-then-byte-eq3 : goal.returns-then-byte-eq3
unfolding byte_of
returns-then-byte-eq3 c = word_of_its_byte Touch (sym c.if-byte-eq3.true)

pub returns : goal.returns
returns c = last_word _ c.if-byte-eq0.false c.if-byte-eq1.false c.if-byte-eq3.false
