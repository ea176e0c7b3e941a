use mathlib.Core.Path.{ap, ◌∙◌}
use Rattle.meaning.specs.SceneWords.{byte_of}
use Rattle.c_numbers.proofs.word_number.Goals as goal

-- src/lib.rt:68:1
pub returns : goal.returns
returns c = c.byte_of.ensures ∙ ap byte_of c.settled_of.ensures
