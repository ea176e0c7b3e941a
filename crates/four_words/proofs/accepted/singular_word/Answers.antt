use mathlib.Core.Path.{refl}
use Rattle.four_words.specs.Words.{goes_to_touch, goes_to_apart}
use Rattle.four_words.proofs.accepted.singular_word.Goals as goal

pub returns-then-touches : goal.returns-then-touches
returns-then-touches c = goes_to_touch _ _ _ _ refl c.requires.2 c.touches.ensures c.if-touches.true

pub returns-else-touches : goal.returns-else-touches
returns-else-touches c = goes_to_apart _ _ _ _ refl c.requires.2 c.touches.ensures c.if-touches.false
