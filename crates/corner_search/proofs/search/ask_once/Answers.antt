-- By the flag.
use mathlib.Core.Path.{◌≡◌, sym, ◌∙◌, ap}
use mathlib.Core.Bool.{Bool, false, cond}
use Rattle.corner_leaf.specs.declared.Leaf.{Leaf}
use Rattle.corner_search.proofs.search.ask_once.Goals as goal

chosen : (r a b : Leaf) (c : Bool) → r ≡ b → c ≡ false → r ≡ cond c a b
chosen r a b c h e = h ∙ ap (λ c. cond c a b) (sym e)

pub returns-else-tried : goal.returns-else-tried
returns-else-tried c = chosen _ _ _ _ c.ask.ensures c.if-tried.false
