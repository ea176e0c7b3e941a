-- `series_line::next_here` meets its contract: the two bytes are those of the definition.
use Rattle.series_line.proofs.next_here.Goals as goal

pub returns : goal.returns
returns c = simp (c.byte_at-letter.ensures, c.byte_at-behind.ensures)
