-- `series_line::other_line` meets its contract: the letter says which row would make it a record, and without one of the three there is none.
use Rattle.text_line.specs.Reading.{letter, many, form_of}
use Rattle.text_line.specs.declared.Sort.TheVariants.{Edge, Triangle, Seam}
use Rattle.series_line.specs.Reading.{part_got, no_part}
use Rattle.series_line.proofs.other_line.Goals as goal

pub returns-then-letter-eq101 : goal.returns-then-letter-eq101
unfolding letter many form_of
returns-then-letter-eq101 c =
    let row = c in
    let test = row in
    part_got _ _ test.requires.other_here Edge test.if-letter-eq101.true row.read_row.ensures c.part_found.ensures

pub returns-then-letter-eq116 : goal.returns-then-letter-eq116
unfolding letter many form_of
returns-then-letter-eq116 c =
    let row = c in
    let test = row in
    part_got _ _ test.requires.other_here Triangle test.if-letter-eq116.true row.read_row-then-letter-eq116.ensures c.part_found-then-letter-eq116.ensures

pub returns-then-letter-eq119 : goal.returns-then-letter-eq119
unfolding letter many form_of
returns-then-letter-eq119 c =
    let row = c in
    let test = row in
    part_got _ _ test.requires.other_here Seam test.if-letter-eq119.true row.read_row-then-letter-eq119.ensures c.part_found-then-letter-eq119.ensures

pub returns : goal.returns
returns c = no_part _ _ c.requires.other_here _ _ c.if-letter-eq101.false c.if-letter-eq116.false c.if-letter-eq119.false
