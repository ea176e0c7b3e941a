-- `put_led`: the part to which the order leads.
use borrow.Author.Rules.{rules}
use lib.Dec.{leb}
use Rattle.sequences.specs.Pick.{both}
use Rattle.mesh_order_rows.proofs.put_led.Goals as goal

pub put_found-requires : goal.put_found-requires
put_found-requires c =
    let start = c in
    let a = start.args in
    let read = c.wide-j.ensures in record { askable = λ e. rw (← read) at (start.requires.2 (both a.found (leb a.from c.wide-j.result) e).0); k_bound = start.requires.1 }

pub returns : goal.returns
returns c = rw c.wide-j.ensures at c.put_found.ensures
