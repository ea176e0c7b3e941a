-- `order_places`: what is found, sorted, is the row.
use borrow.Author.Rules.{rules}
use native.Mathlib.Omega.{arith}
use Rattle.mesh_entries.specs.Entering.{entered_length}
use Rattle.mesh_order_rows.specs.Led.{own_there, led_row}
use Rattle.mesh_order_rows.specs.Sorted.{few_found, led_sorted}
use Rattle.mesh_order_rows.proofs.order_places.Goals as goal

pub own_box-requires : goal.own_box-requires
own_box-requires c =
    let start = c in
    (own_there start.requires.led_tree.0 start.args.i start.requires.led_tree.1, omega arith)

pub first_second-from-requires : goal.first_second-from-requires
first_second-from-requires c = let start = c in omega (arith, start.requires.led_tree.1, start.requires.led_tree.0.few_rows)

pub find_led-count-requires : goal.find_led-count-requires
find_led-count-requires c =
    let start = c in
    (led_row start.requires.led_tree.0 start.args.i start.requires.led_tree.1 _ _ c.own_box.ensures c.first_second-from.ensures, omega arith)

pub sort_front-requires : goal.sort_front-requires
sort_front-requires c =
    let start = c in
    let row = led_row start.requires.led_tree.0 start.args.i start.requires.led_tree.1 _ _ c.own_box.ensures c.first_second-from.ensures in
    let found = c.find_led-count.ensures in
    let few = few_found row start.args.which found in
    let same = entered_length found in
    (few, omega (arith, start.requires.parts_in_bounds), omega (arith, start.requires.led_tree.0.few))

pub returns : goal.returns
returns c =
    let start = c in
    let row = led_row start.requires.led_tree.0 start.args.i start.requires.led_tree.1 _ _ c.own_box.ensures c.first_second-from.ensures in
    led_sorted row start.args.which c.find_led-count.ensures (omega (arith, start.requires.parts_in_bounds)) c.sort_front.ensures
