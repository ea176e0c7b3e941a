use Rattle.std.proofs.Common.{arith, ◌≡◌}
use Rattle.text_fields.proofs.Reading.{starts, more, stopped, enough}
use Rattle.text_fields.proofs.read_fields.Goals as goal

pub loop-found-init : goal.loop-found-init
loop-found-init c = starts _ _ _ _ _ _

pub loop-found-preserved : goal.loop-found-preserved
loop-found-preserved c =
    let a = c in
    more c.loop-found.invariant c.loop-found-test.true
    a.requires.count_in_bounds a.requires.count_in_bounds_2 c.read_field.ensures c.in-Some.is

pub returns-in_default : goal.returns-in_default
returns-in_default c = stopped c.loop-found.invariant c.read_field.ensures c.in_default.is

pub returns : goal.returns
returns c =
    let all : c.loop-found.found ≡ c.args.count = omega arith in
    rw all at (enough c.loop-found.invariant c.loop-found-test.false)
