use Rattle.four_words.specs.Six.{point_tested_lem}
use Rattle.four_words.proofs.six.point_six.Goals as goal

pub returns : goal.returns
returns c =
    let a = c.args in
    rw (c.between-third.ensures, c.between-second.ensures) (point_tested_lem a.p a.c a.k)
