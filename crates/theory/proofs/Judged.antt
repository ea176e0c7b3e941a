-- Of `Judged`: what rests on its definitions.
use Rattle.std.specs.Prelude.{◌≢◌, ◌↔◌, map, T, ℤ, pos}
use Rattle.whole.specs.Vector.{Vector}
use Rattle.whole.specs.Signs.{sgn}
use Rattle.whole.specs.Cramer.{Four, volumes}
use Rattle.meaning.specs.Pieces.{Event}
use Rattle.meaning.specs.Equations.{Touches}
use Rattle.meaning.specs.Verdicts.{PieceIs}
use Rattle.theory.specs.Differences.{differences, Form, alone, around, formed}
use Rattle.theory.specs.Solved.{touch_is}
use Rattle.theory.specs.Spread.{first_numbers, second_numbers, factor}
use Rattle.theory.proofs.Shapes.{solved}
use Rattle.theory.specs.Bridge.{singular_is}
use Rattle.theory.specs.Agreement.{AgreeFour, agrees_dot, agree_none, agree_more, agree_three, agreed}
use Rattle.theory.specs.Reading.{agreeing, agreeing_is, verdict_of, verdict_right}
use Rattle.theory.specs.Judged.{Timely, tested, AllNumbers, AllTested}

module _ (p q : Vector) (o : Four Event) (t : Timely o) (D : ℤ) (n : Four ℤ) where
  enough : (form : Form) → AllTested p q o t D n form → AllNumbers p q o t D n form
  unfolding formed first_numbers second_numbers tested
  enough alone h = (
    agree_more (agrees_dot n _ four t.to_end) (agree_more (agrees_dot n _ four t.from_start) agree_none),
    record { each = h.each },
  )
    where
      four : AgreeFour D n
      four = record { a0 = agreed h 0 tt; a1 = agreed h 1 tt; a2 = agreed h 2 tt; a3 = agreed h 3 tt }
  enough around h = (
    agree_three (agreed h 4 tt) (agreed h 0 tt) (agreed h 5 tt),
    agree_three (agreed h 1 tt) (agreed h 2 tt) (agreed h 3 tt),
  )

  needed : (form : Form) → AllNumbers p q o t D n form → AllTested p q o t D n form
  unfolding formed first_numbers second_numbers tested
  needed alone h = record { each = h.1.each }
  needed around h =
      agree_more (agreed h.0 1 tt) (agree_more (agreed h.1 0 tt) (agree_more (agreed h.1 1 tt)
      (agree_three (agreed h.1 2 tt) (agreed h.0 0 tt) (agreed h.0 2 tt))))

pub judged : (form : Form) (p q : Vector) (o : Four Event) → Timely o → PieceIs (formed form p q o) (verdict_of (sgn (factor form (volumes (differences p q o)))) (map sgn (tested form o (volumes (differences p q o)))))
judged form p q o t = verdict_right (formed form p q o) D (map sgn (tested form o E)) (singular_is form p q o) touches
  where
    E : Four ℤ
    E = volumes (differences p q o)

    D : ℤ
    D = factor form E

    touches : D ≢ pos 0 → Touches (formed form p q o) ↔ T (agreeing (sgn D) (map sgn (tested form o E)))
    touches n = (
      λ h. (agreeing_is D (tested form o E)).1 (needed p q o t D E form ((touch_is (solved form p q o) n).0 h)),
      λ h. (touch_is (solved form p q o) n).1 (enough p q o t D E form ((agreeing_is D (tested form o E)).0 h)),
    )
