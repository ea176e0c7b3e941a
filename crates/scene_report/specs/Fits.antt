-- Every report fits the array that it is written into: 3,072 lines of a pair, and the totals.
use Rattle.std.specs.Prelude.{ℕ, ◌*◌, ◌≤◌, List, [], ◌∷◌, ◌++◌, ◌≡◌, refl, length}
use mathlib.Core.List.Memᴰ
use Rattle.std.proofs.Common.{arith, length-append}
use Rattle.decimals.specs.Digits.{digits}
use Rattle.decimals.specs.Value.{digits_length}
use Rattle.meaning.specs.Limits.{report_room}
use Rattle.meaning.specs.Scene.{Scene, Accepted}
use Rattle.meaning.specs.List.{Pair, pairs}
use Rattle.meaning.specs.SceneWords.{AllSettled}
use Rattle.meaning.specs.Text.{further}
use Rattle.meaning.specs.Report.{pair_line, pair_lines, how_many, total_line}
use Rattle.meaning.specs.declared.Settled.{Settled}
use Rattle.meaning.specs.declared.Settled.TheVariants.{Hit, Miss, Touch, Apart}
use Rattle.list_entries.specs.Entries.{AllNarrow}
use Rattle.list_pairs.specs.Sizes.{pairs_narrow}
use Rattle.tally.specs.Counted.{at_most}
use Rattle.report_words.specs.Lines.{pair_line_short}
use Rattle.pair_report.specs.Sizes.{report_length}

lines_fit : (ps : List Pair) (ws : List Settled) → AllNarrow ps → length (pair_lines ps ws) ≤ length ps * 21
unfolding pair_lines
lines_fit [] ws all = omega arith
lines_fit (p ∷ ps) [] all = omega arith
lines_fit (p ∷ ps) (w ∷ ws) all =
    let narrow = all p (Memᴰ.head refl) in
    omega (
      arith,
      length-append (pair_line p w) (pair_lines ps ws),
      pair_line_short p w (omega (arith, narrow.first_narrow)) (omega (arith, narrow.second_narrow)),
      lines_fit ps ws (λ q m. all q (Memᴰ.tail m)),
    )

as_long : (s : Scene) (ps : List Pair) (ws : List Settled) → AllSettled s ps ws → length ws ≡ length ps
unfolding AllSettled
as_long s [] [] a = refl
as_long s [] (w ∷ ws) a = absurd a
as_long s (p ∷ ps) [] a = absurd a
as_long s (p ∷ ps) (w ∷ ws) a = omega (arith, as_long s ps ws a.1)

total_fits : (ws : List Settled) → length ws ≤ report_room → length (total_line ws) ≤ 31
unfolding further
total_fits ws few =
    let short : (n : ℕ) → n ≤ length ws → length (digits n) ≤ 4 = λ n h. digits_length 4 n (omega arith) (omega arith) in
    simp length-append
    (omega (
      arith,
      short (length ws) (omega arith),
      short (how_many Hit ws) (at_most Hit ws),
      short (how_many Miss ws) (at_most Miss ws),
      short (how_many Touch ws) (at_most Touch ws),
      short (how_many Apart ws) (at_most Apart ws),
    ))

pub report_fits : (s : Scene) (ws : List Settled) → Accepted s → length (pairs s) ≤ report_room → AllSettled s (pairs s) ws
    → length (pair_lines (pairs s) ws ++ total_line ws) ≤ report_length
report_fits s ws a few settled =
    omega (
      arith,
      length-append (pair_lines (pairs s) ws) (total_line ws),
      lines_fit (pairs s) ws (pairs_narrow s a),
      total_fits ws (omega (arith, as_long s (pairs s) ws settled)),
    )
