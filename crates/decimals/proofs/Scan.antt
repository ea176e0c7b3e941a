-- The loop that reads a run of digits: what it has read, with the run that is left, is the run from its start.
use mathlib.Core.Bool.{true, false}
use mathlib.Core.List.{List, [], ◌∷◌}
use mathlib.Core.Logic.{inr}
use mathlib.Core.Path.{◌≡◌, refl, sym, ap, ◌∙◌}
use Prim.Native.Nat.{ℕ, suc, ◌+◌, ◌-◌, ◌*◌, ◌^◌, ◌≤◌, ◌<◌}
use native.Mathlib.Nat.{add-zero, one-le-pow, pow-suc, pow-le-pow_right}
use native.Mathlib.Omega.{arith}
use lib.ListN.{length, get_or, drop}
use lib.Seq.{get_or-drop}
use Rattle.sequences.specs.Parts.{drop_next}
use Rattle.decimals.specs.Byte.{byte_at, IsDigit, digit_test, digit_passed, digit_inside}
use Rattle.decimals.specs.Reading.{run, run_is, run_none, RunFrom}
use Rattle.decimals.specs.Value.{value, value_on}

module _ (s : List ℕ) (left next : ℕ) where
  pub run_next : 0 < left → digit_test (byte_at s next) ≡ true → run left (drop next s) ≡ byte_at s next ∷ run (left - 1) (drop (next + 1) s)
  unfolding run
  run_next some t =
      let one : left ≡ suc (left - 1) = omega arith in
      ap (λ (k : ℕ). run k (drop next s)) one ∙ rw (drop_next s next 0 (digit_inside s next t), t)

  pub run_stops : digit_test (byte_at s next) ≡ false → run left (drop next s) ≡ []
  run_stops f =
      let here : get_or (drop next s) 0 0 ≡ byte_at s next = get_or-drop next s 0 0 ∙ ap (byte_at s) (add-zero next) in
      run_is left (drop next s) [] (run_none left (drop next s) (inr (rw here f)))

pub record Scanning (s : List ℕ) (at limit worth next left : ℕ) : Type 0 where
  pub few : left ≤ limit
  pub small : worth < 10 ^ (limit - left)
  pub counts : value_on worth (run left (drop next s)) ≡ value (run limit (drop at s))
  pub place : next + length (run left (drop next s)) ≡ at + length (run limit (drop at s))

pub scan_starts : (s : List ℕ) (at limit : ℕ) → Scanning s at limit 0 at (limit - 0)
unfolding value
scan_starts s at limit =
    let all : limit - 0 ≡ limit = omega arith in
    rw all (record { few = omega arith; small = one-le-pow (limit - limit) 10 (omega arith); counts = refl; place = refl })

module _ {s : List ℕ} {at limit worth next left : ℕ} (c : Scanning s at limit worth next left) where
  -- ten times what is read so far, and a digit, fits 64 bits
  pub scan_fits : limit ≤ 19 → 0 < left → worth < 10 ^ 18
  scan_fits h some =
      omega (arith, c.small, pow-le-pow_right {n = 10} (omega arith) {i = limit - left} {j = 18} (omega (arith, c.few)))

  scan_done : run left (drop next s) ≡ [] → RunFrom s at limit worth next
  unfolding value_on
  scan_done e =
      record {
        counts = ap (value_on worth) (sym e) ∙ c.counts;
        place = omega (arith, ap length e, c.place);
      }

  pub scan_full : left ≤ 0 → RunFrom s at limit worth next
  unfolding run
  scan_full h = let none : left ≡ 0 = omega arith in scan_done (rw none)

  -- the byte there is read and tested
  module _ {b : ℕ} (here : b ≡ byte_at s next) where
    pub scan_stops : digit_test b ≡ false → RunFrom s at limit worth next
    scan_stops f = scan_done (run_stops s left next (rw here at f))

    pub scan_step : 0 < left → digit_test b ≡ true → Scanning s at limit (worth * 10 + (b - 48)) (next + 1) (left - 1)
    unfolding value_on
    scan_step some t =
        let d : IsDigit b = digit_passed b t in
        let more : limit - (left - 1) ≡ suc (limit - left) = omega (arith, c.few) in
        let e : run left (drop next s) ≡ b ∷ run (left - 1) (drop (next + 1) s) = rw here (run_next s left next some (rw here at t)) in
        record {
          few = omega (arith, c.few);
          small = rw (more, pow-suc) (omega (arith, c.small, d.high));
          counts = ap (value_on worth) (sym e) ∙ c.counts;
          place = omega (arith, ap length e, c.place);
        }
