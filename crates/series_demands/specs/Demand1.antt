-- Demand 1 of a series: 12, 8, the first faulty line with 9, 10, 11, 13, 2, 3, 15 or 4, then 7 for the first step whose list has no room, each exactly
-- when the table says so, and no other number; and a series is told exactly when none does.
use Rattle.std.specs.Prelude.{ℕ, ◌≤◌, ◌<◌, Bool, true, false, cond, ◌||◌, ◌↔◌, ltb, eqb, length}
use Rattle.std.proofs.Common.{true≢false, ⊎_elim, sym, ◌∙◌, arith}
use mathlib.Core.List.Memᴰ
use mathlib.Core.List.{List, [], ◌∷◌, ◌++◌, map, Memᴰ}
use Rattle.std.proofs.Math.Path.{◌≡◌, refl, ap, subst}
use borrow.Author.Tests.{ltb-true, ltb-false, lt-ltb, le-ltb}
use Rattle.meaning.specs.Scene.{Scene}
use Rattle.meaning.specs.Refusals.{Outcome, given, refused, Answers}
use Rattle.meaning.specs.Lines.{Fault, unformed, misplaced, nothing, RecordJudged}
use Rattle.meaning.specs.List.{pairs}
use Rattle.meaning.specs.Text.{long_text}
use Rattle.meaning.specs.Series.{Series, steps_of, ToldRight}
use Rattle.meaning.specs.SeriesText.{Item, of, ends, next, SoFar, item_checks, series_lines, HoldsSeries, SeriesFaultyAt, step_room, Ended, SeriesIs, faulty, read}
use Rattle.answers.specs.Answering.{refuses, lets_pass, gives, is_refused, is_past, is_given}
use Rattle.answers.specs.Deciding.{holds_or_not, number_known}
use Rattle.series_demands.specs.OneSeries.{one_outcome}

-- ---- the room of the steps

abbrev pub AllRoomy : ℕ → List Scene → Type 0
AllRoomy room ss = (s : Scene) → Memᴰ s ss → length (pairs s) ≤ room

-- the first step without room, and what its list needs
pub record NoRoom (room : ℕ) (ss : List Scene) (needed : ℕ) : Type 0 where
  pub before : List Scene
  pub step : Scene
  pub behind : List Scene
  pub steps : ss ≡ before ++ (step ∷ behind)
  pub roomy : AllRoomy room before
  pub over : room < length (pairs step)
  pub needs : needed ≡ length (pairs step)

roomy_more : (room : ℕ) (s : Scene) (ss : List Scene) → length (pairs s) ≤ room → AllRoomy room ss → AllRoomy room (s ∷ ss)
roomy_more room s ss here rest t m =
    ⊎_elim (λ (same : t ≡ s). subst (λ (u : Scene). length (pairs u) ≤ room) (sym same) here) (rest t) (Memᴰ.cases_cons m)

module _ (room : ℕ) (Right : Ended → Type 0) where
  room_refuses : (ss : List Scene) (n c : ℕ) → Answers (map (step_room room) ss) Right (refused n c) → (n ≡ 7) × NoRoom room ss c
  unfolding Answers step_room
  room_refuses [] n c a = absurd a
  room_refuses (s ∷ ss) n c a =
      holds_or_not (ltb room (length (pairs s)))
      (λ h.
      let e : ◌≡◌ {A = Outcome Ended} (refused n c) (refused 7 (length (pairs s))) =
      is_refused Right (step_room room s) (map (step_room room) ss) (refused n c) h a in (
        cc,
        record {
          before = [];
          step = s;
          behind = ss;
          steps = refl;
          roomy = λ t m. absurd (Memᴰ.not-nil m);
          over = ltb-true room (length (pairs s)) h;
          needs = cc;
        },
      ))
      (λ h.
      let (seven, r) = room_refuses ss n c (is_past Right (step_room room s) (map (step_room room) ss) (refused n c) h a) in (
        seven,
        record {
          before = s ∷ r.before;
          step = r.step;
          behind = r.behind;
          steps = ap (λ (l : List Scene). s ∷ l) r.steps;
          roomy = roomy_more room s r.before (ltb-false room (length (pairs s)) h) r.roomy;
          over = r.over;
          needs = r.needs;
        },
      ))

  room_over : (before : List Scene) (s : Scene) (behind : List Scene) → AllRoomy room before → room < length (pairs s)
      → Answers (map (step_room room) (before ++ (s ∷ behind))) Right (refused 7 (length (pairs s)))
  unfolding step_room
  room_over [] s behind roomy over =
      refuses Right (step_room room s) (map (step_room room) behind) (refused 7 (length (pairs s))) (lt-ltb room (length (pairs s)) over) refl
  room_over (t ∷ before) s behind roomy over =
      lets_pass Right (step_room room t) (map (step_room room) (before ++ (s ∷ behind))) (refused 7 (length (pairs s)))
      (le-ltb room (length (pairs t)) (roomy t (Memᴰ.head refl)))
      (room_over before s behind (λ u m. roomy u (Memᴰ.tail m)) over)

  refuses_room : (ss : List Scene) (c : ℕ) → NoRoom room ss c → Answers (map (step_room room) ss) Right (refused 7 c)
  refuses_room ss c r =
      let here = room_over r.before r.step r.behind r.roomy r.over in
      let steps : r.before ++ (r.step ∷ r.behind) ≡ ss = sym r.steps in
      let need : length (pairs r.step) ≡ c = sym r.needs in
      subst (λ (n : ℕ). Answers (map (step_room room) ss) Right (refused 7 n)) need
      (subst (λ (l : List Scene). Answers (map (step_room room) l) Right (refused 7 (length (pairs r.step)))) steps here)

  room_gives : (ss : List Scene) (e : Ended) → Answers (map (step_room room) ss) Right (given e) → AllRoomy room ss × Right e
  unfolding Answers step_room
  room_gives [] e a = (λ t m. absurd (Memᴰ.not-nil m), a)
  room_gives (s ∷ ss) e a =
      let (h, rest) = is_given Right (step_room room s) (map (step_room room) ss) e a in
      let (roomy, right) = room_gives ss e rest in
      (roomy_more room s ss (ltb-false room (length (pairs s)) h) roomy, right)

  gives_room : (ss : List Scene) (e : Ended) → AllRoomy room ss → Right e → Answers (map (step_room room) ss) Right (given e)
  unfolding step_room
  gives_room [] e roomy right = gives Right e right
  gives_room (s ∷ ss) e roomy right =
      lets_pass Right (step_room room s) (map (step_room room) ss) (given e) (le-ltb room (length (pairs s)) (roomy s (Memᴰ.head refl)))
      (gives_room ss e (λ t m. roomy t (Memᴰ.tail m)) right)

-- ---- the numbers of a line

abbrev pub in_series : ℕ → Bool
in_series n = eqb n 9 || eqb n 10 || eqb n 11 || eqb n 13 || eqb n 2 || eqb n 3 || eqb n 15 || eqb n 4

abbrev pub line_numbers : List ℕ
line_numbers = 9 ∷ 10 ∷ 11 ∷ 13 ∷ 2 ∷ 3 ∷ 15 ∷ 4 ∷ []

unfoldable AllOf : (ℕ → Type 0) → List ℕ → Type 0
AllOf P [] = Unit {0}
AllOf P (a ∷ l) = P a × AllOf P l

each_of : (P : ℕ → Type 0) (l : List ℕ) (n : ℕ) → AllOf P l → Memᴰ n l → P n
unfolding AllOf
each_of P [] n h m = absurd (Memᴰ.not-nil m)
each_of P (a ∷ l) n h m = ⊎_elim (λ (e : n ≡ a). subst P (sym e) h.0) (each_of P l n h.1) (Memᴰ.cases_cons m)

-- what holds of the line's numbers holds of the number of a fault
module _ (P : ℕ → Type 0) (all : AllOf P line_numbers) where
  item_number : (x : SoFar) (i : Item) (last : Bool) (n : ℕ) → RecordJudged series_lines x i last (refused n 0) → P n
  unfolding AllOf item_checks
  item_number x (of e) last n j =
      let later = all.1.1.1.1 in
      each_of P (10 ∷ 10 ∷ 11 ∷ 2 ∷ 3 ∷ 15 ∷ 4 ∷ []) n (all.1.0, (all.1.0, (all.1.1.0, (later.0, (later.1.0, (later.1.1.0, (later.1.1.1.0, tt)))))))
      (number_known (λ t. Unit {0}) (item_checks x (of e) last) (refused n 0) j n 0 refl)
  item_number x (ends p) last n j =
      let later = all.1.1.1 in
      each_of P (13 ∷ 2 ∷ 15 ∷ []) n (later.0, (later.1.0, (later.1.1.1.0, tt)))
      (number_known (λ t. Unit {0}) (item_checks x (ends p) last) (refused n 0) j n 0 refl)
  item_number x next last n j =
      each_of P (13 ∷ []) n (all.1.1.1.0, tt) (number_known (λ t. Unit {0}) (item_checks x next last) (refused n 0) j n 0 refl)

  fault_number : {x : SoFar} {text : List ℕ} {n : ℕ} → Fault series_lines x text n → P n
  unfolding AllOf
  fault_number (unformed e some never) = subst P (sym e) all.0
  fault_number {x} {n = n} (misplaced i rest formed e j) = item_number x i (nothing rest) n j

fault_in_series : {x : SoFar} {text : List ℕ} {n : ℕ} → Fault series_lines x text n → in_series n ≡ true
unfolding AllOf
fault_in_series = fault_number (λ m. in_series m ≡ true) (refl, (refl, (refl, (refl, (refl, (refl, (refl, (refl, tt))))))))

fault_known : {x : SoFar} {text : List ℕ} {n : ℕ} → Fault series_lines x text n → Memᴰ n line_numbers
unfolding AllOf
fault_known =
    fault_number (λ m. Memᴰ m line_numbers) (
      Memᴰ.head refl,
      (
        Memᴰ.tail (Memᴰ.head refl),
        (
          Memᴰ.tail (Memᴰ.tail (Memᴰ.head refl)),
          (
            Memᴰ.tail (Memᴰ.tail (Memᴰ.tail (Memᴰ.head refl))),
            (
              Memᴰ.tail (Memᴰ.tail (Memᴰ.tail (Memᴰ.tail (Memᴰ.head refl)))),
              (
                Memᴰ.tail (Memᴰ.tail (Memᴰ.tail (Memᴰ.tail (Memᴰ.tail (Memᴰ.head refl))))),
                (
                  Memᴰ.tail (Memᴰ.tail (Memᴰ.tail (Memᴰ.tail (Memᴰ.tail (Memᴰ.tail (Memᴰ.head refl)))))),
                  (Memᴰ.tail (Memᴰ.tail (Memᴰ.tail (Memᴰ.tail (Memᴰ.tail (Memᴰ.tail (Memᴰ.tail (Memᴰ.head refl))))))), tt),
                ),
              ),
            ),
          ),
        ),
      ),
    )

-- ---- the rows

-- the text is the series, every step has room, and this is told of it
pub record TellsAll (text : List ℕ) (room : ℕ) (e : Ended) : Type 0 where
  pub holds : HoldsSeries text e.series
  pub roomy : AllRoomy room (steps_of e.series)
  pub right : ToldRight e.series e.told

-- the text is a series, and its first step without room needs so much
pub record NeedsRoom (text : List ℕ) (room needed : ℕ) : Type 0 where
  pub series : Series
  pub holds : HoldsSeries text series
  pub step : NoRoom room (steps_of series) needed

-- where a buffer is short, and 8 and the text else
abbrev pub Staged : List ℕ → Bool → ℕ → Outcome Ended → Type 0
Staged text short room o = cond short (o ≡ refused 12 0) (cond (long_text text) (o ≡ refused 8 0) (SeriesIs text room o))

pub record SeriesRows (text : List ℕ) (short : Bool) (room : ℕ) (o : Outcome Ended) : Type 0 where
  pub only : (n c : ℕ) → o ≡ refused n c → Memᴰ n (12 ∷ 8 ∷ 7 ∷ line_numbers)
  pub no12 : (o ≡ refused 12 0) ↔ (short ≡ true)
  pub no8 : (o ≡ refused 8 0) ↔ ((short ≡ false) × (long_text text ≡ true))
  pub faulty : (n line : ℕ) → in_series n ≡ true → (o ≡ refused n line) ↔ ((short ≡ false) × (long_text text ≡ false) × SeriesFaultyAt text n line)
  pub no7 : (c : ℕ) → (o ≡ refused 7 c) ↔ ((short ≡ false) × (long_text text ≡ false) × NeedsRoom text room c)
  pub told : (e : Ended) → (o ≡ given e) ↔ ((short ≡ false) × (long_text text ≡ false) × TellsAll text room e)

other_number : {x : Outcome Ended} {n m c d : ℕ} → x ≡ refused n c → x ≡ refused m d → n ≡ m
other_number e f = cc

other_answer : {x : Outcome Ended} {e : Ended} {n c : ℕ} → x ≡ given e → x ≡ refused n c → ⊥
other_answer e f = let z : ◌≡◌ {A = ℕ} 0 1 = cc in omega arith

-- what a text that was looked at is refused with
refused_text : (text : List ℕ) (room n c : ℕ) → SeriesIs text room (refused n c) → (P : Type 0) → (SeriesFaultyAt text n c → P)
    → ((n ≡ 7) → NeedsRoom text room c → P) → P
refused_text text room n c (faulty m line e h) P f r =
    let same : m ≡ n = cc in
    let place : line ≡ c = cc in
    f (subst (λ (k : ℕ). SeriesFaultyAt text k c) same (subst (SeriesFaultyAt text m) place h))
refused_text text room n c (read x h a) P f r =
    let (seven, step) = room_refuses room (λ (e : Ended). (e.series ≡ x) × ToldRight x e.told) (steps_of x) n c a in
    r seven (record { series = x; holds = h; step = step })

told_text : (text : List ℕ) (room : ℕ) (e : Ended) → SeriesIs text room (given e) → TellsAll text room e
told_text text room e (faulty m line f h) = let z : ◌≡◌ {A = ℕ} 0 1 = cc in absurd (omega arith)
told_text text room e (read x h a) =
    let (roomy, right) = room_gives room (λ (d : Ended). (d.series ≡ x) × ToldRight x d.told) (steps_of x) e a in
    let same : x ≡ e.series = sym right.0 in
    record {
      holds = subst (HoldsSeries text) same h;
      roomy = subst (λ (y : Series). AllRoomy room (steps_of y)) same roomy;
      right = subst (λ (y : Series). ToldRight y e.told) same right.1;
    }

module _ (text : List ℕ) (short : Bool) (room : ℕ) (x : Outcome Ended) (p : Staged text short room x) where
  short_buffer_lem : short ≡ true → x ≡ refused 12 0
  short_buffer_lem e = rw e at p

  long_text_lem : short ≡ false → long_text text ≡ true → x ≡ refused 8 0
  long_text_lem e f = rw (e, f) at p

  is_text : short ≡ false → long_text text ≡ false → SeriesIs text room x
  is_text e f = rw (e, f) at p

  by_stage : {P : Type 0} → (short ≡ true → P) → (short ≡ false → long_text text ≡ true → P) → (short ≡ false → long_text text ≡ false → P) → P
  by_stage a b c = holds_or_not short a (λ e. holds_or_not (long_text text) (b e) (c e))

  -- what a refusal of the text itself says
  by_text : {P : Type 0} (n c : ℕ) → x ≡ refused n c → short ≡ false → long_text text ≡ false → (SeriesFaultyAt text n c → P)
      → ((n ≡ 7) → NeedsRoom text room c → P) → P
  by_text {P} n c e h k = refused_text text room n c (subst (SeriesIs text room) e (is_text h k)) P

  not_in_line : (n c : ℕ) → in_series n ≡ false → SeriesFaultyAt text n c → ⊥
  not_in_line n c o f = true≢false (sym (fault_in_series f.fault) ∙ o)

  pub series_rows : SeriesRows text short room x
  series_rows =
      record {
        only = λ n c e.
            by_stage (λ h. Memᴰ.head (other_number e (short_buffer_lem h)))
            (λ h k. Memᴰ.tail (Memᴰ.head (other_number e (long_text_lem h k))))
            (λ h k.
            by_text n c e h k (λ f. Memᴰ.tail (Memᴰ.tail (Memᴰ.tail (fault_known f.fault))))
            (λ seven r. Memᴰ.tail (Memᴰ.tail (Memᴰ.head seven))));
        no12 = (
          λ e.
              by_stage (λ h. h) (λ h k. absurd (omega (arith, other_number e (long_text_lem h k))))
              (λ h k. by_text 12 0 e h k (λ f. absurd (not_in_line 12 0 refl f)) (λ seven r. absurd (omega arith))),
          short_buffer_lem,
        );
        no8 = (
          λ e.
              by_stage (λ h. absurd (omega (arith, other_number e (short_buffer_lem h)))) (λ h k. (h, k))
              (λ h k. by_text 8 0 e h k (λ f. absurd (not_in_line 8 0 refl f)) (λ seven r. absurd (omega arith))),
          λ h. long_text_lem h.0 h.1,
        );
        faulty = λ n line l. (
          λ e.
              by_stage (λ h. absurd (true≢false (sym l ∙ ap in_series (other_number e (short_buffer_lem h)))))
              (λ h k. absurd (true≢false (sym l ∙ ap in_series (other_number e (long_text_lem h k)))))
              (λ h k. by_text n line e h k (λ f. (h, k, f)) (λ seven r. absurd (true≢false (sym l ∙ ap in_series seven)))),
          λ h. one_outcome text room x (refused n line) (is_text h.0 h.1) (faulty n line refl h.2),
        );
        no7 = λ c. (
          λ e.
              by_stage (λ h. absurd (omega (arith, other_number e (short_buffer_lem h)))) (λ h k. absurd (omega (arith, other_number e (long_text_lem h k))))
              (λ h k. by_text 7 c e h k (λ f. absurd (not_in_line 7 c refl f)) (λ seven r. (h, k, r))),
          λ h.
              let r = h.2 in
              one_outcome text room x (refused 7 c) (is_text h.0 h.1)
              (read r.series r.holds
              (refuses_room room (λ (e : Ended). (e.series ≡ r.series) × ToldRight r.series e.told) (steps_of r.series) c r.step)),
        );
        told = λ e. (
          λ is.
              by_stage (λ h. absurd (other_answer is (short_buffer_lem h))) (λ h k. absurd (other_answer is (long_text_lem h k)))
              (λ h k. (h, k, told_text text room e (subst (SeriesIs text room) is (is_text h k)))),
          λ h.
              let t = h.2 in
              one_outcome text room x (given e) (is_text h.0 h.1)
              (read e.series t.holds
              (gives_room room (λ (d : Ended). (d.series ≡ e.series) × ToldRight e.series d.told) (steps_of e.series) e t.roomy (refl, t.right))),
        );
      }
