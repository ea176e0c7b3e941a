-- What an answer tells or carries stays below 2^32: a list has few pairs, and a text few lines.
use Rattle.std.specs.Prelude.{ℕ, ◌+◌, ◌*◌, ◌≤◌, ◌<◌, min, Bool, true, false, ◌≡◌, refl, length, Result}
use mathlib.Core.List.{List, [], ◌∷◌, ◌++◌, flat_map}
use Rattle.std.proofs.Common.{sym, ap, ◌∙◌, subst, arith, length-append, ltb-false}
use Rattle.meaning.specs.Limits.{text_limit}
use Rattle.meaning.specs.Scene.{Scene, Accepted}
use Rattle.meaning.specs.Refusals.{Outcome, given, refused, Check, Answers, scene_checks, room_check, outcome_of}
use Rattle.meaning.specs.List.{pairs, room_of, list_checks, Counted, Listing}
use Rattle.meaning.specs.SceneWords.{SettledScene}
use Rattle.meaning.specs.Text.{text_of, SceneFaultyAt, TextIs, short_buffer, long_text, TextOutcome, counts_told, TextRead}
use Rattle.meaning.specs.WholeContacts.{range_check, contact_room, contact_list_checks, ContactsListed}
use Rattle.answers.specs.Answering.{is_refused, is_past}
use Rattle.list_pairs.specs.Answering.{IsCount}
use Rattle.list_pairs.specs.Sizes.{few_pairs}
use Rattle.text_laws.specs.Unique.{records_few}
use Rattle.text_line.specs.Rendered.{scene_readable}
use Rattle.answers.specs.Deciding.{holds_or_not}
use Rattle.meaning.specs.Numbers.{upper}
use Rattle.meaning.specs.declared.Refused.{Refused}
use Rattle.meaning.specs.declared.SceneCounts.{SceneCounts}

-- the value that is given, or what the refusal carries
unfoldable pub told_in : Outcome ℕ → ℕ
told_in (given n) = n
told_in (refused n c) = c

-- ---- the list

pub pairs_few : {s : Scene} → Accepted s → length (pairs s) < upper
pairs_few {s} a = omega (arith, few_pairs s a)

module _ (s : Scene) where
  pub nothing_carried : {o : Outcome ℕ} {n : ℕ} → o ≡ refused n 0 → told_in o < upper
  unfolding told_in
  nothing_carried e = rw e (omega arith)

  -- where none of the five checks refuses, those after them decide
  pub small_after : (more : List Check) (o : Outcome ℕ) → (Accepted s → Answers more (IsCount s) o → told_in o < upper)
      → Answers (scene_checks s ++ more) (IsCount s) o → told_in o < upper
  small_after more o then p =
      step _ _ p (λ e. nothing_carried e) (λ h1 p1.
      step _ _ p1 (λ e. nothing_carried e) (λ h2 p2.
      step _ _ p2 (λ e. nothing_carried e) (λ h3 p3.
      step _ _ p3 (λ e. nothing_carried e) (λ h4 p4.
      step _ _ p4 (λ e. nothing_carried e) (λ h5 p5. then (record { shapely = h1; in_range = h2; known = h3; sewn_well = h4; distinct = h5 }) p5)))))
    where
      step : (k : Check) (ks : List Check) → Answers (k ∷ ks) (IsCount s) o → (o ≡ refused k.number k.carries → told_in o < upper)
          → (k.holds ≡ false → Answers ks (IsCount s) o → told_in o < upper)
          → told_in o < upper
      step k ks q f g =
          holds_or_not k.holds (λ h. f (is_refused (IsCount s) k ks o h q)) (λ h. g h (is_past (IsCount s) k ks o h q))

  pub counted_right : (o : Outcome ℕ) → Accepted s → Answers [] (IsCount s) o → told_in o < upper
  unfolding Answers told_in
  counted_right (given n) a p = omega (arith, pairs_few a)
  counted_right (refused n c) a p = absurd p

  pub counted_small : (r : Result ℕ Refused) → Counted s r → told_in (outcome_of r) < upper
  counted_small r p = small_after [] (outcome_of r) (counted_right (outcome_of r)) p

  listed_small : (room : ℕ) (o : Outcome ℕ) → Answers (list_checks s room) (IsCount s) o → told_in o < upper
  unfolding told_in
  listed_small room o =
      small_after _ o (λ a q.
      holds_or_not _
      (λ h. let e = is_refused (IsCount s) _ [] o h q in rw e (pairs_few a))
      (λ h. counted_right o a (is_past (IsCount s) _ [] o h q)))

  met_listed_small : (room : ℕ) (o : Outcome ℕ) → Answers (contact_list_checks s room) (IsCount s) o → told_in o < upper
  unfolding told_in
  met_listed_small room o =
      small_after _ o (λ a q.
      holds_or_not _
      (λ h. nothing_carried (is_refused (IsCount s) (range_check s) _ o h q))
      (λ h. near a (is_past (IsCount s) (range_check s) _ o h q)))
    where
      near : Accepted s → Answers (room_check room (length (pairs s)) ∷ []) (IsCount s) o → told_in o < upper
      near a q =
          holds_or_not _
          (λ h. let e = is_refused (IsCount s) (room_check room (length (pairs s))) [] o h q in rw e (pairs_few a))
          (λ h. counted_right o a (is_past (IsCount s) (room_check room (length (pairs s))) [] o h q))

pub met_small : {s : Scene} {o o' b b' c c' : List ℕ} {r : Result ℕ Refused} → ContactsListed s o o' b b' c c' r → told_in (outcome_of r) < upper
met_small {s} {o} {o'} {b} {b'} {c} {c'} {r} p = met_listed_small s (contact_room o b c) (outcome_of r) p.answer

pub listing_small : {s : Scene} {o o' : List ℕ} {r : Result ℕ Refused} → Listing s o o' r → told_in (outcome_of r) < upper
listing_small {s} {o} {o'} {r} p = listed_small s (room_of o) (outcome_of r) p.answer

pub judging_small : {s : Scene} {o o' b b' : List ℕ} {r : Result ℕ Refused} → SettledScene s o o' b b' r → told_in (outcome_of r) < upper
judging_small {s} {o} {o'} {b} {b'} {r} p = listed_small s (min (room_of o) (length b)) (outcome_of r) p.answer

-- ---- a text

unfoldable pub line_in : {A : Type 0} → Outcome A → ℕ
line_in (given a) = 0
line_in (refused n line) = line

told_line : (x : Outcome Scene) → line_in (counts_told x) ≡ line_in x
unfolding counts_told line_in
told_line (given s) = refl
told_line (refused n line) = refl

text_line_small : (text : List ℕ) (x : Outcome Scene) → length text ≤ text_limit → TextIs text x → line_in x < upper
unfolding TextIs line_in
text_line_small text (given s) h p = omega arith
text_line_small text (refused n line) h p =
    omega (arith, p.place, records_few scene_readable p.above, ap length p.lines ∙ length-append (text_of p.above) p.below)

pub line_small : {text : List ℕ} {lent left : Scene} {r : Result SceneCounts Refused} → TextRead text lent left r → line_in (outcome_of r) < upper
unfolding line_in
line_small {text} {lent} {left} {r} p =
    let x = p.outcome in
    let small : line_in x < upper =
    holds_or_not (short_buffer lent)
    (λ h. let e : x ≡ refused 12 0 = rw h at p.right in rw e (omega arith))
    (λ h.
    holds_or_not (long_text text)
    (λ k. let e : x ≡ refused 8 0 = rw (h, k) at p.right in rw e (omega arith))
    (λ k. let t : TextIs text x = rw (h, k) at p.right in text_line_small text x (ltb-false text_limit (length text) k) t)) in
    rw (p.says, told_line x) small
