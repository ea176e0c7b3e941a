-- 'An entry that is no pair's number is 5': a pair's number asks for that pair. And the one call says of each pair what is said where it is
-- asked for alone.
use Rattle.std.specs.Prelude.{ℕ, ◌+◌, ◌*◌, ◌/◌, ◌%◌, ◌≤◌, ◌<◌, Bool, true, false, ◌≡◌, refl, ltb, Result}
use mathlib.Core.List.{List, [], ◌∷◌, ◌++◌, map}
use Rattle.std.proofs.Common.{⊎_elim, sym, ◌∙◌, subst, arith, ltb-true, ltb-false}
use Rattle.std.proofs.Math.Path.{ap}
use Rattle.std.proofs.Math.ListN.{length, get_or, length-map}
use Rattle.sequences.specs.Mapped.{map_at}
use Rattle.sequences.specs.Pick.{pick}
use Rattle.sequences.specs.Wrote.{written, written_in_front}
use Rattle.meaning.specs.Scene.{Scene, Accepted}
use Rattle.meaning.specs.Refusals.{Outcome, given, refused, Check, Answers, scene_checks, pair_checks, not_there, shares, outcome_alone, outcome_of}
use Rattle.meaning.specs.List.{Pair, place_step, kind_step, no_number, kind_part, number, leaves}
use Rattle.meaning.specs.Resting.{PairSettled, PairDecided}
use Rattle.meaning.specs.SceneWords.{byte_of}
use Rattle.meaning.specs.declared.Kind.TheVariants.{PointTriangle, EdgeEdge}
use Rattle.meaning.specs.declared.Settled.{Settled}
use Rattle.answers.specs.Answering.{is_given, is_past}
use Rattle.scene_checks.specs.Accepting.{past_accepted}
use Rattle.corner_search.specs.Decided.{pair_word_is}
use Rattle.list_entries.specs.Entries.{Narrow, number_back}
use Rattle.list_words.specs.Listed.{no_pair, word_of_pair, words_of, bytes_of, all_judged, bytes_at, bytes_length, word_of_byte, byte_back}
use Rattle.list_words.specs.OneResult.{all_judged_one}
use Rattle.meaning.specs.OwnList.{asked_for, entry_faults, word_room, size_check, OwnSettled}
use Rattle.own_words.specs.Faults.{Sound, entry_is_there, each_passed}
use Rattle.meaning.specs.declared.Refusal.{Refusal}
use Rattle.meaning.specs.declared.Refused.{Refused}

-- ---- an entry and its pair

pub asks_for_its_pair : (p : Pair) → Narrow p → asked_for (number p) ≡ p
asks_for_its_pair p h = number_back p h

-- every number below `no_number` is that of the pair that it asks for
pub own_number : (e : ℕ) → e < no_number → number (asked_for e) ≡ e
unfolding number kind_part
own_number e h = by_kind (ltb e kind_step) refl
  where
    by_kind : (b : Bool) → ltb e kind_step ≡ b → kind_part (pick b PointTriangle EdgeEdge) + place_step * (e / place_step % place_step) + e % place_step ≡ e
    by_kind true q = let l : e < kind_step = ltb-true e kind_step q in omega arith
    by_kind false q = let l : kind_step ≤ e = ltb-false e kind_step q in omega arith

-- ---- where the call gives a count

-- the scene is accepted, and what comes after its checks decides
pub scene_given : (R : ℕ → Type 0) (s : Scene) (more : List Check) (n : ℕ) → Answers (scene_checks s ++ more) R (given n) → Accepted s × Answers more R (given n)
scene_given R s more n p =
    let (h1, p1) = is_given R _ _ n p in
    let (h2, p2) = is_given R _ _ n p1 in
    let (h3, p3) = is_given R _ _ n p2 in
    let (h4, p4) = is_given R _ _ n p3 in
    let (h5, p5) = is_given R _ _ n p4 in
    (record { shapely = h1; in_range = h2; known = h3; sewn_well = h4; distinct = h5 }, p5)

-- the faults give a value where what comes after them does
pub front_given : (R S : ℕ → Type 0) (ks more : List Check) (n m : ℕ) → S m → Answers (ks ++ more) R (given n) → Answers ks S (given m)
unfolding Answers
front_given R S [] more n m right p = right
front_given R S (k ∷ ks) more n m right p =
    let (h, rest) = is_given R k (ks ++ more) n p in
    rw h (front_given R S ks more n m right rest)

word_given : (s : Scene) (x : Pair) (o : Outcome Settled) → Answers [] (PairSettled s x.kind x.first x.second) o
    → o ≡ given (word_of_byte (byte_of (word_of_pair s x)))
unfolding Answers
word_given s x (given w) t = ap given ((pair_word_is s x.kind x.first x.second w).0 t ∙ sym (byte_back (word_of_pair s x)))
word_given s x (refused m c) t = absurd t

module _ {s : Scene} {es b b' : List ℕ} {r : Result ℕ Refused} (p : OwnSettled s es b b' r) {n : ℕ} (e : outcome_of r ≡ given n) where
  answer_given : Answers (scene_checks s ++ (entry_faults s es ++ (word_room es (length b) ∷ []))) (λ m. m ≡ length es) (given n)
  answer_given = (is_given (λ m. m ≡ length es) (size_check es) _ n (rw e at p.answer)).1

  pub own_accepted : Accepted s
  own_accepted = (scene_given (λ m. m ≡ length es) s _ n answer_given).0

  -- each entry is there, and its pair shares no vertex
  pub own_sound : (k : ℕ) → k < length es → Sound s (get_or es k 0)
  own_sound =
      (each_passed (λ m. m ≡ length es) s 1 es (length es)
      (front_given (λ m. m ≡ length es) (λ m. m ≡ length es) (entry_faults s es) (word_room es (length b) ∷ []) n (length es) refl (scene_given (λ m. m ≡ length es) s _ n answer_given).1)
      ).1

  -- its byte is the word's of its pair
  pub own_byte : (k : ℕ) → k < length es → get_or b' k 0 ≡ byte_of (word_of_pair s (asked_for (get_or es k 0)))
  unfolding leaves
  own_byte k h =
      let words : p.words ≡ words_of s (map asked_for es) = all_judged_one s (map asked_for es) p.words _ p.right (all_judged s (map asked_for es)) in
      let front : b' ≡ written (bytes_of s (map asked_for es)) b = p.bytes ∙ (λ i. leaves (e i) (map byte_of (words i)) b) in
      let long : length (map asked_for es) ≡ length es = length-map es asked_for in
      ap (λ (l : List ℕ). get_or l k 0) front
      ∙ written_in_front (bytes_of s (map asked_for es)) b k 0 (rw (bytes_length s (map asked_for es), long) h)
      ∙ bytes_at s (map asked_for es) k (rw long h)
      ∙ ap (λ (q : Pair). byte_of (word_of_pair s q)) (map_at asked_for es k 0 no_pair h)

  -- asked for alone, the pair is given the same word
  pub as_alone : (k : ℕ) → k < length es → (a : Result Settled Refusal)
      → PairDecided s (asked_for (get_or es k 0)).kind (asked_for (get_or es k 0)).first (asked_for (get_or es k 0)).second a
      → outcome_alone a ≡ given (word_of_byte (get_or b' k 0))
  as_alone k h a q =
      let x : Pair = asked_for (get_or es k 0) in
      let sound = own_sound k h in
      word_given s x (outcome_alone a)
      (is_past _ _ _ _ sound.1 (is_past _ _ _ _ (entry_is_there s (get_or es k 0) sound.0) (past_accepted s _ _ (outcome_alone a) own_accepted q)))
      ∙ ap (λ (m : ℕ). given (word_of_byte m)) (sym (own_byte k h))
