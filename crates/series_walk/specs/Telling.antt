-- Steps told one behind the other: what is told of them, and the first step whose list has no room.
use Rattle.std.specs.Prelude.{ℕ, ◌+◌, ◌≤◌, ◌<◌, Bool, ◌≡◌, Err, Ok}
use Rattle.std.proofs.Math.Bool.{true, false, cond}
use mathlib.Core.List.{List, [], ◌∷◌, ◌++◌, map, append_assoc, append-nil}
use Rattle.std.proofs.Math.Path.{refl}
use Rattle.std.proofs.Common.{sym, ap, ◌∙◌, subst, arith, length-append}
use Rattle.std.proofs.Math.Dec.{ltb}
use Rattle.std.proofs.Math.ListN.{length}
use borrow.Author.Tests.{lt-ltb, le-ltb, ltb-true}
use Rattle.answers.specs.Answering.{refuses, lets_pass, gives}
use Rattle.meaning.specs.Scene.{Scene}
use Rattle.meaning.specs.Refusals.{given, refused, Answers, carrying}
use Rattle.meaning.specs.List.{pairs}
use Rattle.meaning.specs.SceneWords.{AllSettled}
use Rattle.meaning.specs.Report.{how_many}
use Rattle.meaning.specs.Series.{Series, HitAt, steps_of, hits_in, hits_from, StepsSettled, listed_in, total_of, counted, ToldRight}
use Rattle.meaning.specs.SeriesText.{step_room}
use Rattle.meaning.specs.declared.SceneCounts.{SceneCounts}
use Rattle.meaning.specs.declared.Refused.{Refused}
use Rattle.meaning.specs.declared.Refusal.TheVariants.{NoRoom}
use Rattle.meaning.specs.declared.Settled.{Settled}
use Rattle.meaning.specs.declared.Settled.TheVariants.{Hit, Miss, Touch, Apart}
use Rattle.list_words.specs.Listed.{words_of, all_judged}
use Rattle.series_laws.specs.Longer.{hits_append}
use Rattle.meaning.specs.SeriesAnswers.{told_says}
use Rattle.meaning.specs.declared.SeriesTold.{SeriesTold}
use Rattle.meaning.specs.declared.SeriesAnswer.{SeriesAnswer}
use Rattle.series_words.specs.Telling.{TellsOf, told_none, many_behind}
use Rattle.meaning.specs.SeriesAnswers.{nothing_told}
use Rattle.series_step.specs.Rows.{TellsPairs}
use Rattle.series_walk.specs.declared.Telling.{Telling}

-- ---- all words, one behind the other

unfoldable pub flat : List (List Settled) → List Settled
flat [] = []
flat (ws ∷ wss) = ws ++ flat wss

flat_behind : (us : List (List Settled)) (ws : List Settled) → flat (us ++ (ws ∷ [])) ≡ flat us ++ ws
unfolding flat
flat_behind [] ws = append-nil ws
flat_behind (u ∷ us) ws = ap (λ (l : List Settled). u ++ l) (flat_behind us ws) ∙ sym (append_assoc u (flat us) ws)

listed_flat : (wss : List (List Settled)) → length (flat wss) ≡ listed_in wss
unfolding flat listed_in
listed_flat [] = refl
listed_flat (ws ∷ wss) = omega (arith, length-append ws (flat wss), listed_flat wss)

many_flat : (v : Settled) (wss : List (List Settled)) → how_many v (flat wss) ≡ total_of v wss
unfolding flat total_of how_many
many_flat v [] = refl
many_flat v (ws ∷ wss) = omega (arith, many_behind v ws (flat wss), many_flat v wss)

-- ---- what is told of steps

pub record ToldSteps (ss : List Scene) (t : SeriesTold) : Type 0 where
  pub words : List (List Settled)
  pub settled : StepsSettled ss words
  pub tells : TellsOf (hits_from 1 ss words) (flat words) t

steps_settled : (ss : List Scene) (us : List (List Settled)) (s : Scene) (ws : List Settled) → StepsSettled ss us → AllSettled s (pairs s) ws
    → StepsSettled (ss ++ (s ∷ [])) (us ++ (ws ∷ []))
unfolding StepsSettled
steps_settled [] [] s ws h a = (a, tt)
steps_settled [] (u ∷ us) s ws h a = absurd h
steps_settled (z ∷ ss) [] s ws h a = absurd h
steps_settled (z ∷ ss) (u ∷ us) s ws h a = (h.0, steps_settled ss us s ws h.1 a)

told_starts : ToldSteps [] nothing_told
unfolding StepsSettled hits_from flat
told_starts = record { words = []; settled = tt; tells = told_none }

told_goes : {ss : List Scene} {s : Scene} {n : ℕ} {t t' : SeriesTold} → n ≡ length ss + 1 → ToldSteps ss t → TellsPairs s n (pairs s) t t'
    → ToldSteps (ss ++ (s ∷ [])) t'
unfolding hits_from
told_goes {ss} {s} {n} {t} {t'} e h f =
    let ws : List Settled = words_of s (pairs s) in
    let place : n ≡ 1 + length ss = omega arith in
    let hits : hits_from 1 (ss ++ (s ∷ [])) (h.words ++ (ws ∷ [])) ≡ hits_from 1 ss h.words ++ hits_in n (pairs s) ws =
    hits_append 1 ss (s ∷ []) h.words (ws ∷ []) h.settled
    ∙ ap (λ (l : List HitAt). hits_from 1 ss h.words ++ l) (append-nil (hits_in (1 + length ss) (pairs s) ws))
    ∙ ap (λ (m : ℕ). hits_from 1 ss h.words ++ hits_in m (pairs s) ws) (sym place) in
    record {
      words = h.words ++ (ws ∷ []);
      settled = steps_settled ss h.words s ws h.settled (all_judged s (pairs s));
      tells = subst (λ (l : List HitAt). TellsOf l (flat (h.words ++ (ws ∷ []))) t') (sym hits)
          (subst (λ (l : List Settled). TellsOf (hits_from 1 ss h.words ++ hits_in n (pairs s) ws) l t') (sym (flat_behind h.words ws))
          (f.further.goes (hits_from 1 ss h.words) (flat h.words) h.tells));
    }

-- told of all steps of a series, it is told right
pub told_right : (x : Series) {t : SeriesTold} → ToldSteps (steps_of x) t → ToldRight x (told_says t)
told_right x {t} h =
    let many : (v : Settled) → counted (how_many v (flat h.words)) ≡ counted (total_of v h.words) = λ v. ap counted (many_flat v h.words) in
    let log = h.tells.log.entries in
    let later = h.tells.log.later in
    let listed = h.tells.totals.listed ∙ ap counted (listed_flat h.words) in
    let hits = h.tells.totals.hits ∙ many Hit in
    let misses = h.tells.totals.misses ∙ many Miss in
    let touches = h.tells.totals.touches ∙ many Touch in
    let aparts = h.tells.totals.aparts ∙ many Apart in
    let first = h.tells.first in
    record {
      words = h.words;
      settled = h.settled;
      told = λ i.
          record {
            log = log i;
            later = later i;
            listed = listed i;
            hits = hits i;
            misses = misses i;
            touches = touches i;
            aparts = aparts i;
            first = first i;
          };
    }

-- ---- the first step without room

unfoldable pub first_over : ℕ → List Scene → ℕ
first_over room [] = 0
first_over room (s ∷ ss) = cond (ltb room (length (pairs s))) (length (pairs s)) (first_over room ss)

module _ (room : ℕ) where
  over_stays : (ss ts : List Scene) → 0 < first_over room ss → first_over room (ss ++ ts) ≡ first_over room ss
  unfolding first_over
  over_stays [] ts h = absurd (omega arith)
  over_stays (s ∷ ss) ts h = by_room (ltb room (length (pairs s))) refl (over_stays ss ts)
    where
      by_room : (b : Bool) → ltb room (length (pairs s)) ≡ b → (0 < first_over room ss → first_over room (ss ++ ts) ≡ first_over room ss)
          → cond (ltb room (length (pairs s))) (length (pairs s)) (first_over room (ss ++ ts))
          ≡ cond (ltb room (length (pairs s))) (length (pairs s)) (first_over room ss)
      by_room true e rest = rw e refl
      by_room false e rest = let k : 0 < first_over room ss = rw e at h in rw e (rest k)

  over_goes : (ss ts : List Scene) → first_over room ss ≡ 0 → first_over room (ss ++ ts) ≡ first_over room ts
  unfolding first_over
  over_goes [] ts h = refl
  over_goes (s ∷ ss) ts h = by_room (ltb room (length (pairs s))) refl (over_goes ss ts)
    where
      by_room : (b : Bool) → ltb room (length (pairs s)) ≡ b → (first_over room ss ≡ 0 → first_over room (ss ++ ts) ≡ first_over room ts)
          → cond (ltb room (length (pairs s))) (length (pairs s)) (first_over room (ss ++ ts)) ≡ first_over room ts
      by_room true e rest =
          let none : length (pairs s) ≡ 0 = rw e at h in
          absurd (omega (arith, ltb-true room (length (pairs s)) e))
      by_room false e rest = let k : first_over room ss ≡ 0 = rw e at h in rw e (rest k)

  over_one : (s : Scene) → room < length (pairs s) → first_over room (s ∷ []) ≡ length (pairs s)
  unfolding first_over
  over_one s h = rw (lt-ltb room (length (pairs s)) h) refl

  over_not : (s : Scene) → length (pairs s) ≤ room → first_over room (s ∷ []) ≡ 0
  unfolding first_over
  over_not s h = rw (le-ltb room (length (pairs s)) h) refl

  -- 7, for whichever value is right
  pub over_refuses : {A : Type 0} (R : A → Type 0) (ss : List Scene) → 0 < first_over room ss
      → Answers (map (step_room room) ss) R (refused 7 (first_over room ss))
  unfolding first_over step_room
  over_refuses R [] h = absurd (omega arith)
  over_refuses R (s ∷ ss) h = by_room (ltb room (length (pairs s))) refl (over_refuses R ss)
    where
      by_room : (b : Bool) → ltb room (length (pairs s)) ≡ b
          → (0 < first_over room ss → Answers (map (step_room room) ss) R (refused 7 (first_over room ss)))
          → Answers (map (step_room room) (s ∷ ss)) R (refused 7 (cond (ltb room (length (pairs s))) (length (pairs s)) (first_over room ss)))
      by_room true e rest = refuses R (step_room room s) (map (step_room room) ss) _ e (rw e refl)
      by_room false e rest =
          let k : 0 < first_over room ss = rw e at h in
          lets_pass R (step_room room s) (map (step_room room) ss) _ e (rw e (rest k))

  pub over_gives : {A : Type 0} (R : A → Type 0) (ss : List Scene) (a : A) → first_over room ss ≡ 0 → R a
      → Answers (map (step_room room) ss) R (given a)
  unfolding first_over step_room
  over_gives R [] a h right = gives R a right
  over_gives R (s ∷ ss) a h right = by_room (ltb room (length (pairs s))) refl (λ k. over_gives R ss a k right)
    where
      by_room : (b : Bool) → ltb room (length (pairs s)) ≡ b → (first_over room ss ≡ 0 → Answers (map (step_room room) ss) R (given a)) → Answers (map (step_room room) (s ∷ ss)) R (given a)
      by_room true e rest =
          let none : length (pairs s) ≡ 0 = rw e at h in
          absurd (omega (arith, ltb-true room (length (pairs s)) e))
      by_room false e rest =
          let k : first_over room ss ≡ 0 = rw e at h in
          lets_pass R (step_room room s) (map (step_room room) ss) (given a) e (rest k)

-- ---- one step more

pub record TellsSteps (room : ℕ) (ss : List Scene) (t : Telling) : Type 0 where
  pub needed : t.needed ≡ first_over room ss
  pub told : t.needed ≡ 0 → ToldSteps ss t.told

pub record StepAdded (room n : ℕ) (s : Scene) (t t' : Telling) : Type 0 where
  pub goes : (ss : List Scene) → n ≡ length ss + 1 → TellsSteps room ss t → TellsSteps room (ss ++ (s ∷ [])) t'

pub steps_start : (room : ℕ) → TellsSteps room [] (record { told = nothing_told; needed = 0 })
unfolding first_over
steps_start room = record { needed = refl; told = λ e. told_starts }

-- where a step had no room nothing more is told
pub added_none : {room n : ℕ} (s : Scene) {t : Telling} → 0 < t.needed → StepAdded room n s t t
added_none {room} s {t} h =
    record {
      goes = λ ss e k.
          record {
            needed = k.needed ∙ sym (over_stays room ss (s ∷ []) (omega (arith, k.needed)));
            told = λ z. absurd (omega arith);
          };
    }

module _ {room n : ℕ} (s : Scene) {t : Telling} {u : SeriesTold} {count : ℕ} (free : t.needed ≡ 0) (f : TellsPairs s n (pairs s) t.told u)
    (counts : count ≡ length (pairs s)) where
  pub added_over : room < count → StepAdded room n s t (record { told = u; needed = count })
  added_over h =
      record {
        goes = λ ss e k.
            record {
              needed = counts ∙ sym (over_goes room ss (s ∷ []) (sym k.needed ∙ free) ∙ over_one room s (omega arith));
              told = λ z. absurd (omega arith);
            };
      }

  pub added_told : count ≤ room → StepAdded room n s t (record { told = u; needed = 0 })
  added_told h =
      record {
        goes = λ ss e k.
            record {
              needed = sym (over_goes room ss (s ∷ []) (sym k.needed ∙ free) ∙ over_not room s (omega arith));
              told = λ z. told_goes e (k.told free) f;
            };
      }

-- ---- the answer

-- a refusal tells nothing
abbrev pub refused_with : Refused → SeriesAnswer
refused_with why = record { outcome = Err why; told = nothing_told }

abbrev pub RoomAnswer : SceneCounts → Telling → SeriesAnswer
RoomAnswer c t = cond (ltb 0 t.needed) (refused_with (carrying NoRoom t.needed)) (record { outcome = Ok c; told = t.told })
