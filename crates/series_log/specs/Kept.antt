-- The log has kept the first hits: what it holds is the front of all that it took, in their order, and the rest is counted.
use Rattle.std.specs.Prelude.{ℕ, ◌+◌, ◌≤◌, ◌<◌, min, List, [], ◌∷◌, ◌++◌, map, ◌≡◌, refl, length, take, drop, set}
use Rattle.std.proofs.Common.{sym, ap, ◌∙◌, arith, length-append, length-take, length-drop, length-set, take_all, lt-ltb, le-ltb}
use Rattle.std.proofs.Math.Logic.{⊎_elim}
use Rattle.std.proofs.lemmas.List.{length-map, take-set-le}
use Rattle.sequences.specs.Mapped.{map_append}
use Rattle.sequences.specs.Parts.{take_next_set}
use Rattle.sequences.specs.Range.{le_or_lt}
use Rattle.meaning.specs.Series.{HitAt, log_limit, counted, log_of, later_of}
use Rattle.series_laws.specs.Front.{log_full}
use Rattle.series_log.specs.Logged.{largest, one_more, logged}
use Rattle.meaning.specs.SeriesAnswers.{empty_log}
use Rattle.meaning.specs.declared.StepHit.{StepHit}
use Rattle.meaning.specs.declared.Log.{Log}
use Rattle.meaning.specs.SeriesAnswers.{hit_of, entries_of, HeldRight}

pub record LogOf (hs : List HitAt) (l : Log) : Type 0 where
  pub room : length l.hits ≡ log_limit
  pub held : l.held ≡ min (length hs) log_limit
  pub entries : entries_of l ≡ log_of hs
  pub later : l.later ≡ later_of hs

pub held_few : {l : Log} → HeldRight l → l.held ≤ log_limit
held_few {l} k = omega (arith, k.room, k.held, length-map (take l.held l.hits) hit_of, length-take l.held l.hits)

-- whatever it took
pub log_held : {hs : List HitAt} {l : Log} → LogOf hs l → HeldRight l
log_held {hs} k = record { room = k.room; held = omega (arith, k.held, ap length k.entries, length-take log_limit hs) }

-- a log that has taken none
pub log_starts : LogOf [] empty_log
log_starts = record { room = refl; held = refl; entries = refl; later = refl }

-- a count that is one more
pub count_more : (n : ℕ) → one_more (counted n) ≡ counted (n + 1)
count_more n =
    ⊎_elim
    (λ few. let e : counted n ≡ n = omega arith in rw (e, lt-ltb n largest (omega arith)) (omega arith))
    (λ many. let e : counted n ≡ largest = omega arith in ap one_more e ∙ stays ∙ omega arith)
    (le_or_lt (n + 1) largest)
  where
    stays : one_more largest ≡ largest
    stays = refl

-- a full log counts a hit, whichever it is
pub logged_full : (l : Log) (h : StepHit) → log_limit ≤ l.held → logged l h ≡ record { hits = l.hits; held = l.held; later = one_more l.later }
unfolding logged
logged_full l h past = rw (le-ltb l.held log_limit past) refl

module _ {hs : List HitAt} {l : Log} (k : LogOf hs l) (h : StepHit) where
  abbrev all : List HitAt
  all = hs ++ (hit_of h ∷ [])

  one_longer : length all ≡ length hs + 1
  one_longer = length-append hs (hit_of h ∷ [])

  with_room : l.held < log_limit → LogOf all (record { hits = set l.hits l.held h; held = l.held + 1; later = l.later })
  with_room below =
      let few : length hs + 1 ≤ log_limit = omega (arith, k.held) in
      record {
        room = length-set l.hits l.held h ∙ k.room;
        held = omega (arith, k.held, one_longer);
        entries = ap (map hit_of) (take_next_set l.hits l.held h (omega (arith, k.room)))
            ∙ map_append hit_of (take l.held l.hits) (h ∷ [])
            ∙ ap (λ (m : List HitAt). m ++ (hit_of h ∷ [])) k.entries
            ∙ ap (λ (m : List HitAt). m ++ (hit_of h ∷ [])) (take_all log_limit hs (omega arith))
            ∙ sym (take_all log_limit all (omega (arith, one_longer)));
        later = k.later ∙ ap counted (omega (arith, length-drop log_limit hs, length-drop log_limit all, one_longer));
      }

  full : log_limit ≤ l.held → LogOf all (record { hits = l.hits; held = l.held; later = one_more l.later })
  full past =
      let many : log_limit ≤ length hs = omega (arith, k.held) in
      record {
        room = k.room;
        held = omega (arith, k.held, one_longer);
        entries = k.entries ∙ sym (log_full hs (hit_of h ∷ []) many);
        later = ap one_more k.later
            ∙ count_more (length (drop log_limit hs))
            ∙ ap counted (omega (arith, length-drop log_limit hs, length-drop log_limit all, one_longer));
      }

  -- a hit more
  pub log_goes : LogOf (hs ++ (hit_of h ∷ [])) (logged l h)
  unfolding logged
  log_goes =
      ⊎_elim
      (λ past. rw (le-ltb l.held log_limit past) (full past))
      (λ below. rw (lt-ltb l.held log_limit below) (with_room below))
      (le_or_lt log_limit l.held)

-- whatever log it is, and whatever hit comes: no entry is replaced
pub none_replaced : (l : Log) (h : StepHit) → take l.held (logged l h).hits ≡ take l.held l.hits
unfolding logged
none_replaced l h =
    ⊎_elim
    (λ past. rw (le-ltb l.held log_limit past) refl)
    (λ below. rw (lt-ltb l.held log_limit below) (take-set-le l.held l.hits l.held h (omega arith)))
    (le_or_lt log_limit l.held)
