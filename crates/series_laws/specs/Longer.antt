-- A longer series has the steps of the shorter one in front, and so its words, its hits and its log.
use Rattle.std.specs.Prelude.{ℕ, ◌+◌, ◌≤◌, Bool, true, false, cond, ◌≡◌, refl, ℤ, length}
use mathlib.Core.List.{List, [], ◌∷◌, ◌++◌, append_assoc, Memᴰ}
use Rattle.std.proofs.Common.{sym, ap, ◌∙◌, subst, arith, add-zero, length-append}
use Rattle.meaning.specs.Scene.{Scene}
use Rattle.meaning.specs.Lines.{after_all}
use Rattle.meaning.specs.List.{pairs}
use Rattle.meaning.specs.declared.Settled.{Settled}
use Rattle.meaning.specs.Series.{Series, step_after, steps_from, last_from, steps_of, last_step, HitAt, hits_in, hits_from, hits_of, StepsSettled, log_of, Told, told_of, ToldRight}
use Rattle.meaning.specs.SeriesText.{Item, of, ends, next, three_of, SoFar, blocks_so_far, with_item, series_lines}
use Rattle.series_laws.specs.Front.{log_kept}

-- the steps behind this one
unfoldable pub next_steps : Scene → List (List ℤ) → List Scene
next_steps s [] = []
next_steps s (b ∷ bs) = step_after s b ∷ next_steps (step_after s b) bs

steps_from_lem : (s : Scene) (bs : List (List ℤ)) → steps_from s bs ≡ s ∷ next_steps s bs
unfolding steps_from next_steps
steps_from_lem s [] = refl
steps_from_lem s (b ∷ bs) = ap (λ (l : List Scene). s ∷ l) (steps_from_lem (step_after s b) bs)

pub steps_append : (s : Scene) (bs more : List (List ℤ)) → steps_from s (bs ++ more) ≡ steps_from s bs ++ next_steps (last_from s bs) more
unfolding steps_from last_from
steps_append s [] more = steps_from_lem s more
steps_append s (b ∷ bs) more = ap (λ (l : List Scene). s ∷ l) (steps_append (step_after s b) bs more)

-- the last step is the one that they end with
pub last_append : (s : Scene) (bs more : List (List ℤ)) → last_from s (bs ++ more) ≡ last_from (last_from s bs) more
unfolding last_from
last_append s [] more = refl
last_append s (b ∷ bs) more = last_append (step_after s b) bs more

-- as many steps as blocks, and the scene
pub steps_count : (s : Scene) (bs : List (List ℤ)) → length (steps_from s bs) ≡ length bs + 1
unfolding steps_from
steps_count s [] = refl
steps_count s (b ∷ bs) = omega (arith, steps_count (step_after s b) bs)

-- the last step is one of them
pub last_among : (s : Scene) (bs : List (List ℤ)) → Memᴰ (last_from s bs) (steps_from s bs)
unfolding last_from steps_from
last_among s [] = Memᴰ.head refl
last_among s (b ∷ bs) = Memᴰ.tail (last_among (step_after s b) bs)

-- ---- no more blocks than records

blocks_more : (x : SoFar) (i : Item) → length (blocks_so_far (with_item x i)) ≤ length (blocks_so_far x) + 1
unfolding with_item
blocks_more x (of e) = omega arith
blocks_more x (ends p) = by_begun x.begun
  where
    by_begun : (b : Bool) → length (cond b (x.blocks ++ ((x.block ++ three_of p) ∷ [])) []) ≤ length (cond b (x.blocks ++ (x.block ∷ [])) []) + 1
    by_begun true = omega (arith, length-append x.blocks ((x.block ++ three_of p) ∷ []), length-append x.blocks (x.block ∷ []))
    by_begun false = omega arith
blocks_more x next = omega (arith, length-append (blocks_so_far x) ([] ∷ []))

pub blocks_few : (x : SoFar) (is : List Item) → length (blocks_so_far (after_all series_lines x is)) ≤ length (blocks_so_far x) + length is
unfolding after_all
blocks_few x [] = omega arith
blocks_few x (i ∷ is) = omega (arith, blocks_few (with_item x i) is, blocks_more x i)

-- ---- words and hits

-- words of some steps and of those behind them
pub record Parted (ss ts : List Scene) (us : List (List Settled)) : Type 0 where
  pub front : List (List Settled)
  pub behind : List (List Settled)
  pub all : us ≡ front ++ behind
  pub settled : StepsSettled ss front
  pub settled_behind : StepsSettled ts behind

pub words_parted : (ss ts : List Scene) (us : List (List Settled)) → StepsSettled (ss ++ ts) us → Parted ss ts us
unfolding StepsSettled
words_parted [] ts us h = record { front = []; behind = us; all = refl; settled = tt; settled_behind = h }
words_parted (s ∷ ss) ts [] h = absurd h
words_parted (s ∷ ss) ts (u ∷ us) h =
    let p : Parted ss ts us = words_parted ss ts us h.1 in
    record {
      front = u ∷ p.front;
      behind = p.behind;
      all = ap (λ (l : List (List Settled)). u ∷ l) p.all;
      settled = (h.0, p.settled);
      settled_behind = p.settled_behind;
    }

pub hits_append : (n : ℕ) (ss ts : List Scene) (us vs : List (List Settled)) → StepsSettled ss us
    → hits_from n (ss ++ ts) (us ++ vs) ≡ hits_from n ss us ++ hits_from (n + length ss) ts vs
unfolding hits_from StepsSettled
hits_append n [] ts [] vs h = ap (λ (m : ℕ). hits_from m ts vs) (sym (add-zero n))
hits_append n [] ts (u ∷ us) vs h = absurd h
hits_append n (s ∷ ss) ts [] vs h = absurd h
hits_append n (s ∷ ss) ts (u ∷ us) vs h =
    let step : n + 1 + length ss ≡ n + length (s ∷ ss) = omega arith in
    ap (λ (l : List HitAt). hits_in n (pairs s) u ++ l)
    (hits_append (n + 1) ss ts us vs h.1 ∙ ap (λ (m : ℕ). hits_from (n + 1) ss us ++ hits_from m ts vs) step)
    ∙ sym (append_assoc (hits_in n (pairs s) u) (hits_from (n + 1) ss us) (hits_from (n + length (s ∷ ss)) ts vs))

-- ---- a series that goes on

abbrev pub longer : Series → List (List ℤ) → Series
longer x more = record { scene = x.scene; blocks = x.blocks ++ more }

-- what is told of the longer one has what is told of the shorter one in front: its log begins with the same entries
pub record GoesOn (x : Series) (u : Told) : Type 0 where
  pub shorter : Told
  pub right : ToldRight x shorter
  pub rest : List HitAt
  pub log : u.log ≡ shorter.log ++ rest

pub goes_on : (x : Series) (more : List (List ℤ)) (u : Told) → ToldRight (longer x more) u → GoesOn x u
goes_on x more u h =
    let ss : List Scene = steps_of x in
    let ts : List Scene = next_steps (last_step x) more in
    let steps : steps_of (longer x more) ≡ ss ++ ts = steps_append x.scene x.blocks more in
    let p : Parted ss ts h.words =
    words_parted ss ts h.words (subst (λ (l : List Scene). StepsSettled l h.words) steps h.settled) in
    let later : List HitAt = hits_from (1 + length ss) ts p.behind in
    let hits : hits_of (longer x more) h.words ≡ hits_of x p.front ++ later =
    ap (λ (l : List Scene). hits_from 1 l h.words) steps
    ∙ ap (λ (l : List (List Settled)). hits_from 1 (ss ++ ts) l) p.all
    ∙ hits_append 1 ss ts p.front p.behind p.settled in
    let (rest, kept) = log_kept (hits_of x p.front) later in
    record {
      shorter = told_of x p.front;
      right = record { words = p.front; settled = p.settled; told = refl };
      rest = rest;
      log = ap (λ (t : Told). t.log) h.told ∙ ap log_of hits ∙ kept;
    }
