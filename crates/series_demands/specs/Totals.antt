-- 'Report exact totals per verdict over the series': each total is the number of listed pairs with that word, over all steps. A text has so few
-- bytes, and a scene so few pairs, that no count comes to the largest of 64 bits, where it would stay.
use Rattle.std.specs.Prelude.{ℕ, ◌+◌, ◌-◌, ◌*◌, ◌^◌, ◌≤◌, min, Bool, true, false, cond, ◌↔◌, ◌≡◌, refl, eqb, length}
use Rattle.std.proofs.Common.{true≢false, ⊎_elim, sym, ap, ◌∙◌, subst, arith, eqb-true, eq-eqb}
use mathlib.Core.List.Memᴰ
use mathlib.Core.List.{List, [], ◌∷◌, Memᴰ}
use Rattle.meaning.specs.Limits.{text_limit}
use Rattle.meaning.specs.Scene.{Scene}
use Rattle.meaning.specs.List.{Pair, pairs}
use Rattle.meaning.specs.SceneWords.{byte_of, AllSettled}
use Rattle.meaning.specs.Report.{is_one, how_many}
use Rattle.meaning.specs.Series.{Series, steps_of, StepsSettled, counted, listed_in, total_of, Told, ToldRight}
use Rattle.meaning.specs.SeriesText.{HoldsSeries}
use Rattle.meaning.specs.declared.Settled.{Settled}
use Rattle.meaning.specs.declared.Settled.TheVariants.{Hit, Miss, Touch, Apart}
use Rattle.answers.specs.Deciding.{holds_or_not}
use Rattle.corner_search.specs.Decided.{pair_word_is}
use Rattle.list_pairs.specs.Sizes.{pair_limit, few_pairs}
use Rattle.list_words.specs.Listed.{word_of_pair, word_of_byte, byte_back}
use Rattle.series_laws.specs.AllAccepted.{EachAccepted, steps_accepted}
use Rattle.series_laws.specs.TrueHits.{HasWord}
use Rattle.series_demands.specs.Few.{steps_few}

-- ---- the listed pairs with a word

unfoldable pub pairs_with : Scene → Settled → List Pair → List Pair
pairs_with s v [] = []
pairs_with s v (p ∷ ps) = cond (eqb (byte_of v) (byte_of (word_of_pair s p))) (p ∷ pairs_with s v ps) (pairs_with s v ps)

one_byte : (v w : Settled) → byte_of v ≡ byte_of w → v ≡ w
one_byte v w e = sym (byte_back v) ∙ ap word_of_byte e ∙ byte_back w

-- they are the pairs of the list that have it
pub with_word_lem : (s : Scene) (v : Settled) (ps : List Pair) (p : Pair) → Memᴰ p (pairs_with s v ps) ↔ (Memᴰ p ps × HasWord s p v)
unfolding pairs_with
with_word_lem s v [] p = (λ m. absurd (Memᴰ.not-nil m), λ h. absurd (Memᴰ.not-nil h.0))
with_word_lem s v (q ∷ ps) p =
    holds_or_not (eqb (byte_of v) (byte_of (word_of_pair s q)))
    (λ t.
    let has : HasWord s q v = (pair_word_is s q.kind q.first q.second v).1 (one_byte v (word_of_pair s q) (eqb-true (byte_of v) (byte_of (word_of_pair s q)) t)) in
    rw t (
      λ m.
          ⊎_elim
          (λ e. (Memᴰ.head e, subst (λ (x : Pair). HasWord s x v) (sym e) has))
          (λ r. let h = (with_word_lem s v ps p).0 r in (Memᴰ.tail h.0, h.1))
          (Memᴰ.cases_cons m),
      λ h.
          ⊎_elim
          (λ e. Memᴰ.head e)
          (λ r. Memᴰ.tail ((with_word_lem s v ps p).1 (r, h.1)))
          (Memᴰ.cases_cons h.0),
    ))
    (λ t.
    rw t (
      λ m. let h = (with_word_lem s v ps p).0 m in (Memᴰ.tail h.0, h.1),
      λ h.
          ⊎_elim
          (λ e.
          let has : HasWord s q v = subst (λ (x : Pair). HasWord s x v) e h.1 in
          let same : v ≡ word_of_pair s q = (pair_word_is s q.kind q.first q.second v).0 has in
          absurd (true≢false (sym (eq-eqb (byte_of v) (byte_of (word_of_pair s q)) (ap byte_of same)) ∙ t)))
          (λ r. (with_word_lem s v ps p).1 (r, h.1))
          (Memᴰ.cases_cons h.0),
    ))

-- ---- over the steps

unfoldable pub with_word : Settled → List Scene → ℕ
with_word v [] = 0
with_word v (s ∷ ss) = length (pairs_with s v (pairs s)) + with_word v ss

unfoldable pub listed_over : List Scene → ℕ
listed_over [] = 0
listed_over (s ∷ ss) = length (pairs s) + listed_over ss

one_more : (b : Bool) (p : Pair) (l : List Pair) → cond b 1 0 + length l ≡ length (cond b (p ∷ l) l)
one_more true p l = omega arith
one_more false p l = omega arith

many_is : (s : Scene) (v : Settled) (ps : List Pair) (ws : List Settled) → AllSettled s ps ws → how_many v ws ≡ length (pairs_with s v ps)
unfolding AllSettled how_many is_one pairs_with
many_is s v [] [] h = refl
many_is s v [] (w ∷ ws) h = absurd h
many_is s v (p ∷ ps) [] h = absurd h
many_is s v (p ∷ ps) (w ∷ ws) h =
    let same : w ≡ word_of_pair s p = (pair_word_is s p.kind p.first p.second w).0 h.0 in
    rw (same, many_is s v ps ws h.1)
    (one_more (eqb (byte_of v) (byte_of (word_of_pair s p))) p (pairs_with s v ps))

length_is : (s : Scene) (ps : List Pair) (ws : List Settled) → AllSettled s ps ws → length ws ≡ length ps
unfolding AllSettled
length_is s [] [] h = refl
length_is s [] (w ∷ ws) h = absurd h
length_is s (p ∷ ps) [] h = absurd h
length_is s (p ∷ ps) (w ∷ ws) h = omega (arith, length_is s ps ws h.1)

total_is : (v : Settled) (ss : List Scene) (wss : List (List Settled)) → StepsSettled ss wss → total_of v wss ≡ with_word v ss
unfolding StepsSettled total_of with_word
total_is v [] [] h = refl
total_is v [] (ws ∷ wss) h = absurd h
total_is v (s ∷ ss) [] h = absurd h
total_is v (s ∷ ss) (ws ∷ wss) h = omega (arith, many_is s v (pairs s) ws h.0, total_is v ss wss h.1)

listed_is : (ss : List Scene) (wss : List (List Settled)) → StepsSettled ss wss → listed_in wss ≡ listed_over ss
unfolding StepsSettled listed_in listed_over
listed_is [] [] h = refl
listed_is [] (ws ∷ wss) h = absurd h
listed_is (s ∷ ss) [] h = absurd h
listed_is (s ∷ ss) (ws ∷ wss) h = omega (arith, length_is s (pairs s) ws h.0, listed_is ss wss h.1)

-- ---- no count comes to the largest of 64 bits

no_more : (s : Scene) (v : Settled) (ps : List Pair) → length (pairs_with s v ps) ≤ length ps
unfolding pairs_with
no_more s v [] = omega arith
no_more s v (p ∷ ps) = omega (arith, one_more_at (eqb (byte_of v) (byte_of (word_of_pair s p))), no_more s v ps)
  where
    one_more_at : (b : Bool) → length (cond b (p ∷ pairs_with s v ps) (pairs_with s v ps)) ≤ length (pairs_with s v ps) + 1
    one_more_at true = omega arith
    one_more_at false = omega arith

within_listed : (v : Settled) (ss : List Scene) → with_word v ss ≤ listed_over ss
unfolding with_word listed_over
within_listed v [] = omega arith
within_listed v (s ∷ ss) = omega (arith, no_more s v (pairs s), within_listed v ss)

listed_few : (ss : List Scene) → EachAccepted ss → listed_over ss ≤ length ss * pair_limit
unfolding listed_over
listed_few [] all = omega arith
listed_few (s ∷ ss) all = omega (arith, few_pairs s (all s (Memᴰ.head refl)), listed_few ss (λ t m. all t (Memᴰ.tail m)))

not_cut : (n : ℕ) → n ≤ 2 ^ 64 - 1 → counted n ≡ n
not_cut n h = omega arith

-- ---- what is told

pub record ExactTotals (x : Series) (t : Told) : Type 0 where
  pub listed : t.listed ≡ listed_over (steps_of x)
  pub hits : t.hits ≡ with_word Hit (steps_of x)
  pub misses : t.misses ≡ with_word Miss (steps_of x)
  pub touches : t.touches ≡ with_word Touch (steps_of x)
  pub aparts : t.aparts ≡ with_word Apart (steps_of x)

pub exact_totals : {text : List ℕ} {x : Series} {t : Told} → HoldsSeries text x → length text ≤ text_limit → ToldRight x t → ExactTotals x t
exact_totals {text} {x} {t} holds brief right =
    let steps = steps_of x in
    let few : listed_over steps ≤ 2 ^ 64 - 1 = omega (arith, listed_few steps (steps_accepted holds), steps_few holds) in
    let exact : (v : Settled) → counted (total_of v right.words) ≡ with_word v steps =
    λ v. ap counted (total_is v steps right.words right.settled) ∙ not_cut (with_word v steps) (omega (arith, within_listed v steps)) in
    record {
      listed = ap (λ (u : Told). u.listed) right.told ∙ ap counted (listed_is steps right.words right.settled) ∙ not_cut (listed_over steps) few;
      hits = ap (λ (u : Told). u.hits) right.told ∙ exact Hit;
      misses = ap (λ (u : Told). u.misses) right.told ∙ exact Miss;
      touches = ap (λ (u : Told). u.touches) right.told ∙ exact Touch;
      aparts = ap (λ (u : Told). u.aparts) right.told ∙ exact Apart;
    }
