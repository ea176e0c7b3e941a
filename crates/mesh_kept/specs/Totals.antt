-- The tally after some words more, and that it has counted all of them; and what a byte that is none of the first three words' is read as.
use Rattle.std.specs.Prelude.{ℕ, ◌+◌, ◌≤◌, List, [], ◌∷◌, ◌++◌, ◌≡◌, refl, length}
use Rattle.std.proofs.Common.{append_assoc, append-nil, sym, subst, arith, length-append, ne_eqb}
use Rattle.meaning.specs.declared.Settled.{Settled}
use Rattle.meaning.specs.declared.Settled.TheVariants.{Apart}
use Rattle.list_words.specs.Listed.{word_of_byte}
use Rattle.tally.specs.Tallied.{largest, tallied}
use Rattle.tally.specs.Counted.{TallyOf, tally_goes}
use Rattle.tally.specs.declared.Tally.{Tally}

-- a byte that is none of the first three is read as the last
pub last_word : (b : ℕ) → ¬ (b ≡ 0) → ¬ (b ≡ 1) → ¬ (b ≡ 3) → Apart ≡ word_of_byte b
unfolding word_of_byte
last_word b hit miss touch = rw (ne_eqb b 0 hit, ne_eqb b 1 miss, ne_eqb b 3 touch) refl

-- the tally takes one word after the other
unfoldable pub tallied_all : Tally → List Settled → Tally
tallied_all t [] = t
tallied_all t (w ∷ ws) = tallied_all (tallied t w) ws

-- some words, then others
pub tallied_append : (t : Tally) (us vs : List Settled) → tallied_all t (us ++ vs) ≡ tallied_all (tallied_all t us) vs
unfolding tallied_all
tallied_append t [] vs = refl
tallied_append t (u ∷ us) vs = tallied_append (tallied t u) us vs

-- what was counted of some words is counted of these and of more
pub counts_all : (vs ws : List Settled) (t : Tally) → length vs + length ws ≤ largest → TallyOf vs t → TallyOf (vs ++ ws) (tallied_all t ws)
unfolding tallied_all
counts_all vs [] t few h = subst (λ (us : List Settled). TallyOf us t) (sym (append-nil vs)) h
counts_all vs (w ∷ ws) t few h =
    subst (λ (us : List Settled). TallyOf us (tallied_all (tallied t w) ws)) (append_assoc vs (w ∷ []) ws)
    (counts_all (vs ++ (w ∷ [])) ws (tallied t w) (omega (arith, length-append vs (w ∷ []))) (tally_goes w (omega arith) h))
