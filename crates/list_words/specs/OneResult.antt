-- Two results that meet the promise are equal, refused calls too: the list with its words.
use Rattle.std.specs.Prelude.{ℕ, min, List, [], ◌∷◌, map, ◌≡◌, refl, length, Result}
use Rattle.std.proofs.Common.{sym, ◌∙◌}
use Rattle.meaning.specs.Scene.{Scene}
use Rattle.meaning.specs.List.{Pair, pairs, entries, room_of, list_checks, leaves}
use Rattle.meaning.specs.SceneWords.{byte_of, AllSettled, SettledScene}
use Rattle.meaning.specs.declared.Settled.{Settled}
use Rattle.corner_search.specs.Decided.{one_pair_word}
use Rattle.list_pairs.specs.OneResult.{one_count}
use Rattle.meaning.specs.declared.Refused.{Refused}
use Rattle.meaning.specs.Refusals.{outcome_of}

pub all_judged_one : (s : Scene) (ps : List Pair) (vs ws : List Settled) → AllSettled s ps vs → AllSettled s ps ws → vs ≡ ws
unfolding AllSettled
all_judged_one s [] [] [] h k = refl
all_judged_one s [] [] (w ∷ ws) h k = absurd k
all_judged_one s [] (v ∷ vs) ws h k = absurd h
all_judged_one s (p ∷ ps) [] ws h k = absurd h
all_judged_one s (p ∷ ps) (v ∷ vs) [] h k = absurd k
all_judged_one s (p ∷ ps) (v ∷ vs) (w ∷ ws) h k =
    let e = one_pair_word s p.kind p.first p.second v w h.0 k.0 in
    let f = all_judged_one s ps vs ws h.1 k.1 in
    λ i. e i ∷ f i

pub one_judging : (s : Scene) (o o' o'' b b' b'' : List ℕ) (r r' : Result ℕ Refused) → SettledScene s o o' b b' r → SettledScene s o o'' b b'' r' → (r ≡ r') × (o' ≡ o'') × (b' ≡ b'')
one_judging s o o' o'' b b' b'' r r' p q =
    let same : r ≡ r' = one_count s (list_checks s (min (room_of o) (length b))) r r' p.answer q.answer in
    let words : p.words ≡ q.words = all_judged_one s (pairs s) p.words q.words p.right q.right in (
      same,
      p.list ∙ (λ i. leaves (outcome_of (same i)) (entries (pairs s)) o) ∙ sym q.list,
      p.bytes ∙ (λ i. leaves (outcome_of (same i)) (map byte_of (words i)) b) ∙ sym q.bytes,
    )
