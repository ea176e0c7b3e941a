-- So the one call gives all of their words: with pairs that share no vertex, vertices in range and room for the words it refuses nothing.
use Prim.Native.Nat.{ℕ, suc, ◌+◌, ◌*◌, ◌≤◌, ◌<◌}
use Rattle.std.proofs.Math.Bool.{false}
use mathlib.Core.List.{List, [], ◌∷◌, ◌++◌}
use Rattle.std.specs.Prelude.{◌≡◌, length, Result}
use Rattle.std.proofs.Math.Path.{refl, ap}
use Rattle.std.proofs.Common.{sym, ◌∙◌, subst, arith, le-ltb}
use Rattle.std.proofs.lemmas.Bool.{lt-leb}
use Rattle.sequences.specs.Wrote.{written}
use Rattle.meaning.specs.Limits.{coordinate_limit}
use Rattle.meaning.specs.Scene.{Scene}
use Rattle.meaning.specs.Refusals.{Outcome, given, refused, Check, Answers, not_there, shares, outcome_of}
use Rattle.meaning.specs.List.{Pair, no_number}
use Rattle.meaning.specs.OwnList.{entry_missing, faulty_from, size_check, word_room, own_limit, OwnSettled}
use Rattle.answers.specs.Answering.{is_past}
use Rattle.scene_checks.specs.Accepting.{past_accepted}
use Rattle.theory.specs.Bounds.{Every}
use Rattle.list_entries.specs.Entries.{number_small}
use Rattle.list_words.specs.Listed.{bytes_of}
use Rattle.mesh_demands.specs.Part.{in_whole}
use Rattle.mesh_demands.specs.Meshes.{Mesh, mesh_known, mesh_made}
use Rattle.mesh_demands.specs.Kept.{there_too}
use Rattle.mesh_demands.specs.Alone.{few_parts, alone_there}
use Rattle.mesh_demands.proofs.Alone.{alone_is_a_mesh}
use Rattle.mesh_demands.specs.Packed.{Holds, AllHeld, own_pair}
use Rattle.mesh_demands.proofs.Packed.{packed_says_the_same}
use Rattle.mesh_demands.specs.Beside.{moved_up}
use Rattle.mesh_demands.specs.Together.{edges_in, triangles_in, entries_from, entries_of, together, AllApart}
use Rattle.mesh_demands.proofs.Together.{narrow, all_held, words_together}
use Rattle.mesh_demands.specs.Answered.{AllNear}
use Rattle.mesh_demands.proofs.Answered.{together_is_accepted}
use Rattle.meaning.specs.declared.Refused.{Refused}

-- ---- an entry is not at fault

module _ {p s : Scene} {q x : Pair} (mesh : Mesh s) (h : Holds p s q x) where
  held_there : not_there p q.kind q.first q.second ≡ false
  held_there =
      let own = alone_is_a_mesh mesh x.kind x.first x.second h.apart in
      let there = alone_there mesh x.kind x.first x.second in
      subst (λ (y : Pair). not_there p y.kind y.first y.second ≡ false) h.is
      (there_too h.part x.kind (own_pair s x).first (own_pair s x).second (mesh_known own x.kind (own_pair s x).first (own_pair s x).second there) (mesh_made own x.kind (own_pair s x).first (own_pair s x).second there))

  held_unshared : shares p q.kind q.first q.second ≡ false
  held_unshared =
      subst (λ (y : Pair). shares p y.kind y.first y.second ≡ false) h.is
      (sym (packed_says_the_same mesh h).shared ∙ h.apart.unshared)

module _ {s : Scene} (mesh : Mesh s) where
  -- every entry is a pair's number, and there are as many as pairs
  entries_small : (n v e t : ℕ) → v ≡ 4 * n → e ≤ 2 * n → t ≤ n → (xs : List Pair) → n + length xs ≤ 128 → Every (λ k. k < no_number) (entries_from s v e t xs)
  unfolding entries_from
  entries_small n v e t four few fewer [] room = tt
  entries_small n v e t four few fewer (x ∷ xs) room =
      let parts = few_parts x.kind x.first x.second in (
        number_small (in_whole (moved_up v e t) (own_pair s x)) (narrow s mesh x v e t (omega arith) (omega arith) (omega arith)),
        entries_small (n + 1) (v + 4) (e + edges_in x) (t + triangles_in x) (omega arith) (omega (arith, parts.0)) (omega (arith, parts.1)) xs (omega arith),
      )

  entries_many : (v e t : ℕ) (xs : List Pair) → length (entries_from s v e t xs) ≡ length xs
  unfolding entries_from
  entries_many v e t [] = refl
  entries_many v e t (x ∷ xs) = ap suc (entries_many (v + 4) (e + edges_in x) (t + triangles_in x) xs)

  -- so the checks of the entries are passed
  past_entries : (R : ℕ → Type 0) (p : Scene) (n : ℕ) (es : List ℕ) (xs : List Pair) (more : List Check) (o : Outcome ℕ)
      → Every (λ k. k < no_number) es → AllHeld p s es xs → Answers (faulty_from p n es ++ more) R o → Answers more R o
  unfolding faulty_from AllHeld
  past_entries R p n [] [] more o small held a = a
  past_entries R p n [] (x ∷ xs) more o small held a = absurd held
  past_entries R p n (e ∷ es) [] more o small held a = absurd held
  past_entries R p n (e ∷ es) (x ∷ xs) more o small held a =
      let there : entry_missing p e ≡ false = rw (lt-leb no_number e small.0) (held_there mesh held.0) in
      past_entries R p (n + 1) es xs more o small.1 held.1
      (is_past R _ _ o (held_unshared mesh held.0) (is_past R _ _ o there a))

  so_many : (m : ℕ) (o : Outcome ℕ) → Answers [] (λ n. n ≡ m) o → o ≡ given m
  unfolding Answers
  so_many m (given n) e = ap given e
  so_many m (refused n c) e = absurd e

  -- ---- the call gives as many words as there are pairs, and they are those of the mesh

  pub settled_together : (xs : List Pair) → length xs ≤ 128 → AllApart s xs → AllNear coordinate_limit s xs
      → {b b' : List ℕ} {r : Result ℕ Refused} → OwnSettled (together s xs) (entries_of s xs) b b' r → length xs ≤ length b
      → (outcome_of r ≡ given (length xs)) × (b' ≡ written (bytes_of s xs) b)
  settled_together xs room apart near {b} {b'} {r} o lent =
      let R : ℕ → Type 0 = λ n. n ≡ length (entries_of s xs) in
      let many = entries_many 0 0 0 xs in
      let past = past_accepted (together s xs) _ R (outcome_of r) (together_is_accepted mesh coordinate_limit xs room apart near)
      (is_past R (size_check (entries_of s xs)) _ (outcome_of r) (le-ltb own_limit (length (entries_of s xs)) (omega (arith, many))) o.answer) in
      let all = past_entries R (together s xs) 1 (entries_of s xs) xs (word_room (entries_of s xs) (length b) ∷ []) (outcome_of r)
      (entries_small 0 0 0 0 refl (omega arith) (omega arith) xs (omega arith)) (all_held mesh xs room apart) past in
      let says : outcome_of r ≡ given (length (entries_of s xs)) = so_many (length (entries_of s xs)) (outcome_of r)
      (is_past R (word_room (entries_of s xs) (length b)) [] (outcome_of r) (le-ltb (length b) (length (entries_of s xs)) (omega (arith, many))) all) in
      (says ∙ ap given many, words_together mesh xs room apart o says)
