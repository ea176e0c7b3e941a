-- Where a pair alone stands in a scene, that scene says of it what the mesh says; so with the words and the contacts of a list of one's own.
use Rattle.std.specs.Prelude.{ℕ, ◌≡◌, Result}
use mathlib.Core.List.{List, [], ◌∷◌, map}
use Rattle.std.proofs.Math.Path.{refl}
use Rattle.std.proofs.Common.{sym, ◌∙◌, ap}
use Rattle.sequences.specs.Wrote.{written}
use Rattle.meaning.specs.Scene.{Scene}
use Rattle.meaning.specs.Refusals.{given, outcome_of}
use Rattle.meaning.specs.List.{Pair, leaves}
use Rattle.meaning.specs.SceneWords.{byte_of}
use Rattle.meaning.specs.WholeContacts.{rows_left, rows_after}
use Rattle.meaning.specs.OwnList.{asked_for, OwnSettled, OwnContacts}
use Rattle.corner_search.specs.Decided.{pair_word_is, settled_pair}
use Rattle.list_words.specs.Listed.{word_of_pair, words_of, bytes_of, all_judged}
use Rattle.list_words.specs.OneResult.{all_judged_one}
use Rattle.contact_entries.specs.Computed.{met_pair, whole_contact_is}
use Rattle.contact_entries.specs.Listed.{whole_contact_of_pair, contacts_of, contact_byte, contact_bytes, all_met_one}
use Rattle.mesh_demands.specs.Part.{in_whole}
use Rattle.mesh_demands.specs.Meshes.{Mesh}
use Rattle.mesh_demands.specs.Says.{SaysTheSame, says_back, says_on}
use Rattle.mesh_demands.proofs.Says.{a_part_says_the_same}
use Rattle.mesh_demands.specs.Alone.{alone_there}
use Rattle.mesh_demands.proofs.Alone.{alone_is_a_mesh, alone_says_the_same}
use Rattle.mesh_demands.specs.Packed.{own_pair, Holds, AllHeld}
use Rattle.meaning.specs.declared.Refused.{Refused}

module _ {p s : Scene} {q x : Pair} (mesh : Mesh s) (h : Holds p s q x) where
  abbrev stands_at : Pair
  stands_at = in_whole h.places (own_pair s x)

  -- the theorem, twice: of the pair alone in the mesh, and of the pair alone in the scene
  pub packed_says_the_same : SaysTheSame p s x.kind stands_at.first stands_at.second x.first x.second
  packed_says_the_same =
      says_on
      (says_back
      (a_part_says_the_same h.part (alone_is_a_mesh mesh x.kind x.first x.second h.apart) x.kind (own_pair s x).first (own_pair s x).second
      (alone_there mesh x.kind x.first x.second)))
      (alone_says_the_same mesh x.kind x.first x.second h.apart)

  pub packed_word : word_of_pair p q ≡ word_of_pair s x
  packed_word =
      ap (word_of_pair p) (sym h.is)
      ∙ (pair_word_is s x.kind x.first x.second (word_of_pair p stands_at)).0
      ((packed_says_the_same.word (word_of_pair p stands_at)).0 (settled_pair p x.kind stands_at.first stands_at.second))

  pub packed_contact : whole_contact_of_pair p q ≡ whole_contact_of_pair s x
  packed_contact =
      ap (whole_contact_of_pair p) (sym h.is)
      ∙ (whole_contact_is s x.kind x.first x.second (whole_contact_of_pair p stands_at)).0
      ((packed_says_the_same.whole_contact (whole_contact_of_pair p stands_at)).0 (met_pair p x.kind stands_at.first stands_at.second))

module _ (p : Scene) {s : Scene} (mesh : Mesh s) where
  packed_words_are : (es : List ℕ) (xs : List Pair) → AllHeld p s es xs → words_of p (map asked_for es) ≡ words_of s xs
  unfolding AllHeld
  packed_words_are [] [] h = refl
  packed_words_are [] (x ∷ xs) h = absurd h
  packed_words_are (e ∷ es) [] h = absurd h
  packed_words_are (e ∷ es) (x ∷ xs) h = λ t. packed_word mesh h.0 t ∷ packed_words_are es xs h.1 t

  packed_contacts_are : (es : List ℕ) (xs : List Pair) → AllHeld p s es xs → contacts_of p (map asked_for es) ≡ contacts_of s xs
  unfolding AllHeld
  packed_contacts_are [] [] h = refl
  packed_contacts_are [] (x ∷ xs) h = absurd h
  packed_contacts_are (e ∷ es) [] h = absurd h
  packed_contacts_are (e ∷ es) (x ∷ xs) h = λ t. packed_contact mesh h.0 t ∷ packed_contacts_are es xs h.1 t

  -- where the call gives words, they are those that the pairs have in the mesh, in their order
  pub packed_words : {es b b' : List ℕ} {r : Result ℕ Refused} → OwnSettled p es b b' r → {n : ℕ} → outcome_of r ≡ given n
      → (xs : List Pair) → AllHeld p s es xs → b' ≡ written (bytes_of s xs) b
  unfolding leaves
  packed_words {es} {b} o g xs h =
      let words : o.words ≡ words_of s xs = all_judged_one p (map asked_for es) o.words _ o.right (all_judged p (map asked_for es)) ∙ packed_words_are es xs h in
      o.bytes ∙ (λ t. leaves (g t) (map byte_of (words t)) b)

  -- so with contacts
  pub packed_contacts : {es b b' c c' : List ℕ} {r : Result ℕ Refused} → OwnContacts p es b b' c c' r → {n : ℕ} → outcome_of r ≡ given n
      → (xs : List Pair) → AllHeld p s es xs → (b' ≡ written (contact_bytes s xs) b) × (c' ≡ rows_left (contacts_of s xs) c)
  unfolding leaves rows_after
  packed_contacts {es} {b} {b'} {c} o g xs h =
      let met : o.contacts ≡ contacts_of s xs = all_met_one p (map asked_for es) o.contacts o.right ∙ packed_contacts_are es xs h in
      (o.bytes ∙ (λ t. leaves (g t) (map contact_byte (met t)) b), o.rows ∙ (λ t. rows_after (g t) (met t) c))
