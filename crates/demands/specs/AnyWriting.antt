-- 'The order in which the scene writes the ends of an edge or the corners of a triangle changes nothing': a scene written in another order has
-- the same list and gets the same answers, refusals too, and the lent buffers then hold the same.
use Rattle.std.specs.Prelude.{ℕ, min, Bool, false, ◌||◌, ◌↔◌, ◌≡◌, refl, leb, ltb, length, Result}
use mathlib.Core.List.{List, [], ◌∷◌, map, Memᴰ}
use Rattle.std.proofs.Common.{sym, ◌∙◌, ap, subst, arith, ltb-true, ltb-false}
use Rattle.sequences.specs.Lists.{lists_as}
use Rattle.meaning.specs.Scene.{Scene, Accepted, vertex_count, edge_count, triangle_count}
use Rattle.meaning.specs.Pieces.{piece_count}
use Rattle.meaning.specs.Refusals.{Outcome, given, refused, Answers, not_there, shares, SceneChecked, PairJudged, PieceJudged, outcome_of}
use Rattle.meaning.specs.Resting.{PairDecided, PieceDecided}
use Rattle.meaning.specs.Boxes.{x_axis, y_axis, z_axis, boxes_meet}
use Rattle.meaning.specs.List.{Pair, pairs, entries, room_of, list_checks, leaves, Counted, Listing}
use Rattle.meaning.specs.SceneWords.{byte_of, AllSettled, SettledScene}
use Rattle.meaning.specs.declared.Kind.{Kind}
use Rattle.meaning.specs.declared.Kind.TheVariants.{PointTriangle, EdgeEdge}
use Rattle.meaning.specs.declared.Settled.{Settled}
use Rattle.theory.specs.Rewritten.{Rewritten, PartsThere, WellMade, rewritten_not_there}
use Rattle.theory.proofs.Rewritten.{rewritten_shares, rewritten_meet, rewritten_keeps_pieces, rewritten_keeps_pairs, rewritten_keeps_words, rewritten_keeps_pair_words}
use Rattle.answers.specs.Below.{or_left}
use Rattle.list_pairs.specs.InOrder.{ToList, are_there, list_is, list_only}
use Rattle.answers.specs.Deciding.{holds_or_not}
use Rattle.demands.specs.Demand1.{AskedTable, demand1_scene, demand1_list, demand1_judging, demand1_counted, demand1_pair, demand1_piece, demand1_settled_pair, demand1_settled_piece}
use Rattle.demands.specs.Demand2.{ExactlyOne, demand2_verdicts}
use Rattle.list_words.specs.OneResult.{all_judged_one}
use Rattle.demands.specs.SameAnswer.{answered_alike}
use Rattle.demands.specs.StillAccepted.{different_ends, different_corners, rewritten_accepted, refused_alike}
use Rattle.demands.specs.Unchanged.{judging_unchanged}
use Rattle.meaning.specs.declared.Refusal.{Refusal}
use Rattle.meaning.specs.declared.Refused.{Refused}
use Rattle.meaning.specs.declared.Verdict.{Verdict}
use Rattle.answers.specs.Speaking.{one_alone, one_carrying}

-- the parts of a pair that is there
parts_there : (s : Scene) (kind : Kind) (i j : ℕ) → not_there s kind i j ≡ false → PartsThere s kind i j
unfolding not_there PartsThere
parts_there s PointTriangle i j there = (are_there (vertex_count s) (triangle_count s) i j there).1
parts_there s EdgeEdge i j there = are_there (edge_count s) (edge_count s) i j there

-- in an accepted scene they are well made
pub well_made : {s : Scene} → Accepted s → (kind : Kind) (i j : ℕ) → not_there s kind i j ≡ false → WellMade s kind i j
unfolding not_there WellMade
well_made {s} a PointTriangle i j there =
    let (h, k) = are_there (vertex_count s) (triangle_count s) i j there in
    (k, different_corners a j k)
well_made {s} a EdgeEdge i j there =
    let (h, k) = are_there (edge_count s) (edge_count s) i j there in
    (h, different_ends a i h, k, different_ends a j k)

-- ---- the same list, whether the scene is accepted or not

module _ {s t : Scene} (h : Rewritten s t) where
  shares_alike : (kind : Kind) (i j : ℕ) → not_there s kind i j ≡ false → shares t kind i j ≡ shares s kind i j
  shares_alike kind i j there = rewritten_shares h kind i j (parts_there s kind i j there)

  meet_alike : (kind : Kind) (i j : ℕ) → not_there s kind i j ≡ false → boxes_meet t kind i j ≡ boxes_meet s kind i j
  meet_alike kind i j there =
      let w = parts_there s kind i j there in
      rw (rewritten_meet h kind i j w x_axis, rewritten_meet h kind i j w y_axis, rewritten_meet h kind i j w z_axis)

  -- the same pairs stand in it
  listed_alike : (p : Pair) → ToList t p ↔ ToList s p
  listed_alike p = (
    λ l.
        let there : not_there s p.kind p.first p.second ≡ false = sym (rewritten_not_there h p.kind p.first p.second) ∙ l.there in
        record {
          there = there;
          ordered = l.ordered;
          apart = sym (shares_alike p.kind p.first p.second there) ∙ l.apart;
          meet = sym (meet_alike p.kind p.first p.second there) ∙ l.meet;
        },
    λ l.
        record {
          there = rewritten_not_there h p.kind p.first p.second ∙ l.there;
          ordered = l.ordered;
          apart = shares_alike p.kind p.first p.second l.there ∙ l.apart;
          meet = meet_alike p.kind p.first p.second l.there ∙ l.meet;
        },
  )

  -- the list is the same
  pub rewritten_list : pairs t ≡ pairs s
  rewritten_list = list_only s (pairs t) (lists_as listed_alike (list_is t))

-- ---- the same answers

module _ {s t : Scene} (h : Rewritten s t) where
  -- of the check of the scene
  pub rewritten_checked : (r r' : Result (Unit {0}) Refusal) → SceneChecked s r → SceneChecked t r' → r ≡ r'
  rewritten_checked r r' p q =
      let one = demand1_scene s r p in
      let other = demand1_scene t r' q in
      one_alone r r'
      (refused_alike h one.rows other.rows (λ a. one.accepted.1 a ∙ sym (other.accepted.1 (rewritten_accepted h a))))

  -- of counting the pairs
  pub count_as_written : (r r' : Result ℕ Refused) → Counted s r → Counted t r' → r ≡ r'
  count_as_written r r' p q =
      let one = demand1_counted s r p in
      let other = demand1_counted t r' q in
      let same : length (pairs s) ≡ length (pairs t) = ap (length {A = Pair}) (sym (rewritten_list h)) in
      one_carrying r r'
      (refused_alike h one.rows other.rows
      (λ a. (one.counted (length (pairs s))).1 (a, refl) ∙ sym ((other.counted (length (pairs s))).1 (rewritten_accepted h a, same))))

module _ {s t : Scene} (h : Rewritten s t) (kind : Kind) (i j : ℕ) where
  -- a piece that is there is of a pair that is there
  there_first : (k : ℕ) → not_there s kind i j || leb (piece_count kind) k ≡ false → not_there s kind i j ≡ false
  there_first k = or_left (not_there s kind i j) (leb (piece_count kind) k)

  -- 5 and 6 decide alike, and so do the verdicts where the parts are well made
  asked_alike : {W : Type 0} {missing : Bool} {Is Be : W → Type 0} {o o' : Outcome W} → (missing ≡ false → not_there s kind i j ≡ false)
      → AskedTable s missing (shares s kind i j) Is o → AskedTable t missing (shares t kind i j) Be o'
      → ExactlyOne Is → (WellMade s kind i j → (v : W) → Is v ↔ Be v) → o ≡ o'
  asked_alike there p q one same =
      refused_alike h p.rows q.rows (λ a.
      answered_alike a (rewritten_accepted h a) p q (λ n. shares_alike h kind i j (there n)) one
      (λ n f. same (well_made a kind i j (there n))))

  -- of a pair asked for, and of a piece, in three words and in four
  pub pair_as_written : (r r' : Result Verdict Refusal) → PairJudged s kind i j r → PairJudged t kind i j r' → r ≡ r'
  pair_as_written r r' p q =
      one_alone r r'
      (asked_alike (λ n. n) (demand1_pair s kind i j r p) (rw (rewritten_not_there h kind i j) at (demand1_pair t kind i j r' q))
      (demand2_verdicts s kind i j).pair.one (rewritten_keeps_pairs h kind i j))

  pub piece_as_written : (k : ℕ) (r r' : Result Verdict Refusal) → PieceJudged s kind i j k r → PieceJudged t kind i j k r' → r ≡ r'
  piece_as_written k r r' p q =
      one_alone r r'
      (asked_alike (there_first k) (demand1_piece s kind i j k r p) (rw (rewritten_not_there h kind i j) at (demand1_piece t kind i j k r' q))
      ((demand2_verdicts s kind i j).pieces k).one (λ w. rewritten_keeps_pieces h kind i j w k))

  pub word_as_written : (r r' : Result Settled Refusal) → PairDecided s kind i j r → PairDecided t kind i j r' → r ≡ r'
  word_as_written r r' p q =
      one_alone r r'
      (asked_alike (λ n. n) (demand1_settled_pair s kind i j r p) (rw (rewritten_not_there h kind i j) at (demand1_settled_pair t kind i j r' q))
      (demand2_verdicts s kind i j).pair.one_word (rewritten_keeps_pair_words h kind i j))

  pub piece_word_as_written : (k : ℕ) (r r' : Result Settled Refusal) → PieceDecided s kind i j k r → PieceDecided t kind i j k r' → r ≡ r'
  piece_word_as_written k r r' p q =
      one_alone r r'
      (asked_alike (there_first k) (demand1_settled_piece s kind i j k r p) (rw (rewritten_not_there h kind i j) at (demand1_settled_piece t kind i j k r' q))
      ((demand2_verdicts s kind i j).pieces k).one_word (λ w. rewritten_keeps_words h kind i j w k))

-- ---- the same in the lent buffers

module _ {s t : Scene} (h : Rewritten s t) where
  -- 7 decides alike
  room_alike : (room : ℕ) (r r' : Result ℕ Refused) → Answers (list_checks s room) (λ n. n ≡ length (pairs s)) (outcome_of r)
      → Answers (list_checks t room) (λ n. n ≡ length (pairs t)) (outcome_of r') → r ≡ r'
  room_alike room r r' p q =
      let one = demand1_list s room (outcome_of r) p in
      let other = demand1_list t room (outcome_of r') q in
      let count : length (pairs t) ≡ length (pairs s) = ap (length {A = Pair}) (rewritten_list h) in
      one_carrying r r'
      (refused_alike h one.rows other.rows (λ a.
      let b = rewritten_accepted h a in
      holds_or_not (ltb room (length (pairs s)))
      (λ e. let over = ltb-true room (length (pairs s)) e in
      one.no7.1 (a, over) ∙ ap (refused 7) (sym count) ∙ sym (other.no7.1 (b, omega (arith, count))))
      (λ e. let fits = ltb-false room (length (pairs s)) e in
      (one.listed (length (pairs s))).1 (a, (fits, refl)) ∙ sym ((other.listed (length (pairs s))).1 (b, (omega (arith, count), sym count))))))

  -- of two list calls with the same lent buffer
  pub listing_as_written : (o o' o'' : List ℕ) (r r' : Result ℕ Refused) → Listing s o o' r → Listing t o o'' r' → (r ≡ r') × (o' ≡ o'')
  listing_as_written o o' o'' r r' p q =
      let list : pairs s ≡ pairs t = sym (rewritten_list h) in
      let same : r ≡ r' = room_alike (room_of o) r r' p.answer q.answer in
      (same, p.buffer ∙ (λ i. leaves (outcome_of (same i)) (entries (list i)) o) ∙ sym q.buffer)

  -- each pair of the list has the word that it has in the other scene
  words_alike : (ps : List Pair) → ((p : Pair) → Memᴰ p ps → WellMade s p.kind p.first p.second) → (ws : List Settled)
      → AllSettled t ps ws → AllSettled s ps ws
  unfolding AllSettled
  words_alike [] made [] j = tt
  words_alike [] made (w ∷ ws) j = absurd j
  words_alike (p ∷ ps) made [] j = absurd j
  words_alike (p ∷ ps) made (w ∷ ws) j = (
    (rewritten_keeps_pair_words h p.kind p.first p.second (made p (Memᴰ.head refl)) w).1 j.0,
    words_alike ps (λ q m. made q (Memᴰ.tail m)) ws j.1,
  )

  -- so the words of the one list are those of the other
  pub words_as_written : Accepted s → (ws : List Settled) → AllSettled t (pairs t) ws → AllSettled s (pairs s) ws
  words_as_written a ws k =
      words_alike (pairs s) (λ p m. well_made a p.kind p.first p.second (((list_is s).stands p).0 m).there) ws
      (subst (λ (ps : List Pair). AllSettled t ps ws) (rewritten_list h) k)

  one_words : Accepted s → (vs ws : List Settled) → AllSettled s (pairs s) vs → AllSettled t (pairs t) ws → vs ≡ ws
  one_words a vs ws j k = all_judged_one s (pairs s) vs ws j (words_as_written a ws k)

  -- and of two calls that list and judge, with the same two lent buffers
  pub judging_as_written : (o o' o'' b b' b'' : List ℕ) (r r' : Result ℕ Refused) → SettledScene s o o' b b' r → SettledScene t o o'' b b'' r'
      → (r ≡ r') × (o' ≡ o'') × (b' ≡ b'')
  judging_as_written o o' o'' b b' b'' r r' p q =
      let list : pairs s ≡ pairs t = sym (rewritten_list h) in
      let same : r ≡ r' = room_alike (min (room_of o) (length b)) r r' p.answer q.answer in (
        same,
        p.list ∙ (λ i. leaves (outcome_of (same i)) (entries (list i)) o) ∙ sym q.list,
        bytes same (outcome_of r) refl,
      )
    where
      bytes : r ≡ r' → (x : Outcome ℕ) → outcome_of r ≡ x → b' ≡ b''
      bytes same (given n) e =
          let words = one_words (((demand1_judging s o o' b b' r p).listed n).0 e).0 p.words q.words p.right q.right in
          p.bytes ∙ (λ i. leaves (outcome_of (same i)) (map byte_of (words i)) b) ∙ sym q.bytes
      bytes same (refused n c) e =
          (judging_unchanged s o o' b b' r p n c e).1 ∙ sym (judging_unchanged t o o'' b b'' r' q n c (ap outcome_of (sym same) ∙ e)).1
