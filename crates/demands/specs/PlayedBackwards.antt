-- 'Played backwards' of document 02, for a scene without seams: 'swap start and end, number the vertices from last to first, and keep edges and
-- triangles in their places. Every corresponding pair must have the same verdict and the same place in or out of the list, as a set; the order within
-- the list may change. Show that the pieces of a pair are the same pieces under other numbers.'
use Rattle.std.specs.Prelude.{ℕ, ◌+◌, ◌-◌, ◌<◌, Bool, false, ◌||◌, ◌↔◌, ◌≡◌, refl, leb, length, Result}
use mathlib.Core.List.{List, [], ◌∷◌, map, Memᴰ}
use mathlib.Core.Logic.Iff
use Rattle.std.proofs.Common.{sym, ◌∙◌, ap, ap₂, subst, arith}
use Rattle.std.proofs.lemmas.Bool.{lt-leb}
use Rattle.std.proofs.lemmas.List.{length-map}
use Rattle.meaning.specs.Scene.{Scene, Accepted, vertex_count, edge_count, triangle_count, start_of, end_of}
use Rattle.meaning.specs.Pieces.{piece_of, piece_count}
use Rattle.meaning.specs.Verdicts.{PieceIs, PairIs}
use Rattle.meaning.specs.Resting.{PieceSettled, PairSettled, PairDecided, PieceDecided}
use Rattle.meaning.specs.Refusals.{Outcome, Check, Answers, not_there, shares, scene_checks, SceneChecked, PairJudged, PieceJudged, outcome_alone}
use Rattle.meaning.specs.Boxes.{listed}
use Rattle.meaning.specs.List.{Pair, pairs, Counted}
use Rattle.meaning.specs.SceneWords.{AllSettled}
use Rattle.meaning.specs.Report.{is_one, how_many, total_line}
use Rattle.meaning.specs.Backwards.{from_last, turned_round, first_turned, pair_turned, piece_turned, played_back}
use Rattle.meaning.specs.declared.Kind.{Kind}
use Rattle.meaning.specs.declared.Kind.TheVariants.{PointTriangle, EdgeEdge}
use Rattle.meaning.specs.declared.Verdict.{Verdict}
use Rattle.meaning.specs.declared.Settled.{Settled}
use Rattle.meaning.specs.declared.Settled.TheVariants.{Hit, Miss, Touch, Apart}
use Rattle.theory.specs.Determinants.{Exchanged, front, behind}
use Rattle.theory.specs.Rearranged.{Rearranged, unmoved, moved, also, rearranged_behind, exchanged_length}
use Rattle.turning_laws.specs.Numbers.{known_number, number_unknown}
use Rattle.turning_laws.specs.Turned.{turns_round, turned_twice}
use Rattle.turning_laws.specs.Pieces.{piece_there}
use Rattle.turning_laws.proofs.Pieces.{piece_turned_lem}
use Rattle.turning_laws.proofs.PairsTurned.{turned_keeps_pieces, turned_keeps_words, turned_keeps_pairs, turned_keeps_pair_words}
use Rattle.turning_laws.specs.Checked.{vertices_turned, edges_turned, triangles_turned, shape_turned, range_turned, unknown_turned, broken_turned, repeated_turned, checks_turned, accepted_turned}
use Rattle.turning_laws.specs.Listed.{Asked, shares_turned, boxes_turned, listed_turned, pairs_turned}
use Rattle.answers.specs.Below.{or_left}
use Rattle.list_pairs.specs.InOrder.{ToList, FirstBelow, are_there, list_is}
use Rattle.demands.specs.AnyWriting.{well_made}
use Rattle.demands.specs.Demand1.{AskedTable, demand1_counted, demand1_pair, demand1_piece, demand1_settled_pair, demand1_settled_piece}
use Rattle.demands.specs.Demand2.{ExactlyOne, demand2_verdicts}
use Rattle.demands.specs.Demand3.{vertices_there}
use Rattle.answers.specs.Speaking.{one_scene_answer, one_alone, one_carrying}
use Rattle.list_words.specs.OneResult.{all_judged_one}
use Rattle.demands.specs.SameAnswer.{answered_alike}
use Rattle.demands.specs.StillAccepted.{SameChecks, refused_as}
use Rattle.meaning.specs.declared.Refusal.{Refusal}
use Rattle.meaning.specs.declared.Refused.{Refused}

-- ---- one pair

-- the pair and the corresponding pair of the scene turned round, piece by piece and as a whole; the pieces are the same, the points of each simplex from
-- last to first and time 1 - t for t
pub record SameContacts (s : Scene) (kind : Kind) (i j : ℕ) : Type 0 where
  pub pieces : (k : ℕ) → k < piece_count kind
      → piece_of (turned_round s) kind (first_turned s kind i) j (piece_turned kind k) ≡ played_back (piece_of s kind i j k)
  pub piece_verdicts : (k : ℕ) → k < piece_count kind → (v : Verdict)
      → PieceIs (piece_of s kind i j k) v ↔ PieceIs (piece_of (turned_round s) kind (first_turned s kind i) j (piece_turned kind k)) v
  pub piece_words : (k : ℕ) → k < piece_count kind → (w : Settled)
      → PieceSettled (piece_of s kind i j k) w ↔ PieceSettled (piece_of (turned_round s) kind (first_turned s kind i) j (piece_turned kind k)) w
  pub verdict : (v : Verdict) → PairIs s kind i j v ↔ PairIs (turned_round s) kind (first_turned s kind i) j v
  pub word : (w : Settled) → PairSettled s kind i j w ↔ PairSettled (turned_round s) kind (first_turned s kind i) j w
  -- it is there, it shares a vertex where the pair does, and it is listed where the pair is
  pub there : not_there (turned_round s) kind (first_turned s kind i) j ≡ false
  pub sharing : shares (turned_round s) kind (first_turned s kind i) j ≡ shares s kind i j
  pub listing : listed (turned_round s) kind (first_turned s kind i) j ≡ listed s kind i j

there_turned : (s : Scene) (kind : Kind) (i j : ℕ) → not_there (turned_round s) kind (first_turned s kind i) j ≡ not_there s kind i j
unfolding not_there first_turned
there_turned s PointTriangle i j =
    ap₂ (λ m n. leb m (from_last (vertex_count s) i) || leb n j) (vertices_turned s) (triangles_turned s)
    ∙ ap (λ b. b || leb (triangle_count s) j) (number_unknown (vertex_count s) i)
there_turned s EdgeEdge i j = ap (λ n. leb n i || leb n j) (edges_turned s)

asked : {s : Scene} (a : Accepted s) (kind : Kind) (i j : ℕ) → not_there s kind i j ≡ false → Asked a kind i j
unfolding not_there Asked
asked {s} a PointTriangle i j h = are_there (vertex_count s) (triangle_count s) i j h
asked {s} a EdgeEdge i j h = are_there (edge_count s) (edge_count s) i j h

pub same_contacts : {s : Scene} → Accepted s → s.seams ≡ [] → (kind : Kind) (i j : ℕ) → not_there s kind i j ≡ false → SameContacts s kind i j
same_contacts {s} a unsewn kind i j h =
    let known = vertices_there a kind i j h in
    let made = well_made a kind i j h in
    let turns = turns_round s in
    record {
      pieces = piece_turned_lem turns unsewn kind i j known made;
      piece_verdicts = turned_keeps_pieces turns unsewn kind i j known made;
      piece_words = turned_keeps_words turns unsewn kind i j known made;
      verdict = turned_keeps_pairs turns unsewn kind i j known made;
      word = turned_keeps_pair_words turns unsewn kind i j known made;
      there = there_turned s kind i j ∙ h;
      sharing = shares_turned a unsewn kind i j (asked a kind i j h);
      listing = listed_turned a unsewn kind i j (asked a kind i j h);
    }

-- ---- the list, as a set

first_below : (s : Scene) (kind : Kind) (i j : ℕ) → FirstBelow kind (first_turned s kind i) j ↔ FirstBelow kind i j
unfolding FirstBelow first_turned
first_below s PointTriangle i j = (λ u. u, λ u. u)
first_below s EdgeEdge i j = (λ u. u, λ u. u)

to_list_turned : {s : Scene} → Accepted s → s.seams ≡ [] → (p : Pair) → ToList s p ↔ ToList (turned_round s) (pair_turned s p)
to_list_turned {s} a unsewn p = (
  λ l. record {
    there = there_turned s p.kind p.first p.second ∙ l.there;
    ordered = (first_below s p.kind p.first p.second).1 l.ordered;
    apart = shares_turned a unsewn p.kind p.first p.second (here l.there) ∙ l.apart;
    meet = boxes_turned a p.kind p.first p.second (here l.there) ∙ l.meet;
  },
  λ l.
      let h : not_there s p.kind p.first p.second ≡ false = sym (there_turned s p.kind p.first p.second) ∙ l.there in
      record {
        there = h;
        ordered = (first_below s p.kind p.first p.second).0 l.ordered;
        apart = sym (shares_turned a unsewn p.kind p.first p.second (here h)) ∙ l.apart;
        meet = sym (boxes_turned a p.kind p.first p.second (here h)) ∙ l.meet;
      },
)
  where
    here : not_there s p.kind p.first p.second ≡ false → Asked a p.kind p.first p.second
    here = asked a p.kind p.first p.second

pub same_list : {s : Scene} → Accepted s → s.seams ≡ [] → (p : Pair) → Memᴰ p (pairs s) ↔ Memᴰ (pair_turned s p) (pairs (turned_round s))
same_list {s} a unsewn p =
    Iff.trans ((list_is s).stands p) (Iff.trans (to_list_turned a unsewn p) (Iff.symm ((list_is (turned_round s)).stands (pair_turned s p))))

-- ---- the totals

-- the words of a list in another order
record InThatOrder (s : Scene) (l : List Pair) (ws : List Settled) : Type 0 where
  words : List Settled
  right : AllSettled s l words
  order : Rearranged ws words

exchanged_words : (s : Scene) {k l : List Pair} → Exchanged k l → (ws : List Settled) → AllSettled s k ws → InThatOrder s l ws
unfolding AllSettled
exchanged_words s front [] h = absurd h
exchanged_words s front (v ∷ []) h = absurd h.1
exchanged_words s front (v ∷ w ∷ ws) h =
    record { words = w ∷ v ∷ ws; right = (h.1.0, (h.0, h.1.1)); order = moved front unmoved }
exchanged_words s (behind e) [] h = absurd h
exchanged_words s (behind e) (v ∷ ws) h =
    let r = exchanged_words s e ws h.1 in
    record { words = v ∷ r.words; right = (h.0, r.right); order = rearranged_behind v r.order }

rearranged_words : (s : Scene) {k l : List Pair} → Rearranged k l → (ws : List Settled) → AllSettled s k ws → InThatOrder s l ws
rearranged_words s unmoved ws h = record { words = ws; right = h; order = unmoved }
rearranged_words s (moved e r) ws h =
    let one = exchanged_words s e ws h in
    let all = rearranged_words s r one.words one.right in
    record { words = all.words; right = all.right; order = also one.order all.order }

-- corresponding pairs have the same words
words_turned : {s : Scene} → Accepted s → s.seams ≡ [] → (ps : List Pair) → ((p : Pair) → Memᴰ p ps → not_there s p.kind p.first p.second ≡ false)
    → (ws : List Settled) → AllSettled s ps ws → AllSettled (turned_round s) (map (pair_turned s) ps) ws
unfolding AllSettled
words_turned a unsewn [] there [] h = h
words_turned a unsewn [] there (w ∷ ws) h = h
words_turned a unsewn (p ∷ ps) there [] h = h
words_turned a unsewn (p ∷ ps) there (w ∷ ws) h = (
  ((same_contacts a unsewn p.kind p.first p.second (there p (Memᴰ.head refl))).word w).0 h.0,
  words_turned a unsewn ps (λ q m. there q (Memᴰ.tail m)) ws h.1,
)

-- the totals of the report: listed, hits, misses, touch, apart
pub record SameTotals (ws ws' : List Settled) : Type 0 where
  pub order : Rearranged ws ws'
  pub listed : length ws ≡ length ws'
  pub each : (w : Settled) → how_many w ws ≡ how_many w ws'
  pub line : total_line ws ≡ total_line ws'

how_many_rearranged : (w : Settled) {k l : List Settled} → Rearranged k l → how_many w k ≡ how_many w l
unfolding how_many
how_many_rearranged w unmoved = refl
how_many_rearranged w (moved e r) = go e ∙ how_many_rearranged w r
  where
    go : {k l : List Settled} → Exchanged k l → how_many w k ≡ how_many w l
    go (front {a} {b} {l = l}) = omega arith
    go (behind {a = a} e) = ap (λ n. is_one w a + n) (go e)

as_many : {A : Type 0} {k l : List A} → Rearranged k l → length k ≡ length l
as_many unmoved = refl
as_many (moved e r) = exchanged_length e ∙ as_many r

same_totals : {ws ws' : List Settled} → Rearranged ws ws' → SameTotals ws ws'
same_totals {ws} {ws'} r =
    let n = as_many r in
    let each : (w : Settled) → how_many w ws ≡ how_many w ws' = λ w. how_many_rearranged w r in
    record { order = r; listed = n; each = each; line = rw (n, each Hit, each Miss, each Touch, each Apart) }

pub totals_turned : {s : Scene} → Accepted s → s.seams ≡ [] → (ws ws' : List Settled) → AllSettled s (pairs s) ws
    → AllSettled (turned_round s) (pairs (turned_round s)) ws' → SameTotals ws ws'
totals_turned {s} a unsewn ws ws' h k =
    let there : (p : Pair) → Memᴰ p (pairs s) → not_there s p.kind p.first p.second ≡ false = λ p m. (((list_is s).stands p).0 m).there in
    let moved = rearranged_words (turned_round s) (pairs_turned a unsewn) ws (words_turned a unsewn (pairs s) there ws h) in
    same_totals (subst (Rearranged ws) (all_judged_one (turned_round s) (pairs (turned_round s)) moved.words ws' moved.right k) moved.order)

-- ---- the theorem

pub record PlayedBackwards (s : Scene) : Type 0 where
  -- the scene turned round: vertex last - v starts where vertex v ended and ends where it started; turned twice it is the scene
  pub starts : (v : ℕ) → v < vertex_count s → start_of (turned_round s) (vertex_count s - 1 - v) ≡ end_of s v
  pub ends : (v : ℕ) → v < vertex_count s → end_of (turned_round s) (vertex_count s - 1 - v) ≡ start_of s v
  pub twice : turned_round (turned_round s) ≡ s
  -- it is refused with the number that the scene is refused with, and accepted exactly when the scene is
  pub checks : scene_checks (turned_round s) ≡ scene_checks s
  pub accepted : Accepted s ↔ Accepted (turned_round s)
  -- every corresponding pair has the same verdict and the same place in or out of the list
  pub contacts : Accepted s → (kind : Kind) (i j : ℕ) → not_there s kind i j ≡ false → SameContacts s kind i j
  -- the lists are the same as sets; the one is the other in another order, so that the totals are the same
  pub set : Accepted s → (p : Pair) → Memᴰ p (pairs s) ↔ Memᴰ (pair_turned s p) (pairs (turned_round s))
  pub list : Accepted s → Rearranged (map (pair_turned s) (pairs s)) (pairs (turned_round s))
  pub totals : Accepted s → (ws ws' : List Settled) → AllSettled s (pairs s) ws → AllSettled (turned_round s) (pairs (turned_round s)) ws' → SameTotals ws ws'

pub played_backwards : (s : Scene) → s.seams ≡ [] → PlayedBackwards s
played_backwards s unsewn = record {
  starts = λ v h. subst (λ w. start_of (turned_round s) w ≡ end_of s v) (known_number (vertex_count s) v h) ((turns_round s).starts v h);
  ends = λ v h. subst (λ w. end_of (turned_round s) w ≡ start_of s v) (known_number (vertex_count s) v h) ((turns_round s).ends v h);
  twice = turned_twice s;
  checks = checks_turned s unsewn;
  accepted = accepted_turned s unsewn;
  contacts = λ a. same_contacts a unsewn;
  set = λ a. same_list a unsewn;
  list = λ a. pairs_turned a unsewn;
  totals = λ a. totals_turned a unsewn;
}

-- ---- in answers, of calls that meet their promises

same_checks_turned : (s : Scene) → s.seams ≡ [] → SameChecks s (turned_round s)
same_checks_turned s unsewn = record {
  shape = shape_turned s;
  range = range_turned s;
  known = λ h. unknown_turned s;
  sewn = broken_turned s unsewn;
  repeated = repeated_turned s unsewn;
}

pub scene_played_back : (s : Scene) → s.seams ≡ [] → (r r' : Result (Unit {0}) Refusal) → SceneChecked s r → SceneChecked (turned_round s) r' → r ≡ r'
scene_played_back s unsewn r r' p q = one_scene_answer s r r' p (subst (λ (ks : List Check). Answers ks (λ t. Unit {0}) (outcome_alone r')) (checks_turned s unsewn) q)

pub count_played_back : (s : Scene) → s.seams ≡ [] → (r r' : Result ℕ Refused) → Counted s r → Counted (turned_round s) r' → r ≡ r'
count_played_back s unsewn r r' p q =
    let one = demand1_counted s r p in
    let other = demand1_counted (turned_round s) r' q in
    one_carrying r r'
    (refused_as (same_checks_turned s unsewn) one.rows other.rows (λ a.
    (one.counted (length (pairs s))).1 (a, refl) ∙ sym ((other.counted (length (pairs s))).1 ((accepted_turned s unsewn).0 a, as_long a))))
  where
    as_long : Accepted s → length (pairs s) ≡ length (pairs (turned_round s))
    as_long a = sym (length-map (pairs s) (pair_turned s)) ∙ as_many (pairs_turned a unsewn)

module _ (s : Scene) (unsewn : s.seams ≡ []) (kind : Kind) (i j : ℕ) where
  asked_alike : {W : Type 0} {missing : Bool} {Is Be : W → Type 0} {o o' : Outcome W} → (missing ≡ false → not_there s kind i j ≡ false)
      → AskedTable s missing (shares s kind i j) Is o → AskedTable (turned_round s) missing (shares (turned_round s) kind (first_turned s kind i) j) Be o'
      → ExactlyOne Is → (SameContacts s kind i j → (v : W) → Is v ↔ Be v) → o ≡ o'
  asked_alike there p q one same =
      refused_as (same_checks_turned s unsewn) p.rows q.rows (λ a.
      answered_alike a ((accepted_turned s unsewn).0 a) p q (λ n. (same_contacts a unsewn kind i j (there n)).sharing) one
      (λ n f. same (same_contacts a unsewn kind i j (there n))))

  pub pair_played_back : (r r' : Result Verdict Refusal) → PairJudged s kind i j r → PairJudged (turned_round s) kind (first_turned s kind i) j r' → r ≡ r'
  pair_played_back r r' p q =
      one_alone r r'
      (asked_alike (λ n. n) (demand1_pair s kind i j r p) (rw (there_turned s kind i j) at (demand1_pair (turned_round s) kind (first_turned s kind i) j r' q))
      (demand2_verdicts s kind i j).pair.one (λ c. c.verdict))

  pub word_played_back : (r r' : Result Settled Refusal) → PairDecided s kind i j r → PairDecided (turned_round s) kind (first_turned s kind i) j r' → r ≡ r'
  word_played_back r r' p q =
      one_alone r r'
      (asked_alike (λ n. n) (demand1_settled_pair s kind i j r p) (rw (there_turned s kind i j) at (demand1_settled_pair (turned_round s) kind (first_turned s kind i) j r' q))
      (demand2_verdicts s kind i j).pair.one_word (λ c. c.word))

  -- a piece that is there is piece `piece_turned kind k` of the corresponding pair
  module _ (k : ℕ) (below : k < piece_count kind) where
    pieces_there : not_there (turned_round s) kind (first_turned s kind i) j || leb (piece_count kind) (piece_turned kind k) ≡ not_there s kind i j || leb (piece_count kind) k
    pieces_there = ap₂ ◌||◌ (there_turned s kind i j) (lt-leb (piece_count kind) (piece_turned kind k) (piece_there kind k below) ∙ sym (lt-leb (piece_count kind) k below))

    pub piece_played_back : (r r' : Result Verdict Refusal) → PieceJudged s kind i j k r → PieceJudged (turned_round s) kind (first_turned s kind i) j (piece_turned kind k) r' → r ≡ r'
    piece_played_back r r' p q =
        one_alone r r'
        (asked_alike (or_left (not_there s kind i j) (leb (piece_count kind) k)) (demand1_piece s kind i j k r p)
        (rw pieces_there at (demand1_piece (turned_round s) kind (first_turned s kind i) j (piece_turned kind k) r' q))
        ((demand2_verdicts s kind i j).pieces k).one (λ c. c.piece_verdicts k below))

    pub piece_word_played_back : (r r' : Result Settled Refusal) → PieceDecided s kind i j k r → PieceDecided (turned_round s) kind (first_turned s kind i) j (piece_turned kind k) r' → r ≡ r'
    piece_word_played_back r r' p q =
        one_alone r r'
        (asked_alike (or_left (not_there s kind i j) (leb (piece_count kind) k)) (demand1_settled_piece s kind i j k r p)
        (rw pieces_there at (demand1_settled_piece (turned_round s) kind (first_turned s kind i) j (piece_turned kind k) r' q))
        ((demand2_verdicts s kind i j).pieces k).one_word (λ c. c.piece_words k below))
