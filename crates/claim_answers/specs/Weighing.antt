-- The numbers of a claim as they stand in a buffer: two places, the piece, six weights.
use Rattle.std.specs.Prelude.{Bool, false, List, [], ◌∷◌, ◌≡◌, refl, ℕ, suc, leb, ℤ, pos, nat_abs, length, get_or}
use Rattle.std.proofs.Common.{sym, ap, ◌∙◌, subst, arith}
use Rattle.std.proofs.Math.Nat.{suc_inj}
use Rattle.std.proofs.Math.ListN.{get_or-map}
use Rattle.answers.specs.Below.{or_left}
use Rattle.answers.specs.Answering.{is_given}
use Rattle.text_fields.specs.Tabbed.{sized_at}
use Rattle.meaning.specs.Scene.{Scene, Accepted}
use Rattle.meaning.specs.Pieces.{Piece, piece_of, piece_count}
use Rattle.meaning.specs.Refusals.{not_there}
use Rattle.meaning.specs.Claims.{Claim, piece_meant, AnswerIs}
use Rattle.meaning.specs.declared.Kind.{Kind}
use Rattle.corner_leaf.specs.declared.SixPoints.{SixPoints}
use Rattle.corner_leaf.specs.Points.{piece_at, SixIn}
use Rattle.corner_search.specs.Sixes.{six_of, six_piece}
use Rattle.scene_checks.specs.Facts.{accepted_sound}
use Rattle.four_words.specs.Six.{six_in}
use Rattle.claim_line.specs.Rendered.{numbers_in, nine_numbers}
use Rattle.claim_line.specs.Reading.{ClaimGot}
use Rattle.claim_line.specs.Stepping.{Took, Named, named}
use Rattle.sequences.specs.Parts.{none_of}

abbrev pub weights_from : List ℕ → List ℕ
weights_from l = get_or l 3 0 ∷ get_or l 4 0 ∷ get_or l 5 0 ∷ get_or l 6 0 ∷ get_or l 7 0 ∷ get_or l 8 0 ∷ []

first_of : (l : List ℕ) (n : ℕ) → length l ≡ suc n → (a : ℕ) × (k : List ℕ) × (l ≡ a ∷ k) × (length k ≡ n)
first_of [] n e = absurd (omega arith)
first_of (a ∷ l) n e = (a, l, refl, suc_inj e)

six_weights : (l : List ℕ) → length l ≡ 6 → l ≡ get_or l 0 0 ∷ get_or l 1 0 ∷ get_or l 2 0 ∷ get_or l 3 0 ∷ get_or l 4 0 ∷ get_or l 5 0 ∷ []
six_weights l n =
    let (a0, l0, e0, n0) = first_of l 5 n in
    let (a1, l1, e1, n1) = first_of l0 4 n0 in
    let (a2, l2, e2, n2) = first_of l1 3 n1 in
    let (a3, l3, e3, n3) = first_of l2 2 n2 in
    let (a4, l4, e4, n4) = first_of l3 1 n3 in
    let (a5, l5, e5, n5) = first_of l4 0 n4 in
    let all : l ≡ a0 ∷ a1 ∷ a2 ∷ a3 ∷ a4 ∷ a5 ∷ [] = cc (none_of l5 n5) in
    rw all refl

module _ (s : Scene) (text : List ℕ) (at : ℕ) (sizes : List ℕ) (minus : List Bool) {kind : Kind} {next : ℕ} where
  weights_are : (g : ClaimGot text at sizes minus kind next) → weights_from sizes ≡ g.claim.weights
  weights_are g =
      let ws : List ℕ = g.claim.weights in
      let zs : List ℤ = numbers_in g.claim in
      let nine : length zs ≡ 9 = nine_numbers g.claim g.formed in
      let w0 : get_or sizes 3 0 ≡ get_or ws 0 0 = sized_at zs sizes 3 g.front.sized (omega arith) ∙ ap nat_abs (get_or-map pos ws 0 0) in
      let w1 : get_or sizes 4 0 ≡ get_or ws 1 0 = sized_at zs sizes 4 g.front.sized (omega arith) ∙ ap nat_abs (get_or-map pos ws 1 0) in
      let w2 : get_or sizes 5 0 ≡ get_or ws 2 0 = sized_at zs sizes 5 g.front.sized (omega arith) ∙ ap nat_abs (get_or-map pos ws 2 0) in
      let w3 : get_or sizes 6 0 ≡ get_or ws 3 0 = sized_at zs sizes 6 g.front.sized (omega arith) ∙ ap nat_abs (get_or-map pos ws 3 0) in
      let w4 : get_or sizes 7 0 ≡ get_or ws 4 0 = sized_at zs sizes 7 g.front.sized (omega arith) ∙ ap nat_abs (get_or-map pos ws 4 0) in
      let w5 : get_or sizes 8 0 ≡ get_or ws 5 0 = sized_at zs sizes 8 g.front.sized (omega arith) ∙ ap nat_abs (get_or-map pos ws 5 0) in
      (λ i. w0 i ∷ w1 i ∷ w2 i ∷ w3 i ∷ w4 i ∷ w5 i ∷ []) ∙ sym (six_weights ws g.formed.six)

  -- the pair that the claim names is there
  pub claim_there : Took s text at sizes minus kind next → not_there s kind (get_or sizes 0 0) (get_or sizes 1 0) ≡ false
  claim_there t =
      let c : Claim = t.line.claim in
      let n : Named sizes c = named s text at sizes minus t.line in
      let (five, rest) = is_given (λ t. Unit {0}) _ _ tt t.good in
      let there : not_there s c.kind c.first c.second ≡ false =
      or_left (not_there s c.kind c.first c.second) (leb (piece_count c.kind) c.piece) five in
      let kind_is : kind ≡ c.kind = sym t.line.kinded in
      (λ i. not_there s (kind_is i) (n.first i) (n.second i)) ∙ there

  -- what is said of the numbers is said of the claim
  pub claim_answer : (g : ClaimGot text at sizes minus kind next) (b : Bool)
      → AnswerIs (piece_of s kind (get_or sizes 0 0) (get_or sizes 1 0) (get_or sizes 2 0)) (weights_from sizes) b
      → AnswerIs (piece_meant s g.claim) g.claim.weights b
  claim_answer g b h =
      let n : Named sizes g.claim = named s text at sizes minus g in
      let kind_is : kind ≡ g.claim.kind = sym g.kinded in
      let p : piece_of s kind (get_or sizes 0 0) (get_or sizes 1 0) (get_or sizes 2 0) ≡ piece_meant s g.claim =
      λ i. piece_of s (kind_is i) (n.first i) (n.second i) (n.piece i) in
      subst (λ (q : Piece). AnswerIs q g.claim.weights b) p
      (subst (λ (ws : List ℕ). AnswerIs (piece_of s kind (get_or sizes 0 0) (get_or sizes 1 0) (get_or sizes 2 0)) ws b) (weights_are g) h)

-- ---- the six points of the piece, and its weights

module _ (s : Scene) (kind : Kind) (i j k : ℕ) {six : SixPoints} (is : six ≡ six_of s kind i j k) where
  pub points_in : Accepted s → not_there s kind i j ≡ false → SixIn s.positions six
  points_in a e = subst (SixIn s.positions) (sym is) (six_in s (accepted_sound a) kind i j k e)

  pub points_answer : (ws : List ℕ) (b : Bool) → AnswerIs (piece_at s.positions six) ws b → AnswerIs (piece_of s kind i j k) ws b
  points_answer ws b h = subst (λ (p : Piece). AnswerIs p ws b) (ap (piece_at s.positions) is ∙ six_piece s kind i j k) h
