-- The word of a piece and of a pair, computed: the corners left answer, and where they leave it open some corner is left out. Each piece and each
-- pair has exactly one of the four words, and it is this one.
use Prim.Native.Nat.{ℕ, zero, suc, ◌≤◌, ◌<◌}
use native.Mathlib.Omega.{arith}
use Rattle.std.specs.Prelude.{◌≡◌, ◌↔◌, ◌&&◌, List, T, ℤ, set}
use Rattle.std.proofs.Math.Path.{refl, subst}
use Rattle.std.proofs.Common.{sym, ◌∙◌, ap, length-append}
use Rattle.std.proofs.Math.Bool.{Bool, true, false}
use Rattle.meaning.specs.Scene.{Scene, some_below}
use Rattle.meaning.specs.Pieces.{Piece, piece_of, piece_count}
use Rattle.meaning.specs.Equations.{Touches}
use Rattle.meaning.specs.Verdicts.{PieceIs, SomePiece, PairIs}
use Rattle.meaning.specs.Resting.{PieceSettled, SomeSettled, PairSettled}
use Rattle.meaning.specs.declared.Kind.{Kind}
use Rattle.meaning.specs.declared.Verdict as Verdicts
use Rattle.meaning.specs.declared.Verdict.{Verdict}
use Rattle.meaning.specs.declared.Settled.{Settled}
use Rattle.meaning.specs.declared.Settled.TheVariants.{Hit, Miss, Touch, Apart}
use Rattle.theory.specs.Computed.{piece_verdict, pair_verdict}
use Rattle.theory.proofs.SevenPieces.{judged_piece}
use Rattle.theory.specs.OneVerdict.{one_piece_verdict}
use Rattle.theory.proofs.OneVerdict.{judged_pair}
use Rattle.corner_leaf.specs.declared.SixPoints.{SixPoints}
use Rattle.corner_leaf.specs.declared.Leaf.{Leaf}
use Rattle.corner_leaf.specs.declared.Leaf.TheVariants.{Yes, No, Open}
use Rattle.corner_laws.specs.Left.{fewer}
use Rattle.corner_laws.specs.Leave.{Leaves}
use Rattle.corner_leaf.specs.Points.{is_left, piece_at, TouchLeft, Timed, six_long}
use Rattle.corner_leaf.specs.Answer.{leaf_of}
use Rattle.corner_leaf.specs.Right.{LeafIs, leaf_is}
use Rattle.sequences.specs.Pick.{both}
use Rattle.answers.specs.Below.{found_below, none_passes}
use Rattle.corner_search.specs.Says.{is_yes, Tells}
use Rattle.corner_search.specs.Step.{count, less, set_out, put_back}
use Rattle.corner_search.specs.Settles.{every_left, every_left_is}
use Rattle.corner_search.specs.Sixes.{six_of, six_piece, six_timed}

never : true ≡ false → ⊥
never e = subst T e tt

one_not : (a b : Bool) → a && b ≡ false → a ≡ true → b ≡ false
one_not true b h e = h
one_not false b h e = absurd (never (sym e))

-- ---- whether there are weights for the points left, in at most n steps

unfoldable pub by_leaf : Leaf → Bool → Bool
by_leaf Yes r = true
by_leaf No r = false
by_leaf Open r = r

unfoldable pub touching : ℕ → List ℤ → SixPoints → List Bool → Bool
touching zero ps six left = is_yes (leaf_of ps six left)
touching (suc n) ps six left = by_leaf (leaf_of ps six left) (some_below 6 (λ i. is_left left i && touching n ps six (set left i false)))

module _ (ps : List ℤ) {six : SixPoints} (h : Timed six) where
  tells_leaf : (left : List Bool) (l : Leaf) → LeafIs ps six left l → (r : Bool) → (l ≡ Open → Tells ps six left r) → Tells ps six left (by_leaf l r)
  unfolding LeafIs by_leaf Tells
  tells_leaf left Yes is r rest = is
  tells_leaf left No is r rest = is
  tells_leaf left Open is r rest = rest refl

  -- a corner that can be left out is one of the six
  left_out_lem : (left : List Bool) (v : Leaves (piece_at ps six).first (piece_at ps six).second (is_left left)) → (v.place < 6) × TouchLeft ps six (set left v.place false)
  left_out_lem left v = (
    subst (λ n. v.place < n) (sym (length-append (piece_at ps six).first (piece_at ps six).second) ∙ six_long ps six) v.there,
    record { weights = fewer (λ j k. set_out left v.place j) v.touch },
  )

  opened : (left : List Bool) → leaf_of ps six left ≡ Open → TouchLeft ps six left → Leaves (piece_at ps six).first (piece_at ps six).second (is_left left)
  unfolding LeafIs
  opened left e = subst (LeafIs ps six left) e (leaf_is ps h left)

  tells : (n : ℕ) (left : List Bool) → count left ≤ n → Tells ps six left (touching n ps six left)
  unfolding touching LeafIs Tells
  tells zero left k = go (leaf_of ps six left) (leaf_is ps h left) refl
    where
      go : (l : Leaf) → LeafIs ps six left l → leaf_of ps six left ≡ l → Tells ps six left (is_yes l)
      go Yes is e = is
      go No is e = is
      go Open is e = λ t. let v = opened left e t in let m = less left v.place v.was in omega arith
  tells (suc n) left k = tells_leaf left (leaf_of ps six left) (leaf_is ps h left) _ (λ e. go (some_below 6 try) refl e (tells n))
    where
      try : ℕ → Bool
      try i = is_left left i && touching n ps six (set left i false)

      fewer_left : (i : ℕ) → is_left left i ≡ true → count (set left i false) ≤ n
      fewer_left i e = let m = less left i e in omega arith

      go : (r : Bool) → some_below 6 try ≡ r → leaf_of ps six left ≡ Open → ((l : List Bool) → count l ≤ n → Tells ps six l (touching n ps six l)) → Tells ps six left r
      go true p e below =
          let b = found_below try 6 p in
          let (was, rest) = both (is_left left b.which) _ b.passes in
          put_back left b.which (subst (Tells ps six (set left b.which false)) rest (below (set left b.which false) (fewer_left b.which was)))
      go false p e below = λ t.
          let v = opened left e t in
          let (there, less) = left_out_lem left v in
          let no = one_not (is_left left v.place) _ (none_passes try 6 p v.place there) v.was in
          subst (Tells ps six (set left v.place false)) no (below (set left v.place false) (fewer_left v.place v.was)) less

-- ---- the word of a piece

-- hit and miss stay; a degenerate one is touch or apart
unfoldable pub settled_by : Verdict → Bool → Settled
settled_by Verdicts.TheVariants.Hit t = Hit
settled_by Verdicts.TheVariants.Miss t = Miss
settled_by Verdicts.TheVariants.Degenerate true = Touch
settled_by Verdicts.TheVariants.Degenerate false = Apart

abbrev pub touching_piece : Scene → Kind → ℕ → ℕ → ℕ → Bool
touching_piece s kind i j k = touching 6 s.positions (six_of s kind i j k) every_left

unfoldable pub piece_word : Scene → Kind → ℕ → ℕ → ℕ → Settled
piece_word s kind i j k = settled_by (piece_verdict s kind i j k) (touching_piece s kind i j k)

unfoldable Decides : Piece → Bool → Type 0
Decides p true = Touches p
Decides p false = ¬ Touches p

module _ (s : Scene) (kind : Kind) (i j k : ℕ) where
  touching_decides : Decides (piece_of s kind i j k) (touching_piece s kind i j k)
  unfolding count Tells Decides
  touching_decides = subst (λ p. Decides p (touching_piece s kind i j k)) (six_piece s kind i j k) (go (touching_piece s kind i j k) (tells s.positions (six_timed s kind i j k) 6 every_left six_left))
    where
      six_left : count every_left ≤ 6
      six_left = omega arith

      go : (r : Bool) → Tells s.positions (six_of s kind i j k) every_left r → Decides (piece_at s.positions (six_of s kind i j k)) r
      go true t = (every_left_is s.positions (six_of s kind i j k)).0 t
      go false t = λ u. t ((every_left_is s.positions (six_of s kind i j k)).1 u)

  pub settled_piece : PieceSettled (piece_of s kind i j k) (piece_word s kind i j k)
  unfolding piece_word settled_by PieceSettled Decides
  settled_piece = go (piece_verdict s kind i j k) (touching_piece s kind i j k) (judged_piece s kind i j k) touching_decides
    where
      go : (v : Verdict) (t : Bool) → PieceIs (piece_of s kind i j k) v → Decides (piece_of s kind i j k) t → PieceSettled (piece_of s kind i j k) (settled_by v t)
      go Verdicts.TheVariants.Hit t h d = h
      go Verdicts.TheVariants.Miss t h d = h
      go Verdicts.TheVariants.Degenerate true h d = (h, d)
      go Verdicts.TheVariants.Degenerate false h d = (h, d)

-- the verdict that a word stands for
unfoldable pub verdict_of_word : Settled → Verdict
verdict_of_word Hit = Verdicts.TheVariants.Hit
verdict_of_word Miss = Verdicts.TheVariants.Miss
verdict_of_word Touch = Verdicts.TheVariants.Degenerate
verdict_of_word Apart = Verdicts.TheVariants.Degenerate

pub word_verdict : (p : Piece) (w : Settled) → PieceSettled p w → PieceIs p (verdict_of_word w)
unfolding PieceSettled verdict_of_word
word_verdict p Hit h = h
word_verdict p Miss h = h
word_verdict p Touch h = h.0
word_verdict p Apart h = h.0

pub one_piece_word : (p : Piece) (v w : Settled) → PieceSettled p v → PieceSettled p w → v ≡ w
unfolding PieceSettled verdict_of_word
one_piece_word p v w h k = go v w h k (one_piece_verdict p (verdict_of_word v) (verdict_of_word w) (word_verdict p v h) (word_verdict p w k))
  where
    go : (v w : Settled) → PieceSettled p v → PieceSettled p w → verdict_of_word v ≡ verdict_of_word w → v ≡ w
    go Hit Hit h k e = refl
    go Hit Miss h k e = let z : ◌≡◌ {A = ℕ} 0 1 = cc in absurd (omega arith)
    go Hit Touch h k e = let z : ◌≡◌ {A = ℕ} 0 1 = cc in absurd (omega arith)
    go Hit Apart h k e = let z : ◌≡◌ {A = ℕ} 0 1 = cc in absurd (omega arith)
    go Miss Hit h k e = let z : ◌≡◌ {A = ℕ} 0 1 = cc in absurd (omega arith)
    go Miss Miss h k e = refl
    go Miss Touch h k e = let z : ◌≡◌ {A = ℕ} 0 1 = cc in absurd (omega arith)
    go Miss Apart h k e = let z : ◌≡◌ {A = ℕ} 0 1 = cc in absurd (omega arith)
    go Touch Hit h k e = let z : ◌≡◌ {A = ℕ} 0 1 = cc in absurd (omega arith)
    go Touch Miss h k e = let z : ◌≡◌ {A = ℕ} 0 1 = cc in absurd (omega arith)
    go Touch Touch h k e = refl
    go Touch Apart h k e = absurd (k.1 h.1)
    go Apart Hit h k e = let z : ◌≡◌ {A = ℕ} 0 1 = cc in absurd (omega arith)
    go Apart Miss h k e = let z : ◌≡◌ {A = ℕ} 0 1 = cc in absurd (omega arith)
    go Apart Touch h k e = absurd (h.1 k.1)
    go Apart Apart h k e = refl

-- the word of a piece that is asked for: this one, and no other
pub piece_word_is : (s : Scene) (kind : Kind) (i j k : ℕ) (w : Settled) → PieceSettled (piece_of s kind i j k) w ↔ (w ≡ piece_word s kind i j k)
piece_word_is s kind i j k w = (
  λ h. one_piece_word (piece_of s kind i j k) w (piece_word s kind i j k) h (settled_piece s kind i j k),
  λ e. subst (PieceSettled (piece_of s kind i j k)) (sym e) (settled_piece s kind i j k),
)

-- ---- the word of a pair

unfoldable pub is_touch : Settled → Bool
is_touch Hit = false
is_touch Miss = false
is_touch Touch = true
is_touch Apart = false

unfoldable pub pair_word : Scene → Kind → ℕ → ℕ → Settled
pair_word s kind i j = settled_by (pair_verdict s kind i j) (some_below (piece_count kind) (λ k. is_touch (piece_word s kind i j k)))

is_touch_lem : (w : Settled) → is_touch w ≡ true → Touch ≡ w
unfolding is_touch
is_touch_lem Hit e = absurd (never (sym e))
is_touch_lem Miss e = absurd (never (sym e))
is_touch_lem Touch e = refl
is_touch_lem Apart e = absurd (never (sym e))

module _ (s : Scene) (kind : Kind) (i j : ℕ) where
  -- hit is the same word in both
  pub some_hit : SomePiece s kind i j Verdicts.TheVariants.Hit ↔ SomeSettled s kind i j Hit
  unfolding PieceSettled
  some_hit = (
    λ h. record { which = h.which; there = h.there; has = h.has },
    λ h. record { which = h.which; there = h.there; has = h.has },
  )

  unfoldable TouchTells : Bool → Type 0
  TouchTells true = SomeSettled s kind i j Touch
  TouchTells false = ¬ SomeSettled s kind i j Touch

  touch_tells : (r : Bool) → some_below (piece_count kind) (λ k. is_touch (piece_word s kind i j k)) ≡ r → TouchTells r
  unfolding TouchTells is_touch
  touch_tells true e =
      let b = found_below (λ k. is_touch (piece_word s kind i j k)) (piece_count kind) e in
      record { which = b.which; there = b.there; has = (piece_word_is s kind i j b.which Touch).1 (is_touch_lem (piece_word s kind i j b.which) b.passes) }
  touch_tells false e = λ h.
      never
      (ap is_touch ((piece_word_is s kind i j h.which Touch).0 h.has)
      ∙ none_passes (λ k. is_touch (piece_word s kind i j k)) (piece_count kind) e h.which h.there)

  pub settled_pair : PairSettled s kind i j (pair_word s kind i j)
  unfolding pair_word settled_by PairSettled PairIs TouchTells
  settled_pair = go (pair_verdict s kind i j) (some_below (piece_count kind) (λ k. is_touch (piece_word s kind i j k))) (judged_pair s kind i j) (touch_tells _ refl)
    where
      go : (v : Verdict) (t : Bool) → PairIs s kind i j v → TouchTells t → PairSettled s kind i j (settled_by v t)
      go Verdicts.TheVariants.Hit t h d = some_hit.0 h
      go Verdicts.TheVariants.Miss t h d = (λ k. h.0 (some_hit.1 k), h.1)
      go Verdicts.TheVariants.Degenerate true h d = (λ k. h.0 (some_hit.1 k), d)
      go Verdicts.TheVariants.Degenerate false h d = (λ k. h.0 (some_hit.1 k), d, h.1)

  -- a piece that touches is degenerate
  touch_degenerate : SomeSettled s kind i j Touch → SomePiece s kind i j Verdicts.TheVariants.Degenerate
  unfolding PieceSettled
  touch_degenerate h = record { which = h.which; there = h.there; has = h.has.0 }

  pub one_pair_word : (v w : Settled) → PairSettled s kind i j v → PairSettled s kind i j w → v ≡ w
  unfolding PairSettled
  one_pair_word Hit Hit h k = refl
  one_pair_word Hit Miss h k = absurd (k.0 h)
  one_pair_word Hit Touch h k = absurd (k.0 h)
  one_pair_word Hit Apart h k = absurd (k.0 h)
  one_pair_word Miss Hit h k = absurd (h.0 k)
  one_pair_word Miss Miss h k = refl
  one_pair_word Miss Touch h k = absurd (h.1 (touch_degenerate k.1))
  one_pair_word Miss Apart h k = absurd (h.1 k.2)
  one_pair_word Touch Hit h k = absurd (h.0 k)
  one_pair_word Touch Miss h k = absurd (k.1 (touch_degenerate h.1))
  one_pair_word Touch Touch h k = refl
  one_pair_word Touch Apart h k = absurd (k.1 h.1)
  one_pair_word Apart Hit h k = absurd (h.0 k)
  one_pair_word Apart Miss h k = absurd (k.1 h.2)
  one_pair_word Apart Touch h k = absurd (h.1 k.1)
  one_pair_word Apart Apart h k = refl

  -- the word of a pair: this one, and no other
  pub pair_word_is : (w : Settled) → PairSettled s kind i j w ↔ (w ≡ pair_word s kind i j)
  pair_word_is w = (
    λ h. one_pair_word w (pair_word s kind i j) h settled_pair,
    λ e. subst (PairSettled s kind i j) (sym e) settled_pair,
  )
