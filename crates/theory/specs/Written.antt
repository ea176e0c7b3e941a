-- The order in which an edge's ends or a triangle's corners are written changes nothing: put in rising number they are the same.
use Rattle.std.specs.Prelude.{◌≡◌, ◌⊎◌, Bool, true, false, List, [], ◌∷◌, ℕ, ◌<◌, T}
use Rattle.std.proofs.Math.Path.{refl}
use Rattle.std.proofs.Common.{sym, ◌∙◌, ap, inl, inr, true≢false, arith, lt→ltb, ltb→lt, eqb→eq}
use Rattle.std.proofs.Math.Decide.{dec_lt}
use Rattle.std.proofs.Math.Dec.{eqb_refl}
use Rattle.meaning.specs.Scene.{Scene, edge_end, corner, counts_as, same, before, rising, among}
use Rattle.meaning.specs.declared.Ends.{Ends}
use Rattle.meaning.specs.declared.Corners.{Corners}
use Rattle.theory.specs.Bounds.{Every}
use Rattle.theory.specs.Determinants.{Exchanged, front, behind}
use Rattle.theory.specs.Rearranged.{Rearranged, unmoved, moved, every_exchanged}

-- as the scene writes them
abbrev pub ends_written : Scene → ℕ → List ℕ
ends_written s j = edge_end s j 0 ∷ edge_end s j 1 ∷ []

abbrev pub corners_written : Scene → ℕ → List ℕ
corners_written s j = corner s j 0 ∷ corner s j 1 ∷ corner s j 2 ∷ []

is_true : (b : Bool) → T b → b ≡ true
is_true true t = refl
is_true false t = absurd t

is_false : (b : Bool) → ¬ T b → b ≡ false
is_false true t = absurd (t tt)
is_false false t = refl

module _ (s : Scene) where
  -- a's number is lower than b's
  abbrev pub Lower : ℕ → ℕ → Type 0
  Lower a b = counts_as s a < counts_as s b

  pub before_lower : (a b : ℕ) → Lower a b → before s a b ≡ true
  before_lower a b h = is_true (before s a b) (lt→ltb (counts_as s a) (counts_as s b) h)

  pub before_higher : (a b : ℕ) → Lower a b → before s b a ≡ false
  before_higher a b h = is_false (before s b a) (λ t. let g = ltb→lt (counts_as s b) (counts_as s a) t in omega arith)

  pub lower_or_higher : (a b : ℕ) → same s a b ≡ false → Lower a b ⊎ Lower b a
  lower_or_higher a b h = go (dec_lt (counts_as s a) (counts_as s b)) (dec_lt (counts_as s b) (counts_as s a))
    where
      go : Dec (Lower a b) → Dec (Lower b a) → Lower a b ⊎ Lower b a
      go (yes l) d = inl l
      go (no l) (yes r) = inr r
      go (no l) (no r) =
          let e : counts_as s a ≡ counts_as s b = omega arith in
          absurd (true≢false (sym (is_true (same s a b) (rw e (eqb_refl (counts_as s b)))) ∙ h))

  pub same_either_way : (a b : ℕ) → same s a b ≡ same s b a
  same_either_way a b = go (same s a b) (same s b a) refl refl
    where
      too : (a b : ℕ) → same s a b ≡ true → same s b a ≡ true
      too a b h =
          let e : counts_as s a ≡ counts_as s b = eqb→eq (counts_as s a) (counts_as s b) (rw h tt) in
          is_true (same s b a) (rw e (eqb_refl (counts_as s b)))

      go : (c d : Bool) → same s a b ≡ c → same s b a ≡ d → same s a b ≡ same s b a
      go true d e f = e ∙ sym (too a b e)
      go false true e f = too b a f ∙ sym f
      go false false e f = e ∙ sym f

  -- ---- two ends

  pub rising_lower : (a b : ℕ) → Lower a b → rising s a b ≡ record { low = a; high = b }
  rising_lower a b h = rw (before_higher a b h)

  pub rising_higher : (a b : ℕ) → Lower a b → rising s b a ≡ record { low = a; high = b }
  rising_higher a b h = rw (before_lower a b h)

  pub rising_either_way : (a b : ℕ) → same s a b ≡ false → rising s a b ≡ rising s b a
  rising_either_way a b h = go (lower_or_higher a b h)
    where
      go : Lower a b ⊎ Lower b a → rising s a b ≡ rising s b a
      go (inl l) = rising_lower a b l ∙ sym (rising_higher a b l)
      go (inr l) = rising_higher b a l ∙ sym (rising_lower b a l)

  -- ---- three corners

  abbrev pub sorted : ℕ → ℕ → ℕ → Corners
  sorted x y z = record { low = x; middle = y; high = z }

  abbrev pub corners : ℕ → ℕ → ℕ → Corners
  corners a b c = among s (rising s a b) c

  -- whichever two come first, the third is put in its place
  module _ (x y z : ℕ) (p : Lower x y) (q : Lower y z) where
    pub far : Lower x z
    far = omega arith

    pub put_first : among s (record { low = y; high = z }) x ≡ sorted x y z
    put_first = rw (before_lower x y p)

    pub put_between : among s (record { low = x; high = z }) y ≡ sorted x y z
    put_between = rw (before_higher x y p, before_lower y z q)

    pub put_last : among s (record { low = x; high = y }) z ≡ sorted x y z
    put_last = rw (before_higher x z far, before_higher y z q)

    -- in all six orders
    pub record SixOrders : Type 0 where
      pub xyz : corners x y z ≡ sorted x y z
      pub yxz : corners y x z ≡ sorted x y z
      pub xzy : corners x z y ≡ sorted x y z
      pub zxy : corners z x y ≡ sorted x y z
      pub yzx : corners y z x ≡ sorted x y z
      pub zyx : corners z y x ≡ sorted x y z

    pub six_orders : SixOrders
    six_orders = record {
      xyz = ap (λ (e : Ends). among s e z) (rising_lower x y p) ∙ put_last;
      yxz = ap (λ (e : Ends). among s e z) (rising_higher x y p) ∙ put_last;
      xzy = ap (λ (e : Ends). among s e y) (rising_lower x z far) ∙ put_between;
      zxy = ap (λ (e : Ends). among s e y) (rising_higher x z far) ∙ put_between;
      yzx = ap (λ (e : Ends). among s e x) (rising_lower y z q) ∙ put_first;
      zyx = ap (λ (e : Ends). among s e x) (rising_higher y z q) ∙ put_first;
    }

  pub corners_exchanged : (a b c : ℕ) → same s a b ≡ false → same s b c ≡ false → same s a c ≡ false → (corners a b c ≡ corners b a c) × (corners a b c ≡ corners a c b)
  corners_exchanged a b c ab bc ac = go (lower_or_higher a b ab) (lower_or_higher b c bc) (lower_or_higher a c ac)
    where
      go : Lower a b ⊎ Lower b a → Lower b c ⊎ Lower c b → Lower a c ⊎ Lower c a → (corners a b c ≡ corners b a c) × (corners a b c ≡ corners a c b)
      go (inl p) (inl q) r = let o = six_orders a b c p q in (o.xyz ∙ sym o.yxz, o.xyz ∙ sym o.xzy)
      go (inl p) (inr q) (inl r) = let o = six_orders a c b r q in (o.xzy ∙ sym o.zxy, o.xzy ∙ sym o.xyz)
      go (inl p) (inr q) (inr r) = let o = six_orders c a b r p in (o.yzx ∙ sym o.zyx, o.yzx ∙ sym o.yxz)
      go (inr p) (inl q) (inl r) = let o = six_orders b a c p r in (o.yxz ∙ sym o.xyz, o.yxz ∙ sym o.yzx)
      go (inr p) (inl q) (inr r) = let o = six_orders b c a q r in (o.zxy ∙ sym o.xzy, o.zxy ∙ sym o.zyx)
      go (inr p) (inr q) r = let o = six_orders c b a q p in (o.zyx ∙ sym o.yzx, o.zyx ∙ sym o.zxy)

  -- ---- in any order

  -- no two of them count as the same vertex
  abbrev pub Different : List ℕ → Type 0
  Different [] = Unit {0}
  Different (a ∷ l) = Every (λ b. same s a b ≡ false) l × Different l

  pub different_exchanged : {k l : List ℕ} → Exchanged k l → Different k → Different l
  different_exchanged (front {a} {b}) d = ((same_either_way b a ∙ d.0.0, d.1.0), (d.0.1, d.1.1))
  different_exchanged (behind {a = a} e) d = (every_exchanged (λ b. same s a b ≡ false) e d.0, different_exchanged e d.1)

  pub different_rearranged : {k l : List ℕ} → Rearranged k l → Different k → Different l
  different_rearranged unmoved d = d
  different_rearranged (moved e r) d = different_rearranged r (different_exchanged e d)

  pub ends_in : List ℕ → Ends
  ends_in [] = record { low = 0; high = 0 }
  ends_in (a ∷ []) = record { low = 0; high = 0 }
  ends_in (a ∷ b ∷ []) = rising s a b
  ends_in (a ∷ b ∷ c ∷ l) = record { low = 0; high = 0 }

  pub ends_exchanged : (k l : List ℕ) → Exchanged k l → Different k → ends_in k ≡ ends_in l
  unfolding ends_in
  ends_exchanged k m (front {a} {b} {l = []}) d = rising_either_way a b d.0.0
  ends_exchanged k m (front {l = c ∷ l}) d = refl
  ends_exchanged k m (behind front) d = refl
  ends_exchanged k m (behind (behind front)) d = refl
  ends_exchanged k m (behind (behind (behind e))) d = refl

  pub corners_in : List ℕ → Corners
  corners_in [] = sorted 0 0 0
  corners_in (a ∷ []) = sorted 0 0 0
  corners_in (a ∷ b ∷ []) = sorted 0 0 0
  corners_in (a ∷ b ∷ c ∷ []) = corners a b c
  corners_in (a ∷ b ∷ c ∷ d ∷ l) = sorted 0 0 0

  pub corners_exchanged_in : (k l : List ℕ) → Exchanged k l → Different k → corners_in k ≡ corners_in l
  unfolding corners_in
  corners_exchanged_in k m (front {l = []}) d = refl
  corners_exchanged_in k m (front {a} {b} {l = c ∷ []}) d = (corners_exchanged a b c d.0.0 d.1.0.0 d.0.1.0).0
  corners_exchanged_in k m (front {l = c ∷ e ∷ l}) d = refl
  corners_exchanged_in k m (behind {a = a} (front {a = b} {b = c} {l = []})) d = (corners_exchanged a b c d.0.0 d.1.0.0 d.0.1.0).1
  corners_exchanged_in k m (behind (front {l = e ∷ l})) d = refl
  corners_exchanged_in k m (behind (behind front)) d = refl
  corners_exchanged_in k m (behind (behind (behind front))) d = refl
  corners_exchanged_in k m (behind (behind (behind (behind e)))) d = refl

  -- what does not change under exchanges of neighbours does not change in any other order
  pub rearranged_keeps : {B : Type 0} (f : List ℕ → B) → ((k l : List ℕ) → Exchanged k l → Different k → f k ≡ f l) → {k l : List ℕ} → Rearranged k l → Different k → f k ≡ f l
  rearranged_keeps f h unmoved d = refl
  rearranged_keeps f h (moved {l = k} {m = l} e r) d = h k l e d ∙ rearranged_keeps f h r (different_exchanged e d)

  pub ends_any_order : {a b c d : ℕ} → Rearranged (a ∷ b ∷ []) (c ∷ d ∷ []) → Different (a ∷ b ∷ []) → rising s a b ≡ rising s c d
  unfolding ends_in
  ends_any_order r h = rearranged_keeps ends_in ends_exchanged r h

  pub corners_any_order : {a b c d e f : ℕ} → Rearranged (a ∷ b ∷ c ∷ []) (d ∷ e ∷ f ∷ []) → Different (a ∷ b ∷ c ∷ []) → among s (rising s a b) c ≡ among s (rising s d e) f
  unfolding corners_in
  corners_any_order r h = rearranged_keeps corners_in corners_exchanged_in r h
