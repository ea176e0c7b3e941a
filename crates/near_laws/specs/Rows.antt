-- Near rows of a mesh are its rows without the far pairs, and these are neither hit nor touch: so for whoever asks for hits and touches alone, near rows
-- say what all rows say.
use Rattle.std.specs.Prelude.{ℕ, ◌+◌, Bool, ◌⊎◌, ◌≡◌}
use Rattle.std.proofs.Math.Bool.{true, false}
use Rattle.std.proofs.Common.{true≢false, inl, inr, ◌∙◌, subst, zero-add}
use mathlib.Core.List.Memᴰ
use mathlib.Core.List.{List, [], ◌∷◌, Memᴰ}
use Rattle.std.proofs.Math.Logic.{⊎_elim}
use Rattle.std.proofs.Math.Path.{refl, sym, ap}
use Rattle.std.proofs.lemmas.Bool.{not-false}
use Rattle.sequences.specs.Pick.{pick, either}
use Rattle.meaning.specs.Scene.{Scene}
use Rattle.meaning.specs.Boxes.{listed}
use Rattle.meaning.specs.Near.{far, near}
use Rattle.meaning.specs.List.{Pair}
use Rattle.meaning.specs.Report.{how_many, is_one}
use Rattle.meaning.specs.Resting.{PairSettled}
use Rattle.meaning.specs.SceneWords.{byte_of, AllSettled}
use Rattle.meaning.specs.MeshRows.{rows_in, wants_word, kept}
use Rattle.meaning.specs.declared.Kind.{Kind}
use Rattle.meaning.specs.declared.RowPairs.TheVariants.{Listed, Near}
use Rattle.meaning.specs.declared.Settled.{Settled}
use Rattle.meaning.specs.declared.Settled.TheVariants.{Hit, Miss, Touch, Apart}
use Rattle.meaning.specs.declared.Wanted.{Wanted}
use Rattle.corner_search.specs.Decided.{one_pair_word}
use Rattle.mesh_laws.specs.Near.{those, not_far, near_rows}
use Rattle.near_laws.specs.Far.{far_never_meets}

-- of a list those whose pair, which stands in the same place of another, is not far
unfoldable pub near_of : {A : Type 0} → Scene → List Pair → List A → List A
near_of s [] l = []
near_of s (p ∷ ps) [] = []
near_of s (p ∷ ps) (x ∷ l) = pick (not_far s p) (x ∷ near_of s ps l) (near_of s ps l)

-- the pairs themselves are those of the near rows
near_own : (s : Scene) (l : List Pair) → near_of s l l ≡ those (not_far s) l
unfolding near_of those
near_own s [] = refl
near_own s (p ∷ l) = ap (λ (k : List Pair). pick (not_far s p) (p ∷ k) k) (near_own s l)

-- ---- a far pair is neither hit nor touch, and so is a listed pair that is not near

pub far_left : (s : Scene) (kind : Kind) (i j : ℕ) → far s kind i j ≡ true → (w : Settled) → PairSettled s kind i j w → (w ≡ Miss) ⊎ (w ≡ Apart)
far_left s kind i j h Hit p = absurd ((far_never_meets s kind i j h).0 p)
far_left s kind i j h Miss p = inl refl
far_left s kind i j h Touch p = absurd ((far_never_meets s kind i j h).1 p)
far_left s kind i j h Apart p = inr refl

module _ (s : Scene) (kind : Kind) (i j : ℕ) where
  -- whoever meets is not far
  pub meeting_near : PairSettled s kind i j Hit ⊎ PairSettled s kind i j Touch → far s kind i j ≡ false
  meeting_near m =
      ⊎_elim
      (λ f. absurd (⊎_elim (far_never_meets s kind i j f).0 (far_never_meets s kind i j f).1 m))
      (λ e. e)
      (either (far s kind i j))

  -- so every hit and every touch of the list is near
  pub listed_near : listed s kind i j ≡ true → PairSettled s kind i j Hit ⊎ PairSettled s kind i j Touch → near s kind i j ≡ true
  listed_near l m = rw (l, meeting_near m)

  -- and what is listed and not near is miss or apart
  pub listed_not_near : listed s kind i j ≡ true → near s kind i j ≡ false → (w : Settled) → PairSettled s kind i j w → (w ≡ Miss) ⊎ (w ≡ Apart)
  listed_not_near l n =
      ⊎_elim
      (far_left s kind i j)
      (λ (e : far s kind i j ≡ false). absurd (true≢false (sym (rw (l, e)) ∙ n)))
      (either (far s kind i j))

-- ---- words of near rows

other : (v w : Settled) → (v ≡ Hit) ⊎ (v ≡ Touch) → (w ≡ Miss) ⊎ (w ≡ Apart) → is_one v w ≡ 0
unfolding is_one byte_of
other v w (inl e) (inl f) = rw (e, f)
other v w (inl e) (inr f) = rw (e, f)
other v w (inr e) (inl f) = rw (e, f)
other v w (inr e) (inr f) = rw (e, f)

module _ (s : Scene) where
  -- the words of the near pairs are those that stand with the near pairs
  pub near_words : (l : List Pair) (ws vs : List Settled) → AllSettled s l ws → AllSettled s (those (not_far s) l) vs → vs ≡ near_of s l ws
  unfolding AllSettled near_of those
  near_words [] ws [] a b = refl
  near_words [] ws (v ∷ vs) a b = absurd b
  near_words (p ∷ l) [] vs a b = absurd a
  near_words (p ∷ l) (w ∷ ws) vs a b = by (not_far s p) vs (λ us. near_words l ws us a.1) b
    where
      by : (f : Bool) (vs : List Settled) → ((us : List Settled) → AllSettled s (those (not_far s) l) us → us ≡ near_of s l ws)
          → AllSettled s (pick f (p ∷ those (not_far s) l) (those (not_far s) l)) vs → vs ≡ pick f (w ∷ near_of s l ws) (near_of s l ws)
      by false vs next b = next vs b
      by true [] next b = absurd b
      by true (v ∷ vs) next b =
          λ t. one_pair_word s p.kind p.first p.second v w b.0 a.0 t ∷ next vs b.1 t

  -- a pair that is left out
  left_far : (p : Pair) → not_far s p ≡ false → far s p.kind p.first p.second ≡ true
  left_far p e = not-false (far s p.kind p.first p.second) e

  module _ (m : Wanted) (no_miss : m.miss ≡ false) (no_apart : m.apart ≡ false) where
    -- far pairs are not asked for
    unwanted : (p : Pair) (w : Settled) → not_far s p ≡ false → PairSettled s p.kind p.first p.second w → wants_word m w ≡ false
    unfolding wants_word
    unwanted p w f h =
        ⊎_elim (λ e. rw e no_miss) (λ e. rw e no_apart) (far_left s p.kind p.first p.second (left_far p f) w h)

    kept_none : {A : Type 0} (vs : List Settled) → kept {A = A} m vs [] ≡ []
    unfolding kept
    kept_none [] = refl
    kept_none (v ∷ vs) = refl

    -- of anything that stands with the pairs
    pub near_kept : {A : Type 0} (l : List Pair) (ws : List Settled) (xs : List A) → AllSettled s l ws
        → kept m ws xs ≡ kept m (near_of s l ws) (near_of s l xs)
    unfolding AllSettled near_of kept
    near_kept [] [] xs a = refl
    near_kept [] (w ∷ ws) xs a = absurd a
    near_kept (p ∷ l) [] xs a = absurd a
    near_kept (p ∷ l) (w ∷ ws) [] a = sym (kept_none (near_of s (p ∷ l) (w ∷ ws)))
    near_kept (p ∷ l) (w ∷ ws) (x ∷ xs) a = by (not_far s p) refl (near_kept l ws xs a.1)
      where
        by : (f : Bool) → not_far s p ≡ f → kept m ws xs ≡ kept m (near_of s l ws) (near_of s l xs)
            → pick (wants_word m w) (x ∷ kept m ws xs) (kept m ws xs)
            ≡ kept m (pick f (w ∷ near_of s l ws) (near_of s l ws)) (pick f (x ∷ near_of s l xs) (near_of s l xs))
        by false e next = rw (unwanted p w e a.0) next
        by true e next = λ t. pick (wants_word m w) (x ∷ next t) (next t)

  -- as many are hits, and as many are touches
  module _ (v : Settled) (meets : (v ≡ Hit) ⊎ (v ≡ Touch)) where
    not_one : (p : Pair) (w : Settled) → not_far s p ≡ false → PairSettled s p.kind p.first p.second w → is_one v w ≡ 0
    not_one p w f h = other v w meets (far_left s p.kind p.first p.second (left_far p f) w h)

    pub near_how_many : (l : List Pair) (ws : List Settled) → AllSettled s l ws → how_many v ws ≡ how_many v (near_of s l ws)
    unfolding AllSettled near_of how_many
    near_how_many [] [] a = refl
    near_how_many [] (w ∷ ws) a = absurd a
    near_how_many (p ∷ l) [] a = absurd a
    near_how_many (p ∷ l) (w ∷ ws) a = by (not_far s p) refl (near_how_many l ws a.1)
      where
        by : (f : Bool) → not_far s p ≡ f → how_many v ws ≡ how_many v (near_of s l ws)
            → is_one v w + how_many v ws ≡ how_many v (pick f (w ∷ near_of s l ws) (near_of s l ws))
        by false e next = rw (not_one p w e a.0) (zero-add (how_many v ws) ∙ next)
        by true e next = ap (λ (n : ℕ). is_one v w + n) next

-- ---- the theorem: of a stretch with the words ws and of its near rows with the words vs the same is kept

pub record SaysTheSame (s : Scene) (m : Wanted) (a b : ℕ) (ws vs : List Settled) : Type 0 where
  pub pairs : kept m ws (rows_in Listed s a b) ≡ kept m vs (rows_in Near s a b)
  pub words : kept m ws ws ≡ kept m vs vs
  pub hits : how_many Hit ws ≡ how_many Hit vs
  pub touches : how_many Touch ws ≡ how_many Touch vs

pub near_says_the_same : (s : Scene) (m : Wanted) (a b : ℕ) {ws vs : List Settled} → m.miss ≡ false → m.apart ≡ false
    → AllSettled s (rows_in Listed s a b) ws → AllSettled s (rows_in Near s a b) vs → SaysTheSame s m a b ws vs
near_says_the_same s m a b {ws} {vs} no_miss no_apart all near =
    let l = rows_in Listed s a b in
    let only = near_rows s a b in
    let same = near_words s l ws vs all (subst (λ (k : List Pair). AllSettled s k vs) only near) in
    record {
      pairs = near_kept s m no_miss no_apart l ws l all ∙ λ t. kept m (sym same t) ((near_own s l ∙ sym only) t);
      words = near_kept s m no_miss no_apart l ws ws all ∙ λ t. kept m (sym same t) (sym same t);
      hits = near_how_many s Hit (inl refl) l ws all ∙ ap (how_many Hit) (sym same);
      touches = near_how_many s Touch (inr refl) l ws all ∙ ap (how_many Touch) (sym same);
    }

-- ---- pair by pair

module _ (s : Scene) where
  near_has : (l : List Pair) {p : Pair} → Memᴰ p l → far s p.kind p.first p.second ≡ false → Memᴰ p (those (not_far s) l)
  unfolding those
  near_has [] h f = absurd (Memᴰ.not-nil h)
  near_has (q ∷ l) {p} h f =
      ⊎_elim
      (λ same. let g : far s q.kind q.first q.second ≡ false = rw same at f in rw g (Memᴰ.head same))
      (λ later. by (not_far s q) (near_has l later f))
      (Memᴰ.cases_cons h)
    where
      by : (b : Bool) → Memᴰ p (those (not_far s) l) → Memᴰ p (pick b (q ∷ those (not_far s) l) (those (not_far s) l))
      by false m = m
      by true m = Memᴰ.tail m

  -- every hit and every touch of a stretch of rows stands in its near rows
  pub near_rows_have : (a b : ℕ) (p : Pair) → Memᴰ p (rows_in Listed s a b)
      → PairSettled s p.kind p.first p.second Hit ⊎ PairSettled s p.kind p.first p.second Touch → Memᴰ p (rows_in Near s a b)
  near_rows_have a b p m h =
      rw (near_rows s a b) (near_has (rows_in Listed s a b) m (meeting_near s p.kind p.first p.second h))

  -- and what stands in the rows and not in the near rows is miss or apart
  pub left_out_lem : (a b : ℕ) (p : Pair) → Memᴰ p (rows_in Listed s a b) → ¬ Memᴰ p (rows_in Near s a b)
      → (w : Settled) → PairSettled s p.kind p.first p.second w → (w ≡ Miss) ⊎ (w ≡ Apart)
  left_out_lem a b p m n =
      ⊎_elim
      (far_left s p.kind p.first p.second)
      (λ f. absurd (n (rw (near_rows s a b) (near_has (rows_in Listed s a b) m f))))
      (either (far s p.kind p.first p.second))
