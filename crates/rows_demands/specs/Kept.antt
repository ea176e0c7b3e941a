-- Of a stretch of rows the pairs whose words are asked for: exactly these are kept, in the list's order, each with its entry and its word, and the totals are
-- those of the whole stretch. What is kept of neighbouring stretches, joined, is what is kept of the whole, and the totals add up: so threads and farms take
-- stretches.
use Rattle.std.specs.Prelude.{ℕ, suc, ◌+◌, ◌≤◌, ◌<◌, Bool, true, false, ◌↔◌, ◌≡◌, refl, length, get_or, Result}
use Rattle.std.proofs.Common.{true≢false, ⊎_elim, sym, ap, ◌∙◌, subst, arith, length-append}
use mathlib.Core.List.Memᴰ
use mathlib.Core.List.{List, [], ◌∷◌, ◌++◌, map, Memᴰ}
use Rattle.std.proofs.lemmas.List.{length-map}
use Rattle.sequences.specs.Lists.{Lists}
use Rattle.sequences.specs.Mapped.{map_at}
use Rattle.sequences.specs.Pick.{pick}
use Rattle.sequences.specs.Rising.{Rising}
use Rattle.meaning.specs.Scene.{Scene}
use Rattle.meaning.specs.Refusals.{given, outcome_of}
use Rattle.meaning.specs.List.{Pair, leaves}
use Rattle.meaning.specs.Report.{how_many}
use Rattle.meaning.specs.Resting.{PairSettled}
use Rattle.meaning.specs.SceneWords.{byte_of, AllSettled}
use Rattle.meaning.specs.MeshRows.{Lent, row_count, rows_in, mesh_number, mesh_entries, wants_word, kept, kept_told, RowsKept}
use Rattle.meaning.specs.declared.KeptRows.{KeptRows}
use Rattle.meaning.specs.declared.RowPairs.{RowPairs}
use Rattle.meaning.specs.declared.Settled.{Settled}
use Rattle.meaning.specs.declared.Settled.TheVariants.{Hit, Miss, Touch, Apart}
use Rattle.meaning.specs.declared.Wanted.{Wanted}
use Rattle.corner_search.specs.Decided.{pair_word_is}
use Rattle.list_pairs.specs.InOrder.{Earlier}
use Rattle.list_words.specs.Listed.{no_pair, word_of_pair, words_of, bytes_of, bytes_at, bytes_length}
use Rattle.list_words.specs.OneResult.{all_judged_one}
use Rattle.mesh_laws.specs.Rows.{stretches_joined}
use Rattle.rows_demands.specs.Refused.{RowsAsked}
use Rattle.rows_demands.specs.Demand1.{demand1_keep}
use Rattle.rows_demands.specs.Demand2.{rows_there, stands_in_front, byte_of_word}
use Rattle.rows_demands.specs.Stretches.{InStretch, stretch_is}
use Rattle.meaning.specs.declared.Refused.{Refused}

-- exactly those of a list whose word is asked for are kept
pub kept_members : (s : Scene) (m : Wanted) (l : List Pair) (ws : List Settled) → AllSettled s l ws → (p : Pair)
    → Memᴰ p (kept m ws l) ↔ (Memᴰ p l × (wants_word m (word_of_pair s p) ≡ true))
unfolding AllSettled kept
kept_members s m [] [] a p = (λ h. absurd (Memᴰ.not-nil h), λ h. absurd (Memᴰ.not-nil h.0))
kept_members s m [] (w ∷ ws) a p = absurd a
kept_members s m (q ∷ l) [] a p = absurd a
kept_members s m (q ∷ l) (w ∷ ws) a p =
    by (wants_word m w) refl ((pair_word_is s q.kind q.first q.second w).0 a.0) (kept_members s m l ws a.1 p)
  where
    by : (b : Bool) → wants_word m w ≡ b → w ≡ word_of_pair s q → Memᴰ p (kept m ws l) ↔ (Memᴰ p l × (wants_word m (word_of_pair s p) ≡ true))
        → Memᴰ p (pick b (q ∷ kept m ws l) (kept m ws l)) ↔ (Memᴰ p (q ∷ l) × (wants_word m (word_of_pair s p) ≡ true))
    by true e is next = (
      λ h.
          ⊎_elim
          (λ same. (Memᴰ.head same, rw same (ap (wants_word m) (sym is) ∙ e)))
          (λ later. let (k, t) = next.0 later in (Memᴰ.tail k, t))
          (Memᴰ.cases_cons h),
      λ h. ⊎_elim Memᴰ.head (λ later. Memᴰ.tail (next.1 (later, h.1))) (Memᴰ.cases_cons h.0),
    )
    by false e is next = (
      λ h. let (k, t) = next.0 h in (Memᴰ.tail k, t),
      λ h.
          ⊎_elim
          (λ same.
          let wanted : wants_word m (word_of_pair s q) ≡ true = rw same at h.1 in
          absurd (true≢false (sym wanted ∙ ap (wants_word m) (sym is) ∙ e)))
          (λ later. next.1 (later, h.1))
          (Memᴰ.cases_cons h.0),
    )

-- in order
kept_rises : (R : Pair → Pair → Type 0) (s : Scene) (m : Wanted) (l : List Pair) (ws : List Settled) → AllSettled s l ws → Rising R l → Rising R (kept m ws l)
unfolding AllSettled kept Rising
kept_rises R s m [] [] a r = tt
kept_rises R s m [] (w ∷ ws) a r = absurd a
kept_rises R s m (q ∷ l) [] a r = absurd a
kept_rises R s m (q ∷ l) (w ∷ ws) a r =
    by (wants_word m w) (λ p k. r.0 p ((kept_members s m l ws a.1 p).0 k).0) (kept_rises R s m l ws a.1 r.1)
  where
    by : (b : Bool) → ((p : Pair) → Memᴰ p (kept m ws l) → R q p) → Rising R (kept m ws l) → Rising R (pick b (q ∷ kept m ws l) (kept m ws l))
    by true first next = (first, next)
    by false first next = next

-- of a stretch
pub record WantedIn (w : RowPairs) (m : Wanted) (s : Scene) (first end : ℕ) (p : Pair) : Type 0 where
  pub stands : InStretch w s first end p
  pub wanted : wants_word m (word_of_pair s p) ≡ true

pub kept_is : (w : RowPairs) (m : Wanted) (s : Scene) (first end : ℕ) → end ≤ row_count s → (ws : List Settled) → AllSettled s (rows_in w s first end) ws
    → Lists Earlier (WantedIn w m s first end) (kept m ws (rows_in w s first end))
kept_is w m s first end h ws a =
    let is = stretch_is w s first end h in
    let told = kept_members s m (rows_in w s first end) ws a in
    record {
      stands = λ p. (
        λ k. let (n, t) = (told p).0 k in record { stands = (is.stands p).0 n; wanted = t },
        λ k. (told p).1 ((is.stands p).1 k.stands, k.wanted),
      );
      rising = kept_rises Earlier s m (rows_in w s first end) ws a is.rising;
    }

-- ---- what a call that keeps leaves

-- the words that are kept are those of the pairs that are kept
kept_judged : (s : Scene) (m : Wanted) (l : List Pair) (ws : List Settled) → AllSettled s l ws → kept m ws ws ≡ words_of s (kept m ws l)
unfolding AllSettled kept
kept_judged s m [] [] a = refl
kept_judged s m [] (w ∷ ws) a = absurd a
kept_judged s m (q ∷ l) [] a = absurd a
kept_judged s m (q ∷ l) (w ∷ ws) a =
    by (wants_word m w) ((pair_word_is s q.kind q.first q.second w).0 a.0) (kept_judged s m l ws a.1)
  where
    by : (b : Bool) → w ≡ word_of_pair s q → kept m ws ws ≡ words_of s (kept m ws l)
        → pick b (w ∷ kept m ws ws) (kept m ws ws) ≡ words_of s (pick b (q ∷ kept m ws l) (kept m ws l))
    by true is next = λ t. is t ∷ next t
    by false is next = next

-- the k-th pair that is kept has its entry and its word in the k-th place
pub record KeptAsDemanded (w : RowPairs) (m : Wanted) (s : Scene) (l : Lent) (first end : ℕ) (ws : List Settled) (o' b' : List ℕ) (t : KeptRows) : Type 0 where
  pub asked : RowsAsked s l (row_count s) first end
  pub exactly : Lists Earlier (WantedIn w m s first end) (kept m ws (rows_in w s first end))
  pub told : t ≡ kept_told m ws
  pub entry : (k : ℕ) → k < length (kept m ws (rows_in w s first end))
      → get_or o' k 0 ≡ mesh_number (get_or (kept m ws (rows_in w s first end)) k no_pair)
  pub word : (k : ℕ) → k < length (kept m ws (rows_in w s first end)) → (v : Settled)
      → (get_or b' k 0 ≡ byte_of v)
      ↔ PairSettled s (get_or (kept m ws (rows_in w s first end)) k no_pair).kind (get_or (kept m ws (rows_in w s first end)) k no_pair).first
      (get_or (kept m ws (rows_in w s first end)) k no_pair).second v

pub demand2_kept : (w : RowPairs) (m : Wanted) (s : Scene) (l : Lent) (first end : ℕ) (ws : List Settled) → AllSettled s (rows_in w s first end) ws
    → (o o' b b' : List ℕ) (r : Result KeptRows Refused) → RowsKept w m s l first end o o' b b' r → (t : KeptRows) → outcome_of r ≡ given t
    → KeptAsDemanded w m s l first end ws o' b' t
demand2_kept w m s l first end ws judged o o' b b' r p t e =
    let same = all_judged_one s (rows_in w s first end) p.words ws p.right judged in
    let (asked, (_, told)) = ((demand1_keep w m s l first end ws judged o o' b b' r p).table.gives t).0 e in
    let here = kept m ws (rows_in w s first end) in
    let list : o' ≡ leaves (outcome_of r) (mesh_entries here) o =
    p.list ∙ ap (λ (vs : List Settled). leaves (outcome_of r) (mesh_entries (kept m vs (rows_in w s first end))) o) same in
    let bytes : b' ≡ leaves (outcome_of r) (bytes_of s here) b =
    p.bytes
    ∙ ap (λ (vs : List Settled). leaves (outcome_of r) (map byte_of (kept m vs vs)) b) same
    ∙ ap (λ (vs : List Settled). leaves (outcome_of r) (map byte_of vs) b) (kept_judged s m (rows_in w s first end) ws judged) in
    record {
      asked = asked;
      exactly = kept_is w m s first end (rows_there asked).1 ws judged;
      told = told;
      entry = λ k h. stands_in_front e (mesh_entries here) o list k (rw (length-map here mesh_number) h) ∙ map_at mesh_number here k no_pair 0 h;
      word = λ k h.
          byte_of_word s (get_or here k no_pair) (get_or b' k 0)
          (stands_in_front e (bytes_of s here) b bytes k (rw (bytes_length s here) h) ∙ bytes_at s here k h);
    }

-- ---- neighbouring stretches joined

settled_joined : (s : Scene) (l k : List Pair) (ws vs : List Settled) → AllSettled s l ws → AllSettled s k vs → AllSettled s (l ++ k) (ws ++ vs)
unfolding AllSettled
settled_joined s [] k [] vs a b = b
settled_joined s [] k (w ∷ ws) vs a b = absurd a
settled_joined s (p ∷ l) k [] vs a b = absurd a
settled_joined s (p ∷ l) k (w ∷ ws) vs a b = (a.0, settled_joined s l k ws vs a.1 b)

kept_joined : {A : Type 0} (m : Wanted) (ws vs : List Settled) (l k : List A) → length ws ≡ length l → kept m (ws ++ vs) (l ++ k) ≡ kept m ws l ++ kept m vs k
unfolding kept
kept_joined m [] vs [] k e = refl
kept_joined m [] vs (x ∷ l) k e = absurd (omega (arith, e))
kept_joined m (w ∷ ws) vs [] k e = absurd (omega (arith, e))
kept_joined {A} m (w ∷ ws) vs (x ∷ l) k e = by (wants_word m w) (kept_joined m ws vs l k (omega (arith, e)))
  where
    by : (b : Bool) → kept m (ws ++ vs) (l ++ k) ≡ kept m ws l ++ kept m vs k
        → pick b (x ∷ kept m (ws ++ vs) (l ++ k)) (kept m (ws ++ vs) (l ++ k)) ≡ pick b (x ∷ kept m ws l) (kept m ws l) ++ kept m vs k
    by true next = ap (λ (r : List A). x ∷ r) next
    by false next = next

counted_joined : (v : Settled) (ws us : List Settled) → how_many v (ws ++ us) ≡ how_many v ws + how_many v us
unfolding how_many
counted_joined v [] us = omega arith
counted_joined v (w ∷ ws) us = omega (arith, counted_joined v ws us)

judged_length : (s : Scene) (l : List Pair) (ws : List Settled) → AllSettled s l ws → length ws ≡ length l
unfolding AllSettled
judged_length s [] [] a = refl
judged_length s [] (w ∷ ws) a = absurd a
judged_length s (p ∷ l) [] a = absurd a
judged_length s (p ∷ l) (w ∷ ws) a = ap (λ (n : ℕ). suc n) (judged_length s l ws a.1)

-- totals that are the sums of two
pub record AddUp (t u v : KeptRows) : Type 0 where
  pub counts : v.count ≡ t.count + u.count
  pub listeds : v.listed ≡ t.listed + u.listed
  pub hits : v.hits ≡ t.hits + u.hits
  pub misses : v.misses ≡ t.misses + u.misses
  pub touches : v.touches ≡ t.touches + u.touches
  pub aparts : v.aparts ≡ t.aparts + u.aparts

pub record Joined (w : RowPairs) (m : Wanted) (s : Scene) (a b c : ℕ) (ws vs xs : List Settled) : Type 0 where
  pub pairs : kept m xs (rows_in w s a c) ≡ kept m ws (rows_in w s a b) ++ kept m vs (rows_in w s b c)
  pub words : kept m xs xs ≡ kept m ws ws ++ kept m vs vs
  pub totals : AddUp (kept_told m ws) (kept_told m vs) (kept_told m xs)

-- what is kept of the rows from a to b and of those from b to c, joined, is what is kept of those from a to c
pub stretches_kept : (w : RowPairs) (m : Wanted) (s : Scene) (a b c : ℕ) → a ≤ b → b ≤ c → (ws vs xs : List Settled) → AllSettled s (rows_in w s a b) ws
    → AllSettled s (rows_in w s b c) vs → AllSettled s (rows_in w s a c) xs → Joined w m s a b c ws vs xs
stretches_kept w m s a b c h k ws vs xs p q r =
    let front = rows_in w s a b in
    let back = rows_in w s b c in
    let rows = stretches_joined w s a b c h k in
    let whole = subst (λ (l : List Pair). AllSettled s l (ws ++ vs)) rows (settled_joined s front back ws vs p q) in
    let same : xs ≡ ws ++ vs = all_judged_one s (rows_in w s a c) xs (ws ++ vs) r whole in
    let words : kept m xs xs ≡ kept m ws ws ++ kept m vs vs = rw same (kept_joined m ws vs ws vs refl) in
    record {
      pairs = rw (same, ← rows) (kept_joined m ws vs front back (judged_length s front ws p));
      words = words;
      totals =
          record {
            counts = ap length words ∙ length-append (kept m ws ws) (kept m vs vs);
            listeds = ap length same ∙ length-append ws vs;
            hits = ap (how_many Hit) same ∙ counted_joined Hit ws vs;
            misses = ap (how_many Miss) same ∙ counted_joined Miss ws vs;
            touches = ap (how_many Touch) same ∙ counted_joined Touch ws vs;
            aparts = ap (how_many Apart) same ∙ counted_joined Apart ws vs;
          };
    }
