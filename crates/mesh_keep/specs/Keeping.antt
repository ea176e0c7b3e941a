-- Pairs of a mesh judged one behind the other: all are counted by their words, and those whose word is asked for are entered, with it, while there is room.
use Rattle.std.specs.Prelude.{ℕ, suc, ◌+◌, ◌≤◌, Bool, true, false, ◌≡◌, refl, length}
use mathlib.Core.List.{List, [], ◌∷◌, ◌++◌, map}
use Rattle.std.proofs.Math.Path.{sym, ap}
use Rattle.std.proofs.Common.{◌∙◌, subst, arith}
use Rattle.std.proofs.lemmas.List.{length-map}
use Rattle.sequences.specs.Mapped.{map_append}
use Rattle.sequences.specs.Pick.{pick, pick_true, pick_false}
use Rattle.meaning.specs.Scene.{Scene}
use Rattle.meaning.specs.List.{Pair}
use Rattle.meaning.specs.Resting.{PairSettled}
use Rattle.meaning.specs.SceneWords.{byte_of}
use Rattle.meaning.specs.MeshRows.{mesh_number, mesh_entries, wants_word, kept}
use Rattle.meaning.specs.declared.Settled.{Settled}
use Rattle.meaning.specs.declared.Settled.TheVariants.{Hit, Miss, Touch, Apart}
use Rattle.meaning.specs.declared.Wanted.{Wanted}
use Rattle.corner_search.specs.Decided.{pair_word_is}
use Rattle.list_entries.specs.UpTo as up_to
use Rattle.list_words.specs.Listed.{word_of_pair, words_of, bytes_of}
use Rattle.mesh_entries.specs.Entering.{Entered, entered_none, entered_number, entered_then}
use Rattle.mesh_kept.specs.Totals.{tallied_all, tallied_append}
use Rattle.tally.specs.Tallied.{tallied}
use Rattle.tally.specs.declared.Tally.{Tally}
use Rattle.mesh_keep.specs.declared.Going.{Going}

pub wants_hit : (m : Wanted) {w : Settled} → w ≡ Hit → m.hit ≡ wants_word m w
unfolding wants_word
wants_hit m e = sym (ap (wants_word m) e)

pub wants_miss : (m : Wanted) {w : Settled} → w ≡ Miss → m.miss ≡ wants_word m w
unfolding wants_word
wants_miss m e = sym (ap (wants_word m) e)

pub wants_touch : (m : Wanted) {w : Settled} → w ≡ Touch → m.touch ≡ wants_word m w
unfolding wants_word
wants_touch m e = sym (ap (wants_word m) e)

pub wants_apart : (m : Wanted) {w : Settled} → w ≡ Apart → m.apart ≡ wants_word m w
unfolding wants_word
wants_apart m e = sym (ap (wants_word m) e)

-- of pairs those whose word is asked for
unfoldable pub kept_pairs : Scene → Wanted → List Pair → List Pair
kept_pairs s m [] = []
kept_pairs s m (p ∷ ps) = pick (wants_word m (word_of_pair s p)) (p ∷ kept_pairs s m ps) (kept_pairs s m ps)

pub kept_append : (s : Scene) (m : Wanted) (ps qs : List Pair) → kept_pairs s m (ps ++ qs) ≡ kept_pairs s m ps ++ kept_pairs s m qs
unfolding kept_pairs
kept_append s m [] qs = refl
kept_append s m (p ∷ ps) qs = front (wants_word m (word_of_pair s p)) (kept_append s m ps qs)
  where
    front : (t : Bool) → kept_pairs s m (ps ++ qs) ≡ kept_pairs s m ps ++ kept_pairs s m qs
        → pick t (p ∷ kept_pairs s m (ps ++ qs)) (kept_pairs s m (ps ++ qs)) ≡ pick t (p ∷ kept_pairs s m ps) (kept_pairs s m ps) ++ kept_pairs s m qs
    front true e = ap (λ (l : List Pair). p ∷ l) e
    front false e = e

-- that is meaning's
pub kept_is : (s : Scene) (m : Wanted) (ps : List Pair) → kept_pairs s m ps ≡ kept m (words_of s ps) ps
unfolding kept_pairs kept
kept_is s m [] = refl
kept_is s m (p ∷ ps) = ap (λ (l : List Pair). pick (wants_word m (word_of_pair s p)) (p ∷ l) l) (kept_is s m ps)

pub kept_words : (s : Scene) (m : Wanted) (ps : List Pair) → words_of s (kept_pairs s m ps) ≡ kept m (words_of s ps) (words_of s ps)
unfolding kept_pairs kept
kept_words s m [] = refl
kept_words s m (p ∷ ps) = front (wants_word m (word_of_pair s p)) (kept_words s m ps)
  where
    front : (t : Bool) → words_of s (kept_pairs s m ps) ≡ kept m (words_of s ps) (words_of s ps)
        → words_of s (pick t (p ∷ kept_pairs s m ps) (kept_pairs s m ps)) ≡ pick t (word_of_pair s p ∷ kept m (words_of s ps) (words_of s ps)) (kept m (words_of s ps) (words_of s ps))
    front true e = ap (λ (l : List Settled). word_of_pair s p ∷ l) e
    front false e = e

pub kept_few : (s : Scene) (m : Wanted) (ps : List Pair) → length (kept_pairs s m ps) ≤ length ps
unfolding kept_pairs
kept_few s m [] = omega arith
kept_few s m (p ∷ ps) = front (wants_word m (word_of_pair s p)) (kept_few s m ps)
  where
    front : (t : Bool) → length (kept_pairs s m ps) ≤ length ps → length (pick t (p ∷ kept_pairs s m ps) (kept_pairs s m ps)) ≤ suc (length ps)
    front true h = omega arith
    front false h = omega arith

-- ---- so far

pub record KeptBy (s : Scene) (m : Wanted) (most : ℕ) (ps : List Pair) (o v : List ℕ) (g : Going) (o' v' : List ℕ) (g' : Going) : Type 0 where
  pub tally : g'.tally ≡ tallied_all g.tally (words_of s ps)
  pub list : Entered most o g.count (mesh_entries (kept_pairs s m ps)) o' g'.count
  pub bytes : Entered most v g.count (bytes_of s (kept_pairs s m ps)) v' g'.count

pub kept_none : (s : Scene) (m : Wanted) (most : ℕ) (o v : List ℕ) (g : Going) → KeptBy s m most [] o v g o v g
unfolding tallied_all kept_pairs
kept_none s m most o v g = record { tally = refl; list = entered_none most o g.count; bytes = entered_none most v g.count }

pub kept_then : {s : Scene} {m : Wanted} {most : ℕ} {ps qs : List Pair} {o v o₁ v₁ o₂ v₂ : List ℕ} {g g₁ g₂ : Going} → KeptBy s m most ps o v g o₁ v₁ g₁
    → KeptBy s m most qs o₁ v₁ g₁ o₂ v₂ g₂
    → KeptBy s m most (ps ++ qs) o v g o₂ v₂ g₂
kept_then {s} {m} {most} {ps} {qs} {o} {v} {o₁} {v₁} {o₂} {v₂} {g} {g₁} {g₂} a b =
    record {
      tally =
          b.tally ∙ ap (λ (t : Tally). tallied_all t (words_of s qs)) a.tally
          ∙ sym (tallied_append g.tally (words_of s ps) (words_of s qs))
          ∙ ap (tallied_all g.tally) (sym (map_append (word_of_pair s) ps qs));
      list =
          subst (λ (ns : List ℕ). Entered most o g.count ns o₂ g₂.count)
          (sym (map_append mesh_number (kept_pairs s m ps) (kept_pairs s m qs)) ∙ ap mesh_entries (sym (kept_append s m ps qs)))
          (entered_then a.list b.list);
      bytes =
          subst (λ (ns : List ℕ). Entered most v g.count ns v₂ g₂.count)
          (sym (map_append byte_of (words_of s (kept_pairs s m ps)) (words_of s (kept_pairs s m qs)))
          ∙ ap (map byte_of) (sym (map_append (word_of_pair s) (kept_pairs s m ps) (kept_pairs s m qs)))
          ∙ ap (bytes_of s) (sym (kept_append s m ps qs)))
          (entered_then a.bytes b.bytes);
    }

pub kept_as : {s : Scene} {m : Wanted} {most : ℕ} {ps qs : List Pair} {o v o' v' : List ℕ} {g g' : Going} → ps ≡ qs → KeptBy s m most ps o v g o' v' g'
    → KeptBy s m most qs o v g o' v' g'
kept_as {s} {m} {most} {o = o} {v} {o'} {v'} {g} {g'} e k = subst (λ (rs : List Pair). KeptBy s m most rs o v g o' v' g') e k

-- no more are kept than there are
pub kept_bound : {s : Scene} {m : Wanted} {most : ℕ} {ps : List Pair} {o v o' v' : List ℕ} {g g' : Going} → KeptBy s m most ps o v g o' v' g' → g'.count ≤ g.count + length ps
kept_bound {s} {m} {most} {ps} k = omega (arith, k.list.counts, length-map (kept_pairs s m ps) mesh_number, kept_few s m ps)

-- ---- one pair

module _ (s : Scene) (m : Wanted) (p : Pair) (w : Settled) (is : PairSettled s p.kind p.first p.second w) {r : Bool} (made : r ≡ wants_word m w) where
  same : w ≡ word_of_pair s p
  same = (pair_word_is s p.kind p.first p.second w).0 is

  stays : r ≡ true → kept_pairs s m (p ∷ []) ≡ p ∷ []
  unfolding kept_pairs
  stays e = pick_true (p ∷ []) [] (ap (wants_word m) (sym same) ∙ sym made ∙ e)

  goes : r ≡ false → kept_pairs s m (p ∷ []) ≡ []
  unfolding kept_pairs
  goes e = pick_false (p ∷ []) [] (ap (wants_word m) (sym same) ∙ sym made ∙ e)

  one_told : (t : Tally) → tallied t w ≡ tallied_all t (words_of s (p ∷ []))
  unfolding tallied_all
  one_told t = ap (tallied t) same

  module _ (most : ℕ) (o v : List ℕ) (g : Going) {t' : Tally} (told : t' ≡ tallied g.tally w) where
    pub kept_yes : {o' v' : List ℕ} → r ≡ true → o' ≡ up_to.kept most g.count (mesh_number p) o → v' ≡ up_to.kept most g.count (byte_of w) v
        → KeptBy s m most (p ∷ []) o v g o' v' (record { count = g.count + 1; tally = t' })
    kept_yes {o'} {v'} e a b =
        record {
          tally = told ∙ one_told g.tally;
          list = subst (λ (ps : List Pair). Entered most o g.count (mesh_entries ps) o' (g.count + 1)) (sym (stays e)) (entered_number a);
          bytes =
              subst (λ (ps : List Pair). Entered most v g.count (bytes_of s ps) v' (g.count + 1)) (sym (stays e))
              (entered_number (b ∙ ap (λ (x : Settled). up_to.kept most g.count (byte_of x) v) same));
        }

    pub kept_no : r ≡ false → KeptBy s m most (p ∷ []) o v g o v (record { count = g.count; tally = t' })
    kept_no e =
        record {
          tally = told ∙ one_told g.tally;
          list = subst (λ (ps : List Pair). Entered most o g.count (mesh_entries ps) o g.count) (sym (goes e)) (entered_none most o g.count);
          bytes = subst (λ (ps : List Pair). Entered most v g.count (bytes_of s ps) v g.count) (sym (goes e)) (entered_none most v g.count);
        }
