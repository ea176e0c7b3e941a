-- The pairs of a step, judged and told: those of a row, one row behind the other, and all of them.
use Rattle.std.specs.Prelude.{ℕ, ◌≤◌, ◌<◌, min, Bool, true, false, ◌≡◌, refl, ltb, drop, get_or, Err, Ok, Result}
use mathlib.Core.List.Memᴰ
use mathlib.Core.List.{List, [], ◌∷◌, ◌++◌, map, Memᴰ}
use Rattle.std.proofs.Common.{sym, ◌∙◌, subst, zero-add, arith, take_at}
use Rattle.std.proofs.Math.Path.{ap}
use Rattle.std.proofs.Math.ListN.{length}
use Rattle.sequences.specs.Gather.{gather_has}
use Rattle.sequences.specs.Mapped.{map_append}
use Rattle.sequences.specs.Rising.{at_place}
use Rattle.sequences.specs.Wrote.{written, written_length}
use Rattle.meaning.specs.Scene.{Scene, Accepted}
use Rattle.meaning.specs.Refusals.{Outcome, refused, number_of, not_there, Answers, outcome_of}
use Rattle.meaning.specs.List.{Pair, pairs, number, entries, room_of, leaves}
use Rattle.meaning.specs.SceneWords.{byte_of}
use Rattle.meaning.specs.declared.Kind.{Kind}
use Rattle.meaning.specs.declared.Kind.TheVariants.{PointTriangle, EdgeEdge}
use Rattle.meaning.specs.declared.Settled.{Settled}
use Rattle.list_entries.specs.Entries.{pair_of, AllNarrow, number_back}
use Rattle.list_entries.specs.UpTo.{Walked}
use Rattle.list_entries.proofs.UpTo.{walked_wrote, walked_length}
use Rattle.list_candidates.specs.Rows.{first_count, row_of, rows_of, pairs_rows, row_short, few_seconds}
use Rattle.list_pairs.specs.InOrder.{list_is}
use Rattle.list_pairs.specs.Sizes.{pairs_narrow}
use Rattle.list_pairs.specs.Answering.{IsCount}
use Rattle.list_words.specs.Listed.{word_of_pair, words_of, bytes_of, no_pair, pairs_in, AllThere, pairs_in_length, pairs_in_at, bytes_in_length, bytes_length, word_of_byte, byte_back}
use Rattle.list_words.specs.Answering.{SettledIn, MadeList, made_list, made_within, made_pairs}
use Rattle.meaning.specs.declared.SeriesTold.{SeriesTold}
use Rattle.series_words.specs.Telling.{words_in, Further, further_none, further_then}
use Rattle.meaning.specs.declared.Refused.{Refused}

-- these pairs of step n are told behind what was told, with the words that they have
pub record TellsPairs (s : Scene) (n : ℕ) (ps : List Pair) (t t' : SeriesTold) : Type 0 where
  pub further : Further n ps (words_of s ps) t t'

pub tells_none : (s : Scene) (n : ℕ) (t : SeriesTold) → TellsPairs s n [] t t
tells_none s n t = record { further = further_none n t }

pub tells_then : {s : Scene} {n : ℕ} {ps qs : List Pair} {t t₁ t₂ : SeriesTold} → TellsPairs s n ps t t₁ → TellsPairs s n qs t₁ t₂
    → TellsPairs s n (ps ++ qs) t t₂
tells_then {s} {n} {ps} {qs} {t} {t₁} {t₂} a b =
    record {
      further = subst (λ (ws : List Settled). Further n (ps ++ qs) ws t t₂) (sym (map_append (word_of_pair s) ps qs))
          (further_then a.further b.further);
    }

-- ---- a row stands in a buffer

module _ (s : Scene) (kind : Kind) (i : ℕ) (below : i < first_count s kind) where
  row_member : (p : Pair) → Memᴰ p (row_of s kind i) → Memᴰ p (rows_of s kind)
  row_member p m = gather_has (row_of s kind) (first_count s kind) i below m 0 (omega arith)

in_pairs : (s : Scene) (kind : Kind) (p : Pair) → Memᴰ p (rows_of s kind) → Memᴰ p (pairs s)
in_pairs s PointTriangle p m = subst (Memᴰ p) (sym (pairs_rows s)) (Memᴰ.append_left (rows_of s EdgeEdge) m)
in_pairs s EdgeEdge p m = subst (Memᴰ p) (sym (pairs_rows s)) (Memᴰ.append_right (rows_of s PointTriangle) m)

entries_back : (ps : List Pair) → AllNarrow ps → map pair_of (entries ps) ≡ ps
entries_back [] all = refl
entries_back (p ∷ ps) all =
    let here : pair_of (number p) ≡ p = number_back p (all p (Memᴰ.head refl)) in
    let rest : map pair_of (entries ps) ≡ ps = entries_back ps (λ q m. all q (Memᴰ.tail m)) in
    λ t. here t ∷ rest t

-- some of the listed pairs, no more than a row has, in front of a buffer
pub record InBuffer (s : Scene) (ps : List Pair) (n : ℕ) (l : List ℕ) : Type 0 where
  pub counts : n ≡ length ps
  pub few : n ≤ 1_024
  pub room : n ≤ length l
  pub pairs_are : pairs_in n l ≡ ps
  pub there : AllThere s n l

module _ (s : Scene) (kind : Kind) (i : ℕ) (a : Accepted s) (below : i < first_count s kind) {o o' : List ℕ} {m : ℕ}
    (w : Walked 1_024 o 0 (row_of s kind i) o' m) (long : length o ≡ 1_024) where
  pub row_buffered : InBuffer s (row_of s kind i) m o'
  row_buffered =
      let count : m ≡ length (row_of s kind i) = rw (zero-add (length (row_of s kind i))) at w.counts in
      let few : m ≤ 1_024 = omega (arith, row_short s kind i, few_seconds s kind a) in
      let same : length o' ≡ length o = walked_length w in
      let listed : (p : Pair) → Memᴰ p (row_of s kind i) → Memᴰ p (pairs s) = λ p k. in_pairs s kind p (row_member s kind i below p k) in
      let are : pairs_in m o' ≡ row_of s kind i =
      ap (map pair_of) (walked_wrote few (omega arith) w).front
      ∙ entries_back (row_of s kind i) (λ p k. pairs_narrow s a p (listed p k)) in
      let fits : m ≤ length o' = omega arith in
      record {
        counts = count;
        few = few;
        room = fits;
        pairs_are = are;
        there = λ k h.
            let inside : k < length (pairs_in m o') = rw (pairs_in_length m o' fits) h in
            let member : Memᴰ (get_or (pairs_in m o') k no_pair) (row_of s kind i) =
            subst (Memᴰ (get_or (pairs_in m o') k no_pair)) are (at_place (pairs_in m o') k no_pair inside) in
            subst (λ (q : Pair). not_there s q.kind q.first q.second ≡ false) (pairs_in_at m o' fits k h)
            (((list_is s).stands (get_or (pairs_in m o') k no_pair)).0 (listed (get_or (pairs_in m o') k no_pair) member)).there;
      }

-- ---- the words that were found for them

words_back : (ws : List Settled) → map word_of_byte (map byte_of ws) ≡ ws
words_back [] = refl
words_back (w ∷ ws) = λ t. byte_back w t ∷ words_back ws t

pub words_are : (s : Scene) (ps : List Pair) (n : ℕ) (b : List ℕ) → n ≡ length ps → words_in n (written (bytes_of s ps) b) ≡ words_of s ps
words_are s ps n b e =
    ap (map word_of_byte) (take_at (bytes_of s ps) (drop (length (bytes_of s ps)) b) n (bytes_length s ps ∙ sym e))
    ∙ words_back (words_of s ps)

-- told from the buffers
pub told_pairs : {s : Scene} {n k : ℕ} {ps : List Pair} (l b b' : List ℕ) {t t' : SeriesTold} → k ≡ length ps → pairs_in k l ≡ ps
    → b' ≡ written (bytes_of s ps) b → Further n (pairs_in k l) (words_in k b') t t' → TellsPairs s n ps t t'
told_pairs {s} {n} {k} {ps} l b b' {t} {t'} counts are bytes f =
    let words : words_in k b' ≡ words_of s ps = ap (words_in k) bytes ∙ words_are s ps k b counts in
    record {
      further = subst (λ (ws : List Settled). Further n ps ws t t') words
          (subst (λ (qs : List Pair). Further n qs (words_in k b') t t') are f);
    }

pub bytes_room : (s : Scene) (n : ℕ) (l b b' : List ℕ) → n ≤ length l → n ≤ length b → b' ≡ written (bytes_of s (pairs_in n l)) b → n ≤ length b'
bytes_room s n l b b' there room e =
    let long : length (bytes_of s (pairs_in n l)) ≡ n = bytes_in_length n l there s in
    let same : length b' ≡ length b = ap length e ∙ written_length (bytes_of s (pairs_in n l)) b (omega arith) in
    omega arith

pub buffered_told : {s : Scene} {n k : ℕ} {ps : List Pair} {l : List ℕ} {t t' : SeriesTold} (b b' : List ℕ) → InBuffer s ps k l
    → b' ≡ written (bytes_of s (pairs_in k l)) b → Further n (pairs_in k l) (words_in k b') t t' → TellsPairs s n ps t t'
buffered_told {s} {l} b b' h e f =
    told_pairs l b b' h.counts h.pairs_are (e ∙ ap (λ (qs : List Pair). written (bytes_of s qs) b) h.pairs_are) f

-- ---- all of them

carried : (h : Bool) (P : ℕ → Type 0) (m q n : ℕ) → Answers (record { number = 7; holds = h; carries = m } ∷ []) P (refused q n) → n ≡ m
unfolding Answers
carried true P m q n a = let e : ◌≡◌ {A = Outcome ℕ} (refused q n) (refused 7 m) = a in cc
carried false P m q n a = absurd a

pub rows_all : {s : Scene} {n : ℕ} {t t₁ t₂ : SeriesTold} → TellsPairs s n (rows_of s PointTriangle) t t₁ → TellsPairs s n (rows_of s EdgeEdge) t₁ t₂
    → TellsPairs s n (pairs s) t t₂
rows_all {s} {n} {t} {t₁} {t₂} a b = subst (λ (ps : List Pair). TellsPairs s n ps t t₂) (sym (pairs_rows s)) (tells_then a b)

module _ {s : Scene} {o o' b b' : List ℕ} {r : Result ℕ Refused} (j : SettledIn s (min (room_of o) (length b)) o o' b b' r) where
  -- a list that was made has all pairs, and its bytes their words
  pub settled_told : {m : ℕ} {n : ℕ} {t t' : SeriesTold} → Accepted s → r ≡ Ok m
      → Further n (pairs_in m o') (words_in m b') t t'
      → TellsPairs s n (pairs s) t t' × (m ≡ length (pairs s))
  unfolding outcome_of leaves
  settled_told {m} a e f =
      let made : MadeList s (min (room_of o) (length b)) o o' m = made_list j.list e in
      let bytes : b' ≡ written (bytes_of s (pairs s)) b = rw e at j.bytes in
      (told_pairs o' b b' made.counts (made_pairs a (omega arith) j.list e) bytes f, made.counts)

  -- one that had no room is as long as it says
  pub needed_is : {x : Refused} → r ≡ Err x → x.carries ≡ length (pairs s)
  unfolding outcome_of
  needed_is {x} e = carried (ltb (min (room_of o) (length b)) (length (pairs s))) (IsCount s) (length (pairs s)) (number_of x.why) x.carries (rw e at j.list.answer)

  pub settled_room : {m : ℕ} → Accepted s → r ≡ Ok m → (m ≤ length o') × (m ≤ length b')
  unfolding outcome_of leaves
  settled_room {m} a e =
      let made : MadeList s (min (room_of o) (length b)) o o' m = made_list j.list e in
      let bytes : b' ≡ written (bytes_of s (pairs s)) b = rw e at j.bytes in
      let long : length (bytes_of s (pairs s)) ≡ length (pairs s) = bytes_length s (pairs s) in
      let same : length b' ≡ length b = ap length bytes ∙ written_length (bytes_of s (pairs s)) b (omega (arith, made.fits)) in
      (made_within a (omega arith) j.list e, omega (arith, made.counts, made.fits))
