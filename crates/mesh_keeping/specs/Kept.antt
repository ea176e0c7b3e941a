-- Of a stretch of rows the pairs whose words are asked for: what each way out of the call gives.
use Rattle.std.specs.Prelude.{ℕ, ◌≤◌, ◌<◌, min, ◌≡◌, refl, length, Err, Ok, Result}
use mathlib.Core.List.{List, [], ◌∷◌}
use Rattle.std.proofs.Common.{sym, ◌∙◌, subst, arith, lt-ltb, le-ltb}
use Rattle.std.proofs.Math.Path.{ap}
use Rattle.sequences.specs.Wrote.{written, wrote_front}
use Rattle.meaning.specs.Scene.{Scene}
use Rattle.meaning.specs.Refusals.{given, refused, number_of, room_check, Answers, carrying, outcome_of}
use Rattle.meaning.specs.List.{leaves}
use Rattle.meaning.specs.MeshRows.{Lent, row_count, rows_in, kept, RowsKept}
use Rattle.meaning.specs.declared.KeptRows.{KeptRows}
use Rattle.meaning.specs.declared.Refusal.{Refusal}
use Rattle.meaning.specs.declared.Refusal.TheVariants.{NoRoom}
use Rattle.meaning.specs.declared.RowPairs.{RowPairs}
use Rattle.meaning.specs.declared.Wanted.{Wanted}
use Rattle.answers.specs.Answering.{refuses, lets_pass, gives}
use Rattle.scene_checks.specs.Facts.{Sound}
use Rattle.list_words.specs.Listed.{all_judged}
use Rattle.mesh_check_laws.specs.Facts.{mesh_sound}
use Rattle.mesh_entries.specs.Entering.{entered_wrote}
use Rattle.mesh_asked.specs.Asking.{RowsAsked, refused_first, passed_first}
use Rattle.mesh_list.specs.Answering.{told_by, open_told}
use Rattle.mesh_judged.specs.Judged.{row_words, kept_entries, kept_bytes, KeptTold, KeptInto, KeptOwn}
use Rattle.meaning.specs.declared.Refused.{Refused}

module _ (w : RowPairs) (m : Wanted) (s : Scene) (a b : ℕ) where
  abbrev many : ℕ
  many = length (kept m (row_words w s a b) (row_words w s a b))

  -- written where there is room for all of them; 7 else
  pub record StretchKept (room : ℕ) (o o' v v' : List ℕ) (r : Result KeptRows Refused) : Type 0 where
    pub answer : Answers (room_check room many ∷ []) (KeptTold w m s a b) (outcome_of r)
    pub list : o' ≡ leaves (outcome_of r) (kept_entries w m s a b) o
    pub bytes : v' ≡ leaves (outcome_of r) (kept_bytes w m s a b) v

  -- ---- 7, or all of them

  -- so many were judged, and these are written
  all_written : {room : ℕ} {o o' v v' : List ℕ} {t : KeptRows} → KeptTold w m s a b t → t.count ≤ room
      → o' ≡ written (kept_entries w m s a b) o
      → v' ≡ written (kept_bytes w m s a b) v
      → StretchKept room o o' v v' (Ok t)
  unfolding outcome_of leaves
  all_written {room} {t = t} counted h p q =
      let same : t.count ≡ many = ap (λ (u : KeptRows). u.count) counted in
      record {
        answer = lets_pass (KeptTold w m s a b) _ [] (given t) (le-ltb room many (omega arith)) (gives (KeptTold w m s a b) t counted);
        list = p;
        bytes = q;
      }

  module _ {most room : ℕ} {o v o₁ v₁ : List ℕ} {t : KeptRows} (k : KeptOwn w m s a b most room o v o₁ v₁ t) where
    pub kept_refused : room < t.count → StretchKept room o o₁ v v₁ (Err (carrying NoRoom t.count))
    unfolding outcome_of number_of leaves
    kept_refused h =
        let same : t.count ≡ many = ap (λ (u : KeptRows). u.count) k.counts in
        let stay = k.unchanged (omega arith) in
        record {
          answer = refuses (KeptTold w m s a b) _ [] (refused 7 t.count) (lt-ltb room many (omega arith)) (ap (refused 7) same);
          list = stay.0;
          bytes = stay.1;
        }

    pub kept_copied : t.count ≤ room → t.count ≤ most → StretchKept room o o₁ v v₁ (Ok t)
    kept_copied h g = let (p, q) = k.whole (omega arith) in all_written k.counts h p q

    -- judged once more, straight into the lent lists
    pub kept_again : {o' v' : List ℕ} {u : KeptRows} → t.count ≤ room → most < t.count → room ≤ length o → room ≤ length v
        → KeptInto w m s a b room o₁ v₁ o' v' u
        → StretchKept room o o' v v' (Ok u)
    kept_again {o'} {v'} {u} h g long wide n =
        let (p, q) = k.unchanged (omega arith) in
        let all : u.count ≡ t.count = ap (λ (x : KeptRows). x.count) (n.counts ∙ sym k.counts) in
        all_written n.counts (omega arith)
        (wrote_front (entered_wrote (omega arith) (omega (arith, ap length p)) n.list) ∙ ap (written (kept_entries w m s a b)) p)
        (wrote_front (entered_wrote (omega arith) (omega (arith, ap length q)) n.bytes) ∙ ap (written (kept_bytes w m s a b)) q)

-- ---- the answer of the whole call

module _ (w : RowPairs) (m : Wanted) (s : Scene) (l : Lent) (first end : ℕ) {t' : List ℕ} {asked : Result (Unit {0}) Refusal} (p : RowsAsked s l (row_count s) first end t' asked) where
  pub not_kept : (o b : List ℕ) (x : Refusal) → asked ≡ Err x
      → RowsKept w m s l first end o o b b (Err (carrying x 0))
  unfolding outcome_of leaves
  not_kept o b x e =
      record {
        words = row_words w s first end;
        right = all_judged s (rows_in w s first end);
        answer = refused_first p (KeptTold w m s first end) _ x e;
        list = refl;
        bytes = refl;
      }

  module _ (passed : asked ≡ Ok tt) where
    pub open_sound : Sound (told_by s t')
    open_sound = subst Sound (sym (open_told p passed)) (mesh_sound {s = s} (p.opened passed).accepted)

    pub rows_kept : {room : ℕ} {o o' b b' : List ℕ} {r : Result KeptRows Refused} → room ≡ min (length o) (length b)
        → StretchKept w m (told_by s t') first end room o o' b b' r
        → RowsKept w m s l first end o o' b b' r
    rows_kept {room} {o} {o'} {b} {b'} {r} smaller h =
        let here = subst (λ (n : Scene). StretchKept w m n first end room o o' b b' r) (open_told p passed) h in
        let k = subst (λ (n : ℕ). StretchKept w m s first end n o o' b b' r) smaller here in
        record {
          words = row_words w s first end;
          right = all_judged s (rows_in w s first end);
          answer = passed_first p (KeptTold w m s first end) _ (outcome_of r) passed k.answer;
          list = k.list;
          bytes = k.bytes;
        }
