-- What a scanner promises of a list that it reads: from a place on, a short list stands there, and it ends at the next place.
use Rattle.std.specs.Prelude.{List, [], ◌∷◌, ◌++◌, ◌≡◌, refl, ℕ, ◌+◌, ◌≤◌, ◌<◌, length, take, drop, get_or}
use Rattle.std.proofs.Common.{append_assoc, append-nil, ap, ◌∙◌, arith, length-append, length-drop, take-append-drop, drop-drop, get_or-drop, drop_at, length-take-le}
use Rattle.std.proofs.lemmas.List.{append_cancel_right}
use Rattle.std.proofs.Math.ListN.{get_or-append}
use Rattle.std.proofs.Math.Seq.{drop-append_seam, drop-length}
use Rattle.sequences.specs.Parts.{drop_next}
use Rattle.sequences.specs.Wrote.{Wrote}

module _ {ℓ} {A : Type ℓ} where
  -- in s, from the place n on, the list l stands, and m is the place behind it
  pub record Stands (s : List A) (n : ℕ) (l : List A) (m : ℕ) : Type ℓ where
    pub here : drop n s ≡ l ++ drop m s
    pub place : m ≡ n + length l

  pub stands_none : (s : List A) (n : ℕ) → Stands s n [] n
  stands_none s n = record { here = refl; place = omega arith }

  pub stands_one : (s : List A) (n : ℕ) (d : A) → n < length s → Stands s n (get_or s n d ∷ []) (n + 1)
  stands_one s n d h = record { here = drop_next s n d h; place = omega arith }

  pub stands_whole : (s : List A) → Stands s 0 s (length s)
  stands_whole s = record { here = cc (drop-length s, append-nil s); place = omega arith }

  pub stands_then : {s l k : List A} {n m p : ℕ} → Stands s n l m → Stands s m k p → Stands s n (l ++ k) p
  stands_then {s} {l} {k} {n} {m} {p} v w =
      record {
        here = cc (v.here, w.here, append_assoc l k (drop p s));
        place = omega (arith, v.place, w.place, length-append l k);
      }

  -- a list in front of what stands at a place stands there
  pub stands_from : (s : List A) (n : ℕ) (l k : List A) → drop n s ≡ l ++ k → Stands s n l (n + length l)
  stands_from s n l k e =
      record { here = cc (drop-drop (length l) n s, drop-append_seam l k); place = refl }

  pub stands_apart : {s : List A} {n p : ℕ} (l k : List A) → Stands s n (l ++ k) p
      → Stands s n l (n + length l) × Stands s (n + length l) k p
  stands_apart {s} {n} {p} l k w =
      let e : drop n s ≡ l ++ (k ++ drop p s) = w.here ∙ append_assoc l k (drop p s) in (
        stands_from s n l (k ++ drop p s) e,
        record {
          here = cc (drop-drop (length l) n s, drop-append_seam l (k ++ drop p s));
          place = omega (arith, w.place, length-append l k);
        },
      )

  -- one list stands between two places
  pub stands_unique : {s l k : List A} {n m : ℕ} → Stands s n l m → Stands s n k m → l ≡ k
  stands_unique {s} {l} {k} {n} {m} v w = append_cancel_right l k (drop m s) (cc (v.here, w.here))

  -- it lies inside, and it is read so
  pub stands_inside : {s l : List A} {n m : ℕ} → n ≤ length s → Stands s n l m → m ≤ length s
  stands_inside {s} {l} {n} {m} h w =
      omega (arith, w.place, simp (length-append, length-drop) at (ap length w.here))

  pub stands_inside_some : {s l : List A} {n m : ℕ} → 0 < length l → Stands s n l m → m ≤ length s
  stands_inside_some {s} {l} {n} {m} h w =
      omega (arith, w.place, simp (length-append, length-drop) at (ap length w.here))

  pub stands_at : {s l : List A} {n m : ℕ} (i : ℕ) (d : A) → Stands s n l m → i < length l → get_or s (n + i) d ≡ get_or l i d
  stands_at {s} {l} {n} {m} i d w h = cc (get_or-drop n s i d, w.here, get_or-append l (drop m s) d i h)

  -- what was written stands there
  pub wrote_stands : {o l o' : List A} {n m : ℕ} → n ≤ length o → Wrote o n l o' m → Stands o' n l m
  wrote_stands {o} {l} {o'} {n} {m} h w =
      record {
        here = cc (take-append-drop m o', w.front, append_assoc (take n o) l (drop m o'), drop_at (take n o) (l ++ drop m o') n (length-take-le n o h));
        place = w.place;
      }
