-- What a writer promises of a buffer that it was lent: from a place on a list stands there, and nothing else has changed.
use Rattle.std.specs.Prelude.{List, [], ◌∷◌, ◌++◌, ◌≡◌, refl, ℕ, ◌+◌, ◌-◌, ◌≤◌, ◌<◌, length, take, drop, get_or, set}
use Rattle.std.proofs.Common.{append_assoc, append-nil, sym, ap, ◌∙◌, zero-add, add_assoc, arith, length-append, length-take, length-drop, length-set, take-append-drop, take_at, drop_at, length-take-le, get_or-append-add, get_or-drop}
use Rattle.std.proofs.Math.ListN.{get_or-append}
use Rattle.std.proofs.Math.Seq.{take-append_seam, drop-append_seam}
use Rattle.sequences.specs.Parts.{take_next_set, drop_next_set, drop_more}

module _ {ℓ} {A : Type ℓ} where
  -- the list l was written into the buffer o from the place n on: now the buffer is o', and m is the place behind l
  pub record Wrote (o : List A) (n : ℕ) (l : List A) (o' : List A) (m : ℕ) : Type ℓ where
    pub front : take m o' ≡ take n o ++ l
    pub back : drop m o' ≡ drop m o
    pub place : m ≡ n + length l
    pub same : length o' ≡ length o

  -- the buffer after that, computed
  abbrev pub patched : List A → ℕ → List A → List A
  patched o n l = take n o ++ (l ++ drop (n + length l) o)

  -- the list in front, and the rest of the buffer unchanged
  abbrev pub written : List A → List A → List A
  written l o = l ++ drop (length l) o

  pub wrote_is : {o l o' : List A} {n m : ℕ} → Wrote o n l o' m → o' ≡ patched o n l
  wrote_is {o} {l} {o'} {n} {m} w =
      cc (take-append-drop m o', w.front, w.back, w.place, append_assoc (take n o) l (drop m o))

  -- two buffers that one writing can leave are equal, and so are the places behind
  pub wrote_unique : {o l o' o'' : List A} {n m k : ℕ} → Wrote o n l o' m → Wrote o n l o'' k → (o' ≡ o'') × (m ≡ k)
  wrote_unique v w = (wrote_is v ∙ sym (wrote_is w), v.place ∙ sym w.place)

  -- at the front of a buffer
  pub wrote_front : {o l o' : List A} {m : ℕ} → Wrote o 0 l o' m → o' ≡ written l o
  wrote_front {l} w = rw (zero-add (length l)) at (wrote_is w)

  -- there was room for it
  pub wrote_room : {o l o' : List A} {n m : ℕ} → n ≤ length o → Wrote o n l o' m → m ≤ length o
  wrote_room {o} {l} {o'} {n} {m} h w =
      omega (arith, w.place, w.same, simp (length-append, length-take) at (ap length w.front))

  -- ---- how writings are made

  pub wrote_patched : (o : List A) (n : ℕ) (l : List A) → n + length l ≤ length o → Wrote o n l (patched o n l) (n + length l)
  wrote_patched o n l h =
      let ahead : length (take n o ++ l) ≡ n + length l =
      length-append (take n o) l ∙ ap (λ (k : ℕ). k + length l) (length-take-le n o (omega arith)) in
      rw (← append_assoc) (record {
        front = take_at (take n o ++ l) (drop (n + length l) o) (n + length l) ahead;
        back = drop_at (take n o ++ l) (drop (n + length l) o) (n + length l) ahead;
        place = refl;
        same = simp (length-append, length-take, length-drop) (omega arith);
      })

  pub wrote_none : (o : List A) (n : ℕ) → Wrote o n [] o n
  wrote_none o n = record { front = sym (append-nil (take n o)); back = refl; place = omega arith; same = refl }

  pub wrote_one : (o : List A) (n : ℕ) (a : A) → n < length o → Wrote o n (a ∷ []) (set o n a) (n + 1)
  wrote_one o n a h =
      record { front = take_next_set o n a h; back = drop_next_set o n a; place = omega arith; same = length-set o n a }

  pub wrote_then : {o l o' k o'' : List A} {n m p : ℕ} → Wrote o n l o' m → Wrote o' m k o'' p → Wrote o n (l ++ k) o'' p
  wrote_then {o} {l} {o'} {k} {o''} {n} {m} {p} v w =
      record {
        front = cc (w.front, v.front, append_assoc (take n o) l k);
        back = w.back ∙ drop_more p m o' o (omega (arith, w.place)) v.back;
        place = omega (arith, v.place, w.place, length-append l k);
        same = w.same ∙ v.same;
      }

  -- stores side by side, as code writes them
  pub wrote_two : (o : List A) (n : ℕ) (a b : A) → n + 1 < length o → Wrote o n (a ∷ b ∷ []) (set (set o n a) (n + 1) b) (n + 2)
  wrote_two o n a b h = rw (add_assoc n 1 1) at
      (wrote_then (wrote_one o n a (omega arith)) (wrote_one (set o n a) (n + 1) b (rw length-set h)))

  pub wrote_three : (o : List A) (n : ℕ) (a b c : A) → n + 2 < length o
      → Wrote o n (a ∷ b ∷ c ∷ []) (set (set (set o n a) (n + 1) b) (n + 2) c) (n + 3)
  wrote_three o n a b c h = rw (add_assoc n 2 1) at
      (wrote_then (wrote_two o n a b (omega arith)) (wrote_one (set (set o n a) (n + 1) b) (n + 2) c (simp length-set h)))

  -- three that are known to be those
  pub wrote_three_as : (o : List A) (n : ℕ) (x y z : A) {a b c : A} → a ≡ x → b ≡ y → c ≡ z → n + 2 < length o
      → Wrote o n (x ∷ y ∷ z ∷ []) (set (set (set o n a) (n + 1) b) (n + 2) c) (n + 3)
  wrote_three_as o n x y z p q r h = rw (p, q, r) (wrote_three o n x y z h)

  -- ---- the list in front

  module _ (l o : List A) where
    pub written_length : length l ≤ length o → length (written l o) ≡ length o
    written_length h = simp (length-append, length-drop) (omega arith)

    pub wrote_written : length l ≤ length o → Wrote o 0 l (written l o) (length l)
    wrote_written h =
        record {
          front = take-append_seam l (drop (length l) o);
          back = drop-append_seam l (drop (length l) o);
          place = sym (zero-add (length l));
          same = written_length h;
        }

    -- it is the one buffer that has the list in front and the old rest behind it
    pub written_unique : (o' : List A) → take (length l) o' ≡ l → drop (length l) o' ≡ drop (length l) o → o' ≡ written l o
    written_unique o' t d = cc (take-append-drop (length l) o')

    -- it is read so
    pub written_in_front : (i : ℕ) (d : A) → i < length l → get_or (written l o) i d ≡ get_or l i d
    written_in_front i d h = get_or-append l (drop (length l) o) d i h

    pub written_behind : (i : ℕ) (d : A) → length l ≤ i → get_or (written l o) i d ≡ get_or o i d
    written_behind i d h =
        let past : length l + (i - length l) ≡ i = omega arith in
        cc (get_or-append-add l (drop (length l) o) (i - length l) d, get_or-drop (length l) o (i - length l) d)
