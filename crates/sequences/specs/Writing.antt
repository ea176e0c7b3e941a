-- The invariant of a loop that writes: what stands in the buffer, with what is left to write, is what is wanted. One record for a loop
-- that goes up, one for a loop that goes down.
use Rattle.std.specs.Prelude.{List, [], ◌∷◌, ◌++◌, ◌≡◌, refl, ℕ, ◌+◌, ◌-◌, ◌≤◌, ◌<◌, length, take, drop, set}
use Rattle.std.proofs.Common.{append_assoc, append-nil, sym, ap, ◌∙◌, arith, length-append, length-take, length-set, take-append-drop, length-take-le, take-add, drop-drop}
use Rattle.std.proofs.lemmas.List.{take-set-le}
use Rattle.std.proofs.Math.Seq.{take-append_seam, drop-append_seam}
use Rattle.sequences.specs.Parts.{take_less, drop_more, drop_set_here}
use Rattle.sequences.specs.Wrote.{Wrote, wrote_one, written}

module _ {ℓ} {A : Type ℓ} where
  -- ---- going up

  -- the buffer was o₀ and is o: up to the place n, with rest behind it, it is what is wanted, and from n on it has not changed
  pub record Writing (o₀ want o : List A) (n : ℕ) (rest : List A) : Type ℓ where
    pub done : take n o ++ rest ≡ want
    pub back : drop n o ≡ drop n o₀
    pub same : length o ≡ length o₀
    pub room : n + length rest ≤ length o

  pub writing_starts : (o : List A) (n : ℕ) (l : List A) → n + length l ≤ length o → Writing o (take n o ++ l) o n l
  writing_starts o n l h = record { done = refl; back = refl; same = refl; room = h }

  -- at the front of the buffer, where what is wanted is the list itself
  pub writing_starts_front : (o l : List A) → length l ≤ length o → Writing o l o 0 l
  writing_starts_front o l h = record { done = refl; back = refl; same = refl; room = omega arith }

  module _ {o₀ want o : List A} {n : ℕ} where
    -- where something is left there is room for it
    pub writing_room : {a : A} {rest : List A} → Writing o₀ want o n (a ∷ rest) → n < length o
    writing_room w = omega (arith, w.room)

    pub writing_room_for : (l rest : List A) → Writing o₀ want o n (l ++ rest) → n + length l ≤ length o
    writing_room_for l rest w = omega (arith, w.room, length-append l rest)

    -- a writer has written the first part of what is left
    pub writing_steps : {l rest o' : List A} {m : ℕ} → Writing o₀ want o n (l ++ rest) → Wrote o n l o' m → Writing o₀ want o' m rest
    writing_steps {l} {rest} {o'} {m} w v =
        record {
          done = cc (v.front, w.done, append_assoc (take n o) l rest);
          back = v.back ∙ drop_more m n o o₀ (omega (arith, v.place)) w.back;
          same = v.same ∙ w.same;
          room = omega (arith, v.place, v.same, w.room, length-append l rest);
        }

    -- a store has written its first element
    pub writing_step : {a : A} {rest : List A} → Writing o₀ want o n (a ∷ rest) → Writing o₀ want (set o n a) (n + 1) rest
    writing_step {a} {rest} w = writing_steps {l = a ∷ []} w (wrote_one o n a (writing_room w))

    -- what is left, said in another way
    pub writing_as : {rest other : List A} → rest ≡ other → Writing o₀ want o n rest → Writing o₀ want o n other
    writing_as e w = rw e at w

    -- how far it is
    pub writing_place : {rest : List A} → Writing o₀ want o n rest → n + length rest ≡ length want
    writing_place {rest} w =
        omega (arith, w.room, simp (length-append, length-take) at (ap length w.done))

    -- nothing is left
    pub writing_ends_front : Writing o₀ want o n [] → o ≡ written want o₀
    writing_ends_front w =
        let all : n ≡ length want = omega (arith, writing_place w) in
        cc (take-append-drop n o, w.back, append-nil (take n o), w.done)

  pub writing_ends : {o₀ l o : List A} {at n : ℕ} → at ≤ length o₀ → Writing o₀ (take at o₀ ++ l) o n [] → Wrote o₀ at l o n
  writing_ends {o₀} {l} {o} {at} {n} h w =
      record {
        front = sym (append-nil (take n o)) ∙ w.done;
        back = w.back;
        place = omega (arith, writing_place w, length-append (take at o₀) l, length-take-le at o₀ h);
        same = w.same;
      }

  -- ---- going down

  -- the buffer was o₀ and is o: from the place n on, with rest before it, it is what is wanted, and up to n it has not changed
  pub record WritingDown (o₀ want o : List A) (n : ℕ) (rest : List A) : Type ℓ where
    pub done : rest ++ drop n o ≡ want
    pub front : take n o ≡ take n o₀
    pub same : length o ≡ length o₀
    pub room : (length rest ≤ n) × (n ≤ length o)

  pub down_starts : (o : List A) (n : ℕ) (l : List A) → length l ≤ n → n ≤ length o → WritingDown o (l ++ drop n o) o n l
  down_starts o n l h k = record { done = refl; front = refl; same = refl; room = (h, k) }

  pub down_step : {o₀ want o : List A} {n : ℕ} (rest : List A) (a : A)
      → WritingDown o₀ want o n (rest ++ (a ∷ [])) → WritingDown o₀ want (set o (n - 1) a) (n - 1) rest
  down_step {o₀} {want} {o} {n} rest a w =
      let one : length (rest ++ (a ∷ [])) ≡ length rest + 1 = length-append rest (a ∷ []) in
      let last : n - 1 + 1 ≡ n = omega (arith, w.room) in
      record {
        done = cc (drop_set_here o (n - 1) a (omega (arith, w.room)), w.done, append_assoc rest (a ∷ []) (drop n o));
        front = take-set-le (n - 1) o (n - 1) a (omega arith) ∙ take_less (n - 1) n o o₀ (omega arith) w.front;
        same = length-set o (n - 1) a ∙ w.same;
        room = (omega (arith, w.room), rw length-set (omega (arith, w.room)));
      }

  pub down_as : {o₀ want o rest other : List A} {n : ℕ} → rest ≡ other → WritingDown o₀ want o n rest → WritingDown o₀ want o n other
  down_as e w = rw e at w

  pub down_ends : {o₀ l o : List A} {at m : ℕ} → m ≡ at + length l → WritingDown o₀ (l ++ drop m o₀) o at [] → Wrote o₀ at l o m
  down_ends {o₀} {l} {o} {at} {m} e w =
      record {
        front = cc (take-add at (length l) o, w.done, w.front, take-append_seam l (drop m o₀));
        back = cc (drop-drop (length l) at o, w.done, drop-append_seam l (drop m o₀));
        place = e;
        same = w.same;
      }
