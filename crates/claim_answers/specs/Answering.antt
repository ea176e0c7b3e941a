-- What the second pass promises, and how it goes on from claim to claim.
use Rattle.std.specs.Prelude.{Result, Ok, Err, Bool, ◌≡◌, refl, ℕ, ◌+◌, ◌≤◌, ◌<◌, drop, set}
use mathlib.Core.List.{List, [], ◌∷◌, ◌++◌, map, map-append, append_assoc, append-nil}
use Rattle.std.proofs.Math.Path.{sym, ap, subst}
use Rattle.std.proofs.Common.{◌∙◌, arith, length-append}
use Rattle.std.proofs.Math.ListN.{length}
use Rattle.std.proofs.lemmas.List.{length-map}
use Rattle.sequences.specs.Stands.{stands_inside}
use Rattle.sequences.specs.Wrote.{Wrote, written, wrote_none, wrote_one, wrote_then, wrote_front}
use Rattle.meaning.specs.Scene.{Scene}
use Rattle.meaning.specs.Refusals.{number_of}
use Rattle.meaning.specs.Lines as Lines
use Rattle.meaning.specs.Lines.{AllSound}
use Rattle.meaning.specs.Claims.{Claim, piece_meant, AnswerIs, claim_lines, AllAnswered, answer_byte}
use Rattle.meaning.specs.declared.Refusal.{Refusal}
use Rattle.text_laws.specs.Ahead.{Ahead, ahead_first, ahead_none, ahead_never, ahead_next}
use Rattle.claim_line.specs.Rendered.{claims_readable}
use Rattle.claim_line.specs.Stepping.{Stepped, Took}
use Rattle.claim_line.specs.declared.Line.{Line}

-- the text is the lines of claims, none at fault, and there is room for their answers
pub record Roomy (s : Scene) (text o : List ℕ) : Type 0 where
  pub claims : List Claim
  pub sound : AllSound (claim_lines s) tt text claims
  pub room : length claims ≤ length o

-- the buffer held o, and now has the answers in front
pub record Answered (s : Scene) (text o o' : List ℕ) : Type 0 where
  pub claims : List Claim
  pub sound : AllSound (claim_lines s) tt text claims
  pub told : List Bool
  pub right : AllAnswered s claims told
  pub leaves : o' ≡ written (map answer_byte told) o

all_append : (s : Scene) (cs ds : List Claim) (xs bs : List Bool) → AllAnswered s cs xs → AllAnswered s ds bs → AllAnswered s (cs ++ ds) (xs ++ bs)
unfolding AllAnswered
all_append s [] ds [] bs h k = k
all_append s [] ds (a ∷ xs) bs h k = absurd h
all_append s (c ∷ cs) ds [] bs h k = absurd h
all_append s (c ∷ cs) ds (a ∷ xs) bs h k = (h.0, all_append s cs ds xs bs h.1 k)

pub all_many : (s : Scene) (cs : List Claim) (xs : List Bool) → AllAnswered s cs xs → length xs ≡ length cs
unfolding AllAnswered
all_many s [] [] h = refl
all_many s [] (a ∷ xs) h = absurd h
all_many s (c ∷ cs) [] h = absurd h
all_many s (c ∷ cs) (a ∷ xs) h = omega (arith, all_many s cs xs h.1)

-- the claims that are answered, those that are still to come, and what stands in the buffer
pub record Answering (s : Scene) (text o₀ o : List ℕ) (count at : ℕ) : Type 0 where
  pub done : List Claim
  pub below : List Claim
  pub sound : AllSound (claim_lines s) tt text (done ++ below)
  pub room : length (done ++ below) ≤ length o₀
  pub ahead : Ahead (claim_lines s) text tt at below
  pub within : at ≤ length text
  pub few : count ≤ at
  pub told : List Bool
  pub right : AllAnswered s done told
  pub wrote : Wrote o₀ 0 (map answer_byte told) o count

pub answer_starts : (s : Scene) (text o : List ℕ) → Roomy s text o → Answering s text o o 0 0
unfolding AllAnswered
answer_starts s text o h =
    record {
      done = [];
      below = h.claims;
      sound = h.sound;
      room = h.room;
      ahead = ahead_first (claims_readable s) h.sound;
      within = omega arith;
      few = omega arith;
      told = [];
      right = tt;
      wrote = wrote_none o 0;
    }

module _ {s : Scene} {text o₀ o : List ℕ} {count at : ℕ} (f : Answering s text o₀ o count at) where
  pub answer_ends : length text ≤ at → Answered s text o₀ o
  answer_ends h =
      let none : f.below ≡ [] = ahead_none (claims_readable s) f.ahead h in
      let all : f.done ++ f.below ≡ f.done = ap (λ (l : List Claim). f.done ++ l) none ∙ append-nil f.done in
      record {
        claims = f.done;
        sound = subst (AllSound (claim_lines s) tt text) all f.sound;
        told = f.told;
        right = f.right;
        leaves = wrote_front f.wrote;
      }

  -- as many answers as claims that are done
  answered_so_many : count ≡ length f.done
  answered_so_many = omega (arith, f.wrote.place, length-map f.told answer_byte, all_many s f.done f.told f.right)

  module _ (inside : at < length text) {r : Result Line Refusal} (sizes : List ℕ) (minus : List Bool) (w : Stepped s text at sizes minus r) where
    -- no line is at fault
    pub answer_never : {x : Refusal} → r ≡ Err x → ⊥
    unfolding Stepped
    answer_never {x} e =
        let fault : Lines.Fault (claim_lines s) tt (drop at text) (number_of x) = rw e at w in
        ahead_never (claims_readable s) f.ahead inside fault

    module _ {line : Line} (e : r ≡ Ok line) where
      pub taken : Took s text at sizes minus line.kind line.next
      unfolding Stepped
      taken = rw e at w

      -- there is room for one answer more
      pub answer_room : count < length o
      answer_room =
          let (more, is, on) = ahead_next (claims_readable s) f.ahead inside taken.line.claim taken.line.formed taken.line.stands in
          omega (arith, answered_so_many, f.room, length-append f.done f.below, ap length is, f.wrote.same)

      pub answer_goes : (b : Bool) → AnswerIs (piece_meant s taken.line.claim) taken.line.claim.weights b
          → Answering s text o₀ (set o count (answer_byte b)) (count + 1) line.next × (at < line.next)
      unfolding AllAnswered
      answer_goes b h =
          let c : Claim = taken.line.claim in
          let (more, is, on) = ahead_next (claims_readable s) f.ahead inside c taken.line.formed taken.line.stands in
          let parts : f.done ++ f.below ≡ (f.done ++ (c ∷ [])) ++ more =
          ap (λ (l : List Claim). f.done ++ l) is ∙ sym (append_assoc f.done (c ∷ []) more) in
          let further : at < line.next = omega (arith, taken.line.stands.place, (claims_readable s).some c) in (
            record {
              done = f.done ++ (c ∷ []);
              below = more;
              sound = subst (AllSound (claim_lines s) tt text) parts f.sound;
              room = subst (λ (l : List Claim). length l ≤ length o₀) parts f.room;
              ahead = on;
              within = stands_inside f.within taken.line.stands;
              few = omega (arith, f.few, further);
              told = f.told ++ (b ∷ []);
              right = all_append s f.done (c ∷ []) f.told (b ∷ []) f.right (h, tt);
              wrote = rw (map-append answer_byte f.told (b ∷ [])) (wrote_then f.wrote (wrote_one o count (answer_byte b) answer_room));
            },
            further,
          )
