-- What the answers of the calls below say to the report: of the list that was judged, and of the text that was read.
use Rattle.std.specs.Prelude.{ℕ, ◌≤◌, ◌<◌, min, Bool, true, false, ◌⊎◌, List, [], ◌≡◌, refl, ltb, length, replicate, Err, Ok, Result}
use Rattle.std.proofs.Common.{true≢false, inl, inr, sym, ap, ◌∙◌, subst, le_trans, arith, length-append, ltb-true, ltb-false}
use Rattle.sequences.specs.Pick.{either}
use Rattle.sequences.specs.Wrote.{written}
use Rattle.meaning.specs.Limits.{vertex_limit, report_room, text_limit}
use Rattle.meaning.specs.Scene.{Scene, Accepted, vertex_count, unknown_vertex}
use Rattle.meaning.specs.Refusals.{Outcome, refused, number_of, Answers, carrying, outcome_of}
use Rattle.meaning.specs.List.{pairs, room_of, leaves}
use Rattle.meaning.specs.Text.{TextRead, TextIs, short_buffer}
use Rattle.meaning.specs.Report.{ReportOf, refused_line}
use Rattle.meaning.specs.declared.Refusal.{Refusal}
use Rattle.answers.specs.Answering.{is_refused, is_past}
use Rattle.answers.specs.Below.{or_left, or_rest}
use Rattle.scene_checks.specs.Facts.{Sized, accepted_sized, known_inside}
use Rattle.scene_seams.specs.Table.{seams_of}
use Rattle.scene_seams.specs.Sewing.{Sewable, Sewn, blank_table}
use Rattle.list_pairs.specs.Answering.{room_checks, IsCount}
use Rattle.list_words.specs.Listed.{ListStands, bytes_of, bytes_length, word_in_front}
use Rattle.list_words.specs.Answering.{SettledIn, MadeList, made_list, made_stands}
use Rattle.text_scene.specs.Using.{Came, by_buffers, by_length, by_lines, read_refusal_of}
use Rattle.pair_report.specs.Sizes.{Held}
use Rattle.meaning.specs.declared.Refused.{Refused}
use Rattle.meaning.specs.declared.SceneCounts.{SceneCounts}

-- the table that an accepted scene's seams are taken into has them
pub accepted_sewable : {s : Scene} → Accepted s → Sewable s.positions s.seams (replicate vertex_limit 0)
accepted_sewable {s} a =
    let sized : Sized s = accepted_sized a in
    let known : unknown_vertex s ≡ false = a.known in
    record {
      blank = blank_table s.seams;
      even = sized.seams_long;
      few = sized.few_vertices;
      inside = known_inside (vertex_count s) s.seams (search (or_left, or_rest));
    }

pub accepted_tabled : {s : Scene} {t₀ t : List ℕ} {found : Bool} → Accepted s → Sewn s.positions s.seams t₀ found t → seams_of t ≡ s.seams
accepted_tabled a w = w.tells (w.finds ∙ a.sewn_well)

-- the program's own buffers have room for the pairs of a report
pub own_room : min (room_of (replicate report_room 0)) (length (replicate {A = ℕ} report_room 0)) ≡ report_room
own_room = refl

-- a list that was made and judged
pub record JudgedList (s : Scene) (o' b b' : List ℕ) (n : ℕ) : Type 0 where
  pub counts : n ≡ length (pairs s)
  pub few : length (pairs s) ≤ report_room
  pub stands : ListStands s o'
  pub bytes : b' ≡ written (bytes_of s (pairs s)) b
  pub held : Held o' b' n

pub judged_list : {s : Scene} {room : ℕ} {o o' b b' : List ℕ} {r : Result ℕ Refused} {m : ℕ} → Accepted s → room ≤ room_of o → room ≤ report_room
    → SettledIn s room o o' b b' r → r ≡ Ok m → JudgedList s o' b b' m
unfolding outcome_of leaves
judged_list {s} {room} {o} {o'} {b} {b'} {r} {m} accepted h k j e =
    let l : MadeList s room o o' m = made_list j.list e in
    let stands : ListStands s o' = made_stands accepted h l in
    let bytes : b' ≡ written (bytes_of s (pairs s)) b = rw e at j.bytes in
    let long : length b' ≡ length (written (bytes_of s (pairs s)) b) = ap length bytes in
    record {
      counts = l.counts;
      few = le_trans l.fits k;
      stands = stands;
      bytes = bytes;
      held = record {
        few = omega (arith, l.counts, l.fits);
        entries = omega (arith, l.counts, stands.room);
        judged = record {
          there = omega (arith, l.counts, simp length-append at long, bytes_length s (pairs s));
          at = λ k below. word_in_front s b bytes k (omega (arith, l.counts));
        };
      };
    }

-- a list that had no room
pub no_room_lem : {s : Scene} {room : ℕ} {o o' b b' : List ℕ} {r : Result ℕ Refused} {x : Refused} → SettledIn s room o o' b b' r
    → r ≡ Err x → (x.carries ≡ length (pairs s)) × (room < length (pairs s))
unfolding outcome_of Answers
no_room_lem {s} {room} {x} j e = by_test (either (ltb room (length (pairs s))))
  where
    a : Answers (room_checks s room) (IsCount s) (refused (number_of x.why) x.carries)
    a = rw e at j.list.answer

    by_test : (ltb room (length (pairs s)) ≡ true) ⊎ (ltb room (length (pairs s)) ≡ false) → (x.carries ≡ length (pairs s)) × (room < length (pairs s))
    by_test (inl h) =
        let same : ◌≡◌ {A = Outcome ℕ} (refused (number_of x.why) x.carries) (refused 7 (length (pairs s))) = is_refused (IsCount s) _ [] (refused (number_of x.why) x.carries) h a in
        (cc, ltb-true room (length (pairs s)) h)
    by_test (inr h) = absurd (is_past (IsCount s) _ [] (refused (number_of x.why) x.carries) h a)

-- a text that was refused
pub report_of_refusal : {text : List ℕ} {lent left : Scene} {x : Refusal} {line : ℕ} → short_buffer lent ≡ false
    → TextRead text lent left (Err (carrying x line)) → ReportOf text (refused_line (number_of x) line)
unfolding TextIs
report_of_refusal {text} {lent} {left} {x} {line} fits a = by_way (read_refusal_of a).1
  where
    by_way : Came text lent (refused (number_of x) line) → ReportOf text (refused_line (number_of x) line)
    by_way (by_buffers e p) = let z : ◌≡◌ {A = Bool} true false = sym e ∙ fits in absurd (true≢false z)
    by_way (by_length e d p) =
        let number : number_of x ≡ 8 = cc in
        let none : line ≡ 0 = cc in
        rw (number, none) (ReportOf.too_long (ltb-true text_limit (length text) d))
    by_way (by_lines e d f) = ReportOf.faulty (number_of x) line (ltb-false text_limit (length text) d) f

pub refused_read : {text : List ℕ} {lent left : Scene} {r : Result SceneCounts Refused} {x : Refusal} {line : ℕ} → short_buffer lent ≡ false
    → TextRead text lent left r → r ≡ Err (carrying x line) → ReportOf text (refused_line (number_of x) line)
refused_read {text} {lent} {left} fits a e = report_of_refusal fits (subst (TextRead text lent left) e a)
