-- How the answer of an import is shown right, whichever way it comes about.
use Rattle.std.specs.Prelude.{true, false, List, ◌≡◌, ℕ, ◌+◌, ◌*◌, ◌/◌, ◌≤◌, ◌<◌, ℤ, pos, length, replicate, Err, Ok, Result}
use Rattle.std.proofs.Math.Path.{refl, ap}
use Rattle.std.proofs.Common.{◌∙◌, arith}
use Rattle.std.proofs.lemmas.List.{length-replicate}
use borrow.Author.Tests.{lt-ltb, le-ltb, ltb-false}
use Rattle.answers.specs.Below.{or_left, or_rest}
use Rattle.meaning.specs.Limits.{text_limit, vertex_limit, triangle_limit}
use Rattle.meaning.specs.Lines.{FaultyAt}
use Rattle.meaning.specs.Refusals.{number_of, carrying}
use Rattle.meaning.specs.Scene.{Scene, scene_of, vertex_count, start_of, end_of}
use Rattle.meaning.specs.Text.{none, coordinates, short_buffer, counts_of, filled}
use Rattle.meaning.specs.ObjFile.{obj_lines}
use Rattle.meaning.specs.ObjPair.{positions_between, imported, ImportOutcome, read, refused, refused_in, FileRead, FilesAre, ImportIs, counts, import_says, import_told, import_left, Imported}
use Rattle.meaning.specs.declared.SceneCounts.{SceneCounts}
use Rattle.meaning.specs.declared.Refusal.TheVariants.{ShortBuffer, LongText}
use Rattle.meaning.specs.declared.WhichFile.TheVariants.{Start, End}
use Rattle.text_line.specs.Above.{Bounded}
use Rattle.obj_edges.specs.Chains.{tabled}
use Rattle.obj_draft.specs.Drafting.{Drafted, DraftRoom}
use Rattle.obj_draft.specs.Reading.{DraftRead, DraftIs}
use Rattle.obj_scene.specs.Between.{six_each}
use Rattle.obj_scene.specs.Ending.{Lent, Untouched, EndIs, EndImported}
use Rattle.meaning.specs.declared.Refused.{Refused}
use Rattle.meaning.specs.declared.ImportRefusal.{ImportRefusal}
use Rattle.meaning.specs.declared.ImportRefusal.TheVariants.{In, Of}

-- the arrays of a draft have room
pub own_room : DraftRoom (replicate (6 * vertex_limit) (pos 0)) (replicate tabled 0) (replicate (3 * triangle_limit) 0)
own_room =
    record {
      positions = omega (arith, length-replicate {A = ℤ} (6 * vertex_limit) (pos 0));
      faces = record { sides = omega (arith, length-replicate {A = ℕ} tabled 0); corners = omega (arith, length-replicate {A = ℕ} (3 * triangle_limit) 0) };
    }

pub lent_room : (lent : Scene) → short_buffer lent ≡ false → Lent lent.positions lent.edges lent.triangles
lent_room lent e =
    record {
      points = ltb-false _ _ (search (or_left, or_rest));
      sides = ltb-false _ _ (search (or_left, or_rest));
      corners = ltb-false _ _ (search (or_left, or_rest));
    }

-- the counts of the scene of two files are those of the first
counts_are : {p : List ℤ} {e t : List ℕ} {s : Scene} {c : SceneCounts} (s' : Scene) → Drafted p e t s c → c ≡ counts_of (imported s s')
counts_are {s = s} {c = c} s' d =
    let n : vertex_count s ≡ c.vertices = omega (arith, d.above.lengths.positions) in
    let six : length (positions_between s s') + 6 * 0 ≡ 6 * vertex_count s =
    six_each (λ v. coordinates (start_of s v) (end_of s' v)) (λ v. refl) (vertex_count s) 0 (omega arith) in
    let v : c.vertices ≡ length (positions_between s s') / 6 = omega (arith, six, n) in
    let e : c.edges ≡ length s.edges / 2 = omega (arith, d.above.lengths.edges) in
    let t : c.triangles ≡ length s.triangles / 3 = omega (arith, d.above.lengths.triangles) in
    let none : length s.seams ≡ 0 = ap (length {A = ℕ}) d.seamless in
    let w : c.seams ≡ 0 = omega (arith, d.above.lengths.seams, none) in
    λ i. record { vertices = v i; edges = e i; triangles = t i; seams = w i }

module _ (start : List ℕ) (p : List ℤ) (e t : List ℕ) {r : Result SceneCounts Refused} (d : DraftIs start p e t r) where
  faulty : {x : Refused} → r ≡ Err x → FaultyAt obj_lines none start (number_of x.why) x.carries
  unfolding DraftIs
  faulty q = rw q at d

  held : {c : SceneCounts} → r ≡ Ok c → DraftRead start p e t c
  unfolding DraftIs
  held q = rw q at d

  pub start_bounded : {c : SceneCounts} → r ≡ Ok c → Bounded c
  start_bounded q = (held q).drafted.above.bounded

untouched : (lent : Scene) {pl : List ℤ} {el tl : List ℕ} → Untouched lent.positions lent.edges lent.triangles pl el tl
    → scene_of pl el tl lent.seams ≡ lent
untouched lent u = λ i. record { positions = u.positions i; edges = u.edges i; triangles = u.triangles i; seams = lent.seams }

module _ (start end : List ℕ) (lent : Scene) where
  pub import_short : short_buffer lent ≡ true → Imported start end lent lent (Err (Of ShortBuffer))
  unfolding import_says import_told import_left number_of
  import_short q = record { outcome = refused 12; right = rw q refl; says = refl; leaves = refl }

  module _ (wide : short_buffer lent ≡ false) where
    pub import_long_start : text_limit < length start → Imported start end lent lent (Err (In Start (carrying LongText 0)))
    unfolding import_says import_told import_left number_of
    import_long_start h =
        record { outcome = refused_in Start 8 0; right = rw (wide, lt-ltb text_limit (length start) h) refl; says = refl; leaves = refl }

    module _ (brief : length start ≤ text_limit) where
      pub import_long_end : text_limit < length end → Imported start end lent lent (Err (In End (carrying LongText 0)))
      unfolding import_says import_told import_left number_of
      import_long_end h =
          record {
            outcome = refused_in End 8 0;
            right = rw (wide, le-ltb text_limit (length start) brief, lt-ltb text_limit (length end) h) refl;
            says = refl;
            leaves = refl;
          }

      module _ (short : length end ≤ text_limit) where
        outcome : (o : ImportOutcome) → FilesAre start end o → ImportIs start end lent o
        outcome o f = rw (wide, le-ltb text_limit (length start) brief, le-ltb text_limit (length end) short) f

        module _ (p : List ℤ) (e t : List ℕ) {r : Result SceneCounts Refused} (d : DraftIs start p e t r) where
          pub import_faulty : {x : Refused} → r ≡ Err x → Imported start end lent lent (Err (In Start x))
          unfolding FilesAre import_says import_told import_left
          import_faulty {x} q =
              record {
                outcome = refused_in Start (number_of x.why) x.carries;
                right = outcome (refused_in Start (number_of x.why) x.carries) (faulty start p e t d q);
                says = refl;
                leaves = refl;
              }

          module _ {c : SceneCounts} (q : r ≡ Ok c) where
            scene : Scene
            scene = (held start p e t d q).scene

            starts : FileRead start scene
            unfolding scene
            starts = let h : DraftRead start p e t c = held start p e t d q in record { lines = h.lines; sound = h.sound; scene = h.state }

            by_answer : (a : Result SceneCounts ImportRefusal) {pl : List ℤ} {el tl : List ℕ} → EndIs c scene end lent.positions lent.edges lent.triangles pl el tl a
                → Imported start end lent (scene_of pl el tl lent.seams) a
            unfolding EndIs FilesAre import_says import_told import_left filled scene
            by_answer (Ok k) {pl} {el} {tl} w =
                record {
                  outcome = read (imported scene w.ends);
                  right = outcome (read (imported scene w.ends))
                      (record { starts = scene; ends = w.ends; first = starts; second = w.file; compared = w.alike }, refl);
                  says = ap counts (w.counts ∙ counts_are w.ends (held start p e t d q).drafted);
                  leaves = λ i.
                      record { positions = w.positions i; edges = w.edges i; triangles = w.triangles i; seams = lent.seams };
                }
            by_answer (Err (Of x)) w =
                record {
                  outcome = refused (number_of x);
                  right = outcome (refused (number_of x))
                      (record { starts = scene; ends = w.0.ends; first = starts; second = w.0.file; compared = w.0.other }, w.0.number);
                  says = refl;
                  leaves = untouched lent w.1;
                }
            by_answer (Err (In Start x)) w = absurd w
            by_answer (Err (In End x)) w =
                record {
                  outcome = refused_in End (number_of x.why) x.carries;
                  right = outcome (refused_in End (number_of x.why) x.carries) ((scene, starts), w.0);
                  says = refl;
                  leaves = untouched lent w.1;
                }

            pub import_ended : {a : Result SceneCounts ImportRefusal} {pl : List ℤ} {el tl : List ℕ}
                → EndImported c p e t end lent.positions lent.edges lent.triangles pl el tl a
                → Imported start end lent (scene_of pl el tl lent.seams) a
            unfolding scene
            import_ended {a} w = by_answer a (w scene (held start p e t d q).drafted)
