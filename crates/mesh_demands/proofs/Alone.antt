-- A pair alone is a part of the mesh and says of the pair what the mesh says; what the library answers of it is what the pair has in the mesh.
use Rattle.std.specs.Prelude.{ℕ, ◌<◌, false, ◌||◌, ◌↔◌, ◌≡◌, leb, Result}
use Rattle.std.proofs.Math.Path.{refl}
use Rattle.std.proofs.Common.{sym, ◌∙◌, subst₂, arith}
use borrow.Author.Tests.{lt-leb}
use Rattle.meaning.specs.Limits.{coordinate_limit, contact_limit}
use Rattle.meaning.specs.Scene.{Scene, AcceptedWithin}
use Rattle.meaning.specs.Pieces.{piece_count, piece_of}
use Rattle.meaning.specs.Verdicts.{PieceIs, PairIs}
use Rattle.meaning.specs.Resting.{PieceSettled, PairSettled, PairDecided, PieceDecided}
use Rattle.meaning.specs.WholeContacts.{WholeContactIs, ContactIs, contact_checks, WholeContactFound, ContactGiven}
use Rattle.meaning.specs.Refusals.{given, not_there, shares, PairJudged, PieceJudged, outcome_alone}
use Rattle.meaning.specs.declared.Kind.{Kind}
use Rattle.meaning.specs.declared.Verdict.{Verdict}
use Rattle.meaning.specs.declared.Settled.{Settled}
use Rattle.meaning.specs.declared.WholeContact.{WholeContact}
use Rattle.meaning.specs.declared.Contact.{Contact}
use Rattle.scene_checks.specs.Facts.{accepted_wider}
use Rattle.contact_entries.specs.OneContact.{one_whole_contact, one_contact}
use Rattle.answers.specs.Deciding.{NoneHolds, gives_exactly}
use Rattle.demands.specs.Demand1.{demand1_pair, demand1_piece, demand1_settled_pair, demand1_settled_piece}
use Rattle.mesh_demands.specs.Part.{PartOf}
use Rattle.mesh_demands.specs.Meshes.{Mesh}
use Rattle.mesh_demands.specs.Says.{SaysTheSame}
use Rattle.mesh_demands.proofs.Says.{a_part_says_the_same}
use Rattle.mesh_demands.specs.Sorted.{in_order_moved, member_moved, as_long}
use Rattle.mesh_demands.specs.CutOut.{cut_at, OneOf, InRange}
use Rattle.mesh_demands.proofs.CutOut.{cut_out_is_a_part, cut_out_is_a_mesh, cut_out_is_accepted}
use Rattle.mesh_demands.specs.Alone.{vertices_of, edges_of, triangles_of, four_of, alone, alone_first, alone_second, Apart, four_long, few_parts, edges_fit, triangles_fit, first_back, second_back, alone_there, can_be_cut}
use Rattle.meaning.specs.declared.Refusal.{Refusal}

module _ {s : Scene} (mesh : Mesh s) where
  module _ (kind : Kind) (i j : ℕ) (a : Apart s kind i j) where
    pub alone_is_a_part : PartOf (cut_at (four_of s kind i j) (edges_of kind i j) (triangles_of kind i j)) (alone s kind i j) s
    alone_is_a_part = cut_out_is_a_part s (four_of s kind i j) (edges_of kind i j) (triangles_of kind i j) (can_be_cut mesh kind i j a)

    pub alone_is_a_mesh : Mesh (alone s kind i j)
    alone_is_a_mesh =
        cut_out_is_a_mesh s (four_of s kind i j) (edges_of kind i j) (triangles_of kind i j) (can_be_cut mesh kind i j a)
        (λ e m. (edges_fit mesh kind i j a.there e m).2) (λ t m. (triangles_fit mesh kind i j a.there t m).2)

    -- and says of the pair what the mesh says
    pub alone_says_the_same : SaysTheSame (alone s kind i j) s kind (alone_first s kind i j) (alone_second kind) i j
    alone_says_the_same =
        subst₂ (λ x y. SaysTheSame (alone s kind i j) s kind (alone_first s kind i j) (alone_second kind) x y) (first_back mesh kind i j) (second_back mesh kind i j)
        (a_part_says_the_same alone_is_a_part alone_is_a_mesh kind (alone_first s kind i j) (alone_second kind) (alone_there mesh kind i j))

    pub alone_is_accepted : (B : ℕ) → ((v : ℕ) → OneOf (vertices_of s kind i j) v → InRange B s v) → AcceptedWithin B (alone s kind i j)
    alone_is_accepted B range =
        let (edges, triangles) = few_parts kind i j in
        let moved = in_order_moved s (vertices_of s kind i j) in
        cut_out_is_accepted s (four_of s kind i j) (edges_of kind i j) (triangles_of kind i j) (can_be_cut mesh kind i j a) B
        (omega (arith, as_long moved, four_long s kind i j)) (omega arith) (omega arith) (λ v m. range v (member_moved moved m))
        (λ e m. (edges_fit mesh kind i j a.there e m).2) (λ t m. (triangles_fit mesh kind i j a.there t m).2)

    unshared_there : shares (alone s kind i j) kind (alone_first s kind i j) (alone_second kind) ≡ false
    unshared_there = sym alone_says_the_same.shared ∙ a.unshared

    module _ (range : (v : ℕ) → OneOf (vertices_of s kind i j) v → InRange coordinate_limit s v) where
      -- a verdict, exactly when the pair has it in the mesh
      pub judged_alone : (r : Result Verdict Refusal) → PairJudged (alone s kind i j) kind (alone_first s kind i j) (alone_second kind) r
          → (v : Verdict) → (outcome_alone r ≡ given v) ↔ PairIs s kind i j v
      judged_alone r answered v =
          let table = demand1_pair (alone s kind i j) kind (alone_first s kind i j) (alone_second kind) r answered in (
            λ e. (alone_says_the_same.verdict v).0 ((table.judged v).0 e).1.2,
            λ h. (table.judged v).1 (alone_is_accepted coordinate_limit range, (alone_there mesh kind i j, unshared_there, (alone_says_the_same.verdict v).1 h)),
          )

      -- a word
      pub settled_alone : (r : Result Settled Refusal) → PairDecided (alone s kind i j) kind (alone_first s kind i j) (alone_second kind) r
          → (w : Settled) → (outcome_alone r ≡ given w) ↔ PairSettled s kind i j w
      settled_alone r answered w =
          let table = demand1_settled_pair (alone s kind i j) kind (alone_first s kind i j) (alone_second kind) r answered in (
            λ e. (alone_says_the_same.word w).0 ((table.judged w).0 e).1.2,
            λ h. (table.judged w).1 (alone_is_accepted coordinate_limit range, (alone_there mesh kind i j, unshared_there, (alone_says_the_same.word w).1 h)),
          )

      -- so of each piece
      piece_there : (k : ℕ) → k < piece_count kind → not_there (alone s kind i j) kind (alone_first s kind i j) (alone_second kind) || leb (piece_count kind) k ≡ false
      piece_there k h = rw (alone_there mesh kind i j, lt-leb (piece_count kind) k h) refl

      pub piece_judged_alone : (k : ℕ) → k < piece_count kind → (r : Result Verdict Refusal) → PieceJudged (alone s kind i j) kind (alone_first s kind i j) (alone_second kind) k r
          → (v : Verdict) → (outcome_alone r ≡ given v) ↔ PieceIs (piece_of s kind i j k) v
      piece_judged_alone k h r answered v =
          let table = demand1_piece (alone s kind i j) kind (alone_first s kind i j) (alone_second kind) k r answered in (
            λ e. (alone_says_the_same.pieces k v).0 ((table.judged v).0 e).1.2,
            λ is. (table.judged v).1 (alone_is_accepted coordinate_limit range, (piece_there k h, unshared_there, (alone_says_the_same.pieces k v).1 is)),
          )

      pub piece_settled_alone : (k : ℕ) → k < piece_count kind → (r : Result Settled Refusal) → PieceDecided (alone s kind i j) kind (alone_first s kind i j) (alone_second kind) k r
          → (w : Settled) → (outcome_alone r ≡ given w) ↔ PieceSettled (piece_of s kind i j k) w
      piece_settled_alone k h r answered w =
          let table = demand1_settled_piece (alone s kind i j) kind (alone_first s kind i j) (alone_second kind) k r answered in (
            λ e. (alone_says_the_same.piece_words k w).0 ((table.judged w).0 e).1.2,
            λ is. (table.judged w).1 (alone_is_accepted coordinate_limit range, (piece_there k h, unshared_there, (alone_says_the_same.piece_words k w).1 is)),
          )

    -- a contact, where the four are in the range that coordinates had at first
    module _ (range : (v : ℕ) → OneOf (vertices_of s kind i j) v → InRange contact_limit s v) where
      none_refuses : NoneHolds (contact_checks (alone s kind i j) kind (alone_first s kind i j) (alone_second kind))
      unfolding NoneHolds
      none_refuses =
          let near = alone_is_accepted contact_limit range in
          let far = accepted_wider {C = coordinate_limit} (omega arith) near in
          (far.shapely, (far.in_range, (far.known, (far.sewn_well, (far.distinct, (alone_there mesh kind i j, (unshared_there, (near.in_range, tt))))))))

      pub met_alone : (r : Result WholeContact Refusal) → WholeContactFound (alone s kind i j) kind (alone_first s kind i j) (alone_second kind) r
          → (x : WholeContact) → (outcome_alone r ≡ given x) ↔ WholeContactIs s kind i j x
      met_alone r answered x =
          let gives = gives_exactly (WholeContactIs (alone s kind i j) kind (alone_first s kind i j) (alone_second kind)) (one_whole_contact (alone s kind i j) kind (alone_first s kind i j) (alone_second kind))
          (contact_checks (alone s kind i j) kind (alone_first s kind i j) (alone_second kind)) (outcome_alone r) answered x in
          (λ e. (alone_says_the_same.whole_contact x).0 (gives.0 e).1, λ h. gives.1 (none_refuses, (alone_says_the_same.whole_contact x).1 h))

      pub contact_alone : (r : Result Contact Refusal) → ContactGiven (alone s kind i j) kind (alone_first s kind i j) (alone_second kind) r
          → (c : Contact) → (outcome_alone r ≡ given c) ↔ ContactIs s kind i j c
      contact_alone r answered c =
          let gives = gives_exactly (ContactIs (alone s kind i j) kind (alone_first s kind i j) (alone_second kind)) (one_contact (alone s kind i j) kind (alone_first s kind i j) (alone_second kind))
          (contact_checks (alone s kind i j) kind (alone_first s kind i j) (alone_second kind)) (outcome_alone r) answered c in
          (λ e. (alone_says_the_same.contact c).0 (gives.0 e).1, λ h. gives.1 (none_refuses, (alone_says_the_same.contact c).1 h))
