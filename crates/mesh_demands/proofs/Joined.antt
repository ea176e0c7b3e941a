-- Reports of parts, joined: what the parts say that hold every listed pair is what the mesh says.
use Rattle.std.specs.Prelude.{ℕ, ◌<◌, ◌↔◌, ◌≡◌}
use mathlib.Core.List.{List, Memᴰ}
use Rattle.std.proofs.Common.{subst}
use Rattle.sequences.specs.Lists.{Lists, lists_as}
use Rattle.meaning.specs.Scene.{Scene}
use Rattle.meaning.specs.Resting.{PairSettled}
use Rattle.meaning.specs.WholeContacts.{WholeContactIs}
use Rattle.meaning.specs.List.{Pair, pairs}
use Rattle.meaning.specs.declared.Settled.{Settled}
use Rattle.meaning.specs.declared.WholeContact.{WholeContact}
use Rattle.list_pairs.specs.InOrder.{Earlier, ToList, list_is, list_only}
use Rattle.mesh_demands.proofs.Says.{a_part_says_the_same, stands_in_both}
use Rattle.mesh_demands.specs.Joined.{Reported, Met, PartsOf, Holds, HoldAll, SomeReport, SomeMet, SomeLists}

module _ {s : Scene} (ps : PartsOf s) where
  module _ (n : ℕ) (below : n < ps.many) (q : Pair) (h : Holds ps n q) where
    pub stands_there : Memᴰ h.own (pairs (ps.scene n)) ↔ Memᴰ q (pairs s)
    stands_there =
        subst (λ (p : Pair). Memᴰ h.own (pairs (ps.scene n)) ↔ Memᴰ p (pairs s)) h.is
        (stands_in_both (ps.part n below) (ps.mesh n below) h.own h.there)

    -- a part that holds a pair reports it as the whole does
    pub reported_alike : (w : Settled) → Reported (ps.scene n) h.own w ↔ Reported s q w
    reported_alike w = (
      λ r. record { stands = stands_there.0 r.stands; word = at_whole.0 r.word },
      λ r. record { stands = stands_there.1 r.stands; word = at_whole.1 r.word },
    )
      where
        at_whole : PairSettled (ps.scene n) h.own.kind h.own.first h.own.second w ↔ PairSettled s q.kind q.first q.second w
        at_whole =
            subst (λ (p : Pair). PairSettled (ps.scene n) h.own.kind h.own.first h.own.second w ↔ PairSettled s p.kind p.first p.second w) h.is
            ((a_part_says_the_same (ps.part n below) (ps.mesh n below) h.own.kind h.own.first h.own.second h.there).word w)

    pub met_alike : (x : WholeContact) → Met (ps.scene n) h.own x ↔ Met s q x
    met_alike x = (
      λ r. record { stands = stands_there.0 r.stands; contact = at_whole.0 r.contact },
      λ r. record { stands = stands_there.1 r.stands; contact = at_whole.1 r.contact },
    )
      where
        at_whole : WholeContactIs (ps.scene n) h.own.kind h.own.first h.own.second x ↔ WholeContactIs s q.kind q.first q.second x
        at_whole =
            subst (λ (p : Pair). WholeContactIs (ps.scene n) h.own.kind h.own.first h.own.second x ↔ WholeContactIs s p.kind p.first p.second x) h.is
            ((a_part_says_the_same (ps.part n below) (ps.mesh n below) h.own.kind h.own.first h.own.second h.there).whole_contact x)

  module _ (all : HoldAll ps) where
    pub reports_joined : (q : Pair) (w : Settled) → Reported s q w ↔ SomeReport ps q w
    reports_joined q w = (
      λ r. let (n, below, h) = all q r.stands in (n, below, h, (reported_alike n below q h w).1 r),
      λ r. (reported_alike r.0 r.1 q r.2 w).0 r.3,
    )

    pub contacts_joined : (q : Pair) (x : WholeContact) → Met s q x ↔ SomeMet ps q x
    contacts_joined q x = (
      λ r. let (n, below, h) = all q r.stands in (n, below, h, (met_alike n below q h x).1 r),
      λ r. (met_alike r.0 r.1 q r.2 x).0 r.3,
    )

    -- a list of exactly these pairs, each once and in the list's order, is the whole's
    pub lists_joined : (l : List Pair) → Lists Earlier (SomeLists ps all) l → l ≡ pairs s
    lists_joined l joined = list_only s l (lists_as listed_so joined)
      where
        listed_so : (q : Pair) → SomeLists ps all q ↔ ToList s q
        listed_so q = (
          λ r. ((list_is s).stands q).0 ((stands_there r.0 r.1 q r.2).0 r.3),
          λ t.
              let m = ((list_is s).stands q).1 t in
              let (n, below, h) = all q m in
              (n, below, h, (stands_there n below q h).1 m),
        )
