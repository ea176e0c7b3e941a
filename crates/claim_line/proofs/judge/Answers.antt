-- 5 for a place or a piece that isn't there, then 6.
use mathlib.Core.Bool.{true, false}
use mathlib.Core.Path.{◌≡◌, sym, ◌∙◌, subst}
use lib.Dec.{leb}
use Rattle.claim_line.specs.Stepping.{no_place, no_piece, shared, asked_well}
use Rattle.claim_line.proofs.judge.Goals as goal

pub returns-then-not_there : goal.returns-then-not_there
returns-then-not_there c = no_place _ _ _ _ _ (sym (c.not_there.ensures _) ∙ c.if-not_there.true)

pub shares_vertex-shared-requires : goal.shares_vertex-shared-requires
shares_vertex-shared-requires c = sym (c.not_there.ensures _) ∙ c.if-not_there.false

pub returns-then-past : goal.returns-then-past
returns-then-past c =
    no_piece _ _ _ _ _ (sym (c.not_there.ensures _) ∙ c.if-not_there.false)
    (subst (λ n. leb n c.args.k ≡ true) c.piece_count.ensures c.if-past.true-raw)

pub returns-then-shared : goal.returns-then-shared
returns-then-shared c =
    shared _ _ _ _ _ (sym (c.not_there.ensures _) ∙ c.if-not_there.false)
    (subst (λ n. leb n c.args.k ≡ false) c.piece_count.ensures c.if-past.false-raw)
    (sym c.shares_vertex-shared.ensures ∙ c.if-shared.true)

pub returns : goal.returns
returns c =
    asked_well _ _ _ _ _ (sym (c.not_there.ensures _) ∙ c.if-not_there.false)
    (subst (λ n. leb n c.args.k ≡ false) c.piece_count.ensures c.if-past.false-raw)
    (sym c.shares_vertex-shared.ensures ∙ c.if-shared.false)
