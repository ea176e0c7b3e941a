use mathlib.Core.Path.{◌≡◌, sym, ◌∙◌}
use native.Mathlib.Omega.{arith}
use lib.ListN.{get_or}
use borrow.Author.Tests.{ne_eqb}
use Rattle.meaning.specs.SceneWords.{byte_of}
use Rattle.list_entries.specs.Entries.{pair_at}
use Rattle.series_words.specs.Telling.{pairs_next, words_next, log_none, log_then, log_hit, log_counts, log_passes}
use Rattle.series_words.proofs.log_hits.Goals as goal
use Rattle.series_words.proofs.log_hits.Goals.{then-bytes-k+then-next-lt-LOG_ROOM, then-bytes-k+else-next-lt-LOG_ROOM, else-bytes-k}

pub loop-k-init : goal.loop-k-init
loop-k-init c = log_none _ _

pub loop-k-preserved : goal.loop-k-preserved
unfolding byte_of
loop-k-preserved c =
    let step = c.args.step in
    let l = c.args.list.now in
    let b = c.args.bytes.now in
    let k = c.loop-k.k in
    let hit = c.byte_of-hit.ensures in
    let pairs = pairs_next k l (omega (arith, c.requires.0)) in
    let words = words_next k b (omega (arith, c.requires.1)) in
    elim c.if-bytes-k.branch [
      | then-bytes-k+then-next-lt-LOG_ROOM w ↦
          rw (pairs, words, w.next-is, w.add_hit-next.ensures)
          (log_then c.loop-k.invariant (log_hit step (pair_at l k) (get_or b k 0) _ _ (w.if-bytes-k.true ∙ hit) w.hit_of.ensures))
      | then-bytes-k+else-next-lt-LOG_ROOM w ↦
          rw (pairs, words, w.next-is, w.one_more.ensures)
          (log_then c.loop-k.invariant (log_counts step (pair_at l k) (get_or b k 0) _ (w.if-bytes-k.true ∙ hit) w.if-next-lt-LOG_ROOM.false))
      | else-bytes-k w ↦
          rw (pairs, words, w.next-is)
          (log_then c.loop-k.invariant
          (log_passes step (pair_at l k) (get_or b k 0) _ (ne_eqb _ 0 (λ e. w.if-bytes-k.false (e ∙ sym hit)))))
    ]

pub returns : goal.returns
returns c =
    let same : c.loop-k.k ≡ c.args.count = omega arith in
    rw same at c.loop-k.invariant
