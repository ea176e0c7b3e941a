-- `empty_span`: stores change no length.
use lib.ListN.{length-set}
use Rattle.near_runs.proofs.empty_span.Goals as goal

pub returns : goal.returns
returns c = simp length-set
