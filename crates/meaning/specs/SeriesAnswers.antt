-- What the answer for a series says: its log, what is told beside it, or its refusal.
use Rattle.std.specs.Prelude.{replicate, length, take, List, map, ◌≡◌, Err, Ok, Result}
use Rattle.meaning.specs.declared.Kind.TheVariants.{PointTriangle}
use Rattle.meaning.specs.Series.{log_limit, HitAt, hit_at, Told}
use Rattle.meaning.specs.declared.StepHit.{StepHit}
use Rattle.meaning.specs.declared.Log.{Log}
use Rattle.meaning.specs.List.{pair}
use Rattle.meaning.specs.declared.SeriesTold.{SeriesTold}
use Rattle.meaning.specs.Refusals.{Outcome, given, refused, number_of}
use Rattle.meaning.specs.declared.SeriesAnswer.{SeriesAnswer}
use Rattle.meaning.specs.declared.Refused.{Refused}
use Rattle.meaning.specs.declared.SceneCounts.{SceneCounts}

-- a log that has taken no hit; what stands where no entry is means nothing
abbrev pub empty_log : Log
empty_log = record { hits = replicate log_limit (record { step = 0; kind = PointTriangle; first = 0; second = 0 }); held = 0; later = 0 }

abbrev pub hit_of : StepHit → HitAt
hit_of h = hit_at h.step (pair h.kind h.first h.second)

-- the entries of a log
abbrev pub entries_of : Log → List HitAt
entries_of l = map hit_of (take l.held l.hits)

-- it holds as many entries as it says, in an array of 64
pub record HeldRight (l : Log) : Type 0 where
  pub room : length l.hits ≡ log_limit
  pub held : l.held ≡ length (entries_of l)

abbrev pub nothing_told : SeriesTold
nothing_told = record { log = empty_log; listed = 0; hits = 0; misses = 0; touches = 0; aparts = 0; first = 0 }

-- the log's entries are the first `held` of its hits
abbrev pub told_says : SeriesTold → Told
told_says t =
    record {
      log = entries_of t.log;
      later = t.log.later;
      listed = t.listed;
      hits = t.hits;
      misses = t.misses;
      touches = t.touches;
      aparts = t.aparts;
      first = t.first;
    }

-- told, or refused with a line or a count
unfoldable pub outcome_says : Result SceneCounts Refused → Told → Outcome Told
outcome_says (Ok c) t = given t
outcome_says (Err f) t = refused (number_of f.why) f.carries

abbrev pub answer_says : SeriesAnswer → Outcome Told
answer_says r = outcome_says r.outcome (told_says r.told)
