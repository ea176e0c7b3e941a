-- What two files print of which the front was read: of the files themselves, or of every file that begins so.
use Rattle.std.specs.Prelude.{ℕ, ◌<◌, min, Bool, true, false, cond, List, ◌≡◌, refl, length, take}
use Rattle.std.proofs.Common.{sym, subst, lt-ltb}
use Rattle.meaning.specs.Limits.{text_limit}
use Rattle.meaning.specs.Scene.{Scene}
use Rattle.meaning.specs.Text.{long_text}
use Rattle.meaning.specs.Report.{ReadOf, OfAllRead}
use Rattle.meaning.specs.ObjPair.{ImportOutcome, refused_in, FilesAre, PairOutcome}
use Rattle.meaning.specs.ObjPrinted.{PrintedOf, PairPrinted}
use Rattle.meaning.specs.declared.WhichFile.TheVariants.{Start, End}
use Rattle.text_scene.specs.ReadSoFar.{StandsFor, whole, long, stands_for}

-- a start file that is too long is told alike, and so is an end file
start_alike : (start other end : List ℕ) (o : ImportOutcome) → text_limit < length start → text_limit < length other → PairOutcome start end o
    → PairOutcome other end o
start_alike start other end o h k p =
    let first : long_text start ≡ true = lt-ltb text_limit (length start) h in
    let second : long_text other ≡ true = lt-ltb text_limit (length other) k in
    let is : o ≡ refused_in Start 8 0 = rw first at p in
    rw second is

end_alike : (start end other : List ℕ) (o : ImportOutcome) → text_limit < length end → text_limit < length other → PairOutcome start end o
    → PairOutcome start other o
end_alike start end other o h k p = go (long_text start) p
  where
    first : long_text end ≡ true
    first = lt-ltb text_limit (length end) h

    second : long_text other ≡ true
    second = lt-ltb text_limit (length other) k

    go : (b : Bool) → cond b (o ≡ refused_in Start 8 0) (cond (long_text end) (o ≡ refused_in End 8 0) (FilesAre start end o))
        → cond b (o ≡ refused_in Start 8 0) (cond (long_text other) (o ≡ refused_in End 8 0) (FilesAre start other o))
    go true q = q
    go false q = let is : o ≡ refused_in End 8 0 = rw first at q in rw second is

for_start : (start front end : List ℕ) (o : ImportOutcome) → StandsFor start front → PairOutcome front end o → PairOutcome start end o
for_start start front end o (whole e) p = subst (λ (t : List ℕ). PairOutcome t end o) (sym e) p
for_start start front end o (long h k) p = start_alike front start end o k h p

for_end : (start end front : List ℕ) (o : ImportOutcome) → StandsFor end front → PairOutcome start front o → PairOutcome start end o
for_end start end front o (whole e) p = subst (λ (t : List ℕ). PairOutcome start t o) (sym e) p
for_end start end front o (long h k) p = end_alike start front end o k h p

pub printed_of_read : (Shown : Scene → List ℕ → Type 0) {start end o o' : List ℕ} {count behind n : ℕ} → text_limit < length start
    → text_limit < length end
    → PairPrinted Shown (take (min count (length start)) start) (take (min behind (length end)) end) o o' n
    → OfAllRead (λ (s : List ℕ). OfAllRead (λ (t : List ℕ). PairPrinted Shown s t o o' n) end behind) start count
printed_of_read Shown {start} {end} {o} {o'} {count} {behind} {n} wide also p s r t q =
    let front = take (min count (length start)) start in
    let back = take (min behind (length end)) end in
    let out = p.right.outcome in
    record {
      report = p.report;
      right = record {
        outcome = out;
        right = for_start s front t out (stands_for r wide) (for_end front t back out (stands_for q also) p.right.right);
        prints = p.right.prints;
      };
      length_is = p.length_is;
      buffer = p.buffer;
    }
