-- What was read of a text, shown of something: a promise over every text of which something was read speaks of the front itself, and, where the
-- buffer is full, of every text that begins with it. Nothing here is to be believed; it holds `ReadOf` to what it is for.
use Rattle.std.specs.Prelude.{ℕ, ◌≤◌, List, [], ◌++◌, refl, length, take}
use Rattle.std.proofs.Common.{append-nil, sym, ap, arith, take_all}
use Rattle.meaning.specs.Report.{ReadOf}

-- the front itself is such a text
pub front_read : (buffer : List ℕ) (count : ℕ) → ReadOf (take count buffer) buffer count
front_read buffer count = record { rest = []; front = sym (append-nil (take count buffer)); ended = λ below. refl }

-- and where the buffer is full, so is every text that begins with it
pub longer_read : (buffer rest : List ℕ) (count : ℕ) → length buffer ≤ count → ReadOf (buffer ++ rest) buffer count
longer_read buffer rest count full = record {
  rest = rest;
  front = ap (λ (l : List ℕ). l ++ rest) (sym (take_all count buffer full));
  ended = λ below. absurd (omega arith);
}
