-- As many bytes as were read of two files are in front of their buffers.
use Rattle.std.specs.Prelude.{ℕ, ◌≤◌, List, length}
use Rattle.named_files.specs.declared.Lengths.{Lengths}

abbrev pub BothInto : List ℕ → List ℕ → Lengths → Type 0
BothInto first second r = (r.first ≤ length first) × (r.second ≤ length second)
