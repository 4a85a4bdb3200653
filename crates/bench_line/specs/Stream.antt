-- The input in pieces: what is still to be written.
use Rattle.std.specs.Prelude.{Bool, List, ◌++◌, ℕ, ◌+◌, drop, if◌then◌else◌}
use Rattle.line.specs.Cuts.{line_length}
use Rattle.bench_line.specs.Lines.{unread, answer_to, output}

-- the answer to a line of which a part may have been dropped
abbrev pub cut_answer : Bool → List ℕ → List ℕ
cut_answer long line = if long then unread 60 else answer_to line

-- what is still to be written when the bytes s are all that is left of the input
abbrev pub pending : Bool → List ℕ → List ℕ
pending long s = if long then unread 60 ++ output (drop (line_length s + 1) s) else output s
