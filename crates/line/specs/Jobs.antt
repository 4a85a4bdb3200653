-- Document 01: "`s`, pack, number; `c`, pack; `f`, pattern, number (standard symbols); fields parted by one TAB."
use Rattle.std.specs.Prelude.{Bool, false, List, [], ℕ, ◌+◌, ltb, eqb, length, get_or, take, drop, if◌then◌else◌}
use Rattle.decimal.specs.Choice.{both}
use Rattle.decimal.specs.Split.{split, until}
use Rattle.line.specs.declared.JobCut.{JobCut}
use Rattle.line.specs.declared.JobCut.TheVariants.{SelectAt, CheckAt, FormatAt, Unknown}

pub data Job : Type 0 where
  select : (pack number : List ℕ) → Job
  check : (pack : List ℕ) → Job
  format : (pattern number : List ℕ) → Job
  none : Job

-- so many fields, of which the first is this letter
abbrev pub is_job : ℕ → ℕ → List (List ℕ) → Bool
is_job letter count fields =
    both (eqb (length fields) count)
    (both (eqb (length (get_or fields 0 [])) 1) (eqb (get_or (get_or fields 0 []) 0 0) letter))

abbrev pub job_in : List (List ℕ) → Job
job_in fields =
    if is_job 115 3 fields then select (get_or fields 1 []) (get_or fields 2 []) else
    if is_job 99 2 fields then check (get_or fields 1 []) else
    if is_job 102 3 fields then format (get_or fields 1 []) (get_or fields 2 []) else
    none

-- the job of a line
abbrev pub job_of : List ℕ → Job
job_of line = job_in (split 9 line)

-- the job whose fields are parts of the text s behind the letter and its TAB
abbrev pub job_at : List ℕ → JobCut → Job
job_at s (SelectAt n) = select (take n s) (drop (n + 1) s)
job_at s CheckAt = check s
job_at s (FormatAt n) = format (take n s) (drop (n + 1) s)
job_at s Unknown = none

-- ---- the job by its letter and the lengths of its fields, as it is read

abbrev pub job_with : ℕ → ℕ → Bool → Bool → JobCut
job_with letter n one two =
    if eqb letter 99 then (if one then CheckAt else Unknown) else
    if two then (if eqb letter 115 then SelectAt n else if eqb letter 102 then FormatAt n else Unknown) else
    Unknown

-- behind the first field of n bytes stands a second, and no third
abbrev pub last_field : ℕ → List ℕ → Bool
last_field n s = if ltb n (length s) then eqb (until 9 (drop (n + 1) s)) (length (drop (n + 1) s)) else false
