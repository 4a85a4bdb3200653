-- Document 01, "The bench program": "Standard input, one job a line [..] A last line needs no LF."
use Rattle.std.specs.Prelude.{Err, Ok, Result, List, [], ◌∷◌, ◌++◌, ℕ, ltb, eqb, length, if◌then◌else◌}
use Rattle.decimal.specs.Digits.{numeral}
use Rattle.decimal.specs.Split.{on_first}
use Rattle.answer.specs.Table.{number_of, figures_of}
use Rattle.answer.specs.Words.{spelling}
use Rattle.answer.specs.declared.Keyword.{Keyword}
use Rattle.answer.specs.declared.Refusal.{Refusal}
use Rattle.answer.specs.declared.Refusal.TheVariants.{Print as OfPrint}
use Rattle.answer.specs.declared.PrintRow.TheVariants.{AreaTooShort}
use Rattle.print.specs.Outcome.{Outcome, outcome}
use Rattle.print.specs.Outcome.Outcome.{text, refused}
use Rattle.select_text.specs.Select.{select_of}
use Rattle.check_text.specs.Check.{check_pack}
use Rattle.line.specs.Cuts.{max_line}
use Rattle.line.specs.Jobs.{Job, job_of}
use Rattle.line.specs.Jobs.Job.{select, check, format, none}

-- the lines of an input, without their LF: none is left behind a last LF
abbrev pub lines : List ℕ → List (List ℕ)
lines [] = []
lines (b ∷ s) = if eqb b 10 then [] ∷ lines s else on_first b (lines s)

-- `? ` and a number
abbrev pub unread : ℕ → List ℕ
unread n = 63 ∷ 32 ∷ numeral n ++ (10 ∷ [])

-- numbers, each behind a space
abbrev pub spaced : List ℕ → List ℕ
spaced [] = []
spaced (n ∷ ns) = (32 ∷ numeral n) ++ spaced ns

-- "A refusal prints `!` after the letter, then its number and figures."
abbrev pub refusal_text : ℕ → Refusal → List ℕ
refusal_text letter r = ((letter ∷ 33 ∷ []) ++ spaced (number_of r ∷ figures_of r)) ++ (10 ∷ [])

-- `s` and the word
abbrev pub word_text : Keyword → List ℕ
word_text k = ((115 ∷ 32 ∷ []) ++ spelling k) ++ (10 ∷ [])

abbrev pub selection_text : Result Keyword Refusal → List ℕ
selection_text (Ok k) = word_text k
selection_text (Err r) = refusal_text 115 r

-- "A passed pack prints `c ok`."
abbrev pub check_text : Result (Unit {0}) Refusal → List ℕ
check_text (Ok tt) = 99 ∷ 32 ∷ 111 ∷ 107 ∷ 10 ∷ []
check_text (Err r) = refusal_text 99 r

-- "The program's output area has 2,048 bytes."
abbrev pub max_output : ℕ
max_output = 2048

-- `f` and the text
abbrev pub printed_text : List ℕ → List ℕ
printed_text t = ((102 ∷ 32 ∷ []) ++ t) ++ (10 ∷ [])

abbrev pub format_text : Outcome → List ℕ
format_text (text t) = if ltb max_output (length t) then refusal_text 102 (OfPrint (AreaTooShort (length t))) else printed_text t
format_text (refused r) = refusal_text 102 r

-- "`f`, pattern, number (standard symbols)": the house record is empty
abbrev pub job_text : Job → List ℕ
job_text (select pack number) = selection_text (select_of pack number)
job_text (check pack) = check_text (check_pack pack)
job_text (format pattern number) = format_text (outcome [] pattern number)
job_text none = unread 61

-- the answer to a line of at most 8,192 bytes: "any other line, one with a TAB inside a field too, `? 61`"
abbrev pub job_answer : List ℕ → List ℕ
job_answer line = job_text (job_of line)

-- "A line over 8,192 bytes, its LF not counted, answers `? 60`"
abbrev pub answer_to : List ℕ → List ℕ
answer_to line = if ltb max_line (length line) then unread 60 else job_answer line

abbrev pub answers_to : List (List ℕ) → List ℕ
answers_to [] = []
answers_to (line ∷ rest) = answer_to line ++ answers_to rest

-- what the program writes for an input
abbrev pub output : List ℕ → List ℕ
output s = answers_to (lines s)
