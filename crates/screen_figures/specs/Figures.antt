-- What a caller from C or Rust gets of each job: a code, 0 for an answer or the table's number for a refusal, and figures.
use Rattle.answer.specs.declared.Refusal.{Refusal}
use Rattle.std.specs.Prelude.{Err, Ok, Result, Bool, true, false, List, [], ◌∷◌, ℕ, length}
use Rattle.std.proofs.lemmas.List.Edits.{sets}
use Rattle.answer.specs.Table.{number_of, figures_of}
use Rattle.answer.specs.declared.Keyword.{Keyword}
use Rattle.answer.specs.declared.Keyword.TheVariants.{Zero, One, Two, Few, Many, Other}
use Rattle.number.specs.declared.Number.{Number}

-- ---- the figures behind a call: how many there are, then they, stored from the front on; entries past them keep what they held

abbrev pub noted : List ℕ → List ℕ → List ℕ
noted figures before = sets before 0 (length figures ∷ figures)

-- ---- reading a number: its sign, e, v, i, f, w, t

abbrev pub sign_of : Bool → ℕ
sign_of false = 0
sign_of true = 1

abbrev pub operands_of : Number → List ℕ
operands_of x = sign_of x.negative ∷ x.e ∷ x.v.0 ∷ x.i ∷ x.f.0 ∷ x.w.0 ∷ x.t.0 ∷ []

abbrev pub read_code : Result Number Refusal → ℕ
read_code (Ok x) = 0
read_code (Err r) = number_of r

abbrev pub read_figures : Result Number Refusal → List ℕ
read_figures (Ok x) = operands_of x
read_figures (Err r) = figures_of r

-- ---- selection: the word's number

abbrev pub word_number : Keyword → ℕ
word_number Zero = 0
word_number One = 1
word_number Two = 2
word_number Few = 3
word_number Many = 4
word_number Other = 5

abbrev pub select_code : Result Keyword Refusal → ℕ
select_code (Ok k) = 0
select_code (Err r) = number_of r

abbrev pub select_figures : Result Keyword Refusal → List ℕ
select_figures (Ok k) = word_number k ∷ []
select_figures (Err r) = figures_of r

-- ---- the check: no figures where it passes

abbrev pub check_code : Result (Unit {0}) Refusal → ℕ
check_code (Ok tt) = 0
check_code (Err r) = number_of r

abbrev pub check_figures : Result (Unit {0}) Refusal → List ℕ
check_figures (Ok tt) = []
check_figures (Err r) = figures_of r

-- ---- printing: the text's length

abbrev pub print_code : Result ℕ Refusal → ℕ
print_code (Ok n) = 0
print_code (Err r) = number_of r

abbrev pub print_figures : Result ℕ Refusal → List ℕ
print_figures (Ok n) = n ∷ []
print_figures (Err r) = figures_of r
