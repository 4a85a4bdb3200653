-- What a caller of an entry gets: 0 with the figures of the answer, or the number of a refusal with the figures that the table names.
use Rattle.std.specs.Prelude.{Err, Ok, ◌≡◌, List, [], ◌∷◌, ◌⊎◌, ℕ, ◌≤◌}
use Rattle.answer.specs.Table.{number_of, figures_of}
use Rattle.answer.specs.declared.Keyword.{Keyword}
use Rattle.answer.specs.declared.Refusal.{Refusal}
use Rattle.number.specs.declared.Number.{Number}
use Rattle.screen_figures.specs.Figures.{operands_of, word_number}
use Rattle.demands.specs.Verdicts.{NumberVerdict, SelectVerdict, CheckVerdict, PrintVerdict}

pub data Comes (Answer : List ℕ → Type 0) (Refuses : Refusal → Type 0) : ℕ → List ℕ → Type 0 where
  answer : (figures : List ℕ) → Answer figures → Comes Answer Refuses 0 figures
  refusal : (r : Refusal) → Refuses r → Comes Answer Refuses (number_of r) (figures_of r)

-- `okw_read_number`: sign, e, v, i, f, w, t
abbrev pub NumberComes : List ℕ → ℕ → List ℕ → Type 0
NumberComes s =
    Comes (λ (fs : List ℕ). (x : Number) × (NumberVerdict s (Ok x) × (fs ≡ operands_of x))) (λ (r : Refusal). NumberVerdict s (Err r))

-- `okw_select`: the word's number
abbrev pub SelectComes : List ℕ → List ℕ → ℕ → List ℕ → Type 0
SelectComes pack number =
    Comes (λ (fs : List ℕ). (k : Keyword) × (SelectVerdict pack number (Ok k) × (fs ≡ word_number k ∷ [])))
    (λ (r : Refusal). SelectVerdict pack number (Err r))

-- `okw_check`: nothing
abbrev pub CheckComes : List ℕ → ℕ → List ℕ → Type 0
CheckComes pack = Comes (λ (fs : List ℕ). CheckVerdict pack (Ok tt) × (fs ≡ [])) (λ (r : Refusal). CheckVerdict pack (Err r))

-- `okw_print`, which leaves the area `after`: the text's length; a refusal leaves the area as it was
abbrev pub PrintComes : List ℕ → List ℕ → List ℕ → List ℕ → List ℕ → ℕ → List ℕ → Type 0
PrintComes house s t area after =
    Comes (λ (fs : List ℕ). (n : ℕ) × (PrintVerdict house s t area (Ok n) after × (fs ≡ n ∷ [])))
    (λ (r : Refusal). PrintVerdict house s t area (Err r) area × (after ≡ area))

-- a code that is 0 or within a part of the table
abbrev pub Within : ℕ → ℕ → ℕ → Type 0
Within lo hi c = (lo ≤ c) × (c ≤ hi)

abbrev pub ZeroOr : Type 0 → ℕ → Type 0
ZeroOr A c = (c ≡ 0) ⊎ A
