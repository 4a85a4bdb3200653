-- A short list as a count and an array: the list's elements, and zeros behind them.
use Rattle.std.specs.Prelude.{List, [], ◌∷◌, ℕ, zero, suc, length}
use Rattle.answer.specs.declared.FigureList.{FigureList}
use Rattle.answer.specs.declared.Letters.{Letters}

-- the first n of a list, with zeros behind its end
abbrev pub padded : ℕ → List ℕ → List ℕ
padded zero l = []
padded (suc n) [] = 0 ∷ padded n []
padded (suc n) (x ∷ l) = x ∷ padded n l

-- no row has more figures
abbrev pub max_figures : ℕ
max_figures = 7

-- a refusal's figures
abbrev pub figure_list : List ℕ → FigureList
figure_list l = record { count = length l; values = padded max_figures l }

-- a keyword's letters: none has more than five
abbrev pub letter_list : List ℕ → Letters
letter_list l = record { len = length l; letters = padded 5 l }
