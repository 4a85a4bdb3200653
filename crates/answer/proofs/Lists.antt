-- The count of a short list fits its array: what the count takes of the array is the list.
use mathlib.Core.Path.{◌≡◌, refl, ap, ◌∙◌}
use lib.ListN.{length, take}
use Rattle.answer.specs.declared.FigureList.{FigureList}
use Rattle.answer.specs.declared.Letters.{Letters}
use Rattle.answer.specs.declared.Keyword.{Keyword}
use Rattle.answer.specs.declared.Keyword.TheVariants.{Zero, One, Two, Few, Many, Other}
use Rattle.answer.specs.declared.Refusal.{Refusal}
use Rattle.answer.specs.declared.Refusal.TheVariants.{Number, PackTooLong, Pack, Rules, Pattern, Symbols, Print}
use Rattle.answer.specs.declared.RulesRow.TheVariants.{TwoRulesMet, RulesClash}
use Rattle.answer.specs.declared.PrintRow.TheVariants.{PrintedExponent, AreaTooShort}
use Rattle.answer.specs.Table.{figures_of}
use Rattle.answer.specs.Words.{spelling}
use Rattle.answer.specs.Lists.{padded, max_figures, figure_list, letter_list}

figures_taken : (r : Refusal) → take (length (figures_of r)) (padded max_figures (figures_of r)) ≡ figures_of r
figures_taken (Number row) = refl
figures_taken PackTooLong = refl
figures_taken (Pack row at) = refl
figures_taken (Rules (TwoRulesMet pair)) = refl
figures_taken (Rules (RulesClash pair x)) = refl
figures_taken (Pattern row) = refl
figures_taken (Symbols row) = refl
figures_taken (Print PrintedExponent) = refl
figures_taken (Print (AreaTooShort n)) = refl

pub figures_told : (l : FigureList) (r : Refusal) → l ≡ figure_list (figures_of r) → take l.count l.values ≡ figures_of r
figures_told l r e = ap (λ (m : FigureList). take m.count m.values) e ∙ figures_taken r

letters_taken : (k : Keyword) → take (length (spelling k)) (padded 5 (spelling k)) ≡ spelling k
letters_taken Zero = refl
letters_taken One = refl
letters_taken Two = refl
letters_taken Few = refl
letters_taken Many = refl
letters_taken Other = refl

pub letters_told : (l : Letters) (k : Keyword) → l ≡ letter_list (spelling k) → take l.len l.letters ≡ spelling k
letters_told l k e = ap (λ (m : Letters). take m.len m.letters) e ∙ letters_taken k
