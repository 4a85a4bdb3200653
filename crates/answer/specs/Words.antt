-- Document 01: "Keywords: zero, one, two, few, many, other".
use Rattle.std.specs.Prelude.{List, [], ◌∷◌, ℕ}
use Rattle.answer.specs.declared.Keyword.{Keyword}
use Rattle.answer.specs.declared.Keyword.TheVariants.{Zero, One, Two, Few, Many, Other}

abbrev pub spelling : Keyword → List ℕ
spelling Zero = 122 ∷ 101 ∷ 114 ∷ 111 ∷ []
spelling One = 111 ∷ 110 ∷ 101 ∷ []
spelling Two = 116 ∷ 119 ∷ 111 ∷ []
spelling Few = 102 ∷ 101 ∷ 119 ∷ []
spelling Many = 109 ∷ 97 ∷ 110 ∷ 121 ∷ []
spelling Other = 111 ∷ 116 ∷ 104 ∷ 101 ∷ 114 ∷ []
