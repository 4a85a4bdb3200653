-- `utf8::all_continue` answers whether all bytes are from 80 to BF.
use mathlib.Core.Path.{◌≡◌, refl, ◌∙◌}
use mathlib.Core.Bool.{Bool, true, false}
use mathlib.Core.List.{List, [], ◌∷◌}
use Prim.Native.Nat.{ℕ}
use lib.Dec.{ltb}
use Rattle.std.specs.List.{list_all}
use Rattle.std.specs.Prelude.{if◌then◌else◌}
use Rattle.std.proofs.Common.{rules, tests}
use Rattle.std.proofs.lemmas.Iterator.{YieldsList-from_slice}
use Rattle.std.proofs.lemmas.Iterator.Search.{all_from_yields_List}
use Rattle.decimal.proofs.Choices.{tested}
use Rattle.utf8.specs.Utf8.{continues}
use Rattle.utf8.proofs.all_continue.Goals as goal

abbrev behind : ℕ → Bool
behind b = if ltb b 0x80 then false else if ltb 0xBF b then false else true

all_behind : (s : List ℕ) → list_all behind s ≡ continues s
all_behind [] = refl
all_behind (b ∷ s) = tested (ltb b 0x80) (λ k. rw k) (λ k. rw k (tested (ltb 0xBF b) (λ j. rw j) (λ j. rw j (all_behind s))))

pub returns : goal.returns
returns c =
    all_from_yields_List behind _ _ _ c.all.ensures.ran (YieldsList-from_slice c.args.s.now cc) (λ x b q k. search (rules, tests)) ∙ all_behind c.args.s.now
