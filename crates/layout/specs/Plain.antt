-- Bytes that stand for themselves wherever they stand: an affix of such bytes prints itself, and no item need be read.
use Rattle.std.specs.Prelude.{Bool, true, false, List, [], ◌∷◌, ℕ, ltb, eqb, if◌then◌else◌}

-- a space, `$`, and the bytes from `F` on but for those that `¤` and `‰` begin with
abbrev pub is_plain : ℕ → Bool
is_plain b =
    if eqb b 32 then true else
    if eqb b 36 then true else
    if ltb b 70 then false else
    if eqb b 0xC2 then false else
    if eqb b 0xE2 then false else
    true

abbrev pub plain : List ℕ → Bool
plain [] = true
plain (b ∷ s) = if is_plain b then plain s else false
