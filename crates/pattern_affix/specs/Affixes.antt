-- What is asked of a pattern's items: reserved bytes, affixes, percent and permille marks.
use Rattle.std.specs.Prelude.{Bool, true, false, not, List, [], ◌∷◌, ℕ, zero, suc, ◌+◌, ◌-◌, eqb, if◌then◌else◌}
use Rattle.pattern_token.specs.declared.Mark.{Mark}
use Rattle.pattern_token.specs.declared.Mark.TheVariants.{Minus, Plus, Percent, Permille}
use Rattle.pattern_token.specs.declared.Item.{Item}
use Rattle.pattern_token.specs.declared.Item.TheVariants.{Text, Symbol, Place, Quote, Semicolon, Reserved}
use Rattle.pattern_affix.specs.declared.Affix.{Affix}
use Rattle.pattern_token.specs.Items.{token_at, quoted_after, is_number}

-- ---- 32: "bare `¤`, `*`, `@`, or `E` after a number-part byte"

abbrev pub reserves : Item → Bool
reserves Reserved = true
reserves (Text b) = false
reserves (Symbol m) = false
reserves (Place b) = false
reserves Quote = false
reserves Semicolon = false

abbrev pub any_reserved : List Item → Bool
any_reserved [] = false
any_reserved (t ∷ ts) = if reserves t then true else any_reserved ts

-- ---- affixes

-- an affix ends before a bare number-part byte and before a bare `;`
abbrev pub ends_affix : Item → Bool
ends_affix (Place b) = true
ends_affix Semicolon = true
ends_affix Reserved = false
ends_affix (Text b) = false
ends_affix (Symbol m) = false
ends_affix Quote = false

abbrev pub longer : Affix → Affix
longer a = record { len = suc a.len; closed = a.closed }

-- How many bytes the affix has that a text begins with, and whether it leaves no quote open; the first `skip` bytes belong to the token before.
abbrev pub affix_from : Bool → Bool → ℕ → List ℕ → Affix
affix_from quoted number skip [] = record { len = 0; closed = not quoted }
affix_from quoted number (suc skip) (b ∷ s) = longer (affix_from quoted number skip s)
affix_from quoted number zero (b ∷ s) =
    let t = token_at quoted number (b ∷ s) in
    if ends_affix t.item
    then record { len = 0; closed = true }
    else longer (affix_from (quoted_after quoted t.item) (is_number t.item) (t.width - 1) s)

abbrev pub affix : List ℕ → Affix
affix s = affix_from false false 0 s

-- ---- marks

-- a mark by the upper half of its symbol's kind
abbrev pub mark_number : Mark → ℕ
mark_number Minus = 3
mark_number Plus = 4
mark_number Percent = 5
mark_number Permille = 6

-- 1 where the item is this mark
abbrev pub weight : Mark → Item → ℕ
weight m (Symbol k) = if eqb (mark_number k) (mark_number m) then 1 else 0
weight m (Text b) = 0
weight m (Place b) = 0
weight m Quote = 0
weight m Semicolon = 0
weight m Reserved = 0

-- how often the mark stands among the items
abbrev pub marks : Mark → List Item → ℕ
marks m [] = 0
marks m (t ∷ ts) = weight m t + marks m ts
