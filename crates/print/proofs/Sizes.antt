-- How long a text is at most: an item of an affix prints at most a symbol, and so does the place behind a digit.
use mathlib.Core.Bool.{Bool, true, false}
use mathlib.Core.List.{List, [], ◌∷◌, ◌++◌}
use Prim.Native.Nat.{ℕ, zero, suc, ◌+◌, ◌*◌, ◌-◌, ◌≤◌, min, max}
use native.Mathlib.Omega.{arith}
use lib.Dec.{ltb}
use lib.ListN.{length, take, drop, length-append, length-take, length-drop}
use Rattle.std.specs.Prelude.{if◌then◌else◌}
use Rattle.decimal.specs.Digits.{lead, trim}
use Rattle.pattern_token.specs.declared.Item.{Item}
use Rattle.pattern_token.specs.declared.Item.TheVariants.{Text, Symbol as SymbolItem, Place, Quote, Semicolon, Reserved}
use Rattle.pattern_token.specs.Items.{token_at, quoted_after, is_number, items_from, items}
use Rattle.symbols.specs.declared.Symbol.{Symbol}
use Rattle.symbols.specs.declared.Symbol.TheVariants.{Decimal, Group, Minus}
use Rattle.pattern_reader.specs.declared.Span.{Span}
use Rattle.pattern_reader.specs.declared.Pattern.{Pattern}
use Rattle.layout.specs.declared.Affixes.{Affixes}
use Rattle.layout.specs.Layout.{whole_digits, fraction_digits, zero_digit, spell, mark, group_size, grouped}
use Rattle.layout.proofs.Spelling.{spell_four}
use Rattle.layout.specs.Text.{symbol_of, render, rendered, part_of, affix_text, minimum_in, laid_out}

-- ---- affixes

items_size : (q n : Bool) (k : ℕ) (s : List ℕ) → length (items_from q n k s) ≤ length s
items_size q n k [] = omega arith
items_size q n (suc k) (b ∷ s) = omega (arith, items_size q n k s)
items_size q n zero (b ∷ s) =
    let t = token_at q n (b ∷ s) in
    omega (arith, items_size (quoted_after q t.item) (is_number t.item) (t.width - 1) s)

module _ (symbol : Symbol → List ℕ) (four : (y : Symbol) → length (symbol y) ≤ 4) where
  render_size : (t : Item) → length (render symbol t) ≤ 4
  render_size (Text b) = omega arith
  render_size (SymbolItem m) = four (symbol_of m)
  render_size (Place b) = omega arith
  render_size Quote = omega arith
  render_size Semicolon = omega arith
  render_size Reserved = omega arith

  rendered_size : (ts : List Item) → length (rendered symbol ts) ≤ 4 * length ts
  rendered_size [] = omega arith
  rendered_size (t ∷ ts) = omega (arith, length-append (render symbol t) (rendered symbol ts), render_size t, rendered_size ts)

  affix_size : (s : List ℕ) (p : Span) → length (affix_text symbol s p) ≤ 4 * length s
  affix_size s p =
      let x = part_of s p in
      omega (arith, rendered_size (items x), items_size false false 0 x, length-take p.len (drop p.start s), length-drop p.start s)

-- ---- digits

if_size : (b : Bool) (g : List ℕ) → length (if b then g else []) ≤ length g
if_size true g = omega arith
if_size false g = omega arith

-- at most four bytes of a digit, and four of the symbol behind it
grouped_size : (digit : ℕ) (g : List ℕ) (p q : ℕ) (d : List ℕ) → length g ≤ 4 → length (grouped digit g p q d) ≤ 8 * length d
grouped_size digit g p q [] h = omega arith
grouped_size digit g p q (x ∷ d) h =
    let m = if mark p q (length d) then g else [] in
    let r = grouped digit g p q d in
    omega (
      arith,
      length-append (spell digit x) (m ++ r),
      length-append m r,
      spell_four digit x,
      if_size (mark p q (length d)) g,
      grouped_size digit g p q d h,
    )

whole_size : (least n : ℕ) (d : List ℕ) → length (whole_digits least n d) ≤ length d
whole_size least n d =
    let s = take (length d - n) d in
    omega (arith, length-drop (min (lead s) (length s - least)) s, length-take (length d - n) d)

fraction_size : (least n : ℕ) (d : List ℕ) → length (fraction_digits least n d) ≤ length d
fraction_size least n d =
    let s = drop (length d - n) d in
    omega (arith, length-take (max least (length (trim s))) s, length-drop (length d - n) d)

pub text_size : (symbol : Symbol → List ℕ) (s : List ℕ) (p : Pattern) (a : Affixes) (d : List ℕ) → ((y : Symbol) → length (symbol y) ≤ 4)
    → length (laid_out symbol s p a d) ≤ 8 + 8 * length s + 16 * length d
text_size symbol s p a d four =
    let m = if a.minus then symbol Minus else [] in
    let w = whole_digits p.least p.most d in
    let f = fraction_digits p.fraction p.most d in
    let size = group_size (minimum_in symbol) p.primary (length w) in
    let i = grouped zero_digit (symbol Group) size p.secondary w in
    let point = if ltb 0 (length f) then symbol Decimal else [] in
    let g = grouped zero_digit [] 0 0 f in
    let x = affix_text symbol s a.prefix in
    let y = affix_text symbol s a.suffix in
    let n = i ++ (point ++ g) in
    omega (
      arith,
      length-append m (x ++ (n ++ y)),
      length-append x (n ++ y),
      length-append n y,
      length-append i (point ++ g),
      length-append point g,
      if_size a.minus (symbol Minus),
      four Minus,
      if_size (ltb 0 (length f)) (symbol Decimal),
      four Decimal,
      grouped_size zero_digit (symbol Group) size p.secondary w (four Group),
      grouped_size zero_digit [] 0 0 f (omega arith),
      whole_size p.least p.most d,
      fraction_size p.fraction p.most d,
      affix_size symbol four s a.prefix,
      affix_size symbol four s a.suffix,
    )
