-- A symbol record without kind 71 prints what it printed before: the same text or the same refusal.
use Rattle.std.specs.Prelude.{Err, Ok, Result}
use Rattle.answer.specs.declared.Refusal.{Refusal}
use mathlib.Core.Path.{◌≡◌, refl, sym, ap, ◌∙◌}
use mathlib.Core.Bool.{false}
use mathlib.Core.List.{List, [], ◌∷◌}
use Prim.Native.Nat.{ℕ, ◌+◌, ◌<◌}
use native.Mathlib.Omega.{arith}
use borrow.Author.Tests.{ltb-true}
use lib.Dec.{ltb}
use lib.ListN.{length, get_or}
use Rattle.decimal.proofs.Choices.{tested, never}
use Rattle.pattern_token.specs.declared.Mark.{Mark}
use Rattle.pattern_token.specs.declared.Mark.TheVariants.{Minus as MinusMark, Plus as PlusMark, Percent as PercentMark, Permille as PermilleMark}
use Rattle.pattern_token.specs.declared.Item.{Item}
use Rattle.pattern_token.specs.declared.Item.TheVariants.{Text, Symbol as SymbolItem, Place, Quote, Semicolon, Reserved}
use Rattle.pattern_token.specs.Items.{items}
use Rattle.answer.specs.declared.SymbolRow.TheVariants.{NotASymbolRecord}
use Rattle.symbols.specs.declared.Symbol.{Symbol}
use Rattle.symbols.specs.declared.Symbol.TheVariants.{Decimal, Group, Minus, Plus, Percent, Permille, Minimum}
use Rattle.symbols.specs.Kinds.{upper_of}
use Rattle.symbols.specs.Entries.{broken, refuse, read_symbols, symbol_in, standard_record}
use Rattle.symbols_grammar.specs.Base.{NoMinimum, base_symbol}
use Rattle.symbols_grammar.proofs.Base.{base_read, base_symbol_law, base_minimum_law}
use Rattle.pattern_reader.specs.declared.Span.{Span}
use Rattle.pattern_reader.specs.declared.Pattern.{Pattern}
use Rattle.pattern_reader.specs.Reading.{read_pattern}
use Rattle.number.specs.declared.Number.{Number}
use Rattle.number.specs.Reading.{read_number}
use Rattle.layout.specs.Layout.{whole_digits, zero_digit, group_size, grouped}
use Rattle.layout.specs.Text.{symbol_of, render, rendered, part_of, affix_text, affixes_of, minimum_in, number_with, number_text, digits_of, text_of}
use Rattle.print.specs.Outcome.{after_number, after_pattern, after_symbols, outcome}
use Rattle.print_grammar.specs.Base.{base_text, base_number, base_pattern, base_judged, base_outcome}
use Rattle.print_grammar.proofs.Groups.{grouped_few, primary_plain}

-- ---- a minimum of 1 is the base's rule

size_one : (nought : ℕ) (g : List ℕ) (p q : ℕ) (d : List ℕ) → grouped nought g (group_size 1 p (length d)) q d ≡ grouped nought g p q d
size_one nought g p q d =
    tested (ltb (length d) (p + 1))
    (λ k.
    let h = ltb-true (length d) (p + 1) k in
    grouped_few nought g 1 p q d h ∙ sym (primary_plain nought g p q d (omega (arith, h))))
    (λ k. rw k)

number_one : (symbol : Symbol → List ℕ) (p : Pattern) (d : List ℕ) → minimum_in symbol ≡ 1 → number_text symbol p d ≡ number_with symbol (λ (digits : ℕ). p.primary) p d
number_one symbol p d e = rw (e, size_one zero_digit (symbol Group) p.primary p.secondary (whole_digits p.least p.most d))

-- ---- the minimum is no symbol that prints

module _ (f g : Symbol → List ℕ) (same : (y : Symbol) → (y ≡ Minimum → ⊥) → f y ≡ g y) where
  printed : (y : Symbol) → upper_of y < 7 → f y ≡ g y
  printed y l = same y (λ e. omega (arith, l, ap upper_of e))

  mark_same : (m : Mark) → f (symbol_of m) ≡ g (symbol_of m)
  mark_same MinusMark = printed Minus (omega arith)
  mark_same PlusMark = printed Plus (omega arith)
  mark_same PercentMark = printed Percent (omega arith)
  mark_same PermilleMark = printed Permille (omega arith)

  item_same : (t : Item) → render f t ≡ render g t
  item_same (Text b) = refl
  item_same (SymbolItem m) = mark_same m
  item_same (Place b) = refl
  item_same Quote = refl
  item_same Semicolon = refl
  item_same Reserved = refl

  items_same : (ts : List Item) → rendered f ts ≡ rendered g ts
  items_same [] = refl
  items_same (t ∷ ts) = rw (item_same t, items_same ts)

  affix_same : (s : List ℕ) (p : Span) → affix_text f s p ≡ affix_text g s p
  affix_same s p = items_same (items (part_of s p))

  text_same : (s : List ℕ) (p : Pattern) (n : Number) → base_text f s p n ≡ base_text g s p n
  text_same s p n =
      let a = affixes_of p n.negative in
      rw (
        printed Minus (omega arith),
        printed Decimal (omega arith),
        printed Group (omega arith),
        affix_same s a.prefix,
        affix_same s a.suffix,
      )

-- ---- the outcome

module _ (house s t : List ℕ) (h : NoMinimum house) where
  whole_record : read_symbols house ≡ Ok tt → broken house ≡ false
  whole_record g = tested (broken house) (λ k. never (differ (sym g ∙ rw k))) (λ k. k)
    where
      differ : (Ok tt) ≡ refuse NotASymbolRecord → ◌≡◌ {A = ℕ} 0 1
      differ e = cc

  text_before : read_symbols house ≡ Ok tt → (p : Pattern) (n : Number) → text_of (symbol_in house standard_record) s p n ≡ base_text (base_symbol house) s p n
  text_before g p n =
      let symbol = symbol_in house standard_record in
      let m : minimum_in symbol ≡ 1 = ap (λ (b : List ℕ). get_or b 0 0) (base_minimum_law house h (whole_record g)) in
      rw (number_one symbol p (digits_of p n) m) (text_same symbol (base_symbol house) (base_symbol_law house h) s p n)

  number_before : read_symbols house ≡ Ok tt → (p : Pattern) (r : Result Number Refusal) → after_number house s p r ≡ base_number house s p r
  number_before g p (Ok n) = rw (text_before g p n)
  number_before g p (Err r) = refl

  pattern_before : read_symbols house ≡ Ok tt → (r : Result Pattern Refusal) → after_pattern house s r t ≡ base_pattern house s r t
  pattern_before g (Ok p) = number_before g p (read_number t)
  pattern_before g (Err r) = refl

  judged_before : (j : Result (Unit {0}) Refusal) → read_symbols house ≡ j → after_symbols house j s t ≡ base_judged house j s t
  judged_before (Ok tt) g = pattern_before g (read_pattern s)
  judged_before (Err r) g = refl

  -- for every record without kind 71, every pattern and every number
  pub as_before : outcome house s t ≡ base_outcome house s t
  as_before = judged_before (read_symbols house) refl ∙ ap (λ (j : Result (Unit {0}) Refusal). base_judged house j s t) (base_read house h)
