-- The text that the definition gives is the one text that the relation allows.
use mathlib.Core.Path.{◌≡◌, refl, sym, ap, ◌∙◌, subst}
use mathlib.Core.Bool.{Bool, true, false}
use mathlib.Core.List.{List, [], ◌∷◌, ◌++◌, append_assoc}
use mathlib.Core.Logic.{◌↔◌}
use Prim.Native.Nat.{ℕ, ◌+◌, ◌≤◌, ◌<◌}
use native.Mathlib.Omega.{arith}
use lib.ListN.{length}
use Rattle.std.specs.Prelude.{Ok, if◌then◌else◌}
use Rattle.decimal.specs.Digits.{value}
use Rattle.decimal.proofs.Choices.{tested, not_both}
use Rattle.decimal.proofs.Figured.{length_figures, digits_figures}
use Rattle.symbols.specs.declared.Symbol.{Symbol}
use Rattle.symbols.specs.declared.Symbol.TheVariants.{Decimal, Group, Minus}
use Rattle.number.specs.declared.Number.{Number}
use Rattle.number.specs.Reading.{read_number}
use Rattle.pattern_reader.specs.declared.Span.{Span}
use Rattle.pattern_reader.specs.declared.Negative.{Negative}
use Rattle.pattern_reader.specs.declared.Negative.TheVariants.{MinusSymbol, Own}
use Rattle.pattern_reader.specs.declared.Pattern.{Pattern}
use Rattle.pattern_reader.specs.Limits.{max_whole, max_fraction}
use Rattle.pattern_reader.specs.Reading.{read_pattern}
use Rattle.pattern_grammar.proofs.Bounds.{read_bounds}
use Rattle.nearest.specs.Nearest.{units_of}
use Rattle.rounding.specs.Limits.{width}
use Rattle.nearest.proofs.Nearest.{units_permitted, permitted_only}
use Rattle.rounding.proofs.Arithmetic.{within_fits, units_room, value_room}
use Rattle.layout.specs.declared.Affixes.{Affixes}
use Rattle.layout.specs.Layout.{whole_digits, fraction_digits, zero_digit, spell, spelled, mark, group_size, grouped}
use Rattle.layout.specs.Text.{affix_text, negative_affixes, affixes_of, minimum_in, digits_of, text_of}
use Rattle.print_grammar.specs.Digits.{ShownDigits, SymbolStands}
use Rattle.print_grammar.proofs.Shown.{digits_shown, shown_only}
use Rattle.print_grammar.proofs.Groups.{mark_sound, mark_complete, grouped_none}
use Rattle.print_grammar.specs.Text.{AffixesText, Around, positive, minus, own, Grouped, none, plain, ended, point_before, PrintedText}
use Rattle.print.proofs.Ready.{ready_within}
use Rattle.print_grammar.specs.Clean.{CleanAffixes, PatternClean}
use Rattle.print_grammar.proofs.Cuts.{pattern_clean}
use Rattle.print_grammar.proofs.Affixes.{affix_text_law}

-- ---- groups

module _ (nought : ℕ) (group : List ℕ) (m p q n : ℕ) (some : 0 < p → 0 < q) where
  abbrev Stands : ℕ → Type 0
  Stands left = SymbolStands m p q n left

  abbrev size : ℕ
  size = group_size m p n

  groups_are : {d t : List ℕ} → Grouped nought group Stands d t → t ≡ grouped nought group size q d
  groups_are none = refl
  groups_are (plain {d} {ds} {t} f g) =
      tested (mark size q (length ds)) (λ k. absurd (f (mark_sound m p q n (length ds) k)))
      (λ k. rw k (ap (λ (l : List ℕ). spell nought d ++ l) (groups_are g)))
  groups_are (ended {d} {ds} {t} e g) =
      rw (mark_complete m p q n (length ds) (some e.ends.some) e) (ap (λ (l : List ℕ). spell nought d ++ (group ++ l)) (groups_are g))

  groups_made : (d : List ℕ) → Grouped nought group Stands d (grouped nought group size q d)
  groups_made [] = none
  groups_made (b ∷ d) =
      tested (mark size q (length d)) (λ k. rw k (ended (mark_sound m p q n (length d) k) (groups_made d)))
      (λ k. rw k (plain (λ e. not_both (mark_complete m p q n (length d) (some e.ends.some) e) k) (groups_made d)))

  pub grouped_text : (d t : List ℕ) → Grouped nought group Stands d t ↔ (t ≡ grouped nought group size q d)
  grouped_text d t = (groups_are, λ e. subst (Grouped nought group Stands d) (sym e) (groups_made d))

-- ---- what stands around the digits

module _ (symbol : Symbol → List ℕ) (s : List ℕ) where
  affixes_are : {before behind : Span} {prefix suffix : List ℕ} → CleanAffixes s before behind → AffixesText symbol s before behind prefix suffix
      → (prefix ≡ affix_text symbol s before) × (suffix ≡ affix_text symbol s behind)
  affixes_are {prefix = prefix} {suffix = suffix} c a =
      ((affix_text_law symbol c.prefix prefix).0 a.prefix_text, (affix_text_law symbol c.suffix suffix).0 a.suffix_text)

  affixes_made : {before behind : Span} → CleanAffixes s before behind → AffixesText symbol s before behind (affix_text symbol s before) (affix_text symbol s behind)
  affixes_made {before} {behind} c =
      record {
        prefix_text = (affix_text_law symbol c.prefix (affix_text symbol s before)).1 refl;
        suffix_text = (affix_text_law symbol c.suffix (affix_text symbol s behind)).1 refl;
      }

  -- by the affixes chosen for a sign
  abbrev sign_of : Affixes → List ℕ
  sign_of a = if a.minus then symbol Minus else []

  abbrev AroundAs : Pattern → Bool → Affixes → Type 0
  AroundAs p negative a = Around symbol s p negative (sign_of a) (affix_text symbol s a.prefix) (affix_text symbol s a.suffix)

  around_made : (p : Pattern) → PatternClean s p → (negative : Bool) → AroundAs p negative (affixes_of p negative)
  around_made p c false = positive (affixes_made c.positive)
  around_made p c true = by p.negative refl
    where
      by : (n : Negative) → p.negative ≡ n → AroundAs p true (negative_affixes p n)
      by MinusSymbol e = minus e (affixes_made c.positive)
      by (Own before behind) e = own before behind e (affixes_made (c.negative before behind e))

  around_are : {p : Pattern} {negative : Bool} {sign prefix suffix : List ℕ} → PatternClean s p → Around symbol s p negative sign prefix suffix
      → let a = affixes_of p negative in (sign ≡ sign_of a) × (prefix ≡ affix_text symbol s a.prefix) × (suffix ≡ affix_text symbol s a.suffix)
  around_are c (positive a) = let x = affixes_are c.positive a in (refl, x.0, x.1)
  around_are c (minus e a) = let x = affixes_are c.positive a in rw e (refl, x.0, x.1)
  around_are c (own before behind e a) = let x = affixes_are (c.negative before behind e) a in rw e (refl, x.0, x.1)

-- ---- the text

-- its parts, in the order of the relation
laid_out : (nought : ℕ) (sign prefix integer point fraction suffix : List ℕ)
    → sign ++ (prefix ++ ((integer ++ (point ++ grouped nought [] 0 0 fraction)) ++ suffix)) ≡ sign ++ (prefix ++ (integer ++ (point ++ (spelled nought fraction ++ suffix))))
laid_out nought sign prefix integer point fraction suffix = rw (grouped_none nought [] 0 fraction) (simp append_assoc)

-- the printed value, in units of the last fraction place
abbrev units_in : Pattern → Number → ℕ
units_in p n = units_of p.step p.factor p.most n.i n.v.0 n.f.0

-- and the digits that have room for it
room : (p : Pattern) (n : Number) → p.least ≤ max_whole → p.most ≤ max_fraction → p.least + p.most ≤ length (digits_of p n)
room p n h k = rw (length_figures width (units_in p n)) (omega arith)

module _ (s t : List ℕ) (p : Pattern) (n : Number) (ep : read_pattern s ≡ Ok p) (en : read_number t ≡ Ok n) where
  -- the digits of the definition are those shown of the printed value
  digits_are_shown : ShownDigits p.least p.fraction p.most (units_in p n) (whole_digits p.least p.most (digits_of p n)) (fraction_digits p.fraction p.most (digits_of p n))
  digits_are_shown =
      let b = read_bounds s p ep in
      let u = units_in p n in
      let fits = within_fits p.step p.factor p.most n.i n.v.0 n.f.0 (ready_within s t p n ep en) in
      let worth : value (digits_of p n) ≡ u = value_room width u (units_room p.step p.factor p.most n.i n.v.0 n.f.0 fits) in
      rw worth at (digits_shown p.least p.fraction p.most (digits_of p n) (digits_figures width u) (room p n b.least_most b.most_most) b.fraction_most)

  module _ (symbol : Symbol → List ℕ) where
    text_printed : PrintedText symbol s p n (text_of symbol s p n)
    text_printed =
        let b = read_bounds s p ep in
        let a = affixes_of p n.negative in
        let w = whole_digits p.least p.most (digits_of p n) in
        let f = fraction_digits p.fraction p.most (digits_of p n) in
        let i = grouped zero_digit (symbol Group) (group_size (minimum_in symbol) p.primary (length w)) p.secondary w in
        record {
          units = units_in p n;
          permitted = units_permitted p.step p.factor p.most n.i n.v.0 n.f.0 b.step_least;
          whole = w;
          fraction = f;
          shown = digits_are_shown;
          integer = i;
          is_grouped = (grouped_text zero_digit (symbol Group) (minimum_in symbol) p.primary p.secondary (length w) b.secondary_least w i).1 refl;
          sign = sign_of symbol s a;
          prefix = affix_text symbol s a.prefix;
          suffix = affix_text symbol s a.suffix;
          around = around_made symbol s p (pattern_clean s p ep) n.negative;
          is_text = laid_out zero_digit (sign_of symbol s a) (affix_text symbol s a.prefix) i (point_before (symbol Decimal) f) f (affix_text symbol s a.suffix);
        }

    text_only : {text : List ℕ} → PrintedText symbol s p n text → text ≡ text_of symbol s p n
    text_only {text} x =
        let b = read_bounds s p ep in
        let a = affixes_of p n.negative in
        let w = whole_digits p.least p.most (digits_of p n) in
        let f = fraction_digits p.fraction p.most (digits_of p n) in
        let i = grouped zero_digit (symbol Group) (group_size (minimum_in symbol) p.primary (length w)) p.secondary w in
        let u : x.units ≡ units_in p n =
        permitted_only p.step p.factor p.most n.i n.v.0 n.f.0 x.units (units_in p n) b.step_least
        x.permitted (units_permitted p.step p.factor p.most n.i n.v.0 n.f.0 b.step_least) in
        let d = shown_only (rw u at x.shown) digits_are_shown in
        let g : x.integer ≡ i =
        (grouped_text zero_digit (symbol Group) (minimum_in symbol) p.primary p.secondary (length x.whole) b.secondary_least x.whole x.integer).0
        x.is_grouped
        ∙ ap (λ (z : List ℕ). grouped zero_digit (symbol Group) (group_size (minimum_in symbol) p.primary (length z)) p.secondary z) d.0 in
        let r = around_are symbol s (pattern_clean s p ep) x.around in
        x.is_text
        ∙ (rw (r.0, r.1, r.2, g, d.1)
        (sym (laid_out zero_digit (sign_of symbol s a) (affix_text symbol s a.prefix) i (point_before (symbol Decimal) f) f (affix_text symbol s a.suffix))))

    -- of a pattern and a number that are read, the text of the definition is a printed text, and there is no other
    pub printed_text : (text : List ℕ) → PrintedText symbol s p n text ↔ (text ≡ text_of symbol s p n)
    printed_text text = (text_only, λ e. subst (PrintedText symbol s p n) (sym e) text_printed)
