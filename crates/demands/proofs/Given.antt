-- The verdicts of specs/Verdicts.antt are those of the definitions that the entries' contracts cite: `..-given`, no other verdict can be had, and
-- `..-found`, one always is.
use Rattle.check_laws.specs.declared.Clash.{Clash}
use Rattle.check_laws.specs.Check.{clashing}
use Rattle.std.specs.Prelude.{Err, Ok, Result}
use Rattle.answer.specs.declared.Keyword.{Keyword}
use mathlib.Core.Path.{◌≡◌, refl, sym, ap, ◌∙◌, subst, fun_ext}
use mathlib.Core.Bool.{Bool, true, false}
use mathlib.Core.List.{List, []}
use mathlib.Core.Logic.{◌⊎◌, inl, inr}
use Prim.Native.Nat.{ℕ, ◌+◌, ◌≤◌, ◌<◌}
use native.Mathlib.Omega.{arith}
use lib.Dec.{ltb}
use borrow.Author.Tests.{lt-ltb, le-ltb, ltb-true, ltb-false}
use lib.ListN.{length}
use Rattle.decimal.proofs.Choices.{choice, tested, not_both}
use Rattle.answer.specs.declared.PackRow.{PackRow}
use Rattle.answer.specs.declared.PackRow.TheVariants.{NotAPack, ValueTooLarge, UnlistedModulus, RangeReversed, BadKeyword, TooMany}
use Rattle.answer.specs.declared.Place.{Place}
use Rattle.answer.specs.declared.Pair.{Pair}
use Rattle.answer.specs.declared.Witness.{Witness}
use Rattle.answer.specs.declared.Refusal.{Refusal}
use Rattle.answer.specs.declared.Refusal.TheVariants.{Number, PackTooLong, Pack, Rules as OfRules, Pattern as OfPattern, Symbols, Print as OfPrint}
use Rattle.number.specs.Reading.{read_number}
use Rattle.number.specs.declared.Number.{Number as Operands}
use Rattle.number.proofs.Table.{Told, given_if, read_if, told as number-told}
use Rattle.number.proofs.Table.Told.{row as told-row, number as told-number}
use Rattle.pack_rules.specs.Syntax.{Rule}
use Rattle.pack_grammar.specs.Limits.{max_bytes}
use Rattle.pack_grammar.specs.Reader.{Parsed, Fault, PackAnswer, refused_at, row_of, judge, read_pack, rules_from, fault_from, segments}
use Rattle.pack_grammar.specs.Reader.Parsed.{Trees, Bad}
use Rattle.pack_grammar.specs.Reader.Fault.{None, At}
use Rattle.pack_grammar.specs.Reader.PackAnswer.{Rules, Refused as PackRefused}
use Rattle.pack_grammar.proofs.Table.{row_20, row_21, rows_22_26, read_rules}
use Rattle.select.specs.Select.{selection}
use Rattle.select.proofs.Chosen.{told, only_told}
use Rattle.select_text.specs.Select.{select_number, select_rules, select_of}
use Rattle.check_laws.specs.Check.{check_of}
use Rattle.check_laws.specs.Claims.{Before, Claims, Lowest}
use Rattle.check_laws.proofs.Claimed.{check_claims, apart_passes}
use Rattle.check_text.specs.Check.{checked_by, check_rules, check_pack}
use Rattle.symbols.specs.declared.Symbol.{Symbol}
use Rattle.symbols.specs.Entries.{symbol_in, standard_record}
use Rattle.symbols_grammar.specs.Record.{Verdict as SymbolsVerdict}
use Rattle.symbols_grammar.proofs.Records.{verdict_given as symbols-given, verdict_found as symbols-found, symbol_is}
use Rattle.pattern_reader.specs.declared.Pattern.{Pattern}
use Rattle.pattern_grammar.specs.Verdict.{Verdict as PatternVerdict}
use Rattle.pattern_grammar.proofs.Verdicts.{verdict_given as pattern-given, verdict_found as pattern-found}
use Rattle.layout.specs.Text.{text_of}
use Rattle.print_grammar.specs.Text.{PrintedText}
use Rattle.print.specs.Outcome.{Outcome, outcome, answer_of, area_of}
use Rattle.print.specs.Outcome.Outcome.{text as ToText}
use Rattle.print_grammar.specs.Claims.{Read, Verdict}
use Rattle.print_grammar.specs.Claims.Verdict.{by_symbols as outcome-by-symbols, by_pattern as outcome-by-pattern, by_number as outcome-by-number, by_exponent as outcome-by-exponent, prints as outcome-prints}
use Rattle.print_grammar.proofs.Theorems.{verdict_found, verdict_only}
use Rattle.print_grammar.proofs.Texts.{printed_text}
use Rattle.demands.specs.Verdicts.{NumberVerdict, PackVerdict, SelectVerdict, CheckVerdict, Printable, PrintVerdict}
use Rattle.demands.specs.Verdicts.NumberVerdict.{row, read}
use Rattle.demands.specs.Verdicts.PackVerdict.{too_long, not_a_pack, faulty, read as read-pack}
use Rattle.demands.specs.Verdicts.SelectVerdict.{by_pack, by_number, chosen}
use Rattle.demands.specs.Verdicts.CheckVerdict.{by_pack as check-by-pack, passes, clashes}
use Rattle.demands.specs.Verdicts.PrintVerdict.{by_symbols, by_pattern, by_number as print-by-number, by_exponent, too_short, prints}

-- ---- numbers

pub number_given : (s : List ℕ) {r : Result Operands Refusal} → NumberVerdict s r → read_number s ≡ r
number_given s (row r h) = given_if r s h
number_given s (read p h) = read_if s p h

pub number_found : (s : List ℕ) → NumberVerdict s (read_number s)
number_found s = by (number-told s)
  where
    by : Told s → NumberVerdict s (read_number s)
    by (told-row r h) = subst (NumberVerdict s) (sym (given_if r s h)) (row r h)
    by (told-number p h) = subst (NumberVerdict s) (sym (read_if s p h)) (read p h)

-- ---- packs

-- the refusals of a pack's text
abbrev of_pack : Refusal → Bool
of_pack (Number r) = false
of_pack PackTooLong = true
of_pack (Pack r at) = true
of_pack (OfRules r) = false
of_pack (OfPattern r) = false
of_pack (Symbols r) = false
of_pack (OfPrint r) = false

abbrev is_pack : PackAnswer → Bool
is_pack (Rules rules) = true
is_pack (PackRefused r) = of_pack r

judged_pack : (p : Parsed) (f : Fault) → is_pack (judge p f) ≡ true
judged_pack (Bad a) f = refl
judged_pack (Trees rs) None = refl
judged_pack (Trees rs) (At n a) = refl

pack_is : (s : List ℕ) → is_pack (read_pack s) ≡ true
pack_is s =
    choice (λ (a : PackAnswer). is_pack a ≡ true) (ltb max_bytes (length s)) (λ e. refl)
    (λ e. judged_pack (rules_from 0 (segments s)) (fault_from [] 0 (segments s)))

pub pack_given : (s : List ℕ) {a : PackAnswer} → PackVerdict s a → read_pack s ≡ a
pack_given s (too_long h) = (row_20 s).1 h
pack_given s (not_a_pack a h w) = (row_21 s a).1 (h, w)
pack_given s (faulty n a lo hi w) = (rows_22_26 s n a lo hi).1 w
pack_given s (read-pack rules t) = (read_rules s rules).1 t

pub pack_found : (s : List ℕ) → PackVerdict s (read_pack s)
pack_found s = by (read_pack s) refl
  where
    at_row : (n a : ℕ) → 22 ≤ n → n ≤ 26 → read_pack s ≡ refused_at (row_of n) a → PackVerdict s (refused_at (row_of n) a)
    at_row n a lo hi e = faulty n a lo hi ((rows_22_26 s n a lo hi).0 e)

    other : {A : Type 0} (r : Refusal) → read_pack s ≡ PackRefused r → of_pack r ≡ false → A
    other r e f = not_both (pack_is s) (ap is_pack e ∙ f)

    by_row : (r : PackRow) (at : Place) → read_pack s ≡ PackRefused (Pack r at) → PackVerdict s (PackRefused (Pack r at))
    by_row NotAPack at e = let w = (row_21 s at.0).0 e in not_a_pack at.0 w.0 w.1
    by_row ValueTooLarge at e = at_row 22 at.0 (omega arith) (omega arith) e
    by_row UnlistedModulus at e = at_row 23 at.0 (omega arith) (omega arith) e
    by_row RangeReversed at e = at_row 24 at.0 (omega arith) (omega arith) e
    by_row BadKeyword at e = at_row 25 at.0 (omega arith) (omega arith) e
    by_row TooMany at e = at_row 26 at.0 (omega arith) (omega arith) e

    refused : (r : Refusal) → read_pack s ≡ PackRefused r → PackVerdict s (PackRefused r)
    refused PackTooLong e = too_long ((row_20 s).0 e)
    refused (Pack r at) e = by_row r at e
    refused (Number r) e = other (Number r) e refl
    refused (OfRules r) e = other (OfRules r) e refl
    refused (OfPattern r) e = other (OfPattern r) e refl
    refused (Symbols r) e = other (Symbols r) e refl
    refused (OfPrint r) e = other (OfPrint r) e refl

    by : (a : PackAnswer) → read_pack s ≡ a → PackVerdict s a
    by (Rules rules) e = read-pack rules ((read_rules s rules).0 e)
    by (PackRefused r) e = refused r e

-- ---- selection

pub select_given : (pack number : List ℕ) {c : Result Keyword Refusal} → SelectVerdict pack number c → select_of pack number ≡ c
select_given pack number (by_pack r p) = rw (pack_given pack p)
select_given pack number (by_number rules r p n) = rw (pack_given pack p, number_given number n)
select_given pack number (chosen rules x c p n h) = rw (pack_given pack p, number_given number n) (sym (only_told x rules c h))

pub select_found : (pack number : List ℕ) → SelectVerdict pack number (select_of pack number)
select_found pack number = by_answer (read_pack pack) refl
  where
    by_reading : (rules : List Rule) → read_pack pack ≡ Rules rules → (r : Result Operands Refusal) → read_number number ≡ r → SelectVerdict pack number (select_number rules r)
    by_reading rules e (Ok x) k =
        chosen rules x (selection rules x) (subst (PackVerdict pack) e (pack_found pack)) (subst (NumberVerdict number) k (number_found number)) (told x rules)
    by_reading rules e (Err r) k =
        by_number rules r (subst (PackVerdict pack) e (pack_found pack)) (subst (NumberVerdict number) k (number_found number))

    by_answer : (a : PackAnswer) → read_pack pack ≡ a → SelectVerdict pack number (select_rules a (read_number number))
    by_answer (Rules rules) e = by_reading rules e (read_number number) refl
    by_answer (PackRefused r) e = by_pack r (subst (PackVerdict pack) e (pack_found pack))

-- ---- the check

before_places : (x y : Witness)
    → (x.i < y.i) ⊎ ((x.i ≡ y.i) × (x.f.0 < y.f.0)) → (y.i < x.i) ⊎ ((y.i ≡ x.i) × (y.f.0 < x.f.0)) → ⊥
before_places x y (inl a) (inl b) = omega arith
before_places x y (inl a) (inr (e, b)) = omega arith
before_places x y (inr (e, a)) (inl b) = omega arith
before_places x y (inr (e, a)) (inr (f, b)) = omega arith

before_exponent : (x y : Witness)
    → (x.v.0 < y.v.0) ⊎ ((x.v.0 ≡ y.v.0) × ((x.i < y.i) ⊎ ((x.i ≡ y.i) × (x.f.0 < y.f.0))))
    → (y.v.0 < x.v.0) ⊎ ((y.v.0 ≡ x.v.0) × ((y.i < x.i) ⊎ ((y.i ≡ x.i) × (y.f.0 < x.f.0)))) → ⊥
before_exponent x y (inl a) (inl b) = omega arith
before_exponent x y (inl a) (inr (e, b)) = omega arith
before_exponent x y (inr (e, a)) (inl b) = omega arith
before_exponent x y (inr (e, a)) (inr (f, b)) = before_places x y a b

-- no number comes both before and behind another
one_before : (x y : Witness) → Before x y → Before y x → ⊥
one_before x y (inl a) (inl b) = omega arith
one_before x y (inl a) (inr (e, b)) = omega arith
one_before x y (inr (e, a)) (inl b) = omega arith
one_before x y (inr (e, a)) (inr (f, b)) = before_exponent x y a b

module _ (rules : List Rule) where
  earlier : {i j k l : ℕ} {x y : Witness} → Lowest rules i j x → Lowest rules k l y → (k < i) ⊎ ((k ≡ i) × (l < j)) → ⊥
  earlier {i} {j} {k} {l} {x} {y} a b h = a.first k l b.order b.inside h y b.met

  -- the first pair is one pair
  same_first : {i j k l : ℕ} {x y : Witness} → Lowest rules i j x → Lowest rules k l y → i ≡ k
  same_first {i} {j} {k} {l} a b =
      tested (ltb i k) (λ e. absurd (earlier b a (inl (ltb-true i k e))))
      (λ e. tested (ltb k i) (λ f. absurd (earlier a b (inl (ltb-true k i f)))) (λ f. omega (arith, ltb-false i k e, ltb-false k i f)))

  same_second : {i j k l : ℕ} {x y : Witness} → Lowest rules i j x → Lowest rules k l y → j ≡ l
  same_second {i} {j} {k} {l} a b =
      let q = same_first a b in
      tested (ltb j l) (λ e. absurd (earlier b a (inr (q, ltb-true j l e))))
      (λ e. tested (ltb l j) (λ f. absurd (earlier a b (inr (sym q, ltb-true l j f)))) (λ f. omega (arith, ltb-false j l e, ltb-false l j f)))

  -- and its least number one number
  same_least : {i j : ℕ} {x y : Witness} → Lowest rules i j x → Lowest rules i j y → x ≡ y
  same_least {i} {j} {x} {y} a b = by (a.least y b.met) (b.least x a.met)
    where
      by : (y ≡ x) ⊎ Before x y → (x ≡ y) ⊎ Before y x → x ≡ y
      by (inl e) h = sym e
      by (inr k) (inl e) = e
      by (inr k) (inr h) = absurd (one_before x y k h)

  same_number : {i j k l : ℕ} {x y : Witness} → Lowest rules i j x → Lowest rules k l y → x ≡ y
  same_number {i} {j} {k} {l} {x} {y} a b =
      let p = same_first a b in
      let q = same_second a b in
      same_least a (rw (sym p, sym q) at b)

  lowest_only : (i j : ℕ) (pair : Pair) (x : Witness) → pair.first ≡ 1 + i → pair.second ≡ 1 + j → Lowest rules i j x → (c : Result (Unit {0}) Clash) → Claims 1 rules c
      → c ≡ clashing pair x
  lowest_only i j pair x a b w (Ok tt) h = absurd (h i j w.order w.inside x w.met)
  lowest_only i j pair x a b w (Err c) (k, l, d, e, v) =
      let p : c.pair.first ≡ pair.first = d ∙ ap (λ (n : ℕ). 1 + n) (sym (same_first w v)) ∙ sym a in
      let q : c.pair.second ≡ pair.second = e ∙ ap (λ (n : ℕ). 1 + n) (sym (same_second w v)) ∙ sym b in
      rw (sym (same_number w v)) (paired c.pair pair p q)
    where
      paired : (m n : Pair) → m.first ≡ n.first → m.second ≡ n.second → clashing m x ≡ clashing n x
      paired m n f g =
          ap (λ (a : ℕ). clashing (record { first = a; second = m.second }) x) f ∙ ap (λ (b : ℕ). clashing (record { first = n.first; second = b }) x) g

pub check_given : (pack : List ℕ) {c : Result (Unit {0}) Refusal} → CheckVerdict pack c → check_pack pack ≡ c
check_given pack (check-by-pack r p) = rw (pack_given pack p)
check_given pack (passes rules p h) = rw (pack_given pack p, apart_passes rules h)
check_given pack (clashes rules i j pair x p a b l) = rw (pack_given pack p) (ap checked_by (lowest_only rules i j pair x a b l (check_of rules) (check_claims rules)))

pub check_found : (pack : List ℕ) → CheckVerdict pack (check_pack pack)
check_found pack = by_answer (read_pack pack) refl
  where
    by_claims : (rules : List Rule) → read_pack pack ≡ Rules rules → (c : Result (Unit {0}) Clash) → Claims 1 rules c → CheckVerdict pack (checked_by c)
    by_claims rules e (Ok tt) h = passes rules (subst (PackVerdict pack) e (pack_found pack)) h
    by_claims rules e (Err c) (i, j, a, b, l) = clashes rules i j c.pair c.witness (subst (PackVerdict pack) e (pack_found pack)) a b l

    by_answer : (a : PackAnswer) → read_pack pack ≡ a → CheckVerdict pack (check_rules a)
    by_answer (Rules rules) e = by_claims rules e (check_of rules) (check_claims rules)
    by_answer (PackRefused r) e = check-by-pack r (subst (PackVerdict pack) e (pack_found pack))

-- ---- printing

module _ (house s t area : List ℕ) where
  printable : (p : Pattern) (n : Operands) (text : List ℕ) → Printable house s t p n text → outcome house s t ≡ ToText text
  printable p n text w =
      let x : Read house s t p n = record { symbols = symbols-given house w.symbols; pattern = pattern-given s w.pattern; number = number_given t w.number } in
      let e : w.symbol ≡ symbol_in house standard_record = fun_ext (λ y. sym ((symbol_is house x.symbols y (w.symbol y)).0 (w.symbols_are y))) in
      sym (verdict_only house s t (outcome-prints p n x w.no_exponent))
      ∙ ap ToText (sym ((printed_text s t p n x.pattern x.number (symbol_in house standard_record) text).0 (subst (λ (f : Symbol → List ℕ). PrintedText f s p n text) e w.is_text)))

  pub print_given : {r : Result ℕ Refusal} {after : List ℕ} → PrintVerdict house s t area r after
      → (answer_of (outcome house s t) area ≡ r) × (area_of (outcome house s t) area ≡ after)
  print_given (by_symbols r y) = let e = symbols-given house y in (rw e, rw e)
  print_given (by_pattern r y p) =
      let e = symbols-given house y in
      let f = pattern-given s p in
      (rw (e, f), rw (e, f))
  print_given (print-by-number p r y q n) =
      let e = symbols-given house y in
      let f = pattern-given s q in
      let g = number_given t n in
      (rw (e, f, g), rw (e, f, g))
  print_given (by_exponent p n y q k h) =
      let o = verdict_only house s t (outcome-by-exponent p n (record { symbols = symbols-given house y; pattern = pattern-given s q; number = number_given t k }) h) in
      (ap (λ (x : Outcome). answer_of x area) (sym o), ap (λ (x : Outcome). area_of x area) (sym o))
  print_given (too_short p n text w h) =
      let o = printable p n text w in
      (rw (o, lt-ltb (length area) (length text) h), rw (o, lt-ltb (length area) (length text) h))
  print_given (prints p n text w h) =
      let o = printable p n text w in
      (rw (o, le-ltb (length area) (length text) h), rw (o, le-ltb (length area) (length text) h))

  -- what is printed or not, once the area is looked at
  fitted : (p : Pattern) (n : Operands) (text : List ℕ) → Printable house s t p n text
      → PrintVerdict house s t area (answer_of (ToText text) area) (area_of (ToText text) area)
  fitted p n text w =
      tested (ltb (length area) (length text)) (λ e. rw e (too_short p n text w (ltb-true (length area) (length text) e)))
      (λ e. rw e (prints p n text w (ltb-false (length area) (length text) e)))

  looked : {o : Outcome} → Verdict house s t o → PrintVerdict house s t area (answer_of o area) (area_of o area)
  looked (outcome-by-symbols r e) = by_symbols r (subst (SymbolsVerdict house) e (symbols-found house))
  looked (outcome-by-pattern r e f) = by_pattern r (subst (SymbolsVerdict house) e (symbols-found house)) (subst (PatternVerdict s) f (pattern-found s))
  looked (outcome-by-number r p e f g) =
      print-by-number p r (subst (SymbolsVerdict house) e (symbols-found house)) (subst (PatternVerdict s) f (pattern-found s))
      (subst (NumberVerdict t) g (number_found t))
  looked (outcome-by-exponent p n x h) =
      by_exponent p n (subst (SymbolsVerdict house) x.symbols (symbols-found house)) (subst (PatternVerdict s) x.pattern (pattern-found s))
      (subst (NumberVerdict t) x.number (number_found t)) h
  looked (outcome-prints p n x h) =
      fitted p n (text_of (symbol_in house standard_record) s p n)
      (record {
        symbols = subst (SymbolsVerdict house) x.symbols (symbols-found house);
        pattern = subst (PatternVerdict s) x.pattern (pattern-found s);
        number = subst (NumberVerdict t) x.number (number_found t);
        no_exponent = h;
        symbol = symbol_in house standard_record;
        symbols_are = λ y. (symbol_is house x.symbols y (symbol_in house standard_record y)).1 refl;
        is_text = (printed_text s t p n x.pattern x.number (symbol_in house standard_record) (text_of (symbol_in house standard_record) s p n)).1 refl;
      })

  pub print_found : PrintVerdict house s t area (answer_of (outcome house s t) area) (area_of (outcome house s t) area)
  print_found = looked (verdict_found house s t)
