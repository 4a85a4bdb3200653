-- Demand 1: "Any bytes may arrive. Every entry ends with an answer or a refusal of document 01's table, with the figures the table names, no
-- precondition for the caller, and the output area untouched by a refusal." The contracts of crates/screen/src/lib.rt equate the code, all figures and
-- the whole area with the definitions named here, for any bytes and without a `requires`.
use Rattle.std.specs.Prelude.{Err, Ok, Result}
use Rattle.pattern_reader.specs.declared.Pattern.{Pattern}
use Rattle.answer.specs.declared.Keyword.{Keyword}
use mathlib.Core.Path.{◌≡◌, refl, sym, ap, ◌∙◌, subst}
use mathlib.Core.List.{List, [], ◌∷◌, ◌++◌}
use mathlib.Core.Logic.{◌⊎◌, inl, inr}
use Prim.Native.Nat.{ℕ, ◌≤◌, ◌<◌}
use native.Mathlib.Omega.{arith}
use lib.ListN.{length, drop}
use Rattle.answer.specs.Table.{number_row, pack_row, pattern_row, symbol_row, number_of, figures_of}
use Rattle.answer.specs.declared.NumberRow.{NumberRow}
use Rattle.answer.specs.declared.NumberRow.TheVariants.{NumberTooLong, NotANumber, ExponentTooLarge, ExponentAfterZero, IntegerTooLong, FractionTooLong}
use Rattle.answer.specs.declared.PackRow.{PackRow}
use Rattle.answer.specs.declared.PackRow.TheVariants.{NotAPack, ValueTooLarge, UnlistedModulus, RangeReversed, BadKeyword, TooMany}
use Rattle.answer.specs.declared.PatternRow.{PatternRow}
use Rattle.answer.specs.declared.PatternRow.TheVariants.{PatternTooLong, PatternNotUtf8, ReservedByte, NotAPattern, TooManyPlaces, StepTooLarge, PercentMismatch}
use Rattle.answer.specs.declared.SymbolRow.{SymbolRow}
use Rattle.answer.specs.declared.SymbolRow.TheVariants.{NotASymbolRecord, BadSymbolBody}
use Rattle.answer.specs.declared.Refusal.{Refusal}
use Rattle.answer.specs.declared.Refusal.TheVariants.{Number, PackTooLong, Pack, Rules as OfRules, Pattern as OfPattern, Symbols, Print as OfPrint}
use Rattle.answer.specs.declared.RulesRow.TheVariants.{TwoRulesMet, RulesClash}
use Rattle.answer.specs.declared.PrintRow.TheVariants.{PrintedExponent, AreaTooShort}
use Rattle.number.specs.Reading.{read_number}
use Rattle.number.specs.declared.Number.{Number as Operands}
use Rattle.pack_rules.specs.Syntax.{Rule}
use Rattle.pack_grammar.specs.Reader.{PackAnswer, row_of}
use Rattle.pack_grammar.specs.Reader.PackAnswer.{Rules, Refused as PackRefused}
use Rattle.select.specs.Words.{Chosen}
use Rattle.select.specs.Words.Chosen.{none, one, two}
use Rattle.select_text.specs.Select.{select_of}
use Rattle.check_text.specs.Check.{check_pack}
use Rattle.symbols_grammar.specs.Record.{Verdict as SymbolsVerdict}
use Rattle.symbols_grammar.specs.Record.Verdict.{no_record, symbol_twice, bad_body, good}
use Rattle.pattern_grammar.specs.Verdict.{Verdict as PatternVerdict}
use Rattle.pattern_grammar.specs.Verdict.Verdict.{too_long as long-pattern, not_utf8, reserved, not_a_pattern, many_places_law, large_step, many_marks_law, other_marks, read as read-pattern}
use Rattle.print.specs.Outcome.{outcome, answer_of, area_of}
use Rattle.print_grammar.proofs.Theorems.{area_kept}
use Rattle.screen_figures.specs.Figures.{noted, operands_of, word_number, read_code, read_figures, select_code, select_figures, check_code, check_figures, print_code, print_figures}
use Rattle.screen_figures.proofs.Noted.{noted_front}
use Rattle.demands.specs.Verdicts.{NumberVerdict, PackVerdict, SelectVerdict, CheckVerdict, PrintVerdict}
use Rattle.demands.specs.Verdicts.NumberVerdict.{row, read}
use Rattle.demands.specs.Verdicts.PackVerdict.{too_long, not_a_pack, faulty, read as read-pack}
use Rattle.demands.specs.Verdicts.SelectVerdict.{by_pack, by_number, chosen}
use Rattle.demands.specs.Verdicts.CheckVerdict.{by_pack as check-by-pack, passes, clashes}
use Rattle.demands.specs.Verdicts.PrintVerdict.{by_symbols, by_pattern, by_number as print-by-number, by_exponent, too_short, prints}
use Rattle.demands.specs.Comes.{NumberComes, SelectComes, CheckComes, PrintComes, Within, ZeroOr}
use Rattle.demands.specs.Comes.Comes.{answer, refusal}
use Rattle.demands.proofs.Given.{number_given, number_found, select_given, select_found, check_given, check_found, print_given, print_found}

-- ---- "Every entry ends with an answer or a refusal of document 01's table, with the figures the table names": what comes is what may come ..

pub number_comes : (s : List ℕ) → NumberComes s (read_code (read_number s)) (read_figures (read_number s))
number_comes s = by (read_number s) (number_found s)
  where
    by : (x : Result Operands Refusal) → NumberVerdict s x → NumberComes s (read_code x) (read_figures x)
    by (Ok x) v = answer (operands_of x) (x, (v, refl))
    by (Err r) v = refusal r v

pub select_comes : (pack number : List ℕ) → SelectComes pack number (select_code (select_of pack number)) (select_figures (select_of pack number))
select_comes pack number = by (select_of pack number) (select_found pack number)
  where
    by : (c : Result Keyword Refusal) → SelectVerdict pack number c → SelectComes pack number (select_code c) (select_figures c)
    by (Ok k) v = answer (word_number k ∷ []) (k, (v, refl))
    by (Err r) v = refusal r v

pub check_comes : (pack : List ℕ) → CheckComes pack (check_code (check_pack pack)) (check_figures (check_pack pack))
check_comes pack = by (check_pack pack) (check_found pack)
  where
    by : (c : Result (Unit {0}) Refusal) → CheckVerdict pack c → CheckComes pack (check_code c) (check_figures c)
    by (Ok tt) v = answer [] (v, refl)
    by (Err r) v = refusal r v

-- .. "and the output area untouched by a refusal"
pub print_comes : (house s t area : List ℕ)
    → PrintComes house s t area (area_of (outcome house s t) area) (print_code (answer_of (outcome house s t) area)) (print_figures (answer_of (outcome house s t) area))
print_comes house s t area = by (answer_of (outcome house s t) area) refl
  where
    by : (r : Result ℕ Refusal) → answer_of (outcome house s t) area ≡ r → PrintComes house s t area (area_of (outcome house s t) area) (print_code r) (print_figures r)
    by (Ok n) e = answer (n ∷ []) (n, (subst (λ (r : Result ℕ Refusal). PrintVerdict house s t area r (area_of (outcome house s t) area)) e (print_found house s t area), refl))
    by (Err r) e =
        let k = area_kept (outcome house s t) area r e in
        let v = subst (λ (r : Result ℕ Refusal). PrintVerdict house s t area r (area_of (outcome house s t) area)) e (print_found house s t area) in
        refusal r (rw k at v, k)

-- ---- .. and nothing else comes

pub number_only : (s : List ℕ) {c : ℕ} {fs : List ℕ} → NumberComes s c fs → (c ≡ read_code (read_number s)) × (fs ≡ read_figures (read_number s))
number_only s (answer fs (x, (v, e))) = let k = number_given s v in (ap read_code (sym k), e ∙ ap read_figures (sym k))
number_only s (refusal r v) = let k = number_given s v in (ap read_code (sym k), ap read_figures (sym k))

pub select_only : (pack number : List ℕ) {c : ℕ} {fs : List ℕ} → SelectComes pack number c fs
    → (c ≡ select_code (select_of pack number)) × (fs ≡ select_figures (select_of pack number))
select_only pack number (answer fs (x, (v, e))) = let k = select_given pack number v in (ap select_code (sym k), e ∙ ap select_figures (sym k))
select_only pack number (refusal r v) = let k = select_given pack number v in (ap select_code (sym k), ap select_figures (sym k))

pub check_only : (pack : List ℕ) {c : ℕ} {fs : List ℕ} → CheckComes pack c fs → (c ≡ check_code (check_pack pack)) × (fs ≡ check_figures (check_pack pack))
check_only pack (answer fs (v, e)) = let k = check_given pack v in (ap check_code (sym k), e ∙ ap check_figures (sym k))
check_only pack (refusal r v) = let k = check_given pack v in (ap check_code (sym k), ap check_figures (sym k))

pub print_only : (house s t area after : List ℕ) {c : ℕ} {fs : List ℕ} → PrintComes house s t area after c fs
    → (c ≡ print_code (answer_of (outcome house s t) area)) × (fs ≡ print_figures (answer_of (outcome house s t) area)) × (after ≡ area_of (outcome house s t) area)
print_only house s t area after (answer fs (n, (v, e))) =
    let k = print_given house s t area v in
    (ap print_code (sym k.0), e ∙ ap print_figures (sym k.0), sym k.1)
print_only house s t area after (refusal r (v, e)) =
    let k = print_given house s t area v in
    (ap print_code (sym k.0), ap print_figures (sym k.0), e ∙ sym k.1)

-- ---- 0 tells an answer, and the figures fit

number_rows : (r : NumberRow) → Within 10 15 (number_row r)
number_rows NumberTooLong = (omega arith, omega arith)
number_rows NotANumber = (omega arith, omega arith)
number_rows ExponentTooLarge = (omega arith, omega arith)
number_rows ExponentAfterZero = (omega arith, omega arith)
number_rows IntegerTooLong = (omega arith, omega arith)
number_rows FractionTooLong = (omega arith, omega arith)

pack_rows_law : (r : PackRow) → Within 21 26 (pack_row r)
pack_rows_law NotAPack = (omega arith, omega arith)
pack_rows_law ValueTooLarge = (omega arith, omega arith)
pack_rows_law UnlistedModulus = (omega arith, omega arith)
pack_rows_law RangeReversed = (omega arith, omega arith)
pack_rows_law BadKeyword = (omega arith, omega arith)
pack_rows_law TooMany = (omega arith, omega arith)

pattern_rows : (r : PatternRow) → Within 30 36 (pattern_row r)
pattern_rows PatternTooLong = (omega arith, omega arith)
pattern_rows PatternNotUtf8 = (omega arith, omega arith)
pattern_rows ReservedByte = (omega arith, omega arith)
pattern_rows NotAPattern = (omega arith, omega arith)
pattern_rows TooManyPlaces = (omega arith, omega arith)
pattern_rows StepTooLarge = (omega arith, omega arith)
pattern_rows PercentMismatch = (omega arith, omega arith)

symbol_rows : (r : SymbolRow) → Within 40 41 (symbol_row r)
symbol_rows NotASymbolRecord = (omega arith, omega arith)
symbol_rows BadSymbolBody = (omega arith, omega arith)

-- a refusal's number is never 0
pub never_zero : (r : Refusal) → 0 < number_of r
never_zero (Number q) = omega (arith, (number_rows q).0)
never_zero PackTooLong = omega arith
never_zero (Pack q at) = omega (arith, (pack_rows_law q).0)
never_zero (OfRules (TwoRulesMet pair)) = omega arith
never_zero (OfRules (RulesClash pair x)) = omega arith
never_zero (OfPattern q) = omega (arith, (pattern_rows q).0)
never_zero (Symbols q) = omega (arith, (symbol_rows q).0)
never_zero (OfPrint PrintedExponent) = omega arith
never_zero (OfPrint (AreaTooShort n)) = omega arith

-- so a refusal whose code is 0 or in a part of the table is in that part
not_zero : {A : Type 0} (r : Refusal) → ZeroOr A (number_of r) → A
not_zero r (inl e) = absurd (omega (arith, never_zero r))
not_zero r (inr a) = a

figures_few : (r : Refusal) → length (figures_of r) ≤ 7
figures_few (Number q) = omega arith
figures_few PackTooLong = omega arith
figures_few (Pack q at) = omega arith
figures_few (OfRules (TwoRulesMet pair)) = omega arith
figures_few (OfRules (RulesClash pair x)) = omega arith
figures_few (OfPattern q) = omega arith
figures_few (Symbols q) = omega arith
figures_few (OfPrint PrintedExponent) = omega arith
figures_few (OfPrint (AreaTooShort n)) = omega arith

-- every entry's figures stand in the eight entries behind their count, and entries past them keep what they held
pub number_noted : (s before : List ℕ) → length before ≡ 8
    → let fs = read_figures (read_number s) in noted fs before ≡ (length fs ∷ fs) ++ drop (length (length fs ∷ fs)) before
number_noted s before h = noted_front (read_figures (read_number s)) before h (few (read_number s))
  where
    few : (x : Result Operands Refusal) → length (read_figures x) ≤ 7
    few (Ok x) = omega arith
    few (Err r) = figures_few r

pub select_noted : (pack number before : List ℕ) → length before ≡ 8
    → let fs = select_figures (select_of pack number) in noted fs before ≡ (length fs ∷ fs) ++ drop (length (length fs ∷ fs)) before
select_noted pack number before h = noted_front (select_figures (select_of pack number)) before h (few (select_of pack number))
  where
    few : (c : Result Keyword Refusal) → length (select_figures c) ≤ 7
    few (Ok k) = omega arith
    few (Err r) = figures_few r

pub check_noted : (pack before : List ℕ) → length before ≡ 8
    → let fs = check_figures (check_pack pack) in noted fs before ≡ (length fs ∷ fs) ++ drop (length (length fs ∷ fs)) before
check_noted pack before h = noted_front (check_figures (check_pack pack)) before h (few (check_pack pack))
  where
    few : (c : Result (Unit {0}) Refusal) → length (check_figures c) ≤ 7
    few (Ok tt) = omega arith
    few (Err r) = figures_few r

pub print_noted : (house s t area before : List ℕ) → length before ≡ 8
    → let fs = print_figures (answer_of (outcome house s t) area) in noted fs before ≡ (length fs ∷ fs) ++ drop (length (length fs ∷ fs)) before
print_noted house s t area before h = noted_front (print_figures (answer_of (outcome house s t) area)) before h (few (answer_of (outcome house s t) area))
  where
    few : (r : Result ℕ Refusal) → length (print_figures r) ≤ 7
    few (Ok n) = omega arith
    few (Err r) = figures_few r

-- ---- which rows an entry has

number_row_law : {s : List ℕ} {x : Result Operands Refusal} → NumberVerdict s x → ZeroOr (Within 10 15 (read_code x)) (read_code x)
number_row_law (row r h) = inr (number_rows r)
number_row_law (read p h) = inl refl

pub number_codes : (s : List ℕ) → ZeroOr (Within 10 15 (read_code (read_number s))) (read_code (read_number s))
number_codes s = number_row_law (number_found s)

abbrev pack_code : PackAnswer → ℕ
pack_code (Rules rules) = 0
pack_code (PackRefused r) = number_of r

pack_row_law : {s : List ℕ} {a : PackAnswer} → PackVerdict s a → ZeroOr (Within 20 26 (pack_code a)) (pack_code a)
pack_row_law (too_long h) = inr (omega arith, omega arith)
pack_row_law (not_a_pack a h w) = inr (omega arith, omega arith)
pack_row_law (faulty n a lo hi w) = let k = pack_rows_law (row_of n) in inr (omega (arith, k.0), k.1)
pack_row_law (read-pack rules t) = inl refl

-- a refusal of the pack is 20 to 26, one of the number 10 to 15
of_pack : {s : List ℕ} {r : Refusal} → PackVerdict s (PackRefused r) → Within 20 26 (number_of r)
of_pack {s} {r} v = not_zero r (pack_row_law v)

of_number : {s : List ℕ} {r : Refusal} → NumberVerdict s (Err r) → Within 10 15 (number_of r)
of_number {s} {r} v = not_zero r (number_row_law v)

chosen_row : {x : Operands} {rules : List Rule} {c : Result Keyword Refusal} → Chosen x rules c → (select_code c ≡ 0) ⊎ (select_code c ≡ 27)
chosen_row (none f) = inl refl
chosen_row (one k w m f) = inl refl
chosen_row (two a b w u m n h f) = inr refl

pub select_codes : (pack number : List ℕ)
    → let c = select_code (select_of pack number) in ZeroOr (Within 10 15 c ⊎ Within 20 27 c) c
select_codes pack number = by (select_found pack number)
  where
    met : {c : ℕ} → (c ≡ 0) ⊎ (c ≡ 27) → ZeroOr (Within 10 15 c ⊎ Within 20 27 c) c
    met (inl e) = inl e
    met (inr e) = inr (inr (omega arith, omega arith))

    by : {c : Result Keyword Refusal} → SelectVerdict pack number c → ZeroOr (Within 10 15 (select_code c) ⊎ Within 20 27 (select_code c)) (select_code c)
    by (by_pack r p) = let k = of_pack p in inr (inr (k.0, omega (arith, k.1)))
    by (by_number rules r p n) = inr (inl (of_number n))
    by (chosen rules x c p n h) = met (chosen_row h)

pub check_codes : (pack : List ℕ) → ZeroOr (Within 20 27 (check_code (check_pack pack))) (check_code (check_pack pack))
check_codes pack = by (check_found pack)
  where
    by : {c : Result (Unit {0}) Refusal} → CheckVerdict pack c → ZeroOr (Within 20 27 (check_code c)) (check_code c)
    by (check-by-pack r p) = let k = of_pack p in inr (k.0, omega (arith, k.1))
    by (passes rules p h) = inl refl
    by (clashes rules i j pair x p a b l) = inr (omega arith, omega arith)

abbrev symbols_code : Result (Unit {0}) Refusal → ℕ
symbols_code (Ok tt) = 0
symbols_code (Err r) = number_of r

symbols_row : {s : List ℕ} {j : Result (Unit {0}) Refusal} → SymbolsVerdict s j → ZeroOr (Within 40 41 (symbols_code j)) (symbols_code j)
symbols_row (no_record f) = inr (omega arith, omega arith)
symbols_row (symbol_twice es w t) = inr (omega arith, omega arith)
symbols_row (bad_body es w t e a n) = inr (omega arith, omega arith)
symbols_row (good es w t f) = inl refl

of_symbols : {s : List ℕ} {r : Refusal} → SymbolsVerdict s (Err r) → Within 40 41 (number_of r)
of_symbols {s} {r} v = not_zero r (symbols_row v)

abbrev pattern_code : Result Pattern Refusal → ℕ
pattern_code (Ok p) = 0
pattern_code (Err r) = number_of r

pattern_row_law : {s : List ℕ} {x : Result Pattern Refusal} → PatternVerdict s x → ZeroOr (Within 30 36 (pattern_code x)) (pattern_code x)
pattern_row_law (long-pattern h) = inr (omega arith, omega arith)
pattern_row_law (not_utf8 h u) = inr (omega arith, omega arith)
pattern_row_law (reserved h u a) = inr (omega arith, omega arith)
pattern_row_law (not_a_pattern p f) = inr (omega arith, omega arith)
pattern_row_law (many_places_law p w e) = inr (omega arith, omega arith)
pattern_row_law (large_step w p e) = inr (omega arith, omega arith)
pattern_row_law (many_marks_law w p e) = inr (omega arith, omega arith)
pattern_row_law (other_marks w p e) = inr (omega arith, omega arith)
pattern_row_law (read-pattern w p m o) = inl refl

of_pattern : {s : List ℕ} {r : Refusal} → PatternVerdict s (Err r) → Within 30 36 (number_of r)
of_pattern {s} {r} v = not_zero r (pattern_row_law v)

pub print_codes : (house s t area : List ℕ)
    → let c = print_code (answer_of (outcome house s t) area) in ZeroOr (Within 10 15 c ⊎ Within 30 36 c ⊎ Within 40 41 c ⊎ Within 50 51 c) c
print_codes house s t area = by (print_found house s t area)
  where
    by : {r : Result ℕ Refusal} {after : List ℕ} → PrintVerdict house s t area r after
        → ZeroOr (Within 10 15 (print_code r) ⊎ Within 30 36 (print_code r) ⊎ Within 40 41 (print_code r) ⊎ Within 50 51 (print_code r)) (print_code r)
    by (by_symbols r y) = inr (inr (inr (inl (of_symbols y))))
    by (by_pattern r y p) = inr (inr (inl (of_pattern p)))
    by (print-by-number p r y q n) = inr (inl (of_number n))
    by (by_exponent p n y q k h) = inr (inr (inr (inr (omega arith, omega arith))))
    by (too_short p n text w h) = inr (inr (inr (inr (omega arith, omega arith))))
    by (prints p n text w h) = inl refl
