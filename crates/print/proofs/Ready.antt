-- What is read of symbols, pattern and number is within the bounds of rounding and of an area's places.
use Rattle.std.specs.Prelude.{Ok}
use mathlib.Core.Path.{◌≡◌}
use mathlib.Core.Bool.{true, false}
use mathlib.Core.List.{List}
use Prim.Native.Nat.{ℕ, ◌≤◌}
use native.Mathlib.Omega.{arith}
use borrow.Author.Tests.{ltb-false, le-ltb}
use lib.Dec.{ltb}
use lib.ListN.{length}
use Rattle.decimal.specs.Digits.{figures}
use Rattle.decimal.proofs.Choices.{tested}
use Rattle.decimal.proofs.Values.{power_mono}
use Rattle.decimal.proofs.Figured.{length_figures}
use Rattle.area.specs.Area.{most}
use Rattle.symbols.specs.Entries.{read_symbols, symbol_in, standard_record}
use Rattle.symbols_grammar.proofs.Records.{found_four}
use Rattle.number.specs.declared.Number.{Number}
use Rattle.number.specs.Reading.{read_number}
use Rattle.number.proofs.Admissible.{admitted}
use Rattle.pattern_reader.specs.declared.Pattern.{Pattern}
use Rattle.pattern_reader.specs.Limits.{max_bytes}
use Rattle.pattern_reader.specs.Reading.{read_pattern}
use Rattle.pattern_grammar.proofs.Verdicts.{not_read}
use Rattle.pattern_grammar.proofs.Bounds.{read_bounds, read_factor}
use Rattle.nearest.specs.Nearest.{units_of}
use Rattle.rounding.specs.Limits.{within, width, rounded}
use Rattle.rounding.proofs.Arithmetic.{fits_within}
use Rattle.layout.specs.Text.{affixes_of, digits_of, text_of}
use Rattle.print.proofs.Sizes.{text_size}

read_short : (s : List ℕ) (p : Pattern) → read_pattern s ≡ Ok p → length s ≤ max_bytes
read_short s p e = tested (ltb max_bytes (length s)) (λ k. not_read _ p (rw k at e)) (λ k. ltb-false max_bytes (length s) k)

-- what rounding asks
pub ready_within : (s t : List ℕ) (p : Pattern) (n : Number) → read_pattern s ≡ Ok p → read_number t ≡ Ok n
    → within p.step p.factor p.most n.i n.v.0 n.f.0 ≡ true
ready_within s t p n ep en =
    let b = read_bounds s p ep in
    let a = admitted t n en in
    fits_within p.step p.factor p.most n.i n.v.0 n.f.0
    (record {
      step_least = b.step_least;
      step_most = b.step_most;
      factor_most = read_factor s p ep;
      most_most = b.most_most;
      integer_most = omega (arith, a.whole);
      places_most = a.places;
      fraction_most = omega (arith, a.fraction, power_mono {i = n.v.0} {j = 9} a.places);
    })

-- what the area's places ask
pub ready_size : (house s : List ℕ) (p : Pattern) (n : Number) → read_symbols house ≡ Ok tt → read_pattern s ≡ Ok p
    → length (text_of (symbol_in house standard_record) s p n) ≤ most
ready_size house s p n eh ep =
    let d = digits_of p n in
    omega (
      arith,
      text_size (symbol_in house standard_record) s p (affixes_of p n.negative) d (λ y. found_four house y eh),
      read_short s p ep,
      length_figures width (units_of p.step p.factor p.most n.i n.v.0 n.f.0),
    )

-- ---- the digits, once rounding has filled their area

pub digits_are : (p : Pattern) (n : Number) (area d : List ℕ) → length area ≡ width → within p.step p.factor p.most n.i n.v.0 n.f.0 ≡ true
    → d ≡ rounded p.step p.factor p.most n.i n.v.0 n.f.0 area → d ≡ digits_of p n
digits_are p n area d l w e =
    let k : ltb (length area) width ≡ false = le-ltb (length area) width (omega arith) in
    let f : d ≡ figures (length area) (units_of p.step p.factor p.most n.i n.v.0 n.f.0) = rw (k, w) at e in
    rw l at f
