-- The pack check, as a search over all admitted numbers in document 01's order. It is never run: specs/Fast.antt has the search that is.
use Rattle.check_laws.specs.declared.Clash.{Clash}
use Rattle.std.specs.Prelude.{Result, Ok, Err}
use Rattle.std.specs.Prelude.{Bool, false, List, [], ◌∷◌, ℕ, suc, ◌+◌, ◌*◌, ◌/◌, ◌%◌, ◌^◌, leb, ltb, eqb, if◌then◌else◌}
use Rattle.decimal.specs.Choice.{both}
use Rattle.answer.specs.declared.Pair.{Pair}
use Rattle.answer.specs.declared.Witness.{Witness}
use Rattle.number.specs.Limits.{max_exponent, max_digits, max_places}
use Rattle.number.specs.Admitted.{number_from}
use Rattle.number.specs.declared.Number.{Number}
use Rattle.pack_rules.specs.Syntax.{Rule}
use Rattle.meaning.specs.Meaning.{meets}
use Rattle.check_laws.specs.Seek.{seek}

-- ---- the admitted numbers, as e, v, i and f

-- "i at least 10^e when e is above 0"
abbrev pub lowest : ℕ → ℕ
lowest e = if eqb e 0 then 0 else 10 ^ e

-- "any (e, v, i, f) with f below 10^v, and i at least 10^e when e is above 0"
unfoldable pub admits : Witness → Bool
admits x =
    both (leb x.e max_exponent)
    (both (leb x.v.0 max_places)
    (both (leb (lowest x.e) x.i) (both (ltb x.i (10 ^ max_digits)) (ltb x.f.0 (10 ^ x.v.0)))))

-- the number with these operands. The sign changes no operand.
abbrev pub number_at : Witness → Number
number_at x = number_from false x.e x.v.0 x.i x.f.0

-- ---- "the least by e, then v, then i, then f": the order as one number

abbrev pub rank : Witness → ℕ
rank x = ((x.e * suc max_places + x.v.0) * 10 ^ max_digits + x.i) * 10 ^ max_places + x.f.0

abbrev pub ranked : ℕ → Witness
ranked k =
    record {
      e = k / 10 ^ max_places / 10 ^ max_digits / suc max_places;
      v = record { 0 = k / 10 ^ max_places / 10 ^ max_digits % suc max_places };
      i = k / 10 ^ max_places % 10 ^ max_digits;
      f = record { 0 = k % 10 ^ max_places };
    }

-- how many ranks there are, of one exponent and in all
abbrev pub block : ℕ
block = suc max_places * 10 ^ max_digits * 10 ^ max_places

abbrev pub ranks : ℕ
ranks = suc max_exponent * block

-- the rank k is that of an admitted number that passes the test
unfoldable pub found : (Number → Bool) → ℕ → Bool
found P k = both (admits (ranked k)) (P (number_at (ranked k)))

-- the rank of the least admitted number that passes the test; `ranks` where none does
unfoldable pub least_rank : (Number → Bool) → ℕ
least_rank P = seek (found P) ranks 0

-- ---- the answer

-- "over all admitted numbers": the least that meets both rules
abbrev pub clash_of : Rule → Rule → ℕ
clash_of a b = least_rank (λ (x : Number). both (meets a x) (meets b x))

-- the answer that names two rules and a number that meets both
abbrev pub clashing : Pair → Witness → Result (Unit {0}) Clash
clashing pair x = Err (record { pair = pair; witness = x })

-- the answer at the pair p, q, where k is the rank of its least number
abbrev pub named : ℕ → ℕ → ℕ → Result (Unit {0}) Clash → Result (Unit {0}) Clash
named p q k rest = if ltb k ranks then clashing (record { first = p; second = q }) (ranked k) else rest

-- the rule a at place p against those that follow, of which the first is at place q
unfoldable pub against : (Rule → Rule → ℕ) → ℕ → ℕ → Rule → List Rule → Result (Unit {0}) Clash → Result (Unit {0}) Clash
against L p q a [] rest = rest
against L p q a (b ∷ bs) rest = named p q (L a b) (against L p (suc q) a bs rest)

-- "the lowest first rule, then the lowest second": the rules from place p on
unfoldable pub first_pair : (Rule → Rule → ℕ) → ℕ → List Rule → Result (Unit {0}) Clash
first_pair L p [] = Ok tt
first_pair L p (a ∷ bs) = against L p (suc p) a bs (first_pair L (suc p) bs)

-- "places counted from 1 in the text with `other` counted"
abbrev pub check_of : List Rule → Result (Unit {0}) Clash
check_of rs = first_pair clash_of 1 rs
