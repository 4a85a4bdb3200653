-- Theorems of printing: which outcome is given when, what the area holds, and 51's figure.
use Rattle.std.specs.Prelude.{Err, Ok, Result}
use mathlib.Core.Path.{◌≡◌, refl, sym}
use mathlib.Core.List.{List, ◌++◌}
use Prim.Native.Nat.{ℕ, ◌≤◌, ◌<◌}
use native.Mathlib.Omega.{arith}
use borrow.Author.Tests.{lt-ltb, ltb-true, ltb-false}
use lib.Dec.{ltb}
use lib.ListN.{length, drop}
use Rattle.decimal.proofs.Choices.{tested, choice, never}
use Rattle.answer.specs.declared.Refusal.{Refusal}
use Rattle.answer.specs.declared.Refusal.TheVariants.{Print as OfPrint}
use Rattle.answer.specs.declared.PrintRow.TheVariants.{AreaTooShort}
use Rattle.symbols.specs.Entries.{read_symbols}
use Rattle.pattern_reader.specs.declared.Pattern.{Pattern}
use Rattle.pattern_reader.specs.Reading.{read_pattern}
use Rattle.number.specs.declared.Number.{Number}
use Rattle.number.specs.Reading.{read_number}
use Rattle.print.specs.Outcome.{Outcome, text, refused, of_number, after_number, after_pattern, after_symbols, outcome, answer_of, area_of}
use Rattle.print_area.specs.Whole.{too_long}
use Rattle.print_grammar.specs.Claims.{Read, Verdict, by_symbols, by_pattern, by_number, by_exponent, prints}

-- ---- "Printing tests symbols, pattern, number, 50": every outcome has its reason

module _ (house s t : List ℕ) where
  exponent_tested : (p : Pattern) (n : Number) → Read house s t p n → Verdict house s t (of_number house s p n)
  exponent_tested p n x =
      choice (Verdict house s t) (ltb 0 n.e) (λ k. by_exponent p n x (ltb-true 0 n.e k)) (λ k. prints p n x (none (ltb-false 0 n.e k)))
    where
      none : {m : ℕ} → m ≤ 0 → m ≡ 0
      none h = omega arith

  number_tested : (p : Pattern) → read_symbols house ≡ Ok tt → read_pattern s ≡ Ok p → (r : Result Number Refusal) → read_number t ≡ r → Verdict house s t (after_number house s p r)
  number_tested p eh ep (Ok n) en = exponent_tested p n (record { symbols = eh; pattern = ep; number = en })
  number_tested p eh ep (Err r) en = by_number r p eh ep en

  pattern_tested : read_symbols house ≡ Ok tt → (r : Result Pattern Refusal) → read_pattern s ≡ r → Verdict house s t (after_pattern house s r t)
  pattern_tested eh (Ok p) ep = number_tested p eh ep (read_number t) refl
  pattern_tested eh (Err r) ep = by_pattern r eh ep

  symbols_tested : (j : Result (Unit {0}) Refusal) → read_symbols house ≡ j → Verdict house s t (after_symbols house j s t)
  symbols_tested (Ok tt) eh = pattern_tested eh (read_pattern s) refl
  symbols_tested (Err r) eh = by_symbols r eh

  pub verdict_found : Verdict house s t (outcome house s t)
  verdict_found = symbols_tested (read_symbols house) refl

-- and a reason has no other outcome
pub verdict_only : (house s t : List ℕ) {o : Outcome} → Verdict house s t o → o ≡ outcome house s t
verdict_only house s t (by_symbols r e) = rw e
verdict_only house s t (by_pattern r e f) = rw (e, f)
verdict_only house s t (by_number r p e f g) = rw (e, f, g)
verdict_only house s t (by_exponent p n x h) = rw (x.symbols, x.pattern, x.number, lt-ltb 0 n.e h)
verdict_only house s t (prints p n x h) = rw (x.symbols, x.pattern, x.number, h)

-- ---- the area: "A refusal writes nothing; a success writes its text at the front and no byte beyond, and returns its length."

-- 51's figure is the text's length, and the area has fewer bytes
pub area_short : (t area : List ℕ) (k : ℕ) → answer_of (text t) area ≡ Err (OfPrint (AreaTooShort k)) → (k ≡ length t) × (length area < length t)
area_short t area k e =
    tested (too_long t area)
    (λ h.
    let f : Err (OfPrint (AreaTooShort (length t))) ≡ Err (OfPrint (AreaTooShort k)) = rw h at e in
    let g : length t ≡ k = cc in
    (sym g, ltb-true (length area) (length t) h))
    (λ h.
    let f : Ok (length t) ≡ Err (OfPrint (AreaTooShort k)) = rw h at e in
    let z : ◌≡◌ {A = ℕ} 0 1 = cc in
    never z)

-- a success is told by the text's length, the text fits, and it stands at the front
pub area_text : (o : Outcome) (area : List ℕ) (k : ℕ) → answer_of o area ≡ Ok k
    → (t : List ℕ) × (o ≡ text t) × (k ≡ length t) × (length t ≤ length area) × (area_of o area ≡ t ++ drop k area)
area_text (refused r) area k e = let z : ◌≡◌ {A = ℕ} 0 1 = cc in never z
area_text (text t) area k e =
    tested (too_long t area)
    (λ h.
    let f : Err (OfPrint (AreaTooShort (length t))) ≡ Ok k = rw h at e in
    let z : ◌≡◌ {A = ℕ} 0 1 = cc in
    never z)
    (λ h.
    let f : Ok (length t) ≡ Ok k = rw h at e in
    let g : length t ≡ k = cc in
    (t, refl, sym g, ltb-false (length area) (length t) h, rw h (rw g)))

-- a refusal leaves every byte
pub area_kept : (o : Outcome) (area : List ℕ) (r : Refusal) → answer_of o area ≡ Err r → area_of o area ≡ area
area_kept (refused q) area r e = refl
area_kept (text t) area r e =
    tested (too_long t area) (λ h. rw h)
    (λ h.
    let f : Ok (length t) ≡ Err r = rw h at e in
    let z : ◌≡◌ {A = ℕ} 0 1 = cc in
    never z)
