-- Selection tests the pack, then the number, then 27.
use Rattle.std.specs.Prelude.{Err, Ok, Result}
use mathlib.Core.Path.{◌≡◌, refl, sym, ap}
use mathlib.Core.Bool.{Bool, true, false}
use mathlib.Core.List.{List, [], ◌∷◌, ◌++◌}
use Prim.Native.Nat.{ℕ, ◌≤◌, ◌<◌}
use lib.Dec.{eqb}
use lib.ListN.{length}
use Rattle.decimal.specs.Digits.{begins, run}
use Rattle.answer.specs.declared.Refusal.{Refusal}
use Rattle.number.specs.Limits.{max_bytes}
use Rattle.number.specs.Grammar.{sign_text}
use Rattle.number.specs.Reading.{read_number}
use Rattle.number.specs.Alike.{negated}
use Rattle.number.specs.declared.Number.{Number}
use Rattle.number.proofs.Operands.{sign_alone, leading_zero, marks_alike as number-marks}
use Rattle.select.proofs.Chosen.{sign_no_word}
use Rattle.pack_rules.specs.Syntax.{Rule}
use Rattle.pack_grammar.specs.Reader.{PackAnswer, read_pack}
use Rattle.pack_grammar.specs.Reader.PackAnswer.{Rules, Refused as PackRefused}
use Rattle.pack_bare.specs.Bare.{is_bare, bare_rule}
use Rattle.pack_bare.proofs.Bares.{bare_read}
use Rattle.select.specs.Select.{selection}
use Rattle.select_text.specs.Select.{select_number, select_rules, select_of}

-- ---- the pack that is `other:` alone

-- it gives every number `other`, and what is no number its refusal
pub bare_answer : (pack number : List ℕ) → is_bare pack ≡ true → select_of pack number ≡ select_number (bare_rule ∷ []) (read_number number)
bare_answer pack number e = ap (λ (a : PackAnswer). select_rules a (read_number number)) (bare_read pack e)

-- the same of any reading
pub by_bare : (pack : List ℕ) (r : Result Number Refusal) → is_bare pack ≡ true → select_number (bare_rule ∷ []) r ≡ select_rules (read_pack pack) r
by_bare pack r e = sym (ap (λ (a : PackAnswer). select_rules a r) (bare_read pack e))

-- ---- the order of the tests

-- a refused pack decides, whatever the number
pub pack_first : (pack number : List ℕ) (f : Refusal) → read_pack pack ≡ PackRefused f → select_of pack number ≡ Err f
pack_first pack number f e = rw e

-- then a refused number
pub number_second : (pack number : List ℕ) (rules : List Rule) (f : Refusal) → read_pack pack ≡ Rules rules → read_number number ≡ Err f → select_of pack number ≡ Err f
number_second pack number rules f p n = rw (p, n)

-- else the rules and the number decide
pub rules_last : (pack number : List ℕ) (rules : List Rule) (x : Number) → read_pack pack ≡ Rules rules → read_number number ≡ Ok x → select_of pack number ≡ selection rules x
rules_last pack number rules x p n = rw (p, n)

-- ---- texts that document 01 calls alike get the same answer

negated_same : (rules : List Rule) (r : Result Number Refusal) → select_number rules (negated r) ≡ select_number rules r
negated_same rules (Ok x) = sign_no_word rules x
negated_same rules (Err f) = refl

by_reading : (a : PackAnswer) (r r' : Result Number Refusal) → ((rules : List Rule) → select_number rules r ≡ select_number rules r') → select_rules a r ≡ select_rules a r'
by_reading (Rules rules) r r' e = e rules
by_reading (PackRefused f) r r' e = refl

-- the sign
pub sign_alike : (pack s : List ℕ) → length s < max_bytes → begins 45 s ≡ false → select_of pack (45 ∷ s) ≡ select_of pack s
sign_alike pack s h b = by_reading (read_pack pack) (read_number (45 ∷ s)) (read_number s) (λ rules. rw (sign_alone s h b) (negated_same rules (read_number s)))

-- a leading integer zero
pub zero_alike : (pack : List ℕ) (negative : Bool) (s : List ℕ) → eqb (run s) 0 ≡ false → length (sign_text negative ++ (48 ∷ s)) ≤ max_bytes
    → select_of pack (sign_text negative ++ (48 ∷ s)) ≡ select_of pack (sign_text negative ++ s)
zero_alike pack negative s r h = ap (select_rules (read_pack pack)) (leading_zero negative s r h)

-- `c` and `e` in a number
pub marks_alike : (pack a b : List ℕ) → select_of pack (a ++ (99 ∷ b)) ≡ select_of pack (a ++ (101 ∷ b))
marks_alike pack a b = ap (select_rules (read_pack pack)) (number-marks a b)
