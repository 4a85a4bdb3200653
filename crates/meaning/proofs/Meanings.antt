-- Laws of relations, and of lists of tests read one by one.
use mathlib.Core.Path.{◌≡◌, refl, sym}
use mathlib.Core.Bool.{Bool, true, false, not}
use mathlib.Core.List.{List}
use Prim.Native.Nat.{ℕ, ◌%◌, ◌+◌, ◌-◌, ◌≤◌, ◌<◌}
use native.Mathlib.Omega.{arith}
use lib.ListN.{length, get_or-eq_default}
use Rattle.std.specs.Prelude.{if◌then◌else◌}
use Rattle.decimal.specs.Lists.{all, any}
use Rattle.number.specs.declared.Number.{Number}
use Rattle.pack_rules.specs.Syntax.{Relation}
use Rattle.pack_rules.specs.Stretch.{stretch, start_at, Table, clause_at}
use Rattle.pack_rules.proofs.Stretches.{stretch_cons, stretch_nil}
use Rattle.meaning.specs.Meaning.{in_range, operand_value, is_whole, equals, holds, clause_holds}
use Rattle.meaning.specs.Places.{met_at}

-- a number that is not whole is in no list
pub not_whole : (r : Relation) (x : Number) → is_whole r.operand x ≡ false → r.negated ≡ holds r x
not_whole r x h = rw h (by r.negated)
  where
    by : (b : Bool) → b ≡ (if b then true else false)
    by true = refl
    by false = refl

-- else its value, or its remainder, is looked for
pub listed : (r : Relation) (x : Number) (b : Bool) → is_whole r.operand x ≡ true
    → b ≡ any (in_range (operand_value r.operand x % r.modulus)) r.ranges → b ≡ equals r x
listed r x b h e = rw h e

pub holds_negated : (r : Relation) (x : Number) (b : Bool) → b ≡ equals r x → r.negated ≡ true → not b ≡ holds r x
holds_negated r x b e n = rw (n, e)

pub holds_plain : (r : Relation) (x : Number) (b : Bool) → b ≡ equals r x → r.negated ≡ false → b ≡ holds r x
holds_plain r x b e n = rw (n, e)

-- ---- loops over a stretch: what the test says of the rest is what it says of the whole

module _ {A : Type 0} (p : A → Bool) (g : ℕ → A) where
  pub any_found : (k to : ℕ) → k < to → p (g k) ≡ true → any p (stretch g k (to - k)) ≡ true
  any_found k to h e = rw (stretch_cons g k to h, e)

  pub any_next : (k to : ℕ) → k < to → p (g k) ≡ false → any p (stretch g k (to - k)) ≡ any p (stretch g (k + 1) (to - (k + 1)))
  any_next k to h e = rw (stretch_cons g k to h, e)

  pub any_none : (k to : ℕ) → to ≤ k → any p (stretch g k (to - k)) ≡ false
  any_none k to h = rw (stretch_nil g k to h)

  pub all_failed : (k to : ℕ) → k < to → p (g k) ≡ false → all p (stretch g k (to - k)) ≡ false
  all_failed k to h e = rw (stretch_cons g k to h, e)

  pub all_next : (k to : ℕ) → k < to → p (g k) ≡ true → all p (stretch g k (to - k)) ≡ all p (stretch g (k + 1) (to - (k + 1)))
  all_next k to h e = rw (stretch_cons g k to h, e)

  pub all_passed : (k to : ℕ) → to ≤ k → all p (stretch g k (to - k)) ≡ true
  all_passed k to h = rw (stretch_nil g k to h)

-- no number meets a rule that the arrays have no room for
pub past_none : (T : Table) (relations clauses : List ℕ) (x : Number) (j : ℕ) → length clauses ≤ j → false ≡ met_at T relations clauses x j
past_none T relations clauses x j h =
    sym (rw (get_or-eq_default clauses 0 h) (any_none (λ (c : List Relation). clause_holds c x) (clause_at T relations) (start_at clauses j) 0 (omega arith)))
