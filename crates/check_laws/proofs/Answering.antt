-- What the code of the check works out: the pairs in turn, their ranks by the search that is run.
use Rattle.check_laws.specs.declared.Clash.{Clash}
use Rattle.check_laws.specs.Check.{clashing}
use Rattle.std.specs.Prelude.{Result, Ok}
use mathlib.Core.Path.{◌≡◌}
use mathlib.Core.List.{List}
use Prim.Native.Nat.{ℕ, ◌+◌, ◌≤◌, ◌<◌}
use Rattle.answer.specs.declared.Witness.{Witness}
use Rattle.number.specs.Limits.{max_exponent}
use Rattle.check_laws.specs.Fast.{fast_rank, both_of, fast_clash}
use Rattle.pack_rules.specs.Stretch.{Table}
use Rattle.check_laws.specs.Read.{rule_clauses}
use Rattle.check_laws.specs.Spots.{spot_rank, Proper, answered}
use Rattle.check_laws.proofs.Turns as turns

-- ---- one rule against those behind it

module _ (T : Table) (R C : List ℕ) (p n : ℕ) where
  -- the rules from q on
  abbrev pub From : ℕ → Result (Unit {0}) Clash → Result (Unit {0}) Clash
  From = turns.From fast_clash T R C p n

  pub behind_more : (q : ℕ) (s : Witness) → q < n → spot_rank s ≡ fast_rank (both_of (rule_clauses T R C p) (rule_clauses T R C q)) → max_exponent < s.e → (rest : Result (Unit {0}) Clash) → From q rest ≡ From (q + 1) rest
  behind_more = turns.behind_more fast_clash T R C p n

  pub behind_found : (q : ℕ) (s : Witness) → q < n → spot_rank s ≡ fast_rank (both_of (rule_clauses T R C p) (rule_clauses T R C q)) → Proper s → s.e ≤ max_exponent → (rest : Result (Unit {0}) Clash) → From q rest ≡ answered p n q s rest
  behind_found = turns.behind_found fast_clash T R C p n

  pub behind_none : (q : ℕ) (s : Witness) → n ≤ q → (rest : Result (Unit {0}) Clash) → From q rest ≡ answered p n n s rest
  behind_none = turns.behind_none fast_clash T R C p n

-- ---- all rules

module _ (T : Table) (R C : List ℕ) (n : ℕ) where
  abbrev pub FromRule : ℕ → Result (Unit {0}) Clash
  FromRule = turns.FromRule fast_clash T R C n

  pub rules_found : (k : ℕ) (q : ℕ) (s : Witness) → k < n → ((rest : Result (Unit {0}) Clash) → From T R C k n (k + 1) rest ≡ answered k n q s rest) → q < n
      → FromRule k ≡ clashing (record { first = k + 1; second = q + 1 }) s
  rules_found = turns.rules_found fast_clash T R C n

  pub rules_more : (k : ℕ) (q : ℕ) (s : Witness) → k < n → ((rest : Result (Unit {0}) Clash) → From T R C k n (k + 1) rest ≡ answered k n q s rest) → n ≤ q → FromRule k ≡ FromRule (k + 1)
  rules_more = turns.rules_more fast_clash T R C n

  pub rules_end : (k : ℕ) → n ≤ k → FromRule k ≡ Ok tt
  rules_end = turns.rules_end fast_clash T R C n
