-- The pairs of rules in turn, whatever finds the rank of a pair's least number: from that number to the answer.
use Rattle.check_laws.specs.declared.Clash.{Clash}
use Rattle.check_laws.specs.Check.{clashing}
use Rattle.std.specs.Prelude.{Result, Ok}
use mathlib.Core.Path.{◌≡◌, sym, ap, subst, ◌∙◌}
use mathlib.Core.Bool.{Bool}
use mathlib.Core.List.{List}
use Prim.Native.Nat.{ℕ, suc, ◌+◌, ◌-◌, ◌*◌, ◌/◌, ◌%◌, ◌^◌, ◌≤◌, ◌<◌}
use native.Mathlib.Omega.{arith}
use native.Mathlib.Nat.{mul-le-mul_right}
use native.Mathlib.Numerals.{add-one}
use lib.Arith.{digits_lt, digits_div, digits_mod}
use borrow.Author.Tests.{lt-ltb, le-ltb}
use Rattle.std.specs.Prelude.{if◌then◌else◌}
use Rattle.answer.specs.declared.Witness.{Witness}
use Rattle.number.specs.Limits.{max_exponent, max_digits, max_places}
use Rattle.pack_rules.specs.Syntax.{Rule}
use Rattle.check_laws.specs.Check.{block, ranks, ranked, named, against, first_pair}
use Rattle.pack_rules.specs.Stretch.{stretch, Table}
use Rattle.check_laws.specs.Read.{bare_rule}
use Rattle.check_laws.specs.Spots.{spot_rank, Proper, answered}
use Rattle.pack_rules.proofs.Stretches.{stretch_cons, stretch_nil}

-- ---- what is found

low_lt : (s : Witness) → Proper s → (s.v.0 * 10 ^ max_digits + s.i) * 10 ^ max_places + s.f.0 < block
low_lt s p = digits_lt (digits_lt p.places p.whole) p.fraction

pub found_lt : (s : Witness) → Proper s → s.e ≤ max_exponent → spot_rank s < ranks
unfolding spot_rank
found_lt s p h = digits_lt {m = suc max_exponent} (let g : s.e < suc max_exponent = omega arith in g) (low_lt s p)

pub none_ge : (s : Witness) → max_exponent < s.e → ranks ≤ spot_rank s
unfolding spot_rank
none_ge s h = let g : suc max_exponent * block ≤ s.e * block = mul-le-mul_right block h in omega arith

-- the number of a spot's rank is the spot's
pub ranked_is : (s : Witness) → Proper s → ranked (spot_rank s) ≡ s
unfolding spot_rank
ranked_is s p = rw (e_is, v_is, i_is, f_is)
  where
    k : ℕ
    k = s.e * block + ((s.v.0 * 10 ^ max_digits + s.i) * 10 ^ max_places + s.f.0)

    whole : s.e * block + ((s.v.0 * 10 ^ max_digits + s.i) * 10 ^ max_places + s.f.0) ≡ ((s.e * suc max_places + s.v.0) * 10 ^ max_digits + s.i) * 10 ^ max_places + s.f.0
    whole = omega arith

    f_is : (s.e * block + ((s.v.0 * 10 ^ max_digits + s.i) * 10 ^ max_places + s.f.0)) % 10 ^ max_places ≡ s.f.0
    f_is = ap (λ (x : ℕ). x % 10 ^ max_places) whole ∙ digits_mod ((s.e * suc max_places + s.v.0) * 10 ^ max_digits + s.i) p.fraction

    one : (s.e * block + ((s.v.0 * 10 ^ max_digits + s.i) * 10 ^ max_places + s.f.0)) / 10 ^ max_places ≡ (s.e * suc max_places + s.v.0) * 10 ^ max_digits + s.i
    one = ap (λ (x : ℕ). x / 10 ^ max_places) whole ∙ digits_div ((s.e * suc max_places + s.v.0) * 10 ^ max_digits + s.i) p.fraction

    i_is : (s.e * block + ((s.v.0 * 10 ^ max_digits + s.i) * 10 ^ max_places + s.f.0)) / 10 ^ max_places % 10 ^ max_digits ≡ s.i
    i_is = ap (λ (x : ℕ). x % 10 ^ max_digits) one ∙ digits_mod (s.e * suc max_places + s.v.0) p.whole

    two : (s.e * block + ((s.v.0 * 10 ^ max_digits + s.i) * 10 ^ max_places + s.f.0)) / 10 ^ max_places / 10 ^ max_digits ≡ s.e * suc max_places + s.v.0
    two = ap (λ (x : ℕ). x / 10 ^ max_digits) one ∙ digits_div (s.e * suc max_places + s.v.0) p.whole

    v_is : (s.e * block + ((s.v.0 * 10 ^ max_digits + s.i) * 10 ^ max_places + s.f.0)) / 10 ^ max_places / 10 ^ max_digits % suc max_places ≡ s.v.0
    v_is = ap (λ (x : ℕ). x % suc max_places) two ∙ digits_mod s.e p.places

    e_is : (s.e * block + ((s.v.0 * 10 ^ max_digits + s.i) * 10 ^ max_places + s.f.0)) / 10 ^ max_places / 10 ^ max_digits / suc max_places ≡ s.e
    e_is = ap (λ (x : ℕ). x / suc max_places) two ∙ digits_div s.e p.places

-- ---- one rule against those behind it

module _ (L : Rule → Rule → ℕ) (T : Table) (R C : List ℕ) (p n : ℕ) where
  -- the rules from q on
  abbrev pub From : ℕ → Result (Unit {0}) Clash → Result (Unit {0}) Clash
  From q rest = against L (p + 1) (q + 1) (bare_rule T R C p) (stretch (bare_rule T R C) q (n - q)) rest

  step : (q : ℕ) (rest : Result (Unit {0}) Clash) → q < n → From q rest ≡ named (p + 1) (q + 1) (L (bare_rule T R C p) (bare_rule T R C q)) (From (q + 1) rest)
  unfolding against
  step q rest h = rw (stretch_cons (bare_rule T R C) q n h, add-one (q + 1))

  pub behind_more : (q : ℕ) (s : Witness) → q < n → spot_rank s ≡ L (bare_rule T R C p) (bare_rule T R C q) → max_exponent < s.e → (rest : Result (Unit {0}) Clash) → From q rest ≡ From (q + 1) rest
  behind_more q s h e g rest =
      step q rest h
      ∙ ap (λ (b : Bool). if b then clashing (record { first = p + 1; second = q + 1 }) (ranked (L (bare_rule T R C p) (bare_rule T R C q))) else From (q + 1) rest)
      (le-ltb (L (bare_rule T R C p) (bare_rule T R C q)) ranks (subst (λ (x : ℕ). ranks ≤ x) e (none_ge s g)))

  pub behind_found : (q : ℕ) (s : Witness) → q < n → spot_rank s ≡ L (bare_rule T R C p) (bare_rule T R C q) → Proper s → s.e ≤ max_exponent → (rest : Result (Unit {0}) Clash) → From q rest ≡ answered p n q s rest
  behind_found q s h e pr g rest =
      step q rest h
      ∙ ap (λ (b : Bool). if b then clashing (record { first = p + 1; second = q + 1 }) (ranked (L (bare_rule T R C p) (bare_rule T R C q))) else From (q + 1) rest)
      (lt-ltb (L (bare_rule T R C p) (bare_rule T R C q)) ranks (subst (λ (x : ℕ). x < ranks) e (found_lt s pr g)))
      ∙ ap (λ (x : Witness). clashing (record { first = p + 1; second = q + 1 }) x) (ap ranked (sym e) ∙ ranked_is s pr)
      ∙ sym (ap (λ (b : Bool). if b then clashing (record { first = p + 1; second = q + 1 }) s else rest) (lt-ltb q n h))

  pub behind_none : (q : ℕ) (s : Witness) → n ≤ q → (rest : Result (Unit {0}) Clash) → From q rest ≡ answered p n n s rest
  unfolding against
  behind_none q s h rest = rw (stretch_nil (bare_rule T R C) q n h) (sym (ap (λ (b : Bool). if b then clashing (record { first = p + 1; second = n + 1 }) s else rest) (le-ltb n n (omega arith))))

-- ---- all rules

module _ (L : Rule → Rule → ℕ) (T : Table) (R C : List ℕ) (n : ℕ) where
  abbrev pub FromRule : ℕ → Result (Unit {0}) Clash
  FromRule k = first_pair L (k + 1) (stretch (bare_rule T R C) k (n - k))

  rules_step : (k : ℕ) → k < n → FromRule k ≡ From L T R C k n (k + 1) (FromRule (k + 1))
  unfolding first_pair
  rules_step k h = rw (stretch_cons (bare_rule T R C) k n h, add-one (k + 1))

  pub rules_found : (k : ℕ) (q : ℕ) (s : Witness) → k < n → ((rest : Result (Unit {0}) Clash) → From L T R C k n (k + 1) rest ≡ answered k n q s rest) → q < n
      → FromRule k ≡ clashing (record { first = k + 1; second = q + 1 }) s
  rules_found k q s h e l =
      rules_step k h ∙ e (FromRule (k + 1))
      ∙ ap (λ (b : Bool). if b then clashing (record { first = k + 1; second = q + 1 }) s else FromRule (k + 1)) (lt-ltb q n l)

  pub rules_more : (k : ℕ) (q : ℕ) (s : Witness) → k < n → ((rest : Result (Unit {0}) Clash) → From L T R C k n (k + 1) rest ≡ answered k n q s rest) → n ≤ q → FromRule k ≡ FromRule (k + 1)
  rules_more k q s h e l =
      rules_step k h ∙ e (FromRule (k + 1))
      ∙ ap (λ (b : Bool). if b then clashing (record { first = k + 1; second = q + 1 }) s else FromRule (k + 1)) (le-ltb q n l)

  pub rules_end : (k : ℕ) → n ≤ k → FromRule k ≡ Ok tt
  unfolding first_pair
  rules_end k h = rw (stretch_nil (bare_rule T R C) k n h)
