-- The least number that the relations of a level allow and that passes the levels below: run by run.
use mathlib.Core.Path.{◌≡◌, refl, ◌∙◌}
use mathlib.Core.Bool.{Bool, true, false}
use mathlib.Core.Logic.{⊎_elim}
use Prim.Native.Nat.{ℕ, zero, suc, ◌≤◌, ◌<◌, min}
use native.Mathlib.Omega.{arith}
use Rattle.decimal.specs.Choice.{both}
use Rattle.check_laws.specs.Seek.{Next, Alike}
use Rattle.check_laws.proofs.Seeking.{split, and_false_left, and_false_right, and_true}
use lib.ListN.{get_or, replicate}
use Rattle.pack_rules.specs.Stretch.{Table}
use Rattle.check_laws.specs.declared.Query.{Query}
use Rattle.check_laws.specs.declared.Span.{Span}
use Rattle.check_runs.specs.Kept.{Kept}
use Rattle.check_runs.proofs.Keeping.{kept_none}
use Rattle.check_table.specs.Building.{Looked, Opens}

module _ {P Q : ℕ → Bool} {p end : ℕ} where
  -- the relations hold from p to before `stop`, and z is the next number of the levels below
  pub looked_on : {says : Bool} {z stop r : ℕ} → says ≡ true → Alike P p says stop → Next Q p z → r ≡ min stop end → p < end → Looked P Q p end z r
  looked_on {says} {z} {stop} {r} t a n e h =
      record {
        low = n.low;
        none = λ x l b. and_false_right (P x) (n.none x l b);
        on = λ l. omega (arith, a.some);
        until = λ l. omega arith;
        hit = λ l. n.hit;
        holds = λ l x b c. a.same x b (omega arith) ∙ t;
      }

  -- they hold nowhere before `stop`
  pub looked_off : {says : Bool} {stop : ℕ} → says ≡ false → Alike P p says stop → Looked P Q p end stop stop
  looked_off t a =
      record {
        low = omega (arith, a.some);
        none = λ x l b. and_false_left (Q x) (a.same x l b ∙ t);
        on = λ l. a.some;
        until = λ l. absurd (omega arith);
        hit = λ l. absurd (omega arith);
        holds = λ l. absurd (omega arith);
      }

-- no number from `from` on and before p passes
abbrev pub NoneTo : (ℕ → Bool) → (ℕ → Bool) → ℕ → ℕ → Type 0
NoneTo P Q from p = (x : ℕ) → from ≤ x → x < p → both (P x) (Q x) ≡ false

module _ {P Q : ℕ → Bool} {from p end at stop : ℕ} (low : from ≤ p) (none : NoneTo P Q from p) where
  pub none_to : Looked P Q p end at stop → NoneTo P Q from at
  none_to l x a b = ⊎_elim (λ (k : x < p). none x a k) (λ (k : p ≤ x). l.none x k b) (split x p)

  pub opens_found : Looked P Q p end at stop → at < stop → Opens P Q from end at stop
  opens_found l h =
      record {
        least = record {
          low = omega (arith, l.low);
          high = omega (arith, l.until h);
          none = none_to l;
          hit = λ _. and_true (l.holds h at l.low h) (l.hit h);
        };
        some = λ _. h;
        until = λ _. l.until h;
        holds = λ _ x a b. l.holds h x (omega (arith, l.low)) b;
      }

pub opens_none : {P Q : ℕ → Bool} {from p end : ℕ} → from ≤ end → end ≤ p → NoneTo P Q from p → Opens P Q from end end p
opens_none h k none =
    record {
      least = record { low = h; high = omega arith; none = λ x a b. none x a (omega arith); hit = λ l. absurd (omega arith) };
      some = λ l. absurd (omega arith);
      until = λ l. absurd (omega arith);
      holds = λ l. absurd (omega arith);
    }

-- ---- arrays as they are made

pub zeros : (n k : ℕ) → get_or {A = ℕ} (replicate n 0) k 0 ≡ 0
zeros zero k = refl
zeros (suc n) zero = refl
zeros (suc n) (suc k) = zeros n k

-- nothing is kept yet
pub kept_fresh : (T : Table) (s : Span) (q : Query) (j p : ℕ) → Kept T s q j p (replicate 16 false) (replicate 16 0)
kept_fresh T s q j p = kept_none T s q j p (replicate 16 false) (replicate 16 0) (zeros 16)
