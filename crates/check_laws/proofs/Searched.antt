-- What the search for one number finds; a search's factors, and the room that its operands have.
use mathlib.Core.Path.{◌≡◌, refl, sym, ap, subst, ◌∙◌}
use mathlib.Core.Bool.{Bool, true, false}
use mathlib.Core.List.{List, [], ◌∷◌, ◌++◌}
use Prim.Native.Nat.{ℕ, ◌+◌, ◌-◌, ◌*◌, ◌≤◌}
use native.Mathlib.Omega.{arith}
use native.Mathlib.Nat.{mul-le-mul_right, le_trans}
use lib.Dec.{eqb}
use lib.ListN.{get_or}
use borrow.Author.Tests.{ne_eqb}
use Rattle.std.specs.Prelude.{if◌then◌else◌}
use Rattle.decimal.specs.Choice.{both}
use Rattle.decimal.specs.Lists.{all}
use Rattle.pack_rules.specs.Syntax.{Relation}
use Rattle.pack_rules.specs.Stretch.{start_at}
use Rattle.check_laws.specs.Seek.{Least}
use Rattle.check_laws.proofs.Seeking.{seek_least, least_one}
use Rattle.check_laws.specs.Fast.{Query, factor, passes_all, search}
use Rattle.check_laws.specs.Read.{cap}
use Rattle.check_laws.specs.Ready.{Room}

-- two tests that both hold
pub all_append : (P : Relation → Bool) (c d : List Relation) → all P (c ++ d) ≡ both (all P c) (all P d)
all_append P [] d = refl
all_append P (r ∷ c) d = ap (both (P r)) (all_append P c d) ∙ assoc (P r) (all P c) (all P d)
  where
    assoc : (x y z : Bool) → both x (both y z) ≡ both (both x y) z
    assoc true y z = refl
    assoc false y z = refl

-- where a part begins
pub start_none : (ends : List ℕ) (j : ℕ) → j ≡ 0 → 0 ≡ start_at ends j
start_none ends j e = rw e

pub start_some : (ends : List ℕ) (j k : ℕ) → (j ≡ 0 → ⊥) → k ≡ get_or ends (j - 1) 0 → k ≡ start_at ends j
start_some ends j k n e = rw (ne_eqb j 0 n) e

-- ---- the search

pub search_least : (q : Query) (c : List Relation) (lo hi : ℕ) → lo ≤ hi → Least (passes_all q c) lo hi (search q c lo hi)
unfolding search
search_least q c lo hi h =
    subst (λ (e : ℕ). Least (passes_all q c) lo e (search q c lo hi)) (let g : lo + (hi - lo) ≡ hi = omega arith in g) (seek_least (passes_all q c) (hi - lo) lo)

-- there is one least number
pub least_search : (q : Query) (c : List Relation) (lo hi r : ℕ) → lo ≤ hi → Least (passes_all q c) lo hi r → r ≡ search q c lo hi
least_search q c lo hi r h l = least_one l (search_least q c lo hi h)

-- ---- room

pub room_le : (q : Query) (x y : ℕ) → Room q y → x ≤ y → Room q x
room_le q x y r h =
    record {
      self = omega (arith, r.self);
      n = le_trans (mul-le-mul_right q.n h) r.n;
      i = le_trans (mul-le-mul_right q.i h) r.i;
      f = le_trans (mul-le-mul_right q.f h) r.f;
      t = le_trans (mul-le-mul_right q.t h) r.t;
    }

pub room_factor : (q : Query) (x o s : ℕ) → Room q x → s ≡ factor q o → x * s ≤ cap
unfolding factor
room_factor q x o s r e =
    subst (λ (u : ℕ). x * u ≤ cap) (sym e)
    (pick (eqb o 110) (eqb o 105) (eqb o 102) (eqb o 116))
  where
    pick : (a b c d : Bool) → x * (if a then q.n else if b then q.i else if c then q.f else if d then q.t else 0) ≤ cap
    pick true b c d = r.n
    pick false true c d = r.i
    pick false false true d = r.f
    pick false false false true = r.t
    pick false false false false = omega arith

-- ---- a factor

module _ (q : Query) (o : ℕ) where
  pub factor_n : o ≡ 110 → q.n ≡ factor q o
  unfolding factor
  factor_n e = rw e

  pub factor_i : o ≡ 105 → q.i ≡ factor q o
  unfolding factor
  factor_i e = rw e

  pub factor_f : o ≡ 102 → q.f ≡ factor q o
  unfolding factor
  factor_f e = rw e

  pub factor_t : o ≡ 116 → q.t ≡ factor q o
  unfolding factor
  factor_t e = rw e

  pub factor_none : (o ≡ 110 → ⊥) → (o ≡ 105 → ⊥) → (o ≡ 102 → ⊥) → (o ≡ 116 → ⊥) → 0 ≡ factor q o
  unfolding factor
  factor_none a b c d = rw (ne_eqb o 110 a, ne_eqb o 105 b, ne_eqb o 102 c, ne_eqb o 116 d)
