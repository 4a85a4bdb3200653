-- A clause's profile: what it leaves of e, of v, of w and of the last digit of i, whether f may be 0, and whether n and f are asked, as bits of one number. Each bit
-- is a test of all its relations, so that the profile of two clauses joined is the bits that both have.
use Rattle.std.specs.Prelude.{◌≡◌, Bool, true, false, not, List, ℕ, suc, ◌+◌, ◌-◌, ◌*◌, ◌/◌, ◌%◌, ◌^◌, ◌≤◌, ◌<◌, min, eqb, leb, ltb, get_or, if◌then◌else◌}
use Rattle.decimal.specs.Choice.{both, either}
use Rattle.decimal.specs.Lists.{all, any}
use Rattle.number.specs.Limits.{max_exponent, max_places}
use Rattle.pack_rules.specs.Room.{clause_room}
use Rattle.pack_rules.specs.Syntax.{Range, Relation}
use Rattle.pack_rules.specs.Stretch.{stretch, Table, clause_at}
use Rattle.select.specs.Select.{mask_of}
use Rattle.check_laws.specs.Seek.{seek}
use Rattle.check_laws.specs.Fast.{passes, asked, query_i, query_t, settled_e, settled_v, settled_w, settled_f}

-- the values below n that pass a test, as bits
abbrev pub values_of : (ℕ → Bool) → ℕ → ℕ
values_of P n = mask_of (stretch P 0 n)

-- those at which all relations pass
abbrev pub marks : (ℕ → Relation → Bool) → ℕ → List Relation → ℕ
marks P n c = values_of (λ (x : ℕ). all (P x) c) n

-- three more tests: f may be 0; n is not asked; f is not asked
unfoldable pub flag_at : ℕ → Relation → Bool
flag_at k r =
    if eqb k 0 then passes (query_t 0) r 0 else
    if eqb k 1 then not (eqb r.operand 110) else
    not (eqb r.operand 102)

-- ---- the last digit

-- digits go round: from u on, w - u more of them
abbrev pub round : ℕ → ℕ → ℕ → Bool
round u w d = either (both (leb u d) (leb d w)) (leb (d + 10) w)

-- the range has a number that ends in the digit d
abbrev pub reaches : ℕ → Range → Bool
reaches d r = round (r.low % 10) (r.low % 10 + (r.high - r.low)) d

-- the range has not every remainder by m that ends in d
abbrev pub spares : ℕ → ℕ → Range → Bool
spares m d r = not (both (leb r.low d) (leb (m + d) (r.high + 10)))

-- A number that ends in d may meet the relation. A remainder ends as the number does where the modulus does in 0; numbers without a modulus have no last one.
unfoldable pub ends_in : ℕ → Relation → Bool
ends_in d r =
    if eqb (r.modulus % 10) 0 then
    if r.negated then
    if eqb r.modulus 0 then true else
    all (spares r.modulus d) r.ranges
    else
    any (reaches d) r.ranges
    else
    true

-- the same of an i, where f is 0 or not
unfoldable pub last_of : Bool → ℕ → Relation → Bool
last_of whole d r = if asked (query_i whole) r then ends_in d r else true

-- ---- all of them

-- 20 bits for e, 10 for v and for w each, the flags, and 10 bits for the last digit where f is 0 and where it is not
abbrev pub packed : ℕ → ℕ → ℕ → ℕ → ℕ → ℕ → ℕ
packed e v w flags whole part = ((((part * 1024 + whole) * 8 + flags) * 1024 + w) * 1024 + v) * 1048576 + e

unfoldable pub profile_of : List Relation → ℕ
profile_of c =
    packed
    (marks settled_e (suc max_exponent) c)
    (marks settled_v (suc max_places) c)
    (marks settled_w (suc max_places) c)
    (marks flag_at 3 c)
    (marks (last_of true) 10 c)
    (marks (last_of false) 10 c)

-- ---- what its parts say

-- the last digits that are left where f is 0, and where it is not
abbrev pub whole_digits : ℕ → ℕ
whole_digits p = p / 8796093022208 % 1024

abbrev pub part_digits : ℕ → ℕ
part_digits p = p / 9007199254740992

-- the bit k is set
abbrev pub marked : ℕ → ℕ → Bool
marked m k = eqb (m / 2 ^ k % 2) 1

-- v and w are settled where both are marked
pub record Settled (c : List Relation) (vs ws : ℕ) : Type 0 where
  pub says : (v w : ℕ) → v ≤ max_places → w ≤ max_places → all (settled_f v w) c ≡ both (marked vs v) (marked ws w)

-- the least v other than 0 that is marked and has room for f
unfoldable pub least_room : ℕ → ℕ → ℕ
least_room vs f = seek (λ v. both (marked vs v) (ltb f (10 ^ v))) max_places 1

-- ---- the profiles of a pack's clauses

-- the array holds those of the first `end` clauses
abbrev pub Profiled : Table → List ℕ → List ℕ → ℕ → Type 0
Profiled T relations profiles end = (j : ℕ) → j < end → get_or profiles j 0 ≡ profile_of (clause_at T relations j)

-- and so those of the clauses of the first n rules
abbrev pub ProfiledRules : Table → List ℕ → List ℕ → ℕ → List ℕ → Type 0
ProfiledRules T relations clauses n profiles = (p : ℕ) → p < n → Profiled T relations profiles (min (get_or clauses p 0) clause_room)
