-- The search that is run: the least admitted number that meets a condition. Where e, v and w are given, each relation is settled, or is a test of i, or
-- one of t, where f = t * 10 ^ (v - w) and t does not end in 0 unless it is 0. So the least i and the least t of a clause are searched for apart.
use Rattle.check_laws.specs.declared.Clash.{Clash}
use Rattle.std.specs.Prelude.{Result}
use Rattle.std.specs.Prelude.{Bool, true, false, not, List, [], ◌∷◌, ◌++◌, ℕ, zero, suc, ◌+◌, ◌-◌, ◌*◌, ◌/◌, ◌%◌, ◌^◌, min, leb, ltb, eqb, if◌then◌else◌}
use Rattle.decimal.specs.Choice.{both, either}
use Rattle.decimal.specs.Lists.{all, any}
use Rattle.number.specs.Limits.{max_exponent, max_digits, max_places}
use Rattle.pack_rules.specs.Syntax.{Relation, Rule}
use Rattle.meaning.specs.Meaning.{in_range}
use Rattle.check_laws.specs.Seek.{seek}
use Rattle.check_laws.specs.Check.{lowest, block, ranks, first_pair}
pub use Rattle.check_laws.specs.declared.Query.{Query}

-- ---- a relation at a whole value of its operand

-- what a relation says of a remainder, or of a value where it has no modulus
unfoldable pub listed : Relation → ℕ → Bool
listed r y = if r.negated then not (any (in_range y) r.ranges) else any (in_range y) r.ranges

unfoldable pub test : Relation → ℕ → Bool
test r x = listed r (x % r.modulus)

-- ---- the search for one number

unfoldable pub factor : Query → ℕ → ℕ
factor q o =
    if eqb o 110 then q.n else
    if eqb o 105 then q.i else
    if eqb o 102 then q.f else
    if eqb o 116 then q.t else
    0

-- a search for i, where f is 0 or not: only a whole number's n is a value to compare
abbrev pub query_i : Bool → Query
query_i whole = record { n = if whole then 1 else 0; i = 1; f = 0; t = 0; odd = false }

-- a search for t other than 0, with k zeros after it
abbrev pub query_t : ℕ → Query
query_t k = record { n = 0; i = 0; f = 10 ^ k; t = 1; odd = true }

abbrev pub asked : Query → Relation → Bool
asked q r = not (eqb (factor q r.operand) 0)

-- what a relation, and the last digit, ask of x
unfoldable pub passes : Query → Relation → ℕ → Bool
passes q r x = if asked q r then test r (x * factor q r.operand) else true

unfoldable pub ends : Query → ℕ → Bool
ends q x = if q.odd then not (eqb (x % 10) 0) else true

unfoldable pub passes_all : Query → List Relation → ℕ → Bool
passes_all q c x = both (ends q x) (all (λ (r : Relation). passes q r x) c)

-- the least x from lo on and below hi that passes, or hi
unfoldable pub search : Query → List Relation → ℕ → ℕ → ℕ
search q c lo hi = seek (passes_all q c) (hi - lo) lo

-- ---- what e, and what v and w, settle

unfoldable pub of_exponent : ℕ → Bool
of_exponent o =
    if eqb o 110 then false else
    if eqb o 105 then false else
    if eqb o 102 then false else
    if eqb o 116 then false else
    if eqb o 118 then false else
    not (eqb o 119)

unfoldable pub settled_e : ℕ → Relation → Bool
settled_e e r = if of_exponent r.operand then test r e else true

-- where w is not 0, n is no whole number
unfoldable pub settled_v : ℕ → Relation → Bool
settled_v v r = if eqb r.operand 118 then test r v else true

unfoldable pub settled_w : ℕ → Relation → Bool
settled_w w r =
    if eqb r.operand 110 then either (eqb w 0) r.negated else
    if eqb r.operand 119 then test r w else
    true

abbrev pub settled_f : ℕ → ℕ → Relation → Bool
settled_f v w r = both (settled_v v r) (settled_w w r)

-- ---- a clause: the e, the v and f, and the i of its least number do not depend on one another, but that i depends on whether f is 0

-- the least e; more than max_exponent where there is none
unfoldable pub exponent_of : List Relation → ℕ
exponent_of c = seek (λ e. all (settled_e e) c) (suc max_exponent) 0

-- v and f as one number, and how many there are
abbrev pub fractions : ℕ
fractions = suc max_places * 10 ^ max_places

-- the least v where f is 0, for any v
unfoldable pub whole_code : List Relation → ℕ
whole_code c =
    elim (all (λ (r : Relation). passes (query_t 0) r 0) c)
    [ true ↦ seek (λ v. all (settled_f v 0) c) (suc max_places) 0 * 10 ^ max_places | false ↦ fractions ]

-- the least t by what is asked of t alone; no more than that is asked at any count of zeros where no relation asks f
abbrev pub alone : Query
alone = record { n = 0; i = 0; f = 0; t = 1; odd = true }

unfoldable pub alone_of : List Relation → ℕ
alone_of c = search alone c 0 (10 ^ max_places)

-- the least f other than 0 by what is asked of f alone: every f is at least that
abbrev pub query_f : Query
query_f = record { n = 0; i = 0; f = 1; t = 0; odd = false }

unfoldable pub least_f : List Relation → ℕ
least_f c = search query_f c 1 (10 ^ max_places)

-- one of the relations has the operand o
abbrev pub asks_of : ℕ → List Relation → Bool
asks_of o c = any (λ (r : Relation). eqb r.operand o) c

-- the least t before k zeros, for any v; and the least v and f with it
unfoldable pub tail_of : ℕ → List Relation → ℕ
tail_of k c = search (query_t k) c 0 (10 ^ (max_places - k))

unfoldable pub tail_places : ℕ → ℕ → List Relation → ℕ
tail_places k t c = seek (λ v. both (all (settled_f v (v - k)) c) (ltb t (10 ^ (v - k)))) (max_places - k) (suc k)

unfoldable pub tail_code : ℕ → List Relation → ℕ
tail_code k c =
    let t = tail_of k c in
    let v = tail_places k t c in
    if leb v max_places then v * 10 ^ max_places + t * 10 ^ k else fractions

-- the least v and f where f is not 0, and ends in fewer than n zeros
unfoldable pub part_code : ℕ → List Relation → ℕ
part_code zero c = fractions
part_code (suc k) c = min (part_code k c) (tail_code k c)

-- the least v and f, where f is 0, or where it is not
unfoldable pub fraction_code : Bool → List Relation → ℕ
fraction_code whole c = elim whole [ true ↦ whole_code c | false ↦ part_code max_places c ]

-- the least i at e
unfoldable pub integer_of : Bool → ℕ → List Relation → ℕ
integer_of whole e c = search (query_i whole) c (lowest e) (10 ^ max_digits)

-- the rank, within the exponent e, of v and f as one number q with i; `block` where one of them is not found
abbrev pub placed : ℕ → ℕ → ℕ
placed q i = (q / 10 ^ max_places * 10 ^ max_digits + i) * 10 ^ max_places + q % 10 ^ max_places

unfoldable pub kind_rank : Bool → ℕ → List Relation → ℕ
kind_rank whole e c =
    let q = fraction_code whole c in
    elim (ltb q fractions) [
      | true ↦
          let i = integer_of whole e c in
          if ltb i (10 ^ max_digits) then placed q i else block
      | false ↦ block
    ]

-- Where there is no i at the least e, there is none at a later one.
unfoldable pub clause_rank : List Relation → ℕ
clause_rank c =
    let e = exponent_of c in
    elim (leb e max_exponent) [
      | true ↦
          let k = min (kind_rank true e c) (kind_rank false e c) in
          if ltb k block then e * block + k else ranks
      | false ↦ ranks
    ]

-- ---- a condition, and the check

-- the rank of the least admitted number that meets the condition; `ranks` where none does
unfoldable pub fast_rank : List (List Relation) → ℕ
fast_rank [] = ranks
fast_rank (c ∷ cs) = min (clause_rank c) (fast_rank cs)

-- both of two conditions as one: each clause of one joined with each of the other
unfoldable pub with_each : List Relation → List (List Relation) → List (List Relation)
with_each c [] = []
with_each c (d ∷ ds) = (c ++ d) ∷ with_each c ds

unfoldable pub both_of : List (List Relation) → List (List Relation) → List (List Relation)
both_of [] ds = []
both_of (c ∷ cs) ds = with_each c ds ++ both_of cs ds

abbrev pub fast_clash : Rule → Rule → ℕ
fast_clash a b = fast_rank (both_of a.clauses b.clauses)

abbrev pub fast_check : List Rule → Result (Unit {0}) Clash
fast_check rs = first_pair fast_clash 1 rs
