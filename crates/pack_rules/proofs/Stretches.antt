-- The rules that a parsed pack's arrays hold are those at its places.
use mathlib.Core.Path.{◌≡◌, refl, sym, ap, ◌∙◌}
use mathlib.Core.List.{List, [], ◌∷◌, ◌++◌}
use Prim.Native.Nat.{ℕ, zero, suc, ◌+◌, ◌*◌, ◌-◌, ◌≤◌, ◌<◌, min}
use native.Mathlib.Omega.{arith}
use native.Mathlib.Nat.{add-zero, sub-zero, suc-sub-suc, zero-add, zero-sub, suc-min-suc, zero-min, min-zero}
use lib.Dec.{eqb, eqb-suc-zero}
use lib.ListN.{length, get_or, take, drop, length-take}
use lib.Seq.{get_or-take}
use Rattle.pack_rules.specs.Syntax.{Range, Relation, Rule}
use Rattle.pack_rules.specs.declared.Pack.{Pack}
use Rattle.pack_rules.specs.Held.{Row, rows_of, row_ends, parts, keyword_of, ranges_from, relations_from, rules_from, held_ranges, held_relations, held_clauses, held_rules}
use Rattle.pack_rules.specs.Stretch.{stretch, start_at, range_at, ranges_in, end_at, ranges_from_at, table_of, relation_at, clause_at, rule_at}

-- ---- stretches

-- equal elements make equal stretches
pub stretch_same : {A : Type 0} {g h : ℕ → A} (from n : ℕ) → ((k : ℕ) → k < from + n → g k ≡ h k) → stretch g from n ≡ stretch h from n
unfolding stretch
stretch_same from zero e = refl
stretch_same {A} {g} {h} from (suc n) e =
    rw (e from (omega arith)) (ap (λ (l : List A). h from ∷ l) (stretch_same (suc from) n (λ k l. e k (omega arith))))

stretch_shift : {A : Type 0} (g : ℕ → A) (from n : ℕ) → stretch g (suc from) n ≡ stretch (λ (k : ℕ). g (suc k)) from n
unfolding stretch
stretch_shift g from zero = refl
stretch_shift {A} g from (suc n) = ap (λ (l : List A). g (suc from) ∷ l) (stretch_shift g (suc from) n)

pub length_stretch : {A : Type 0} (g : ℕ → A) (from n : ℕ) → length (stretch g from n) ≡ n
unfolding stretch
length_stretch g from zero = refl
length_stretch g from (suc n) = ap suc (length_stretch g (suc from) n)

pub get_or_stretch : {A : Type 0} (g : ℕ → A) (from n k : ℕ) (d : A) → k < n → get_or (stretch g from n) k d ≡ g (from + k)
unfolding stretch
get_or_stretch g from zero k d h = absurd (omega arith)
get_or_stretch g from (suc n) zero d h = ap g (sym (add-zero from))
get_or_stretch g from (suc n) (suc k) d h = get_or_stretch g (suc from) n k d (omega arith) ∙ ap g (omega arith)

-- a stretch up to a place: its first element and the rest, or nothing
pub stretch_cons : {A : Type 0} (g : ℕ → A) (k to : ℕ) → k < to → stretch g k (to - k) ≡ g k ∷ stretch g (k + 1) (to - (k + 1))
unfolding stretch
stretch_cons g k to h =
    let e : to - k ≡ suc (to - (k + 1)) = omega arith in
    let f : suc k ≡ k + 1 = omega arith in
    rw (e, f)

pub stretch_nil : {A : Type 0} (g : ℕ → A) (k to : ℕ) → to ≤ k → stretch g k (to - k) ≡ []
unfolding stretch
stretch_nil g k to h =
    let e : to - k ≡ 0 = omega arith in
    rw e

-- one element more at the end
pub stretch_snoc : {A : Type 0} (g : ℕ → A) (from n : ℕ) → stretch g from (n + 1) ≡ stretch g from n ++ (g (from + n) ∷ [])
unfolding stretch
stretch_snoc g from zero = rw (add-zero from)
stretch_snoc {A} g from (suc n) =
    let e : suc n + 1 ≡ suc (n + 1) = omega arith in
    let f : suc from + n ≡ from + suc n = omega arith in
    rw e (ap (λ (l : List A). g from ∷ l) (stretch_snoc g (suc from) n ∙ rw f))

drop_stretch : {A : Type 0} (g : ℕ → A) (k from n : ℕ) → drop k (stretch g from n) ≡ stretch g (from + k) (n - k)
unfolding stretch
drop_stretch g zero from n = rw (add-zero from, sub-zero n)
drop_stretch g (suc k) from zero = rw (zero-sub (suc k))
drop_stretch {A} g (suc k) from (suc n) =
    let e : suc from + k ≡ from + suc k = omega arith in
    drop_stretch g k (suc from) n ∙ rw (e, suc-sub-suc n k)

take_stretch : {A : Type 0} (g : ℕ → A) (k from n : ℕ) → take k (stretch g from n) ≡ stretch g from (min k n)
unfolding stretch
take_stretch g zero from n = rw (zero-min n)
take_stretch g (suc k) from zero = rw (min-zero (suc k))
take_stretch {A} g (suc k) from (suc n) = rw (suc-min-suc k n) (ap (λ (l : List A). g from ∷ l) (take_stretch g k (suc from) n))

-- a part of a stretch
pub part_stretch : {A : Type 0} (g : ℕ → A) (s e n : ℕ) → take (e - s) (drop s (stretch g 0 n)) ≡ stretch g s (min e n - s)
part_stretch {A} g s e n =
    let k : min (e - s) (n - s) ≡ min e n - s = omega arith in
    rw (drop_stretch g s 0 n, zero-add s, take_stretch g (e - s) s (n - s), k)

-- ---- the arrays, place by place

ranges_stretch : (lows highs : List ℕ) → length lows ≡ length highs → ranges_from lows highs ≡ stretch (range_at lows highs) 0 (length lows)
unfolding stretch
ranges_stretch [] highs e = refl
ranges_stretch (a ∷ lows) [] e = absurd (omega arith)
ranges_stretch (a ∷ lows) (b ∷ highs) e =
    ap (λ (l : List Range). record { low = a; high = b } ∷ l)
    (ranges_stretch lows highs (omega arith) ∙ sym (stretch_shift (range_at (a ∷ lows) (b ∷ highs)) 0 (length lows)))

row_at : List ℕ → ℕ → Row
row_at xs j = record { operand = get_or xs (4 * j) 0; modulus = get_or xs (4 * j + 1) 0; comparison = get_or xs (4 * j + 2) 0; end = get_or xs (4 * j + 3) 0 }

row_next : (o m c e : ℕ) (xs : List ℕ) (j : ℕ) → row_at (o ∷ m ∷ c ∷ e ∷ xs) (suc j) ≡ row_at xs j
unfolding row_at
row_next o m c e xs j =
    let k : 4 * suc j ≡ suc (suc (suc (suc (4 * j)))) = omega arith in
    let k1 : 4 * suc j + 1 ≡ suc (suc (suc (suc (4 * j + 1)))) = omega arith in
    let k2 : 4 * suc j + 2 ≡ suc (suc (suc (suc (4 * j + 2)))) = omega arith in
    let k3 : 4 * suc j + 3 ≡ suc (suc (suc (suc (4 * j + 3)))) = omega arith in
    rw (k1, k2, k3, k)

-- the rows of four numbers each are those at the places
rows_stretch : (n : ℕ) (xs : List ℕ) → length xs ≡ 4 * n → rows_of xs ≡ stretch (row_at xs) 0 n
unfolding stretch row_at
rows_stretch zero [] e = refl
rows_stretch zero (o ∷ xs) e = absurd (omega arith)
rows_stretch (suc n) [] e = absurd (omega arith)
rows_stretch (suc n) (o ∷ []) e = absurd (omega arith)
rows_stretch (suc n) (o ∷ m ∷ []) e = absurd (omega arith)
rows_stretch (suc n) (o ∷ m ∷ c ∷ []) e = absurd (omega arith)
rows_stretch (suc n) (o ∷ m ∷ c ∷ x ∷ xs) e =
    ap (λ (l : List Row). record { operand = o; modulus = m; comparison = c; end = x } ∷ l)
    (rows_stretch n xs (omega arith) ∙ stretch_same 0 n (λ k h. sym (row_next o m c x xs k)) ∙ sym (stretch_shift (row_at (o ∷ m ∷ c ∷ x ∷ xs)) 0 n))

ends_stretch : (g : ℕ → Row) (from n : ℕ) → row_ends (stretch g from n) ≡ stretch (λ (j : ℕ). (g j).end) from n
unfolding stretch
ends_stretch g from zero = refl
ends_stretch g from (suc n) = ap (λ (l : List ℕ). (g from).end ∷ l) (ends_stretch g (suc from) n)

relations_stretch : (g : ℕ → Row) (h : ℕ → List Range) (from n : ℕ)
    → relations_from (stretch g from n) (stretch h from n) ≡ stretch (λ (j : ℕ). record { operand = (g j).operand; modulus = (g j).modulus; negated = eqb (g j).comparison 1; ranges = h j }) from n
unfolding stretch
relations_stretch g h from zero = refl
relations_stretch g h from (suc n) =
    ap (λ (l : List Relation). record { operand = (g from).operand; modulus = (g from).modulus; negated = eqb (g from).comparison 1; ranges = h from } ∷ l)
    (relations_stretch g h (suc from) n)

rule : List ℕ → List (List (List Relation)) → ℕ → Rule
rule ks cs j = record { keyword = keyword_of (get_or ks j 0); clauses = get_or cs j [] }

rules_stretch : (ks : List ℕ) (cs : List (List (List Relation))) → length ks ≤ length cs → rules_from ks cs ≡ stretch (rule ks cs) 0 (length ks)
unfolding stretch rule
rules_stretch [] cs h = refl
rules_stretch (k ∷ ks) [] h = absurd (omega arith)
rules_stretch (k ∷ ks) (c ∷ cs) h =
    ap (λ (l : List Rule). record { keyword = keyword_of k; clauses = c } ∷ l)
    (rules_stretch ks cs (omega arith) ∙ sym (stretch_shift (rule (k ∷ ks) (c ∷ cs)) 0 (length ks)))

-- the part j of a list, of parts that end at these places, the first beginning at s
part_at : {A : Type 0} → ℕ → List ℕ → List A → ℕ → List A
part_at s ends xs zero = take (get_or ends 0 0 - s) (drop s xs)
part_at s ends xs (suc j) = take (get_or ends (suc j) 0 - get_or ends j 0) (drop (get_or ends j 0) xs)

parts_stretch : {A : Type 0} (s : ℕ) (ends : List ℕ) (xs : List A) → parts s ends xs ≡ stretch (part_at s ends xs) 0 (length ends)
unfolding stretch part_at
parts_stretch s [] xs = refl
parts_stretch {A} s (e ∷ ends) xs =
    ap (λ (l : List (List A)). take (e - s) (drop s xs) ∷ l)
    (parts_stretch e ends xs ∙ stretch_same 0 (length ends) (λ k h. next k) ∙ sym (stretch_shift (part_at s (e ∷ ends) xs) 0 (length ends)))
  where
    next : (k : ℕ) → part_at e ends xs k ≡ part_at s (e ∷ ends) xs (suc k)
    next zero = refl
    next (suc k) = refl

part_at_start : {A : Type 0} (ends : List ℕ) (xs : List A) (j : ℕ) → part_at 0 ends xs j ≡ take (get_or ends j 0 - start_at ends j) (drop (start_at ends j) xs)
unfolding part_at
part_at_start ends xs zero = refl
part_at_start ends xs (suc j) =
    let e : suc j - 1 ≡ j = omega arith in
    rw (eqb-suc-zero j, e)

-- the parts of a stretch are stretches
pub parts_of : {A : Type 0} (g : ℕ → A) (ends : List ℕ) (n : ℕ)
    → parts 0 ends (stretch g 0 n) ≡ stretch (λ (j : ℕ). stretch g (start_at ends j) (min (get_or ends j 0) n - start_at ends j)) 0 (length ends)
parts_of g ends n =
    parts_stretch 0 ends (stretch g 0 n)
    ∙ stretch_same 0 (length ends) (λ j h. part_at_start ends (stretch g 0 n) j ∙ part_stretch g (start_at ends j) (get_or ends j 0) n)

-- ---- the pack

-- the arrays are as long as they are declared
pub record Sized (p : Pack) : Type 0 where
  pub low : length p.low ≡ 2048
  pub high : length p.high ≡ 2048
  pub columns : length p.columns ≡ 1280
  pub relations : length p.relations ≡ 40
  pub keyword : length p.keyword ≡ 6
  pub clauses : length p.clauses ≡ 6

pub held_ranges_law : (p : Pack) → Sized p → held_ranges p ≡ stretch (range_at p.low p.high) 0 2048
held_ranges_law p s = ranges_stretch p.low p.high (s.low ∙ sym s.high) ∙ rw s.low

pub held_relations_law : (p : Pack) → Sized p → held_relations p ≡ stretch (relation_at (table_of p)) 0 320
unfolding row_at
held_relations_law p s =
    let rows : rows_of p.columns ≡ stretch (row_at p.columns) 0 320 = rows_stretch 320 p.columns s.columns in
    let ends : row_ends (rows_of p.columns) ≡ stretch (end_at p.columns) 0 320 = ap row_ends rows ∙ ends_stretch (row_at p.columns) 0 320 in
    let q : parts 0 (row_ends (rows_of p.columns)) (held_ranges p) ≡ stretch ranges_at 0 320 =
    rw (held_ranges_law p s, ends)
    (parts_of (range_at p.low p.high) (stretch (end_at p.columns) 0 320) 2048 ∙ rw (length_stretch (end_at p.columns) 0 320) (stretch_same 0 320 (λ j h. same j (omega arith)))) in
    ap (λ (l : List (List Range)). relations_from (rows_of p.columns) l) q ∙ ap (λ (l : List Row). relations_from l (stretch ranges_at 0 320)) rows
    ∙ relations_stretch (row_at p.columns) ranges_at 0 320
  where
    ranges_at : ℕ → List Range
    ranges_at j = ranges_in p.low p.high (ranges_from_at p.columns j) (min (end_at p.columns j) 2048)

    ends_at : ℕ → List ℕ → ℕ → List Range
    ends_at n ends j = stretch (range_at p.low p.high) (start_at ends j) (min (get_or ends j 0) n - start_at ends j)

    end_is : (j : ℕ) → j < 320 → get_or (stretch (end_at p.columns) 0 320) j 0 ≡ end_at p.columns j
    end_is j h = get_or_stretch (end_at p.columns) 0 320 j 0 h ∙ ap (end_at p.columns) (zero-add j)

    start_is : (j : ℕ) → j < 320 → start_at (stretch (end_at p.columns) 0 320) j ≡ ranges_from_at p.columns j
    start_is zero h = refl
    start_is (suc j) h = rw (eqb-suc-zero j) (end_is (suc j - 1) (omega arith))

    same : (j : ℕ) → j < 320 → ends_at 2048 (stretch (end_at p.columns) 0 320) j ≡ ranges_at j
    same j h = rw (end_is j h, start_is j h)

pub held_clauses_law : (p : Pack) → Sized p → held_clauses p ≡ stretch (clause_at (table_of p) p.relations) 0 40
held_clauses_law p s = rw (held_relations_law p s) (parts_of (relation_at (table_of p)) p.relations 320 ∙ rw s.relations)

pub held_rules_law : (p : Pack) → Sized p → held_rules p ≡ stretch (rule_at p) 0 (min p.count 6)
unfolding rule
held_rules_law p s =
    let cs = parts 0 p.clauses (held_clauses p) in
    let ks = take p.count p.keyword in
    let q : cs ≡ stretch clauses_at 0 6 = rw (held_clauses_law p s) (parts_of (clause_at (table_of p) p.relations) p.clauses 40 ∙ rw s.clauses) in
    let l : length cs ≡ 6 = ap length q ∙ length_stretch clauses_at 0 6 in
    let k : length ks ≡ min p.count 6 = length-take p.count p.keyword ∙ rw s.keyword in
    rules_stretch ks cs (omega arith)
    ∙ rw k
    (stretch_same 0 (min p.count 6)
    (λ j h. same (get_or ks j 0) (get_or p.keyword j 0) (get_or cs j []) (clauses_at j) (get_or-take p.count p.keyword j 0 (omega arith)) (ap (λ (x : List (List (List Relation))). get_or x j []) q ∙ get_or_stretch clauses_at 0 6 j [] (omega arith) ∙ ap clauses_at (zero-add j))))
  where
    clauses_at : ℕ → List (List Relation)
    clauses_at j = stretch (clause_at (table_of p) p.relations) (start_at p.clauses j) (min (get_or p.clauses j 0) 40 - start_at p.clauses j)

    same : (a b : ℕ) (x y : List (List Relation)) → a ≡ b → x ≡ y → ◌≡◌ {A = Rule} (record { keyword = keyword_of a; clauses = x }) (record { keyword = keyword_of b; clauses = y })
    same a b x y e f = rw (e, f)
