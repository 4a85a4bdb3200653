-- Which of the rows 22 to 26 is given: at the first token that falls under one, the first of its rows. So the reader's first fault is it.
use mathlib.Core.Path.{◌≡◌, refl, sym, ap, ◌∙◌}
use mathlib.Core.Bool.{Bool, true, false, not}
use mathlib.Core.List.Memᴰ
use mathlib.Core.List.{List, [], ◌∷◌, ◌++◌, map, Memᴰ, head-eq_of_cons-eq, tail-eq_of_cons-eq}
use mathlib.Core.Logic.{◌⊎◌, inl, inr, ◌↔◌}
use Prim.Native.Nat.{ℕ, suc, ◌≤◌}
use native.Mathlib.Omega.{arith}
use lib.Dec.{eqb, ltb, leb}
use lib.ListN.{length}
use borrow.Author.Tests.{ne_eqb}
use Rattle.decimal.specs.Choice.{either}
use Rattle.decimal.specs.Digits.{value}
use Rattle.pack_token.specs.Spelling.{among}
use Rattle.pack_token.specs.Token.{Token, tokens}
use Rattle.pack_token.proofs.Pieces.{Placed, placed}
use Rattle.pack_grammar.specs.Limits.{max_clauses, max_relations, max_ranges, max_value, is_modulus, keywords}
use Rattle.pack_grammar.specs.Grammar.{Text, RangeTree, HeadTree, RelationTree, ClauseTree, RuleTree, PackTree, name_of, of_pack, right_pack}
use Rattle.pack_grammar.specs.Grammar.RangeTree.{One, Span}
use Rattle.pack_grammar.specs.Grammar.HeadTree.{Plain, Modulo}
use Rattle.pack_grammar.specs.Grammar.RelationTree.{Rel}
use Rattle.pack_grammar.specs.Grammar.ClauseTree.{Joined}
use Rattle.pack_grammar.specs.Grammar.RuleTree.{Bare, Named}
use Rattle.pack_grammar.specs.Grammar.PackTree.{Parted}
use Rattle.pack_grammar.specs.WellFormed.{texts}
use Rattle.pack_grammar.specs.Within.{Every}
use Rattle.pack_grammar.specs.Falls.{when, range_rows, rows_of_head, in_turn, relation_rows, clause_rows, name_rows, rule_rows, rules_rows, pack_rows, Falls, Earliest}
use Rattle.pack_grammar.specs.Falls.Falls.{here, later}
use Rattle.pack_grammar.specs.Reader.{Fault, or_else, fault_at}
use Rattle.pack_grammar.specs.Reader.Fault.{None, At}
use Rattle.pack_grammar.proofs.Laws.{every_append}
use Rattle.pack_grammar.proofs.Places.{or_0, or_1}
use Rattle.pack_grammar.proofs.Viable.{Far, onward, outset}
use Rattle.pack_grammar.proofs.Whole.{faults}
use Rattle.pack_grammar.proofs.Troubles.{first, rows_on, pack_rows_law}

-- ---- each token's rows are of 22 to 26, the lowest first

abbrev pub Ordered : List ℕ → Type 0
Ordered rs = (m : ℕ) → Memᴰ m rs → (22 ≤ m) × (m ≤ 26) × (first rs ≤ m)

none_ordered : Ordered []
none_ordered m x = absurd (Memᴰ.not-nil x)

one_ordered : (n : ℕ) → 22 ≤ n → n ≤ 26 → Ordered (n ∷ [])
one_ordered n lo hi m x = let e = Memᴰ.eq_of_singleton x in (omega arith, omega arith, omega arith)

when_ordered : (b : Bool) (n : ℕ) → 22 ≤ n → n ≤ 26 → Ordered (when b n)
when_ordered true n lo hi = one_ordered n lo hi
when_ordered false n lo hi = none_ordered

-- 22, and a row above it
value_ordered : (b c : Bool) (n : ℕ) → 22 ≤ n → n ≤ 26 → Ordered (when b 22 ++ when c n)
value_ordered false c n lo hi = when_ordered c n lo hi
value_ordered true c n lo hi = λ m x. go m (Memᴰ.cases_cons x)
  where
    go : (m : ℕ) → (m ≡ 22) ⊎ Memᴰ m (when c n) → (22 ≤ m) × (m ≤ 26) × (22 ≤ m)
    go m (inl e) = (omega arith, omega arith, omega arith)
    go m (inr x) = let w = when_ordered c n lo hi m x in (w.0, w.1, w.0)

in_turn_every : {A : Type 0} (P : List ℕ → Type 0) (f : ℕ → A → List (List ℕ)) → P [] → ((i : ℕ) (x : A) → Every P (f i x))
    → (i : ℕ) (xs : List A) (x : A) → Every P (in_turn f i xs x)
in_turn_every P f z h i [] x = h i x
in_turn_every P f z h i (y ∷ xs) x = every_append P (f i y) ([] ∷ in_turn f (suc i) xs x) (h i y) (z, in_turn_every P f z h (suc i) xs x)

range_ordered : (k : ℕ) (v : RangeTree) → Every Ordered (range_rows k v)
range_ordered k (One a) = (value_ordered (ltb max_value (value a)) (leb max_ranges k) 26 (omega arith) (omega arith), tt)
range_ordered k (Span a b) = (
  value_ordered (ltb max_value (value a)) (leb max_ranges k) 26 (omega arith) (omega arith),
  (none_ordered, (value_ordered (ltb max_value (value b)) (ltb (value b) (value a)) 24 (omega arith) (omega arith), tt)),
)

head_ordered : (many : Bool) (h : HeadTree) → Every Ordered (rows_of_head many h)
head_ordered many (Plain o n) = (when_ordered many 26 (omega arith) (omega arith), (none_ordered, tt))
head_ordered many (Modulo o m n) = (
  when_ordered many 26 (omega arith) (omega arith),
  (none_ordered, (when_ordered (not (is_modulus (value m))) 23 (omega arith) (omega arith), (none_ordered, tt))),
)

relation_ordered : (j k : ℕ) (r : RelationTree) → Every Ordered (relation_rows j k r)
relation_ordered j k (Rel h vs v) =
    let many = either (leb max_clauses j) (leb max_relations k) in
    every_append Ordered (rows_of_head many h) (in_turn range_rows 0 vs v) (head_ordered many h) (in_turn_every Ordered range_rows none_ordered range_ordered 0 vs v)

clause_ordered : (j : ℕ) (c : ClauseTree) → Every Ordered (clause_rows j c)
clause_ordered j (Joined rs r) = in_turn_every Ordered (relation_rows j) none_ordered (relation_ordered j) 0 rs r

name_ordered : (used : List Text) (k : Text) → Ordered (name_rows used k)
name_ordered used k = when_ordered (either (not (among k keywords)) (among k used)) 25 (omega arith) (omega arith)

rule_ordered : (used : List Text) (r : RuleTree) → Every Ordered (rule_rows used r)
rule_ordered used (Bare k) = (name_ordered used k, (none_ordered, tt))
rule_ordered used (Named k cs c) = (name_ordered used k, (none_ordered, in_turn_every Ordered clause_rows none_ordered clause_ordered 0 cs c))

rules_ordered : (used : List Text) (rs : List RuleTree) (r : RuleTree) → Every Ordered (rules_rows used rs r)
rules_ordered used [] r = rule_ordered used r
rules_ordered used (q ∷ rs) r =
    every_append Ordered (rule_rows used q) ([] ∷ rules_rows (name_of q ∷ used) rs r) (rule_ordered used q) (none_ordered, rules_ordered (name_of q ∷ used) rs r)

pub pack_ordered : (p : PackTree) → Every Ordered (pack_rows p)
pack_ordered (Parted rs r) = rules_ordered [] rs r

-- ---- what falls

falls_cases : {t : Token} {ts : List Token} {rs : List ℕ} {rows : List (List ℕ)} {n a : ℕ} → Falls (t ∷ ts) (rs ∷ rows) n a
    → (Memᴰ n rs × (a ≡ t.at)) ⊎ Falls ts rows n a
falls_cases (here x) = inl (x, refl)
falls_cases (later f) = inr f

falls_in : (ts : List Token) (rows : List (List ℕ)) (n a : ℕ) → Every Ordered rows → Falls ts rows n a → (22 ≤ n) × (n ≤ 26)
falls_in ts rows n a o (here {rs = rs} x) = let w = o.0 n x in (w.0, w.1)
falls_in ts rows n a o (later {ts = us} {rows = qs} f) = falls_in us qs n a o.1 f

-- whatever falls is one of 22 to 26
pub falls_rows : (p : PackTree) (ts : List Token) (n a : ℕ) → Falls ts (pack_rows p) n a → (22 ≤ n) × (n ≤ 26)
falls_rows p ts n a f = falls_in ts (pack_rows p) n a (pack_ordered p) f

-- there is at most one that is given
pub earliest_only : (ts : List Token) (rows : List (List ℕ)) (n a m b : ℕ) → Earliest ts rows n a → Earliest ts rows m b → (n ≡ m) × (a ≡ b)
earliest_only ts rows n a m b x y = (number place, place)
  where
    place : a ≡ b
    place = omega (arith, x.earliest m b y.falls, y.earliest n a x.falls)

    number : a ≡ b → n ≡ m
    number e =
        let p : Falls ts rows m a = rw e y.falls in
        let q : Falls ts rows n b = rw e at x.falls in
        omega (arith, x.lowest m p, y.lowest n q)

-- ---- the first token with a row

abbrev pub given : List Token → List (List ℕ) → Fault
given [] rows = None
given (t ∷ ts) [] = None
given (t ∷ ts) (rs ∷ rows) = or_else (fault_at (first rs) t.at) (given ts rows)

-- what falls stands at a token, so not before the first
falls_after : (lo end : ℕ) (ts : List Token) (rows : List (List ℕ)) (n a : ℕ) → Placed lo ts end → Falls ts rows n a → lo ≤ a
falls_after lo end ts rows n a g (here x) = g.0
falls_after lo end ts rows n a g (later {t = t} {ts = us} {rows = qs} f) = omega (arith, g.0, falls_after (suc t.at) end us qs n a g.1 f)

some_row : (n : ℕ) (ns : List ℕ) (a : ℕ) → Ordered (n ∷ ns) → fault_at n a ≡ At n a
some_row n ns a o =
    let w = o n (Memᴰ.head refl) in
    let k : eqb n 0 ≡ false = ne_eqb n 0 (λ e. omega arith) in
    rw k

given_earliest : (lo end : ℕ) (ts : List Token) (rows : List (List ℕ)) (n a : ℕ) → Placed lo ts end → Every Ordered rows → given ts rows ≡ At n a
    → Earliest ts rows n a
given_earliest lo end [] rows n a g o e = absurd (let z : ◌≡◌ {A = ℕ} 0 1 = cc in omega arith)
given_earliest lo end (t ∷ ts) [] n a g o e = absurd (let z : ◌≡◌ {A = ℕ} 0 1 = cc in omega arith)
given_earliest lo end (t ∷ ts) ([] ∷ rows) n a g o e =
    let w = given_earliest (suc t.at) end ts rows n a g.1 o.1 e in
    record {
      falls = later w.falls;
      earliest = λ m b f. go_earliest m b (w.earliest m b) (falls_cases f);
      lowest = λ m f. go_lowest m (w.lowest m) (falls_cases f);
    }
  where
    go_earliest : (m b : ℕ) → (Falls ts rows m b → a ≤ b) → (Memᴰ m [] × (b ≡ t.at)) ⊎ Falls ts rows m b → a ≤ b
    go_earliest m b f (inl x) = absurd (Memᴰ.not-nil x.0)
    go_earliest m b f (inr x) = f x

    go_lowest : (m : ℕ) → (Falls ts rows m a → n ≤ m) → (Memᴰ m [] × (a ≡ t.at)) ⊎ Falls ts rows m a → n ≤ m
    go_lowest m f (inl x) = absurd (Memᴰ.not-nil x.0)
    go_lowest m f (inr x) = f x
given_earliest lo end (t ∷ ts) ((k ∷ ks) ∷ rows) n a g o e =
    let q : At k t.at ≡ At n a = sym (ap (λ (f : Fault). or_else f (given ts rows)) (some_row k ks t.at o.0)) ∙ e in
    let i : k ≡ n = cc in
    let j : t.at ≡ a = cc in
    record {
      falls = rw (← j) (here (Memᴰ.head (sym i)));
      earliest = λ m b f. go_earliest j m b (falls_cases f);
      lowest = λ m f. go_lowest i j m (falls_cases f);
    }
  where
    go_earliest : t.at ≡ a → (m b : ℕ) → (Memᴰ m (k ∷ ks) × (b ≡ t.at)) ⊎ Falls ts rows m b → a ≤ b
    go_earliest j m b (inl x) = omega (arith, x.1)
    go_earliest j m b (inr f) = omega (arith, falls_after (suc t.at) end ts rows m b g.1 f)

    go_lowest : k ≡ n → t.at ≡ a → (m : ℕ) → (Memᴰ m (k ∷ ks) × (a ≡ t.at)) ⊎ Falls ts rows m a → n ≤ m
    go_lowest i j m (inl x) = omega (arith, (o.0 m x.0).2)
    go_lowest i j m (inr f) = omega (arith, falls_after (suc t.at) end ts rows m a g.1 f)

pub none_given : (ts : List Token) (rows : List (List ℕ)) (n a : ℕ) → Every Ordered rows → given ts rows ≡ None → Falls ts rows n a → ⊥
none_given ts rows n a o e (here {t = t} {rs = []} x) = Memᴰ.not-nil x
none_given ts rows n a o e (here {t = t} {rs = k ∷ ks} x) =
    let q : At k t.at ≡ None = sym (some_row k ks t.at o.0) ∙ or_0 (fault_at k t.at) _ e in
    let z : ◌≡◌ {A = ℕ} 0 1 = cc in
    omega arith
none_given ts rows n a o e (later {t = t} {ts = us} {rs = rs} {rows = qs} f) =
    none_given us qs n a o.1 (or_1 (fault_at (first rs) t.at) (given us qs) e) f

-- ---- and of the reader

faults_given : (p : Far) (ts : List Token) (rows : List (List ℕ)) → rows_on p (texts ts) ≡ map first rows → faults p ts ≡ given ts rows
faults_given p [] rows e = refl
faults_given p (t ∷ ts) [] e = absurd (let z : ◌≡◌ {A = ℕ} 0 1 = cc in omega arith)
faults_given p (t ∷ ts) (rs ∷ rows) e =
    ap (λ (n : ℕ). or_else (fault_at n t.at) (faults (onward p t.text) ts)) (head-eq_of_cons-eq e)
    ∙ ap (or_else (fault_at (first rs) t.at)) (faults_given (onward p t.text) ts rows (tail-eq_of_cons-eq e))

-- of the tokens of a right tree
pub pack_given : (ts : List Token) (p : PackTree) → right_pack p ≡ true → texts ts ≡ of_pack p → faults outset ts ≡ given ts (pack_rows p)
pack_given ts p g e = faults_given outset ts (pack_rows p) (ap (rows_on outset) e ∙ pack_rows_law p g)

-- its first fault is the one that is given
pub fault_earliest : (s : Text) (p : PackTree) → right_pack p ≡ true → texts (tokens 0 s) ≡ of_pack p → (n a : ℕ)
    → (faults outset (tokens 0 s) ≡ At n a) ↔ Earliest (tokens 0 s) (pack_rows p) n a
fault_earliest s p g e n a = (λ f. to (sym q ∙ f), λ w. q ∙ back w (given (tokens 0 s) (pack_rows p)) refl)
  where
    q : faults outset (tokens 0 s) ≡ given (tokens 0 s) (pack_rows p)
    q = pack_given (tokens 0 s) p g e

    to : {m b : ℕ} → given (tokens 0 s) (pack_rows p) ≡ At m b → Earliest (tokens 0 s) (pack_rows p) m b
    to {m} {b} f = given_earliest 0 (length s) (tokens 0 s) (pack_rows p) m b (placed (length s) 0 s (length s) (omega arith)) (pack_ordered p) f

    back : Earliest (tokens 0 s) (pack_rows p) n a → (f : Fault) → given (tokens 0 s) (pack_rows p) ≡ f → f ≡ At n a
    back w None k = absurd (none_given (tokens 0 s) (pack_rows p) n a (pack_ordered p) k w.falls)
    back w (At m b) k = let o = earliest_only (tokens 0 s) (pack_rows p) m b n a (to k) w in rw (o.0, o.1)
