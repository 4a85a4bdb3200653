-- A pack is within its bounds exactly where none of its tokens falls under a row of 22 to 26, and so exactly where the reader finds no fault.
use mathlib.Core.Path.{◌≡◌, refl, sym, ap, ◌∙◌}
use mathlib.Core.Bool.{Bool, true, false, not}
use mathlib.Core.List.Memᴰ
use mathlib.Core.List.{List, [], ◌∷◌, ◌++◌, map}
use mathlib.Core.Logic.{◌↔◌}
use Prim.Native.Nat.{ℕ, suc, ◌+◌, ◌≤◌, ◌<◌}
use native.Mathlib.Omega.{arith}
use lib.Dec.{ltb, leb}
use lib.ListN.{length}
use borrow.Author.Tests.{ltb-false, le-ltb, leb-false, lt-leb}
use Rattle.decimal.specs.Choice.{either}
use Rattle.decimal.specs.Digits.{value}
use Rattle.pack_token.specs.Spelling.{same, among}
use Rattle.pack_token.specs.Token.{Token}
use Rattle.pack_grammar.specs.Limits.{max_clauses, max_relations, max_ranges, max_value, is_modulus, keywords}
use Rattle.pack_grammar.specs.Grammar.{Text, RangeTree, HeadTree, RelationTree, ClauseTree, RuleTree, PackTree, name_of, of_pack, right_pack}
use Rattle.pack_grammar.specs.Grammar.RangeTree.{One, Span}
use Rattle.pack_grammar.specs.Grammar.HeadTree.{Plain, Modulo}
use Rattle.pack_grammar.specs.Grammar.RelationTree.{Rel}
use Rattle.pack_grammar.specs.Grammar.ClauseTree.{Joined}
use Rattle.pack_grammar.specs.Grammar.RuleTree.{Bare, Named}
use Rattle.pack_grammar.specs.Grammar.PackTree.{Parted}
use Rattle.pack_grammar.specs.WellFormed.{texts}
use Rattle.pack_grammar.specs.Within.{Every, RangeWithin, HeadWithin, RelationWithin, ClauseWithin, RuleWithin, Distinct, Within}
use Rattle.pack_grammar.specs.Falls.{when, value_rows, range_rows, rows_of_head, in_turn, relation_rows, clause_rows, name_rows, rule_rows, rules_rows, pack_rows, Falls}
use Rattle.pack_grammar.specs.Falls.Falls.{here, later}
use Rattle.pack_grammar.specs.Reader.{or_else, fault_at}
use Rattle.pack_grammar.specs.Reader.Fault.{None}
use Rattle.pack_grammar.proofs.Laws.{no_way, every_append, every_left, every_right}
use Rattle.pack_grammar.proofs.Shuffle.{same_sym}
use Rattle.pack_grammar.proofs.Viable.{Far, onward, outset}
use Rattle.pack_grammar.proofs.Whole.{faults}
use Rattle.pack_grammar.proofs.Troubles.{first, rows_on, pack_rows_law}
use Rattle.pack_grammar.proofs.Falling.{pack_ordered, given, none_given, pack_given}

-- no token has a row
abbrev Blank : List (List ℕ) → Type 0
Blank rows = Every (λ (rs : List ℕ). rs ≡ []) rows

-- ---- one token

cons_nil : {A : Type 0} {n : ℕ} {ns : List ℕ} → n ∷ ns ≡ [] → A
cons_nil e = absurd (let z : ◌≡◌ {A = ℕ} 0 1 = cc in omega arith)

when_none : (b : Bool) (n : ℕ) → (when b n ≡ []) ↔ (b ≡ false)
when_none true n = (λ e. cons_nil e, λ e. no_way e)
when_none false n = (λ e. refl, λ e. refl)

two_none : (b c : Bool) (m n : ℕ) → (when b m ++ when c n ≡ []) ↔ ((b ≡ false) × (c ≡ false))
two_none true c m n = (λ e. cons_nil e, λ e. no_way e.0)
two_none false c m n = (λ e. (refl, (when_none c n).0 e), λ e. (when_none c n).1 e.1)

name_none : (used : List Text) (k : Text) → (name_rows used k ≡ []) ↔ ((among k keywords ≡ true) × (among k used ≡ false))
name_none used k = go (among k keywords) (among k used)
  where
    go : (x y : Bool) → (when (either (not x) y) 25 ≡ []) ↔ ((x ≡ true) × (y ≡ false))
    go true true = (λ e. cons_nil e, λ e. no_way e.1)
    go true false = (λ e. (refl, refl), λ e. refl)
    go false y = (λ e. cons_nil e, λ e. no_way (sym e.0))

-- ---- some in turn

-- where one has no row exactly if it is right, fewer than m stand before it and Q holds, some have none exactly if each is right, they are at most m
-- and Q holds
module _ {A : Type 0} (f : ℕ → A → List (List ℕ)) (P : A → Type 0) (m : ℕ) (Q : Type 0) (one : (i : ℕ) (x : A) → Blank (f i x) ↔ (P x × (i < m) × Q)) where
  in_turn_blank : (i : ℕ) (xs : List A) (x : A) → Blank (in_turn f i xs x) ↔ (Every P (xs ++ (x ∷ [])) × (i + length (xs ++ (x ∷ [])) ≤ m) × Q)
  in_turn_blank i [] x = (to, from)
    where
      to : Blank (f i x) → (P x × Unit {0}) × (i + 1 ≤ m) × Q
      to h = let w = (one i x).0 h in ((w.0, tt), omega (arith, w.1), w.2)

      from : (P x × Unit {0}) × (i + 1 ≤ m) × Q → Blank (f i x)
      from h = (one i x).1 (h.0.0, omega (arith, h.1), h.2)
  in_turn_blank i (y ∷ xs) x = (to (in_turn_blank (suc i) xs x).0, from (in_turn_blank (suc i) xs x).1)
    where
      zs : List A
      zs = xs ++ (x ∷ [])

      rest : List (List ℕ)
      rest = in_turn f (suc i) xs x

      to : (Blank rest → Every P zs × (suc i + length zs ≤ m) × Q)
          → Blank (f i y ++ ([] ∷ rest)) → Every P (y ∷ zs) × (i + length (y ∷ zs) ≤ m) × Q
      to ih h =
          let a = (one i y).0 (every_left (λ (rs : List ℕ). rs ≡ []) (f i y) ([] ∷ rest) h) in
          let b = ih (every_right (λ (rs : List ℕ). rs ≡ []) (f i y) ([] ∷ rest) h).1 in
          ((a.0, b.0), omega (arith, b.1), b.2)

      from : (Every P zs × (suc i + length zs ≤ m) × Q → Blank rest)
          → Every P (y ∷ zs) × (i + length (y ∷ zs) ≤ m) × Q → Blank (f i y ++ ([] ∷ rest))
      from ih h =
          every_append (λ (rs : List ℕ). rs ≡ []) (f i y) ([] ∷ rest) ((one i y).1 (h.0.0, omega (arith, h.1), h.2))
          (refl, ih (h.0.1, omega (arith, h.1), h.2))

-- ---- ranges, heads, relations, clauses

below : (a : Text) → (ltb max_value (value a) ≡ false) ↔ (value a ≤ max_value)
below a = (ltb-false max_value (value a), le-ltb max_value (value a))

room : (m k : ℕ) → (leb m k ≡ false) ↔ (k < m)
room m k = (leb-false m k, lt-leb m k)

range_blank : (k : ℕ) (v : RangeTree) → Blank (range_rows k v) ↔ (RangeWithin v × (k < max_ranges) × Unit {0})
range_blank k (One a) = (to, from)
  where
    w : (value_rows a ++ when (leb max_ranges k) 26 ≡ []) ↔ ((ltb max_value (value a) ≡ false) × (leb max_ranges k ≡ false))
    w = two_none (ltb max_value (value a)) (leb max_ranges k) 22 26

    to : Blank (range_rows k (One a)) → (value a ≤ max_value) × (k < max_ranges) × Unit {0}
    to h = let e = w.0 h.0 in ((below a).0 e.0, (room max_ranges k).0 e.1, tt)

    from : (value a ≤ max_value) × (k < max_ranges) × Unit {0} → Blank (range_rows k (One a))
    from h = (w.1 ((below a).1 h.0, (room max_ranges k).1 h.1), tt)
range_blank k (Span a b) = (to, from)
  where
    w : (value_rows a ++ when (leb max_ranges k) 26 ≡ []) ↔ ((ltb max_value (value a) ≡ false) × (leb max_ranges k ≡ false))
    w = two_none (ltb max_value (value a)) (leb max_ranges k) 22 26

    u : (value_rows b ++ when (ltb (value b) (value a)) 24 ≡ []) ↔ ((ltb max_value (value b) ≡ false) × (ltb (value b) (value a) ≡ false))
    u = two_none (ltb max_value (value b)) (ltb (value b) (value a)) 22 24

    to : Blank (range_rows k (Span a b)) → RangeWithin (Span a b) × (k < max_ranges) × Unit {0}
    to h =
        let e = w.0 h.0 in
        let g = u.0 h.1.1.0 in
        (((below a).0 e.0, (below b).0 g.0, ltb-false (value b) (value a) g.1), (room max_ranges k).0 e.1, tt)

    from : RangeWithin (Span a b) × (k < max_ranges) × Unit {0} → Blank (range_rows k (Span a b))
    from h =
        let r = h.0 in
        (w.1 ((below a).1 r.0, (room max_ranges k).1 h.1), (refl, (u.1 ((below b).1 r.1, le-ltb (value b) (value a) r.2), tt)))

head_blank : (many : Bool) (h : HeadTree) → Blank (rows_of_head many h) ↔ (HeadWithin h × (many ≡ false))
head_blank many (Plain o n) = (λ h. (tt, (when_none many 26).0 h.0), λ h. ((when_none many 26).1 h.1, (refl, tt)))
head_blank many (Modulo o m n) = (
  λ h. ((listed (is_modulus (value m))).0 h.1.1.0, (when_none many 26).0 h.0),
  λ h. ((when_none many 26).1 h.1, (refl, ((listed (is_modulus (value m))).1 h.0, (refl, tt)))),
)
  where
    listed : (x : Bool) → (when (not x) 23 ≡ []) ↔ (x ≡ true)
    listed true = (λ e. refl, λ e. refl)
    listed false = (λ e. cons_nil e, λ e. no_way (sym e))

either_none : (a b : Bool) → (either a b ≡ false) ↔ ((a ≡ false) × (b ≡ false))
either_none true b = (λ e. no_way e, λ e. no_way e.0)
either_none false b = (λ e. (refl, e), λ e. e.1)

relation_blank : (j k : ℕ) (r : RelationTree) → Blank (relation_rows j k r) ↔ (RelationWithin r × (k < max_relations) × (j < max_clauses))
relation_blank j k (Rel h vs v) = (to, from)
  where
    many : Bool
    many = either (leb max_clauses j) (leb max_relations k)

    ranges : Blank (in_turn range_rows 0 vs v) ↔ (Every RangeWithin (vs ++ (v ∷ [])) × (0 + length (vs ++ (v ∷ [])) ≤ max_ranges) × Unit {0})
    ranges = in_turn_blank range_rows RangeWithin max_ranges (Unit {0}) range_blank 0 vs v

    to : Blank (rows_of_head many h ++ in_turn range_rows 0 vs v) → RelationWithin (Rel h vs v) × (k < max_relations) × (j < max_clauses)
    to e =
        let a = (head_blank many h).0 (every_left (λ (rs : List ℕ). rs ≡ []) (rows_of_head many h) (in_turn range_rows 0 vs v) e) in
        let b = ranges.0 (every_right (λ (rs : List ℕ). rs ≡ []) (rows_of_head many h) (in_turn range_rows 0 vs v) e) in
        let c = (either_none (leb max_clauses j) (leb max_relations k)).0 a.1 in
        ((a.0, b.0, omega (arith, b.1)), (room max_relations k).0 c.1, (room max_clauses j).0 c.0)

    from : RelationWithin (Rel h vs v) × (k < max_relations) × (j < max_clauses) → Blank (rows_of_head many h ++ in_turn range_rows 0 vs v)
    from e =
        let r = e.0 in
        let c = (either_none (leb max_clauses j) (leb max_relations k)).1 ((room max_clauses j).1 e.2, (room max_relations k).1 e.1) in
        every_append (λ (rs : List ℕ). rs ≡ []) (rows_of_head many h) (in_turn range_rows 0 vs v) ((head_blank many h).1 (r.0, c))
        (ranges.1 (r.1, omega (arith, r.2), tt))

clause_blank : (j : ℕ) (c : ClauseTree) → Blank (clause_rows j c) ↔ (ClauseWithin c × (j < max_clauses) × Unit {0})
clause_blank j (Joined rs r) =
    (λ e. let a = all_of.0 e in ((a.0, omega (arith, a.1)), a.2, tt), λ e. let c = e.0 in all_of.1 (c.0, omega (arith, c.1), e.1))
  where
    all_of : Blank (in_turn (relation_rows j) 0 rs r) ↔ (Every RelationWithin (rs ++ (r ∷ [])) × (0 + length (rs ++ (r ∷ [])) ≤ max_relations) × (j < max_clauses))
    all_of = in_turn_blank (relation_rows j) RelationWithin max_relations (j < max_clauses) (relation_blank j) 0 rs r

-- ---- rules

rule_blank : (used : List Text) (r : RuleTree) → Blank (rule_rows used r) ↔ (RuleWithin r × (among (name_of r) used ≡ false))
rule_blank used (Bare k) = (λ h. (name_none used k).0 h.0, λ h. ((name_none used k).1 h, (refl, tt)))
rule_blank used (Named k cs c) = (
  λ h. let a = (name_none used k).0 h.0 in let b = all_of.0 h.1.1 in ((a.0, b.0, omega (arith, b.1)), a.1),
  λ h. let r = h.0 in ((name_none used k).1 (r.0, h.1), (refl, all_of.1 (r.1, omega (arith, r.2), tt))),
)
  where
    all_of : Blank (in_turn clause_rows 0 cs c) ↔ (Every ClauseWithin (cs ++ (c ∷ [])) × (0 + length (cs ++ (c ∷ [])) ≤ max_clauses) × Unit {0})
    all_of = in_turn_blank clause_rows ClauseWithin max_clauses (Unit {0}) clause_blank 0 cs c

-- none of these keywords is among those
abbrev New : List Text → List Text → Type 0
New used ks = Every (λ (k : Text). among k used ≡ false) ks

new_cons : (n : Text) (used ks : List Text) → New (n ∷ used) ks ↔ ((among n ks ≡ false) × New used ks)
new_cons n used [] = (λ h. (refl, tt), λ h. tt)
new_cons n used (k ∷ ks) = (to (new_cons n used ks).0, from (new_cons n used ks).1)
  where
    to : (New (n ∷ used) ks → (among n ks ≡ false) × New used ks) → New (n ∷ used) (k ∷ ks) → (among n (k ∷ ks) ≡ false) × New used (k ∷ ks)
    to ih h =
        let a = (either_none (same k n) (among k used)).0 h.0 in
        let b = ih h.1 in
        ((either_none (same n k) (among n ks)).1 (same_sym n k ∙ a.0, b.0), (a.1, b.1))

    from : ((among n ks ≡ false) × New used ks → New (n ∷ used) ks) → (among n (k ∷ ks) ≡ false) × New used (k ∷ ks) → New (n ∷ used) (k ∷ ks)
    from ih h =
        let a = (either_none (same n k) (among n ks)).0 h.0 in
        let b = h.1 in
        ((either_none (same k n) (among k used)).1 (same_sym k n ∙ a.0, b.0), ih (a.1, b.1))

-- these rules are within their bounds, and their keywords are new and differ
abbrev RulesWithin : List Text → List RuleTree → Type 0
RulesWithin used qs = Every RuleWithin qs × New used (map name_of qs) × Distinct (map name_of qs)

rules_blank : (used : List Text) (rs : List RuleTree) (r : RuleTree) → Blank (rules_rows used rs r) ↔ RulesWithin used (rs ++ (r ∷ []))
rules_blank used [] r = (
  λ h. let w = (rule_blank used r).0 h in ((w.0, tt), (w.1, tt), (refl, tt)),
  λ h. (rule_blank used r).1 (h.0.0, h.1.0),
)
rules_blank used (q ∷ rs) r = (to (rules_blank (name_of q ∷ used) rs r).0, from (rules_blank (name_of q ∷ used) rs r).1)
  where
    qs : List RuleTree
    qs = rs ++ (r ∷ [])

    rest : List (List ℕ)
    rest = rules_rows (name_of q ∷ used) rs r

    to : (Blank rest → RulesWithin (name_of q ∷ used) qs) → Blank (rule_rows used q ++ ([] ∷ rest)) → RulesWithin used (q ∷ qs)
    to ih h =
        let a = (rule_blank used q).0 (every_left (λ (ns : List ℕ). ns ≡ []) (rule_rows used q) ([] ∷ rest) h) in
        let b = ih (every_right (λ (ns : List ℕ). ns ≡ []) (rule_rows used q) ([] ∷ rest) h).1 in
        let c = (new_cons (name_of q) used (map name_of qs)).0 b.1 in
        ((a.0, b.0), (a.1, c.1), (c.0, b.2))

    from : (RulesWithin (name_of q ∷ used) qs → Blank rest) → RulesWithin used (q ∷ qs) → Blank (rule_rows used q ++ ([] ∷ rest))
    from ih h =
        let a = h.0 in
        let b = h.1 in
        let c = h.2 in
        every_append (λ (ns : List ℕ). ns ≡ []) (rule_rows used q) ([] ∷ rest) ((rule_blank used q).1 (a.0, b.0))
        (refl, ih (a.1, (new_cons (name_of q) used (map name_of qs)).1 (c.0, b.1), c.1))

new_all : (ks : List Text) → New [] ks
new_all [] = tt
new_all (k ∷ ks) = (refl, new_all ks)

pack_blank : (p : PackTree) → Blank (pack_rows p) ↔ Within p
pack_blank (Parted rs r) =
    (λ h. let w = (rules_blank [] rs r).0 h in (w.0, w.2), λ h. (rules_blank [] rs r).1 (h.0, new_all (map name_of (rs ++ (r ∷ []))), h.1))

-- ---- what falls, and what the reader finds

blank_falls : (ts : List Token) (rows : List (List ℕ)) (n a : ℕ) → Blank rows → Falls ts rows n a → ⊥
blank_falls ts rows n a b (here {rs = rs} x) = Memᴰ.not-nil (rw b.0 at x)
blank_falls ts rows n a b (later {ts = us} {rows = qs} f) = blank_falls us qs n a b.1 f

falls_blank : (ts : List Token) (rows : List (List ℕ)) → length rows ≤ length ts → ((n a : ℕ) → Falls ts rows n a → ⊥) → Blank rows
falls_blank ts [] l h = tt
falls_blank [] (rs ∷ rows) l h = absurd (no l)
  where
    no : suc (length rows) ≤ 0 → ⊥
    no k = omega arith
falls_blank (t ∷ ts) ([] ∷ rows) l h = (refl, falls_blank ts rows (omega arith) (λ n a f. h n a (later f)))
falls_blank (t ∷ ts) ((k ∷ ks) ∷ rows) l h = absurd (h k t.at (here (Memᴰ.head refl)))

blank_given : (ts : List Token) (rows : List (List ℕ)) → Blank rows → given ts rows ≡ None
blank_given [] rows b = refl
blank_given (t ∷ ts) [] b = refl
blank_given (t ∷ ts) (rs ∷ rows) b =
    ap (λ (ns : List ℕ). or_else (fault_at (first ns) t.at) (given ts rows)) b.0 ∙ blank_given ts rows b.1

rows_length : (p : Far) (us : List Text) → length (rows_on p us) ≡ length us
rows_length p [] = refl
rows_length p (t ∷ us) = ap suc (rows_length (onward p t) us)

first_length : (rows : List (List ℕ)) → length (map first rows) ≡ length rows
first_length [] = refl
first_length (rs ∷ rows) = ap suc (first_length rows)

texts_length : (ts : List Token) → length (texts ts) ≡ length ts
texts_length [] = refl
texts_length (t ∷ ts) = ap suc (texts_length ts)

module _ (ts : List Token) (p : PackTree) (g : right_pack p ≡ true) (e : texts ts ≡ of_pack p) where
  -- as many entries of rows as tokens
  pub rows_tokens : length (pack_rows p) ≡ length ts
  rows_tokens =
      sym (first_length (pack_rows p)) ∙ ap length (sym (pack_rows_law p g)) ∙ rows_length outset (of_pack p) ∙ ap length (sym e) ∙ texts_length ts

  pub within_none : Within p ↔ ((n a : ℕ) → Falls ts (pack_rows p) n a → ⊥)
  within_none = (
    λ w n a. blank_falls ts (pack_rows p) n a ((pack_blank p).1 w),
    λ h. (pack_blank p).0 (falls_blank ts (pack_rows p) (omega (arith, rows_tokens)) h),
  )

  pub clean_reading : Within p ↔ (faults outset ts ≡ None)
  clean_reading = (
    λ w. pack_given ts p g e ∙ blank_given ts (pack_rows p) ((pack_blank p).1 w),
    λ h. within_none.1 (λ n a. none_given ts (pack_rows p) n a (pack_ordered p) (sym (pack_given ts p g e) ∙ h)),
  )
