-- What the board holds in each state of the grammar: the rules read, what is open, and the bounds that leave room for one more of each.
use mathlib.Core.Path.{◌≡◌, refl, sym, ap, ◌∙◌, subst}
use mathlib.Core.Bool.{Bool, true, false}
use mathlib.Core.List.{List, [], ◌∷◌, ◌++◌, map, append_assoc, append-nil}
use Prim.Native.Nat.{ℕ, suc, ◌+◌, ◌*◌, ◌-◌, ◌≤◌, ◌<◌, min}
use native.Mathlib.Omega.{arith}
use lib.ListN.{length, get_or, set, length-set, length-append}
use Rattle.decimal.specs.Digits.{value}
use Rattle.pack_rules.specs.Syntax.{Range, Relation, Rule}
use Rattle.pack_rules.specs.Held.{keyword_of}
use Rattle.pack_token.specs.Spelling.{same}
use Rattle.pack_grammar.specs.Limits.{max_bytes}
use Rattle.pack_grammar.specs.Grammar.{Text, other, RangeTree, HeadTree, RelationTree, ClauseTree, RuleTree, name_of}
use Rattle.pack_grammar.specs.Grammar.RangeTree.{One, Span}
use Rattle.pack_grammar.specs.Grammar.RelationTree.{Rel}
use Rattle.pack_grammar.specs.Grammar.ClauseTree.{Joined}
use Rattle.pack_grammar.specs.Grammar.RuleTree.{Bare, Named}
use Rattle.pack_grammar.specs.RuleOf.{range_of, relation_of, clause_of, rule_of, keyword_of as keyword_named}
use Rattle.pack_grammar.specs.Steps.{Front, State}
use Rattle.pack_grammar.specs.Steps.State.{WantsName, WantsColon, WantsNothing, WantsOperand, HasOperand, WantsModulus, HasModulus, WantsValue, HasValue, WantsUpper, HasUpper, Dead}
use Rattle.pack_grammar.proofs.Whole.{names, names_snoc}
use Rattle.pack_counts.specs.Counts.{more_of, counts_after}
use Rattle.pack_counts.specs.declared.Closes.{Closes}
use Rattle.pack_counts.specs.declared.Counts.{Counts}
use Rattle.pack_faults.specs.Faults.{keyword_number, held}
use Rattle.pack_walk.specs.declared.Current.{Current}
use Rattle.pack_columns.specs.Stored.{set_row, code_of, row_for}
use Rattle.pack_reader.specs.Board.{Arrays, Sized, filled}
use Rattle.pack_reader.specs.Bounds.{flat}
use Rattle.pack_reader.proofs.Flats.{more_is, flat_snoc, map_snoc, length_row, Ranges, Relations, Clauses, Rules}
use Rattle.pack_reader.proofs.Levels.{ranges_more, ranges_last, relations_more, clauses_more, rules_more}
use Rattle.pack_reader.proofs.Tally.{Tally, tally_bare, tally_named, tally_room, tally_conditions, keyword_number_law, number_other}

-- ---- the lists that the arrays hold: rules, clauses, relations and ranges, the open ones last

abbrev pub none : Front
none = record { name = []; clauses = []; relations = [] }

abbrev pub Ds : List RuleTree → List Rule
Ds d = map rule_of d

abbrev pub closed_clauses : List RuleTree → List (List Relation)
closed_clauses d = flat (map (λ (r : Rule). r.clauses) (Ds d))

abbrev pub Cs : List RuleTree → Front → List (List Relation)
Cs d f = closed_clauses d ++ map clause_of f.clauses

abbrev pub Rs : List RuleTree → Front → List Relation
Rs d f = flat (Cs d f) ++ map relation_of f.relations

abbrev pub Gs : List RuleTree → Front → List RangeTree → List Range
Gs d f vs = flat (map (λ (r : Relation). r.ranges) (Rs d f)) ++ map range_of vs

abbrev pub numbers : List RuleTree → List ℕ
numbers d = map keyword_number (names d)

-- how many rules have a condition
abbrev pub conditions : List RuleTree → ℕ
conditions [] = 0
conditions (Bare k ∷ d) = conditions d
conditions (Named k cs c ∷ d) = suc (conditions d)

conditions_bare : (d : List RuleTree) (k : Text) → conditions (d ++ (Bare k ∷ [])) ≡ conditions d
conditions_bare [] k = refl
conditions_bare (Bare j ∷ d) k = conditions_bare d k
conditions_bare (Named j cs c ∷ d) k = ap suc (conditions_bare d k)

conditions_named : (d : List RuleTree) (k : Text) (cs : List ClauseTree) (c : ClauseTree) → conditions (d ++ (Named k cs c ∷ [])) ≡ suc (conditions d)
conditions_named [] k cs c = refl
conditions_named (Bare j ∷ d) k cs c = conditions_named d k cs c
conditions_named (Named j ds e ∷ d) k cs c = ap suc (conditions_named d k cs c)

numbers_snoc : (d : List RuleTree) (r : RuleTree) → numbers (d ++ (r ∷ [])) ≡ numbers d ++ (keyword_number (name_of r) ∷ [])
numbers_snoc d r = ap (map keyword_number) (names_snoc d r) ∙ map_snoc keyword_number (names d) (name_of r)

pub numbers_length : (d : List RuleTree) → length (numbers d) ≡ length (Ds d)
numbers_length [] = refl
numbers_length (r ∷ d) = ap suc (numbers_length d)

map_length : {A B : Type 0} (f : A → B) (xs : List A) → length (map f xs) ≡ length xs
map_length f [] = refl
map_length f (x ∷ xs) = ap suc (map_length f xs)

-- ---- one range, relation, clause or rule more

G-value : (d : List RuleTree) (f : Front) (vs : List RangeTree) (v : RangeTree) → Gs d f (vs ++ (v ∷ [])) ≡ Gs d f vs ++ (range_of v ∷ [])
G-value d f vs v =
    let x = flat (map (λ (r : Relation). r.ranges) (Rs d f)) in
    ap (λ (l : List Range). x ++ l) (map_snoc range_of vs v) ∙ sym (append_assoc x (map range_of vs) (range_of v ∷ []))

G-closed : (R : List Relation) (r : Relation)
    → flat (map (λ (r : Relation). r.ranges) (R ++ (r ∷ []))) ++ [] ≡ flat (map (λ (r : Relation). r.ranges) R) ++ r.ranges
G-closed R r = append-nil _ ∙ ap flat (map_snoc (λ (r : Relation). r.ranges) R r) ∙ flat_snoc (map (λ (r : Relation). r.ranges) R) r.ranges

R-and : (C : List (List Relation)) (xs : List RelationTree) (x : RelationTree) → flat C ++ map relation_of (xs ++ (x ∷ [])) ≡ (flat C ++ map relation_of xs) ++ (relation_of x ∷ [])
R-and C xs x = ap (λ (l : List Relation). flat C ++ l) (map_snoc relation_of xs x) ∙ sym (append_assoc (flat C) (map relation_of xs) (relation_of x ∷ []))

R-closed : (C : List (List Relation)) (xs : List RelationTree) (x : RelationTree)
    → flat (C ++ (map relation_of (xs ++ (x ∷ [])) ∷ [])) ++ [] ≡ (flat C ++ map relation_of xs) ++ (relation_of x ∷ [])
R-closed C xs x = append-nil _ ∙ flat_snoc C (map relation_of (xs ++ (x ∷ []))) ∙ R-and C xs x

C-or : (d : List RuleTree) (cs : List ClauseTree) (c : ClauseTree) → closed_clauses d ++ map clause_of (cs ++ (c ∷ [])) ≡ (closed_clauses d ++ map clause_of cs) ++ (clause_of c ∷ [])
C-or d cs c = ap (λ (l : List (List Relation)). closed_clauses d ++ l) (map_snoc clause_of cs c) ∙ sym (append_assoc (closed_clauses d) (map clause_of cs) (clause_of c ∷ []))

closed_snoc : (d : List RuleTree) (r : RuleTree) → closed_clauses (d ++ (r ∷ [])) ≡ closed_clauses d ++ (rule_of r).clauses
closed_snoc d r =
    ap (λ (l : List Rule). flat (map (λ (r : Rule). r.clauses) l)) (map_snoc rule_of d r)
    ∙ ap flat (map_snoc (λ (r : Rule). r.clauses) (Ds d) (rule_of r)) ∙ flat_snoc (map (λ (r : Rule). r.clauses) (Ds d)) (rule_of r).clauses

C-semi : (d : List RuleTree) (k : Text) (cs : List ClauseTree) (c : ClauseTree)
    → closed_clauses (d ++ (Named k cs c ∷ [])) ++ [] ≡ (closed_clauses d ++ map clause_of cs) ++ (clause_of c ∷ [])
C-semi d k cs c = append-nil _ ∙ closed_snoc d (Named k cs c) ∙ C-or d cs c

C-bare : (d : List RuleTree) (k : Text) → closed_clauses (d ++ (Bare k ∷ [])) ≡ closed_clauses d
C-bare d k = closed_snoc d (Bare k) ∙ append-nil (closed_clauses d)

-- ---- the parts that hold in every state

pub record Kept (d : List RuleTree) (C : List (List Relation)) (R : List Relation) (G : List Range) (c : Counts) (a : Arrays) : Type 0 where
  pub ranges : Ranges a.low a.high c.ranges G
  pub relations : Relations a.columns c.relations R
  pub clauses : Clauses a.relations c.clauses C
  pub rules : Rules a.keyword a.clauses c.rules (numbers d) (Ds d)

pub record Base (d : List RuleTree) (f : Front) (vs : List RangeTree) (c : Counts) (a : Arrays) (at : ℕ) : Type 0 where
  pub kept : Kept d (Cs d f) (Rs d f) (Gs d f vs) c a
  pub sized : Sized a
  pub values : c.values ≡ length vs
  pub joined : c.joined ≡ length f.relations
  pub parted : c.parted ≡ length f.clauses
  pub tally : Tally (numbers d) (conditions d)
  pub closed : length (closed_clauses d) ≤ 8 * conditions d
  pub per : length (flat (Cs d f)) ≤ 8 * length (Cs d f)
  pub keyed : map keyword_of (numbers d) ≡ map (λ (r : Rule). r.keyword) (Ds d)
  pub room : 2 * c.ranges ≤ at

-- the keyword of the rule that is being read
pub record Keyed (d : List RuleTree) (k : Text) (o : Current) : Type 0 where
  pub key : o.key ≡ keyword_number k
  pub known : keyword_number k < 6
  pub new : held (keyword_number k) (numbers d) ≡ false

-- the rule's condition that is being read
pub record FrontIs (d : List RuleTree) (f : Front) (vs : List RangeTree) (c : Counts) (o : Current) (a : Arrays) (at : ℕ) : Type 0 where
  pub base : Base d f vs c a at
  pub keyed : Keyed d f.name o
  pub named : same f.name other ≡ false

-- room for one clause and one relation more
pub record Small (f : Front) : Type 0 where
  pub clauses : length f.clauses ≤ 7
  pub relations : length f.relations ≤ 7

abbrev pub HeadIs : HeadTree → Current → Type 0
HeadIs h o =
    (vs : List RangeTree) (v : RangeTree) → relation_of (Rel h vs v) ≡ record { operand = o.operand; modulus = o.modulus; negated = o.negated; ranges = map range_of (vs ++ (v ∷ [])) }

-- a value or range takes two bytes at least: itself, and `=` or `,` before it. So there is a byte to spare behind an operand or a value, and one
-- more before a value
abbrev pub Spare : ℕ → Counts → ℕ → Type 0
Spare k c at = 2 * c.ranges + k ≤ at

abbrev pub HoldsAt : List RuleTree → State → Counts → Current → Arrays → ℕ → Type 0
HoldsAt d WantsName c o a at = Base d none [] c a at
HoldsAt d (WantsColon k) c o a at = Base d none [] c a at × Keyed d k o × Spare 1 c at
HoldsAt d (WantsNothing k) c o a at = Base d none [] c a at × Keyed d k o × Spare 1 c at
HoldsAt d (WantsOperand f) c o a at = FrontIs d f [] c o a at
HoldsAt d (HasOperand f x) c o a at = FrontIs d f [] c o a at × Small f × (o.operand ≡ get_or x 0 0) × (o.modulus ≡ 0) × Spare 1 c at
HoldsAt d (WantsModulus f x) c o a at = FrontIs d f [] c o a at × Small f × (o.operand ≡ get_or x 0 0) × Spare 1 c at
HoldsAt d (HasModulus f x m) c o a at = FrontIs d f [] c o a at × Small f × (o.operand ≡ get_or x 0 0) × (o.modulus ≡ value m) × Spare 1 c at
HoldsAt d (WantsValue f h vs) c o a at = FrontIs d f vs c o a at × Small f × HeadIs h o × Spare 2 c at
HoldsAt d (HasValue f h vs x) c o a at = FrontIs d f (vs ++ (One x ∷ [])) c o a at × Small f × HeadIs h o × (o.low ≡ value x) × Spare 1 c at
HoldsAt d (WantsUpper f h vs x) c o a at = FrontIs d f (vs ++ (One x ∷ [])) c o a at × Small f × HeadIs h o × (o.low ≡ value x) × Spare 1 c at
HoldsAt d (HasUpper f h vs x y) c o a at = FrontIs d f (vs ++ (Span x y ∷ [])) c o a at × Small f × HeadIs h o × Spare 1 c at
HoldsAt d Dead c o a at = Unit {0}

-- ---- what `and`, `or` and `;` close

abbrev pub closes : Bool → Bool → Bool → Closes
closes x y z = record { relation = x; clause = y; rule = z }

abbrev pub after : Closes → Counts → Counts
after x c = counts_after c false x

-- ---- bounds

module _ (d : List RuleTree) (f : Front) (vs : List RangeTree) (c : Counts) (o : Current) (a : Arrays) (at : ℕ) (w : FrontIs d f vs c o a at) (s : Small f) where
  clauses_room : length (Cs d f) < 40
  clauses_room =
      let b = w.base in
      let m = tally_conditions (numbers d) (conditions d) (keyword_number f.name) b.tally w.keyed.known w.keyed.new (number_other f.name w.named) in
      omega (arith, b.closed, length-append (closed_clauses d) (map clause_of f.clauses), map_length clause_of f.clauses, s.clauses)

  relations_room : length (Rs d f) < 320
  relations_room =
      omega (arith, clauses_room, w.base.per, length-append (flat (Cs d f)) (map relation_of f.relations), map_length relation_of f.relations, s.relations)

pub rules_room : (d : List RuleTree) (k : Text) (o : Current) → Tally (numbers d) (conditions d) → Keyed d k o → length (Ds d) < 6
rules_room d k o t w = omega (arith, numbers_length d, tally_room (numbers d) (conditions d) (keyword_number k) t w.known w.new)

rule_keyword : (r : RuleTree) → (rule_of r).keyword ≡ keyword_named (name_of r)
rule_keyword (Bare k) = refl
rule_keyword (Named k cs c) = refl

keyed_more : (d : List RuleTree) (r : RuleTree) → map keyword_of (numbers d) ≡ map (λ (r : Rule). r.keyword) (Ds d) → keyword_number (name_of r) < 6
    → map keyword_of (numbers (d ++ (r ∷ []))) ≡ map (λ (r : Rule). r.keyword) (Ds (d ++ (r ∷ [])))
keyed_more d r e h =
    ap (map keyword_of) (numbers_snoc d r) ∙ map_snoc keyword_of (numbers d) (keyword_number (name_of r))
    ∙ rw (e, keyword_number_law (name_of r) h)
    (sym (ap (map (λ (r : Rule). r.keyword)) (map_snoc rule_of d r) ∙ map_snoc (λ (r : Rule). r.keyword) (Ds d) (rule_of r) ∙ rw (rule_keyword r)))

-- ---- a relation closed: the lists behind `and`, `or` and `;`

module _ (d : List RuleTree) (f : Front) (h : HeadTree) (vs : List RangeTree) (v : RangeTree) (c : Counts) (o : Current) (a : Arrays) (at : ℕ) (w : FrontIs d f (vs ++ (v ∷ [])) c o a at) (s : Small f) (g : HeadIs h o) (near : at ≤ max_bytes) where
  rel : RelationTree
  rel = Rel h vs v

  relation : Relation
  relation = record { operand = o.operand; modulus = o.modulus; negated = o.negated; ranges = map range_of (vs ++ (v ∷ [])) }

  relations_closed : Relations (set_row a.columns c.relations (row_for o c.ranges)) (more_of c.relations) (Rs d f ++ (relation ∷ []))
  unfolding relation
  relations_closed =
      let b = w.base in
      let z = b.sized in
      let x = flat (map (λ (r : Relation). r.ranges) (Rs d f)) in
      let e : min c.ranges 4294967295 ≡ length x + length (map range_of (vs ++ (v ∷ []))) = omega (arith, b.room, b.kept.ranges.count, length-append x (map range_of (vs ++ (v ∷ [])))) in
      relations_more a.columns c.relations (row_for o c.ranges) (Rs d f) relation b.kept.relations z.columns
      (omega (arith, b.kept.relations.count, relations_room d f (vs ++ (v ∷ [])) c o a at w s))
      (ap (λ (n : ℕ). record { operand = o.operand; modulus = o.modulus; comparison = code_of o.negated; end = n }) e)

  R-one : relation_of (Rel h vs v) ≡ relation
  unfolding relation
  R-one = g vs v

  G-same : (R : List Relation) → R ≡ Rs d f ++ (relation ∷ []) → flat (map (λ (r : Relation). r.ranges) R) ++ [] ≡ Gs d f (vs ++ (v ∷ []))
  unfolding relation
  G-same R e = ap (λ (l : List Relation). flat (map (λ (r : Relation). r.ranges) l) ++ []) e ∙ G-closed (Rs d f) relation

  more_joined : more_of c.joined ≡ length (f.relations ++ (Rel h vs v ∷ []))
  more_joined =
      let e = w.base.joined in
      more_is c.joined (omega (arith, s.relations)) ∙ omega (arith, length-append f.relations (Rel h vs v ∷ []))

  abbrev pub and_front : Front
  and_front = record { name = f.name; clauses = f.clauses; relations = f.relations ++ (Rel h vs v ∷ []) }

  pub close_and : (p : ℕ) → at ≤ p → Base d and_front [] (after (closes true false false) c) (filled false false 0 (closes true false false) c (after (closes true false false) c) o a) (suc p)
  close_and p l =
      let b = w.base in
      let z = b.sized in
      let e : Rs d and_front ≡ Rs d f ++ (relation ∷ []) = R-and (Cs d f) f.relations (Rel h vs v) ∙ ap (λ (r : Relation). Rs d f ++ (r ∷ [])) R-one in
      record {
        kept =
            record {
              ranges = subst (λ (x : List Range). Ranges a.low a.high c.ranges x) (sym (G-same (Rs d and_front) e)) b.kept.ranges;
              relations =
                  subst (λ (x : List Relation). Relations (set_row a.columns c.relations (row_for o c.ranges)) (more_of c.relations) x) (sym e) relations_closed;
              clauses = b.kept.clauses;
              rules = b.kept.rules;
            };
        sized =
            record {
              low = z.low;
              high = z.high;
              columns = length_row a.columns c.relations (row_for o c.ranges) ∙ z.columns;
              relations = z.relations;
              keyword = z.keyword;
              clauses = z.clauses;
            };
        values = refl;
        joined = more_joined;
        parted = b.parted;
        tally = b.tally;
        closed = b.closed;
        per = b.per;
        keyed = b.keyed;
        room = omega (arith, b.room);
      }

  clause : List Relation
  clause = clause_of (Joined f.relations (Rel h vs v))

  clause_length : length clause ≡ suc (length f.relations)
  unfolding clause
  clause_length = map_length relation_of (f.relations ++ (Rel h vs v ∷ [])) ∙ omega (arith, length-append f.relations (Rel h vs v ∷ []))

  clauses_closed : Clauses (set a.relations c.clauses (more_of c.relations)) (more_of c.clauses) (Cs d f ++ (clause ∷ []))
  clauses_closed =
      let b = w.base in
      let n = relations_room d f (vs ++ (v ∷ [])) c o a at w s in
      let k = clauses_room d f (vs ++ (v ∷ [])) c o a at w s in
      let q = b.kept.relations.count in
      clauses_more a.relations c.clauses (more_of c.relations) (Cs d f) clause b.kept.clauses b.sized.relations (omega (arith, b.kept.clauses.count))
      (more_is c.relations (omega arith) ∙ omega (arith, length-append (flat (Cs d f)) (map relation_of f.relations), map_length relation_of f.relations, clause_length))

  R-clause : (C : List (List Relation)) → C ≡ Cs d f ++ (clause ∷ []) → flat C ++ [] ≡ Rs d f ++ (relation ∷ [])
  unfolding clause
  R-clause C e =
      ap (λ (l : List (List Relation)). flat l ++ []) e ∙ R-closed (Cs d f) f.relations (Rel h vs v) ∙ ap (λ (r : Relation). Rs d f ++ (r ∷ [])) R-one

  per_clause : (C : List (List Relation)) → C ≡ Cs d f ++ (clause ∷ []) → length (flat C) ≤ 8 * length C
  per_clause C e =
      let k : length (flat C) ≡ length (flat (Cs d f)) + length clause = ap (λ l. length (flat l)) e ∙ ap length (flat_snoc (Cs d f) clause) ∙ length-append (flat (Cs d f)) clause in
      let j : length C ≡ length (Cs d f) + 1 = ap length e ∙ length-append (Cs d f) (clause ∷ []) in
      omega (arith, w.base.per, clause_length, s.relations)

  abbrev pub or_front : Front
  or_front = record { name = f.name; clauses = f.clauses ++ (Joined f.relations (Rel h vs v) ∷ []); relations = [] }

  pub close_or : (p : ℕ) → at ≤ p → Base d or_front [] (after (closes true true false) c) (filled false false 0 (closes true true false) c (after (closes true true false) c) o a) (suc p)
  unfolding clause
  close_or p l =
      let b = w.base in
      let z = b.sized in
      let j : Cs d or_front ≡ Cs d f ++ (clause ∷ []) = C-or d f.clauses (Joined f.relations (Rel h vs v)) in
      let e : Rs d or_front ≡ Rs d f ++ (relation ∷ []) = R-clause (Cs d or_front) j in
      record {
        kept =
            record {
              ranges = subst (λ (x : List Range). Ranges a.low a.high c.ranges x) (sym (G-same (Rs d or_front) e)) b.kept.ranges;
              relations =
                  subst (λ (x : List Relation). Relations (set_row a.columns c.relations (row_for o c.ranges)) (more_of c.relations) x) (sym e) relations_closed;
              clauses = subst (λ (x : List (List Relation)). Clauses (set a.relations c.clauses (more_of c.relations)) (more_of c.clauses) x) (sym j) clauses_closed;
              rules = b.kept.rules;
            };
        sized =
            record {
              low = z.low;
              high = z.high;
              columns = length_row a.columns c.relations (row_for o c.ranges) ∙ z.columns;
              relations = length-set a.relations c.clauses (more_of c.relations) ∙ z.relations;
              keyword = z.keyword;
              clauses = z.clauses;
            };
        values = refl;
        joined = refl;
        parted =
            more_is c.parted (omega (arith, b.parted, s.clauses)) ∙ omega (arith, b.parted, length-append f.clauses (Joined f.relations (Rel h vs v) ∷ []));
        tally = b.tally;
        closed = b.closed;
        per = per_clause (Cs d or_front) j;
        keyed = b.keyed;
        room = omega (arith, b.room);
      }

  abbrev pub more : List RuleTree
  more = d ++ (Named f.name f.clauses (Joined f.relations (Rel h vs v)) ∷ [])

  rule_clauses : length (map clause_of (f.clauses ++ (Joined f.relations (Rel h vs v) ∷ []))) ≡ suc (length f.clauses)
  rule_clauses = map_length clause_of (f.clauses ++ (Joined f.relations (Rel h vs v) ∷ [])) ∙ omega (arith, length-append f.clauses (Joined f.relations (Rel h vs v) ∷ []))

  rules_closed : Rules (set a.keyword c.rules o.key) (set a.clauses c.rules (more_of c.clauses)) (more_of c.rules) (numbers more) (Ds more)
  rules_closed =
      let b = w.base in
      let r = rule_of (Named f.name f.clauses (Joined f.relations (Rel h vs v))) in
      let k = clauses_room d f (vs ++ (v ∷ [])) c o a at w s in
      let q = b.kept.clauses.count in
      let m = rules_more a.keyword a.clauses c.rules o.key (more_of c.clauses) (numbers d) (Ds d) r b.kept.rules b.sized.keyword b.sized.clauses
      (omega (arith, b.kept.rules.count, rules_room d f.name o b.tally w.keyed))
      (more_is c.clauses (omega arith) ∙ omega (arith, length-append (closed_clauses d) (map clause_of f.clauses), map_length clause_of f.clauses, rule_clauses)) in
      let e : numbers d ++ (o.key ∷ []) ≡ numbers more = ap (λ (x : ℕ). numbers d ++ (x ∷ [])) w.keyed.key ∙ sym (numbers_snoc d (Named f.name f.clauses (Joined f.relations (Rel h vs v)))) in
      let g : Ds d ++ (r ∷ []) ≡ Ds more = sym (map_snoc rule_of d (Named f.name f.clauses (Joined f.relations (Rel h vs v)))) in
      subst (λ (x : List ℕ). Rules (set a.keyword c.rules o.key) (set a.clauses c.rules (more_of c.clauses)) (more_of c.rules) x (Ds more)) e
      (subst (λ (x : List Rule). Rules (set a.keyword c.rules o.key) (set a.clauses c.rules (more_of c.clauses)) (more_of c.rules) (numbers d ++ (o.key ∷ [])) x) g m)

  pub close_semi : (p : ℕ) → at ≤ p → Base more none [] (after (closes true true true) c) (filled false false 0 (closes true true true) c (after (closes true true true) c) o a) (suc p)
  unfolding clause
  close_semi p l =
      let b = w.base in
      let z = b.sized in
      let t = Named f.name f.clauses (Joined f.relations (Rel h vs v)) in
      let j : Cs more none ≡ Cs d f ++ (clause ∷ []) = C-semi d f.name f.clauses (Joined f.relations (Rel h vs v)) in
      let e : Rs more none ≡ Rs d f ++ (relation ∷ []) = R-clause (Cs more none) j in
      let y = conditions_named d f.name f.clauses (Joined f.relations (Rel h vs v)) in
      let u = numbers_snoc d t in
      record {
        kept =
            record {
              ranges = subst (λ (x : List Range). Ranges a.low a.high c.ranges x) (sym (G-same (Rs more none) e)) b.kept.ranges;
              relations =
                  subst (λ (x : List Relation). Relations (set_row a.columns c.relations (row_for o c.ranges)) (more_of c.relations) x) (sym e) relations_closed;
              clauses = subst (λ (x : List (List Relation)). Clauses (set a.relations c.clauses (more_of c.relations)) (more_of c.clauses) x) (sym j) clauses_closed;
              rules = rules_closed;
            };
        sized =
            record {
              low = z.low;
              high = z.high;
              columns = length_row a.columns c.relations (row_for o c.ranges) ∙ z.columns;
              relations = length-set a.relations c.clauses (more_of c.relations) ∙ z.relations;
              keyword = length-set a.keyword c.rules o.key ∙ z.keyword;
              clauses = length-set a.clauses c.rules (more_of c.clauses) ∙ z.clauses;
            };
        values = refl;
        joined = refl;
        parted = refl;
        tally =
            subst (λ (x : List ℕ). Tally x (conditions more)) (sym u)
            (subst (λ (x : ℕ). Tally (numbers d ++ (keyword_number f.name ∷ [])) x) (sym y)
            (tally_named (numbers d) (conditions d) (keyword_number f.name) b.tally w.keyed.known w.keyed.new (number_other f.name w.named)));
        closed =
            omega (arith, y, b.closed, ap length (closed_snoc d t), length-append (closed_clauses d) (map clause_of (f.clauses ++ (Joined f.relations (Rel h vs v) ∷ []))), rule_clauses, s.clauses);
        per = per_clause (Cs more none) j;
        keyed = keyed_more d t b.keyed w.keyed.known;
        room = omega (arith, b.room);
      }

-- ---- `other:` closed

pub close_bare : (d : List RuleTree) (k : Text) (c : Counts) (o : Current) (a : Arrays) (at p : ℕ) → Base d none [] c a at → Keyed d k o → at ≤ p
    → Base (d ++ (Bare k ∷ [])) none [] (after (closes false false true) c) (filled false false 0 (closes false false true) c (after (closes false false true) c) o a) (suc p)
close_bare d k c o a at p b w l =
    let z = b.sized in
    let more = d ++ (Bare k ∷ []) in
    let r = rule_of (Bare k) in
    let q = C-bare d k in
    let j : Cs more none ≡ Cs d none = ap (λ (x : List (List Relation)). x ++ []) q in
    let e : Rs more none ≡ Rs d none = ap (λ (x : List (List Relation)). flat x ++ []) j in
    let g : Gs more none [] ≡ Gs d none [] = ap (λ (x : List Relation). flat (map (λ (r : Relation). r.ranges) x) ++ []) e in
    let u = numbers_snoc d (Bare k) in
    let m = rules_more a.keyword a.clauses c.rules o.key c.clauses (numbers d) (Ds d) r b.kept.rules z.keyword z.clauses
    (omega (arith, b.kept.rules.count, rules_room d k o b.tally w))
    (b.kept.clauses.count ∙ length-append (closed_clauses d) []) in
    let x1 : numbers d ++ (o.key ∷ []) ≡ numbers more = ap (λ (x : ℕ). numbers d ++ (x ∷ [])) w.key ∙ sym u in
    let x2 : Ds d ++ (r ∷ []) ≡ Ds more = sym (map_snoc rule_of d (Bare k)) in
    record {
      kept =
          record {
            ranges = subst (λ (x : List Range). Ranges a.low a.high c.ranges x) (sym g) b.kept.ranges;
            relations = subst (λ (x : List Relation). Relations a.columns c.relations x) (sym e) b.kept.relations;
            clauses = subst (λ (x : List (List Relation)). Clauses a.relations c.clauses x) (sym j) b.kept.clauses;
            rules =
                subst (λ (x : List ℕ). Rules (set a.keyword c.rules o.key) (set a.clauses c.rules c.clauses) (more_of c.rules) x (Ds more)) x1
                (subst (λ (x : List Rule). Rules (set a.keyword c.rules o.key) (set a.clauses c.rules c.clauses) (more_of c.rules) (numbers d ++ (o.key ∷ [])) x) x2 m);
          };
      sized =
          record {
            low = z.low;
            high = z.high;
            columns = z.columns;
            relations = z.relations;
            keyword = length-set a.keyword c.rules o.key ∙ z.keyword;
            clauses = length-set a.clauses c.rules c.clauses ∙ z.clauses;
          };
      values = b.values;
      joined = b.joined;
      parted = refl;
      tally =
          subst (λ (x : List ℕ). Tally x (conditions more)) (sym u)
          (subst (λ (x : ℕ). Tally (numbers d ++ (keyword_number k ∷ [])) x) (sym (conditions_bare d k))
          (tally_bare (numbers d) (conditions d) (keyword_number k) b.tally w.known w.new));
      closed = omega (arith, conditions_bare d k, b.closed, ap length q);
      per = subst (λ (x : List (List Relation)). length (flat x) ≤ 8 * length x) (sym j) b.per;
      keyed = keyed_more d (Bare k) b.keyed w.known;
      room = omega (arith, b.room);
    }

-- ---- a value, and the upper end of a range

pub add_value : (d : List RuleTree) (f : Front) (vs : List RangeTree) (t : Text) (c : Counts) (o : Current) (a : Arrays) (at n p : ℕ) → Base d f vs c a at
    → n ≡ value t → 2 * c.ranges + 1 ≤ p → p ≤ max_bytes → length vs < 16
    → Base d f (vs ++ (One t ∷ [])) (counts_after c true (closes false false false)) (filled true false n (closes false false false) c (counts_after c true (closes false false false)) o a) (suc p)
add_value d f vs t c o a at n p b e l m h =
    let z = b.sized in
    let g : Gs d f (vs ++ (One t ∷ [])) ≡ Gs d f vs ++ (record { low = n; high = n } ∷ []) = G-value d f vs (One t) ∙ ap (λ (x : ℕ). Gs d f vs ++ (record { low = x; high = x } ∷ [])) (sym e) in
    let k : more_of c.ranges ≡ suc c.ranges = more_is c.ranges (omega arith) in
    record {
      kept =
          record {
            ranges =
                subst (λ (x : List Range). Ranges (set a.low c.ranges n) (set a.high c.ranges n) (more_of c.ranges) x) (sym g)
                (ranges_more a.low a.high c.ranges n (Gs d f vs) b.kept.ranges z.low z.high (omega arith));
            relations = b.kept.relations;
            clauses = b.kept.clauses;
            rules = b.kept.rules;
          };
      sized =
          record {
            low = length-set a.low c.ranges n ∙ z.low;
            high = length-set a.high c.ranges n ∙ z.high;
            columns = z.columns;
            relations = z.relations;
            keyword = z.keyword;
            clauses = z.clauses;
          };
      values = more_is c.values (omega (arith, b.values)) ∙ omega (arith, b.values, length-append vs (One t ∷ []));
      joined = b.joined;
      parted = b.parted;
      tally = b.tally;
      closed = b.closed;
      per = b.per;
      keyed = b.keyed;
      room = omega arith;
    }

pub add_upper : (d : List RuleTree) (f : Front) (vs : List RangeTree) (x t : Text) (c : Counts) (o : Current) (a : Arrays) (at n p : ℕ)
    → Base d f (vs ++ (One x ∷ [])) c a at → n ≡ value t → at ≤ p → p ≤ max_bytes
    → Base d f (vs ++ (Span x t ∷ [])) (counts_after c false (closes false false false)) (filled false true n (closes false false false) c (counts_after c false (closes false false false)) o a) (suc p)
add_upper d f vs x t c o a at n p b e l m =
    let z = b.sized in
    let g : Gs d f (vs ++ (Span x t ∷ [])) ≡ Gs d f vs ++ (record { low = value x; high = n } ∷ []) = G-value d f vs (Span x t) ∙ ap (λ (y : ℕ). Gs d f vs ++ (record { low = value x; high = y } ∷ [])) (sym e) in
    let q : Ranges a.low a.high c.ranges (Gs d f vs ++ (record { low = value x; high = value x } ∷ [])) =
    subst (λ (y : List Range). Ranges a.low a.high c.ranges y) (G-value d f vs (One x)) b.kept.ranges in
    record {
      kept =
          record {
            ranges =
                subst (λ (y : List Range). Ranges a.low (set a.high (c.ranges - 1) n) c.ranges y) (sym g)
                (ranges_last a.low a.high c.ranges (value x) n (Gs d f vs) q (omega (arith, z.high, b.room)));
            relations = b.kept.relations;
            clauses = b.kept.clauses;
            rules = b.kept.rules;
          };
      sized =
          record {
            low = z.low;
            high = length-set a.high (c.ranges - 1) n ∙ z.high;
            columns = z.columns;
            relations = z.relations;
            keyword = z.keyword;
            clauses = z.clauses;
          };
      values = b.values ∙ length-append vs (One x ∷ []) ∙ sym (length-append vs (Span x t ∷ []));
      joined = b.joined;
      parted = b.parted;
      tally = b.tally;
      closed = b.closed;
      per = b.per;
      keyed = b.keyed;
      room = omega (arith, b.room);
    }

-- a place further on
pub later : {d : List RuleTree} {f : Front} {vs : List RangeTree} {c : Counts} {a : Arrays} {at : ℕ} (p : ℕ) → at ≤ p → Base d f vs c a at → Base d f vs c a (suc p)
later p l b =
    record {
      kept = b.kept;
      sized = b.sized;
      values = b.values;
      joined = b.joined;
      parted = b.parted;
      tally = b.tally;
      closed = b.closed;
      per = b.per;
      keyed = b.keyed;
      room = omega (arith, b.room);
    }

-- a rule begun: nothing is open in it yet
pub begun : {d : List RuleTree} {c : Counts} {a : Arrays} {at : ℕ} (k : Text) → Base d none [] c a at → Base d (record { name = k; clauses = []; relations = [] }) [] c a at
begun k b =
    record {
      kept = b.kept;
      sized = b.sized;
      values = b.values;
      joined = b.joined;
      parted = b.parted;
      tally = b.tally;
      closed = b.closed;
      per = b.per;
      keyed = b.keyed;
      room = b.room;
    }
