-- The rows that the reader finds, token by token, are the lowest of those that the tokens of the pack's tree fall under.
use mathlib.Core.Path.{◌≡◌, refl, sym, ap, ◌∙◌}
use mathlib.Core.Bool.{Bool, true, false, not}
use mathlib.Core.List.{List, [], ◌∷◌, ◌++◌, map, append_assoc}
use Prim.Native.Nat.{ℕ, suc}
use native.Mathlib.Omega.{arith}
use lib.Dec.{ltb, leb}
use lib.ListN.{length, length-append}
use borrow.Author.Tests.{ltb-true, ltb-false, le-leb, lt-leb, not-true}
use Rattle.std.specs.Prelude.{if◌then◌else◌}
use Rattle.decimal.specs.Choice.{both, either}
use Rattle.decimal.specs.Digits.{value}
use Rattle.decimal.proofs.Choices.{tested}
use Rattle.decimal.specs.Lists.{all}
use Rattle.pack_token.specs.Spelling.{same, among}
use Rattle.pack_token.proofs.Spellings.{both_0, both_1, same_eq}
use Rattle.pack_grammar.specs.Limits.{max_clauses, max_relations, max_ranges, max_value, is_modulus, keywords}
use Rattle.pack_grammar.specs.Grammar.{Text, colon, semi, comma, and, or, other, is_word, is_number, is_operand, RangeTree, HeadTree, RelationTree, ClauseTree, RuleTree, PackTree, name_of, each, of_range, of_head, of_relation, of_clause, of_rule, of_pack, right_range, right_head, right_relation, right_clause, right_rule, right_pack}
use Rattle.pack_grammar.specs.Grammar.RangeTree.{One, Span}
use Rattle.pack_grammar.specs.Grammar.HeadTree.{Plain, Modulo}
use Rattle.pack_grammar.specs.Grammar.RelationTree.{Rel}
use Rattle.pack_grammar.specs.Grammar.ClauseTree.{Joined}
use Rattle.pack_grammar.specs.Grammar.RuleTree.{Bare, Named}
use Rattle.pack_grammar.specs.Grammar.PackTree.{Parted}
use Rattle.pack_grammar.specs.Falls.{when, value_rows, range_rows, rows_of_head, in_turn, relation_rows, clause_rows, name_rows, rule_rows, rules_rows, pack_rows}
use Rattle.pack_grammar.specs.Steps.{Front, State, step, steps, Read, ends}
use Rattle.pack_grammar.specs.Steps.State.{WantsName, WantsColon, WantsOperand, WantsValue}
use Rattle.pack_grammar.specs.Reader.{is_dead, trouble}
use Rattle.pack_grammar.proofs.Laws.{map_append}
use Rattle.pack_grammar.proofs.Complete.{last, range, last_comma, headed, relation, front, last_and, last_or, clause, complete}
use Rattle.pack_grammar.proofs.Places.{dead_is, dead_stays}
use Rattle.pack_grammar.proofs.Viable.{Far, closed, onward, far, outset, far_rule, whole_alive}
use Rattle.pack_grammar.proofs.Whole.{names, is_name, fault_on, name_step, whole_clean, one_more}

-- the first of a token's rows, else 0
abbrev pub first : List ℕ → ℕ
first [] = 0
first (n ∷ ns) = n

-- ---- one token

not_less : (a b : ℕ) → leb b a ≡ not (ltb a b)
not_less a b = tested (ltb a b) (λ k. rw k (lt-leb b a (ltb-true a b k))) (λ k. rw k (le-leb b a (ltb-false a b k)))

value_first : (a : Text) (k : ℕ)
    → (if ltb max_value (value a) then 22 else if ltb k max_ranges then 0 else 26) ≡ first (value_rows a ++ when (leb max_ranges k) 26)
value_first a k = rw (not_less k max_ranges) (go (ltb max_value (value a)) (ltb k max_ranges))
  where
    go : (x y : Bool) → (if x then 22 else if y then 0 else 26) ≡ first (when x 22 ++ when (not y) 26)
    go true true = refl
    go true false = refl
    go false true = refl
    go false false = refl

upper_first : (a b : Text)
    → (if ltb max_value (value b) then 22 else if ltb (value b) (value a) then 24 else 0) ≡ first (value_rows b ++ when (ltb (value b) (value a)) 24)
upper_first a b = go (ltb max_value (value b)) (ltb (value b) (value a))
  where
    go : (x y : Bool) → (if x then 22 else if y then 24 else 0) ≡ first (when x 22 ++ when y 24)
    go true true = refl
    go true false = refl
    go false true = refl
    go false false = refl

operand_first : (j k : ℕ)
    → (if ltb j max_clauses then (if ltb k max_relations then 0 else 26) else 26) ≡ first (when (either (leb max_clauses j) (leb max_relations k)) 26)
operand_first j k = rw (not_less j max_clauses, not_less k max_relations) (go (ltb j max_clauses) (ltb k max_relations))
  where
    go : (x y : Bool) → (if x then (if y then 0 else 26) else 26) ≡ first (when (either (not x) (not y)) 26)
    go true true = refl
    go true false = refl
    go false true = refl
    go false false = refl

modulus_first : (m : Text) → (if is_modulus (value m) then 0 else 23) ≡ first (when (not (is_modulus (value m))) 23)
modulus_first m = go (is_modulus (value m))
  where
    go : (x : Bool) → (if x then 0 else 23) ≡ first (when (not x) 23)
    go true = refl
    go false = refl

name_first : (d : List RuleTree) (used : List Text) (k : Text) → among k used ≡ among k (names d)
    → fault_on (record { rules = d; state = WantsName }) k ≡ first (name_rows used k)
name_first d used k h = go (among k keywords) (among k (names d)) ∙ ap (λ (b : Bool). first (when (either (not (among k keywords)) b) 25)) (sym h)
  where
    go : (x y : Bool) → (if both true y then 25 else if x then 0 else 25) ≡ first (when (either (not x) y) 25)
    go true true = refl
    go true false = refl
    go false true = refl
    go false false = refl

-- ---- the rows of tokens behind a state

abbrev troubles : State → List Text → List ℕ
troubles s [] = []
troubles s (t ∷ ts) = trouble s t ∷ troubles (step s t) ts

troubles_append : (s : State) (a b : List Text) → troubles s (a ++ b) ≡ troubles s a ++ troubles (steps s a) b
troubles_append s [] b = refl
troubles_append s (t ∷ a) b = ap (λ (l : List ℕ). trouble s t ∷ l) (troubles_append (step s t) a b)

-- some in turn, `sep` between two: where each alone has its rows, and `sep` none, all have theirs
module _ {A : Type 0} (w : A → List Text) (sep : Text) (right : A → Bool) (state : List A → State) (rows : ℕ → A → List (List ℕ))
    (one : (xs : List A) (x : A) → right x ≡ true → troubles (state xs) (w x) ≡ map first (rows (length xs) x))
    (clean : (xs : List A) (x : A) → right x ≡ true → trouble (steps (state xs) (w x)) sep ≡ 0)
    (goes : (xs : List A) (x : A) → right x ≡ true → step (steps (state xs) (w x)) sep ≡ state (xs ++ (x ∷ []))) where
  in_turn_law : (xs ys : List A) (y : A) → all right ys ≡ true → right y ≡ true
      → troubles (state xs) (each w sep ys ++ w y) ≡ map first (in_turn rows (length xs) ys y)
  in_turn_law xs [] y g h = one xs y h
  in_turn_law xs (x ∷ ys) y g h =
      let p = both_0 (right x) (all right ys) g in
      let z = each w sep ys ++ w y in
      let n : length (xs ++ (x ∷ [])) ≡ suc (length xs) = omega (arith, length-append xs (x ∷ [])) in
      let ih = in_turn_law (xs ++ (x ∷ [])) ys y (both_1 (right x) (all right ys) g) h in
      let s = steps (state xs) (w x) in
      ap (troubles (state xs)) (append_assoc (w x) (sep ∷ each w sep ys) (w y))
      ∙ troubles_append (state xs) (w x) (sep ∷ z)
      ∙ ap (λ (l : List ℕ). l ++ troubles s (sep ∷ z)) (one xs x p)
      ∙ ap (λ (k : ℕ). map first (rows (length xs) x) ++ (k ∷ troubles (step s sep) z)) (clean xs x p)
      ∙ ap (λ (v : State). map first (rows (length xs) x) ++ (0 ∷ troubles v z)) (goes xs x p)
      ∙ ap (λ (l : List ℕ). map first (rows (length xs) x) ++ (0 ∷ l)) ih
      ∙ ap (λ (k : ℕ). map first (rows (length xs) x) ++ (0 ∷ map first (in_turn rows k ys y))) n
      ∙ sym (map_append first (rows (length xs) x) ([] ∷ in_turn rows (suc (length xs)) ys y))

-- ---- ranges, heads, relations, clauses

last_clean : (f : Front) (h : HeadTree) (vs : List RangeTree) (v : RangeTree) (t : Text) → trouble (last f h vs v) t ≡ 0
last_clean f h vs (One a) t = refl
last_clean f h vs (Span a b) t = refl

range_rows_law : (f : Front) (h : HeadTree) (vs : List RangeTree) (v : RangeTree) → right_range v ≡ true
    → troubles (WantsValue f h vs) (of_range v) ≡ map first (range_rows (length vs) v)
range_rows_law f h vs (One a) e = ap (λ (n : ℕ). n ∷ []) (value_first a (length vs))
range_rows_law f h vs (Span a b) e =
    let p = both_0 (is_number a) (is_number b) e in
    rw (p, value_first a (length vs)) (ap (λ (n : ℕ). first (value_rows a ++ when (leb max_ranges (length vs)) 26) ∷ 0 ∷ n ∷ []) (upper_first a b))

head_rows : (f : Front) (h : HeadTree) → right_head h ≡ true
    → troubles (WantsOperand f) (of_head h) ≡ map first (rows_of_head (either (leb max_clauses (length f.clauses)) (leb max_relations (length f.relations))) h)
head_rows f (Plain o n) e = rw e (ap (λ (m : ℕ). m ∷ 0 ∷ []) (operand_first (length f.clauses) (length f.relations)))
head_rows f (Modulo o m n) e =
    rw (both_0 (is_operand o) (is_number m) e, both_1 (is_operand o) (is_number m) e)
    (ap (λ (k : ℕ). k ∷ 0 ∷ (if is_modulus (value m) then 0 else 23) ∷ 0 ∷ []) (operand_first (length f.clauses) (length f.relations))
    ∙ ap (λ (k : ℕ). first (when (either (leb max_clauses (length f.clauses)) (leb max_relations (length f.relations))) 26) ∷ 0 ∷ k ∷ 0 ∷ []) (modulus_first m))

relation_rows_law : (f : Front) (r : RelationTree) → right_relation r ≡ true
    → troubles (WantsOperand f) (of_relation r) ≡ map first (relation_rows (length f.clauses) (length f.relations) r)
relation_rows_law f (Rel h vs v) e =
    let p = both_0 (right_head h) (both (all right_range vs) (right_range v)) e in
    let q = both_1 (right_head h) (both (all right_range vs) (right_range v)) e in
    let us = each of_range comma vs ++ of_range v in
    let m = either (leb max_clauses (length f.clauses)) (leb max_relations (length f.relations)) in
    troubles_append (WantsOperand f) (of_head h) us
    ∙ ap (λ (l : List ℕ). l ++ troubles (steps (WantsOperand f) (of_head h)) us) (head_rows f h p)
    ∙ ap (λ (s : State). map first (rows_of_head m h) ++ troubles s us) (headed f h p)
    ∙ ap (λ (l : List ℕ). map first (rows_of_head m h) ++ l) (ranges (both_0 (all right_range vs) (right_range v) q) (both_1 (all right_range vs) (right_range v) q))
    ∙ sym (map_append first (rows_of_head m h) (in_turn range_rows 0 vs v))
  where
    ranges : all right_range vs ≡ true → right_range v ≡ true
        → troubles (WantsValue f h []) (each of_range comma vs ++ of_range v) ≡ map first (in_turn range_rows 0 vs v)
    ranges g k =
        in_turn_law of_range comma right_range (WantsValue f h) range_rows (range_rows_law f h)
        (λ xs x e. ap (λ (s : State). trouble s comma) (range f h xs x e) ∙ last_clean f h xs x comma)
        (λ xs x e. ap (λ (s : State). step s comma) (range f h xs x e) ∙ last_comma f h xs x)
        [] vs v g k

clause_rows_law : (k : Text) (cs : List ClauseTree) (c : ClauseTree) → right_clause c ≡ true
    → troubles (WantsOperand (front k cs [])) (of_clause c) ≡ map first (clause_rows (length cs) c)
clause_rows_law k cs (Joined rs r) e =
    in_turn_law of_relation and right_relation (λ xs. WantsOperand (front k cs xs)) (relation_rows (length cs))
    (λ xs. relation_rows_law (front k cs xs)) clean goes
    [] rs r (both_0 (all right_relation rs) (right_relation r) e) (both_1 (all right_relation rs) (right_relation r) e)
  where
    clean : (xs : List RelationTree) (x : RelationTree) → right_relation x ≡ true
        → trouble (steps (WantsOperand (front k cs xs)) (of_relation x)) and ≡ 0
    clean xs (Rel h vs v) g =
        ap (λ (s : State). trouble s and) (relation (front k cs xs) h vs v g) ∙ last_clean (front k cs xs) h vs v and

    goes : (xs : List RelationTree) (x : RelationTree) → right_relation x ≡ true
        → step (steps (WantsOperand (front k cs xs)) (of_relation x)) and ≡ WantsOperand (front k cs (xs ++ (x ∷ [])))
    goes xs (Rel h vs v) g = ap (λ (s : State). step s and) (relation (front k cs xs) h vs v g) ∙ last_and k cs xs h vs v

condition_rows : (k : Text) (cs : List ClauseTree) (c : ClauseTree) → all right_clause cs ≡ true → right_clause c ≡ true
    → troubles (WantsOperand (front k [] [])) (each of_clause or cs ++ of_clause c) ≡ map first (in_turn clause_rows 0 cs c)
condition_rows k cs c g h =
    in_turn_law of_clause or right_clause (λ xs. WantsOperand (front k xs [])) clause_rows (clause_rows_law k) clean goes [] cs c g h
  where
    clean : (xs : List ClauseTree) (x : ClauseTree) → right_clause x ≡ true → trouble (steps (WantsOperand (front k xs [])) (of_clause x)) or ≡ 0
    clean xs (Joined rs (Rel h vs v)) g =
        ap (λ (s : State). trouble s or) (clause k xs rs h vs v g) ∙ last_clean (front k xs rs) h vs v or

    goes : (xs : List ClauseTree) (x : ClauseTree) → right_clause x ≡ true
        → step (steps (WantsOperand (front k xs [])) (of_clause x)) or ≡ WantsOperand (front k (xs ++ (x ∷ [])) [])
    goes xs (Joined rs (Rel h vs v)) g = ap (λ (s : State). step s or) (clause k xs rs h vs v g) ∙ last_or k xs rs h vs v

-- ---- rules

-- the rows of a pack's tokens, by the reader
abbrev pub rows_on : Far → List Text → List ℕ
rows_on p [] = []
rows_on p (t ∷ ts) = fault_on p t ∷ rows_on (onward p t) ts

rows_append : (p : Far) (a b : List Text) → rows_on p (a ++ b) ≡ rows_on p a ++ rows_on (far p a) b
rows_append p [] b = refl
rows_append p (t ∷ a) b = ap (λ (l : List ℕ). fault_on p t ∷ l) (rows_append (onward p t) a b)

steps_alive : (s : State) (us : List Text) → is_dead (steps s us) ≡ false → is_dead s ≡ false
steps_alive s us e = go (is_dead s) refl
  where
    go : (x : Bool) → is_dead s ≡ x → x ≡ false
    go true k = sym (ap (λ (z : State). is_dead (steps z us)) (dead_is s k) ∙ ap is_dead (dead_stays us)) ∙ e
    go false k = refl

-- within a rule, behind its keyword
rows_within : (d : List RuleTree) (s : State) (us : List Text) → is_name s ≡ false → is_dead (steps s us) ≡ false
    → rows_on (record { rules = d; state = s }) us ≡ troubles s us
rows_within d s [] n e = refl
rows_within d s (t ∷ us) n e =
    rw n
    (ap (λ (p : Far). trouble s t ∷ rows_on p us) (far_rule d s (t ∷ []) (steps_alive (step s t) us e))
    ∙ ap (λ (l : List ℕ). trouble s t ∷ l) (rows_within d (step s t) us (name_step s t) e))

module _ (d : List RuleTree) (used : List Text) (h : (t : Text) → among t used ≡ among t (names d)) where
  -- a keyword, and what stands behind it
  keyword_rows : (k : Text) (us : List Text) (ns : List ℕ) → is_dead (steps WantsName (k ∷ us)) ≡ false → troubles (step WantsName k) us ≡ ns
      → rows_on (record { rules = d; state = WantsName }) (k ∷ us) ≡ first (name_rows used k) ∷ ns
  keyword_rows k us ns e g =
      let p : Far = record { rules = d; state = WantsName } in
      ap (λ (n : ℕ). n ∷ rows_on (onward p k) us) (name_first d used k (h k))
      ∙ ap (λ (q : Far). first (name_rows used k) ∷ rows_on q us) (far_rule d WantsName (k ∷ []) (steps_alive (step WantsName k) us e))
      ∙ ap (λ (l : List ℕ). first (name_rows used k) ∷ l) (rows_within d (step WantsName k) us (name_step WantsName k) e ∙ g)

  rule_rows_law : (r : RuleTree) → right_rule r ≡ true → rows_on (record { rules = d; state = WantsName }) (of_rule r) ≡ map first (rule_rows used r)
  rule_rows_law (Bare k) e =
      keyword_rows k (colon ∷ []) (0 ∷ []) (whole_alive (steps WantsName (of_rule (Bare k))) (Bare k) (complete (Bare k) e)) (bare (same_eq k other e))
    where
      bare : k ≡ other → troubles (step WantsName k) (colon ∷ []) ≡ 0 ∷ []
      bare e = rw e
  rule_rows_law (Named k cs c) e =
      let a = both_0 (is_word k) _ e in
      let e1 = both_1 (is_word k) _ e in
      let b = not-true (same k other) (both_0 (not (same k other)) _ e1) in
      let e2 = both_1 (not (same k other)) _ e1 in
      let us = each of_clause or cs ++ of_clause c in
      let p : step WantsName k ≡ WantsColon k = rw a in
      let q : step (WantsColon k) colon ≡ WantsOperand (front k [] []) = rw b in
      keyword_rows k (colon ∷ us) (0 ∷ map first (in_turn clause_rows 0 cs c))
      (whole_alive (steps WantsName (of_rule (Named k cs c))) (Named k cs c) (complete (Named k cs c) e))
      (ap (λ (s : State). troubles s (colon ∷ us)) p
      ∙ ap (λ (s : State). 0 ∷ troubles s us) q
      ∙ ap (λ (l : List ℕ). 0 ∷ l) (condition_rows k cs c (both_0 (all right_clause cs) (right_clause c) e2) (both_1 (all right_clause cs) (right_clause c) e2)))

rules_rows_law : (d : List RuleTree) (used : List Text) → ((t : Text) → among t used ≡ among t (names d)) → (rs : List RuleTree) (r : RuleTree)
    → all right_rule rs ≡ true → right_rule r ≡ true
    → rows_on (record { rules = d; state = WantsName }) (each of_rule semi rs ++ of_rule r) ≡ map first (rules_rows used rs r)
rules_rows_law d used h [] r g e = rule_rows_law d used h r e
rules_rows_law d used h (q ∷ rs) r g e =
    let b = both_0 (right_rule q) (all right_rule rs) g in
    let c = complete q b in
    let s = steps WantsName (of_rule q) in
    let z = each of_rule semi rs ++ of_rule r in
    let p : Far = record { rules = d; state = WantsName } in
    let ns = map first (rule_rows used q) in
    ap (rows_on p) (append_assoc (of_rule q) (semi ∷ each of_rule semi rs) (of_rule r))
    ∙ rows_append p (of_rule q) (semi ∷ z)
    ∙ ap (λ (l : List ℕ). l ++ rows_on (far p (of_rule q)) (semi ∷ z)) (rule_rows_law d used h q b)
    ∙ ap (λ (x : Far). ns ++ rows_on x (semi ∷ z)) (far_rule d WantsName (of_rule q) (whole_alive s q c))
    ∙ ap (λ (n : ℕ). ns ++ (n ∷ rows_on (closed d (ends s)) z)) (whole_clean d s q c)
    ∙ ap (λ (x : Read). ns ++ (0 ∷ rows_on (closed d x) z)) c
    ∙ ap (λ (l : List ℕ). ns ++ (0 ∷ l))
    (rules_rows_law (d ++ (q ∷ [])) (name_of q ∷ used) (one_more used d q h) rs r (both_1 (right_rule q) (all right_rule rs) g) e)
    ∙ sym (map_append first (rule_rows used q) ([] ∷ rules_rows (name_of q ∷ used) rs r))

-- the reader's rows of a right tree's tokens are the lowest of the tree's
pub pack_rows_law : (p : PackTree) → right_pack p ≡ true → rows_on outset (of_pack p) ≡ map first (pack_rows p)
pack_rows_law (Parted rs r) g = rules_rows_law [] [] (λ t. refl) rs r (both_0 (all right_rule rs) (right_rule r) g) (both_1 (all right_rule rs) (right_rule r) g)
