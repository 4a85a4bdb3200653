-- Every right rule is read from its tokens.
use mathlib.Core.Path.{◌≡◌, refl, sym, ap, ◌∙◌}
use mathlib.Core.Bool.{Bool, true, false, not}
use mathlib.Core.List.{List, [], ◌∷◌, ◌++◌, append_assoc, append-nil}
use Rattle.decimal.specs.Choice.{both}
use Rattle.decimal.specs.Lists.{all}
use Rattle.pack_token.specs.Spelling.{same}
use Rattle.pack_grammar.specs.Grammar.{Text, colon, comma, and, or, other, is_word, is_number, is_operand, RangeTree, HeadTree, RelationTree, ClauseTree, RuleTree, each, of_range, of_head, of_relation, of_clause, of_rule, right_range, right_head, right_relation, right_clause, right_rule}
use Rattle.pack_grammar.specs.Grammar.RangeTree.{One, Span}
use Rattle.pack_grammar.specs.Grammar.HeadTree.{Plain, Modulo}
use Rattle.pack_grammar.specs.Grammar.RelationTree.{Rel}
use Rattle.pack_grammar.specs.Grammar.ClauseTree.{Joined}
use Rattle.pack_grammar.specs.Grammar.RuleTree.{Bare, Named}
use Rattle.pack_grammar.specs.Steps.{Front, State, step, steps, ends}
use Rattle.pack_grammar.specs.Steps.State.{WantsName, WantsColon, WantsOperand, WantsValue, HasValue, HasUpper}
use Rattle.pack_grammar.specs.Steps.Read.{Whole}
use Rattle.pack_token.proofs.Spellings.{both_0, both_1, same_eq}

pub steps_append : (s : State) (a b : List Text) → steps s (a ++ b) ≡ steps (steps s a) b
steps_append s [] b = refl
steps_append s (t ∷ a) b = steps_append (step s t) a b

-- the tokens a lead to the state m, and the token t from there to n
next : (s m n : State) (a : List Text) (t : Text) (b : List Text) → steps s a ≡ m → step m t ≡ n → steps s (a ++ (t ∷ b)) ≡ steps n b
next s m n a t b e g = steps_append s a (t ∷ b) ∙ ap (λ (x : State). steps (step x t) b) e ∙ ap (λ (x : State). steps x b) g

-- after the last value or range of a relation
abbrev pub last : Front → HeadTree → List RangeTree → RangeTree → State
last f h vs (One a) = HasValue f h vs a
last f h vs (Span a b) = HasUpper f h vs a b

pub range : (f : Front) (h : HeadTree) (vs : List RangeTree) (v : RangeTree) → right_range v ≡ true → steps (WantsValue f h vs) (of_range v) ≡ last f h vs v
range f h vs (One a) e = rw e
range f h vs (Span a b) e = rw (both_0 (is_number a) (is_number b) e, both_1 (is_number a) (is_number b) e)

pub last_comma : (f : Front) (h : HeadTree) (vs : List RangeTree) (v : RangeTree) → step (last f h vs v) comma ≡ WantsValue f h (vs ++ (v ∷ []))
last_comma f h vs (One a) = refl
last_comma f h vs (Span a b) = refl

values : (f : Front) (h : HeadTree) (vs us : List RangeTree) → all right_range us ≡ true
    → steps (WantsValue f h vs) (each of_range comma us) ≡ WantsValue f h (vs ++ us)
values f h vs [] e = rw append-nil
values f h vs (u ∷ us) e =
    next (WantsValue f h vs) (last f h vs u) (WantsValue f h (vs ++ (u ∷ []))) (of_range u) comma (each of_range comma us)
    (range f h vs u (both_0 (right_range u) (all right_range us) e)) (last_comma f h vs u)
    ∙ values f h (vs ++ (u ∷ [])) us (both_1 (right_range u) (all right_range us) e) ∙ simp append_assoc

pub headed : (f : Front) (h : HeadTree) → right_head h ≡ true → steps (WantsOperand f) (of_head h) ≡ WantsValue f h []
headed f (Plain o false) e = rw e
headed f (Plain o true) e = rw e
headed f (Modulo o m false) e = rw (both_0 (is_operand o) (is_number m) e, both_1 (is_operand o) (is_number m) e)
headed f (Modulo o m true) e = rw (both_0 (is_operand o) (is_number m) e, both_1 (is_operand o) (is_number m) e)

pub relation : (f : Front) (h : HeadTree) (vs : List RangeTree) (v : RangeTree) → right_relation (Rel h vs v) ≡ true
    → steps (WantsOperand f) (of_relation (Rel h vs v)) ≡ last f h vs v
relation f h vs v e =
    let p = both_0 (right_head h) (both (all right_range vs) (right_range v)) e in
    let q = both_1 (right_head h) (both (all right_range vs) (right_range v)) e in
    rw (
      steps_append (WantsOperand f) (of_head h) (each of_range comma vs ++ of_range v),
      headed f h p,
      steps_append (WantsValue f h []) (each of_range comma vs) (of_range v),
      values f h [] vs (both_0 (all right_range vs) (right_range v) q),
    )
    (range f h vs v (both_1 (all right_range vs) (right_range v) q))

abbrev pub front : Text → List ClauseTree → List RelationTree → Front
front k cs rs = record { name = k; clauses = cs; relations = rs }

pub last_and : (k : Text) (cs : List ClauseTree) (rs : List RelationTree) (h : HeadTree) (vs : List RangeTree) (v : RangeTree)
    → step (last (front k cs rs) h vs v) and ≡ WantsOperand (front k cs (rs ++ (Rel h vs v ∷ [])))
last_and k cs rs h vs (One a) = refl
last_and k cs rs h vs (Span a b) = refl

pub last_or : (k : Text) (cs : List ClauseTree) (rs : List RelationTree) (h : HeadTree) (vs : List RangeTree) (v : RangeTree)
    → step (last (front k cs rs) h vs v) or ≡ WantsOperand (front k (cs ++ (Joined rs (Rel h vs v) ∷ [])) [])
last_or k cs rs h vs (One a) = refl
last_or k cs rs h vs (Span a b) = refl

last_ends : (k : Text) (cs : List ClauseTree) (rs : List RelationTree) (h : HeadTree) (vs : List RangeTree) (v : RangeTree)
    → ends (last (front k cs rs) h vs v) ≡ Whole (Named k cs (Joined rs (Rel h vs v)))
last_ends k cs rs h vs (One a) = refl
last_ends k cs rs h vs (Span a b) = refl

relations : (k : Text) (cs : List ClauseTree) (rs us : List RelationTree) → all right_relation us ≡ true
    → steps (WantsOperand (front k cs rs)) (each of_relation and us) ≡ WantsOperand (front k cs (rs ++ us))
relations k cs rs [] e = rw append-nil
relations k cs rs (Rel h vs v ∷ us) e =
    let p = both_0 (right_relation (Rel h vs v)) (all right_relation us) e in
    let q = both_1 (right_relation (Rel h vs v)) (all right_relation us) e in
    next (WantsOperand (front k cs rs)) (last (front k cs rs) h vs v) (WantsOperand (front k cs (rs ++ (Rel h vs v ∷ [])))) (of_relation (Rel h vs v)) and (each of_relation and us)
    (relation (front k cs rs) h vs v p) (last_and k cs rs h vs v)
    ∙ relations k cs (rs ++ (Rel h vs v ∷ [])) us q ∙ simp append_assoc

pub clause : (k : Text) (cs : List ClauseTree) (rs : List RelationTree) (h : HeadTree) (vs : List RangeTree) (v : RangeTree) → right_clause (Joined rs (Rel h vs v)) ≡ true
    → steps (WantsOperand (front k cs [])) (of_clause (Joined rs (Rel h vs v))) ≡ last (front k cs rs) h vs v
clause k cs rs h vs v p =
    rw (
      steps_append (WantsOperand (front k cs [])) (each of_relation and rs) (of_relation (Rel h vs v)),
      relations k cs [] rs (both_0 (all right_relation rs) (right_relation (Rel h vs v)) p),
    )
    (relation (front k cs rs) h vs v (both_1 (all right_relation rs) (right_relation (Rel h vs v)) p))

clauses : (k : Text) (cs ds : List ClauseTree) → all right_clause ds ≡ true
    → steps (WantsOperand (front k cs [])) (each of_clause or ds) ≡ WantsOperand (front k (cs ++ ds) [])
clauses k cs [] e = rw append-nil
clauses k cs (Joined rs (Rel h vs v) ∷ ds) e =
    let p = both_0 (right_clause (Joined rs (Rel h vs v))) (all right_clause ds) e in
    let q = both_1 (right_clause (Joined rs (Rel h vs v))) (all right_clause ds) e in
    next (WantsOperand (front k cs [])) (last (front k cs rs) h vs v) (WantsOperand (front k (cs ++ (Joined rs (Rel h vs v) ∷ [])) [])) (of_clause (Joined rs (Rel h vs v))) or (each of_clause or ds)
    (clause k cs rs h vs v p) (last_or k cs rs h vs v)
    ∙ clauses k (cs ++ (Joined rs (Rel h vs v) ∷ [])) ds q ∙ simp append_assoc

-- COMPLETE: the tokens of a right rule are read as that rule
pub complete : (r : RuleTree) → right_rule r ≡ true → ends (steps WantsName (of_rule r)) ≡ Whole r
complete (Bare k) e = bare k (same_eq k other e)
  where
    bare : (k : Text) → k ≡ other → ends (steps WantsName (k ∷ colon ∷ [])) ≡ Whole (Bare k)
    bare k e = rw e
complete (Named k cs (Joined rs (Rel h vs v))) e =
    let a = both_0 (is_word k) _ e in
    let e1 = both_1 (is_word k) _ e in
    let b = not_it (same k other) (both_0 (not (same k other)) _ e1) in
    let e2 = both_1 (not (same k other)) _ e1 in
    let c = both_0 (all right_clause cs) _ e2 in
    let e3 = both_1 (all right_clause cs) _ e2 in
    let ts = each of_clause or cs ++ of_clause (Joined rs (Rel h vs v)) in
    let p : step WantsName k ≡ WantsColon k = rw a in
    let q : step (WantsColon k) colon ≡ WantsOperand (front k [] []) = rw b in
    ap (λ (x : State). ends (steps (step x colon) ts)) p ∙ ap (λ (x : State). ends (steps x ts)) q
    ∙ rw (
      steps_append (WantsOperand (front k [] [])) (each of_clause or cs) (of_clause (Joined rs (Rel h vs v))),
      clauses k [] cs c,
      clause k cs rs h vs v e3,
    ) (last_ends k cs rs h vs v)
  where
    not_it : (b : Bool) → not b ≡ true → b ≡ false
    not_it true e = sym e
    not_it false e = refl
