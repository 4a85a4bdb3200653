-- Whatever the steps have read is what a tree has for its tokens.
use mathlib.Core.Path.{◌≡◌, refl, ap, ◌∙◌}
use mathlib.Core.Bool.{Bool, true, false, not}
use mathlib.Core.List.{List, [], ◌∷◌, ◌++◌, append_assoc, append-nil}
use Rattle.pack_token.specs.Spelling.{same}
use Rattle.pack_grammar.specs.Grammar.{Text, colon, comma, percent, equal, and, or, other, is_word, is_number, is_operand, RangeTree, HeadTree, RelationTree, ClauseTree, RuleTree, sign, each, of_range, of_head, of_relation, of_clause, of_rule, right_range, right_head, right_relation, right_clause, right_rule}
use Rattle.pack_token.specs.Token.{differ, dots}
use Rattle.pack_grammar.specs.Grammar.RangeTree.{One, Span}
use Rattle.pack_grammar.specs.Grammar.HeadTree.{Plain, Modulo}
use Rattle.pack_grammar.specs.Grammar.RelationTree.{Rel}
use Rattle.pack_grammar.specs.Grammar.ClauseTree.{Joined}
use Rattle.pack_grammar.specs.Grammar.RuleTree.{Named}
use Rattle.pack_grammar.specs.Steps.{Front, State, go_on, signed, step, steps, Read, ends}
use Rattle.pack_grammar.specs.Steps.State.{WantsName, WantsColon, WantsNothing, WantsOperand, HasOperand, WantsModulus, HasModulus, WantsValue, HasValue, WantsUpper, HasUpper, Dead}
use Rattle.pack_grammar.specs.Steps.Read.{Whole, Cut}
use Rattle.decimal.proofs.Choices.{choice, both_in}
use Rattle.decimal.specs.Lists.{all}
use Rattle.pack_token.proofs.Spellings.{same_eq}
use Rattle.pack_grammar.proofs.Laws.{each_snoc, all_snoc}

unfoldable pub of_front : Front → List Text
of_front f = f.name ∷ colon ∷ (each of_clause or f.clauses ++ each of_relation and f.relations)

-- one relation more, and one clause more
abbrev with_relation : Front → RelationTree → Front
with_relation f r = record { name = f.name; clauses = f.clauses; relations = f.relations ++ (r ∷ []) }

abbrev with_clause : Front → ClauseTree → Front
with_clause f c = record { name = f.name; clauses = f.clauses ++ (c ∷ []); relations = [] }

cons_2 : (a b : Text) {x y : List Text} → x ≡ y → a ∷ b ∷ x ≡ a ∷ b ∷ y
cons_2 a b e = ap (λ (l : List Text). a ∷ b ∷ l) e

front_and : (f : Front) (r : RelationTree) → of_front (with_relation f r) ≡ of_front f ++ (of_relation r ++ (and ∷ []))
unfolding of_front
front_and f r =
    cons_2 f.name colon (go (each of_clause or f.clauses))
  where
    go : (c : List Text) → c ++ each of_relation and (f.relations ++ (r ∷ [])) ≡ c ++ each of_relation and f.relations ++ (of_relation r ++ (and ∷ []))
    go c = rw (each_snoc of_relation and f.relations r) (simp append_assoc)

front_or : (f : Front) (r : RelationTree) → of_front (with_clause f (Joined f.relations r)) ≡ of_front f ++ (of_relation r ++ (or ∷ []))
unfolding of_front
front_or f r =
    cons_2 f.name colon (rw (each_snoc of_clause or f.clauses (Joined f.relations r)) (go (each of_clause or f.clauses) (each of_relation and f.relations) (of_relation r)))
  where
    go : (c a x : List Text) → c ++ (a ++ x ++ (or ∷ [])) ++ [] ≡ c ++ a ++ (x ++ (or ∷ []))
    go c a x = simp (append_assoc, append-nil)

pub record RightFront (f : Front) : Type 0 where
  pub word : is_word f.name ≡ true
  pub named : same f.name other ≡ false
  pub clauses : all right_clause f.clauses ≡ true
  pub relations : all right_relation f.relations ≡ true

-- the tokens ts have been read at this state
abbrev pub Reached : State → List Text → Type 0
Reached WantsName ts = ts ≡ []
Reached (WantsColon k) ts = (ts ≡ k ∷ []) × (is_word k ≡ true)
Reached (WantsNothing k) ts = (ts ≡ k ∷ colon ∷ []) × (same k other ≡ true)
Reached (WantsOperand f) ts = (ts ≡ of_front f) × RightFront f
Reached (HasOperand f o) ts = (ts ≡ of_front f ++ (o ∷ [])) × RightFront f × (is_operand o ≡ true)
Reached (WantsModulus f o) ts = (ts ≡ of_front f ++ (o ∷ percent ∷ [])) × RightFront f × (is_operand o ≡ true)
Reached (HasModulus f o m) ts =
    (ts ≡ of_front f ++ (o ∷ percent ∷ m ∷ [])) × RightFront f × (is_operand o ≡ true) × (is_number m ≡ true)
Reached (WantsValue f h vs) ts =
    (ts ≡ of_front f ++ (of_head h ++ each of_range comma vs)) × RightFront f × (right_head h ≡ true) × (all right_range vs ≡ true)
Reached (HasValue f h vs a) ts =
    (ts ≡ of_front f ++ of_relation (Rel h vs (One a))) × RightFront f × (right_head h ≡ true) × (all right_range vs ≡ true) × (is_number a ≡ true)
Reached (WantsUpper f h vs a) ts =
    (ts ≡ of_front f ++ (of_head h ++ (each of_range comma vs ++ (a ∷ dots ∷ [])))) × RightFront f × (right_head h ≡ true) × (all right_range vs ≡ true) × (is_number a ≡ true)
Reached (HasUpper f h vs a b) ts =
    (ts ≡ of_front f ++ of_relation (Rel h vs (Span a b))) × RightFront f × (right_head h ≡ true) × (all right_range vs ≡ true) × (right_range (Span a b) ≡ true)
Reached Dead ts = Unit {0}

goes_on : (f : Front) (h : HeadTree) (vs : List RangeTree) (v : RangeTree) (t : Text) (ts : List Text)
    → ts ≡ of_front f ++ of_relation (Rel h vs v) → RightFront f → right_head h ≡ true → all right_range vs ≡ true → right_range v ≡ true
    → Reached (go_on f h vs v t) (ts ++ (t ∷ []))
goes_on f h vs v t ts e g p q r =
    choice P (same t comma)
    (λ k. (rw (e, same_eq t comma k, each_snoc of_range comma vs v) (simp append_assoc), g, p, all_snoc right_range vs v q r))
    (λ _. choice P (same t and)
    (λ k. (
      rw (e, same_eq t and k, front_and f (Rel h vs v)) (simp append_assoc),
      record { word = g.word; named = g.named; clauses = g.clauses; relations = all_snoc right_relation f.relations (Rel h vs v) g.relations (both_in p (both_in q r)) },
    ))
    (λ _. choice P (same t or)
    (λ k. (
      rw (e, same_eq t or k, front_or f (Rel h vs v)) (simp append_assoc),
      record { word = g.word; named = g.named; clauses = all_snoc right_clause f.clauses (Joined f.relations (Rel h vs v)) g.clauses (both_in g.relations (both_in p (both_in q r))); relations = refl },
    ))
    (λ _. tt)))
  where
    P : State → Type 0
    P s = Reached s (ts ++ (t ∷ []))

signs : (f : Front) (h : Bool → HeadTree) (x : List Text) (t : Text) (ts : List Text)
    → ts ≡ of_front f ++ x → ((n : Bool) → of_head (h n) ≡ x ++ (sign n ∷ [])) → RightFront f → ((n : Bool) → right_head (h n) ≡ true)
    → Reached (signed f h t) (ts ++ (t ∷ []))
signs f h x t ts e w g p =
    choice P (same t equal)
    (λ k. (rw (e, same_eq t equal k, w false) (simp (append_assoc, append-nil)), g, p false, refl))
    (λ _. choice P (same t differ)
    (λ k. (rw (e, same_eq t differ k, w true) (simp (append_assoc, append-nil)), g, p true, refl))
    (λ _. tt))
  where
    P : State → Type 0
    P s = Reached s (ts ++ (t ∷ []))

front : (k t : Text) (ts : List Text) → ts ≡ k ∷ [] → t ≡ colon → ts ++ (t ∷ []) ≡ of_front (record { name = k; clauses = []; relations = [] })
unfolding of_front
front k t ts e g = rw (e, g)

-- one token more
pub reaches : (s : State) (ts : List Text) (t : Text) → Reached s ts → Reached (step s t) (ts ++ (t ∷ []))
reaches WantsName ts t r = choice (λ s. Reached s (ts ++ (t ∷ []))) (is_word t) (λ k. (rw r refl, k)) (λ _. tt)
reaches (WantsColon k) ts t r =
    choice (λ s. Reached s (ts ++ (t ∷ []))) (same t colon)
    (λ p. choice (λ s. Reached s (ts ++ (t ∷ []))) (same k other)
    (λ q. (rw (r.0, same_eq t colon p), q))
    (λ q. (front k t ts r.0 (same_eq t colon p), record { word = r.1; named = q; clauses = refl; relations = refl })))
    (λ _. tt)
reaches (WantsNothing k) ts t r = tt
reaches (WantsOperand f) ts t r =
    choice (λ s. Reached s (ts ++ (t ∷ []))) (is_operand t) (λ k. (rw r.0, r.1, k)) (λ _. tt)
reaches (HasOperand f o) ts t r =
    choice (λ s. Reached s (ts ++ (t ∷ []))) (same t percent)
    (λ k. (rw (r.0, same_eq t percent k) (simp append_assoc), r.1, r.2))
    (λ _. signs f (Plain o) (o ∷ []) t ts r.0 (λ n. refl) r.1 (λ n. r.2))
reaches (WantsModulus f o) ts t r =
    choice (λ s. Reached s (ts ++ (t ∷ []))) (is_number t) (λ k. (rw r.0 (simp append_assoc), r.1, r.2, k)) (λ _. tt)
reaches (HasModulus f o m) ts t r =
    signs f (Modulo o m) (o ∷ percent ∷ m ∷ []) t ts r.0 (λ n. refl) r.1 (λ n. both_in r.2 r.3)
reaches (WantsValue f h vs) ts t r =
    choice (λ s. Reached s (ts ++ (t ∷ []))) (is_number t) (λ k. (rw r.0 (simp append_assoc), r.1, r.2, r.3, k)) (λ _. tt)
reaches (HasValue f h vs a) ts t r =
    choice (λ s. Reached s (ts ++ (t ∷ []))) (same t dots)
    (λ k. (rw (r.0, same_eq t dots k) (simp append_assoc), r.1, r.2, r.3, r.4))
    (λ _. goes_on f h vs (One a) t ts r.0 r.1 r.2 r.3 r.4)
reaches (WantsUpper f h vs a) ts t r =
    choice (λ s. Reached s (ts ++ (t ∷ []))) (is_number t) (λ k. (rw r.0 (simp append_assoc), r.1, r.2, r.3, both_in r.4 k)) (λ _. tt)
reaches (HasUpper f h vs a b) ts t r = goes_on f h vs (Span a b) t ts r.0 r.1 r.2 r.3 r.4
reaches Dead ts t r = tt

-- any number of tokens more
pub arrives : (s : State) (ts us : List Text) → Reached s ts → Reached (steps s us) (ts ++ us)
arrives s ts [] r = rw append-nil r
arrives s ts (t ∷ us) r =
    rw (append_assoc ts (t ∷ []) us) at (arrives (step s t) (ts ++ (t ∷ [])) us (reaches s ts t r))

abbrev Told : List Text → Read → Type 0
Told ts (Whole r) = (ts ≡ of_rule r) × (right_rule r ≡ true)
Told ts Cut = Unit {0}

whole : (f : Front) (h : HeadTree) (vs : List RangeTree) (v : RangeTree) (ts : List Text)
    → ts ≡ of_front f ++ of_relation (Rel h vs v) → RightFront f → right_relation (Rel h vs v) ≡ true
    → Told ts (Whole (Named f.name f.clauses (Joined f.relations (Rel h vs v))))
unfolding of_front
whole f h vs v ts e g p = (
  e ∙ cons_2 f.name colon (append_assoc (each of_clause or f.clauses) (each of_relation and f.relations) (of_relation (Rel h vs v))),
  both_in g.word (both_in {a = not (same f.name other)} (ap not g.named) (both_in g.clauses (both_in g.relations p))),
)

told : (s : State) (ts : List Text) → Reached s ts → Told ts (ends s)
told WantsName ts r = tt
told (WantsColon k) ts r = tt
told (WantsNothing k) ts r = r
told (WantsOperand f) ts r = tt
told (HasOperand f o) ts r = tt
told (WantsModulus f o) ts r = tt
told (HasModulus f o m) ts r = tt
told (WantsValue f h vs) ts r = tt
told (HasValue f h vs a) ts r = whole f h vs (One a) ts r.0 r.1 (both_in r.2 (both_in r.3 r.4))
told (WantsUpper f h vs a) ts r = tt
told (HasUpper f h vs a b) ts r = whole f h vs (Span a b) ts r.0 r.1 (both_in r.2 (both_in r.3 r.4))
told Dead ts r = tt

-- SOUND: what is read as a rule is that rule's tokens, and the rule is right
pub sound : (ts : List Text) (r : RuleTree) → ends (steps WantsName ts) ≡ Whole r → (ts ≡ of_rule r) × (right_rule r ≡ true)
sound ts r e = rw e at (told (steps WantsName ts) ts (arrives WantsName [] ts refl))

pub told_rule : (s : State) (ts : List Text) (r : RuleTree) → ends s ≡ Whole r → Reached s ts → (ts ≡ of_rule r) × (right_rule r ≡ true)
told_rule s ts r e h = rw e at (told s ts h)
