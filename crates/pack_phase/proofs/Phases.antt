-- The phases go with the grammar's states: the phase of a state, and of the state behind a token, `;` among the tokens.
use mathlib.Core.Path.{◌≡◌, refl, sym, ap, ◌∙◌}
use mathlib.Core.Bool.{Bool, true, false}
use mathlib.Core.List.{List, []}
use Rattle.std.specs.Prelude.{if◌then◌else◌}
use Rattle.pack_token.specs.Spelling.{same}
use Rattle.pack_token.specs.Token.{dots, differ}
use Rattle.pack_token.proofs.Spellings.{same_eq}
use Rattle.pack_grammar.specs.Grammar.{Text, RangeTree, HeadTree, RuleTree, colon, semi, comma, percent, equal, and, or, other, is_word, is_number, is_operand}
use Rattle.pack_grammar.specs.Grammar.RangeTree.{One, Span}
use Rattle.pack_grammar.specs.Grammar.HeadTree.{Plain, Modulo}
use Rattle.pack_grammar.specs.Steps.{Front, State, step, go_on, signed, ends}
use Rattle.pack_grammar.specs.Steps.State.{WantsName, WantsColon, WantsNothing, WantsOperand, HasOperand, WantsModulus, HasModulus, WantsValue, HasValue, WantsUpper, HasUpper, Dead as Died}
use Rattle.pack_grammar.proofs.Viable.{Far, closed, onward}
use Rattle.pack_phase.specs.Next.{next_phase, after_sign, after_relation}
use Rattle.pack_phase.specs.declared.Phase.{Phase}
use Rattle.pack_phase.specs.declared.Phase.TheVariants.{Name, Colon, Nothing, Operand, ModulusOrSign, Modulus, Sign, Value, DotsOrMore, Upper, More, Dead}

abbrev pub phase_of : State → Phase
phase_of WantsName = Name
phase_of (WantsColon k) = Colon
phase_of (WantsNothing k) = Nothing
phase_of (WantsOperand f) = Operand
phase_of (HasOperand f o) = ModulusOrSign
phase_of (WantsModulus f o) = Modulus
phase_of (HasModulus f o m) = Sign
phase_of (WantsValue f h vs) = Value
phase_of (HasValue f h vs a) = DotsOrMore
phase_of (WantsUpper f h vs a) = Upper
phase_of (HasUpper f h vs a b) = More
phase_of Died = Dead

-- what is known of the flag: behind a keyword it says whether that is `other`
abbrev pub Flag : State → Bool → Type 0
Flag WantsName x = Unit {0}
Flag (WantsColon k) x = x ≡ same k other
Flag (WantsNothing k) x = Unit {0}
Flag (WantsOperand f) x = Unit {0}
Flag (HasOperand f o) x = Unit {0}
Flag (WantsModulus f o) x = Unit {0}
Flag (HasModulus f o m) x = Unit {0}
Flag (WantsValue f h vs) x = Unit {0}
Flag (HasValue f h vs a) x = Unit {0}
Flag (WantsUpper f h vs a) x = Unit {0}
Flag (HasUpper f h vs a b) x = Unit {0}
Flag Died x = Unit {0}

-- a function of a test's answer
on_if : {A B : Type 0} (f : A → B) (b : Bool) (x y : A) → f (if b then x else y) ≡ (if b then f x else f y)
on_if f true x y = refl
on_if f false x y = refl

goes : (f : Front) (h : HeadTree) (vs : List RangeTree) (v : RangeTree) (t : Text) → same t semi ≡ false → phase_of (go_on f h vs v t) ≡ after_relation t
goes f h vs v t n = rw n (go (same t comma) (same t and) (same t or) _ _ _)
  where
    go : (a b c : Bool) (x y z : State)
        → phase_of (if a then x else if b then y else if c then z else Died) ≡ (if a then phase_of x else if b then phase_of y else if c then phase_of z else Dead)
    go true b c x y z = refl
    go false true c x y z = refl
    go false false true x y z = refl
    go false false false x y z = refl

signs : (f : Front) (h : Bool → HeadTree) (t : Text) → phase_of (signed f h t) ≡ after_sign t
signs f h t = go (same t equal) (same t differ) _ _
  where
    go : (a b : Bool) (x y : State) → phase_of (if a then x else if b then y else Died) ≡ (if a then phase_of x else if b then phase_of y else Dead)
    go true b x y = refl
    go false true x y = refl
    go false false x y = refl

-- a token that is not `;`
phase_step : (s : State) (x : Bool) (t : Text) → Flag s x → same t semi ≡ false → phase_of (step s t) ≡ next_phase (phase_of s) x t
phase_step WantsName x t h n = on_if phase_of (is_word t) (WantsColon t) Died
phase_step (WantsColon k) x t h n =
    on_if phase_of (same t colon) (if same k other then WantsNothing k else WantsOperand (record { name = k; clauses = []; relations = [] })) Died
    ∙ ap (λ (p : Phase). if same t colon then p else Dead) (on_if phase_of (same k other) (WantsNothing k) (WantsOperand (record { name = k; clauses = []; relations = [] })))
    ∙ rw h refl
phase_step (WantsNothing k) x t h n = rw n refl
phase_step (WantsOperand f) x t h n = on_if phase_of (is_operand t) (HasOperand f t) Died
phase_step (HasOperand f o) x t h n =
    on_if phase_of (same t percent) (WantsModulus f o) (signed f (Plain o) t) ∙ ap (λ (p : Phase). if same t percent then Modulus else p) (signs f (Plain o) t)
phase_step (WantsModulus f o) x t h n = on_if phase_of (is_number t) (HasModulus f o t) Died
phase_step (HasModulus f o m) x t h n = signs f (Modulo o m) t
phase_step (WantsValue f g vs) x t h n = on_if phase_of (is_number t) (HasValue f g vs t) Died
phase_step (HasValue f g vs a) x t h n =
    on_if phase_of (same t dots) (WantsUpper f g vs a) (go_on f g vs (One a) t) ∙ ap (λ (p : Phase). if same t dots then Upper else p) (goes f g vs (One a) t n)
phase_step (WantsUpper f g vs a) x t h n = on_if phase_of (is_number t) (HasUpper f g vs a t) Died
phase_step (HasUpper f g vs a b) x t h n = goes f g vs (Span a b) t n
phase_step Died x t h n = refl

phase_semi : (d : List RuleTree) (s : State) (x : Bool) → phase_of (closed d (ends s)).state ≡ next_phase (phase_of s) x semi
phase_semi d WantsName x = refl
phase_semi d (WantsColon k) x = refl
phase_semi d (WantsNothing k) x = refl
phase_semi d (WantsOperand f) x = refl
phase_semi d (HasOperand f o) x = refl
phase_semi d (WantsModulus f o) x = refl
phase_semi d (HasModulus f o m) x = refl
phase_semi d (WantsValue f h vs) x = refl
phase_semi d (HasValue f h vs a) x = refl
phase_semi d (WantsUpper f h vs a) x = refl
phase_semi d (HasUpper f h vs a b) x = refl
phase_semi d Died x = refl

-- PHASE: the phase behind a token is that of the state behind it
pub phase_on : (p : Far) (x : Bool) (t : Text) → Flag p.state x → phase_of (onward p t).state ≡ next_phase (phase_of p.state) x t
phase_on p x t h = go (same t semi) refl
  where
    go : (b : Bool) → same t semi ≡ b
        → phase_of (if b then closed p.rules (ends p.state) else record { rules = p.rules; state = step p.state t }).state ≡ next_phase (phase_of p.state) x t
    go true k = phase_semi p.rules p.state x ∙ ap (next_phase (phase_of p.state) x) (sym (same_eq t semi k))
    go false k = phase_step p.state x t h k
