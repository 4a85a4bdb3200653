-- A segment's rule and its faults do not depend on where it stands.
use mathlib.Core.Path.{◌≡◌, refl, sym, ap, ◌∙◌}
use mathlib.Core.Bool.{Bool, true, false, not}
use mathlib.Core.List.{List, [], ◌∷◌}
use Prim.Native.Nat.{ℕ, zero, suc, ◌+◌}
use native.Mathlib.Omega.{arith}
use lib.Dec.{eqb}
use lib.ListN.{length, take, drop}
use Rattle.std.specs.Prelude.{if◌then◌else◌}
use Rattle.decimal.specs.Choice.{both}
use Rattle.pack_token.specs.Spelling.{among}
use Rattle.pack_grammar.specs.Grammar.{Text, RuleTree}
use Rattle.pack_grammar.specs.WellFormed.{texts}
use Rattle.pack_grammar.specs.Segment.{words}
use Rattle.pack_grammar.specs.Steps.{State, step, steps, Read, ends}
use Rattle.pack_grammar.specs.Steps.State.{WantsName, WantsColon, WantsNothing, WantsOperand, HasOperand, WantsModulus, HasModulus, WantsValue, HasValue, WantsUpper, HasUpper, Dead}
use Rattle.pack_grammar.specs.Steps.Read.{Whole, Cut}
use Rattle.pack_token.specs.Token.{Token, tokens_for, tokens, piece_len, is_white}
use Rattle.pack_grammar.specs.Reader.{is_dead, Stop, at_end, stop, trouble, Fault, or_else, fault_in, again, keyword_in}
use Rattle.pack_grammar.specs.Reader.Stop.{Fine, Stuck}
use Rattle.pack_grammar.specs.Reader.Fault.{None, At}
use Rattle.decimal.proofs.Choices.{choice, both_in}
use Rattle.pack_token.proofs.Spellings.{both_0, both_1}
use Rattle.pack_grammar.proofs.Laws.{no_way}

texts_any : (k a b : ℕ) (s : Text) → texts (tokens_for k a s) ≡ texts (tokens_for k b s)
texts_any zero a b s = refl
texts_any (suc k) a b s = go (eqb (length s) 0) (is_white s) (tokens_for k (a + piece_len s) (drop (piece_len s) s)) (tokens_for k (b + piece_len s) (drop (piece_len s) s)) (texts_any k (a + piece_len s) (b + piece_len s) (drop (piece_len s) s))
  where
    go : (e w : Bool) (x y : List Token) → texts x ≡ texts y
        → texts (if e then [] else if w then x else record { at = a; text = take (piece_len s) s } ∷ x)
        ≡ texts (if e then [] else if w then y else record { at = b; text = take (piece_len s) s } ∷ y)
    go true w x y h = refl
    go false true x y h = h
    go false false x y h = ap (λ (l : List Text). take (piece_len s) s ∷ l) h

pub words_at : (a : ℕ) (x : Text) → texts (tokens a x) ≡ words x
words_at a x = texts_any (length x) a 0 x

pub dead_stays : (ts : List Text) → steps Dead ts ≡ Dead
dead_stays [] = refl
dead_stays (t ∷ ts) = dead_stays ts

pub dead_is : (s : State) → is_dead s ≡ true → s ≡ Dead
dead_is WantsName e = no_way (sym e)
dead_is (WantsColon k) e = no_way (sym e)
dead_is (WantsNothing k) e = no_way (sym e)
dead_is (WantsOperand f) e = no_way (sym e)
dead_is (HasOperand f o) e = no_way (sym e)
dead_is (WantsModulus f o) e = no_way (sym e)
dead_is (HasModulus f o m) e = no_way (sym e)
dead_is (WantsValue f h vs) e = no_way (sym e)
dead_is (HasValue f h vs a) e = no_way (sym e)
dead_is (WantsUpper f h vs a) e = no_way (sym e)
dead_is (HasUpper f h vs a b) e = no_way (sym e)
dead_is Dead e = refl

cut_whole : {A : Type 0} {r : RuleTree} → Cut ≡ Whole r → A
cut_whole e = absurd (let z : ◌≡◌ {A = ℕ} 0 1 = cc in omega arith)

stuck_fine : {A : Type 0} {p : ℕ} {r : RuleTree} → Stuck p ≡ Fine r → A
stuck_fine e = absurd (let z : ◌≡◌ {A = ℕ} 0 1 = cc in omega arith)

pub fine_whole : (s : State) (ts : List Token) (end : ℕ) (r : RuleTree) → stop s ts end ≡ Fine r → ends (steps s (texts ts)) ≡ Whole r
fine_whole s [] end r e = go (ends s) e
  where
    go : (x : Read) → at_end end x ≡ Fine r → x ≡ Whole r
    go (Whole q) e = cc
    go Cut e = stuck_fine e
fine_whole s (t ∷ ts) end r e = go (is_dead (step s t.text)) (fine_whole (step s t.text) ts end r) e
  where
    go : (d : Bool) {x : Stop} {y : Read} → (x ≡ Fine r → y ≡ Whole r) → (if d then Stuck t.at else x) ≡ Fine r → y ≡ Whole r
    go true f e = stuck_fine e
    go false f e = f e

pub whole_fine : (s : State) (ts : List Token) (end : ℕ) (r : RuleTree) → ends (steps s (texts ts)) ≡ Whole r → stop s ts end ≡ Fine r
whole_fine s [] end r e = rw e
whole_fine s (t ∷ ts) end r e = choice (λ x. x ≡ Fine r) (is_dead (step s t.text))
    (λ d. cut_whole (sym (ap (λ (x : State). ends (steps x (texts ts))) (dead_is (step s t.text) d) ∙ ap ends (dead_stays (texts ts))) ∙ e))
    (λ _. whole_fine (step s t.text) ts end r e)

-- no token has a fault
abbrev pub clean : State → List Text → Bool
clean s [] = true
clean s (t ∷ ts) = both (eqb (trouble s t) 0) (clean (step s t) ts)

at_none : {A : Type 0} {n p : ℕ} → At n p ≡ None → A
at_none e = absurd (let z : ◌≡◌ {A = ℕ} 0 1 = cc in omega arith)

pub or_0 : (f g : Fault) → or_else f g ≡ None → f ≡ None
or_0 None g e = refl
or_0 (At n p) g e = e

pub or_1 : (f g : Fault) → or_else f g ≡ None → g ≡ None
or_1 None g e = e
or_1 (At n p) g e = at_none e

pub none_clean : (s : State) (ts : List Token) → fault_in s ts ≡ None → clean s (texts ts) ≡ true
none_clean s [] e = refl
none_clean s (t ∷ ts) e =
    both_in (go (eqb n 0) (or_0 _ _ e)) (none_clean (step s t.text) ts (or_1 (if eqb n 0 then None else At n t.at) _ e))
  where
    n : ℕ
    n = trouble s t.text

    go : (b : Bool) → (if b then None else At n t.at) ≡ None → b ≡ true
    go true e = refl
    go false e = at_none e

pub clean_none : (s : State) (ts : List Token) → clean s (texts ts) ≡ true → fault_in s ts ≡ None
clean_none s [] e = refl
clean_none s (t ∷ ts) e =
    let p = both_0 (eqb (trouble s t.text) 0) (clean (step s t.text) (texts ts)) e in
    let q = clean_none (step s t.text) ts (both_1 (eqb (trouble s t.text) 0) (clean (step s t.text) (texts ts)) e) in
    rw (p, q)

-- a segment's keyword
abbrev pub first_of : List Text → Text
first_of [] = []
first_of (t ∷ ts) = t

pub keyword_first : (ts : List Token) → keyword_in ts ≡ first_of (texts ts)
keyword_first [] = refl
keyword_first (t ∷ ts) = refl

-- not empty, and new
abbrev pub fresh : List Text → List Text → Bool
fresh used [] = true
fresh used (t ∷ ts) = not (among t used)

pub again_fresh : (used : List Text) (ts : List Token) → again used ts ≡ None → fresh used (texts ts) ≡ true
again_fresh used [] e = refl
again_fresh used (t ∷ ts) e = go (among t.text used) e
  where
    go : (b : Bool) → (if b then At 25 t.at else None) ≡ None → not b ≡ true
    go true e = at_none e
    go false e = refl

pub fresh_again : (used : List Text) (ts : List Token) → fresh used (texts ts) ≡ true → again used ts ≡ None
fresh_again used [] e = refl
fresh_again used (t ∷ ts) e = go (among t.text used) e
  where
    go : (b : Bool) → not b ≡ true → (if b then At 25 t.at else None) ≡ None
    go true e = no_way (sym e)
    go false e = refl
