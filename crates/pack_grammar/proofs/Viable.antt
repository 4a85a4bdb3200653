-- The place of refusal 21: no well-formed pack begins with the tokens up to and including the one there, and some does with those before it.
use mathlib.Core.Path.{◌≡◌, refl, sym, ap, ◌∙◌}
use mathlib.Core.Bool.{Bool, true, false, not}
use mathlib.Core.List.{List, [], ◌∷◌, ◌++◌, append_assoc, append-nil}
use mathlib.Core.Logic.{◌⊎◌, inl, inr}
use Prim.Native.Nat.{ℕ, zero, suc, ◌+◌}
use native.Mathlib.Omega.{arith}
use lib.Dec.{eqb}
use lib.ListN.{length, take, drop}
use Rattle.decimal.specs.Split.{on_first}
use Rattle.std.specs.Prelude.{if◌then◌else◌}
use Rattle.pack_token.specs.Spelling.{same}
use Rattle.pack_grammar.specs.Grammar.{Text, colon, semi, equal, other, RuleTree, PackTree, each, of_rule, right_rule, of_pack, right_pack}
use Rattle.pack_token.specs.Token.{Token, tokens_for, tokens, piece_len, is_white}
use Rattle.pack_grammar.specs.WellFormed.{texts, WellFormed, Begins}
use Rattle.pack_grammar.specs.Grammar.PackTree.{Parted}
use Rattle.pack_grammar.specs.Steps.{State, step, steps, Read, ends}
use Rattle.pack_grammar.specs.Steps.State.{WantsName, WantsColon, WantsNothing, WantsOperand, HasOperand, WantsModulus, HasModulus, WantsValue, HasValue, WantsUpper, HasUpper, Dead}
use Rattle.pack_grammar.specs.Steps.Read.{Whole, Cut}
use Rattle.pack_grammar.specs.Reader.{segments, is_dead, Stop, at_end, stop, Parsed, and_then, rules_from}
use Rattle.pack_grammar.specs.Reader.Stop.{Fine, Stuck}
use Rattle.pack_grammar.specs.Reader.Parsed.{Trees, Bad}
use Rattle.pack_token.proofs.Spellings.{both_0, both_1, same_eq}
use Rattle.pack_grammar.proofs.Laws.{no_way, each_snoc, all_snoc}
use Rattle.pack_grammar.proofs.Sound.{Reached, reaches, arrives, told_rule}
use Rattle.pack_grammar.proofs.Complete.{complete}
use Rattle.pack_grammar.proofs.Places.{dead_stays, dead_is}
use Rattle.decimal.proofs.Choices.{both_in}
use Rattle.decimal.specs.Lists.{all}

-- A whole pack read token by token: the rules that are whole, and the state in the one being read.
pub record Far : Type 0 where
  pub rules : List RuleTree
  pub state : State

abbrev pub closed : List RuleTree → Read → Far
closed d (Whole r) = record { rules = d ++ (r ∷ []); state = WantsName }
closed d Cut = record { rules = d; state = Dead }

abbrev pub onward : Far → Text → Far
onward p t = if same t semi then closed p.rules (ends p.state) else record { rules = p.rules; state = step p.state t }

abbrev pub far : Far → List Text → Far
far p [] = p
far p (t ∷ ts) = far (onward p t) ts

abbrev pub outset : Far
outset = record { rules = []; state = WantsName }

pub far_append : (p : Far) (a b : List Text) → far p (a ++ b) ≡ far (far p a) b
far_append p [] b = refl
far_append p (t ∷ a) b = far_append (onward p t) a b

-- Sound: what has been read is whole rules, each with `;` after it, and what the state says
abbrev pub Been : Far → List Text → Type 0
Been p us = (ts : List Text) × (us ≡ each of_rule semi p.rules ++ ts) × Reached p.state ts × (all right_rule p.rules ≡ true)

been_on : (p : Far) (us : List Text) (t : Text) → is_dead (onward p t).state ≡ false → Been p us → Been (onward p t) (us ++ (t ∷ []))
been_on p us t alive b = go (same t semi) refl alive
  where
    close : (r : Read) → ends p.state ≡ r → t ≡ semi → is_dead (closed p.rules r).state ≡ false → Been (closed p.rules r) (us ++ (t ∷ []))
    close (Whole r) e k a =
        let w = told_rule p.state b.0 r e b.2 in
        ([], rw (b.1, k, w.0, each_snoc of_rule semi p.rules r) (simp (append_assoc, append-nil)), refl, all_snoc right_rule p.rules r b.3 w.1)
    close Cut e k a = no_way a

    go : (x : Bool) → same t semi ≡ x → is_dead (if x then closed p.rules (ends p.state) else record { rules = p.rules; state = step p.state t }).state ≡ false
        → Been (if x then closed p.rules (ends p.state) else record { rules = p.rules; state = step p.state t }) (us ++ (t ∷ []))
    go true k a = close (ends p.state) refl (same_eq t semi k) a
    go false k a = (b.0 ++ (t ∷ []), rw b.1 (simp append_assoc), reaches p.state b.0 t b.2, b.3)

-- Dead is for ever
dead_on : (d : List RuleTree) (t : Text) → onward (record { rules = d; state = Dead }) t ≡ record { rules = d; state = Dead }
dead_on d t = go (same t semi)
  where
    go : (x : Bool) → (if x then closed d Cut else record { rules = d; state = Dead }) ≡ record { rules = d; state = Dead }
    go true = refl
    go false = refl

far_dead : (d : List RuleTree) (ts : List Text) → far (record { rules = d; state = Dead }) ts ≡ record { rules = d; state = Dead }
far_dead d [] = refl
far_dead d (t ∷ ts) = ap (λ (p : Far). far p ts) (dead_on d t) ∙ far_dead d ts

dead_far : (p : Far) (ts : List Text) → is_dead p.state ≡ true → is_dead (far p ts).state ≡ true
dead_far p ts e =
    let k : p ≡ record { rules = p.rules; state = Dead } = ap (λ (s : State). record { rules = p.rules; state = s }) (dead_is p.state e) in
    ap (λ (q : Far). is_dead (far q ts).state) k ∙ ap (λ (q : Far). is_dead q.state) (far_dead p.rules ts)

pub alive_before : (p : Far) (ts : List Text) → is_dead (far p ts).state ≡ false → is_dead p.state ≡ false
alive_before p ts e = go (is_dead p.state) refl
  where
    go : (x : Bool) → is_dead p.state ≡ x → x ≡ false
    go true k = sym (dead_far p ts k) ∙ e
    go false k = refl

pub been : (p : Far) (us ts : List Text) → is_dead (far p ts).state ≡ false → Been p us → Been (far p ts) (us ++ ts)
been p us [] e b = rw append-nil b
been p us (t ∷ ts) e b =
    rw (append_assoc us (t ∷ []) ts) at (been (onward p t) (us ++ (t ∷ [])) ts e (been_on p us t (alive_before (onward p t) ts e) b))

-- from every state but Dead the rule can be ended
abbrev number : Text
number = 49 ∷ []

abbrev letter : Text
letter = 110 ∷ []

abbrev pub ending : State → List Text
ending WantsName = other ∷ colon ∷ []
ending (WantsColon k) = if same k other then colon ∷ [] else colon ∷ letter ∷ equal ∷ number ∷ []
ending (WantsNothing k) = []
ending (WantsOperand f) = letter ∷ equal ∷ number ∷ []
ending (HasOperand f o) = equal ∷ number ∷ []
ending (WantsModulus f o) = number ∷ equal ∷ number ∷ []
ending (HasModulus f o m) = equal ∷ number ∷ []
ending (WantsValue f h vs) = number ∷ []
ending (HasValue f h vs a) = []
ending (WantsUpper f h vs a) = number ∷ []
ending (HasUpper f h vs a b) = []
ending Dead = []

abbrev is_whole : Read → Bool
is_whole (Whole r) = true
is_whole Cut = false

can_end : (s : State) → is_dead s ≡ false → is_whole (ends (steps s (ending s))) ≡ true
can_end WantsName e = refl
can_end (WantsColon k) e = go (same k other) refl
  where
    go : (x : Bool) → same k other ≡ x → is_whole (ends (steps (WantsColon k) (if x then colon ∷ [] else colon ∷ letter ∷ equal ∷ number ∷ []))) ≡ true
    go true q = rw q
    go false q = rw q
can_end (WantsNothing k) e = refl
can_end (WantsOperand f) e = refl
can_end (HasOperand f o) e = refl
can_end (WantsModulus f o) e = refl
can_end (HasModulus f o m) e = refl
can_end (WantsValue f h vs) e = refl
can_end (HasValue f h vs a) e = refl
can_end (WantsUpper f h vs a) e = refl
can_end (HasUpper f h vs a b) e = refl
can_end Dead e = no_way e

some_rule : (x : Read) → is_whole x ≡ true → (r : RuleTree) × (x ≡ Whole r)
some_rule (Whole r) e = (r, refl)
some_rule Cut e = no_way (sym e)

-- tokens that are read and leave the state alive, and what ends the rule being read, are a well-formed pack
pub viable_by : (us : List Text) → is_dead (far outset us).state ≡ false → WellFormed (us ++ ending (far outset us).state)
viable_by us e =
    let p = far outset us in
    let b = been outset [] us e ([], refl, refl, refl) in
    let s = p.state in
    let c = some_rule (ends (steps s (ending s))) (can_end s e) in
    let w = told_rule (steps s (ending s)) (b.0 ++ ending s) c.0 c.1 (arrives s b.0 (ending s) b.2) in (
      Parted p.rules c.0,
      both_in b.3 w.1,
      ap (λ (l : List Text). l ++ ending s) b.1 ∙ append_assoc (each of_rule semi p.rules) b.0 (ending s) ∙ ap (λ (l : List Text). each of_rule semi p.rules ++ l) w.0,
    )

-- some pack begins with tokens that are read and leave the state alive
pub viable : (us : List Text) → is_dead (far outset us).state ≡ false → Begins us
viable us e = (ending (far outset us).state, viable_by us e)

-- Complete
semi_dead : (s : State) → step s semi ≡ Dead
semi_dead WantsName = refl
semi_dead (WantsColon k) = refl
semi_dead (WantsNothing k) = refl
semi_dead (WantsOperand f) = refl
semi_dead (HasOperand f o) = refl
semi_dead (WantsModulus f o) = refl
semi_dead (HasModulus f o m) = refl
semi_dead (WantsValue f h vs) = refl
semi_dead (HasValue f h vs a) = refl
semi_dead (WantsUpper f h vs a) = refl
semi_dead (HasUpper f h vs a b) = refl
semi_dead Dead = refl

pub far_rule : (d : List RuleTree) (s : State) (us : List Text) → is_dead (steps s us) ≡ false → far (record { rules = d; state = s }) us ≡ record { rules = d; state = steps s us }
far_rule d s [] e = refl
far_rule d s (t ∷ us) e = ap (λ (p : Far). far p us) (go (same t semi) refl) ∙ far_rule d (step s t) us e
  where
    go : (x : Bool) → same t semi ≡ x → (if x then closed d (ends s) else record { rules = d; state = step s t }) ≡ record { rules = d; state = step s t }
    go true k = no_way (sym (ap is_dead (ap (λ (z : State). steps z us) (ap (step s) (same_eq t semi k) ∙ semi_dead s) ∙ dead_stays us)) ∙ e)
    go false k = refl

pub whole_alive : (s : State) (r : RuleTree) → ends s ≡ Whole r → is_dead s ≡ false
whole_alive s r e = go (is_dead s) refl
  where
    go : (x : Bool) → is_dead s ≡ x → x ≡ false
    go true k = sym (ap is_whole (sym (ap ends (dead_is s k)) ∙ e))
    go false k = refl

far_pack : (d rs : List RuleTree) (r : RuleTree) → all right_rule rs ≡ true → right_rule r ≡ true
    → ends (far (record { rules = d; state = WantsName }) (each of_rule semi rs ++ of_rule r)).state ≡ Whole r
far_pack d [] r g h =
    let c = complete r h in
    ap (λ (p : Far). ends p.state) (far_rule d WantsName (of_rule r) (whole_alive (steps WantsName (of_rule r)) r c)) ∙ c
far_pack d (q ∷ rs) r g h =
    let c = complete q (both_0 (right_rule q) (all right_rule rs) g) in
    let x = each of_rule semi rs ++ of_rule r in
    let k = far_rule d WantsName (of_rule q) (whole_alive (steps WantsName (of_rule q)) q c) in
    let z : Far = record { rules = d; state = WantsName } in
    ap (λ (l : List Text). ends (far z l).state) (append_assoc (of_rule q) (semi ∷ each of_rule semi rs) (of_rule r))
    ∙ ap (λ (p : Far). ends p.state) (far_append z (of_rule q) (semi ∷ x))
    ∙ ap (λ (p : Far). ends (far (onward p semi) x).state) k
    ∙ ap (λ (y : Read). ends (far (closed d y) x).state) c
    ∙ far_pack (d ++ (q ∷ [])) rs r (both_1 (right_rule q) (all right_rule rs) g) h

-- no pack begins with tokens that leave the state dead
right_alive : (p : PackTree) → right_pack p ≡ true → is_dead (far outset (of_pack p)).state ≡ false
right_alive (Parted rs r) g =
    whole_alive (far outset (of_pack (Parted rs r))).state r
    (far_pack [] rs r (both_0 (all right_rule rs) (right_rule r) g) (both_1 (all right_rule rs) (right_rule r) g))

right_ends : (p : PackTree) → right_pack p ≡ true → is_whole (ends (far outset (of_pack p)).state) ≡ true
right_ends (Parted rs r) g = ap is_whole (far_pack [] rs r (both_0 (all right_rule rs) (right_rule r) g) (both_1 (all right_rule rs) (right_rule r) g))

true_false : true ≡ false → ⊥
true_false e = no_way e

pub never : (us : List Text) → is_dead (far outset us).state ≡ true → Begins us → ⊥
never us e b =
    let w = b.1 in
    true_false
    (sym (dead_far (far outset us) b.0 e) ∙ ap (λ (p : Far). is_dead p.state) (sym (far_append outset us b.0))
    ∙ ap (λ (l : List Text). is_dead (far outset l).state) w.2 ∙ right_alive w.0 w.1)

pub not_ended : (us : List Text) → ends (far outset us).state ≡ Cut → WellFormed us → ⊥
not_ended us e w = true_false (sym (right_ends w.0 w.1) ∙ ap (λ (l : List Text). is_whole (ends (far outset l).state)) (sym w.2) ∙ ap is_whole e)

-- The reader, on the tokens of the whole pack
abbrev pub pack_tokens : ℕ → Text → List Text → List Token
pack_tokens at x [] = tokens at x
pack_tokens at x (y ∷ ys) = tokens at x ++ (record { at = at + length x; text = semi } ∷ pack_tokens (suc (at + length x)) y ys)

abbrev pub pack_end : ℕ → Text → List Text → ℕ
pack_end at x [] = at + length x
pack_end at x (y ∷ ys) = pack_end (suc (at + length x)) y ys

abbrev pub last : List RuleTree → ℕ → Read → Parsed
last d end (Whole r) = Trees (d ++ (r ∷ []))
last d end Cut = Bad end

abbrev pub halt : Far → List Token → ℕ → Parsed
halt p [] end = last p.rules end (ends p.state)
halt p (t ∷ ts) end = if is_dead (onward p t.text).state then Bad t.at else halt (onward p t.text) ts end

-- where it halts
pub record There (p : Far) (ts : List Token) (a : ℕ) : Type 0 where
  pub before : List Token
  pub token : Token
  pub after : List Token
  pub is : ts ≡ before ++ (token ∷ after)
  pub place : token.at ≡ a
  pub alive : is_dead (far p (texts before)).state ≡ false
  pub dead : is_dead (far p (texts before ++ (token.text ∷ []))).state ≡ true

pub record AtEnd (p : Far) (ts : List Token) (end a : ℕ) : Type 0 where
  pub place : a ≡ end
  pub alive : is_dead (far p (texts ts)).state ≡ false
  pub cut : ends (far p (texts ts)).state ≡ Cut

bad_eq : {a b : ℕ} → Bad a ≡ Bad b → a ≡ b
bad_eq e = cc

pub halts : (p : Far) (ts : List Token) (end a : ℕ) → is_dead p.state ≡ false → halt p ts end ≡ Bad a → There p ts a ⊎ AtEnd p ts end a
halts p [] end a v e = go (ends p.state) refl e
  where
    go : (x : Read) → ends p.state ≡ x → last p.rules end x ≡ Bad a → There p [] a ⊎ AtEnd p [] end a
    go (Whole r) k e = absurd (let z : ◌≡◌ {A = ℕ} 0 1 = cc in omega arith)
    go Cut k e = inr (record { place = sym (bad_eq e); alive = v; cut = k })
halts p (t ∷ ts) end a v e = go (is_dead (onward p t.text).state) refl e (halts (onward p t.text) ts end a)
  where
    later : There (onward p t.text) ts a ⊎ AtEnd (onward p t.text) ts end a → There p (t ∷ ts) a ⊎ AtEnd p (t ∷ ts) end a
    later (inl w) = inl (record { before = t ∷ w.before; token = w.token; after = w.after; is = ap (λ (l : List Token). t ∷ l) w.is; place = w.place; alive = w.alive; dead = w.dead })
    later (inr w) = inr (record { place = w.place; alive = w.alive; cut = w.cut })

    go : (x : Bool) → is_dead (onward p t.text).state ≡ x → (if x then Bad t.at else halt (onward p t.text) ts end) ≡ Bad a
        → (is_dead (onward p t.text).state ≡ false → halt (onward p t.text) ts end ≡ Bad a → There (onward p t.text) ts a ⊎ AtEnd (onward p t.text) ts end a)
        → There p (t ∷ ts) a ⊎ AtEnd p (t ∷ ts) end a
    go true k e f = inl (record { before = []; token = t; after = ts; is = refl; place = bad_eq e; alive = v; dead = k })
    go false k e f = later (f k e)

-- The segments are read as the whole pack is

-- the byte `;` does not stand in it
abbrev pub plain : Text → Bool
plain x = all (λ (b : ℕ). not (eqb b 59)) x

unfoldable pub no_semi : List Token → Bool
no_semi ts = all (λ (t : Token). not (same t.text semi)) ts

not_true : (b : Bool) → not b ≡ true → b ≡ false
not_true true e = sym e
not_true false e = refl

-- no part of a text without `;` is `;`
part_not_semi : (n : ℕ) (s : Text) → plain s ≡ true → same (take n s) semi ≡ false
part_not_semi zero s e = refl
part_not_semi (suc n) [] e = refl
part_not_semi (suc n) (b ∷ s) e = rw (not_true (eqb b 59) (both_0 (not (eqb b 59)) (plain s) e))

plain_drop : (n : ℕ) (s : Text) → plain s ≡ true → plain (drop n s) ≡ true
plain_drop zero s e = e
plain_drop (suc n) [] e = refl
plain_drop (suc n) (b ∷ s) e = plain_drop n s (both_1 (not (eqb b 59)) (plain s) e)

pub no_semi_law : (k a : ℕ) (s : Text) → plain s ≡ true → no_semi (tokens_for k a s) ≡ true
unfolding no_semi
no_semi_law zero a s e = refl
no_semi_law (suc k) a s e =
    let n = piece_len s in
    go (eqb (length s) 0) (is_white s) (tokens_for k (a + n) (drop n s)) (no_semi_law k (a + n) (drop n s) (plain_drop n s e))
  where
    go : (x w : Bool) (ts : List Token) → no_semi ts ≡ true
        → no_semi (if x then [] else if w then ts else record { at = a; text = take (piece_len s) s } ∷ ts) ≡ true
    go true w ts h = refl
    go false true ts h = h
    go false false ts h = both_in {a = not (same (take (piece_len s) s) semi)} (ap not (part_not_semi (piece_len s) s e)) h

abbrev lastly : List RuleTree → Stop → Parsed
lastly d (Fine r) = Trees (d ++ (r ∷ []))
lastly d (Stuck a) = Bad a

halt_last : (d : List RuleTree) (s : State) (ts : List Token) (end : ℕ) → no_semi ts ≡ true → halt (record { rules = d; state = s }) ts end ≡ lastly d (stop s ts end)
unfolding no_semi
halt_last d s [] end n = go (ends s)
  where
    go : (x : Read) → last d end x ≡ lastly d (at_end end x)
    go (Whole r) = refl
    go Cut = refl
halt_last d s (t ∷ ts) end n =
    rw (not_true (same t.text semi) (both_0 (not (same t.text semi)) (no_semi ts) n))
    (go (is_dead (step s t.text)) (stop (step s t.text) ts end) (halt_last d (step s t.text) ts end (both_1 (not (same t.text semi)) (no_semi ts) n)))
  where
    go : (x : Bool) (q : Stop) {p : Parsed} → p ≡ lastly d q → (if x then Bad t.at else p) ≡ lastly d (if x then Stuck t.at else q)
    go true q h = refl
    go false q h = h

abbrev goes_on : List RuleTree → List Token → ℕ → Stop → Parsed
goes_on d us end (Fine r) = halt (record { rules = d ++ (r ∷ []); state = WantsName }) us end
goes_on d us end (Stuck a) = Bad a

halt_more : (d : List RuleTree) (s : State) (ts us : List Token) (e end : ℕ) → no_semi ts ≡ true
    → halt (record { rules = d; state = s }) (ts ++ (record { at = e; text = semi } ∷ us)) end ≡ goes_on d us end (stop s ts e)
unfolding no_semi
halt_more d s [] us e end n = go (ends s)
  where
    go : (x : Read) → (if is_dead (closed d x).state then Bad e else halt (closed d x) us end) ≡ goes_on d us end (at_end e x)
    go (Whole r) = refl
    go Cut = refl
halt_more d s (t ∷ ts) us e end n =
    rw (not_true (same t.text semi) (both_0 (not (same t.text semi)) (no_semi ts) n))
    (go (is_dead (step s t.text)) (stop (step s t.text) ts e) (halt_more d (step s t.text) ts us e end (both_1 (not (same t.text semi)) (no_semi ts) n)))
  where
    go : (x : Bool) (q : Stop) {p : Parsed} → p ≡ goes_on d us end q → (if x then Bad t.at else p) ≡ goes_on d us end (if x then Stuck t.at else q)
    go true q h = refl
    go false q h = h

abbrev pub behind : List RuleTree → Parsed → Parsed
behind d (Trees rs) = Trees (d ++ rs)
behind d (Bad a) = Bad a

pub same_halt : (d : List RuleTree) (at : ℕ) (x : Text) (xs : List Text) → all plain (x ∷ xs) ≡ true
    → halt (record { rules = d; state = WantsName }) (pack_tokens at x xs) (pack_end at x xs) ≡ behind d (rules_from at (x ∷ xs))
same_halt d at x [] g =
    halt_last d WantsName (tokens at x) (at + length x) (no_semi_law (length x) at x (both_0 (plain x) true g)) ∙ go (stop WantsName (tokens at x) (at + length x))
  where
    go : (s : Stop) → lastly d s ≡ behind d (and_then s (Trees []))
    go (Fine r) = refl
    go (Stuck a) = refl
same_halt d at x (y ∷ ys) g =
    halt_more d WantsName (tokens at x) (pack_tokens (suc (at + length x)) y ys) (at + length x) (pack_end (suc (at + length x)) y ys) (no_semi_law (length x) at x (both_0 (plain x) (all plain (y ∷ ys)) g))
    ∙ go (stop WantsName (tokens at x) (at + length x)) (λ r. same_halt (d ++ (r ∷ [])) (suc (at + length x)) y ys (both_1 (plain x) (all plain (y ∷ ys)) g))
  where
    us : List Token
    us = pack_tokens (suc (at + length x)) y ys

    end : ℕ
    end = pack_end (suc (at + length x)) y ys

    tail : Parsed
    tail = rules_from (suc (at + length x)) (y ∷ ys)

    more : (r : RuleTree) (p : Parsed) → behind (d ++ (r ∷ [])) p ≡ behind d (and_then (Fine r) p)
    more r (Trees rs) = ap Trees (append_assoc d (r ∷ []) rs)
    more r (Bad a) = refl

    go : (s : Stop) → ((r : RuleTree) → halt (record { rules = d ++ (r ∷ []); state = WantsName }) us end ≡ behind (d ++ (r ∷ [])) tail) → goes_on d us end s ≡ behind d (and_then s tail)
    go (Fine r) h = h r ∙ more r tail
    go (Stuck a) h = refl

-- The same of a text: its segments hold no `;`, and the last ends where the text does.
pub plain_segments : (s : Text) → all plain (segments s) ≡ true
plain_segments [] = refl
plain_segments (b ∷ s) = go (eqb b 59) refl (segments s) (plain_segments s)
  where
    go : (x : Bool) → eqb b 59 ≡ x → (l : List Text) → all plain l ≡ true → all plain (if x then [] ∷ l else on_first b l) ≡ true
    go true e l h = h
    go false e [] h = both_in (both_in {a = not (eqb b 59)} (ap not e) refl) refl
    go false e (y ∷ ys) h =
        both_in (both_in {a = not (eqb b 59)} (ap not e) (both_0 (plain y) (all plain ys) h)) (both_1 (plain y) (all plain ys) h)

-- the first segment, and the others
abbrev pub first_of : List Text → Text
first_of [] = []
first_of (x ∷ xs) = x

abbrev pub others_of : List Text → List Text
others_of [] = []
others_of (x ∷ xs) = xs

pub some_segments : (s : Text) → segments s ≡ first_of (segments s) ∷ others_of (segments s)
some_segments [] = refl
some_segments (b ∷ s) = go (eqb b 59) (segments s)
  where
    same_list : (x : Text) (xs : List Text) → (x ∷ xs) ≡ first_of (x ∷ xs) ∷ others_of (x ∷ xs)
    same_list x xs = refl

    go : (x : Bool) (l : List Text) → (if x then [] ∷ l else on_first b l) ≡ first_of (if x then [] ∷ l else on_first b l) ∷ others_of (if x then [] ∷ l else on_first b l)
    go true l = refl
    go false [] = refl
    go false (y ∷ ys) = refl

end_suc : (a : ℕ) (b : ℕ) (x : Text) (xs : List Text) → pack_end (a + 1) x xs ≡ pack_end a (b ∷ x) xs
end_suc a b x [] = omega arith
end_suc a b x (y ∷ ys) = ap (λ (n : ℕ). pack_end n y ys) (omega arith)

pub end_is : (a : ℕ) (s : Text) → pack_end a (first_of (segments s)) (others_of (segments s)) ≡ a + length s
end_is a [] = refl
end_is a (b ∷ s) = go (eqb b 59) (segments s) (some_segments s) (end_is (a + 1) s)
  where
    go : (x : Bool) (l : List Text) → l ≡ first_of l ∷ others_of l → pack_end (a + 1) (first_of l) (others_of l) ≡ (a + 1) + length s
        → pack_end a (first_of (if x then [] ∷ l else on_first b l)) (others_of (if x then [] ∷ l else on_first b l)) ≡ a + suc (length s)
    go true [] e h = absurd (let z : ◌≡◌ {A = ℕ} 0 1 = cc in omega arith)
    go true (y ∷ ys) e h = ap (λ (n : ℕ). pack_end n y ys) (next a) ∙ h ∙ omega arith
      where
        next : (a : ℕ) → suc (a + 0) ≡ a + 1
        next a = omega arith
    go false [] e h = absurd (let z : ◌≡◌ {A = ℕ} 0 1 = cc in omega arith)
    go false (y ∷ ys) e h = sym (end_suc a b y ys) ∙ h ∙ omega arith

-- the tokens of a text, `;` among them
abbrev pub tokens_of : Text → List Token
tokens_of s = pack_tokens 0 (first_of (segments s)) (others_of (segments s))
