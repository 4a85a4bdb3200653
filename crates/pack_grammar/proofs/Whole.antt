-- A pack read whole, token by token with `;` among the tokens, is read as its segments are.
use mathlib.Core.Path.{◌≡◌, refl, sym, ap, ◌∙◌}
use mathlib.Core.Bool.{Bool, true, false, not}
use mathlib.Core.List.{List, [], ◌∷◌, ◌++◌, append-nil}
use Prim.Native.Nat.{ℕ, zero, suc, ◌+◌, ◌≤◌}
use native.Mathlib.Omega.{arith}
use lib.Dec.{eqb, ltb}
use lib.ListN.{length, take, drop, length-drop}
use lib.Seq.{take-append-le, drop-append-le}
use borrow.Author.Tests.{ne_eqb, eqb-true, eqb-false}
use Rattle.decimal.specs.Split.{on_first}
use Rattle.std.specs.Prelude.{if◌then◌else◌}
use Rattle.decimal.specs.Choice.{both}
use Rattle.decimal.specs.Digits.{is_digit, run}
use Rattle.decimal.proofs.Choices.{choice}
use Rattle.decimal.specs.Lists.{all}
use Rattle.pack_token.specs.Spelling.{same, among, starts, length_of}
use Rattle.pack_token.specs.Token.{whites, white_len, is_white, is_letter, letters, dots, differ, piece_len, Token, tokens}
use Rattle.pack_token.proofs.Spellings.{both_0, both_1}
use Rattle.pack_token.proofs.Pieces.{piece, pieced, tokens_turn}
use Rattle.pack_grammar.specs.Limits.{max_bytes}
use Rattle.pack_grammar.specs.Grammar.{Text, semi, colon, comma, percent, equal, and, or, other, is_word, is_number, is_operand, RangeTree, HeadTree, RuleTree, name_of, of_rule}
use Rattle.pack_grammar.specs.Grammar.RangeTree.{One, Span}
use Rattle.pack_grammar.specs.Grammar.HeadTree.{Plain, Modulo}
use Rattle.pack_grammar.specs.Grammar.RuleTree.{Bare, Named}
use Rattle.pack_grammar.specs.WellFormed.{texts}
use Rattle.pack_grammar.specs.Steps.{Front, State, go_on, signed, step, steps, Read, ends}
use Rattle.pack_grammar.specs.Steps.State.{WantsName, WantsColon, WantsNothing, WantsOperand, HasOperand, WantsModulus, HasModulus, WantsValue, HasValue, WantsUpper, HasUpper, Dead}
use Rattle.pack_grammar.specs.Steps.Read.{Whole}
use Rattle.pack_grammar.specs.Reader.{PackAnswer, segments, stop, Parsed, rules_from, trouble, Fault, or_else, fault_at, fault_in, keyword_in, again, fault_from, judge, read_pack}
use Rattle.pack_grammar.specs.Reader.Parsed.{Trees, Bad}
use Rattle.pack_grammar.specs.Reader.Fault.{None, At}
use Rattle.pack_grammar.specs.Reader.PackAnswer.{Refused}
use Rattle.answer.specs.declared.Refusal.TheVariants.{PackTooLong}
use Rattle.pack_grammar.proofs.Sound.{sound}
use Rattle.pack_grammar.proofs.Places.{fine_whole}
use Rattle.pack_grammar.proofs.Shuffle.{then_fine}
use Rattle.pack_grammar.proofs.Viable.{plain, plain_segments, some_segments, first_of, others_of, pack_tokens, pack_end, tokens_of, end_is, Far, closed, onward, outset, halt, behind, same_halt, no_semi, no_semi_law}

-- ---- no piece holds a `;`

not_true : (b : Bool) → not b ≡ true → b ≡ false
not_true true e = sym e
not_true false e = refl

module _ (y : Text) where
  starts_before : (w x : Text) → plain w ≡ true → starts w (x ++ (59 ∷ y)) ≡ starts w x
  starts_before [] x e = refl
  starts_before (b ∷ w) [] e =
      let n : eqb 59 b ≡ false = ne_eqb 59 b (λ k. eqb-false b 59 (not_true (eqb b 59) (both_0 (not (eqb b 59)) (plain w) e)) (sym k)) in
      rw n
  starts_before (b ∷ w) (c ∷ x) e = ap (both (eqb c b)) (starts_before w x (both_1 (not (eqb b 59)) (plain w) e))

  length_before : (ws : List Text) (x : Text) → all plain ws ≡ true → length_of ws (x ++ (59 ∷ y)) ≡ length_of ws x
  length_before [] x e = refl
  length_before (w ∷ ws) x e =
      rw (starts_before w x (both_0 (plain w) (all plain ws) e), length_before ws x (both_1 (plain w) (all plain ws) e))

  letters_before : (x : Text) → letters (x ++ (59 ∷ y)) ≡ letters x
  letters_before [] = refl
  letters_before (b ∷ x) = ap (λ (n : ℕ). if is_letter b then suc n else 0) (letters_before x)

  run_before : (x : Text) → run (x ++ (59 ∷ y)) ≡ run x
  run_before [] = refl
  run_before (b ∷ x) = ap (λ (n : ℕ). if is_digit b then suc n else 0) (run_before x)

  white_before : (x : Text) → white_len (x ++ (59 ∷ y)) ≡ white_len x
  white_before x = length_before whites x refl

  piece_before : (b : ℕ) (x : Text) → piece_len ((b ∷ x) ++ (59 ∷ y)) ≡ piece_len (b ∷ x)
  piece_before b x =
      rw (white_before (b ∷ x), letters_before (b ∷ x), run_before (b ∷ x), starts_before dots (b ∷ x) refl, starts_before differ (b ∷ x) refl)

  cut_none : (a : ℕ) → tokens a (59 ∷ y) ≡ record { at = a + 0; text = semi } ∷ tokens (suc (a + 0)) y
  cut_none a =
      let e : a + 1 ≡ suc (a + 0) = omega arith in
      let z : a ≡ a + 0 = omega arith in
      tokens_turn a (59 ∷ y) (omega arith) ∙ rw (e, ← z)

  -- the tokens of a segment, the `;` behind it, and the tokens of what is left; by as many pieces as the segment has bytes
  cut_tokens : (n a : ℕ) (x : Text) → length x ≤ n
      → tokens a (x ++ (59 ∷ y)) ≡ tokens a x ++ (record { at = a + length x; text = semi } ∷ tokens (suc (a + length x)) y)
  cut_tokens zero a [] h = cut_none a
  cut_tokens zero a (b ∷ x) h = absurd (no h)
    where
      no : suc (length x) ≤ 0 → ⊥
      no k = omega arith
  cut_tokens (suc n) a [] h = cut_none a
  cut_tokens (suc n) a (b ∷ x) h =
      let s : Text = b ∷ x in
      let z : Text = 59 ∷ y in
      let k = piece_len s in
      let p = piece s (omega arith) in
      let l = length-drop k s in
      let q : (a + k) + length (drop k s) ≡ a + length s = omega arith in
      tokens_turn a (s ++ z) (omega arith)
      ∙ ap (λ (w : ℕ). pieced (ltb 0 w) a (take (piece_len (s ++ z)) (s ++ z)) (tokens (a + piece_len (s ++ z)) (drop (piece_len (s ++ z)) (s ++ z)))) (white_before s)
      ∙ ap (λ (m : ℕ). pieced (is_white s) a (take m (s ++ z)) (tokens (a + m) (drop m (s ++ z)))) (piece_before b x)
      ∙ ap (λ (u : Text). pieced (is_white s) a u (tokens (a + k) (drop k (s ++ z)))) (take-append-le k s z p.1)
      ∙ ap (λ (u : Text). pieced (is_white s) a (take k s) (tokens (a + k) u)) (drop-append-le k s z p.1)
      ∙ ap (pieced (is_white s) a (take k s)) (cut_tokens n (a + k) (drop k s) (omega arith))
      ∙ ap (λ (j : ℕ). pieced (is_white s) a (take k s) (tokens (a + k) (drop k s) ++ (record { at = j; text = semi } ∷ tokens (suc j) y))) q
      ∙ behind_piece (is_white s) (take k s) (tokens (a + k) (drop k s)) (record { at = a + length s; text = semi } ∷ tokens (suc (a + length s)) y)
      ∙ ap (λ (u : List Token). u ++ (record { at = a + length s; text = semi } ∷ tokens (suc (a + length s)) y)) (sym (tokens_turn a s (omega arith)))
    where
      behind_piece : (w : Bool) (u : Text) (l m : List Token) → pieced w a u (l ++ m) ≡ pieced w a u l ++ m
      behind_piece true u l m = refl
      behind_piece false u l m = refl

-- ---- the bytes of segments, joined again

abbrev joined : Text → List Text → Text
joined x [] = x
joined x (y ∷ ys) = x ++ (59 ∷ joined y ys)

joined_first : (b : ℕ) (x : Text) (xs : List Text) → joined (b ∷ x) xs ≡ b ∷ joined x xs
joined_first b x [] = refl
joined_first b x (y ∷ ys) = refl

joined_segments : (s : Text) → joined (first_of (segments s)) (others_of (segments s)) ≡ s
joined_segments [] = refl
joined_segments (b ∷ s) = go (eqb b 59) refl (segments s) (some_segments s) (joined_segments s)
  where
    go : (x : Bool) → eqb b 59 ≡ x → (l : List Text) → l ≡ first_of l ∷ others_of l → joined (first_of l) (others_of l) ≡ s
        → joined (first_of (if x then [] ∷ l else on_first b l)) (others_of (if x then [] ∷ l else on_first b l)) ≡ b ∷ s
    go true k [] e h = absurd (let z : ◌≡◌ {A = ℕ} 0 1 = cc in omega arith)
    go true k (y ∷ ys) e h = rw (h, eqb_59 k)
      where
        eqb_59 : eqb b 59 ≡ true → b ≡ 59
        eqb_59 q = eqb-true b 59 q
    go false k [] e h = absurd (let z : ◌≡◌ {A = ℕ} 0 1 = cc in omega arith)
    go false k (y ∷ ys) e h = joined_first b y ys ∙ ap (λ (t : Text). b ∷ t) h

tokens_joined : (a : ℕ) (x : Text) (xs : List Text) → tokens a (joined x xs) ≡ pack_tokens a x xs
tokens_joined a x [] = refl
tokens_joined a x (y ∷ ys) =
    cut_tokens (joined y ys) (length x) a x (omega arith)
    ∙ ap (λ (l : List Token). tokens a x ++ (record { at = a + length x; text = semi } ∷ l)) (tokens_joined (suc (a + length x)) y ys)

-- the tokens of a pack are those of its segments, with `;` between
pub tokens_whole : (s : Text) → tokens 0 s ≡ tokens_of s
tokens_whole s = ap (tokens 0) (sym (joined_segments s)) ∙ tokens_joined 0 (first_of (segments s)) (others_of (segments s))

-- ---- faults, token by token

abbrev pub names : List RuleTree → List Text
names [] = []
names (r ∷ rs) = name_of r ∷ names rs

abbrev pub is_name : State → Bool
is_name WantsName = true
is_name (WantsColon k) = false
is_name (WantsNothing k) = false
is_name (WantsOperand f) = false
is_name (HasOperand f o) = false
is_name (WantsModulus f o) = false
is_name (HasModulus f o m) = false
is_name (WantsValue f h vs) = false
is_name (HasValue f h vs a) = false
is_name (WantsUpper f h vs a) = false
is_name (HasUpper f h vs a b) = false
is_name Dead = false

-- the row of a token behind whole rules, a repeated keyword's too
abbrev pub fault_on : Far → Text → ℕ
fault_on p t = if both (is_name p.state) (among t (names p.rules)) then 25 else trouble p.state t

abbrev pub faults : Far → List Token → Fault
faults p [] = None
faults p (t ∷ ts) = or_else (fault_at (fault_on p t.text) t.at) (faults (onward p t.text) ts)

-- behind its keyword a segment wants none again
pub goes_on : (f : Fault) (g h : Fault) → or_else f (or_else g h) ≡ or_else (or_else f g) h
goes_on None g h = refl
goes_on (At n p) g h = refl

abbrev P : State → Type 0
P s = is_name s ≡ false

signed_step : (f : Front) (h : Bool → HeadTree) (t : Text) → P (signed f h t)
signed_step f h t = choice P (same t equal) (λ _. refl) (λ _. choice P (same t differ) (λ _. refl) (λ _. refl))

go_step : (f : Front) (h : HeadTree) (vs : List RangeTree) (v : RangeTree) (t : Text) → P (go_on f h vs v t)
go_step f h vs v t =
    choice P (same t comma) (λ _. refl) (λ _. choice P (same t and) (λ _. refl) (λ _. choice P (same t or) (λ _. refl) (λ _. refl)))

pub name_step : (s : State) (t : Text) → is_name (step s t) ≡ false
name_step WantsName t = choice P (is_word t) (λ _. refl) (λ _. refl)
name_step (WantsColon k) t = choice P (same t colon) (λ _. choice P (same k other) (λ _. refl) (λ _. refl)) (λ _. refl)
name_step (WantsNothing k) t = refl
name_step (WantsOperand f) t = choice P (is_operand t) (λ _. refl) (λ _. refl)
name_step (HasOperand f o) t = choice P (same t percent) (λ _. refl) (λ _. signed_step f (Plain o) t)
name_step (WantsModulus f o) t = choice P (is_number t) (λ _. refl) (λ _. refl)
name_step (HasModulus f o m) t = signed_step f (Modulo o m) t
name_step (WantsValue f h vs) t = choice P (is_number t) (λ _. refl) (λ _. refl)
name_step (HasValue f h vs a) t = choice P (same t dots) (λ _. refl) (λ _. go_step f h vs (One a) t)
name_step (WantsUpper f h vs a) t = choice P (is_number t) (λ _. refl) (λ _. refl)
name_step (HasUpper f h vs a b) t = go_step f h vs (Span a b) t
name_step Dead t = refl

-- the tokens of a segment behind its keyword, and then others
segment_rest : (d : List RuleTree) (s : State) (ts us : List Token) → is_name s ≡ false → no_semi ts ≡ true
    → faults (record { rules = d; state = s }) (ts ++ us) ≡ or_else (fault_in s ts) (faults (record { rules = d; state = steps s (texts ts) }) us)
unfolding no_semi
segment_rest d s [] us n e = refl
segment_rest d s (t ∷ ts) us n e =
    let k = not_true (same t.text semi) (both_0 (not (same t.text semi)) (no_semi ts) e) in
    rw (n, k)
    (ap (or_else (fault_at (trouble s t.text) t.at))
    (segment_rest d (step s t.text) ts us (name_step s t.text) (both_1 (not (same t.text semi)) (no_semi ts) e))
    ∙ goes_on (fault_at (trouble s t.text) t.at) _ _)

repeated : (used : List Text) (d : List RuleTree) (t : Text) (a : ℕ) (g : Fault) → among t used ≡ among t (names d)
    → or_else (fault_at (if among t (names d) then 25 else trouble WantsName t) a) g
    ≡ or_else (if among t used then At 25 a else None) (or_else (fault_at (trouble WantsName t) a) g)
repeated used d t a g h = rw h (go (among t (names d)))
  where
    go : (b : Bool) → or_else (fault_at (if b then 25 else trouble WantsName t) a) g ≡ or_else (if b then At 25 a else None) (or_else (fault_at (trouble WantsName t) a) g)
    go true = refl
    go false = refl

segment_faults : (used : List Text) (d : List RuleTree) (ts us : List Token) → no_semi ts ≡ true → ((t : Text) → among t used ≡ among t (names d))
    → faults (record { rules = d; state = WantsName }) (ts ++ us)
    ≡ or_else (again used ts) (or_else (fault_in WantsName ts) (faults (record { rules = d; state = steps WantsName (texts ts) }) us))
unfolding no_semi
segment_faults used d [] us n h = refl
segment_faults used d (t ∷ ts) us n h =
    let k = not_true (same t.text semi) (both_0 (not (same t.text semi)) (no_semi ts) n) in
    rw k
    (ap (or_else (fault_at (if among t.text (names d) then 25 else trouble WantsName t.text) t.at))
    (segment_rest d (step WantsName t.text) ts us (name_step WantsName t.text) (both_1 (not (same t.text semi)) (no_semi ts) n))
    ∙ repeated used d t.text t.at _ (h t.text)
    ∙ ap (or_else (again used (t ∷ ts))) (goes_on (fault_at (trouble WantsName t.text) t.at) _ _))

-- a whole state has no fault at `;`
pub whole_clean : (d : List RuleTree) (s : State) (r : RuleTree) → ends s ≡ Whole r → fault_on (record { rules = d; state = s }) semi ≡ 0
whole_clean d WantsName r e = absurd (let z : ◌≡◌ {A = ℕ} 0 1 = cc in omega arith)
whole_clean d (WantsColon k) r e = refl
whole_clean d (WantsNothing k) r e = refl
whole_clean d (WantsOperand f) r e = absurd (let z : ◌≡◌ {A = ℕ} 0 1 = cc in omega arith)
whole_clean d (HasOperand f o) r e = refl
whole_clean d (WantsModulus f o) r e = absurd (let z : ◌≡◌ {A = ℕ} 0 1 = cc in omega arith)
whole_clean d (HasModulus f o m) r e = refl
whole_clean d (WantsValue f h vs) r e = absurd (let z : ◌≡◌ {A = ℕ} 0 1 = cc in omega arith)
whole_clean d (HasValue f h vs a) r e = refl
whole_clean d (WantsUpper f h vs a) r e = absurd (let z : ◌≡◌ {A = ℕ} 0 1 = cc in omega arith)
whole_clean d (HasUpper f h vs a b) r e = refl
whole_clean d Dead r e = refl

-- the keyword of a segment that is a rule is the rule's
name_is : (ts : List Token) (r : RuleTree) → texts ts ≡ of_rule r → keyword_in ts ≡ name_of r
name_is [] (Bare k) e = absurd (let z : ◌≡◌ {A = ℕ} 0 1 = cc in omega arith)
name_is [] (Named k cs c) e = absurd (let z : ◌≡◌ {A = ℕ} 0 1 = cc in omega arith)
name_is (t ∷ ts) (Bare k) e = cc
name_is (t ∷ ts) (Named k cs c) e = cc

among_last : (t k : Text) (ws : List Text) → among t (ws ++ (k ∷ [])) ≡ (if same t k then true else among t ws)
among_last t k [] = refl
among_last t k (w ∷ ws) = ap (λ (b : Bool). if same t w then true else b) (among_last t k ws) ∙ go (same t w) (same t k) (among t ws)
  where
    go : (x y z : Bool) → (if x then true else if y then true else z) ≡ (if y then true else if x then true else z)
    go true true z = refl
    go true false z = refl
    go false true z = refl
    go false false z = refl

pub names_snoc : (d : List RuleTree) (r : RuleTree) → names (d ++ (r ∷ [])) ≡ names d ++ (name_of r ∷ [])
names_snoc [] r = refl
names_snoc (q ∷ d) r = ap (λ (l : List Text). name_of q ∷ l) (names_snoc d r)

-- the keywords before a rule, and its own
pub one_more : (used : List Text) (d : List RuleTree) (r : RuleTree) → ((t : Text) → among t used ≡ among t (names d))
    → (t : Text) → among t (name_of r ∷ used) ≡ among t (names (d ++ (r ∷ [])))
one_more used d r h t = rw (names_snoc d r, among_last t (name_of r) (names d), h t)

-- of segments that are rules: their faults are those of the whole pack's tokens
faults_whole : (used : List Text) (d : List RuleTree) (at : ℕ) (x : Text) (xs : List Text) (rs : List RuleTree) → all plain (x ∷ xs) ≡ true
    → ((t : Text) → among t used ≡ among t (names d)) → rules_from at (x ∷ xs) ≡ Trees rs
    → fault_from used at (x ∷ xs) ≡ faults (record { rules = d; state = WantsName }) (pack_tokens at x xs)
faults_whole used d at x [] rs g h e =
    let ts = tokens at x in
    let n = no_semi_law (length x) at x (both_0 (plain x) true g) in
    sym (ap (faults (record { rules = d; state = WantsName })) (sym (append-nil ts)) ∙ segment_faults used d ts [] n h)
faults_whole used d at x (y ∷ ys) rs g h e =
    let ts = tokens at x in
    let n = no_semi_law (length x) at x (both_0 (plain x) (all plain (y ∷ ys)) g) in
    let a = then_fine (stop WantsName ts (at + length x)) (rules_from (suc (at + length x)) (y ∷ ys)) rs e in
    let r = a.0 in
    let w = fine_whole WantsName ts (at + length x) r a.2 in
    let s = sound (texts ts) r w in
    let k = name_is ts r s.0 in
    let us = pack_tokens (suc (at + length x)) y ys in
    let u : (t : Text) → among t (keyword_in ts ∷ used) ≡ among t (names (d ++ (r ∷ []))) = λ t. rw k (one_more used d r h t) in
    let ih = faults_whole (keyword_in ts ∷ used) (d ++ (r ∷ [])) (suc (at + length x)) y ys a.1 (both_1 (plain x) (all plain (y ∷ ys)) g) u a.3 in
    sym (segment_faults used d ts (record { at = at + length x; text = semi } ∷ us) n h
    ∙ ap (λ (z : Fault). or_else (again used ts) (or_else (fault_in WantsName ts) z))
    (ap (λ (m : ℕ). or_else (fault_at m (at + length x)) (faults (closed d (ends (steps WantsName (texts ts)))) us)) (whole_clean d (steps WantsName (texts ts)) r w)
    ∙ ap (λ (q : Read). faults (closed d q) us) w ∙ sym ih))

-- the rules of the segments are those of the whole pack's tokens
pub halt_whole : (s : Text) → halt outset (tokens 0 s) (length s) ≡ behind [] (rules_from 0 (segments s))
halt_whole s =
    let k = some_segments s in
    let x = first_of (segments s) in
    let xs = others_of (segments s) in
    let q : pack_end 0 x xs ≡ length s = omega (arith, end_is 0 s) in
    rw (tokens_whole s, ← q) (same_halt [] 0 x xs (rw k at (plain_segments s)) ∙ ap (λ (l : List Text). behind [] (rules_from 0 l)) (sym k))

-- READ WHOLE: the answer by the whole pack's tokens
pub read_whole : (s : Text)
    → read_pack s ≡ (if ltb max_bytes (length s) then Refused PackTooLong else judge (halt outset (tokens 0 s) (length s)) (faults outset (tokens 0 s)))
read_whole s =
    let k = some_segments s in
    let x = first_of (segments s) in
    let xs = others_of (segments s) in
    let p : all plain (x ∷ xs) ≡ true = rw k at (plain_segments s) in
    ap (λ (z : PackAnswer). if ltb max_bytes (length s) then Refused PackTooLong else z)
    (go (rules_from 0 (segments s)) refl
    (λ rs e. ap (fault_from [] 0) k ∙ faults_whole [] [] 0 x xs rs p (λ t. refl) (rw k at e) ∙ ap (faults outset) (sym (tokens_whole s)))
    ∙ ap (λ (z : Parsed). judge z (faults outset (tokens 0 s))) (sym (halt_whole s)))
  where
    go : (z : Parsed) → rules_from 0 (segments s) ≡ z → ((rs : List RuleTree) → rules_from 0 (segments s) ≡ Trees rs → fault_from [] 0 (segments s) ≡ faults outset (tokens 0 s))
        → judge z (fault_from [] 0 (segments s)) ≡ judge (behind [] z) (faults outset (tokens 0 s))
    go (Bad a) e h = refl
    go (Trees rs) e h = ap (judge (Trees rs)) (h rs e)
