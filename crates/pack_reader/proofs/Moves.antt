-- One token more: its row is the definition's, and the board holds what the state behind it says.
use mathlib.Core.Path.{◌≡◌, refl, sym, ap, ◌∙◌, subst}
use mathlib.Core.Bool.{Bool, true, false}
use mathlib.Core.List.{List, [], ◌∷◌, ◌++◌}
use Prim.Native.Nat.{ℕ, suc, ◌+◌, ◌*◌, ◌≤◌, ◌<◌}
use native.Mathlib.Omega.{arith}
use lib.Dec.{ltb}
use lib.ListN.{length, get_or, take}
use borrow.Author.Tests.{ne_eqb, ltb-true, ltb-false}
use Rattle.std.specs.Prelude.{if◌then◌else◌}
use Rattle.decimal.specs.Digits.{value}
use Rattle.decimal.proofs.Choices.{choice, tested, not_both, ltb_same}
use Rattle.pack_token.specs.Spelling.{same}
use Rattle.pack_token.specs.Token.{dots, differ}
use Rattle.pack_token.proofs.Spellings.{same_eq}
use Rattle.pack_grammar.specs.Limits.{max_bytes, max_clauses, max_relations, max_ranges, max_value, is_modulus}
use Rattle.pack_grammar.specs.Grammar.{Text, colon, semi, comma, percent, equal, and, or, other, is_word, is_number, is_operand, RangeTree, HeadTree, RuleTree}
use Rattle.pack_grammar.specs.Grammar.RangeTree.{One, Span}
use Rattle.pack_grammar.specs.Grammar.HeadTree.{Plain, Modulo}
use Rattle.pack_grammar.specs.Grammar.RelationTree.{Rel}
use Rattle.pack_grammar.specs.Grammar.ClauseTree.{Joined}
use Rattle.pack_grammar.specs.Grammar.RuleTree.{Named}
use Rattle.pack_grammar.specs.Steps.{Front, State}
use Rattle.pack_grammar.specs.Steps.State.{WantsName, WantsColon, WantsNothing, WantsOperand, HasOperand, WantsModulus, HasModulus, WantsValue, HasValue, WantsUpper, HasUpper, Dead as Died}
use Rattle.pack_grammar.specs.Reader.{trouble}
use Rattle.pack_grammar.proofs.Viable.{Far, onward}
use Rattle.pack_grammar.proofs.Whole.{names, fault_on}
use Rattle.pack_phase.specs.Next.{same_phase}
use Rattle.pack_phase.specs.declared.Phase.{Phase}
use Rattle.pack_phase.specs.declared.Phase.TheVariants.{Name, Colon, Nothing, Operand, ModulusOrSign, Modulus, Sign, Value, DotsOrMore, Upper, More, Dead}
use Rattle.pack_phase.proofs.Phases.{phase_of}
use Rattle.pack_counts.specs.Counts.{counts_after, more_of}
use Rattle.pack_counts.specs.declared.Counts.{Counts}
use Rattle.pack_faults.specs.Faults.{capped, held, keyword_number}
use Rattle.pack_walk.specs.Steps.{value_at, closes_at, key_after, current_after, row_at}
use Rattle.pack_walk.specs.declared.Current.{Current}
use Rattle.pack_reader.specs.Board.{Arrays, filled}
use Rattle.pack_reader.proofs.Flats.{more_is}
use Rattle.pack_reader.proofs.Numbers.{name_number, upper_number, number_at, row_if, row_number}
use Rattle.pack_reader.proofs.Tally.{name_row_law, fresh}
use Rattle.pack_reader.proofs.Holds.{HoldsAt, HeadIs, Keyed, FrontIs, Small, later, begun, add_value, add_upper, close_and, close_or, close_semi, close_bare}

-- ---- values, kept at 1,000,001

capped_exact : (t : Text) → value t ≤ 1000000 → capped t ≡ value t
capped_exact t h = omega arith

capped_above : (t : Text) → ltb max_value (capped t) ≡ ltb max_value (value t)
capped_above t = ltb_same max_value (capped t) max_value (value t) (λ h. omega arith) (λ h. omega arith)

not_modulus : (m : ℕ) → 1000000 < m → is_modulus m ≡ false
not_modulus m h =
    rw (ne_eqb m 10 (λ e. omega arith), ne_eqb m 100 (λ e. omega arith), ne_eqb m 1000 (λ e. omega arith), ne_eqb m 10000 (λ e. omega arith), ne_eqb m 100000 (λ e. omega arith), ne_eqb m 1000000 (λ e. omega arith))

modulus_capped : (t : Text) → is_modulus (capped t) ≡ is_modulus (value t)
modulus_capped t =
    tested (ltb 1000000 (value t))
    (λ e. let h = ltb-true 1000000 (value t) e in not_modulus (capped t) (omega arith) ∙ sym (not_modulus (value t) h))
    (λ e. ap is_modulus (capped_exact t (ltb-false 1000000 (value t) e)))

modulus_exact : (t : Text) → is_modulus (value t) ≡ true → capped t ≡ value t
modulus_exact t e =
    tested (ltb 1000000 (value t)) (λ k. not_both e (not_modulus (value t) (ltb-true 1000000 (value t) k)))
    (λ k. capped_exact t (ltb-false 1000000 (value t) k))

upper_row_law : (t : Text) (low : ℕ) → upper_number (capped t) low ≡ upper_number (value t) low
upper_row_law t low =
    rw (capped_above t)
    (tested (ltb max_value (value t)) (λ e. rw e)
    (λ e.
    let h = ltb-false max_value (value t) e in
    rw (capped_exact t (omega arith))))

-- the number of a token's row
abbrev pub row_on : State → Counts → Current → Arrays → Text → ℕ
row_on s c o a t =
    let p = phase_of s in
    let key = key_after p t o.key in
    number_at p key (held key (take c.rules a.keyword)) (value_at p t) c o.low

-- it is the row that the code has
pub row_on_number : (s : State) (c : Counts) (o : Current) (a : Arrays) (t : Text)
    → row_at (phase_of s) (key_after (phase_of s) t o.key) (held (key_after (phase_of s) t o.key) (take c.rules a.keyword)) (value_at (phase_of s) t) c o.low ≡ row_if (row_on s c o a t)
row_on_number s c o a t =
    let key = key_after (phase_of s) t o.key in
    row_number (phase_of s) key (held key (take c.rules a.keyword)) (value_at (phase_of s) t) c o.low

-- ROW: 22 to 26 by the board are 22 to 26 by the state
pub row_is : (d : List RuleTree) (s : State) (c : Counts) (o : Current) (a : Arrays) (at : ℕ) (t : Text) → HoldsAt d s c o a at
    → row_on s c o a t ≡ fault_on (record { rules = d; state = s }) t
row_is d WantsName c o a at t h = ap (λ (l : List ℕ). name_number (keyword_number t) (held (keyword_number t) l)) h.kept.rules.keys ∙ name_row_law t (names d)
row_is d (WantsColon k) c o a at t h = refl
row_is d (WantsNothing k) c o a at t h = refl
row_is d (WantsOperand f) c o a at t h = rw (h.base.parted, h.base.joined)
row_is d (HasOperand f x) c o a at t h = refl
row_is d (WantsModulus f x) c o a at t h = ap (λ (b : Bool). if b then 0 else 23) (modulus_capped t)
row_is d (HasModulus f x m) c o a at t h = refl
row_is d (WantsValue f g vs) c o a at t h = rw (h.0.base.values, capped_above t)
row_is d (HasValue f g vs x) c o a at t h = refl
row_is d (WantsUpper f g vs x) c o a at t h = rw h.3 (upper_row_law t (value x))
row_is d (HasUpper f g vs x y) c o a at t h = refl
row_is d Died c o a at t h = refl

-- ---- what no fault says

small : (f : Front) → trouble (WantsOperand f) [] ≡ 0 → Small f
small f e =
    go (ltb (length f.clauses) max_clauses) refl (ltb (length f.relations) max_relations) refl e
  where
    go : (x : Bool) → ltb (length f.clauses) max_clauses ≡ x → (y : Bool) → ltb (length f.relations) max_relations ≡ y
        → ◌≡◌ {A = ℕ} (if x then (if y then 0 else 26) else 26) 0 → Small f
    go true p true q e = record { clauses = omega (arith, ltb-true (length f.clauses) max_clauses p); relations = omega (arith, ltb-true (length f.relations) max_relations q) }
    go true p false q e = absurd (let z : ◌≡◌ {A = ℕ} 26 0 = e in omega arith)
    go false p y q e = absurd (let z : ◌≡◌ {A = ℕ} 26 0 = e in omega arith)

listed : (b : Bool) → ◌≡◌ {A = ℕ} (if b then 0 else 23) 0 → b ≡ true
listed true e = refl
listed false e = absurd (let z : ◌≡◌ {A = ℕ} 23 0 = e in omega arith)

fits_value : (x y : Bool) → ◌≡◌ {A = ℕ} (if x then 22 else if y then 0 else 26) 0 → (x ≡ false) × (y ≡ true)
fits_value true y e = absurd (let z : ◌≡◌ {A = ℕ} 22 0 = e in omega arith)
fits_value false true e = (refl, refl)
fits_value false false e = absurd (let z : ◌≡◌ {A = ℕ} 26 0 = e in omega arith)

fits_upper : (x y : Bool) → ◌≡◌ {A = ℕ} (if x then 22 else if y then 24 else 0) 0 → x ≡ false
fits_upper true y e = absurd (let z : ◌≡◌ {A = ℕ} 22 0 = e in omega arith)
fits_upper false y e = refl

value_exact : (t : Text) → ltb max_value (value t) ≡ false → capped t ≡ value t
value_exact t e = let h = ltb-false max_value (value t) e in capped_exact t (omega arith)

-- ---- heads

head_plain : (x : Text) (n : Bool) (o : Current) → o.operand ≡ get_or x 0 0 → o.modulus ≡ 0 → o.negated ≡ n → HeadIs (Plain x n) o
head_plain x n o p q r vs v = rw (p, q, r)

head_modulo : (x m : Text) (n : Bool) (o : Current) → o.operand ≡ get_or x 0 0 → o.modulus ≡ value m → o.negated ≡ n → HeadIs (Modulo x m n) o
head_modulo x m n o p q r vs v = rw (p, q, r)

-- ---- one token more

at_literal : (P : Text → Type 0) (t w : Text) → same t w ≡ true → P w → P t
at_literal P t w e x = subst P (sym (same_eq t w e)) x

module _ (d : List RuleTree) (c : Counts) (o : Current) (a : Arrays) (at p : ℕ) (l : at ≤ p) (m : p ≤ max_bytes) where
  -- what is to hold behind the token t, with this reading
  abbrev Then : Phase → Text → Far → Type 0
  Then u t q =
      let b = same_phase u Value in
      let n = counts_after c b (closes_at u t) in
      HoldsAt q.rules q.state n (current_after o u t (value_at u t) (key_after u t o.key))
      (filled b (same_phase u Upper) (value_at u t) (closes_at u t) c n o a) (suc p)

  abbrev here : State → Far
  here s = record { rules = d; state = s }

  abbrev Next : State → Text → Type 0
  Next s t = Then (phase_of s) t (onward (here s) t)

  onward_front : {f : Front} {vs : List RangeTree} → FrontIs d f vs c o a at → FrontIs d f vs c o a (suc p)
  onward_front w = record { base = later p l w.base; keyed = w.keyed; named = w.named }

  -- a relation is whole
  module _ (f : Front) (h : HeadTree) (vs : List RangeTree) (v : RangeTree) (w : FrontIs d f (vs ++ (v ∷ [])) c o a at) (z : Small f) (g : HeadIs h o) (r : 2 * c.ranges + 1 ≤ at) where
    by_and : Then DotsOrMore and (here (WantsOperand (record { name = f.name; clauses = f.clauses; relations = f.relations ++ (Rel h vs v ∷ []) })))
    by_and = record { base = close_and d f h vs v c o a at w z g (omega arith) p l; keyed = record { key = w.keyed.key; known = w.keyed.known; new = w.keyed.new }; named = w.named }

    by_or : Then DotsOrMore or (here (WantsOperand (record { name = f.name; clauses = f.clauses ++ (Joined f.relations (Rel h vs v) ∷ []); relations = [] })))
    by_or = record { base = close_or d f h vs v c o a at w z g (omega arith) p l; keyed = record { key = w.keyed.key; known = w.keyed.known; new = w.keyed.new }; named = w.named }

    by_semi : Then DotsOrMore semi (record { rules = d ++ (Named f.name f.clauses (Joined f.relations (Rel h vs v)) ∷ []); state = WantsName })
    by_semi = close_semi d f h vs v c o a at w z g (omega arith) p l

    by_comma : Then DotsOrMore comma (here (WantsValue f h (vs ++ (v ∷ []))))
    by_comma = (record { base = later p l w.base; keyed = record { key = w.keyed.key; known = w.keyed.known; new = w.keyed.new }; named = w.named }, z, g, omega (arith, r))

  keyed_on : {k : Text} {n : Current} → Keyed d k o → n.key ≡ o.key → Keyed d k n
  keyed_on w e = record { key = e ∙ w.key; known = w.known; new = w.new }

  front_on : {f : Front} {vs : List RangeTree} {n : Current} → FrontIs d f vs c o a at → n.key ≡ o.key → FrontIs d f vs c n a (suc p)
  front_on w e = record { base = later p l w.base; keyed = keyed_on w.keyed e; named = w.named }

  -- one range more, behind a byte of its own
  spare_value : 2 * c.ranges + 2 ≤ p → 2 * more_of c.ranges + 1 ≤ suc p
  spare_value h = let e = more_is c.ranges (omega arith) in omega arith

  -- MOVE: the board behind a token holds what the state behind it says
  pub move : (s : State) (t : Text) → HoldsAt d s c o a at → fault_on (here s) t ≡ 0 → Next s t
  move WantsName t h e =
      choice (Then Name t) (same t semi) (λ _. tt)
      (λ _. choice (λ (s : State). Then Name t (here s)) (is_word t)
      (λ _. let w = fresh t (names d) e in (later p l h, record { key = refl; known = w.0; new = w.1 }, omega (arith, h.room)))
      (λ _. tt))
  move (WantsColon k) t h e =
      choice (Then Colon t) (same t semi) (λ _. tt)
      (λ _. choice (λ (s : State). Then Colon t (here s)) (same t colon)
      (λ _. choice (λ (s : State). Then Colon t (here s)) (same k other)
      (λ _. (later p l h.0, keyed_on h.1 refl, omega (arith, h.2)))
      (λ q. record { base = begun k (later p l h.0); keyed = keyed_on h.1 refl; named = q }))
      (λ _. tt))
  move (WantsNothing k) t h e =
      tested (same t semi) (λ q. at_literal (Next (WantsNothing k)) t semi q (close_bare d k c o a at p h.0 h.1 l))
      (λ q. choice (Then Nothing t) (same t semi) (λ r. not_both r q) (λ _. tt))
  move (WantsOperand f) t h e =
      choice (Then Operand t) (same t semi) (λ _. tt)
      (λ _. choice (λ (s : State). Then Operand t (here s)) (is_operand t) (λ _. (front_on h refl, small f e, refl, refl, omega (arith, h.base.room))) (λ _. tt))
  move (HasOperand f x) t h e =
      choice (Then ModulusOrSign t) (same t semi) (λ _. tt)
      (λ _. choice (λ (s : State). Then ModulusOrSign t (here s)) (same t percent)
      (λ _. (front_on h.0 refl, h.1, h.2, omega (arith, h.4)))
      (λ _. choice (λ (s : State). Then ModulusOrSign t (here s)) (same t equal)
      (λ q. (front_on h.0 refl, h.1, head_plain x false (current_after o ModulusOrSign t 0 o.key) h.2 h.3 (ap (λ (u : Text). same u differ) (same_eq t equal q)), omega (arith, h.4)))
      (λ _. choice (λ (s : State). Then ModulusOrSign t (here s)) (same t differ)
      (λ q. (front_on h.0 refl, h.1, head_plain x true (current_after o ModulusOrSign t 0 o.key) h.2 h.3 q, omega (arith, h.4)))
      (λ _. tt))))
  move (WantsModulus f x) t h e =
      choice (Then Modulus t) (same t semi) (λ _. tt)
      (λ _. choice (λ (s : State). Then Modulus t (here s)) (is_number t)
      (λ _. (front_on h.0 refl, h.1, h.2, modulus_exact t (listed (is_modulus (value t)) e), omega (arith, h.3)))
      (λ _. tt))
  move (HasModulus f x n) t h e =
      choice (Then Sign t) (same t semi) (λ _. tt)
      (λ _. choice (λ (s : State). Then Sign t (here s)) (same t equal)
      (λ q. (front_on h.0 refl, h.1, head_modulo x n false (current_after o Sign t 0 o.key) h.2 h.3 (ap (λ (u : Text). same u differ) (same_eq t equal q)), omega (arith, h.4)))
      (λ _. choice (λ (s : State). Then Sign t (here s)) (same t differ)
      (λ q. (front_on h.0 refl, h.1, head_modulo x n true (current_after o Sign t 0 o.key) h.2 h.3 q, omega (arith, h.4)))
      (λ _. tt)))
  move (WantsValue f g vs) t h e =
      let q = fits_value (ltb max_value (value t)) (ltb (length vs) max_ranges) e in
      let n = value_exact t q.0 in
      choice (Then Value t) (same t semi) (λ _. tt)
      (λ _. choice (λ (s : State). Then Value t (here s)) (is_number t)
      (λ _. (
        record {
          base = add_value d f vs t c o a at (capped t) p h.0.base n (omega (arith, h.3)) m (ltb-true (length vs) max_ranges q.1);
          keyed = keyed_on h.0.keyed refl;
          named = h.0.named;
        },
        h.1,
        h.2,
        n,
        spare_value (omega (arith, h.3)),
      ))
      (λ _. tt))
  move (HasValue f g vs x) t h e =
      tested (same t dots) (λ q. at_literal (Next (HasValue f g vs x)) t dots q (front_on h.0 refl, h.1, h.2, h.3, omega (arith, h.4)))
      (λ e1. tested (same t comma) (λ q. at_literal (Next (HasValue f g vs x)) t comma q (by_comma f g vs (One x) h.0 h.1 h.2 h.4))
      (λ e2. tested (same t and) (λ q. at_literal (Next (HasValue f g vs x)) t and q (by_and f g vs (One x) h.0 h.1 h.2 h.4))
      (λ e3. tested (same t or) (λ q. at_literal (Next (HasValue f g vs x)) t or q (by_or f g vs (One x) h.0 h.1 h.2 h.4))
      (λ e4. tested (same t semi) (λ q. at_literal (Next (HasValue f g vs x)) t semi q (by_semi f g vs (One x) h.0 h.1 h.2 h.4))
      (λ e5. choice (Then DotsOrMore t) (same t semi) (λ q. not_both q e5)
      (λ _. choice (λ (s : State). Then DotsOrMore t (here s)) (same t dots) (λ q. not_both q e1)
      (λ _. choice (λ (s : State). Then DotsOrMore t (here s)) (same t comma) (λ q. not_both q e2)
      (λ _. choice (λ (s : State). Then DotsOrMore t (here s)) (same t and) (λ q. not_both q e3)
      (λ _. choice (λ (s : State). Then DotsOrMore t (here s)) (same t or) (λ q. not_both q e4) (λ _. tt))))))))))
  move (WantsUpper f g vs x) t h e =
      let q = fits_upper (ltb max_value (value t)) (ltb (value t) (value x)) e in
      choice (Then Upper t) (same t semi) (λ _. tt)
      (λ _. choice (λ (s : State). Then Upper t (here s)) (is_number t)
      (λ _. (
        record {
          base = add_upper d f vs x t c o a at (capped t) p h.0.base (value_exact t q) l m;
          keyed = keyed_on h.0.keyed refl;
          named = h.0.named;
        },
        h.1,
        h.2,
        omega (arith, h.4),
      ))
      (λ _. tt))
  move (HasUpper f g vs x y) t h e =
      tested (same t comma) (λ q. at_literal (Next (HasUpper f g vs x y)) t comma q (by_comma f g vs (Span x y) h.0 h.1 h.2 h.3))
      (λ e2. tested (same t and) (λ q. at_literal (Next (HasUpper f g vs x y)) t and q (by_and f g vs (Span x y) h.0 h.1 h.2 h.3))
      (λ e3. tested (same t or) (λ q. at_literal (Next (HasUpper f g vs x y)) t or q (by_or f g vs (Span x y) h.0 h.1 h.2 h.3))
      (λ e4. tested (same t semi) (λ q. at_literal (Next (HasUpper f g vs x y)) t semi q (by_semi f g vs (Span x y) h.0 h.1 h.2 h.3))
      (λ e5. choice (Then More t) (same t semi) (λ q. not_both q e5)
      (λ _. choice (λ (s : State). Then More t (here s)) (same t comma) (λ q. not_both q e2)
      (λ _. choice (λ (s : State). Then More t (here s)) (same t and) (λ q. not_both q e3)
      (λ _. choice (λ (s : State). Then More t (here s)) (same t or) (λ q. not_both q e4) (λ _. tt))))))))
  move Died t h e = choice (Then Dead t) (same t semi) (λ _. tt) (λ _. tt)
