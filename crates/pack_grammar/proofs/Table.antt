-- Rows 20 to 26 of document 01's table: each is given exactly when its row says, with its figure.
use mathlib.Core.Path.{◌≡◌, refl, sym, ap, ◌∙◌, subst}
use mathlib.Core.Bool.{Bool, true, false}
use mathlib.Core.List.{List, [], ◌∷◌, ◌++◌, map}
use mathlib.Core.Logic.{◌⊎◌, inl, inr, ◌↔◌}
use Prim.Native.Nat.{ℕ, ◌≤◌, ◌<◌}
use native.Mathlib.Omega.{arith}
use lib.Dec.{eqb, ltb}
use lib.ListN.{length, get_or}
use borrow.Author.Tests.{ltb-true, ltb-false, lt-ltb, le-ltb, eqb-true, eqb-false}
use Rattle.std.specs.Prelude.{if◌then◌else◌}
use Rattle.decimal.proofs.Choices.{choice, tested, both_in}
use Rattle.answer.specs.Table.{pack_row, figures_of}
use Rattle.answer.specs.declared.PackRow.{PackRow}
use Rattle.answer.specs.declared.PackRow.TheVariants.{NotAPack}
use Rattle.answer.specs.declared.Refusal.TheVariants.{PackTooLong}
use Rattle.pack_rules.specs.Syntax.{Rule}
use Rattle.pack_token.specs.Token.{Token, tokens}
use Rattle.pack_grammar.specs.Limits.{max_bytes}
use Rattle.pack_grammar.specs.Grammar.{Text, RuleTree, PackTree, rules_of, semi, each, of_rule, of_pack, right_pack}
use Rattle.pack_grammar.specs.Grammar.PackTree.{Parted}
use Rattle.pack_grammar.specs.RuleOf.{rule_of}
use Rattle.pack_grammar.specs.Steps.{Read, ends}
use Rattle.pack_grammar.specs.Steps.Read.{Whole, Cut}
use Rattle.pack_grammar.specs.Reader.{is_dead, Parsed, Fault, fault_at, row_of, PackAnswer, refused_at, judge, read_pack}
use Rattle.pack_grammar.specs.Reader.Parsed.{Trees, Bad}
use Rattle.pack_grammar.specs.Reader.Fault.{None, At}
use Rattle.pack_grammar.specs.Reader.PackAnswer.{Rules, Refused}
use Rattle.pack_grammar.specs.WellFormed.{texts, WellFormed, Begins, Culprit, Unfinished}
use Rattle.pack_grammar.specs.Falls.{pack_rows, Earliest, Pack, Faulty, Tree}
use Rattle.pack_grammar.proofs.Viable.{Far, onward, outset, far, halt, alive_before, viable, never, not_ended, whole_alive, There, AtEnd, halts, been, behind}
use Rattle.pack_grammar.proofs.Exact.{ended, complete_pack}
use Rattle.pack_grammar.proofs.Sound.{told_rule}
use Rattle.pack_grammar.proofs.Whole.{faults, tokens_whole, halt_whole, read_whole}
use Rattle.pack_grammar.proofs.Falling.{falls_rows, fault_earliest}
use Rattle.pack_grammar.proofs.Bounded.{clean_reading}

-- the answer to a pack that is short enough
abbrev pub told : List Token → ℕ → PackAnswer
told ts end = judge (halt outset ts end) (faults outset ts)

-- ---- 20: "pack over 4,096 bytes"

judged_not_long : (p : Parsed) (f : Fault) → judge p f ≡ Refused PackTooLong → ⊥
judged_not_long (Bad a) f e = let z : ◌≡◌ {A = ℕ} 0 1 = cc in omega arith
judged_not_long (Trees rs) None e = let z : ◌≡◌ {A = ℕ} 0 1 = cc in omega arith
judged_not_long (Trees rs) (At n a) e = let z : ◌≡◌ {A = ℕ} 0 1 = cc in omega arith

pub row_20 : (s : Text) → (read_pack s ≡ Refused PackTooLong) ↔ (max_bytes < length s)
row_20 s = (to, λ h. rw (lt-ltb max_bytes (length s) h))
  where
    to : read_pack s ≡ Refused PackTooLong → max_bytes < length s
    to e =
        tested (ltb max_bytes (length s)) (λ k. ltb-true max_bytes (length s) k)
        (λ k. absurd (judged_not_long (halt outset (tokens 0 s) (length s)) (faults outset (tokens 0 s)) (rw (read_whole s, k) at e)))

pub long_other : {A : Type 0} (s : Text) (a : PackAnswer) → read_pack s ≡ a → (Refused PackTooLong ≡ a → ⊥)
    → (length s ≤ max_bytes → told (tokens 0 s) (length s) ≡ a → A) → A
long_other s a e unlike f =
    tested (ltb max_bytes (length s))
    (λ k. absurd (unlike (rw (read_whole s, k) at e)))
    (λ k. f (ltb-false max_bytes (length s) k) (rw (read_whole s, k) at e))

short_told : (s : Text) → length s ≤ max_bytes → read_pack s ≡ told (tokens 0 s) (length s)
short_told s h = rw (read_whole s, le-ltb max_bytes (length s) h)

-- ---- 21: "not the pack grammar": "start of the first token or stray byte no well-formed pack could have there, else the length"

whole_well_formed : (us : List Text) (r : RuleTree) → ends (far outset us).state ≡ Whole r → WellFormed us
whole_well_formed us r e =
    let f = far outset us in
    let b = been outset [] us (whole_alive f.state r e) ([], refl, refl, refl) in
    let w = told_rule f.state b.0 r e b.2 in
    (Parted f.rules r, both_in b.3 w.1, b.1 ∙ ap (λ (l : List Text). each of_rule semi f.rules ++ l) w.0)

-- where a reading stops, and back
stops : (ts : List Token) (end a : ℕ) → halt outset ts end ≡ Bad a → Culprit ts a ⊎ Unfinished ts end a
stops ts end a e = go (halts outset ts end a refl e)
  where
    go : There outset ts a ⊎ AtEnd outset ts end a → Culprit ts a ⊎ Unfinished ts end a
    go (inl w) =
        inl (record {
          before = w.before;
          token = w.token;
          after = w.after;
          is = w.is;
          place = w.place;
          some = viable (texts w.before) w.alive;
          none = never (texts w.before ++ (w.token.text ∷ [])) w.dead;
        })
    go (inr w) = inr (record { place = w.place; some = viable (texts ts) w.alive; none = not_ended (texts ts) w.cut })

halts_there : (p : Far) (before : List Token) (t : Token) (after : List Token) (end : ℕ) → is_dead (far p (texts before)).state ≡ false
    → is_dead (far p (texts before ++ (t.text ∷ []))).state ≡ true → halt p (before ++ (t ∷ after)) end ≡ Bad t.at
halts_there p [] t after end v d = rw d
halts_there p (b ∷ before) t after end v d =
    rw (alive_before (onward p b.text) (texts before) v) (halts_there (onward p b.text) before t after end v d)

halts_at_end : (p : Far) (ts : List Token) (end : ℕ) → is_dead (far p (texts ts)).state ≡ false → ends (far p (texts ts)).state ≡ Cut
    → halt p ts end ≡ Bad end
halts_at_end p [] end v c = rw c
halts_at_end p (t ∷ ts) end v c = rw (alive_before (onward p t.text) (texts ts) v) (halts_at_end (onward p t.text) ts end v c)

pub begins_alive : (us : List Text) → Begins us → is_dead (far outset us).state ≡ false
begins_alive us b = tested (is_dead (far outset us).state) (λ k. absurd (never us k b)) (λ k. k)

stopped : (ts : List Token) (end a : ℕ) → Culprit ts a ⊎ Unfinished ts end a → halt outset ts end ≡ Bad a
stopped ts end a (inl w) =
    let us = texts w.before ++ (w.token.text ∷ []) in
    let d = tested {A = is_dead (far outset us).state ≡ true} (is_dead (far outset us).state) (λ k. k) (λ k. absurd (w.none (viable us k))) in
    rw w.is (halts_there outset w.before w.token w.after end (begins_alive (texts w.before) w.some) d ∙ ap Bad w.place)
stopped ts end a (inr w) =
    halts_at_end outset ts end (begins_alive (texts ts) w.some) (go (ends (far outset (texts ts)).state) refl) ∙ ap Bad (sym w.place)
  where
    go : (x : Read) → ends (far outset (texts ts)).state ≡ x → x ≡ Cut
    go (Whole r) e = absurd (w.none (whole_well_formed (texts ts) r e))
    go Cut e = refl

-- 22 to 26 have rows of their own
row_above : (n : ℕ) → 22 ≤ pack_row (row_of n)
row_above n =
    choice P (eqb n 22) (λ _. omega arith)
    (λ _. choice P (eqb n 23) (λ _. omega arith)
    (λ _. choice P (eqb n 24) (λ _. omega arith) (λ _. choice P (eqb n 25) (λ _. omega arith) (λ _. omega arith))))
  where
    P : PackRow → Type 0
    P r = 22 ≤ pack_row r

rows_apart : (n a b : ℕ) → refused_at (row_of n) a ≡ refused_at NotAPack b → ⊥
rows_apart n a b e =
    let k : row_of n ≡ NotAPack = cc in
    let z : pack_row (row_of n) ≡ 21 = ap pack_row k in
    omega (arith, row_above n)

long_not : (row : PackRow) (a : ℕ) → Refused PackTooLong ≡ refused_at row a → ⊥
long_not row a e = let z : ◌≡◌ {A = ℕ} 0 1 = cc in omega arith

abbrev place_in : PackAnswer → ℕ
place_in (Rules rs) = 0
place_in (Refused r) = get_or (figures_of r) 0 0

told_21 : (p : Parsed) (f : Fault) (a : ℕ) → judge p f ≡ refused_at NotAPack a → p ≡ Bad a
told_21 (Bad b) f a e = ap Bad (ap place_in e)
told_21 (Trees rs) None a e = absurd (let z : ◌≡◌ {A = ℕ} 0 1 = cc in omega arith)
told_21 (Trees rs) (At n b) a e = absurd (rows_apart n b a e)

pub row_21 : (s : Text) (a : ℕ)
    → (read_pack s ≡ refused_at NotAPack a) ↔ ((length s ≤ max_bytes) × (Culprit (tokens 0 s) a ⊎ Unfinished (tokens 0 s) (length s) a))
row_21 s a = (to, from)
  where
    to : read_pack s ≡ refused_at NotAPack a → (length s ≤ max_bytes) × (Culprit (tokens 0 s) a ⊎ Unfinished (tokens 0 s) (length s) a)
    to e =
        long_other s (refused_at NotAPack a) e (long_not NotAPack a)
        (λ h k. (h, stops (tokens 0 s) (length s) a (told_21 (halt outset (tokens 0 s) (length s)) (faults outset (tokens 0 s)) a k)))

    from : (length s ≤ max_bytes) × (Culprit (tokens 0 s) a ⊎ Unfinished (tokens 0 s) (length s) a) → read_pack s ≡ refused_at NotAPack a
    from w = short_told s w.0 ∙ ap (λ (p : Parsed). judge p (faults outset (tokens 0 s))) (stopped (tokens 0 s) (length s) a w.1)

-- ---- the pack grammar

pub texts_append : (a b : List Token) → texts (a ++ b) ≡ texts a ++ texts b
texts_append [] b = refl
texts_append (t ∷ a) b = ap (λ (l : List Text). t.text ∷ l) (texts_append a b)

append_cons : (a : List Text) (t : Text) (b : List Text) → (a ++ (t ∷ [])) ++ b ≡ a ++ (t ∷ b)
append_cons [] t b = refl
append_cons (x ∷ a) t b = ap (λ (l : List Text). x ∷ l) (append_cons a t b)

trees_formed : (ts : List Token) (end : ℕ) (rs : List RuleTree) → halt outset ts end ≡ Trees rs → WellFormed (texts ts)
trees_formed ts end rs e = let n = ended outset ts end rs e in whole_well_formed (texts ts) n.0 n.1

formed_trees : (ts : List Token) (end : ℕ) → WellFormed (texts ts) → (rs : List RuleTree) × (halt outset ts end ≡ Trees rs)
formed_trees ts end w = go (halt outset ts end) refl
  where
    no : {a : ℕ} → Culprit ts a ⊎ Unfinished ts end a → ⊥
    no (inl c) =
        let us = texts c.before in
        let e : texts ts ≡ (us ++ (c.token.text ∷ [])) ++ texts c.after =
        ap texts c.is ∙ texts_append c.before (c.token ∷ c.after) ∙ sym (append_cons us c.token.text (texts c.after)) in
        c.none (texts c.after, (w.0, w.1, sym e ∙ w.2))
    no (inr u) = u.none w

    go : (p : Parsed) → halt outset ts end ≡ p → (rs : List RuleTree) × (halt outset ts end ≡ Trees rs)
    go (Trees rs) e = (rs, e)
    go (Bad a) e = absurd (no (stops ts end a e))

-- the tokens of a right tree are read as its rules
pack_halts : (s : Text) (p : PackTree) → right_pack p ≡ true → texts (tokens 0 s) ≡ of_pack p → halt outset (tokens 0 s) (length s) ≡ Trees (rules_of p)
pack_halts s p g e = halt_whole s ∙ ap (behind []) (complete_pack s p g (ap texts (sym (tokens_whole s)) ∙ e))

trees_eq : {rs qs : List RuleTree} → Trees rs ≡ Trees qs → rs ≡ qs
trees_eq e = cc

-- no pack has two trees
snoc_eq : (rs qs : List RuleTree) (r q : RuleTree) → rs ++ (r ∷ []) ≡ qs ++ (q ∷ []) → Parted rs r ≡ Parted qs q
snoc_eq [] [] r q e = let k : r ≡ q = cc in ap (Parted []) k
snoc_eq [] (y ∷ []) r q e = absurd (let z : ◌≡◌ {A = ℕ} 0 1 = cc in omega arith)
snoc_eq [] (y ∷ x ∷ qs) r q e = absurd (let z : ◌≡◌ {A = ℕ} 0 1 = cc in omega arith)
snoc_eq (y ∷ []) [] r q e = absurd (let z : ◌≡◌ {A = ℕ} 0 1 = cc in omega arith)
snoc_eq (y ∷ x ∷ rs) [] r q e = absurd (let z : ◌≡◌ {A = ℕ} 0 1 = cc in omega arith)
snoc_eq (x ∷ rs) (y ∷ qs) r q e =
    let h : x ≡ y = cc in
    let k : rs ++ (r ∷ []) ≡ qs ++ (q ∷ []) = cc in
    ap (behind_rule x) (snoc_eq rs qs r q k) ∙ ap (λ (z : RuleTree). behind_rule z (Parted qs q)) h
  where
    behind_rule : RuleTree → PackTree → PackTree
    behind_rule z (Parted ts t) = Parted (z ∷ ts) t

pub one_tree : (s : Text) (p q : PackTree) → Pack s p → Pack s q → p ≡ q
one_tree s (Parted rs r) (Parted qs q) x y =
    let k = sym (pack_halts s (Parted rs r) x.right x.tokens_are) ∙ pack_halts s (Parted qs q) y.right y.tokens_are in
    snoc_eq rs qs r q (trees_eq k)

-- ---- 22 to 26: the earliest of those that fall, then the lowest

pub fault_none : (n a : ℕ) → fault_at n a ≡ None → n ≡ 0
fault_none n a e = go (eqb n 0) refl e
  where
    go : (b : Bool) → eqb n 0 ≡ b → (if b then None else At n a) ≡ None → n ≡ 0
    go true k e = eqb-true n 0 k
    go false k e = absurd (let z : ◌≡◌ {A = ℕ} 0 1 = cc in omega arith)

row_number : (n : ℕ) → 22 ≤ n → n ≤ 26 → pack_row (row_of n) ≡ n
row_number n a b =
    choice P (eqb n 22) (λ k. sym (eqb-true n 22 k))
    (λ p. choice P (eqb n 23) (λ k. sym (eqb-true n 23 k))
    (λ q. choice P (eqb n 24) (λ k. sym (eqb-true n 24 k))
    (λ r. choice P (eqb n 25) (λ k. sym (eqb-true n 25 k))
    (λ u. last_one (eqb-false n 22 p) (eqb-false n 23 q) (eqb-false n 24 r) (eqb-false n 25 u)))))
  where
    P : PackRow → Type 0
    P r = pack_row r ≡ n

    last_one : (n ≡ 22 → ⊥) → (n ≡ 23 → ⊥) → (n ≡ 24 → ⊥) → (n ≡ 25 → ⊥) → 26 ≡ n
    last_one p q r u = omega arith

told_fault : (p : Parsed) (f : Fault) (n a : ℕ) → judge p f ≡ refused_at (row_of n) a
    → (rs : List RuleTree) × (m : ℕ) × (p ≡ Trees rs) × (f ≡ At m a) × (row_of m ≡ row_of n)
told_fault (Bad b) f n a e = absurd (rows_apart n a b (sym e))
told_fault (Trees rs) None n a e = absurd (let z : ◌≡◌ {A = ℕ} 0 1 = cc in omega arith)
told_fault (Trees rs) (At m b) n a e = (rs, m, refl, ap (At m) (ap place_in e), cc)

-- "22 / 23 / 24 relation value above 999,999 / modulus not listed / a above b", "25 keyword unknown or repeated", "26 clause, relation or range
-- too many": in a well-formed pack, the earliest that falls, and of those there the lowest
pub rows_22_26 : (s : Text) (n a : ℕ) → 22 ≤ n → n ≤ 26 → (read_pack s ≡ refused_at (row_of n) a) ↔ Faulty s n a
rows_22_26 s n a lo hi = (to, from)
  where
    -- a row of the table has one number
    same_number : (p : PackTree) (m : ℕ) → Earliest (tokens 0 s) (pack_rows p) m a → row_of m ≡ row_of n → m ≡ n
    same_number p m w k =
        let r = falls_rows p (tokens 0 s) m a w.falls in
        sym (row_number m r.0 r.1) ∙ ap pack_row k ∙ row_number n lo hi

    to : read_pack s ≡ refused_at (row_of n) a → Faulty s n a
    to e =
        long_other s (refused_at (row_of n) a) e (long_not (row_of n) a)
        (λ h k.
        let w = told_fault (halt outset (tokens 0 s) (length s)) (faults outset (tokens 0 s)) n a k in
        let t = trees_formed (tokens 0 s) (length s) w.0 w.2 in
        let g = (fault_earliest s t.0 t.1 t.2 w.1 a).0 w.3 in
        record {
          tree = t.0;
          pack = record { short = h; right = t.1; tokens_are = t.2 };
          given = subst (λ (m : ℕ). Earliest (tokens 0 s) (pack_rows t.0) m a) (same_number t.0 w.1 g w.4) g;
        })

    from : Faulty s n a → read_pack s ≡ refused_at (row_of n) a
    from w =
        let p = w.pack in
        let r = formed_trees (tokens 0 s) (length s) (w.tree, p.right, p.tokens_are) in
        let e = (fault_earliest s w.tree p.right p.tokens_are n a).1 w.given in
        short_told s p.short ∙ rw (r.1, e)

-- ---- rules

pub told_read : (p : Parsed) (f : Fault) (rs : List Rule) → judge p f ≡ Rules rs → (qs : List RuleTree) × (p ≡ Trees qs) × (f ≡ None) × (rs ≡ map rule_of qs)
told_read (Bad a) f rs e = absurd (let z : ◌≡◌ {A = ℕ} 0 1 = cc in omega arith)
told_read (Trees qs) None rs e = (qs, refl, refl, cc)
told_read (Trees qs) (At n a) rs e = absurd (let z : ◌≡◌ {A = ℕ} 0 1 = cc in omega arith)

pub long_rules : (rs : List Rule) → Refused PackTooLong ≡ Rules rs → ⊥
long_rules rs e = let z : ◌≡◌ {A = ℕ} 0 1 = cc in omega arith

-- SOUND and COMPLETE, on bytes: a pack is read exactly where it is short enough and its tokens are those of a right tree within the bounds
pub read_rules : (s : Text) (rs : List Rule) → (read_pack s ≡ Rules rs) ↔ Tree s rs
read_rules s rs = (to, from)
  where
    to : read_pack s ≡ Rules rs → Tree s rs
    to e =
        long_other s (Rules rs) e (long_rules rs)
        (λ h k.
        let w = told_read (halt outset (tokens 0 s) (length s)) (faults outset (tokens 0 s)) rs k in
        let t = trees_formed (tokens 0 s) (length s) w.0 w.1 in
        record {
          tree = t.0;
          pack = record { short = h; right = t.1; tokens_are = t.2 };
          within = (clean_reading (tokens 0 s) t.0 t.1 t.2).1 w.2;
          rules = w.3 ∙ ap (map rule_of) (trees_eq (sym w.1 ∙ pack_halts s t.0 t.1 t.2));
        })

    from : Tree s rs → read_pack s ≡ Rules rs
    from w =
        let p = w.pack in
        let c = (clean_reading (tokens 0 s) w.tree p.right p.tokens_are).0 w.within in
        short_told s p.short ∙ rw (pack_halts s w.tree p.right p.tokens_are, c) (ap Rules (sym w.rules))
