-- What a pack that is read gives: the rule of each segment. So a shuffle of it is read too, and a larger pack's rules are its own and the added ones.
use mathlib.Core.Path.{◌≡◌, refl, sym, ap, ◌∙◌}
use mathlib.Core.Bool.{Bool, true, false, not}
use mathlib.Core.List.Permᴰ
use mathlib.Core.List.{List, [], ◌∷◌, ◌++◌, map, Permᴰ}
use Prim.Native.Nat.{ℕ, suc, ◌+◌, ◌≤◌, ◌<◌}
use native.Mathlib.Omega.{arith}
use lib.Dec.{eqb, ltb}
use lib.ListN.{length}
use borrow.Author.Tests.{eqb-true, eqb-false, eq-eqb, ne_eqb, ltb-false, le-ltb}
use Rattle.decimal.specs.Split.{on_first}
use Rattle.std.specs.Prelude.{if◌then◌else◌}
use Rattle.decimal.specs.Choice.{both}
use Rattle.pack_token.specs.Spelling.{same, among}
use Rattle.pack_grammar.specs.Grammar.{Text, RuleTree, of_rule, right_rule}
use Rattle.pack_grammar.specs.Steps.{steps, Read, ends}
use Rattle.pack_grammar.specs.Steps.State.{WantsName}
use Rattle.pack_grammar.specs.Steps.Read.{Whole, Cut}
use Rattle.pack_grammar.specs.Limits.{max_bytes}
use Rattle.pack_grammar.specs.Segment.{words, AreRules, none, more, or_any, read_of, tree_of, segment_rule}
use Rattle.pack_token.specs.Token.{tokens}
use Rattle.pack_grammar.specs.Reader.{segments, Stop, stop, Fault, fault_in, again, keyword_in, Parsed, and_then, rules_from, fault_from, judge, read_pack}
use Rattle.pack_grammar.specs.Reader.Stop.{Fine, Stuck}
use Rattle.pack_grammar.specs.Reader.Fault.{None, At}
use Rattle.pack_grammar.specs.Reader.Parsed.{Trees, Bad}
use Rattle.pack_grammar.specs.Reader.PackAnswer.{Rules, Refused}
use Rattle.pack_grammar.specs.RuleOf.{rule_of}
use Rattle.answer.specs.declared.Refusal.TheVariants.{PackTooLong}
use Rattle.pack_rules.specs.Syntax.{Rule}
use Rattle.pack_token.proofs.Spellings.{both_0, both_1}
use Rattle.pack_grammar.proofs.Laws.{no_way, map_append}
use Rattle.pack_grammar.proofs.Sound.{sound}
use Rattle.pack_grammar.proofs.Complete.{complete}
use Rattle.pack_grammar.proofs.Places.{words_at, fine_whole, whole_fine, clean, or_0, or_1, none_clean, clean_none, first_of, keyword_first, fresh, again_fresh, fresh_again}
use Rattle.decimal.proofs.Choices.{both_in}
use Rattle.decimal.specs.Lists.{all}

abbrev is_whole : Read → Bool
is_whole (Whole r) = true
is_whole Cut = false

-- a segment that is a rule without a fault
abbrev pub good : Text → Bool
good x = both (is_whole (read_of x)) (clean WantsName (words x))

-- no two keywords are the same, and none is among those
abbrev pub apart : List Text → List Text → Bool
apart used [] = true
apart used (x ∷ xs) = both (fresh used (words x)) (apart (first_of (words x) ∷ used) xs)

whole_or : (x : Read) → is_whole x ≡ true → x ≡ Whole (or_any x)
whole_or (Whole r) e = refl
whole_or Cut e = no_way (sym e)

bad_rules : {A : Type 0} {p : ℕ} {rs : List RuleTree} → Bad p ≡ Trees rs → A
bad_rules e = absurd (let z : ◌≡◌ {A = ℕ} 0 1 = cc in omega arith)

-- what follows from a reading
pub then_fine : (s : Stop) (p : Parsed) (rs : List RuleTree) → and_then s p ≡ Trees rs
    → (r : RuleTree) × (qs : List RuleTree) × (s ≡ Fine r) × (p ≡ Trees qs) × (rs ≡ r ∷ qs)
then_fine (Stuck a) p rs e = bad_rules e
then_fine (Fine r) (Trees qs) rs e = (r, qs, refl, refl, cc)
then_fine (Fine r) (Bad a) rs e = bad_rules e

pub record Fits (used xs : List Text) (rs : List RuleTree) : Type 0 where
  pub goods : all good xs ≡ true
  pub news : apart used xs ≡ true
  pub rules : rs ≡ map tree_of xs

pub fits : (used : List Text) (at : ℕ) (xs : List Text) (rs : List RuleTree) → rules_from at xs ≡ Trees rs → fault_from used at xs ≡ None → Fits used xs rs
fits used at [] rs e f = record { goods = refl; news = refl; rules = cc }
fits used at (x ∷ xs) rs e f =
    let a = then_fine (stop WantsName (tokens at x) (at + length x)) (rules_from (suc (at + length x)) xs) rs e in
    let w : read_of x ≡ Whole a.0 = rw (words_at at x) at (fine_whole WantsName (tokens at x) (at + length x) a.0 a.2) in
    let g1 = or_1 (again used (tokens at x)) _ f in
    let g2 = or_1 (fault_in WantsName (tokens at x)) _ g1 in
    let c : clean WantsName (words x) ≡ true = rw (words_at at x) at (none_clean WantsName (tokens at x) (or_0 (fault_in WantsName (tokens at x)) _ g1)) in
    let n : fresh used (words x) ≡ true = rw (words_at at x) at (again_fresh used (tokens at x) (or_0 (again used (tokens at x)) _ f)) in
    let k : keyword_in (tokens at x) ≡ first_of (words x) = keyword_first (tokens at x) ∙ ap first_of (words_at at x) in
    let ih = fits (first_of (words x) ∷ used) (suc (at + length x)) xs a.1 a.3 (rw k at g2) in
    record {
      goods = both_in (both_in (ap is_whole w) c) ih.goods;
      news = both_in n ih.news;
      rules = a.4 ∙ ap (λ (r : RuleTree). r ∷ a.1) (sym (ap or_any w)) ∙ ap (λ (l : List RuleTree). tree_of x ∷ l) ih.rules;
    }

-- and back
rules_of : (at : ℕ) (xs : List Text) → all good xs ≡ true → rules_from at xs ≡ Trees (map tree_of xs)
rules_of at [] g = refl
rules_of at (x ∷ xs) g =
    let h = both_0 (good x) (all good xs) g in
    let w = ap (λ (l : List Text). ends (steps WantsName l)) (words_at at x) ∙ whole_or (read_of x) (both_0 (is_whole (read_of x)) _ h) in
    rw (rules_of (suc (at + length x)) xs (both_1 (good x) (all good xs) g))
    (ap (λ (s : Stop). and_then s (Trees (map tree_of xs))) (whole_fine WantsName (tokens at x) (at + length x) (tree_of x) w))

no_fault : (used : List Text) (at : ℕ) (xs : List Text) → all good xs ≡ true → apart used xs ≡ true → fault_from used at xs ≡ None
no_fault used at [] g n = refl
no_fault used at (x ∷ xs) g n =
    let h = both_0 (good x) (all good xs) g in
    let k : keyword_in (tokens at x) ≡ first_of (words x) = keyword_first (tokens at x) ∙ ap first_of (words_at at x) in
    let p = fresh_again used (tokens at x) (ap (fresh used) (words_at at x) ∙ both_0 (fresh used (words x)) _ n) in
    let q = clean_none WantsName (tokens at x) (ap (clean WantsName) (words_at at x) ∙ both_1 (is_whole (read_of x)) _ h) in
    let r = no_fault (first_of (words x) ∷ used) (suc (at + length x)) xs (both_1 (good x) (all good xs) g) (both_1 (fresh used (words x)) _ n) in
    rw (p, q, k) r

eqb_sym : (a b : ℕ) → eqb a b ≡ eqb b a
eqb_sym a b = go (eqb a b) refl
  where
    go : (t : Bool) → eqb a b ≡ t → t ≡ eqb b a
    go true e = sym (eq-eqb b a (sym (eqb-true a b e)))
    go false e = sym (ne_eqb b a (λ k. eqb-false a b e (sym k)))

-- Shuffles
perm_good : {xs ys : List Text} → Permᴰ xs ys → all good xs ≡ true → all good ys ≡ true
perm_good Permᴰ.nil g = g
perm_good (Permᴰ.cons {a = x} {b = y} {l₁ = xs} e d) g =
    both_in (sym (ap good e) ∙ both_0 (good x) (all good xs) g) (perm_good d (both_1 (good x) (all good xs) g))
perm_good (Permᴰ.swap {a = x} {b = y} {l = l} e f) g =
    let h = both_1 (good x) (both (good y) (all good l)) g in
    both_in (sym (ap good f) ∙ both_0 (good y) (all good l) h)
    (both_in (sym (ap good e) ∙ both_0 (good x) (both (good y) (all good l)) g) (both_1 (good y) (all good l) h))
perm_good (Permᴰ.trans d e) g = perm_good e (perm_good d g)

fresh_same : (u v : List Text) → ((t : Text) → among t u ≡ among t v) → (ts : List Text) → fresh u ts ≡ fresh v ts
fresh_same u v h [] = refl
fresh_same u v h (t ∷ ts) = ap not (h t)

apart_same : (u v xs : List Text) → ((t : Text) → among t u ≡ among t v) → apart u xs ≡ apart v xs
apart_same u v [] h = refl
apart_same u v (x ∷ xs) h =
    let k = first_of (words x) in
    rw (fresh_same u v h (words x), apart_same (k ∷ u) (k ∷ v) xs (λ t. ap (λ (b : Bool). if same t k then true else b) (h t)))

pub same_sym : (s t : Text) → same s t ≡ same t s
same_sym [] [] = refl
same_sym [] (y ∷ t) = refl
same_sym (x ∷ s) [] = refl
same_sym (x ∷ s) (y ∷ t) = rw (same_sym s t, eqb_sym x y)

-- a keyword is new after another: either order
two : (a b : Text) (u : List Text) (t : Text) → among t (a ∷ b ∷ u) ≡ among t (b ∷ a ∷ u)
two a b u t = go (same t a) (same t b)
  where
    go : (p q : Bool) → (if p then true else if q then true else among t u) ≡ (if q then true else if p then true else among t u)
    go true true = refl
    go true false = refl
    go false true = refl
    go false false = refl

not_among : (t k : Text) (u : List Text) → not (among t (k ∷ u)) ≡ true → (same t k ≡ false) × (not (among t u) ≡ true)
not_among t k u e = go (same t k) refl e
  where
    go : (b : Bool) → same t k ≡ b → not (if b then true else among t u) ≡ true → (same t k ≡ false) × (not (among t u) ≡ true)
    go true p e = no_way (sym e)
    go false p e = (p, e)

among_not : (t k : Text) (u : List Text) → same t k ≡ false → not (among t u) ≡ true → not (among t (k ∷ u)) ≡ true
among_not t k u p e = rw p e

swap_fresh : (xs ys used : List Text) → is_whole (ends (steps WantsName xs)) ≡ true → is_whole (ends (steps WantsName ys)) ≡ true
    → fresh used xs ≡ true → fresh (first_of xs ∷ used) ys ≡ true → (fresh used ys ≡ true) × (fresh (first_of ys ∷ used) xs ≡ true)
swap_fresh [] ys used g h p q = no_way (sym g)
swap_fresh (a ∷ us) [] used g h p q = no_way (sym h)
swap_fresh (a ∷ us) (b ∷ vs) used g h p q =
    let n = not_among b a used q in
    (n.1, among_not a b used (same_sym a b ∙ n.0) p)

perm_apart : {xs ys : List Text} → Permᴰ xs ys → (used : List Text) → all good xs ≡ true → apart used xs ≡ true → apart used ys ≡ true
perm_apart Permᴰ.nil used g n = n
perm_apart (Permᴰ.cons {a = x} {b = y} {l₁ = xs} {l₂ = ys} e d) used g n =
    let m = perm_apart d (first_of (words x) ∷ used) (both_1 (good x) (all good xs) g) (both_1 (fresh used (words x)) _ n) in
    both_in (sym (ap (λ (z : Text). fresh used (words z)) e) ∙ both_0 (fresh used (words x)) _ n)
    (sym (ap (λ (z : Text). apart (first_of (words z) ∷ used) ys) e) ∙ m)
perm_apart (Permᴰ.swap {a = x} {b = y} {a' = y'} {b' = x'} {l = l} e f) used g n =
    let g1 = both_1 (good x) (both (good y) (all good l)) g in
    let n1 = both_1 (fresh used (words x)) _ n in
    let z = swap_fresh (words x) (words y) used (both_0 (is_whole (read_of x)) _ (both_0 (good x) (both (good y) (all good l)) g)) (both_0 (is_whole (read_of y)) _ (both_0 (good y) (all good l) g1))
    (both_0 (fresh used (words x)) _ n) (both_0 (fresh (first_of (words x) ∷ used) (words y)) _ n1) in
    let w = both_1 (fresh (first_of (words x) ∷ used) (words y)) _ n1 in
    let v : apart used (y ∷ x ∷ l) ≡ true = both_in z.0 (both_in z.1 (apart_same (first_of (words x) ∷ first_of (words y) ∷ used) (first_of (words y) ∷ first_of (words x) ∷ used) l (two (first_of (words x)) (first_of (words y)) used) ∙ w)) in
    sym (ap (λ (q : Text). apart used (q ∷ x' ∷ l)) f) ∙ sym (ap (λ (q : Text). apart used (y ∷ q ∷ l)) e) ∙ v
perm_apart (Permᴰ.trans d e) used g n = perm_apart e used (perm_good d g) (perm_apart d used g n)

-- ---- how long: a shuffle keeps it

abbrev total : List Text → ℕ
total [] = 0
total (x ∷ xs) = suc (length x + total xs)

total_first : (b : ℕ) (l : List Text) → 0 < length l → total (on_first b l) ≡ suc (total l)
total_first b [] h = absurd (no h)
  where
    no : 0 < 0 → ⊥
    no k = omega arith
total_first b (x ∷ xs) h = omega arith

pub some_segment : (s : Text) → 0 < length (segments s)
some_segment [] = omega arith
some_segment (b ∷ s) = go (eqb b 59) (segments s)
  where
    go : (x : Bool) (l : List Text) → 0 < length (if x then [] ∷ l else on_first b l)
    go true l = omega arith
    go false [] = omega arith
    go false (y ∷ ys) = omega arith

total_segments : (s : Text) → total (segments s) ≡ suc (length s)
total_segments [] = refl
total_segments (b ∷ s) = go (eqb b 59) (total_segments s)
  where
    go : (x : Bool) → total (segments s) ≡ suc (length s) → total (if x then [] ∷ segments s else on_first b (segments s)) ≡ suc (suc (length s))
    go true e = omega arith
    go false e = total_first b (segments s) (some_segment s) ∙ ap suc e

perm_total : {xs ys : List Text} → Permᴰ xs ys → total xs ≡ total ys
perm_total Permᴰ.nil = refl
perm_total (Permᴰ.cons e d) = omega (arith, ap length e, perm_total d)
perm_total (Permᴰ.swap e f) = omega (arith, ap length e, ap length f)
perm_total (Permᴰ.trans d e) = perm_total d ∙ perm_total e

-- ---- a pack that is read

is_fine : (l : Bool) (p : Parsed) (f : Fault) (rs : List Rule) → (if l then Refused PackTooLong else judge p f) ≡ Rules rs
    → (l ≡ false) × (qs : List RuleTree) × (p ≡ Trees qs) × (f ≡ None) × (rs ≡ map rule_of qs)
is_fine true p f rs e = absurd (let z : ◌≡◌ {A = ℕ} 0 1 = cc in omega arith)
is_fine false (Bad a) f rs e = absurd (let z : ◌≡◌ {A = ℕ} 0 1 = cc in omega arith)
is_fine false (Trees qs) None rs e = (refl, qs, refl, refl, cc)
is_fine false (Trees qs) (At n a) rs e = absurd (let z : ◌≡◌ {A = ℕ} 0 1 = cc in omega arith)

-- of a segment whose tokens are those of a right rule, it is that rule's
pub segment_rule_law : (x : Text) (r : RuleTree) → right_rule r ≡ true → words x ≡ of_rule r → segment_rule x ≡ rule_of r
segment_rule_law x r g e = ap (λ (l : List Text). rule_of (or_any (ends (steps WantsName l)))) e ∙ ap (λ (q : Read). rule_of (or_any q)) (complete r g)

-- the rules of segments are those that they are read as
pub rules_are : {xs : List Text} {rs : List Rule} → AreRules xs rs → rs ≡ map segment_rule xs
rules_are none = refl
rules_are (more {x = x} {r = r} {xs = xs} {rs = rs} w d) =
    ap (λ (q : Rule). q ∷ rs) (w.stands_for ∙ sym (segment_rule_law x w.tree w.right w.tokens_are))
    ∙ ap (λ (l : List Rule). segment_rule x ∷ l) (rules_are d)

-- segments without a fault are rules
are_rules : (xs : List Text) → all good xs ≡ true → AreRules xs (map segment_rule xs)
are_rules [] g = none
are_rules (x ∷ xs) g =
    let w = both_0 (is_whole (read_of x)) (clean WantsName (words x)) (both_0 (good x) (all good xs) g) in
    let h = sound (words x) (tree_of x) (whole_or (read_of x) w) in
    more (record { tree = tree_of x; right = h.1; tokens_are = h.0; stands_for = refl }) (are_rules xs (both_1 (good x) (all good xs) g))

good_behind : (xs ys : List Text) → all good (xs ++ ys) ≡ true → all good ys ≡ true
good_behind [] ys g = g
good_behind (x ∷ xs) ys g = good_behind xs ys (both_1 (good x) (all good (xs ++ ys)) g)

map_map : (xs : List Text) → map rule_of (map tree_of xs) ≡ map segment_rule xs
map_map [] = refl
map_map (x ∷ xs) = ap (λ (l : List Rule). segment_rule x ∷ l) (map_map xs)

pub record ReadFrom (s : Text) (rs : List Rule) : Type 0 where
  pub short : length s ≤ max_bytes
  pub goods : all good (segments s) ≡ true
  pub news : apart [] (segments s) ≡ true
  pub rules : rs ≡ map segment_rule (segments s)

-- a pack is read exactly where it is short enough and each segment is a rule without a fault, of a keyword of its own; its rules are those of its
-- segments, in their order
pub own_rules : (s : Text) (rs : List Rule) → read_pack s ≡ Rules rs → ReadFrom s rs
own_rules s rs e =
    let f = is_fine (ltb max_bytes (length s)) (rules_from 0 (segments s)) (fault_from [] 0 (segments s)) rs e in
    let g = fits [] 0 (segments s) f.1 f.2 f.3 in
    record {
      short = ltb-false max_bytes (length s) f.0;
      goods = g.goods;
      news = g.news;
      rules = f.4 ∙ ap (map rule_of) g.rules ∙ map_map (segments s);
    }

pub reads : (s : Text) (rs : List Rule) → ReadFrom s rs → read_pack s ≡ Rules rs
reads s rs h =
    let l : ltb max_bytes (length s) ≡ false = le-ltb max_bytes (length s) h.short in
    rw (l, rules_of 0 (segments s) h.goods, no_fault [] 0 (segments s) h.goods h.news) (ap Rules (map_map (segments s) ∙ sym h.rules))

-- "A shuffle of a pack holds the same rules in any order, each with all the bytes it had between its semicolons or the pack's ends": it is read
-- too, and every segment gives the rule that it gave
pub shuffle : (s t : Text) (rs : List Rule) → Permᴰ (segments s) (segments t) → read_pack s ≡ Rules rs
    → (rs ≡ map segment_rule (segments s)) × (read_pack t ≡ Rules (map segment_rule (segments t)))
shuffle s t rs d e =
    let o = own_rules s rs e in (
      o.rules,
      reads t (map segment_rule (segments t))
          (record {
            short = omega (arith, o.short, total_segments s, total_segments t, perm_total d);
            goods = perm_good d o.goods;
            news = perm_apart d [] o.goods o.news;
            rules = refl;
          }),
    )

-- rules shuffled alike
pub perm_rules : {xs ys : List Text} → Permᴰ xs ys → Permᴰ (map segment_rule xs) (map segment_rule ys)
perm_rules Permᴰ.nil = Permᴰ.nil
perm_rules (Permᴰ.cons e d) = Permᴰ.cons (ap segment_rule e) (perm_rules d)
perm_rules (Permᴰ.swap e f) = Permᴰ.swap (ap segment_rule e) (ap segment_rule f)
perm_rules (Permᴰ.trans d e) = Permᴰ.trans (perm_rules d) (perm_rules e)

-- "A larger pack holds all rules of the smaller, byte for byte likewise and in any order, and besides them rules": its rules are the smaller's and
-- those of the added segments, in some order
pub larger : (s t : Text) (added : List Text) (rs qs : List Rule) → Permᴰ (segments s ++ added) (segments t)
    → read_pack s ≡ Rules rs → read_pack t ≡ Rules qs → Permᴰ (rs ++ map segment_rule added) qs
larger s t added rs qs d e f =
    let a = (own_rules s rs e).rules in
    let b = (own_rules t qs f).rules in
    rw (a, b, ← (map_append segment_rule (segments s) added)) (perm_rules d)

-- the segments added to make a larger pack that is read are rules
pub added_rules : (s t : Text) (added : List Text) (qs : List Rule) → Permᴰ (segments s ++ added) (segments t) → read_pack t ≡ Rules qs
    → AreRules added (map segment_rule added)
added_rules s t added qs d e = are_rules added (good_behind (segments s) added (perm_good (Permᴰ.symm d) (own_rules t qs e).goods))
