-- Demand 3: "The pack check passes exactly when no admitted number meets two rules; otherwise it names the first pair and the least number. Shuffling
-- a passed pack changes no answer; adding rules changes only words that were "other"." Stated on bytes, over the definitions that the contracts of
-- `check_text::check` and `select_text::select` cite.
use Rattle.check_laws.specs.declared.Clash.{Clash}
use Rattle.check_laws.specs.Check.{clashing}
use Rattle.std.specs.Prelude.{Err, Ok, Result}
use Rattle.answer.specs.declared.Keyword.{Keyword}
use Rattle.answer.specs.declared.Refusal.{Refusal}
use mathlib.Core.Path.{◌≡◌, refl, sym, ap, ◌∙◌, subst}
use mathlib.Core.Bool.{Bool, true, false}
use mathlib.Core.List.{List, ◌++◌, map, Permᴰ}
use mathlib.Core.Logic.{◌↔◌}
use Prim.Native.Nat.{ℕ, ◌+◌, ◌≤◌, ◌<◌}
use native.Mathlib.Omega.{arith}
use lib.Dec.{eqb, ltb}
use borrow.Author.Tests.{eqb-true, eqb-false, ltb-true, ltb-false}
use Rattle.decimal.proofs.Choices.{tested, never}
use Rattle.answer.specs.declared.Keyword.TheVariants.{Other}
use Rattle.answer.specs.declared.Pair.{Pair}
use Rattle.answer.specs.declared.Witness.{Witness}
use Rattle.answer.specs.declared.Refusal.TheVariants.{Rules as OfRules}
use Rattle.answer.specs.declared.RulesRow.TheVariants.{RulesClash}
use Rattle.number.specs.Reading.{read_number}
use Rattle.number.specs.Admitted.{number_from}
use Rattle.number.specs.declared.Number.{Number}
use Rattle.number.proofs.Admissible.{admitted, four_numbers}
use Rattle.pack_rules.specs.Syntax.{Rule}
use Rattle.pack_grammar.specs.Reader.{PackAnswer, read_pack, segments}
use Rattle.pack_grammar.specs.Reader.PackAnswer.{Rules, Refused as PackRefused}
use Rattle.pack_grammar.specs.Segment.{AreRules, segment_rule}
use Rattle.pack_grammar.proofs.Shuffle.{perm_rules, rules_are, added_rules as read-added, shuffle as read-shuffle, larger as read-larger}
use Rattle.select.specs.Select.{met_by, first_met, second_met}
use Rattle.select.specs.Words.{MeetsAt}
use Rattle.select.proofs.Chosen.{counted, behind_counted, first_le, first_meets, second_meets, met_sign}
use Rattle.check_laws.specs.Check.{number_at, check_of}
use Rattle.check_laws.specs.Claims.{IsAdmitted, AllApart, Lowest, Claims}
use Rattle.check_laws.proofs.Claimed.{check_claims, passes_apart, apart_passes}
use Rattle.check_text.specs.Check.{checked_by, check_pack}
use Rattle.select_text.specs.Select.{select_number, select_of}
use Rattle.demands.specs.Verdicts.{NumberVerdict, PackVerdict, SelectVerdict}
use Rattle.demands.specs.Packs.{Passed, Shuffle, Larger, Grown}
use Rattle.demands.proofs.Given.{number_given, number_found, pack_given, select_given, select_found}
use Rattle.demands.proofs.Counts.{met, word_met, selected, met_perm, word_perm, met_append, word_append, word_added, word_none, word_of, some_met, at_index, index_at}

-- ---- (a) "a pack to which none of 20 to 26 applies passes exactly when no admitted number meets the conditions of two of its rules"

passing : (pack : List ℕ) (rules : List Rule) → read_pack pack ≡ Rules rules → Passed pack ↔ AllApart rules
passing pack rules e = (λ p. passes_apart rules (unchecked (check_of rules) (rw e at p)), λ h. rw (e, apart_passes rules h))
  where
    unchecked : (c : Result (Unit {0}) Clash) → checked_by c ≡ Ok tt → c ≡ Ok tt
    unchecked (Ok tt) q = refl
    unchecked (Err c) q = never (cc)

pub passes_exactly : (pack : List ℕ) (rules : List Rule) → PackVerdict pack (Rules rules) → Passed pack ↔ AllApart rules
passes_exactly pack rules v = passing pack rules (pack_given pack v)

-- ---- (b) "the pair named is met by a single admitted number, every other such pair comes later, the number named meets both, and every other number that
-- does comes later"

pub names_the_first : (pack : List ℕ) (rules : List Rule) (pair : Pair) (x : Witness) → PackVerdict pack (Rules rules) → check_pack pack ≡ Err (OfRules (RulesClash pair x))
    → (i : ℕ) × (j : ℕ) × (pair.first ≡ 1 + i) × (pair.second ≡ 1 + j) × Lowest rules i j x
names_the_first pack rules pair x v c = subst (Claims 1 rules) (clashed (check_of rules) (rw (pack_given pack v) at c)) (check_claims rules)
  where
    clashed : (r : Result (Unit {0}) Clash) → checked_by r ≡ Err (OfRules (RulesClash pair x)) → r ≡ clashing pair x
    clashed (Ok tt) q = never (cc)
    clashed (Err c) q =
        let p : c.pair ≡ pair = cc in
        let w : c.witness ≡ x = cc in
        ap (λ (d : Pair). clashing d c.witness) p ∙ ap (clashing pair) w

-- a pack that is read and does not pass gets 27: no other refusal is left
pub else_27 : (pack : List ℕ) (rules : List Rule) → PackVerdict pack (Rules rules) → (Passed pack → ⊥) → (pair : Pair) × ((x : Witness) × (check_pack pack ≡ Err (OfRules (RulesClash pair x))))
else_27 pack rules v n = by (check_of rules) refl
  where
    e : read_pack pack ≡ Rules rules
    e = pack_given pack v

    by : (c : Result (Unit {0}) Clash) → check_of rules ≡ c → (pair : Pair) × ((x : Witness) × (check_pack pack ≡ Err (OfRules (RulesClash pair x))))
    by (Ok tt) q = absurd (n (rw (e, q)))
    by (Err c) q = (c.pair, (c.witness, rw (e, q)))

-- ---- at most one rule is met, of a passed pack

few : (rules : List Rule) → AllApart rules → (w : Witness) → IsAdmitted w → met rules (number_at w) ≤ 1
few rules h w a = tested (ltb 1 (met rules (number_at w))) (λ k. absurd (two (ltb-true 1 (met rules (number_at w)) k))) (λ k. ltb-false 1 (met rules (number_at w)) k)
  where
    two : 1 < met rules (number_at w) → ⊥
    two k =
        let bs = met_by rules (number_at w) in
        let f = at_index (number_at w) (first_meets (number_at w) rules (omega arith)) in
        let s = at_index (number_at w) (second_meets (number_at w) rules k) in
        h (first_met bs) (second_met bs) (omega arith) s.0 w (record { admitted = a; first = f.1; second = s.1 })

apart_of_few : (rules : List Rule) → ((w : Witness) → IsAdmitted w → met rules (number_at w) ≤ 1) → AllApart rules
apart_of_few rules h i j l b w m =
    let q = index_at (number_at w) rules j b m.second in
    let p = index_at (number_at w) rules i (omega arith) m.first in
    omega (arith, h w m.admitted, behind_counted (number_at w) q (omega (arith, first_le (number_at w) p)))

-- the number that any text is read as
read_few : (rules : List Rule) → AllApart rules → (s : List ℕ) (n : Number) → read_number s ≡ Ok n → met rules n ≤ 1
read_few rules h s n e =
    subst (λ (m : Number). met rules m ≤ 1) (sym (four_numbers s n e))
    (signed n.negative (few rules h (record { e = n.e; v = n.v; i = n.i; f = n.f }) (admitted s n e)))
  where
    signed : (b : Bool) → met rules (number_from false n.e n.v.0 n.i n.f.0) ≤ 1 → met rules (number_from b n.e n.v.0 n.i n.f.0) ≤ 1
    signed false k = k
    signed true k = rw (met_sign rules (number_from false n.e n.v.0 n.i n.f.0)) k

-- the rules of a passed pack
passed_rules : (pack : List ℕ) → Passed pack → (rules : List Rule) × ((read_pack pack ≡ Rules rules) × AllApart rules)
passed_rules pack p = by (read_pack pack) refl
  where
    by : (a : PackAnswer) → read_pack pack ≡ a → (rules : List Rule) × ((read_pack pack ≡ Rules rules) × AllApart rules)
    by (Rules rules) e = (rules, (e, (passing pack rules e).0 p))
    by (PackRefused f) e =
        let q : Err f ≡ (Ok tt) = rw e at p in
        never (cc)

-- ---- (c) "every shuffle of a passed pack passes, and selection answers the same under both for any bytes as the number, refused numbers included"

same_words : (rs qs : List Rule) → Permᴰ rs qs → AllApart rs → AllApart qs → (s : List ℕ) (r : Result Number Refusal) → read_number s ≡ r → select_number qs r ≡ select_number rs r
same_words rs qs d h k s (Ok n) e =
    selected n qs (read_few qs k s n e) ∙ ap Ok (sym (word_perm n d (read_few rs h s n e))) ∙ sym (selected n rs (read_few rs h s n e))
same_words rs qs d h k s (Err f) e = refl

same_shuffled : (pack other : List ℕ) → Shuffle pack other → Passed pack → Passed other × ((number : List ℕ) → select_of other number ≡ select_of pack number)
same_shuffled pack other d p =
    let a = passed_rules pack p in
    let rs = a.0 in
    let t = read-shuffle pack other rs d a.1.0 in
    let qs = map segment_rule (segments other) in
    let dr : Permᴰ rs qs = subst (λ (l : List Rule). Permᴰ l qs) (sym t.0) (perm_rules d) in
    let k : AllApart qs = apart_of_few qs (λ w h. rw (← (met_perm (number_at w) dr)) (few rs a.1.1 w h)) in
    ((passing other qs t.1).1 k, λ number. rw (t.1, a.1.0) (same_words rs qs dr a.1.1 k number (read_number number) refl))

-- what is due under the pack, by the table and demand 2, is what is answered under the shuffle
pub shuffled : (pack other : List ℕ) → Shuffle pack other → Passed pack
    → Passed other × ((number : List ℕ) (c : Result Keyword Refusal) → SelectVerdict pack number c → select_of other number ≡ c)
shuffled pack other d p = let s = same_shuffled pack other d p in (s.0, λ number c v. s.1 number ∙ select_given pack number v)

-- ---- (d) "if a larger pack passes too, every admitted number keeps its word, except that one which had "other" and meets an added rule has that rule's word"

-- the added segments are rules
pub added_rules : (smaller : List ℕ) (added : List (List ℕ)) (larger : List ℕ) → Larger smaller added larger → Passed larger → (rules : List Rule) × AreRules added rules
added_rules smaller added larger d q =
    let b = passed_rules larger q in
    (map segment_rule added, read-added smaller larger added b.0 d b.1.0)

pub grown : (smaller : List ℕ) (added : List (List ℕ)) (larger number : List ℕ) (rules : List Rule) → Larger smaller added larger → AreRules added rules
    → Passed smaller → Passed larger → Grown smaller larger number rules
grown smaller added larger number rules d r p q =
    let a = passed_rules smaller p in
    let b = passed_rules larger q in
    subst (Grown smaller larger number) (sym (rules_are r))
    (by a.0 b.0 a.1.0 b.1.0 a.1.1 b.1.1 (read-larger smaller larger added a.0 b.0 d a.1.0 b.1.0) (read_number number) refl)
  where
    by : (rs qs : List Rule) → read_pack smaller ≡ Rules rs → read_pack larger ≡ Rules qs → AllApart rs → AllApart qs → Permᴰ (rs ++ map segment_rule added) qs
        → (r : Result Number Refusal) → read_number number ≡ r → Grown smaller larger number (map segment_rule added)
    by rs qs e f h k dr (Err g) n =
        record {
          named = λ j w m.
              let z : Err g ≡ Ok m.operands = sym n ∙ number_given number m.number_read in
              never (cc);
          kept = λ m c v.
              let same : select_of larger number ≡ select_of smaller number = rw (e, f, n) in
              same ∙ select_given smaller number v;
        }
    by rs qs e f h k dr (Ok x) n =
        let mr = read_few rs h number x n in
        let mq = read_few qs k number x n in
        let both-few : met (rs ++ map segment_rule added) x ≤ 1 = rw (met_perm x dr) mq in
        let sum = met_append x rs (map segment_rule added) in
        let word-q : select_of larger number ≡ Ok (word_met (rs ++ map segment_rule added) x) = rw (f, n) (selected x qs mq ∙ ap Ok (sym (word_perm x dr both-few))) in
        let word-r : select_of smaller number ≡ Ok (word_met rs x) = rw (e, n) (selected x rs mr) in
        record {
          named = λ j w m.
              let same : m.operands ≡ x = read_as (read_number number) (number_given number m.number_read) n in
              let at = subst (λ (y : Number). MeetsAt y (map segment_rule added) j w) same m.meets_it in
              let none : met rs x ≡ 0 = omega (arith, sum, both-few, counted x at) in
              word-q ∙ ap Ok (word_added x rs (map segment_rule added) none ∙ word_of x at (omega (arith, sum, both-few)));
          kept = λ m c v.
              (tested (eqb (met rs x) 0)
              (λ z.
              let none = eqb-true (met rs x) 0 z in
              let other : word_met rs x ≡ Other = word_none x rs none in
              tested (eqb (met (map segment_rule added) x) 0)
              (λ y. word-q ∙ ap Ok (word_added x rs (map segment_rule added) none ∙ word_none x (map segment_rule added) (eqb-true (met (map segment_rule added) x) 0 y) ∙ sym other) ∙ sym word-r)
              (λ y.
              let s = some_met x (map segment_rule added) (pos (eqb-false (met (map segment_rule added) x) 0 y)) in
              absurd (m s.0 (word_met (map segment_rule added) x) (record { had_other = subst (SelectVerdict smaller number) (word-r ∙ ap Ok other) (select_found smaller number); operands = x; number_read = subst (NumberVerdict number) n (number_found number); meets_it = s.1 }))))
              (λ z. word-q ∙ ap Ok (word_append x rs (map segment_rule added) (pos (eqb-false (met rs x) 0 z))) ∙ sym word-r))
              ∙ select_given smaller number v;
        }
      where
        pos : {m : ℕ} → (m ≡ 0 → ⊥) → 0 < m
        pos {m} g = omega arith

        read_as : (c : Result Number Refusal) {y : Number} → c ≡ Ok y → c ≡ Ok x → y ≡ x
        read_as c o q = cc
