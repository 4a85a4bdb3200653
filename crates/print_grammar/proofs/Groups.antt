-- Where group symbols stand: "The primary group is the places after the last comma; the secondary those between the last two, else equal to the primary.";
-- "Grouping then starts when the integer digits, added zeros included, number at least the primary group plus that value."
use mathlib.Core.Path.{◌≡◌, refl, ap, ◌∙◌}
use mathlib.Core.Bool.{true, false}
use mathlib.Core.List.{List, [], ◌∷◌, ◌++◌, append_assoc}
use mathlib.Core.Logic.{◌↔◌}
use Prim.Native.Nat.{ℕ, ◌+◌, ◌*◌, ◌-◌, ◌/◌, ◌%◌, ◌≤◌, ◌<◌}
use native.Mathlib.Omega.{arith}
use native.Mathlib.Nat.{div-add-mod'}
use borrow.Author.Tests.{lt-ltb, le-ltb, eq-eqb, ne_eqb, eqb-true, eqb-false, ltb-true, ltb-false}
use lib.Arith.{digits_mod}
use lib.Dec.{ltb, eqb}
use lib.ListN.{length}
use Rattle.decimal.proofs.Choices.{tested, not_both}
use Rattle.layout.specs.Layout.{spell, spelled, mark, group_size, grouped}
use Rattle.print_grammar.specs.Digits.{GroupEnds, SymbolStands}

-- ---- behind a digit with `left` digits to come

-- a group ends exactly where the definition says so of its sizes
ends_sound : (primary secondary left : ℕ) → mark primary secondary left ≡ true → GroupEnds primary secondary left
ends_sound p q left e =
    tested (eqb p 0) (λ a. not_both e (rw a))
    (λ a. tested (ltb left p) (λ b. not_both e (rw (a, b)))
    (λ b.
    let z : (left - p) % q ≡ 0 = eqb-true ((left - p) % q) 0 (rw (a, b) at e) in
    let l = ltb-false left p b in
    let n = eqb-false p 0 a in
    record { some = omega arith; groups = (left - p) / q; to_come = omega (arith, div-add-mod' (left - p) q) }))

ends_complete : (primary secondary left : ℕ) → 0 < secondary → GroupEnds primary secondary left → mark primary secondary left ≡ true
ends_complete p q left h g =
    let k = g.groups in
    let e : left - p ≡ k * q + 0 = omega (arith, g.to_come) in
    let z : (left - p) % q ≡ 0 = ap (λ (n : ℕ). n % q) e ∙ digits_mod k h in
    let t = eq-eqb ((left - p) % q) 0 z in
    rw (ne_eqb p 0 (λ n. no g.some n), le-ltb left p (omega (arith, g.to_come))) t
  where
    no : {n : ℕ} → 0 < n → n ≡ 0 → ⊥
    no a b = omega arith

-- and a symbol stands exactly where one does and the digits are enough
pub mark_sound : (minimum primary secondary digits left : ℕ) → mark (group_size minimum primary digits) secondary left ≡ true
    → SymbolStands minimum primary secondary digits left
mark_sound m p q n left e =
    tested (ltb n (p + m)) (λ k. not_both (rw k at e) refl) (λ k. record { enough = omega (arith, ltb-false n (p + m) k); ends = ends_sound p q left (rw k at e) })

pub mark_complete : (minimum primary secondary digits left : ℕ) → 0 < secondary → SymbolStands minimum primary secondary digits left
    → mark (group_size minimum primary digits) secondary left ≡ true
mark_complete m p q n left h s = rw (le-ltb n (p + m) (omega (arith, s.enough))) (ends_complete p q left h s.ends)

-- no symbol stands exactly where the digits number fewer than the primary group and the minimum
pub none_stands : (minimum primary secondary digits : ℕ) → 0 < minimum → 0 < primary
    → ((left : ℕ) → left < digits → SymbolStands minimum primary secondary digits left → ⊥) ↔ (digits < primary + minimum)
none_stands m p q n hm hp = (few, λ h left l s. omega (arith, s.enough))
  where
    few : ((left : ℕ) → left < n → SymbolStands m p q n left → ⊥) → n < p + m
    few f =
        tested (ltb n (p + m)) (λ k. ltb-true n (p + m) k)
        (λ k.
        let h = ltb-false n (p + m) k in
        absurd (f p (omega arith) (record { enough = h; ends = record { some = hp; groups = 0; to_come = omega arith } })))

-- ---- the text of the digits

-- with no comma there are no groups
pub grouped_none : (nought : ℕ) (g : List ℕ) (q : ℕ) (d : List ℕ) → grouped nought g 0 q d ≡ spelled nought d
grouped_none nought g q [] = refl
grouped_none nought g q (b ∷ d) = ap (λ (l : List ℕ). spell nought b ++ l) (grouped_none nought g q d)

-- nor where the digits are too few: they stand as they are
pub grouped_few : (nought : ℕ) (g : List ℕ) (m p q : ℕ) (d : List ℕ) → length d < p + m → grouped nought g (group_size m p (length d)) q d ≡ spelled nought d
grouped_few nought g m p q d h = rw (lt-ltb (length d) (p + m) h) (grouped_none nought g q d)

-- no symbol among the primary group's own digits
mark_few : (p q r : ℕ) → r < p → mark p q r ≡ false
mark_few p q r h = tested (eqb p 0) (λ a. rw a) (λ a. rw (a, lt-ltb r p h))

pub primary_plain : (nought : ℕ) (g : List ℕ) (p q : ℕ) (d : List ℕ) → length d ≤ p → grouped nought g p q d ≡ spelled nought d
primary_plain nought g p q [] h = refl
primary_plain nought g p q (b ∷ d) h = rw (mark_few p q (length d) h) (ap (λ (l : List ℕ). spell nought b ++ l) (primary_plain nought g p q d (omega arith)))

-- Where the digits are enough, the text ends in a symbol and the primary group's digits.
pub record Ends (text last : List ℕ) : Type 0 where
  pub front : List ℕ
  pub is_text : text ≡ front ++ last

ends_in : (nought : ℕ) (g : List ℕ) (p q : ℕ) (x : List ℕ) (b : ℕ) (d : List ℕ) → 0 < p → 0 < q → length d ≡ p
    → Ends (grouped nought g p q (x ++ (b ∷ d))) (g ++ spelled nought d)
ends_in nought g p q [] b d hp hq e =
    let m : mark p q (length d) ≡ true = ends_complete p q (length d) hq (record { some = hp; groups = 0; to_come = omega arith }) in
    record { front = spell nought b; is_text = rw m (ap (λ (l : List ℕ). spell nought b ++ (g ++ l)) (primary_plain nought g p q d (omega arith))) }
ends_in nought g p q (a ∷ x) b d hp hq e =
    let r = ends_in nought g p q x b d hp hq e in
    tested (mark p q (length (x ++ (b ∷ d))))
    (λ k. record { front = spell nought a ++ (g ++ r.front); is_text = rw k (ap (λ (l : List ℕ). spell nought a ++ (g ++ l)) r.is_text ∙ (simp append_assoc)) })
    (λ k. record { front = spell nought a ++ r.front; is_text = rw k (ap (λ (l : List ℕ). spell nought a ++ l) r.is_text ∙ (simp append_assoc)) })

pub grouped_last : (nought : ℕ) (g : List ℕ) (m p q : ℕ) (x : List ℕ) (b : ℕ) (d : List ℕ) → 0 < p → 0 < q → length d ≡ p
    → p + m ≤ length (x ++ (b ∷ d)) → Ends (grouped nought g (group_size m p (length (x ++ (b ∷ d)))) q (x ++ (b ∷ d))) (g ++ spelled nought d)
grouped_last nought g m p q x b d hp hq e h = rw (le-ltb (length (x ++ (b ∷ d))) (p + m) h) (ends_in nought g p q x b d hp hq e)
