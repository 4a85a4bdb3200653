-- Laws of the scans of a number part: what the library's words say of its bytes is what the definitions say.
use mathlib.Core.Path.{◌≡◌, refl, sym, ap, ◌∙◌}
use mathlib.Core.Bool.{Bool, true, false, not, cond, ◌&&◌}
use mathlib.Core.List.{List, [], ◌∷◌, ◌++◌, reverse}
use Prim.Native.Nat.{ℕ, suc, ◌+◌, ◌-◌, ◌≤◌, ◌<◌}
use native.Mathlib.Omega.{arith}
use borrow.Author.Tests.{eqb-true, eqb-false, eq-eqb, ne_eqb, lt-ltb, ltb-true, ltb-false}
use lib.Dec.{eqb, ltb}
use lib.ListN.{length, drop}
use Rattle.std.specs.Prelude.{Option, None, Some, MatchOption}
use Rattle.std.specs.List.{filter, list_all, list_any, zip, prefix_len, position_or_len}
use Rattle.std.proofs.lemmas.List.{reverse-reverse, length-reverse}
use Rattle.std.proofs.lemmas.Grind.{reverse_onto}
use Rattle.decimal.specs.Digits.{is_digit}
use Rattle.std.specs.Cmp.Lexicographic.{pointwise}
use Rattle.decimal.proofs.Choices.{tested, not_both}
use Rattle.pattern_number.specs.Shape.{between, count, ordered, is_hash, apart, last}

-- ---- counts

pub counted_in : (low high : ℕ) (s : List ℕ) (n : ℕ) → n ≡ length (filter (between low high) s) → (n ≡ count low high s) × (n ≤ length s)
counted_in low high s n e = let w = counts s in (e ∙ w.0, omega (arith, w.1))
  where
    counts : (s : List ℕ) → (length (filter (between low high) s) ≡ count low high s) × (count low high s ≤ length s)
    counts [] = (refl, omega arith)
    counts (b ∷ s) =
        let w = counts s in
        tested (between low high b) (λ k. rw k (ap suc w.0, omega (arith, w.1))) (λ k. rw k (w.0, omega (arith, w.1)))

-- ---- `#` first, then digits

abbrev pub no_comma : ℕ → Bool
no_comma b = not (eqb b 44)

ordered_digits : (s : List ℕ) → list_all is_digit (filter no_comma s) ≡ ordered true s
ordered_digits [] = refl
ordered_digits (b ∷ s) =
    tested (eqb b 44) (λ k. rw k (ordered_digits s))
    (λ k. tested (eqb b 35) (λ l. rw (k, l, eqb-true b 35 l))
    (λ l. tested (is_digit b) (λ d. rw (k, l, d) (ordered_digits s)) (λ d. rw (k, l, d))))

drop_one : (n b : ℕ) (s : List ℕ) → drop (1 + n) (b ∷ s) ≡ drop n s
drop_one n b s =
    let e : 1 + n ≡ suc n = omega arith in
    rw e

pub ordered_is : (s : List ℕ) → list_all is_digit (drop (prefix_len is_hash (filter no_comma s)) (filter no_comma s)) ≡ ordered false s
ordered_is [] = refl
ordered_is (b ∷ s) =
    tested (eqb b 44) (λ k. rw k (ordered_is s))
    (λ k. tested (eqb b 35) (λ l. rw (k, l, eqb-true b 35 l, drop_one) (ordered_is s))
    (λ l. tested (is_digit b) (λ d. rw (k, l, d) (ordered_digits s)) (λ d. rw (k, l, d))))

-- ---- commas apart

abbrev pub two_commas : ℕ × ℕ → Bool
two_commas p = eqb p.0 44 && eqb p.1 44

-- a comma at the end, as `ends_with` finds it
ends_same : (b : ℕ) → pointwise eqb (44 ∷ []) (b ∷ []) ≡ eqb b 44
ends_same b = tested (eqb b 44) (λ k. rw (eqb-true b 44 k)) (λ k. rw (k, ne_eqb 44 b (λ e. not_both (eq-eqb b 44 (sym e)) k)))

ends_less : (b c : ℕ) (s : List ℕ) → drop (length (b ∷ c ∷ s) - 1) (b ∷ c ∷ s) ≡ drop (length (c ∷ s) - 1) (c ∷ s)
ends_less b c s =
    let e : length (b ∷ c ∷ s) - 1 ≡ suc (length (c ∷ s) - 1) = omega arith in
    rw e

pub apart_ends : (s : List ℕ) → pointwise eqb (44 ∷ []) (drop (length s - 1) s) ≡ true → false ≡ apart s
apart_ends [] h = not_both h refl
apart_ends (b ∷ []) h = rw (sym (ends_same b) ∙ h)
apart_ends (b ∷ c ∷ s) h =
    let z = ne_eqb (suc (length s)) 0 (λ k. omega arith) in
    let r = apart_ends (c ∷ s) (ap (pointwise eqb (44 ∷ [])) (sym (ends_less b c s)) ∙ h) in
    tested (eqb b 44)
    (λ k. tested (eqb c 44) (λ l. rw (k, z, l)) (λ l. rw (k, z, l) (rw l at r)))
    (λ k. rw k r)

pub apart_is : (s : List ℕ) → pointwise eqb (44 ∷ []) (drop (length s - 1) s) ≡ false → not (list_any two_commas (zip s (drop 1 s))) ≡ apart s
apart_is [] h = refl
apart_is (b ∷ []) h = rw (sym (ends_same b) ∙ h)
apart_is (b ∷ c ∷ s) h =
    let z = ne_eqb (suc (length s)) 0 (λ k. omega arith) in
    let r = apart_is (c ∷ s) (ap (pointwise eqb (44 ∷ [])) (sym (ends_less b c s)) ∙ h) in
    tested (eqb b 44)
    (λ k. tested (eqb c 44) (λ l. rw (k, z, l)) (λ l. rw (k, z, l) (rw l at r)))
    (λ k. rw k r)

-- ---- the last comma, seen from the end

last_same : (b : ℕ) (s : List ℕ) → last b (s ++ (b ∷ [])) ≡ suc (length s)
last_same b [] = rw (eq-eqb b b refl)
last_same b (x ∷ s) = rw (last_same b s, lt-ltb 0 (suc (length s)) (omega arith))

last_other : (b : ℕ) (s : List ℕ) (x : ℕ) → (x ≡ b → ⊥) → last b (s ++ (x ∷ [])) ≡ last b s
last_other b [] x h = rw (ne_eqb x b h)
last_other b (y ∷ s) x h = rw (last_other b s x h)

abbrev pub is_comma : ℕ → Bool
is_comma b = eqb b 44

-- how many bytes stand behind it
abbrev pub behind : List ℕ → ℕ
behind s = position_or_len is_comma (reverse s)

last_reverse : (r : List ℕ) → last 44 (reverse r) + position_or_len is_comma r ≡ length r
last_reverse [] = refl
last_reverse (x ∷ r) =
    let e : reverse (x ∷ r) ≡ reverse r ++ (x ∷ []) = reverse_onto r x [] in
    rw e
    (tested (eqb x 44)
    (λ k. rw (k, eqb-true x 44 k, last_same 44 (reverse r), length-reverse r) (omega arith))
    (λ k. rw (k, last_other 44 (reverse r) x (eqb-false x 44 k)) (omega (arith, last_reverse r))))

pub last_from : (s : List ℕ) (r : Option ℕ) → r ≡ cond (ltb (behind s) (length (reverse s))) (Some (behind s)) None
    → MatchOption r (last 44 s ≡ 0) (λ n. (0 < last 44 s) × (last 44 s + n ≡ length s))
last_from s r e =
    let f : last 44 s + behind s ≡ length s = rw (reverse-reverse s, length-reverse s) at (last_reverse (reverse s)) in
    let l = length-reverse s in
    tested (ltb (behind s) (length (reverse s)))
    (λ k. let h = ltb-true (behind s) (length (reverse s)) k in rw (e, k) (omega arith, f))
    (λ k. let h = ltb-false (behind s) (length (reverse s)) k in rw (e, k) (omega arith))
