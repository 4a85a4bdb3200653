-- Laws of the word engine: a power of ten that the exact value and the step share makes no difference, and what is left has room in a machine word.
use mathlib.Core.Path.{◌≡◌, sym, ap, ◌∙◌}
use mathlib.Core.Bool.{true}
use Prim.Native.Nat.{ℕ, ◌+◌, ◌*◌, ◌-◌, ◌/◌, ◌%◌, ◌^◌, ◌≤◌, ◌<◌, min}
use native.Mathlib.Omega.{arith}
use native.Mathlib.Nat.{div-add-mod', mod-lt, div-zero, mul-le-mul, mul-le-mul_left, mul-le-mul_right, le-div_iff_mul-le}
use lib.Arith.{digits_div, digits_mod}
use lib.Pow.{pow-add}
use lib.Dec.{ltb, leb}
use borrow.Author.Tests.{ltb-true, leb-true}
use Rattle.decimal.proofs.Choices.{tested, not_both, ltb_same}
use Rattle.decimal.proofs.Values.{power_mono, power_pos}
use Rattle.nearest.specs.Nearest.{up, steps_of, units_of}
use Rattle.rounding.specs.Limits.{max_places, max_factor, max_word, in_word}
use Rattle.nearest.proofs.Nearest.{by_le}

-- ---- what the exact value and the step share

up_share : (s odd r c : ℕ) → 0 < c → up (s * c) odd (r * c) ≡ up s odd r
up_share s odd r c h =
    rw (
      ltb_same (2 * (r * c)) (s * c) (2 * r) s
          (λ a. by_le s (2 * r) (λ b. absurd (omega (arith, mul-le-mul_right c b))) (λ b. b))
          (λ a. let b : 2 * r + 1 ≤ s = omega arith in omega (arith, mul-le-mul_right c b)),
      ltb_same (s * c) (2 * (r * c)) s (2 * r)
          (λ a. by_le (2 * r) s (λ b. absurd (omega (arith, mul-le-mul_right c b))) (λ b. b))
          (λ a. let b : s + 1 ≤ 2 * r = omega arith in omega (arith, mul-le-mul_right c b)),
    )

pub steps_share : (s n c : ℕ) → 0 < s → 0 < c → steps_of (s * c) (n * c) ≡ steps_of s n
steps_share s n c hs hc =
    let q = n / s in
    let r = n % s in
    let l : r < s = mod-lt n hs in
    let l₁ : r + 1 ≤ s = omega arith in
    let lc : r * c < s * c = omega (arith, mul-le-mul_right c l₁, hc) in
    let whole : n * c ≡ q * (s * c) + r * c = omega (arith, ap (λ (x : ℕ). x * c) (div-add-mod' n s)) in
    let quo : n * c / (s * c) ≡ q = rw whole (digits_div q lc) in
    let rem : n * c % (s * c) ≡ r * c = rw whole (digits_mod q lc) in
    rw (quo, rem, up_share s (q % 2) r c hc)

-- one of two powers of ten: what it has above the other, times what they share
power_part : (a b : ℕ) → 10 ^ a ≡ 10 ^ (a - b) * 10 ^ min a b
power_part a b =
    let e : a ≡ (a - b) + min a b = omega arith in
    ap (λ (k : ℕ). 10 ^ k) e ∙ pow-add 10 (a - b) (min a b)

pub units_share : (step factor most i v f : ℕ) → 0 < step
    → steps_of (step * 10 ^ (v - most)) ((i * 10 ^ v + f) * (factor * 10 ^ (most - v))) * step ≡ units_of step factor most i v f
units_share step factor most i v f h =
    let n = i * 10 ^ v + f in
    let s = step * 10 ^ (v - most) in
    let x = n * (factor * 10 ^ (most - v)) in
    let c = 10 ^ min v most in
    let same : min most v ≡ min v most = omega arith in
    let low : 10 ^ most ≡ 10 ^ (most - v) * c = power_part most v ∙ ap (λ (k : ℕ). 10 ^ (most - v) * 10 ^ k) same in
    let es : step * 10 ^ v ≡ s * c = omega (arith, ap (λ (k : ℕ). step * k) (power_part v most)) in
    let ex : n * (factor * 10 ^ most) ≡ x * c = omega (arith, ap (λ (k : ℕ). n * (factor * k)) low) in
    let p : 1 * 1 ≤ s = mul-le-mul h (power_pos (v - most)) in
    ap (λ (k : ℕ). k * step) (sym (steps_share s x c (omega arith) (power_pos (min v most))) ∙ sym (ap (λ (a : ℕ). steps_of a (x * c)) es) ∙ sym (ap (steps_of (step * 10 ^ v)) ex))

-- ---- the room

-- what the operands are multiplied by
pub rise_room : (factor most v : ℕ) → factor ≤ max_factor → most ≤ max_places → v ≤ max_places → 10 ^ v * (factor * 10 ^ (most - v)) ≤ 1000000000000
rise_room factor most v hf hm hv =
    let e : 10 ^ (v + (most - v)) ≡ 10 ^ v * 10 ^ (most - v) = pow-add 10 v (most - v) in
    let p : 10 ^ (v + (most - v)) ≤ 10 ^ 9 = power_mono {i = v + (most - v)} {j = 9} (omega arith) in
    let q : factor * 10 ^ (v + (most - v)) ≤ max_factor * 10 ^ 9 = mul-le-mul hf p in
    omega (arith, ap (λ (k : ℕ). factor * k) e)

pub record Roomy (unit rise i f : ℕ) : Type 0 where
  pub whole : i * unit ≤ max_word
  pub sum : i * unit + f ≤ max_word
  pub value : (i * unit + f) * rise ≤ max_word

pub word_room : (unit rise i f : ℕ) → in_word unit rise i f ≡ true → Roomy unit rise i f
word_room unit rise i f e =
    tested (leb f unit)
    (λ a.
    let b : ltb i (max_word / (unit * rise)) ≡ true = rw a at e in
    by_le (unit * rise) 0 (λ z. absurd (none z (ltb-true i (max_word / (unit * rise)) b)))
    (λ z. some (leb-true f unit a) z (ltb-true i (max_word / (unit * rise)) b)))
    (λ a. not_both e (rw a))
  where
    none : unit * rise ≤ 0 → i < max_word / (unit * rise) → ⊥
    none z h =
        let k : unit * rise ≡ 0 = omega arith in
        let l : i < max_word / 0 = rw k at h in
        omega (arith, div-zero max_word)

    some : f ≤ unit → 0 < unit * rise → i < max_word / (unit * rise) → Roomy unit rise i f
    some h z l =
        let all : (i + 1) * (unit * rise) ≤ max_word = (le-div_iff_mul-le z).0 (omega arith) in
        let up : i * unit + f ≤ (i + 1) * unit = omega arith in
        let top : (i * unit + f) * rise ≤ (i + 1) * unit * rise = mul-le-mul_right rise up in
        let last : (i * unit + f) * rise ≤ max_word = omega (arith, top, all) in
        let one : 1 ≤ rise = by_le rise 0 (λ n. let g : unit * rise ≤ unit * 0 = mul-le-mul_left unit n in absurd (omega arith)) (λ n. n) in
        let low : (i * unit + f) * 1 ≤ (i * unit + f) * rise = mul-le-mul_left (i * unit + f) one in
        record { whole = omega arith; sum = omega arith; value = last }
