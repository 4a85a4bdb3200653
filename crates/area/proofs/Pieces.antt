-- Laws of writing pieces one after another.
use mathlib.Core.Path.{◌≡◌, refl, sym, ap, ◌∙◌}
use mathlib.Core.List.{List, [], ◌∷◌, ◌++◌}
use Prim.Native.Nat.{ℕ, suc, ◌+◌, ◌≤◌, ◌<◌, min}
use native.Mathlib.Omega.{arith}
use native.Mathlib.Nat.{add-zero, zero-add}
use lib.Dec.{ltb}
use borrow.Author.Tests.{ltb-true, ltb-false}
use lib.ListN.{length, drop, set, length-append}
use lib.Seq.{sets, sets-eq, set_out, length-sets}
use Rattle.decimal.proofs.Choices.{tested}
use Rattle.area.specs.Area.{Wrote, most}

pub sets_append : (o : List ℕ) (a : ℕ) (p q : List ℕ) → sets o a (p ++ q) ≡ sets (sets o a p) (a + length p) q
sets_append o a [] q = rw add-zero
sets_append o a (b ∷ p) q =
    sets_append (set o a b) (suc a) p q ∙ ap (λ (k : ℕ). sets (sets (set o a b) (suc a) p) k q) (omega arith)

-- nothing is written past the end
sets_past : (p o : List ℕ) (a : ℕ) → length o ≤ a → sets o a p ≡ o
sets_past [] o a h = refl
sets_past (b ∷ p) o a h = rw (set_out o a b h) (sets_past p o (suc a) (omega arith))

-- so a place that is kept at the largest one writes the same
sets_kept : (o : List ℕ) (a : ℕ) (p : List ℕ) → length o ≤ most → sets o (min a most) p ≡ sets o a p
sets_kept o a p h =
    tested (ltb most a)
    (λ e.
    let k : most < a = ltb-true most a e in
    sets_past p o (min a most) (omega arith) ∙ sym (sets_past p o a (omega arith)))
    (λ e.
    let k : min a most ≡ a = omega (arith, ltb-false most a e) in
    rw k)

-- one piece, and then another
pub joined : {o o' o'' : List ℕ} {a a' a'' : ℕ} {p q : List ℕ} → length o ≤ most → Wrote o a p o' a' → Wrote o' a' q o'' a'' → Wrote o a (p ++ q) o'' a''
joined {o} {o'} {o''} {a} {a'} {a''} {p} {q} h x y =
    record {
      area = y.area ∙ rw (x.area, x.next) (sets_kept (sets o a p) (a + length p) q (rw length-sets h) ∙ sym (sets_append o a p q));
      next = omega (arith, x.next, y.next, length-append p q);
    }

-- the piece under another name
pub renamed : {o o' : List ℕ} {a a' : ℕ} {p q : List ℕ} → p ≡ q → Wrote o a p o' a' → Wrote o a q o' a'
renamed {o} {o'} {a} {a'} e x = rw e at x

pub size : {o o' : List ℕ} {a a' : ℕ} {p : List ℕ} → Wrote o a p o' a' → length o' ≡ length o
size {o} {o'} {a} {a'} {p} x = ap length x.area ∙ length-sets o a p

-- a text that fits stands at the front, and behind it what stood there
pub front : {o o' : List ℕ} {end : ℕ} (p : List ℕ) → Wrote o 0 p o' end → length p ≤ length o → o' ≡ p ++ drop (length p) o
front {o} {o'} {end} p x h = x.area ∙ sets-eq p o 0 (omega arith) ∙ rw zero-add

-- ---- a loop that writes: of the whole piece the front is written, and the rest is left

pub record Left (before : List ℕ) (at : ℕ) (whole : List ℕ) (after : List ℕ) (end : ℕ) (rest : List ℕ) : Type 0 where
  pub area : sets after end rest ≡ sets before at whole
  pub next : min (end + length rest) most ≡ min (at + length whole) most
  pub size : length after ≡ length before

pub start : (o : List ℕ) (a : ℕ) (w : List ℕ) → Left o a w o a w
start o a w = record { area = refl; next = refl; size = refl }

pub again : {o o' o'' : List ℕ} {a a' a'' : ℕ} {w rest p q : List ℕ} → length o ≤ most
    → Left o a w o' a' rest → rest ≡ p ++ q → Wrote o' a' p o'' a'' → Left o a w o'' a'' q
again {o} {o'} {o''} {a} {a'} {a''} {w} {rest} {p} {q} h x e y =
    record {
      area =
          rw (y.area, y.next)
          (sets_kept (sets o' a' p) (a' + length p) q (rw (length-sets, x.size) h) ∙ sym (sets_append o' a' p q) ∙ ap (sets o' a') (sym e) ∙ x.area);
      next = omega (arith, x.next, y.next, length-append p q, ap length e);
      size = size y ∙ x.size;
    }

pub done : {o o' : List ℕ} {a a' : ℕ} {w rest : List ℕ} → a' ≤ most → Left o a w o' a' rest → rest ≡ [] → Wrote o a w o' a'
done {o} {o'} {a} {a'} {w} {rest} h x e =
    let x' = rw e at x in
    record { area = x'.area; next = omega (arith, x'.next) }
