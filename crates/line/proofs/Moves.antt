-- The bytes held, moved to the front of their buffer.
use mathlib.Core.Path.{◌≡◌, sym, ap, ◌∙◌}
use mathlib.Core.List.{List, [], ◌∷◌}
use Prim.Native.Nat.{ℕ, zero, suc, ◌+◌, ◌-◌, min}
use native.Mathlib.Omega.{arith}
use lib.ListN.{length, take, drop, length-take, length-drop}
use lib.Seq.{sets-eq}
use Rattle.std.specs.List.{copy_within}
use Rattle.std.proofs.lemmas.List.{drop-take, take_min}
use Rattle.line.specs.Cuts.{Kept}

drop_min : (n : ℕ) (xs : List ℕ) → drop (min n (length xs)) xs ≡ drop n xs
drop_min zero xs =
    let on : min zero (length xs) ≡ zero = omega arith in
    ap (λ (k : ℕ). drop k xs) on
drop_min (suc n) [] =
    let on : min (suc n) 0 ≡ zero = omega arith in
    ap (λ (k : ℕ). drop k []) on
drop_min (suc n) (x ∷ xs) =
    let on : min (suc n) (length (x ∷ xs)) ≡ suc (min n (length xs)) = omega arith in
    ap (λ (k : ℕ). drop k (x ∷ xs)) on ∙ drop_min n xs

pub kept : (b after : List ℕ) (from held end start : ℕ) → end ≡ min held (length b) → start ≡ min from end → after ≡ copy_within b start end 0 → Kept b from held after (end - start)
kept b after from held end start ee es m =
    let r = drop from (take held b) in
    let l : length (take held b) ≡ end = omega (arith, length-take held b) in
    let more : start + (end - start) ≡ end = omega arith in
    let part : take (end - start) (drop start b) ≡ r =
    sym (drop-take start (end - start) b)
    ∙ ap (λ (k : ℕ). drop start (take k b)) more
    ∙ ap (λ (k : ℕ). drop start (take k b)) ee
    ∙ ap (drop start) (take_min held b)
    ∙ ap (λ (k : ℕ). drop k (take held b)) es
    ∙ ap (λ (k : ℕ). drop (min from k) (take held b)) (sym l)
    ∙ drop_min from (take held b) in
    let count : end - start ≡ length r = omega (arith, length-drop from (take held b)) in
    record {
      moved = m ∙ rw (part, count) (sym (sets-eq r b 0 (omega arith)));
      counted = count;
    }
