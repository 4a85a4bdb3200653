-- The job of a line, by its letter and the lengths of its fields, is that of its fields.
use mathlib.Core.Path.{◌≡◌, refl, sym, ◌∙◌}
use mathlib.Core.Bool.{Bool, true, false, not}
use mathlib.Core.List.{List, [], ◌∷◌}
use Prim.Native.Nat.{ℕ, suc, ◌+◌, ◌-◌, ◌≤◌, ◌<◌}
use Prim.Native.Nat.compare
use native.Mathlib.Omega.{arith}
use lib.Dec.{ltb, eqb}
use borrow.Author.Tests.{ltb-true, ltb-false, lt-ltb, le-ltb, eqb-true, eqb-false, eq-eqb, ne_eqb}
use lib.ListN.{length, get_or, take, drop, length-drop}
use lib.Seq.{take_all}
use Rattle.decimal.specs.Split.{until, on_first, split}
use Rattle.decimal.proofs.Choices.{tested, both_false}
use Rattle.decimal.proofs.Splits.{until_le, split_one, split_first}
use Rattle.std.specs.Prelude.{nat_eq}
use Rattle.std.specs.List.{list_any}
use Rattle.line.specs.Jobs.{job_in, job_of, job_at, job_with, last_field}
use Rattle.line.specs.Jobs.Job.{none}
use Rattle.line.specs.declared.JobCut.{JobCut}

-- what a slice holds from a place on
pub from_place : (s : List ℕ) (k : ℕ) → take (length s - k) (drop k s) ≡ drop k s
from_place s k = take_all (length s - k) (drop k s) (omega (arith, length-drop k s))

-- no TAB stands in a text whose first part is the whole
pub no_more_tabs : (s : List ℕ) → not (list_any (λ (x : ℕ). nat_eq x 9) s) ≡ eqb (until 9 s) (length s)
no_more_tabs [] = refl
no_more_tabs (x ∷ s) = tested (eqb x 9) (λ k. rw (k, ne_eqb 0 (suc (length s)) (λ z. omega arith))) (λ k. rw (k, compare.suc-suc) (no_more_tabs s))

-- a first field that is no single letter makes no job
no_letter : (f : List ℕ) (fs : List (List ℕ)) → (length f ≡ 1 → ⊥) → job_in (f ∷ fs) ≡ none
no_letter f fs h =
    rw (ne_eqb (length f) 1 h, both_false (eqb (suc (length fs)) 3), both_false (eqb (suc (length fs)) 2))

-- more than three fields make none either
many : (a : ℕ) (x y z : List ℕ) (fs : List (List ℕ)) → job_in ((a ∷ []) ∷ x ∷ y ∷ z ∷ fs) ≡ none
many a x y z fs =
    rw (ne_eqb (suc (suc (suc (suc (length fs))))) 3 (λ e. omega arith), ne_eqb (suc (suc (suc (suc (length fs))))) 2 (λ e. omega arith))

-- ---- lines that have no letter and TAB in front

pub short_line : (line : List ℕ) → length line < 2 → job_of line ≡ none
short_line [] h = refl
short_line (a ∷ []) h = tested (eqb a 9) (λ k. rw k) (λ k. rw k)
short_line (a ∷ b ∷ s) h = absurd (omega arith)

-- ---- a letter, a TAB and the fields behind it

-- how the job is told from the text behind the letter and its TAB
abbrev told_by : ℕ → List ℕ → JobCut
told_by a s = job_with a (until 9 s) (eqb (until 9 s) (length s)) (last_field (until 9 s) s)

one_field : (a : ℕ) (s : List ℕ) → length s ≤ until 9 s → job_at s (told_by a s) ≡ job_in ((a ∷ []) ∷ split 9 s)
one_field a s h =
    rw (split_one 9 s h, le-ltb (until 9 s) (length s) h, eq-eqb (until 9 s) (length s) (omega (arith, until_le 9 s)))
    (tested (eqb a 99) (λ q. rw q) (λ q. rw q))

two_fields : (a : ℕ) (s t : List ℕ) → until 9 s < length s → t ≡ drop (until 9 s + 1) s → until 9 t ≡ length t
    → job_at s (told_by a s) ≡ job_in ((a ∷ []) ∷ split 9 s)
two_fields a s t h e w =
    rw (split_first 9 s h, lt-ltb (until 9 s) (length s) h, ne_eqb (until 9 s) (length s) (λ z. omega arith), ← e, eq-eqb (until 9 t) (length t) w, split_one 9 t (omega arith))
    (tested (eqb a 99) (λ q. rw (eqb-true a 99 q))
    (λ q. rw q (tested (eqb a 115) (λ z. rw (z, e)) (λ z. rw z (tested (eqb a 102) (λ y. rw (y, e)) (λ y. rw y))))))

more_fields : (a : ℕ) (s t : List ℕ) → until 9 s < length s → t ≡ drop (until 9 s + 1) s → until 9 t < length t
    → job_at s (told_by a s) ≡ job_in ((a ∷ []) ∷ split 9 s)
more_fields a s t h e w =
    rw (split_first 9 s h, lt-ltb (until 9 s) (length s) h, ne_eqb (until 9 s) (length s) (λ z. omega arith), ← e, ne_eqb (until 9 t) (length t) (λ z. omega arith), split_first 9 t w)
    (nothing (until 9 s) ∙ sym (four_fields (split 9 (drop (until 9 t + 1) t)) (split_some (drop (until 9 t + 1) t))))
  where
    nothing : (n : ℕ) → job_at s (job_with a n false false) ≡ none
    nothing n = tested (eqb a 99) (λ q. rw q) (λ q. rw q)

    split_some : (u : List ℕ) → 0 < length (split 9 u)
    split_some [] = omega arith
    split_some (x ∷ u) = tested (eqb x 9) (λ k. rw k (omega arith)) (λ k. rw k (some (split 9 u)))
      where
        some : (fs : List (List ℕ)) → 0 < length (on_first x fs)
        some [] = omega arith
        some (f ∷ fs) = omega arith

    four_fields : (fs : List (List ℕ)) → 0 < length fs → job_in ((a ∷ []) ∷ take (until 9 s) s ∷ take (until 9 t) t ∷ fs) ≡ none
    four_fields [] p = absurd (omega arith)
    four_fields (f ∷ fs) p = many a (take (until 9 s) s) (take (until 9 t) t) f fs

fields_told : (a : ℕ) (s : List ℕ) → job_at s (told_by a s) ≡ job_in ((a ∷ []) ∷ split 9 s)
fields_told a s =
    tested (ltb (until 9 s) (length s))
    (λ h. tested (eqb (until 9 t) (length t)) (λ w. two_fields a s t (ltb-true (until 9 s) (length s) h) refl (eqb-true (until 9 t) (length t) w))
    (λ w. more_fields a s t (ltb-true (until 9 s) (length s) h) refl (below (eqb-false (until 9 t) (length t) w))))
    (λ h. one_field a s (ltb-false (until 9 s) (length s) h))
  where
    t : List ℕ
    t = drop (until 9 s + 1) s

    below : (until 9 (drop (until 9 s + 1) s) ≡ length (drop (until 9 s + 1) s) → ⊥) → until 9 (drop (until 9 s + 1) s) < length (drop (until 9 s + 1) s)
    below n = omega (arith, until_le 9 (drop (until 9 s + 1) s))

-- a TAB in front of the first TAB leaves no letter
no_first : (s : List ℕ) (n : ℕ) (one two : Bool) → job_at s (job_with 9 n one two) ≡ none
no_first s n one true = refl
no_first s n one false = refl

pub job_told : (line : List ℕ) → 2 ≤ length line → get_or line 1 0 ≡ 9
    → job_at (drop 2 line) (told_by (get_or line 0 0) (drop 2 line)) ≡ job_of line
job_told [] h e = absurd (omega arith)
job_told (a ∷ []) h e = absurd (omega arith)
job_told (a ∷ b ∷ s) h e =
    rw e
    (tested (eqb a 9)
    (λ k. rw k (rw (eqb-true a 9 k) (no_first s (until 9 s) (eqb (until 9 s) (length s)) (last_field (until 9 s) s) ∙ sym (no_letter [] ([] ∷ split 9 s) (λ z. omega arith)))))
    (λ k. rw k (fields_told a s)))
