-- A number that meets at most one rule: the order of the rules plays no part in its word.
use mathlib.Core.Path.{◌≡◌, refl, ap, ◌∙◌, subst}
use mathlib.Core.Bool.{true}
use mathlib.Core.List.{List, [], ◌∷◌, ◌++◌, Permᴰ}
use Prim.Native.Nat.{ℕ, zero, suc, ◌+◌, ◌≤◌, ◌<◌}
use native.Mathlib.Omega.{arith}
use lib.Dec.{eqb}
use borrow.Author.Tests.{eqb-true, eqb-false, eq-eqb}
use lib.ListN.{length}
use Rattle.std.specs.Prelude.{Ok, if◌then◌else◌}
use Rattle.decimal.proofs.Choices.{tested}
use Rattle.answer.specs.declared.Keyword.{Keyword}
use Rattle.answer.specs.declared.Keyword.TheVariants.{Other}
use Rattle.number.specs.declared.Number.{Number}
use Rattle.pack_rules.specs.Syntax.{Rule}
use Rattle.meaning.specs.Meaning.{meets}
use Rattle.select.specs.Select.{met_by, bit, count_met, first_met, keyword_at, selection}
use Rattle.select.specs.Words.{MeetsAt}
use Rattle.select.specs.Words.MeetsAt.{here, there}
use Rattle.select.proofs.Chosen.{counted, first_meets}
use Rattle.check_laws.specs.Claims.{rule_at}

-- how many rules are met
abbrev pub met : List Rule → Number → ℕ
met rules x = count_met (met_by rules x)

-- the keyword of the first rule met
abbrev pub word_met : List Rule → Number → Keyword
word_met [] x = Other
word_met (r ∷ rs) x = if meets r x then r.keyword else word_met rs x

module _ (x : Number) where
  word_first : (rules : List Rule) → 0 < met rules x → keyword_at rules (first_met (met_by rules x)) ≡ word_met rules x
  word_first [] h = absurd (omega arith)
  word_first (r ∷ rs) h =
      tested (meets r x) (λ e. rw e)
      (λ e.
      let h' : 0 < 0 + met rs x = rw e at h in
      rw e (word_first rs (omega arith)))

  pub word_none : (rules : List Rule) → met rules x ≡ 0 → word_met rules x ≡ Other
  word_none [] h = refl
  word_none (r ∷ rs) h =
      tested (meets r x)
      (λ e.
      let h' : 1 + met rs x ≡ 0 = rw e at h in
      absurd (omega arith))
      (λ e.
      let h' : 0 + met rs x ≡ 0 = rw e at h in
      rw e (word_none rs (omega arith)))

  -- a number that meets at most one rule has the word of that rule, or `other`
  pub selected : (rules : List Rule) → met rules x ≤ 1 → selection rules x ≡ Ok (word_met rules x)
  selected rules h =
      tested (eqb (met rules x) 0) (λ e. rw (e, word_none rules (eqb-true (met rules x) 0 e)))
      (λ e.
      let n = eqb-false (met rules x) 0 e in
      let o : met rules x ≡ 1 = omega arith in
      rw (e, eq-eqb (met rules x) 1 o) (ap Ok (word_first rules (omega arith))))

  -- a rule that is met gives the word, where at most one is
  pub word_of : {rs : List Rule} {k : ℕ} {w : Keyword} → MeetsAt x rs k w → met rs x ≤ 1 → word_met rs x ≡ w
  word_of (here e) h = rw e
  word_of (there {r = r} {rs = rs} m) h =
      tested (meets r x)
      (λ e.
      let h' : 1 + met rs x ≤ 1 = rw e at h in
      absurd (omega (arith, counted x m)))
      (λ e.
      let h' : 0 + met rs x ≤ 1 = rw e at h in
      rw e (word_of m (omega arith)))

  -- ---- any order

  pub met_perm : {rs qs : List Rule} → Permᴰ rs qs → met rs x ≡ met qs x
  met_perm Permᴰ.nil = refl
  met_perm (Permᴰ.cons {a = a} {b = b} {l₁ = l₁} {l₂ = l₂} e d) = rw e (ap (λ (n : ℕ). bit (meets b x) + n) (met_perm d))
  met_perm (Permᴰ.swap {a = a} {b = b} {a' = a'} {b' = b'} {l = l} e f) = rw (e, f) (omega arith)
  met_perm (Permᴰ.trans d k) = met_perm d ∙ met_perm k

  pub word_perm : {rs qs : List Rule} → Permᴰ rs qs → met rs x ≤ 1 → word_met rs x ≡ word_met qs x
  word_perm Permᴰ.nil h = refl
  word_perm (Permᴰ.cons {a = a} {b = b} {l₁ = l₁} {l₂ = l₂} e d) h =
      rw e
      (tested (meets b x) (λ k. rw k)
      (λ k.
      let h' : bit (meets b x) + met l₁ x ≤ 1 = rw e at h in
      rw k (word_perm d (omega arith))))
  word_perm (Permᴰ.swap {a = a} {b = b} {a' = a'} {b' = b'} {l = l} e f) h =
      rw (e, f)
      (tested (meets b' x)
      (λ k. tested (meets a' x)
      (λ m.
      let h' : bit (meets b' x) + (bit (meets a' x) + met l x) ≤ 1 = rw (e, f) at h in
      let h'' : 1 + (1 + met l x) ≤ 1 = rw (k, m) at h' in
      absurd (omega arith))
      (λ m. rw (k, m)))
      (λ k. rw k))
  word_perm (Permᴰ.trans d k) h = word_perm d h ∙ word_perm k (omega (arith, met_perm d))

  -- ---- more rules

  pub met_append : (rs qs : List Rule) → met (rs ++ qs) x ≡ met rs x + met qs x
  met_append [] qs = omega arith
  met_append (r ∷ rs) qs = omega (arith, met_append rs qs)

  pub word_append : (rs qs : List Rule) → 0 < met rs x → word_met (rs ++ qs) x ≡ word_met rs x
  word_append [] qs h = absurd (omega arith)
  word_append (r ∷ rs) qs h =
      tested (meets r x) (λ e. rw e)
      (λ e.
      let h' : 0 < 0 + met rs x = rw e at h in
      rw e (word_append rs qs (omega arith)))

  pub word_added : (rs qs : List Rule) → met rs x ≡ 0 → word_met (rs ++ qs) x ≡ word_met qs x
  word_added [] qs h = refl
  word_added (r ∷ rs) qs h =
      tested (meets r x)
      (λ e.
      let h' : 1 + met rs x ≡ 0 = rw e at h in
      absurd (omega arith))
      (λ e.
      let h' : 0 + met rs x ≡ 0 = rw e at h in
      rw e (word_added rs qs (omega arith)))

  -- a rule that is met, where one is
  pub some_met : (rs : List Rule) → 0 < met rs x → (k : ℕ) × MeetsAt x rs k (word_met rs x)
  some_met rs h = (first_met (met_by rs x), subst (MeetsAt x rs (first_met (met_by rs x))) (word_first rs h) (first_meets x rs h))

  -- ---- by index

  pub at_index : {rs : List Rule} {k : ℕ} {w : Keyword} → MeetsAt x rs k w → (k < length rs) × (meets (rule_at rs k) x ≡ true)
  at_index (here h) = (omega arith, h)
  at_index (there m) = (omega (arith, (at_index m).0), (at_index m).1)

  pub index_at : (rs : List Rule) (k : ℕ) → k < length rs → meets (rule_at rs k) x ≡ true → MeetsAt x rs k (rule_at rs k).keyword
  index_at [] k h e = absurd (omega arith)
  index_at (r ∷ rs) zero h e = here e
  index_at (r ∷ rs) (suc k) h e = there (index_at rs k (omega arith) e)
