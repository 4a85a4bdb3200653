-- A record without an entry of the kind k holds and breaks off the same where k is unknown.
use mathlib.Core.Path.{◌≡◌, refl, ap}
use mathlib.Core.List.{List, [], ◌∷◌}
use Prim.Native.Nat.{ℕ, zero, suc}
use borrow.Author.Tests.{eqb-true}
use lib.Dec.{eqb, ltb}
use lib.ListN.{length, take}
use Rattle.decimal.proofs.Choices.{tested}
use Rattle.records.specs.Entries.{Entry, fitting, body_len, entries_from, entries, broken_from, broken, without}
use Rattle.records.specs.Spelled.{Among, here, later}

module _ (k : ℕ) (lengths : ℕ → ℕ) where
  -- no entry of these is of the kind k
  abbrev pub Lacks : List Entry → Type 0
  Lacks es = (e : Entry) → Among e es → e.kind ≡ k → ⊥

  abbrev Same : ℕ → List ℕ → Type 0
  Same skip s = (entries_from (without k lengths) skip s ≡ entries_from lengths skip s) × (broken_from (without k lengths) skip s ≡ broken_from lengths skip s)

  no_body : (n : ℕ) → fitting 0 n ≡ 0
  no_body n = tested (ltb 0 n) (λ e. rw e) (λ e. rw e)

  same_from : (skip : ℕ) (s : List ℕ) → Lacks (entries_from lengths skip s) → Same skip s
  same_from skip [] h = (refl, refl)
  same_from (suc skip) (b ∷ s) h = same_from skip s h
  same_from zero (b ∷ s) h =
      let n = body_len lengths (b ∷ s) in
      tested (eqb b k) (λ e.
      tested (eqb n 0) (λ z. rw (e, no_body (suc (length s)), z) (refl, refl))
      (λ z. absurd ((rw z at h) (record { kind = b; body = take n s }) here (eqb-true b k e)))) (λ e.
      tested (eqb n 0) (λ z. rw (e, z) (refl, refl))
      (λ z.
      let r = same_from n s (λ d a. (rw z at h) d (later a)) in
      rw (e, z) (ap (λ (l : List Entry). record { kind = b; body = take n s } ∷ l) r.0, r.1)))

  pub read_without : (s : List ℕ) → Lacks (entries lengths s) → (entries (without k lengths) s ≡ entries lengths s) × (broken (without k lengths) s ≡ broken lengths s)
  read_without s h = same_from 0 s h
