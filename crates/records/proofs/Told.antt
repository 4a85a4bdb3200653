-- The tests of entries hold exactly where the relations do: a name stands in the list, a name stands twice, each entry passes a test; and a name's body.
use mathlib.Core.Path.{◌≡◌, refl, sym}
use mathlib.Core.Bool.{Bool, true, false}
use mathlib.Core.List.{List, [], ◌∷◌}
use mathlib.Core.Logic.{◌↔◌}
use Prim.Native.Nat.{ℕ}
use borrow.Author.Tests.{eq-eqb, eqb-true}
use lib.Dec.{eqb}
use Rattle.decimal.proofs.Choices.{tested, not_both}
use Rattle.records.specs.Entries.{Entry, holds, body_in, twice, every}
use Rattle.records.specs.Spelled.{Among, Has, Twice}
use Rattle.records.specs.Spelled.Among.{here, later}
use Rattle.records.specs.Spelled.Twice.{here as twice-here, later as twice-later}

-- ---- a name

module _ (names : ℕ → ℕ) where
  has_entry : (x : ℕ) (es : List Entry) → holds names x es ≡ true → Has names x es
  has_entry x [] h = not_both h refl
  has_entry x (e ∷ es) h =
      tested (eqb (names e.kind) x) (λ k. record { entry = e; among = here; its = eqb-true (names e.kind) x k })
      (λ k.
      let r = has_entry x es (rw k at h) in
      record { entry = r.entry; among = later r.among; its = r.its })

  entry_held : {x : ℕ} {e : Entry} {es : List Entry} → Among e es → names e.kind ≡ x → holds names x es ≡ true
  entry_held {x} (here {e} {es}) q = rw (eq-eqb (names e.kind) x q)
  entry_held {x} (later {e} {d} {es} a) q = tested (eqb (names d.kind) x) (λ k. rw k) (λ k. rw k (entry_held a q))

  pub holds_told : (x : ℕ) (es : List Entry) → (holds names x es ≡ true) ↔ Has names x es
  holds_told x es = (has_entry x es, λ h. entry_held h.among h.its)

  -- ---- a name twice

  is_twice : (es : List Entry) → twice names es ≡ true → Twice names es
  is_twice [] t = not_both t refl
  is_twice (e ∷ es) t =
      tested (holds names (names e.kind) es) (λ h. twice-here (has_entry (names e.kind) es h)) (λ h. twice-later (is_twice es (rw h at t)))

  stands_twice : {es : List Entry} → Twice names es → twice names es ≡ true
  stands_twice (twice-here {e} {es} h) = rw ((holds_told (names e.kind) es).1 h)
  stands_twice (twice-later {e} {es} t) = tested (holds names (names e.kind) es) (λ h. rw h) (λ h. rw h (stands_twice t))

  pub twice_told : (es : List Entry) → (twice names es ≡ true) ↔ Twice names es
  twice_told es = (is_twice es, stands_twice)

  pub once_told : (es : List Entry) → (twice names es ≡ false) ↔ (Twice names es → ⊥)
  once_told es = (λ k t. not_both (stands_twice t) k, λ f. tested (twice names es) (λ k. absurd (f (is_twice es k))) (λ k. k))

  -- ---- a name's body

  -- found by the name, unless that stands twice
  pub body_found : {e : Entry} {es : List Entry} → Among e es → (Twice names es → ⊥) → body_in names (names e.kind) es ≡ e.body
  body_found (here {e} {es}) f = rw (eq-eqb (names e.kind) (names e.kind) refl)
  body_found (later {e} {d} {es} a) f =
      tested (eqb (names d.kind) (names e.kind))
      (λ k. absurd (f (twice-here (record { entry = e; among = a; its = sym (eqb-true (names d.kind) (names e.kind) k) }))))
      (λ k. rw k (body_found a (λ t. f (twice-later t))))

  -- empty where the name does not stand
  pub body_none : (x : ℕ) (es : List Entry) → holds names x es ≡ false → body_in names x es ≡ []
  body_none x [] h = refl
  body_none x (e ∷ es) h = tested (eqb (names e.kind) x) (λ k. not_both refl (rw k at h)) (λ k. rw k (body_none x es (rw k at h)))

-- ---- a test of each entry

-- an entry that fails
pub record Fails (test : Entry → Bool) (es : List Entry) : Type 0 where
  pub entry : Entry
  pub among : Among entry es
  pub fails : test entry ≡ false

module _ (test : Entry → Bool) where
  each_passes : {e : Entry} {es : List Entry} → Among e es → every test es ≡ true → test e ≡ true
  each_passes (here {e} {es}) h = tested (test e) (λ k. k) (λ k. not_both h (rw k))
  each_passes (later {e} {d} {es} a) h = tested (test d) (λ k. each_passes a (rw k at h)) (λ k. not_both h (rw k))

  all_pass : (es : List Entry) → ((e : Entry) → Among e es → test e ≡ true) → every test es ≡ true
  all_pass [] f = refl
  all_pass (e ∷ es) f = rw (f e here) (all_pass es (λ d a. f d (later a)))

  pub every_told : (es : List Entry) → (every test es ≡ true) ↔ ((e : Entry) → Among e es → test e ≡ true)
  every_told es = (λ h e a. each_passes a h, all_pass es)

  pub one_fails : (es : List Entry) → every test es ≡ false → Fails test es
  one_fails [] h = not_both refl h
  one_fails (e ∷ es) h =
      tested (test e)
      (λ k.
      let r = one_fails es (rw k at h) in
      record { entry = r.entry; among = later r.among; fails = r.fails })
      (λ k. record { entry = e; among = here; fails = k })
