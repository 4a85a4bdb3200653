-- The entries that are read are the entries that the bytes spell, and a record breaks off exactly where its bytes spell none.
use mathlib.Core.Path.{◌≡◌, refl, sym, ap, subst, ◌∙◌}
use mathlib.Core.Bool.{true, false}
use mathlib.Core.List.{List, [], ◌∷◌, ◌++◌}
use mathlib.Core.Logic.{◌↔◌}
use Prim.Native.Nat.{ℕ, zero, suc, ◌≤◌, ◌<◌}
use native.Mathlib.Omega.{arith}
use borrow.Author.Tests.{ne_eqb, eqb-false, lt-ltb, ltb-true}
use lib.Dec.{eqb, ltb}
use lib.ListN.{length, take, drop, take-append-drop, length-append, length-drop}
use lib.Seq.{take_at, drop_at, length-take-le}
use Rattle.decimal.proofs.Choices.{tested, not_both}
use Rattle.records.specs.Entries.{Entry, body_len, entries, broken}
use Rattle.records.specs.Spelled.{Fixed, All, none, more, text_of, Spells, Among, here, later}
use Rattle.records.proofs.Walks.{entries_skip, broken_skip}

-- what holds of all entries holds of each
pub all_among : {P : Entry → Type 0} {e : Entry} {es : List Entry} → All P es → Among e es → P e
all_among {P = P} {e = e} none m = elim m [ ]
all_among (more p a) here = p
all_among (more p a) (later m) = all_among a m

-- two kinds of entries that are the same spell the same records
all_as : {P Q : Entry → Type 0} → ((e : Entry) → P e → Q e) → {es : List Entry} → All P es → All Q es
all_as f none = none
all_as f (more {e} {es} p a) = more (f e p) (all_as f a)

pub spells_as : {P Q : Entry → Type 0} → ((e : Entry) → P e → Q e) → {s : List ℕ} {es : List Entry} → Spells P s es → Spells Q s es
spells_as f w = record { text = w.text; all = all_as f w.all }

module _ (lengths : ℕ → ℕ) where
  -- ---- what is spelled is read

  len_spelled : (e : Entry) (r : List ℕ) → Fixed lengths e → body_len lengths (e.kind ∷ (e.body ++ r)) ≡ length e.body
  len_spelled e r z =
      let n = length e.body in
      let l : n < suc (length (e.body ++ r)) = omega (arith, length-append e.body r) in
      rw (z.size, lt-ltb n (suc (length (e.body ++ r))) l)

  spelled_read : (es : List Entry) → All (Fixed lengths) es → (entries lengths (text_of es) ≡ es) × (broken lengths (text_of es) ≡ false)
  spelled_read [] a = (refl, refl)
  spelled_read (e ∷ es) (more z a) =
      let ih = spelled_read es a in
      let n = length e.body in
      let r = text_of es in
      let l = len_spelled e r z in
      let p : n ≡ 0 → ⊥ = λ y. omega (arith, z.some) in
      let d : drop n (e.body ++ r) ≡ r = drop_at e.body r n refl in (
        entries_once e.kind (e.body ++ r) n l p ∙ (rw (take_at e.body r n refl, d) (ap (λ (t : List Entry). e ∷ t) ih.0)),
        broken_once e.kind (e.body ++ r) n l p ∙ rw d ih.1,
      )
    where
      entries_once : (b : ℕ) (s : List ℕ) (n : ℕ) → body_len lengths (b ∷ s) ≡ n → (n ≡ 0 → ⊥)
          → entries lengths (b ∷ s) ≡ record { kind = b; body = take n s } ∷ entries lengths (drop n s)
      entries_once b s n l p = rw (l, ne_eqb n 0 p) (ap (λ (t : List Entry). record { kind = b; body = take n s } ∷ t) (entries_skip lengths n s))

      broken_once : (b : ℕ) (s : List ℕ) (n : ℕ) → body_len lengths (b ∷ s) ≡ n → (n ≡ 0 → ⊥) → broken lengths (b ∷ s) ≡ broken lengths (drop n s)
      broken_once b s n l p = rw (l, ne_eqb n 0 p) (broken_skip lengths n s)

  pub spells_read : (s : List ℕ) (es : List Entry) → Spells (Fixed lengths) s es → (entries lengths s ≡ es) × (broken lengths s ≡ false)
  spells_read s es w =
      let r = spelled_read es w.all in
      (ap (entries lengths) w.text ∙ r.0, ap (broken lengths) w.text ∙ r.1)

  -- ---- what is read is spelled

  len_fixes : (b : ℕ) (s : List ℕ) → (body_len lengths (b ∷ s) ≡ 0 → ⊥) → (body_len lengths (b ∷ s) ≡ lengths b) × (lengths b ≤ length s)
  len_fixes b s z = tested (ltb (lengths b) (suc (length s))) (λ k. (rw k, omega (arith, ltb-true (lengths b) (suc (length s)) k))) (λ k. absurd (z (rw k)))

  read_step : (m b : ℕ) (r : List ℕ) → length r ≤ m → ((t : List ℕ) → length t ≤ m → broken lengths t ≡ false → Spells (Fixed lengths) t (entries lengths t))
      → broken lengths (b ∷ r) ≡ false → Spells (Fixed lengths) (b ∷ r) (entries lengths (b ∷ r))
  read_step m b r l ih e = tested (eqb (body_len lengths (b ∷ r)) 0) (λ k. not_both refl (rw k at e)) some
    where
      spelled : (n : ℕ) → (n ≡ 0 → ⊥) → n ≡ lengths b → n ≤ length r → broken lengths (drop n r) ≡ false
          → Spells (Fixed lengths) (b ∷ r) (record { kind = b; body = take n r } ∷ entries lengths (drop n r))
      spelled n p q room k =
          let w = ih (drop n r) (omega (arith, length-drop n r)) k in
          let z : length (take n r) ≡ n = length-take-le n r room in
          let d : Fixed lengths (record { kind = b; body = take n r }) = record { size = sym (z ∙ q); some = omega arith } in
          record {
            text = ap (λ (t : List ℕ). b ∷ t) (sym (take-append-drop n r) ∙ ap (λ (t : List ℕ). take n r ++ t) w.text);
            all = more d w.all;
          }

      some : eqb (body_len lengths (b ∷ r)) 0 ≡ false → Spells (Fixed lengths) (b ∷ r) (entries lengths (b ∷ r))
      some k =
          let n = body_len lengths (b ∷ r) in
          let p = eqb-false n 0 k in
          let f = len_fixes b r p in
          let c : broken lengths (drop n r) ≡ false = sym (broken_skip lengths n r) ∙ rw k at e in
          rw k (subst (λ (t : List Entry). Spells (Fixed lengths) (b ∷ r) (record { kind = b; body = take n r } ∷ t)) (sym (entries_skip lengths n r))
          (spelled n p f.0 (rw (sym f.0) at f.1) c))

  read_within : (m : ℕ) (s : List ℕ) → length s ≤ m → broken lengths s ≡ false → Spells (Fixed lengths) s (entries lengths s)
  read_within zero [] h e = record { text = refl; all = none }
  read_within zero (b ∷ r) h e = absurd (no h)
    where
      no : suc (length r) ≤ 0 → ⊥
      no g = omega arith
  read_within (suc m) [] h e = record { text = refl; all = none }
  read_within (suc m) (b ∷ r) h e = read_step m b r (omega arith) (λ t g c. read_within m t g c) e

  pub read_spells : (s : List ℕ) → broken lengths s ≡ false → Spells (Fixed lengths) s (entries lengths s)
  read_spells s e = read_within (length s) s (omega arith) e

  -- ---- "unknown kind, body cut short": exactly where the bytes spell no entries

  pub broken_told : (s : List ℕ) → (broken lengths s ≡ true) ↔ ((es : List Entry) → Spells (Fixed lengths) s es → ⊥)
  broken_told s =
      (λ k es w. not_both k (spells_read s es w).1, λ f. tested (broken lengths s) (λ k. k) (λ k. absurd (f (entries lengths s) (read_spells s k))))
