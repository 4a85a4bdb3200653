-- Laws of a walk over a record's entries, for the loops of those who have kinds: what stands in front, one turn, and the end.
use mathlib.Core.Path.{◌≡◌, refl, sym, ap, subst, ◌∙◌}
use mathlib.Core.Bool.{Bool, true, false, not}
use mathlib.Core.List.{List, [], ◌∷◌, ◌++◌}
use Prim.Native.Nat.{ℕ, zero, suc, ◌<◌}
use native.Mathlib.Omega.{arith}
use borrow.Author.Tests.{eq-eqb, ne_eqb, eqb-true, eqb-false, ltb-true}
use lib.Dec.{eqb, ltb}
use lib.ListN.{length, get_or, take, drop, length-append, take-append-drop}
use lib.Seq.{take_at, drop_at, length-take-le}
use Rattle.std.specs.Prelude.{Option, None, Some}
use Rattle.decimal.proofs.Choices.{choice, tested, never}
use Rattle.records.specs.declared.Head.{Head}
use Rattle.records.specs.Entries.{Entry, fitting, body_len, entries_from, entries, broken_from, broken, holds, body_in, twice, every, head_in, head_of, Stands, Located}

pub entries_skip : (lengths : ℕ → ℕ) (k : ℕ) (s : List ℕ) → entries_from lengths k s ≡ entries lengths (drop k s)
entries_skip lengths zero s = refl
entries_skip lengths (suc k) [] = refl
entries_skip lengths (suc k) (b ∷ s) = entries_skip lengths k s

pub broken_skip : (lengths : ℕ → ℕ) (k : ℕ) (s : List ℕ) → broken_from lengths k s ≡ broken lengths (drop k s)
broken_skip lengths zero s = refl
broken_skip lengths (suc k) [] = refl
broken_skip lengths (suc k) (b ∷ s) = broken_skip lengths k s

-- ---- what stands in front

differ : {N : Type 0} {h : Head N} → None ≡ Some h → ◌≡◌ {A = ℕ} 0 1
differ e = cc

head_none : {N : Type 0} (name : N) (n : ℕ) → head_in name n ≡ None → n ≡ 0
head_none name n e = tested (eqb n 0) (eqb-true n 0) (λ k. never (differ (sym (rw k at e))))

pub record HeadIs {N : Type 0} (name : N) (n : ℕ) (h : Head N) : Type 0 where
  pub its : h.name ≡ name
  pub size : h.len ≡ n
  pub some : n ≡ 0 → ⊥

pub head_some : {N : Type 0} (name : N) (n : ℕ) (h : Head N) → head_in name n ≡ Some h → HeadIs name n h
head_some {N} name n h e =
    tested (eqb n 0) (λ k. never (differ (rw k at e)))
    (λ k. by (rw k at e) (eqb-false n 0 k))
  where
    by : ◌≡◌ {A = Option (Head N)} (Some (record { name = name; len = n })) (Some h) → (n ≡ 0 → ⊥) → HeadIs name n h
    by q z =
        let p : record { name = name; len = n } ≡ h = cc in
        record { its = sym (ap (λ (x : Head N). x.name) p); size = sym (ap (λ (x : Head N). x.len) p); some = z }

pub fitting_zero : (n : ℕ) → fitting 0 n ≡ 0
fitting_zero n = tested (ltb 0 n) (λ k. rw k) (λ k. rw k)

fitting_lt : (m n : ℕ) → 0 < n → fitting m n < n
fitting_lt m n h = choice (λ (x : ℕ). x < n) (ltb m n) (λ e. ltb-true m n e) (λ e. h)

-- an entry stands in front where its kind and the bytes behind that make one
pub stands_front : {N : Type 0} (lengths names : ℕ → ℕ) (b : ℕ) (t : List ℕ) (name : N) (h : Head N) → head_in name (fitting (lengths b) (suc (length t))) ≡ Some h
    → Stands lengths names (b ∷ t) (names b) (take h.len t) (drop h.len t)
stands_front lengths names b t name h e =
    let n = fitting (lengths b) (suc (length t)) in
    let w = head_some name n h e in
    let l : length (take h.len t) ≡ n = length-take-le h.len t (omega (arith, w.size, fitting_lt (lengths b) (suc (length t)) (omega arith))) ∙ w.size in
    record { head = rw (ne_eqb n 0 w.some, l); text = ap (λ (u : List ℕ). b ∷ u) (sym (take-append-drop h.len t)) }

-- ---- one turn

-- an entry stands in front
pub record Turn (lengths names : ℕ → ℕ) (s : List ℕ) (name : ℕ) (body rest : List ℕ) : Type 0 where
  pub its : name ≡ names (get_or s 0 0)
  pub step : entries lengths s ≡ record { kind = get_or s 0 0; body = body } ∷ entries lengths rest
  pub whole : broken lengths s ≡ broken lengths rest
  pub less : length rest < length s

module _ (lengths names : ℕ → ℕ) where
  pub entries_end : (s : List ℕ) → head_of lengths names s ≡ None → entries lengths s ≡ []
  entries_end [] e = refl
  entries_end (b ∷ s) e = rw (eq-eqb _ _ (head_none (names b) (body_len lengths (b ∷ s)) e))

  pub broken_end : (s : List ℕ) → head_of lengths names s ≡ None → broken lengths s ≡ not (eqb (length s) 0)
  broken_end [] e = refl
  broken_end (b ∷ s) e = rw (eq-eqb _ _ (head_none (names b) (body_len lengths (b ∷ s)) e), ne_eqb (suc (length s)) 0 (λ k. omega arith))

module _ {lengths names : ℕ → ℕ} where
  turn_at : (b name : ℕ) (body rest : List ℕ) → Stands lengths names (b ∷ (body ++ rest)) name body rest → Turn lengths names (b ∷ (body ++ rest)) name body rest
  turn_at b name body rest p =
      let n = body_len lengths (b ∷ (body ++ rest)) in
      let w = head_some (names b) n _ p.head in
      let z : eqb (length body) 0 ≡ false = ne_eqb (length body) 0 (λ k. w.some (sym w.size ∙ k)) in
      record {
        its = w.its;
        step =
            rw (← w.size, z)
            (rw (take_at body rest (length body) refl)
            (ap (λ (l : List Entry). record { kind = b; body = body } ∷ l)
            (entries_skip lengths (length body) (body ++ rest) ∙ ap (entries lengths) (drop_at body rest (length body) refl))));
        whole = rw (← w.size, z) (broken_skip lengths (length body) (body ++ rest) ∙ ap (broken lengths) (drop_at body rest (length body) refl));
        less = omega (arith, length-append body rest);
      }

  pub turn : {s : List ℕ} {name : ℕ} {body rest : List ℕ} → Stands lengths names s name body rest → Turn lengths names s name body rest
  turn {s} {name} {body} {rest} p =
      subst (λ (t : List ℕ). Turn lengths names t name body rest) (sym p.text)
      (turn_at (get_or s 0 0) name body rest (subst (λ (t : List ℕ). Stands lengths names t name body rest) p.text p))

-- ---- the name x sought from here on: found, its body

pub record Sought (lengths names : ℕ → ℕ) (x : ℕ) (s rest : List ℕ) : Type 0 where
  pub has : holds names x (entries lengths rest) ≡ holds names x (entries lengths s)
  pub gives : body_in names x (entries lengths rest) ≡ body_in names x (entries lengths s)

module _ {lengths names : ℕ → ℕ} {x : ℕ} {s : List ℕ} where
  pub sought_start : Sought lengths names x s s
  sought_start = record { has = refl; gives = refl }

  pub sought_none : {t : List ℕ} → Sought lengths names x s t → entries lengths t ≡ [] → Located lengths names x s None
  sought_none {t} w e = record { found = sym (ap (holds names x) e) ∙ w.has; part = sym (ap (body_in names x) e) ∙ w.gives }

module _ {lengths names : ℕ → ℕ} {s : List ℕ} {name : ℕ} {body rest : List ℕ} (t : Turn lengths names s name body rest) where
  named : (x : ℕ) (b : Bool) → eqb name x ≡ b → eqb (names (get_or s 0 0)) x ≡ b
  named x b f = rw t.its at f

  pub sought_found : {a : List ℕ} {x : ℕ} → Sought lengths names x a s → eqb name x ≡ true → Located lengths names x a (Some body)
  sought_found {a} {x} w f =
      let g = named x true f in
      record { found = sym (ap (holds names x) t.step ∙ rw g) ∙ w.has; part = sym (ap (body_in names x) t.step ∙ rw g) ∙ w.gives }

  pub sought_again : {a : List ℕ} {x : ℕ} → Sought lengths names x a s → eqb name x ≡ false → Sought lengths names x a rest
  sought_again {a} {x} w f =
      let g = named x false f in
      record { has = sym (ap (holds names x) t.step ∙ rw g) ∙ w.has; gives = sym (ap (body_in names x) t.step ∙ rw g) ∙ w.gives }

  -- ---- a name twice: the answer for the entries still to come is the whole answer

  pub twice_found : holds names name (entries lengths rest) ≡ true → twice names (entries lengths s) ≡ true
  twice_found f = ap (twice names) t.step ∙ rw (rw t.its at f)

  pub twice_again : {a : Bool} → holds names name (entries lengths rest) ≡ false → twice names (entries lengths s) ≡ a → twice names (entries lengths rest) ≡ a
  twice_again f k = sym (ap (twice names) t.step ∙ rw (rw t.its at f)) ∙ k

  -- ---- a test of each entry

  pub every_again : {a : Bool} (test : Entry → Bool) → test (record { kind = get_or s 0 0; body = body }) ≡ true → every test (entries lengths s) ≡ a
      → every test (entries lengths rest) ≡ a
  every_again test f k = sym (ap (every test) t.step ∙ rw f) ∙ k

  pub every_fails : (test : Entry → Bool) → test (record { kind = get_or s 0 0; body = body }) ≡ false → every test (entries lengths s) ≡ false
  every_fails test f = ap (every test) t.step ∙ rw f
