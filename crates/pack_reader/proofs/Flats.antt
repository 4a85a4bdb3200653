-- Lists held flat: arrays filled from the front, the ends of lists put one behind the other, and reading them back.
use mathlib.Core.Path.{◌≡◌, refl, sym, ap, ◌∙◌}
use mathlib.Core.Bool.{Bool, true, false}
use mathlib.Core.List.{List, [], ◌∷◌, ◌++◌, map, append_assoc, append-nil}
use Prim.Native.Nat.{ℕ, zero, suc, ◌+◌, ◌*◌, ◌-◌, ◌≤◌, ◌<◌}
use native.Mathlib.Omega.{arith}
use native.Mathlib.Numerals.{add-one}
use lib.Dec.{eqb}
use lib.ListN.{length, take, drop, set, length-append, length-set}
use lib.Seq.{take-suc-set, take-set-lt, length-take-le, set-append_seam, take_at, drop_at}
use borrow.Author.Tests.{lt-ltb}
use Rattle.answer.specs.declared.Keyword.{Keyword}
use Rattle.pack_rules.specs.Syntax.{Range, Relation, Rule}
use Rattle.pack_rules.specs.Held.{Row, rows_of, row_ends, parts, keyword_of, ranges_from, relations_from, rules_from, held_relations, held_rules}
use Rattle.pack_grammar.specs.Limits.{max_bytes}
use Rattle.pack_counts.specs.Counts.{more_of}
use Rattle.pack_columns.specs.Stored.{set_row, code_of}
use Rattle.pack_reader.specs.Bounds.{flat}
use Rattle.pack_reader.specs.Board.{Arrays, pack_of}

pub more_is : (n : ℕ) → n < max_bytes → more_of n ≡ suc n
more_is n h = rw (lt-ltb n max_bytes h, add-one n)

-- ---- lists of lists

pub flat_snoc : {A : Type 0} (xs : List (List A)) (x : List A) → flat (xs ++ (x ∷ [])) ≡ flat xs ++ x
flat_snoc [] x = append-nil x
flat_snoc (y ∷ ys) x = rw (flat_snoc ys x) (sym (append_assoc y (flat ys) x))

pub flat_append : {A : Type 0} (xs ys : List (List A)) → flat (xs ++ ys) ≡ flat xs ++ flat ys
flat_append [] ys = refl
flat_append (x ∷ xs) ys = rw (flat_append xs ys) (sym (append_assoc x (flat xs) (flat ys)))

pub map_snoc : {A B : Type 0} (f : A → B) (xs : List A) (x : A) → map f (xs ++ (x ∷ [])) ≡ map f xs ++ (f x ∷ [])
map_snoc f [] x = refl
map_snoc f (y ∷ ys) x = ap (λ l. f y ∷ l) (map_snoc f ys x)

-- where each list ends when they stand one behind the other
abbrev pub ends_of : {A : Type 0} → ℕ → List (List A) → List ℕ
ends_of a [] = []
ends_of a (x ∷ xs) = (a + length x) ∷ ends_of (a + length x) xs

pub ends_snoc : {A : Type 0} (a : ℕ) (xs : List (List A)) (x : List A)
    → ends_of a (xs ++ (x ∷ [])) ≡ ends_of a xs ++ ((a + length (flat xs) + length x) ∷ [])
ends_snoc a [] x = ap (λ n. n ∷ []) (go a (length x))
  where
    go : (a n : ℕ) → a + n ≡ a + 0 + n
    go a n = omega arith
ends_snoc a (y ∷ ys) x =
    ap (λ l. (a + length y) ∷ l)
    (ends_snoc (a + length y) ys x ∙ ap (λ n. ends_of (a + length y) ys ++ (n ∷ [])) (go (length-append y (flat ys))))
  where
    go : length (y ++ flat ys) ≡ length y + length (flat ys) → a + length y + length (flat ys) + length x ≡ a + length (y ++ flat ys) + length x
    go e = omega arith

-- ---- arrays filled from the front

module _ {A : Type 0} where
  pub fill_more : (l : List A) (n : ℕ) (v : A) (xs : List A) → take n l ≡ xs → n < length l → n < max_bytes → take (more_of n) (set l n v) ≡ xs ++ (v ∷ [])
  fill_more l n v xs e h k = rw (more_is n k, take-suc-set l n v h, e)

  -- the last of what is taken, set anew
  pub fill_last : (l xs : List A) (n : ℕ) (a v : A) → n ≤ length l → take n l ≡ xs ++ (a ∷ []) → take n (set l (n - 1) v) ≡ xs ++ (v ∷ [])
  fill_last l xs n a v h e =
      let k : n ≡ length xs + 1 = sym (length-take-le n l h) ∙ ap length e ∙ length-append xs (a ∷ []) in
      let m : n - 1 ≡ length xs = omega arith in
      let j : n - 1 < n = omega arith in
      take-set-lt n l (n - 1) v j ∙ rw (e, m) (set-append_seam xs a [] v)

  -- what an array begins with, and the rest
  pub front : (l : List A) (n : ℕ) (xs : List A) → take n l ≡ xs → l ≡ xs ++ drop n l
  front l n xs e = go n l ∙ ap (λ m. m ++ drop n l) e
    where
      go : (n : ℕ) (l : List A) → l ≡ take n l ++ drop n l
      go zero l = refl
      go (suc n) [] = refl
      go (suc n) (x ∷ l) = ap (λ m. x ∷ m) (go n l)

  -- lists one behind the other, cut at their ends, are those lists
  pub parts_are : (xs : List (List A)) (more : List ℕ) (pre junk : List A)
      → (rest : List (List A)) × (parts (length pre) (ends_of (length pre) xs ++ more) (pre ++ (flat xs ++ junk)) ≡ xs ++ rest)
  parts_are [] more pre junk = (parts (length pre) more (pre ++ junk), refl)
  parts_are (x ∷ xs) more pre junk =
      let k : length (pre ++ x) ≡ length pre + length x = length-append pre x in
      let e : (pre ++ x) ++ (flat xs ++ junk) ≡ pre ++ ((x ++ flat xs) ++ junk) = append_assoc pre x (flat xs ++ junk) ∙ ap (λ l. pre ++ l) (sym (append_assoc x (flat xs) junk)) in
      let ih = parts_are xs more (pre ++ x) junk in
      let w : (length pre + length x) - length pre ≡ length x = omega arith in
      let d : drop (length pre) (pre ++ ((x ++ flat xs) ++ junk)) ≡ (x ++ flat xs) ++ junk = drop_at pre ((x ++ flat xs) ++ junk) (length pre) refl in
      let t : take (length x) ((x ++ flat xs) ++ junk) ≡ x = ap (take (length x)) (append_assoc x (flat xs) junk) ∙ take_at x (flat xs ++ junk) (length x) refl in
      (ih.0, rw (w, d, t) (ap (λ l. x ∷ l) (rw (k, e) at ih.1)))

-- ---- reading back

ranges_back : (rs : List Range) (j k : List ℕ)
    → (rest : List Range) × (ranges_from (map (λ (r : Range). r.low) rs ++ j) (map (λ (r : Range). r.high) rs ++ k) ≡ rs ++ rest)
ranges_back [] j k = (ranges_from j k, refl)
ranges_back (r ∷ rs) j k = let ih = ranges_back rs j k in (ih.0, ap (λ l. r ∷ l) ih.1)

-- the row of a relation whose ranges begin at a place, and the rows of relations one behind the other
abbrev pub row_with : ℕ → Relation → Row
row_with a r = record { operand = r.operand; modulus = r.modulus; comparison = code_of r.negated; end = a + length r.ranges }

abbrev pub rows_for : ℕ → List Relation → List Row
rows_for a [] = []
rows_for a (r ∷ rs) = row_with a r ∷ rows_for (a + length r.ranges) rs

pub rows_snoc : (a : ℕ) (rs : List Relation) (r : Relation)
    → rows_for a (rs ++ (r ∷ [])) ≡ rows_for a rs ++ (row_with (a + length (flat (map (λ (r : Relation). r.ranges) rs))) r ∷ [])
rows_snoc a [] r = ap (λ (n : ℕ). row_with n r ∷ []) (go a)
  where
    go : (a : ℕ) → a ≡ a + 0
    go a = omega arith
rows_snoc a (q ∷ rs) r =
    ap (λ (l : List Row). row_with a q ∷ l)
    (rows_snoc (a + length q.ranges) rs r
    ∙ ap (λ (n : ℕ). rows_for (a + length q.ranges) rs ++ (row_with n r ∷ [])) (go (length-append q.ranges (flat (map (λ (r : Relation). r.ranges) rs)))))
  where
    go : length (q.ranges ++ flat (map (λ (r : Relation). r.ranges) rs)) ≡ length q.ranges + length (flat (map (λ (r : Relation). r.ranges) rs))
        → a + length q.ranges + length (flat (map (λ (r : Relation). r.ranges) rs)) ≡ a + length (q.ranges ++ flat (map (λ (r : Relation). r.ranges) rs))
    go e = omega arith

ends_rows : (a : ℕ) (rs : List Relation) (ws : List Row) → row_ends (rows_for a rs ++ ws) ≡ ends_of a (map (λ (r : Relation). r.ranges) rs) ++ row_ends ws
ends_rows a [] ws = refl
ends_rows a (r ∷ rs) ws = ap (λ (l : List ℕ). (a + length r.ranges) ∷ l) (ends_rows (a + length r.ranges) rs ws)

code_back : (b : Bool) → eqb (code_of b) 1 ≡ b
code_back true = refl
code_back false = refl

relations_back : (a : ℕ) (rs : List Relation) (ws : List Row) (m : List (List Range))
    → (rest : List Relation) × (relations_from (rows_for a rs ++ ws) (map (λ (r : Relation). r.ranges) rs ++ m) ≡ rs ++ rest)
relations_back a [] ws m = (relations_from ws m, refl)
relations_back a (r ∷ rs) ws m = let ih = relations_back (a + length r.ranges) rs ws m in (ih.0, rw (code_back r.negated) (ap (λ x. r ∷ x) ih.1))

-- four numbers further on
row_places : (P : ℕ → ℕ → ℕ → ℕ → Type 0) (n : ℕ) → P (suc (suc (suc (suc (4 * n))))) (suc (suc (suc (suc (4 * n + 1))))) (suc (suc (suc (suc (4 * n + 2))))) (suc (suc (suc (suc (4 * n + 3)))))
    → P (4 * suc n) (4 * suc n + 1) (4 * suc n + 2) (4 * suc n + 3)
row_places P n h =
    let k : 4 * suc n ≡ suc (suc (suc (suc (4 * n)))) = omega arith in
    let k1 : 4 * suc n + 1 ≡ suc (suc (suc (suc (4 * n + 1)))) = omega arith in
    let k2 : 4 * suc n + 2 ≡ suc (suc (suc (suc (4 * n + 2)))) = omega arith in
    let k3 : 4 * suc n + 3 ≡ suc (suc (suc (suc (4 * n + 3)))) = omega arith in
    rw (k1, k2, k3, k) h

abbrev at : ℕ → Row → List ℕ → ℕ → ℕ → ℕ → ℕ → Type 0
at n w a i j k l = rows_of (set (set (set (set a i w.operand) j w.modulus) k w.comparison) l w.end) ≡ set (rows_of a) n w

-- a row stored among the columns is that row of the rows
pub rows_set : (n : ℕ) (a : List ℕ) (w : Row) → rows_of (set_row a n w) ≡ set (rows_of a) n w
rows_set zero [] w = refl
rows_set zero (o ∷ []) w = refl
rows_set zero (o ∷ m ∷ []) w = refl
rows_set zero (o ∷ m ∷ c ∷ []) w = refl
rows_set zero (o ∷ m ∷ c ∷ e ∷ a) w = refl
rows_set (suc n) [] w = row_places (at (suc n) w []) n refl
rows_set (suc n) (o ∷ []) w = row_places (at (suc n) w (o ∷ [])) n refl
rows_set (suc n) (o ∷ m ∷ []) w = row_places (at (suc n) w (o ∷ m ∷ [])) n refl
rows_set (suc n) (o ∷ m ∷ c ∷ []) w = row_places (at (suc n) w (o ∷ m ∷ c ∷ [])) n refl
rows_set (suc n) (o ∷ m ∷ c ∷ e ∷ a) w =
    row_places (at (suc n) w (o ∷ m ∷ c ∷ e ∷ a)) n (ap (λ (l : List Row). record { operand = o; modulus = m; comparison = c; end = e } ∷ l) (rows_set n a w))

pub length_row : (a : List ℕ) (n : ℕ) (w : Row) → length (set_row a n w) ≡ length a
length_row a n w = simp length-set

pub rows_length : (n : ℕ) (a : List ℕ) → length a ≡ 4 * n → length (rows_of a) ≡ n
rows_length zero [] h = refl
rows_length zero (o ∷ a) h = absurd (omega arith)
rows_length (suc n) [] h = absurd (omega arith)
rows_length (suc n) (o ∷ []) h = absurd (omega arith)
rows_length (suc n) (o ∷ m ∷ []) h = absurd (omega arith)
rows_length (suc n) (o ∷ m ∷ c ∷ []) h = absurd (omega arith)
rows_length (suc n) (o ∷ m ∷ c ∷ e ∷ a) h = ap suc (rows_length n a (omega arith))

rules_back : (ks : List ℕ) (rs : List Rule) (m : List (List (List Relation))) → map keyword_of ks ≡ map (λ (r : Rule). r.keyword) rs
    → rules_from ks (map (λ (r : Rule). r.clauses) rs ++ m) ≡ rs
rules_back [] [] m e = refl
rules_back [] (r ∷ rs) m e = absurd (no (ap length e))
  where
    no : 0 ≡ suc (length (map (λ (r : Rule). r.keyword) rs)) → ⊥
    no k = omega arith
rules_back (k ∷ ks) [] m e = absurd (no (ap length e))
  where
    no : suc (length (map keyword_of ks)) ≡ 0 → ⊥
    no k = omega arith
rules_back (k ∷ ks) (r ∷ rs) m e =
    let h : keyword_of k ≡ r.keyword = cc in
    let t : map keyword_of ks ≡ map (λ (r : Rule). r.keyword) rs = cc in
    ap (λ (w : Keyword). record { keyword = w; clauses = r.clauses } ∷ rules_from ks (map (λ (r : Rule). r.clauses) rs ++ m)) h
    ∙ ap (λ (l : List Rule). r ∷ l) (rules_back ks rs m t)

-- ---- what the arrays hold at each level

pub record Ranges (low high : List ℕ) (n : ℕ) (rs : List Range) : Type 0 where
  pub lows : take n low ≡ map (λ (r : Range). r.low) rs
  pub highs : take n high ≡ map (λ (r : Range). r.high) rs
  pub count : n ≡ length rs

pub record Relations (columns : List ℕ) (n : ℕ) (rs : List Relation) : Type 0 where
  pub rows : take n (rows_of columns) ≡ rows_for 0 rs
  pub count : n ≡ length rs

pub record Clauses (ends : List ℕ) (n : ℕ) (cs : List (List Relation)) : Type 0 where
  pub ends_at : take n ends ≡ ends_of 0 cs
  pub count : n ≡ length cs

pub record Rules (keyword ends : List ℕ) (n : ℕ) (ks : List ℕ) (rs : List Rule) : Type 0 where
  pub keys : take n keyword ≡ ks
  pub ends_at : take n ends ≡ ends_of 0 (map (λ (r : Rule). r.clauses) rs)
  pub count : n ≡ length rs

-- READ BACK: arrays that hold the ranges, relations and clauses of rules hold the rules
pub held_back : (a : Arrays) (n m k r : ℕ) (ks : List ℕ) (rules : List Rule) (cs : List (List Relation)) (rels : List Relation) (rs : List Range)
    → Ranges a.low a.high n rs → Relations a.columns m rels → Clauses a.relations k cs
    → Rules a.keyword a.clauses r ks rules
    → rs ≡ flat (map (λ (r : Relation). r.ranges) rels) → rels ≡ flat cs → cs ≡ flat (map (λ (r : Rule). r.clauses) rules)
    → map keyword_of ks ≡ map (λ (r : Rule). r.keyword) rules → held_rules (pack_of a r) ≡ rules
held_back a n m k r ks rules cs rels rs h1 h2 h3 h4 e1 e2 e3 e4 =
    let g = ranges_back rs (drop n a.low) (drop n a.high) in
    let g1 : ranges_from a.low a.high ≡ rs ++ g.0 = ap (λ l. ranges_from l a.high) (front a.low n _ h1.lows) ∙ ap (ranges_from (map (λ (r : Range). r.low) rs ++ drop n a.low)) (front a.high n _ h1.highs) ∙ g.1 in
    let ws = drop m (rows_of a.columns) in
    let w : rows_of a.columns ≡ rows_for 0 rels ++ ws = front (rows_of a.columns) m _ h2.rows in
    let p = parts_are (map (λ (r : Relation). r.ranges) rels) (row_ends ws) [] g.0 in
    let p1 : parts 0 (row_ends (rows_of a.columns)) (ranges_from a.low a.high) ≡ map (λ (r : Relation). r.ranges) rels ++ p.0 =
    ap (parts 0 (row_ends (rows_of a.columns))) (g1 ∙ ap (λ l. l ++ g.0) e1)
    ∙ ap (λ l. parts 0 l (flat (map (λ (r : Relation). r.ranges) rels) ++ g.0)) (ap row_ends w ∙ ends_rows 0 rels ws) ∙ p.1 in
    let q = relations_back 0 rels ws p.0 in
    let q1 : held_relations (pack_of a r) ≡ rels ++ q.0 = ap (relations_from (rows_of a.columns)) p1 ∙ ap (λ l. relations_from l (map (λ (r : Relation). r.ranges) rels ++ p.0)) w ∙ q.1 in
    let c = parts_are cs (drop k a.relations) [] q.0 in
    let c1 : parts 0 a.relations (held_relations (pack_of a r)) ≡ cs ++ c.0 =
    ap (parts 0 a.relations) (q1 ∙ ap (λ l. l ++ q.0) e2) ∙ ap (λ l. parts 0 l (flat cs ++ q.0)) (front a.relations k _ h3.ends_at) ∙ c.1 in
    let d = parts_are (map (λ (r : Rule). r.clauses) rules) (drop r a.clauses) [] c.0 in
    let d1 : parts 0 a.clauses (parts 0 a.relations (held_relations (pack_of a r))) ≡ map (λ (r : Rule). r.clauses) rules ++ d.0 =
    ap (parts 0 a.clauses) (c1 ∙ ap (λ l. l ++ c.0) e3) ∙ ap (λ l. parts 0 l (flat (map (λ (r : Rule). r.clauses) rules) ++ c.0)) (front a.clauses r _ h4.ends_at) ∙ d.1 in
    ap (λ l. rules_from l (parts 0 a.clauses (parts 0 a.relations (held_relations (pack_of a r))))) h4.keys
    ∙ ap (rules_from ks) d1 ∙ rules_back ks rules d.0 e4
