-- What a token adds to the arrays: a range, a range's upper end, a relation, a clause, a rule.
use mathlib.Core.Path.{◌≡◌, sym, ap, ◌∙◌}
use mathlib.Core.List.{List, [], ◌∷◌, ◌++◌, map}
use Prim.Native.Nat.{ℕ, ◌+◌, ◌-◌, ◌≤◌, ◌<◌}
use native.Mathlib.Omega.{arith}
use lib.ListN.{length, take, set, length-append}
use Rattle.pack_rules.specs.Syntax.{Range, Relation, Rule}
use Rattle.pack_rules.specs.Held.{Row, rows_of}
use Rattle.pack_grammar.specs.Limits.{max_bytes}
use Rattle.pack_counts.specs.Counts.{more_of}
use Rattle.pack_columns.specs.Stored.{set_row}
use Rattle.pack_reader.specs.Bounds.{flat}
use Rattle.pack_reader.proofs.Flats.{more_is, map_snoc, ends_of, ends_snoc, fill_more, fill_last, row_with, rows_for, rows_snoc, rows_set, rows_length, Ranges, Relations, Clauses, Rules}

one_more : {A : Type 0} (n : ℕ) (xs : List A) (x : A) → n < max_bytes → n ≡ length xs → more_of n ≡ length (xs ++ (x ∷ []))
one_more n xs x h e = more_is n h ∙ omega (arith, length-append xs (x ∷ []))

pub ranges_more : (low high : List ℕ) (n v : ℕ) (rs : List Range) → Ranges low high n rs → length low ≡ 2048 → length high ≡ 2048 → n < 2048
    → Ranges (set low n v) (set high n v) (more_of n) (rs ++ (record { low = v; high = v } ∷ []))
ranges_more low high n v rs h l m k =
    record {
      lows = fill_more low n v _ h.lows (omega arith) (omega arith) ∙ sym (map_snoc (λ (r : Range). r.low) rs (record { low = v; high = v }));
      highs = fill_more high n v _ h.highs (omega arith) (omega arith) ∙ sym (map_snoc (λ (r : Range). r.high) rs (record { low = v; high = v }));
      count = one_more n rs (record { low = v; high = v }) (omega arith) h.count;
    }

pub ranges_last : (low high : List ℕ) (n a v : ℕ) (rs : List Range) → Ranges low high n (rs ++ (record { low = a; high = a } ∷ [])) → n ≤ length high
    → Ranges low (set high (n - 1) v) n (rs ++ (record { low = a; high = v } ∷ []))
ranges_last low high n a v rs h l =
    record {
      lows = h.lows ∙ map_snoc (λ (r : Range). r.low) rs (record { low = a; high = a }) ∙ sym (map_snoc (λ (r : Range). r.low) rs (record { low = a; high = v }));
      highs =
          fill_last high (map (λ (r : Range). r.high) rs) n a v l (h.highs ∙ map_snoc (λ (r : Range). r.high) rs (record { low = a; high = a }))
          ∙ sym (map_snoc (λ (r : Range). r.high) rs (record { low = a; high = v }));
      count = h.count ∙ length-append rs (record { low = a; high = a } ∷ []) ∙ sym (length-append rs (record { low = a; high = v } ∷ []));
    }

pub relations_more : (columns : List ℕ) (n : ℕ) (w : Row) (rs : List Relation) (r : Relation) → Relations columns n rs → length columns ≡ 1280 → n < 320
    → w ≡ row_with (length (flat (map (λ (r : Relation). r.ranges) rs))) r → Relations (set_row columns n w) (more_of n) (rs ++ (r ∷ []))
relations_more columns n w rs r h l k q =
    let z : 0 + length (flat (map (λ (r : Relation). r.ranges) rs)) ≡ length (flat (map (λ (r : Relation). r.ranges) rs)) = omega arith in
    let e : length (rows_of columns) ≡ 320 = rows_length 320 columns (omega arith) in
    record {
      rows =
          ap (take (more_of n)) (rows_set n columns w) ∙ fill_more (rows_of columns) n w _ h.rows (omega arith) (omega arith)
          ∙ ap (λ (x : Row). rows_for 0 rs ++ (x ∷ [])) (q ∙ ap (λ (m : ℕ). row_with m r) (sym z)) ∙ sym (rows_snoc 0 rs r);
      count = one_more n rs r (omega arith) h.count;
    }

pub clauses_more : (ends : List ℕ) (n e : ℕ) (cs : List (List Relation)) (c : List Relation) → Clauses ends n cs → length ends ≡ 40 → n < 40
    → e ≡ length (flat cs) + length c → Clauses (set ends n e) (more_of n) (cs ++ (c ∷ []))
clauses_more ends n e cs c h l k q =
    let z : e ≡ 0 + length (flat cs) + length c = omega arith in
    record {
      ends_at = fill_more ends n e _ h.ends_at (omega arith) (omega arith) ∙ ap (λ x. ends_of 0 cs ++ (x ∷ [])) z ∙ sym (ends_snoc 0 cs c);
      count = one_more n cs c (omega arith) h.count;
    }

pub rules_more : (keyword ends : List ℕ) (n key e : ℕ) (ks : List ℕ) (rs : List Rule) (r : Rule) → Rules keyword ends n ks rs → length keyword ≡ 6
    → length ends ≡ 6 → n < 6 → e ≡ length (flat (map (λ (r : Rule). r.clauses) rs)) + length r.clauses
    → Rules (set keyword n key) (set ends n e) (more_of n) (ks ++ (key ∷ [])) (rs ++ (r ∷ []))
rules_more keyword ends n key e ks rs r h l1 l2 k q =
    let z : e ≡ 0 + length (flat (map (λ (r : Rule). r.clauses) rs)) + length r.clauses = omega arith in
    record {
      keys = fill_more keyword n key _ h.keys (omega arith) (omega arith);
      ends_at =
          fill_more ends n e _ h.ends_at (omega arith) (omega arith) ∙ ap (λ x. ends_of 0 (map (λ (r : Rule). r.clauses) rs) ++ (x ∷ [])) z
          ∙ sym (ends_snoc 0 (map (λ (r : Rule). r.clauses) rs) r.clauses) ∙ ap (ends_of 0) (sym (map_snoc (λ (r : Rule). r.clauses) rs r));
      count = one_more n rs r (omega arith) h.count;
    }
