-- A pack that is read keeps the bounds of its arrays.
use mathlib.Core.Path.{◌≡◌, refl, sym, ap, ◌∙◌, subst}
use mathlib.Core.Bool.{Bool, false}
use mathlib.Core.List.{List, [], ◌∷◌, ◌++◌, map, append-nil}
use Prim.Native.Nat.{ℕ, suc, ◌+◌, ◌*◌, ◌≤◌, ◌<◌}
use native.Mathlib.Omega.{arith}
use lib.ListN.{length, replicate, length-replicate}
use Rattle.pack_rules.specs.Syntax.{Relation, Rule}
use Rattle.pack_token.specs.Token.{tokens}
use Rattle.pack_token.proofs.Pieces.{placed}
use Rattle.pack_grammar.specs.Limits.{max_bytes}
use Rattle.pack_grammar.specs.Grammar.{Text, RuleTree, semi}
use Rattle.pack_grammar.specs.Grammar.RuleTree.{Bare, Named}
use Rattle.pack_grammar.specs.RuleOf.{rule_of}
use Rattle.pack_grammar.specs.Steps.{State, Read, ends}
use Rattle.pack_grammar.specs.Steps.State.{WantsName, WantsColon, WantsNothing, WantsOperand, HasOperand, WantsModulus, HasModulus, WantsValue, HasValue, WantsUpper, HasUpper, Dead}
use Rattle.pack_grammar.specs.Steps.Read.{Whole, Cut}
use Rattle.pack_grammar.specs.Reader.{read_pack, or_else, fault_at}
use Rattle.pack_grammar.specs.Reader.Fault.{None}
use Rattle.pack_grammar.specs.Reader.PackAnswer.{Rules}
use Rattle.pack_grammar.specs.WellFormed.{texts}
use Rattle.pack_grammar.proofs.Viable.{far, outset, closed, halt}
use Rattle.pack_grammar.specs.Reader.Parsed.{Trees}
use Rattle.pack_phase.specs.Next.{same_phase}
use Rattle.pack_phase.specs.declared.Phase.{Phase}
use Rattle.pack_phase.specs.declared.Phase.TheVariants.{Value}
use Rattle.pack_phase.proofs.Phases.{phase_of}
use Rattle.pack_grammar.proofs.Exact.{ended}
use Rattle.pack_grammar.proofs.Whole.{faults, fault_on, whole_clean}
use Rattle.pack_grammar.proofs.Table.{long_other, long_rules, told_read}
use Rattle.pack_counts.specs.Counts.{more_if}
use Rattle.pack_counts.specs.declared.Counts.{Counts}
use Rattle.pack_walk.specs.declared.Current.{Current}
use Rattle.pack_reader.specs.Board.{Arrays, arrays_of, Sized, boards, start_walk, last_board}
use Rattle.pack_reader.specs.Bounds.{flat, conditioned, clauses_of, relations_of, ranges_of, Bounds}
use Rattle.pack_reader.proofs.Tally.{tally_most}
use Rattle.pack_reader.proofs.Holds.{HoldsAt, Base, Ds, Cs, Rs, Gs, numbers, numbers_length, none, conditions, closed_clauses}
use Rattle.pack_reader.proofs.Sims.{start, sims, sim_step}

conditioned_is : (d : List RuleTree) → conditioned (Ds d) ≡ conditions d
conditioned_is [] = refl
conditioned_is (Bare k ∷ d) = go (conditioned_is d)
  where
    go : {n m : ℕ} → n ≡ m → 0 + n ≡ m
    go e = omega arith
conditioned_is (Named k [] c ∷ d) = go (conditioned_is d)
  where
    go : {n m : ℕ} → n ≡ m → 1 + n ≡ suc m
    go e = omega arith
conditioned_is (Named k (x ∷ cs) c ∷ d) = go (conditioned_is d)
  where
    go : {n m : ℕ} → n ≡ m → 1 + n ≡ suc m
    go e = omega arith

cut_whole : {A : Type 0} {r : RuleTree} → Cut ≡ Whole r → A
cut_whole e = absurd (let z : ◌≡◌ {A = ℕ} 0 1 = cc in omega arith)

-- where a rule may end there is a byte to spare, and no value is wanted
whole_spare : (d : List RuleTree) (s : State) (c : Counts) (o : Current) (a : Arrays) (at : ℕ) (r : RuleTree) → HoldsAt d s c o a at → ends s ≡ Whole r
    → (2 * c.ranges + 1 ≤ at) × (same_phase (phase_of s) Value ≡ false)
whole_spare d WantsName c o a at r h e = cut_whole e
whole_spare d (WantsColon k) c o a at r h e = cut_whole e
whole_spare d (WantsNothing k) c o a at r h e = (h.2, refl)
whole_spare d (WantsOperand f) c o a at r h e = cut_whole e
whole_spare d (HasOperand f x) c o a at r h e = cut_whole e
whole_spare d (WantsModulus f x) c o a at r h e = cut_whole e
whole_spare d (HasModulus f x m) c o a at r h e = cut_whole e
whole_spare d (WantsValue f g vs) c o a at r h e = cut_whole e
whole_spare d (HasValue f g vs x) c o a at r h e = (h.4, refl)
whole_spare d (WantsUpper f g vs x) c o a at r h e = cut_whole e
whole_spare d (HasUpper f g vs x y) c o a at r h e = (h.3, refl)
whole_spare d Dead c o a at r h e = cut_whole e

clauses_all : (d : List RuleTree) → Cs d none ≡ clauses_of (Ds d)
clauses_all d = append-nil (closed_clauses d)

relations_all : (d : List RuleTree) → Rs d none ≡ relations_of (Ds d)
relations_all d = append-nil (flat (Cs d none)) ∙ ap flat (clauses_all d)

ranges_all : (d : List RuleTree) → Gs d none [] ≡ ranges_of (Ds d)
ranges_all d = append-nil (flat (map (λ (r : Relation). r.ranges) (Rs d none))) ∙ ap (λ (l : List Relation). flat (map (λ (r : Relation). r.ranges) l)) (relations_all d)

held_bounds : (d : List RuleTree) (c : Counts) (a : Arrays) (at : ℕ) → Base d none [] c a at → c.ranges < 2048 → Bounds (Ds d)
held_bounds d c a at b h =
    let t = tally_most (numbers d) (conditions d) b.tally in
    let x = ap length (clauses_all d) in
    let y = ap length (ap flat (clauses_all d)) in
    record {
      rules = omega (arith, t.0, numbers_length d);
      conditions = omega (arith, t.1, conditioned_is d);
      clauses = omega (arith, t.1, b.closed);
      relations = omega (arith, t.1, b.closed, b.per, x, y);
      ranges = omega (arith, b.kept.ranges.count, ap length (ranges_all d));
    }

abbrev blank : Arrays
blank = arrays_of (replicate 2048 0) (replicate 2048 0) (replicate 1280 0) (replicate 40 0) (replicate 6 0) (replicate 6 0)

blank_sized : Sized blank
blank_sized =
    record {
      low = length-replicate {A = ℕ} 2048 0;
      high = length-replicate {A = ℕ} 2048 0;
      columns = length-replicate {A = ℕ} 1280 0;
      relations = length-replicate {A = ℕ} 40 0;
      keyword = length-replicate {A = ℕ} 6 0;
      clauses = length-replicate {A = ℕ} 6 0;
    }

module _ (a : Arrays) (z : Sized a) (s : Text) (rs : List Rule) where
  within : length s ≤ max_bytes → (qs : List RuleTree) → halt outset (tokens 0 s) (length s) ≡ Trees qs → faults outset (tokens 0 s) ≡ None → rs ≡ map rule_of qs → Bounds rs
  within l qs e f q =
      let ts = tokens 0 s in
      let p = far outset (texts ts) in
      let b = boards (record { walk = start_walk; arrays = a }) ts in
      let g = sims ts (record { walk = start_walk; arrays = a }) outset None 0 (length s) (start a z) (placed (length s) 0 s (length s) (omega arith)) l in
      let t = sim_step b p (faults outset ts) g.0 (length s) semi g.2 g.1 l in
      let n = ended outset ts (length s) qs e in
      let w = whole_spare p.rules p.state b.walk.counts b.walk.current b.arrays g.0 n.0 (g.2.holds f) n.1 in
      let y = whole_clean p.rules p.state n.0 n.1 in
      let k : or_else (faults outset ts) (fault_at (fault_on p semi) (length s)) ≡ None = ap (λ (m : ℕ). or_else (faults outset ts) (fault_at m (length s))) y ∙ rw f in
      let h = subst (λ (x : Read). HoldsAt (closed p.rules x).rules (closed p.rules x).state (last_board a s).walk.counts (last_board a s).walk.current (last_board a s).arrays (suc (length s))) n.1 (t.holds k) in
      let c : (last_board a s).walk.counts.ranges ≡ b.walk.counts.ranges = ap (λ (x : Phase). more_if (same_phase x Value) b.walk.counts.ranges) g.2.phase ∙ ap (λ (x : Bool). more_if x b.walk.counts.ranges) w.1 in
      subst Bounds (ap (map rule_of) (sym n.2) ∙ sym q)
      (held_bounds (p.rules ++ (n.0 ∷ [])) (last_board a s).walk.counts (last_board a s).arrays (suc (length s)) h (omega (arith, w.0, g.1)))

-- "at most 8 clauses in a rule, 8 relations in a clause"; "fewer than 2,048 of those fit in one pack"
pub bounds : (s : Text) (rs : List Rule) → read_pack s ≡ Rules rs → Bounds rs
bounds s rs e =
    long_other s (Rules rs) e (long_rules rs)
    (λ l k.
    let w = told_read (halt outset (tokens 0 s) (length s)) (faults outset (tokens 0 s)) rs k in
    within blank blank_sized s rs l w.0 w.1 w.2 w.3)
