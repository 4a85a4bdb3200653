-- The board goes with the definition, token by token; so the last board has the pack's answer and rules.
use Rattle.answer.specs.declared.PackRow.{PackRow}
use Rattle.answer.specs.declared.Refusal.{Refusal}
use mathlib.Core.Path.{◌≡◌, refl, sym, ap, ◌∙◌, subst}
use mathlib.Core.Bool.{Bool, true, false}
use mathlib.Core.List.{List, [], ◌∷◌, ◌++◌, map, append-nil}
use Prim.Native.Nat.{ℕ, suc, ◌≤◌}
use native.Mathlib.Omega.{arith}
use lib.Dec.{eqb, ltb}
use lib.ListN.{length}
use borrow.Author.Tests.{ltb-false, le-ltb}
use Rattle.std.specs.Prelude.{Err, Ok, Result, Option, Some, None as Absent, if◌then◌else◌}
use Rattle.decimal.proofs.Choices.{choice, tested, not_both}
use Rattle.pack_rules.specs.Syntax.{Relation}
use Rattle.pack_rules.specs.declared.Pack.{Pack}
use Rattle.pack_rules.specs.Held.{held_rules}
use Rattle.pack_token.specs.Spelling.{same}
use Rattle.pack_token.specs.Token.{dots, differ, Token, tokens}
use Rattle.pack_token.proofs.Pieces.{Placed, placed_le, placed}
use Rattle.pack_grammar.specs.Limits.{max_bytes}
use Rattle.pack_grammar.specs.Grammar.{Text, RuleTree, RangeTree, HeadTree, semi, colon, comma, percent, equal, and, or, other, is_word, is_number, is_operand}
use Rattle.pack_grammar.specs.Grammar.RangeTree.{One, Span}
use Rattle.pack_grammar.specs.Grammar.HeadTree.{Plain, Modulo}
use Rattle.pack_grammar.specs.RuleOf.{rule_of}
use Rattle.pack_grammar.specs.Steps.{Front, State, go_on, signed, step, Read, ends}
use Rattle.pack_grammar.specs.Steps.State.{WantsName, WantsColon, WantsNothing, WantsOperand, HasOperand, WantsModulus, HasModulus, WantsValue, HasValue, WantsUpper, HasUpper, Dead as Died}
use Rattle.pack_grammar.specs.Steps.Read.{Whole, Cut}
use Rattle.pack_grammar.specs.Reader.{is_dead, Parsed, Fault, or_else, fault_at, row_of, PackAnswer, judge, read_pack}
use Rattle.pack_grammar.specs.Reader.PackAnswer.{Rules, Refused}
use Rattle.pack_grammar.specs.Reader.Parsed.{Trees, Bad}
use Rattle.pack_grammar.specs.Reader.Fault.{None, At}
use Rattle.pack_grammar.specs.WellFormed.{texts}
use Rattle.pack_grammar.proofs.Places.{or_0, or_1}
use Rattle.pack_grammar.proofs.Viable.{Far, closed, onward, far, outset, halt, last}
use Rattle.pack_grammar.proofs.Exact.{ended}
use Rattle.pack_grammar.proofs.Whole.{fault_on, faults, goes_on, whole_clean, read_whole}
use Rattle.pack_grammar.proofs.Table.{fault_none}
use Rattle.pack_phase.specs.Next.{next_phase, same_phase}
use Rattle.pack_phase.specs.declared.Phase.{Phase}
use Rattle.pack_phase.specs.declared.Phase.TheVariants.{Name, Dead}
use Rattle.pack_phase.proofs.Phases.{phase_of, Flag, phase_on}
use Rattle.pack_counts.specs.declared.Counts.{Counts}
use Rattle.pack_faults.specs.Faults.{fault_after}
use Rattle.pack_faults.specs.declared.Fault.{Fault as Found}
use Rattle.pack_faults.specs.declared.Mark.{Mark}
use Rattle.pack_walk.specs.Steps.{stop_after}
use Rattle.pack_walk.specs.declared.Current.{Current}
use Rattle.pack_walk.specs.declared.Walk.{Walk}
use Rattle.pack_verdict.specs.Verdict.{read_by, judged, judged_all}
use Rattle.pack_reader.specs.Answer.{read_of, rules_of, ReadAs}
use Rattle.pack_reader.specs.Board.{Arrays, Sized, Board, board_after, boards, start_walk, within4096, last_board, pack_of}
use Rattle.pack_reader.specs.Bounds.{flat}
use Rattle.pack_reader.proofs.Flats.{held_back}
use Rattle.pack_reader.proofs.Tally.{no_tally}
use Rattle.pack_reader.proofs.Holds.{HoldsAt, Base, Ds, Cs, Rs, Gs, numbers, none, closed_clauses}
use Rattle.pack_reader.proofs.Numbers.{row_if}
use Rattle.pack_reader.proofs.Moves.{row_on, row_on_number, row_is, move}

-- ---- the flag behind a token

flag_on : (p : Far) (t : Text) → Flag (onward p t).state (same t other)
flag_on p t = choice (λ (q : Far). Flag q.state (same t other)) (same t semi) (λ _. shut (ends p.state)) (λ _. on p.state)
  where
    P : State → Type 0
    P s = Flag s (same t other)

    shut : (x : Read) → Flag (closed p.rules x).state (same t other)
    shut (Whole r) = tt
    shut Cut = tt

    signs : (f : Front) (h : Bool → HeadTree) → P (signed f h t)
    signs f h = choice P (same t equal) (λ _. tt) (λ _. choice P (same t differ) (λ _. tt) (λ _. tt))

    goes : (f : Front) (h : HeadTree) (vs : List RangeTree) (v : RangeTree) → P (go_on f h vs v t)
    goes f h vs v = choice P (same t comma) (λ _. tt) (λ _. choice P (same t and) (λ _. tt) (λ _. choice P (same t or) (λ _. tt) (λ _. tt)))

    on : (s : State) → P (step s t)
    on WantsName = choice P (is_word t) (λ _. refl) (λ _. tt)
    on (WantsColon k) = choice P (same t colon) (λ _. choice P (same k other) (λ _. tt) (λ _. tt)) (λ _. tt)
    on (WantsNothing k) = tt
    on (WantsOperand f) = choice P (is_operand t) (λ _. tt) (λ _. tt)
    on (HasOperand f o) = choice P (same t percent) (λ _. tt) (λ _. signs f (Plain o))
    on (WantsModulus f o) = choice P (is_number t) (λ _. tt) (λ _. tt)
    on (HasModulus f o m) = signs f (Modulo o m)
    on (WantsValue f h vs) = choice P (is_number t) (λ _. tt) (λ _. tt)
    on (HasValue f h vs a) = choice P (same t dots) (λ _. tt) (λ _. goes f h vs (One a))
    on (WantsUpper f h vs a) = choice P (is_number t) (λ _. tt) (λ _. tt)
    on (HasUpper f h vs a b) = goes f h vs (Span a b)
    on Died = tt

-- ---- one token

-- a fault as the code has it
abbrev as_fault : Fault → Option Found
as_fault None = Absent
as_fault (At n p) = Some (record { row = row_of n; at = record { 0 = p } })

pub record Sim (b : Board) (p : Far) (f : Fault) (at : ℕ) : Type 0 where
  pub phase : b.walk.phase ≡ phase_of p.state
  pub flag : Flag p.state b.walk.current.other
  pub fault : b.walk.mark.fault ≡ as_fault f
  pub holds : f ≡ None → HoldsAt p.rules p.state b.walk.counts b.walk.current b.arrays at

abbrev board_for : Far → Counts → Current → Mark → Arrays → Board
board_for p c o m a = record { walk = record { phase = phase_of p.state; counts = c; current = o; mark = m }; arrays = a }

fault_more : (m : Option Found) (f : Fault) (n q : ℕ) → m ≡ as_fault f → fault_after m (row_if n) q ≡ as_fault (or_else f (fault_at n q))
fault_more m None n q e = rw e (tested (eqb n 0) (λ k. rw k) (λ k. rw k))
fault_more m (At x y) n q e = rw e

same_row : (f : Fault) (n m q : ℕ) → (f ≡ None → n ≡ m) → or_else f (fault_at n q) ≡ or_else f (fault_at m q)
same_row None n m q h = ap (λ (x : ℕ). fault_at x q) (h refl)
same_row (At x y) n m q h = refl

sim_at : (p : Far) (c : Counts) (o : Current) (m : Mark) (a : Arrays) (f : Fault) (at q : ℕ) (t : Text) → Flag p.state o.other → m.fault ≡ as_fault f
    → (f ≡ None → HoldsAt p.rules p.state c o a at) → at ≤ q → q ≤ max_bytes
    → Sim (board_after (board_for p c o m a) t q) (onward p t) (or_else f (fault_at (fault_on p t) q)) (suc q)
sim_at p c o m a f at q t g e h l k =
    record {
      phase = sym (phase_on p o.other t g);
      flag = flag_on p t;
      fault =
          ap (λ (r : Option PackRow). fault_after m.fault r q) (row_on_number p.state c o a t)
          ∙ fault_more m.fault f (row_on p.state c o a t) q e
          ∙ ap as_fault (same_row f (row_on p.state c o a t) (fault_on p t) q (λ z. row_is p.rules p.state c o a at t (h z)));
      holds = λ z.
          move p.rules c o a at q l k p.state t (h (or_0 f (fault_at (fault_on p t) q) z)) (fault_none (fault_on p t) q (or_1 f (fault_at (fault_on p t) q) z));
    }

pub sim_step : (b : Board) (p : Far) (f : Fault) (at q : ℕ) (t : Text) → Sim b p f at → at ≤ q → q ≤ max_bytes
    → Sim (board_after b t q) (onward p t) (or_else f (fault_at (fault_on p t) q)) (suc q)
sim_step b p f at q t h l k =
    let w = b.walk in
    let e : b ≡ board_for p w.counts w.current w.mark b.arrays =
    ap (λ (x : Phase). record { walk = record { phase = x; counts = w.counts; current = w.current; mark = w.mark }; arrays = b.arrays }) h.phase in
    subst (λ (x : Board). Sim (board_after x t q) (onward p t) (or_else f (fault_at (fault_on p t) q)) (suc q)) (sym e)
    (sim_at p w.counts w.current w.mark b.arrays f at q t h.flag h.fault h.holds l k)

-- ---- all tokens, each behind the one before

or_none : (f : Fault) → or_else f None ≡ f
or_none None = refl
or_none (At n p) = refl

pub sims : (ts : List Token) (b : Board) (p : Far) (f : Fault) (at end : ℕ) → Sim b p f at → Placed at ts end → end ≤ max_bytes
    → (n : ℕ) × (n ≤ end) × Sim (boards b ts) (far p (texts ts)) (or_else f (faults p ts)) n
sims [] b p f at end h g l = (at, g, subst (λ (x : Fault). Sim b p x at) (sym (or_none f)) h)
sims (t ∷ ts) b p f at end h g l =
    let k = placed_le (suc t.at) ts end g.1 in
    let r = sims ts (board_after b t.text t.at) (onward p t.text) (or_else f (fault_at (fault_on p t.text) t.at)) (suc t.at) end
    (sim_step b p f at t.at t.text h g.0 (omega arith)) g.1 l in (
      r.0,
      r.1,
      subst (λ (x : Fault). Sim (boards (board_after b t.text t.at) ts) (far (onward p t.text) (texts ts)) x r.0)
          (sym (goes_on f (fault_at (fault_on p t.text) t.at) (faults (onward p t.text) ts))) r.2,
    )

-- ---- where nothing could follow

alive_phase : (s : State) → is_dead s ≡ false → same_phase (phase_of s) Dead ≡ false
alive_phase WantsName e = refl
alive_phase (WantsColon k) e = refl
alive_phase (WantsNothing k) e = refl
alive_phase (WantsOperand f) e = refl
alive_phase (HasOperand f o) e = refl
alive_phase (WantsModulus f o) e = refl
alive_phase (HasModulus f o m) e = refl
alive_phase (WantsValue f h vs) e = refl
alive_phase (HasValue f h vs a) e = refl
alive_phase (WantsUpper f h vs a) e = refl
alive_phase (HasUpper f h vs a b) e = refl
alive_phase Died e = not_both refl e

dead_phase : (s : State) → is_dead s ≡ true → phase_of s ≡ Dead
dead_phase WantsName e = not_both e refl
dead_phase (WantsColon k) e = not_both e refl
dead_phase (WantsNothing k) e = not_both e refl
dead_phase (WantsOperand f) e = not_both e refl
dead_phase (HasOperand f o) e = not_both e refl
dead_phase (WantsModulus f o) e = not_both e refl
dead_phase (HasModulus f o m) e = not_both e refl
dead_phase (WantsValue f h vs) e = not_both e refl
dead_phase (HasValue f h vs a) e = not_both e refl
dead_phase (WantsUpper f h vs a) e = not_both e refl
dead_phase (HasUpper f h vs a b) e = not_both e refl
dead_phase Died e = refl

-- the phase is over, at this place
pub record Over (b : Board) (x : ℕ) : Type 0 where
  pub phase : b.walk.phase ≡ Dead
  pub stop : b.walk.mark.stop ≡ x

over_after : (b : Board) (x : ℕ) (t : Text) (q : ℕ) → Over b x → Over (board_after b t q) x
over_after b x t q h =
    record {
      phase = ap (λ (y : Phase). next_phase y b.walk.current.other t) h.phase;
      stop = ap (λ (y : Phase). stop_after y b.walk.mark.stop q) h.phase ∙ h.stop;
    }

over_boards : (ts : List Token) (b : Board) (x : ℕ) → Over b x → Over (boards b ts) x
over_boards [] b x h = h
over_boards (t ∷ ts) b x h = over_boards ts (board_after b t.text t.at) x (over_after b x t.text t.at h)

-- what the last board says of 21
abbrev Outcome : Parsed → Board → Type 0
Outcome (Bad x) b = Over b x
Outcome (Trees rs) b = b.walk.phase ≡ Name

phase_after : (b : Board) (p : Far) (t : Text) (q : ℕ) → b.walk.phase ≡ phase_of p.state → Flag p.state b.walk.current.other
    → (board_after b t q).walk.phase ≡ phase_of (onward p t).state
phase_after b p t q e g = ap (λ (y : Phase). next_phase y b.walk.current.other t) e ∙ sym (phase_on p b.walk.current.other t g)

stop_after_law : (b : Board) (p : Far) (t : Text) (q : ℕ) → b.walk.phase ≡ phase_of p.state → is_dead p.state ≡ false → (board_after b t q).walk.mark.stop ≡ q
stop_after_law b p t q e v =
    ap (λ (y : Phase). stop_after y b.walk.mark.stop q) e ∙ rw (alive_phase p.state v)

outcome : (ts : List Token) (b : Board) (p : Far) (end : ℕ) → b.walk.phase ≡ phase_of p.state → Flag p.state b.walk.current.other → is_dead p.state ≡ false
    → Outcome (halt p ts end) (board_after (boards b ts) semi end)
outcome [] b p end e g v = go (ends p.state) refl
  where
    go : (x : Read) → ends p.state ≡ x → Outcome (last p.rules end x) (board_after b semi end)
    go (Whole r) k = phase_after b p semi end e g ∙ ap (λ (y : Read). phase_of (closed p.rules y).state) k
    go Cut k = record { phase = phase_after b p semi end e g ∙ ap (λ (y : Read). phase_of (closed p.rules y).state) k; stop = stop_after_law b p semi end e v }
outcome (t ∷ ts) b p end e g v =
    go (is_dead (onward p t.text).state) refl
    (outcome ts (board_after b t.text t.at) (onward p t.text) end (phase_after b p t.text t.at e g) (flag_on p t.text))
  where
    next : Board
    next = board_after b t.text t.at

    go : (x : Bool) → is_dead (onward p t.text).state ≡ x
        → (is_dead (onward p t.text).state ≡ false → Outcome (halt (onward p t.text) ts end) (board_after (boards (board_after b t.text t.at) ts) semi end))
        → Outcome (if x then Bad t.at else halt (onward p t.text) ts end) (board_after (boards (board_after b t.text t.at) ts) semi end)
    go true k f =
        over_after (boards (board_after b t.text t.at) ts) t.at semi end
        (over_boards ts (board_after b t.text t.at) t.at
        (record {
          phase = phase_after b p t.text t.at e g ∙ dead_phase (onward p t.text).state k;
          stop = stop_after_law b p t.text t.at e v;
        }))
    go false k f = f k

-- ---- the whole pack

pub start : (a : Arrays) → Sized a → Sim (record { walk = start_walk; arrays = a }) outset None 0
start a z =
    record {
      phase = refl;
      flag = tt;
      fault = refl;
      holds = λ _.
          record {
            kept =
                record {
                  ranges = record { lows = refl; highs = refl; count = refl };
                  relations = record { rows = refl; count = refl };
                  clauses = record { ends_at = refl; count = refl };
                  rules = record { keys = refl; ends_at = refl; count = refl };
                };
            sized = z;
            values = refl;
            joined = refl;
            parted = refl;
            tally = no_tally;
            closed = omega arith;
            per = omega arith;
            keyed = refl;
            room = omega arith;
          };
    }

-- rules that are held with nothing open
held : (d : List RuleTree) (c : Counts) (a : Arrays) (at : ℕ) → Base d none [] c a at → held_rules (pack_of a c.rules) ≡ map rule_of d
held d c a at b =
    held_back a c.ranges c.relations c.clauses c.rules (numbers d) (Ds d) (Cs d none) (Rs d none) (Gs d none [])
    b.kept.ranges b.kept.relations b.kept.clauses b.kept.rules
    (append-nil (flat (map (λ (r : Relation). r.ranges) (Rs d none)))) (append-nil (flat (Cs d none))) (append-nil (closed_clauses d)) b.keyed

-- the answer as a count of rules
abbrev pub counted_of : PackAnswer → Result ℕ Refusal
counted_of (Rules rs) = Ok (length rs)
counted_of (Refused r) = Err r

abbrev pub count_in : Result ℕ Refusal → ℕ
count_in (Ok n) = n
count_in (Err r) = 0

pub record Counted (a : PackAnswer) (v : Result ℕ Refusal) (p : Pack) : Type 0 where
  pub answer : v ≡ counted_of a
  pub rules : held_rules p ≡ rules_of a

-- a fault gives the answer, and so does the count of rules where there is none
by_fault : (m : Option Found) (n : ℕ) (f : Fault) (rs : List RuleTree) → m ≡ as_fault f → (f ≡ None → n ≡ length (map rule_of rs))
    → read_by m n ≡ counted_of (judge (Trees rs) f)
by_fault m n None rs e h = rw e (ap Ok (h refl))
by_fault m n (At x y) rs e h = rw e

pub record Answered (b : Board) (p : Parsed) (f : Fault) : Type 0 where
  pub answer : judged b.walk ≡ counted_of (judge p f)
  pub rules : held_rules (pack_of b.arrays (count_in (judged b.walk))) ≡ rules_of (judge p f)

answered_bad : (b : Board) (x : ℕ) (f : Fault) → Over b x → Answered b (Bad x) f
answered_bad b x f h =
    let v : judged b.walk ≡ counted_of (judge (Bad x) f) = rw (h.phase, h.stop) in
    record { answer = v; rules = rw v }

answered_trees : (b : Board) (d rs : List RuleTree) (f : Fault) (at : ℕ) → b.walk.phase ≡ Name → b.walk.mark.fault ≡ as_fault f
    → (f ≡ None → Base d none [] b.walk.counts b.arrays at) → rs ≡ d → Answered b (Trees rs) f
answered_trees b d rs f at e g h q =
    let v : judged b.walk ≡ counted_of (judge (Trees rs) f) = rw e (by_fault b.walk.mark.fault b.walk.counts.rules f rs g size) in
    record { answer = v; rules = rw v (go f refl) }
  where
    size : f ≡ None → b.walk.counts.rules ≡ length (map rule_of rs)
    size k = (h k).kept.rules.count ∙ ap (λ (l : List RuleTree). length (map rule_of l)) (sym q)

    go : (x : Fault) → f ≡ x → held_rules (pack_of b.arrays (count_in (counted_of (judge (Trees rs) x)))) ≡ rules_of (judge (Trees rs) x)
    go None k =
        ap (λ (n : ℕ). held_rules (pack_of b.arrays n)) (sym (size k)) ∙ held d b.walk.counts b.arrays at (h k) ∙ ap (map rule_of) (sym q)
    go (At n y) k = refl

pub answered : (a : Arrays) (s : Text) → Sized a → length s ≤ max_bytes → Answered (last_board a s) (halt outset (tokens 0 s) (length s)) (faults outset (tokens 0 s))
answered a s z l = go (halt outset (tokens 0 s) (length s)) refl (outcome (tokens 0 s) b outset (length s) refl tt refl)
  where
    b : Board
    b = record { walk = start_walk; arrays = a }

    go : (x : Parsed) → halt outset (tokens 0 s) (length s) ≡ x → Outcome x (last_board a s) → Answered (last_board a s) x (faults outset (tokens 0 s))
    go (Bad x) e o = answered_bad (last_board a s) x (faults outset (tokens 0 s)) o
    go (Trees rs) e o =
        let ts = tokens 0 s in
        let p = far outset (texts ts) in
        let r = sims ts (record { walk = start_walk; arrays = a }) outset None 0 (length s) (start a z) (placed (length s) 0 s (length s) (omega arith)) l in
        let t = sim_step (boards (record { walk = start_walk; arrays = a }) ts) p (faults outset ts) r.0 (length s) semi r.2 r.1 l in
        let n = ended outset ts (length s) rs e in
        let y = whole_clean p.rules p.state n.0 n.1 in
        let f : or_else (faults outset ts) (fault_at (fault_on p semi) (length s)) ≡ faults outset ts = ap (λ (m : ℕ). or_else (faults outset ts) (fault_at m (length s))) y ∙ or_none (faults outset ts) in
        answered_trees (last_board a s) (p.rules ++ (n.0 ∷ [])) rs (faults outset ts) (suc (length s)) o (t.fault ∙ ap as_fault f)
        (λ k. subst (λ (x : Read). HoldsAt (closed p.rules x).rules (closed p.rules x).state (last_board a s).walk.counts (last_board a s).walk.current (last_board a s).arrays (suc (length s))) n.1 (t.holds (f ∙ k)))
        n.2

-- ANSWER: a short pack's last board has its answer and its rules
pub answer : (a : Arrays) (s : Text) → Sized a → length s ≤ max_bytes
    → Counted (read_pack s) (judged (last_board a s).walk) (pack_of (last_board a s).arrays (count_in (judged (last_board a s).walk)))
answer a s z l =
    let e : read_pack s ≡ judge (halt outset (tokens 0 s) (length s)) (faults outset (tokens 0 s)) = rw (read_whole s, le-ltb max_bytes (length s) l) in
    let w = answered a s z l in
    record { answer = w.answer ∙ ap counted_of (sym e); rules = w.rules ∙ ap rules_of (sym e) }

-- ---- what `read_pack` returns

-- a short pack's walk, and that of any other, gives the answer
judged_as : (a e : Arrays) (u : Walk) (s : Text) → Sized a → record { walk = u; arrays = e } ≡ last_board a (within4096 s)
    → Counted (read_pack s) (judged_all (length s) u) (pack_of e (count_in (judged_all (length s) u)))
judged_as a e u s z q =
    tested (ltb max_bytes (length s))
    (λ k. record { answer = rw k; rules = rw k })
    (λ k.
    let f : record { walk = u; arrays = e } ≡ last_board a s = rw k at q in
    let w = answer a s z (ltb-false max_bytes (length s) k) in
    let j : judged_all (length s) u ≡ judged u = rw k in
    record {
      answer = j ∙ (ap (λ (x : Board). judged x.walk) f ∙ w.answer);
      rules =
          ap (λ (v : Result ℕ Refusal). held_rules (pack_of e (count_in v))) j
          ∙ (ap (λ (x : Board). held_rules (pack_of x.arrays (count_in (judged x.walk)))) f ∙ w.rules);
    })

-- so much of the count is told
abbrev done : Result ℕ Refusal → Result (Unit {0}) Refusal
done (Ok n) = Ok tt
done (Err r) = Err r

counted_done : (a : PackAnswer) → done (counted_of a) ≡ read_of a
counted_done (Rules rs) = refl
counted_done (Refused r) = refl

counted_length : (a : PackAnswer) → count_in (counted_of a) ≡ length (rules_of a)
counted_length (Rules rs) = refl
counted_length (Refused r) = refl

-- whatever arrays of these sizes came first: those that are left, and what is judged of the walk, are the answer
told : (a e : Arrays) (u : Walk) (s : Text) {v : Result ℕ Refusal} → Sized a → record { walk = u; arrays = e } ≡ last_board a (within4096 s)
    → v ≡ judged_all (length s) u → ReadAs (read_pack s) (done v) (pack_of e (count_in v))
told a e u s {v} z q h =
    let w = subst (λ (x : Result ℕ Refusal). Counted (read_pack s) x (pack_of e (count_in x))) (sym h) (judged_as a e u s z q) in
    record {
      answer = ap done w.answer ∙ counted_done (read_pack s);
      rules = w.rules;
      count = ap count_in w.answer ∙ counted_length (read_pack s);
    }

pub told_ok : (a e : Arrays) (u : Walk) (s : Text) {v : Result ℕ Refusal} (n : ℕ) → Sized a → record { walk = u; arrays = e } ≡ last_board a (within4096 s)
    → v ≡ judged_all (length s) u → v ≡ Ok n → ReadAs (read_pack s) (Ok tt) (pack_of e n)
told_ok a e u s n z q h k = subst (λ (x : Result ℕ Refusal). ReadAs (read_pack s) (done x) (pack_of e (count_in x))) k (told a e u s z q h)

pub told_err : (a e : Arrays) (u : Walk) (s : Text) {v : Result ℕ Refusal} (r : Refusal) (n : ℕ) → Sized a → record { walk = u; arrays = e } ≡ last_board a (within4096 s)
    → v ≡ judged_all (length s) u → v ≡ Err r → n ≡ 0 → ReadAs (read_pack s) (Err r) (pack_of e n)
told_err a e u s r n z q h k i =
    subst (λ (m : ℕ). ReadAs (read_pack s) (Err r) (pack_of e m)) (sym i)
    (subst (λ (x : Result ℕ Refusal). ReadAs (read_pack s) (done x) (pack_of e (count_in x))) k (told a e u s z q h))
