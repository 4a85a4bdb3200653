-- The reader gives rules exactly for well-formed texts, and they are the rules of that pack.
use mathlib.Core.Path.{◌≡◌, refl, sym, ap, ◌∙◌}
use mathlib.Core.Bool.{Bool, true, false}
use mathlib.Core.List.{List, [], ◌∷◌, ◌++◌, append_assoc, append-nil}
use Prim.Native.Nat.{ℕ}
use native.Mathlib.Omega.{arith}
use Rattle.std.specs.Prelude.{if◌then◌else◌}
use Rattle.pack_grammar.specs.Grammar.{Text, semi, RuleTree, PackTree, rules_of, each, of_rule, right_rule, of_pack, right_pack}
use Rattle.pack_grammar.specs.Grammar.PackTree.{Parted}
use Rattle.pack_grammar.specs.WellFormed.{texts}
use Rattle.pack_grammar.specs.Steps.{steps, Read, ends}
use Rattle.pack_grammar.specs.Steps.State.{WantsName}
use Rattle.pack_grammar.specs.Steps.Read.{Whole, Cut}
use Rattle.pack_token.specs.Token.{Token}
use Rattle.pack_grammar.specs.Reader.{segments, is_dead, Parsed, rules_from}
use Rattle.pack_grammar.specs.Reader.Parsed.{Trees, Bad}
use Rattle.pack_token.proofs.Spellings.{both_0, both_1}
use Rattle.pack_grammar.proofs.Complete.{complete}
use Rattle.pack_grammar.proofs.Viable.{Far, onward, closed, far, outset, far_append, far_rule, whole_alive, alive_before, halt, last, behind, same_halt, plain_segments, some_segments, first_of, others_of, pack_end, tokens_of}
use Rattle.decimal.specs.Lists.{all}

bad_rules : {A : Type 0} {a : ℕ} {rs : List RuleTree} → Bad a ≡ Trees rs → A
bad_rules e = absurd (let z : ◌≡◌ {A = ℕ} 0 1 = cc in omega arith)

-- halting with rules: alive to the end, and whole there
abbrev pub Ended : Far → List RuleTree → Type 0
Ended p rs = (r : RuleTree) × (ends p.state ≡ Whole r) × (rs ≡ p.rules ++ (r ∷ []))

pub ended : (p : Far) (ts : List Token) (end : ℕ) (rs : List RuleTree) → halt p ts end ≡ Trees rs → Ended (far p (texts ts)) rs
ended p [] end rs e = go (ends p.state) refl e
  where
    go : (x : Read) → ends p.state ≡ x → last p.rules end x ≡ Trees rs → Ended p rs
    go (Whole r) k e = (r, k, cc)
    go Cut k e = bad_rules e
ended p (t ∷ ts) end rs e = go (is_dead (onward p t.text).state) e (ended (onward p t.text) ts end rs)
  where
    go : (x : Bool) {y : Parsed} → (if x then Bad t.at else y) ≡ Trees rs → (y ≡ Trees rs → Ended (far (onward p t.text) (texts ts)) rs) → Ended (far (onward p t.text) (texts ts)) rs
    go true e f = bad_rules e
    go false e f = f e

pub ends_halt : (p : Far) (ts : List Token) (end : ℕ) (r : RuleTree) → ends (far p (texts ts)).state ≡ Whole r → halt p ts end ≡ Trees ((far p (texts ts)).rules ++ (r ∷ []))
ends_halt p [] end r e = rw e
ends_halt p (t ∷ ts) end r e =
    let v = alive_before (onward p t.text) (texts ts) (whole_alive (far (onward p t.text) (texts ts)).state r e) in
    rw v (ends_halt (onward p t.text) ts end r e)

-- the whole pack's tokens lead to its rules
far_whole : (d rs : List RuleTree) (r : RuleTree) → all right_rule rs ≡ true → right_rule r ≡ true
    → far (record { rules = d; state = WantsName }) (each of_rule semi rs ++ of_rule r) ≡ record { rules = d ++ rs; state = steps WantsName (of_rule r) }
far_whole d [] r g h =
    far_rule d WantsName (of_rule r) (whole_alive (steps WantsName (of_rule r)) r (complete r h))
    ∙ ap (λ (l : List RuleTree). record { rules = l; state = steps WantsName (of_rule r) }) (sym (append-nil d))
far_whole d (q ∷ rs) r g h =
    let c = complete q (both_0 (right_rule q) (all right_rule rs) g) in
    let x = each of_rule semi rs ++ of_rule r in
    let z : Far = record { rules = d; state = WantsName } in
    ap (far z) (append_assoc (of_rule q) (semi ∷ each of_rule semi rs) (of_rule r))
    ∙ far_append z (of_rule q) (semi ∷ x)
    ∙ ap (λ (p : Far). far (onward p semi) x) (far_rule d WantsName (of_rule q) (whole_alive (steps WantsName (of_rule q)) q c))
    ∙ ap (λ (y : Read). far (closed d y) x) c
    ∙ far_whole (d ++ (q ∷ [])) rs r (both_1 (right_rule q) (all right_rule rs) g) h
    ∙ ap (λ (l : List RuleTree). record { rules = l; state = steps WantsName (of_rule r) }) (append_assoc d (q ∷ []) rs)

same_of : (s : Text) → halt outset (tokens_of s) (pack_end 0 (first_of (segments s)) (others_of (segments s))) ≡ behind [] (rules_from 0 (segments s))
same_of s =
    let k = some_segments s in
    same_halt [] 0 (first_of (segments s)) (others_of (segments s)) (rw k at (plain_segments s)) ∙ ap (λ (l : List Text). behind [] (rules_from 0 l)) (sym k)

-- COMPLETE
pub complete_pack : (s : Text) (p : PackTree) → right_pack p ≡ true → texts (tokens_of s) ≡ of_pack p → rules_from 0 (segments s) ≡ Trees (rules_of p)
complete_pack s (Parted qs r) g e =
    let end = pack_end 0 (first_of (segments s)) (others_of (segments s)) in
    let a = both_0 (all right_rule qs) (right_rule r) g in
    let h = both_1 (all right_rule qs) (right_rule r) g in
    let f = ap (far outset) e ∙ far_whole [] qs r a h in
    let k = ends_halt outset (tokens_of s) end r (ap (λ (p : Far). ends p.state) f ∙ complete r h) in
    back (rules_from 0 (segments s)) (sym (same_of s) ∙ k ∙ ap (λ (p : Far). Trees (p.rules ++ (r ∷ []))) f)
  where
    back : (x : Parsed) {rs : List RuleTree} → behind [] x ≡ Trees rs → x ≡ Trees rs
    back (Trees rs) e = e
    back (Bad a) e = e
