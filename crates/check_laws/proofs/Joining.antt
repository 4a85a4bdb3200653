-- A number meets both of two rules exactly where it meets the one condition that joins their clauses; so the check is that of the search that is run.
use Rattle.check_laws.specs.declared.Clash.{Clash}
use Rattle.std.specs.Prelude.{Result}
use mathlib.Core.Path.{◌≡◌, refl, sym, ap, ap₂, ◌∙◌}
use mathlib.Core.Bool.{Bool, true, false}
use mathlib.Core.List.{List, [], ◌∷◌, ◌++◌}
use Prim.Native.Nat.{ℕ, suc}
use Rattle.decimal.specs.Choice.{both, either}
use Rattle.number.specs.declared.Number.{Number}
use Rattle.pack_rules.specs.Syntax.{Relation, Rule}
use Rattle.meaning.specs.Meaning.{holds, clause_holds, condition_holds, meets}
use Rattle.check_laws.proofs.Seeking.{least_one, seek_least}
use Rattle.check_laws.specs.Check.{number_at, ranked, admits, ranks, found, least_rank, clash_of, named, against, first_pair, check_of}
use Rattle.check_laws.specs.Fast.{with_each, both_of, fast_clash, fast_check}
use Rattle.check_laws.proofs.FastIs.{fast_is, least_same}

and_assoc : (a b c : Bool) → both a (both b c) ≡ both (both a b) c
and_assoc true b c = refl
and_assoc false b c = refl

or_assoc : (a b c : Bool) → either a (either b c) ≡ either (either a b) c
or_assoc true b c = refl
or_assoc false b c = refl

spread : (a b c : Bool) → either (both a b) (both a c) ≡ both a (either b c)
spread true b c = refl
spread false b c = refl

spread_right : (a b c : Bool) → either (both a c) (both b c) ≡ both (either a b) c
spread_right true true true = refl
spread_right true true false = refl
spread_right true false true = refl
spread_right true false false = refl
spread_right false b c = refl

no_clause : (a : Bool) → false ≡ both a false
no_clause true = refl
no_clause false = refl

module _ (x : Number) where
  joined : (c d : List Relation) → clause_holds (c ++ d) x ≡ both (clause_holds c x) (clause_holds d x)
  joined [] d = refl
  joined (r ∷ rs) d = ap (both (holds r x)) (joined rs d) ∙ and_assoc (holds r x) (clause_holds rs x) (clause_holds d x)

  with_holds : (c : List Relation) (ds : List (List Relation)) → condition_holds (with_each c ds) x ≡ both (clause_holds c x) (condition_holds ds x)
  unfolding with_each
  with_holds c [] = no_clause (clause_holds c x)
  with_holds c (d ∷ ds) = ap₂ either (joined c d) (with_holds c ds) ∙ spread (clause_holds c x) (clause_holds d x) (condition_holds ds x)

  append_holds : (cs ds : List (List Relation)) → condition_holds (cs ++ ds) x ≡ either (condition_holds cs x) (condition_holds ds x)
  append_holds [] ds = refl
  append_holds (c ∷ cs) ds = ap (either (clause_holds c x)) (append_holds cs ds) ∙ or_assoc (clause_holds c x) (condition_holds cs x) (condition_holds ds x)

  pub both_holds : (cs ds : List (List Relation)) → condition_holds (both_of cs ds) x ≡ both (condition_holds cs x) (condition_holds ds x)
  unfolding both_of
  both_holds [] ds = refl
  both_holds (c ∷ cs) ds =
      append_holds (with_each c ds) (both_of cs ds)
      ∙ ap₂ either (with_holds c ds) (both_holds cs ds) ∙ spread_right (clause_holds c x) (condition_holds cs x) (condition_holds ds x)

-- tests that say the same have the same least number
pub rank_same : (P Q : Number → Bool) → ((x : Number) → P x ≡ Q x) → least_rank P ≡ least_rank Q
unfolding least_rank found
rank_same P Q e =
    least_one (seek_least (found P) ranks 0)
    (least_same (λ j. ap (both (admits (ranked j))) (sym (e (number_at (ranked j))))) (seek_least (found Q) ranks 0))

pub clash_fast : (a b : Rule) → clash_of a b ≡ fast_clash a b
clash_fast a b =
    rank_same (λ (x : Number). both (meets a x) (meets b x)) (condition_holds (both_of a.clauses b.clauses))
    (λ x. sym (both_holds x a.clauses b.clauses))
    ∙ fast_is (both_of a.clauses b.clauses)

-- ---- the check by another search that finds the same

module _ (L M : Rule → Rule → ℕ) (same : (a b : Rule) → L a b ≡ M a b) where
  against_same : (p q : ℕ) (a : Rule) (bs : List Rule) (rest rest' : Result (Unit {0}) Clash) → rest ≡ rest' → against L p q a bs rest ≡ against M p q a bs rest'
  unfolding against
  against_same p q a [] rest rest' e = e
  against_same p q a (b ∷ bs) rest rest' e = ap₂ (named p q) (same a b) (against_same p (suc q) a bs rest rest' e)

  pub pair_same : (p : ℕ) (rs : List Rule) → first_pair L p rs ≡ first_pair M p rs
  unfolding first_pair
  pair_same p [] = refl
  pair_same p (a ∷ bs) = against_same p (suc p) a bs _ _ (pair_same (suc p) bs)

-- The check is that of the search that is run.
pub check_fast : (rs : List Rule) → check_of rs ≡ fast_check rs
check_fast rs = pair_same clash_of fast_clash clash_fast 1 rs
