-- Laws of written lists, of tests of all and of what holds of every one.
use mathlib.Core.Path.{◌≡◌, refl, ap}
use mathlib.Core.Bool.{Bool, true, false}
use mathlib.Core.List.{List, [], ◌∷◌, ◌++◌, map, append_assoc}
use Prim.Native.Nat.{ℕ}
use native.Mathlib.Omega.{arith}
use Rattle.pack_token.proofs.Spellings.{both_0, both_1}
use Rattle.pack_grammar.specs.Grammar.{Text, each}
use Rattle.pack_grammar.specs.Within.{Every}
use Rattle.decimal.proofs.Choices.{both_in}
use Rattle.decimal.specs.Lists.{all}

pub no_way : {A : Type 0} → true ≡ false → A
no_way e = absurd (let z : ◌≡◌ {A = ℕ} 0 1 = cc in omega arith)

pub each_snoc : {A : Type 0} (w : A → List Text) (sep : Text) (xs : List A) (x : A)
    → each w sep (xs ++ (x ∷ [])) ≡ each w sep xs ++ (w x ++ (sep ∷ []))
each_snoc w sep [] x = refl
each_snoc w sep (y ∷ ys) x = rw (each_snoc w sep ys x) (simp append_assoc)

pub all_snoc : {A : Type 0} (p : A → Bool) (xs : List A) (x : A) → all p xs ≡ true → p x ≡ true → all p (xs ++ (x ∷ [])) ≡ true
all_snoc p [] x h k = both_in k refl
all_snoc p (y ∷ ys) x h k = both_in (both_0 (p y) (all p ys) h) (all_snoc p ys x (both_1 (p y) (all p ys) h) k)

pub map_append : {A B : Type 0} (f : A → B) (a b : List A) → map f (a ++ b) ≡ map f a ++ map f b
map_append f [] b = refl
map_append {A} {B} f (x ∷ a) b = ap (λ (l : List B). f x ∷ l) (map_append f a b)

pub every_append : {A : Type 0} (P : A → Type 0) (a b : List A) → Every P a → Every P b → Every P (a ++ b)
every_append P [] b x y = y
every_append P (e ∷ a) b x y = (x.0, every_append P a b x.1 y)

pub every_left : {A : Type 0} (P : A → Type 0) (a b : List A) → Every P (a ++ b) → Every P a
every_left P [] b h = tt
every_left P (x ∷ a) b h = (h.0, every_left P a b h.1)

pub every_right : {A : Type 0} (P : A → Type 0) (a b : List A) → Every P (a ++ b) → Every P b
every_right P [] b h = h
every_right P (x ∷ a) b h = every_right P a b h.1
