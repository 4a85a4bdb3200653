-- What a record is, on bytes, and what stands in it: the same as relations.
use Rattle.std.specs.Prelude.{◌≡◌, List, [], ◌∷◌, ◌++◌, ℕ, ◌<◌, length}
use Rattle.records.specs.Entries.{Entry}

-- "a body whose length the kind fixes"
pub record Fixed (lengths : ℕ → ℕ) (e : Entry) : Type 0 where
  pub size : lengths e.kind ≡ length e.body
  pub some : 0 < length e.body

pub data All (IsEntry : Entry → Type 0) : List Entry → Type 0 where
  none : All IsEntry []
  more : {e : Entry} {es : List Entry} → IsEntry e → All IsEntry es → All IsEntry (e ∷ es)

-- "One byte of kind, then a body"; "records run to the end"
abbrev pub text_of : List Entry → List ℕ
text_of [] = []
text_of (e ∷ es) = e.kind ∷ (e.body ++ text_of es)

-- The bytes s are a record, and these are its entries.
pub record Spells (IsEntry : Entry → Type 0) (s : List ℕ) (es : List Entry) : Type 0 where
  pub text : s ≡ text_of es
  pub all : All IsEntry es

-- the entry stands in the list
pub data Among : Entry → List Entry → Type 0 where
  here : {e : Entry} {es : List Entry} → Among e (e ∷ es)
  later : {e d : Entry} {es : List Entry} → Among e es → Among e (d ∷ es)

-- an entry of this name stands in the list
pub record Has (names : ℕ → ℕ) (x : ℕ) (es : List Entry) : Type 0 where
  pub entry : Entry
  pub among : Among entry es
  pub its : names entry.kind ≡ x

-- a name stands twice
pub data Twice (names : ℕ → ℕ) : List Entry → Type 0 where
  here : {e : Entry} {es : List Entry} → Has names (names e.kind) es → Twice names (e ∷ es)
  later : {e : Entry} {es : List Entry} → Twice names es → Twice names (e ∷ es)
