-- Document 01's habit of records: "One byte of kind, then a body whose length the kind fixes; records run to the end." Who uses it gives two functions of a
-- kind byte: `lengths`, the length of the body (0: the kind is unknown), and `names`, what the kind stands for.
use Rattle.std.specs.Prelude.{◌≡◌, Bool, true, false, List, [], ◌∷◌, ◌++◌, ℕ, zero, suc, ltb, eqb, length, get_or, take, if◌then◌else◌, Option, None, Some, is_some}
use Rattle.std.specs.Option.{unwrap_or}
use Rattle.records.specs.declared.Head.{Head}

-- ---- the entries

-- the body's length of an entry in front of n bytes, its own among them, whose kind fixes m (0: there is no entry, the kind is unknown or the body cut short)
abbrev pub fitting : ℕ → ℕ → ℕ
fitting m n = if ltb m n then m else 0

-- that of the entry that a record begins with
abbrev pub body_len : (ℕ → ℕ) → List ℕ → ℕ
body_len lengths s = fitting (lengths (get_or s 0 0)) (length s)

pub record Entry : Type 0 where
  pub kind : ℕ
  pub body : List ℕ

-- The entries of a record, up to its end or to the first place where no entry begins; the first `skip` bytes belong to the entry before.
abbrev pub entries_from : (ℕ → ℕ) → ℕ → List ℕ → List Entry
entries_from lengths skip [] = []
entries_from lengths (suc skip) (b ∷ s) = entries_from lengths skip s
entries_from lengths zero (b ∷ s) =
    let n = body_len lengths (b ∷ s) in
    if eqb n 0 then [] else record { kind = b; body = take n s } ∷ entries_from lengths n s

abbrev pub entries : (ℕ → ℕ) → List ℕ → List Entry
entries lengths s = entries_from lengths 0 s

-- there is such a place: "unknown kind, body cut short"
abbrev pub broken_from : (ℕ → ℕ) → ℕ → List ℕ → Bool
broken_from lengths skip [] = false
broken_from lengths (suc skip) (b ∷ s) = broken_from lengths skip s
broken_from lengths zero (b ∷ s) =
    let n = body_len lengths (b ∷ s) in
    if eqb n 0 then true else broken_from lengths n s

abbrev pub broken : (ℕ → ℕ) → List ℕ → Bool
broken lengths s = broken_from lengths 0 s

-- the same kinds but for k, which is unknown
abbrev pub without : ℕ → (ℕ → ℕ) → ℕ → ℕ
without k lengths b = if eqb b k then 0 else lengths b

-- ---- the entries of a name

abbrev pub holds : (ℕ → ℕ) → ℕ → List Entry → Bool
holds names x [] = false
holds names x (e ∷ es) = if eqb (names e.kind) x then true else holds names x es

-- the body of the first entry of this name (empty: there is none)
abbrev pub body_in : (ℕ → ℕ) → ℕ → List Entry → List ℕ
body_in names x [] = []
body_in names x (e ∷ es) = if eqb (names e.kind) x then e.body else body_in names x es

-- a name stands twice
abbrev pub twice : (ℕ → ℕ) → List Entry → Bool
twice names [] = false
twice names (e ∷ es) = if holds names (names e.kind) es then true else twice names es

-- ---- a test of each entry

abbrev pub every : (Entry → Bool) → List Entry → Bool
every test [] = true
every test (e ∷ es) = if test e then every test es else false

-- ---- what a walk finds in front

-- an entry's name and its body's length
abbrev pub head_in : {N : Type 0} → N → ℕ → Option (Head N)
head_in name n = if eqb n 0 then None else Some (record { name = name; len = n })

-- those of the entry that a record begins with
abbrev pub head_of : (ℕ → ℕ) → (ℕ → ℕ) → List ℕ → Option (Head ℕ)
head_of lengths names s = head_in (names (get_or s 0 0)) (body_len lengths s)

-- s begins with an entry of this name and this body, and goes on with `rest`
pub record Stands (lengths names : ℕ → ℕ) (s : List ℕ) (name : ℕ) (body rest : List ℕ) : Type 0 where
  pub head : head_of lengths names s ≡ Some (record { name = name; len = length body })
  pub text : s ≡ get_or s 0 0 ∷ (body ++ rest)

-- r is the body of the first entry of the name x
pub record Located (lengths names : ℕ → ℕ) (x : ℕ) (s : List ℕ) (r : Option (List ℕ)) : Type 0 where
  pub found : is_some r ≡ holds names x (entries lengths s)
  pub part : unwrap_or r [] ≡ body_in names x (entries lengths s)
