-- Which terminals are accepted, and which are refused where. They are those of one script, or of one expression.
use Rattle.std.specs.Prelude.{◌≡◌, ℕ, ◌≤◌, ◌<◌, List, [], ◌∷◌, ◌++◌}
use Rattle.jo_parse_grammar.specs.declared.terminal.Terminal.{Terminal}
use Rattle.jo_parse_grammar.specs.Expressions.{Symbol}

-- which terminals parse as a tree, each with how many constructs are open
abbrev pub Language : Type 0 → Type 1
Language A = A → List Symbol → Type 0

-- ---- terminals

abbrev pub terms : List Symbol → List Terminal
terms [] = []
terms (m ∷ ms) = m.0 ∷ terms ms

-- no terminal makes more than `limit` constructs open
abbrev pub Within : ℕ → List Symbol → Type 0
Within limit [] = Unit {0}
Within limit (m ∷ ms) = (m.1 ≤ limit) × Within limit ms

-- ---- by the grammar alone

module _ {A : Type 0} (L : Language A) where
  -- the terminals parse as the tree
  abbrev pub Spells : A → List Terminal → Type 0
  Spells a ts = (m : List Symbol) × L a m × (terms m ≡ ts)

  -- some spelling begins with these terminals
  abbrev pub Begins : List Terminal → Type 0
  Begins ts = (a : A) × (q : List Terminal) × Spells a (ts ++ q)

  -- no spelling that begins with these terminals goes on with the next one, or ends where there is none
  abbrev pub Never : List Terminal → List Terminal → Type 0
  Never before [] = (a : A) → Spells a before → ⊥
  Never before (c ∷ r) = Begins (before ++ c ∷ []) → ⊥

-- ---- by the grammar and the limit of open constructs

module _ {A : Type 0} (L : Language A) (limit : ℕ) where
  -- some spelling begins with these terminals, and they keep within the limit
  abbrev pub BeginsWithin : List Terminal → Type 0
  BeginsWithin ts = (a : A) × (w : List Symbol) × (q : List Symbol) × L a (w ++ q) × (terms w ≡ ts) × Within limit w

  -- some spelling begins with these terminals, which keep within the limit, and goes on with the next one, which opens a construct too many
  abbrev pub OpensTooMany : List Terminal → List Terminal → Type 0
  OpensTooMany before [] = ⊥
  OpensTooMany before (c ∷ r) =
      (a : A) × (w : List Symbol) × (o : ℕ) × (q : List Symbol) × L a (w ++ (c, o) ∷ q) × (terms w ≡ before) × Within limit w × (limit < o)

  -- in each spelling that begins with these terminals and the next one, that one opens a construct too many
  abbrev pub EachOpensTooMany : List Terminal → List Terminal → Type 0
  EachOpensTooMany before [] = ⊥
  EachOpensTooMany before (c ∷ r) =
      (a : A) (m : List Symbol) (q : List Terminal) → L a m → terms m ≡ before ++ c ∷ q → (w : List Symbol) × (o : ℕ) × (q' : List Symbol) × (m ≡ w ++ (c, o) ∷ q') × (terms w ≡ before) × (limit < o)

  -- the terminals parse as this tree and no other, within the limit
  abbrev pub IsAccepted : List Terminal → A → Type 0
  IsAccepted ts a = (m : List Symbol) × L a m × (terms m ≡ ts) × Within limit m × ((other : A) → Spells L other ts → other ≡ a)

-- ---- refusals

pub data Fault : Type 0 where
  unexpected : Fault
  too_deep : Fault

-- The terminals are refused where the rest begins, or at their end where the rest is empty: what stands before keeps within the limit and begins some
-- spelling, and no spelling goes on with the next terminal, or in each that does it opens a construct too many.
abbrev pub IsRefused : {A : Type 0} → Language A → ℕ → Fault → List Terminal → List Terminal → Type 0
IsRefused L limit unexpected ts rest = (before : List Terminal) × (ts ≡ before ++ rest) × BeginsWithin L limit before × Never L before rest
IsRefused L limit too_deep ts rest = (before : List Terminal) × (ts ≡ before ++ rest) × OpensTooMany L limit before rest × EachOpensTooMany L limit before rest
