-- What printing does to a sink, where some bytes still wait.
use Rattle.std.specs.Prelude.{◌≡◌, ℕ, ◌≤◌, Bool, true, false, List, [], ◌++◌, Option, Result, is_err}
use Rattle.std.specs.Io.KnownBytes.{Appends, Keeps}
use Rattle.jo_io.specs.Causes.{next_count}
use Rattle.jo_io.specs.Bytes.{AppendsPart}

-- what a sink holds and how many faults it had, which bytes wait for it, and whether a write failed
pub record Printing : Type 0 where
  pub held : Option (List ℕ)
  pub faults : ℕ
  pub waiting : List ℕ
  pub failed : Bool

-- nothing was printed yet
abbrev pub start : Option (List ℕ) → ℕ → Printing
start held faults = record { held = held; faults = faults; waiting = []; failed = false }

-- nothing waits any more
abbrev pub end : {T E : Type 0} → Option (List ℕ) → ℕ → Result T E → Printing
end held faults result = record { held = held; faults = faults; waiting = []; failed = is_err result }

-- all went well: of the bytes that waited and those of the text the first went to the sink, and the others wait
pub record Moves (a b : Printing) (text : List ℕ) : Type 0 where
  pub sent : List ℕ
  pub appended : Appends a.held b.held sent
  pub whole : sent ++ b.waiting ≡ a.waiting ++ text
  pub same : b.faults ≡ a.faults

-- a write failed: the sink gained the first of these bytes and not all, and one fault was counted
pub record Breaks (a b : Printing) (text : List ℕ) : Type 0 where
  pub part : AppendsPart a.held b.held (a.waiting ++ text)
  pub counted : b.faults ≡ next_count a.faults
  pub later : a.faults ≤ b.faults

-- a write had failed: nothing was written
pub record Stays (a b : Printing) : Type 0 where
  pub still : b.failed ≡ true
  pub held : Keeps a.held b.held
  pub same : b.faults ≡ a.faults

-- from the one to the other a text was printed
pub record Advances (a b : Printing) (text : List ℕ) : Type 0 where
  pub stays : a.failed ≡ true → Stays a b
  pub moves : a.failed ≡ false → b.failed ≡ false → Moves a b text
  pub breaks : a.failed ≡ false → b.failed ≡ true → Breaks a b text
