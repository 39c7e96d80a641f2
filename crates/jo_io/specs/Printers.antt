-- What contracts see of a printer.
use Rattle.std.specs.Prelude.{◌≡◌, ℕ, List, Option}
use Rattle.jo_io.specs.Printing.{Printing, Advances}
use Rattle.jo_io.specs.declared.printer.Printer.{Printer}

-- where a printer stands
abbrev pub printing : {K : Type 0} → (K → Option (List ℕ)) → (K → ℕ) → Printer K → Printing
printing held faults p = record { held = held p.sink.now; faults = faults p.sink.now; waiting = p.waiting.items; failed = p.failed }

-- a printer printed a text, to the sink that it has
pub record Prints {K : Type 0} (held : K → Option (List ℕ)) (faults : K → ℕ) (p q : Printer K) (text : List ℕ) : Type 0 where
  pub same_reference : q.sink.ghost_name ≡ p.sink.ghost_name
  pub printed : Advances (printing held faults p) (printing held faults q) text
