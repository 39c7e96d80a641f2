-- Texts that a printer prints one after another.
use Rattle.std.proofs.Common.{◌≡◌, ℕ, List, [], ◌++◌, refl, sym, ap, subst, ◌∙◌, append_assoc, append-nil}
use Rattle.std.specs.Prelude.{Option}
use Rattle.jo_io.specs.Printing.{Printing, Advances, start}
use Rattle.jo_io.specs.declared.printer.Printer.{Printer}
use Rattle.jo_io.specs.Printers.{printing, Prints}
use Rattle.jo_io.proofs.Advancing.{advances-nil, advances-both}

-- all of a text was printed but this rest of it
pub record Leaves {K : Type 0} (held : K → Option (List ℕ)) (faults : K → ℕ) (p q : Printer K) (rest whole : List ℕ) : Type 0 where
  pub text : List ℕ
  pub prints : Prints held faults p q text
  pub all : text ++ rest ≡ whole

module _ {K : Type 0} {held : K → Option (List ℕ)} {faults : K → ℕ} where
  pub prints-nil : (p : Printer K) → Prints held faults p p []
  prints-nil p = record { same_reference = refl; printed = advances-nil (printing held faults p) }

  pub prints-both : {p q r : Printer K} {t u : List ℕ} → Prints held faults p q t → Prints held faults q r u → Prints held faults p r (t ++ u)
  prints-both {p} {q} {r} {t} {u} first second = record {
    same_reference = second.same_reference ∙ first.same_reference;
    printed = advances-both (printing held faults p) (printing held faults q) (printing held faults r) t u first.printed second.printed;
  }

  pub prints-as : {p q : Printer K} {t : List ℕ} (u : List ℕ) → t ≡ u → Prints held faults p q t → Prints held faults p q u
  prints-as {p} {q} u e h = subst (Prints held faults p q) e h

  -- ---- a text in pieces

  pub leaves-start : (p : Printer K) (whole : List ℕ) → Leaves held faults p p whole whole
  leaves-start p whole = record { text = []; prints = prints-nil p; all = refl }

  pub leaves-more : {p q r : Printer K} {rest whole t : List ℕ} (rest' : List ℕ) → Leaves held faults p q rest whole → Prints held faults q r t → rest ≡ t ++ rest' → Leaves held faults p r rest' whole
  leaves-more {t = t} rest' before piece front = record {
    text = before.text ++ t;
    prints = prints-both before.prints piece;
    all = append_assoc before.text t rest' ∙ ap (λ l. before.text ++ l) (sym front) ∙ before.all;
  }

  pub leaves-end : {p q : Printer K} {rest whole : List ℕ} → Leaves held faults p q rest whole → rest ≡ [] → Prints held faults p q whole
  leaves-end {whole = whole} last none = prints-as whole (sym (append-nil last.text) ∙ ap (λ l. last.text ++ l) (sym none) ∙ last.all) last.prints

  -- a text that was printed whole
  pub prints-whole : {p q : Printer K} {t : List ℕ} (h : Option (List ℕ)) (f : ℕ) (last : Printing)
      → printing held faults p ≡ start h f → Prints held faults p q t → Advances (printing held faults q) last [] → Advances (start h f) last t
  prints-whole {p} {q} {t} h f last first text rest =
      subst (λ a. Advances a last t) first (subst (Advances (printing held faults p) last) (append-nil t) (advances-both (printing held faults p) (printing held faults q) last t [] text.printed rest))
