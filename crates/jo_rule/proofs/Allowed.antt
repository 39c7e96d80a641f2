-- What is said of whether objects may be born flat stays, and where they may not no object is of another kind than a dictionary.
use Rattle.std.proofs.Common.{◌≡◌, ℕ, true, false, List, set, sym, ap, ◌∙◌, subst, ⊎_elim, Option, Some}
use mathlib.Core.Option.{some}
use lib.ListN.{get_elem?}
use Rattle.std.proofs.lemmas.Bool.{both_ways, cases_Bool}
use Rattle.jo_value.specs.declared.value.ObjId.{ObjId}
use Rattle.jo_value.specs.declared.words.cell.Cell.{Cell}
use Rattle.jo_rule.specs.Areas.{set_object}
use Rattle.jo_rule.specs.Contents.{is_dictionary}
use Rattle.jo_rule.specs.Views.{View}
use Rattle.jo_rule.specs.Allowed.{SaysSo, IsDictionaryOf, Allowed}
use Rattle.jo_rule.proofs.Lists.{live_same}
use Rattle.jo_rule.proofs.Sets.{cases_object, object_here, object_else}

-- no cell changes
pub allowed_same : {cells : ObjId → Option Cell} (views : List View) (id : ℕ) (v u : View) → get_elem? views id ≡ some v → v.live ≡ true → v.flat ≡ u.flat → Allowed cells views → Allowed cells (set views id u)
allowed_same views id v u at l same h = record { flat = h.flat; agreed = live_same (SaysSo h.flat) views id u h.agreed (sym same ∙ h.agreed id v at l); dictionaries = h.dictionaries }

-- the cell of an object becomes another, or an object is born
pub allowed_cell : {cells : ObjId → Option Cell} (views : List View) (id : ℕ) (v u : View) → get_elem? views id ≡ some v → v.live ≡ true → v.flat ≡ u.flat → (o : ObjId) (c : Cell) (h : Allowed cells views) → (h.flat ≡ false → IsDictionaryOf o c) → Allowed (set_object cells o (Some c)) (set views id u)
allowed_cell {cells} views id v u at l same o c h kind = record {
  flat = h.flat;
  agreed = live_same (SaysSo h.flat) views id u h.agreed (sym same ∙ h.agreed id v at l);
  dictionaries = λ none_ q d e. ⊎_elim
      (λ (f : q ≡ o). let both : Some c ≡ Some d = sym (ap (set_object cells o (Some c)) f ∙ object_here cells o (Some c)) ∙ e in let one : c ≡ d = cc in subst (λ (x : ObjId × Cell). IsDictionaryOf x.0 x.1) (λ i. (sym f i, one i)) (kind none_))
      (λ n. h.dictionaries none_ q d (sym (object_else cells o q (Some c) n) ∙ e)) (cases_object q o);
}

-- where an object is no dictionary, objects may be born flat
pub never : {cells : ObjId → Option Cell} {views : List View} (h : Allowed cells views) (o : ObjId) (c : Cell) → cells o ≡ Some c → is_dictionary c.kind ≡ false → h.flat ≡ false → ⊥
never h o c e other none_ = both_ways (is_dictionary c.kind) other (ap is_dictionary (h.dictionaries none_ o c e).kind)

-- so the view of a pass says that they may
pub may_flat : {cells : ObjId → Option Cell} {views : List View} (h : Allowed cells views) (id : ℕ) (v : View) → get_elem? views id ≡ some v → v.live ≡ true → (o : ObjId) (c : Cell) → cells o ≡ Some c → is_dictionary c.kind ≡ false → v.flat ≡ true
may_flat h id v at l o c e other = ⊎_elim (λ (f : v.flat ≡ true). f) (λ (f : v.flat ≡ false). absurd (never h o c e other (sym (h.agreed id v at l) ∙ f))) (cases_Bool v.flat)
