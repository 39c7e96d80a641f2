-- What stays of a pass where a step changes neither what it has made nor its storage.
use Rattle.std.proofs.Common.{◌≡◌, ◌<◌, ◌≤◌, ℕ, List, refl, sym, ◌∙◌, ap, subst}
use Rattle.jo_value.specs.declared.limits.TheConstants.{MOST_OBJECTS, MOST_STORAGE}
use Rattle.jo_model.specs.Logs.{Log}
use Rattle.jo_rule.specs.declared.counts.Counts.{Counts}
use Rattle.jo_rule.specs.declared.event.Event.{Event}
use Rattle.jo_rule.specs.Histories.{ArePlacedIn}
use Rattle.jo_rule.specs.Marks.{Mark}
use Rattle.jo_rule.specs.Views.{View, Births, Storage, word_in}
use Rattle.jo_rule.specs.Steps.{with_placed}
use Rattle.jo_steps.specs.Counting.{one_more, one_load}
use Rattle.jo_steps.specs.Views.{HeapView, PassView, IsPassOf}
use Rattle.jo_steps.specs.inner.Passes.{IsPass}

-- the views before and after such a step
pub record Stays (v u : View) : Type 0 where
  pub live : u.live ≡ v.live
  pub number : u.number ≡ v.number
  pub flat : u.flat ≡ v.flat
  pub births : u.births ≡ v.births
  pub storage : u.storage ≡ v.storage

-- it is a pass of its heap
pub stays_of : (h : HeapView) (p q : PassView) → IsPassOf h p → q.table ≡ p.table → Stays p.view q.view → ArePlacedIn h.passes q.view.past.seen q.view.number q.view.past.calls → IsPassOf h q
stays_of h p q is table s placed = record {
  table = table ∙ is.table;
  few = is.few;
  number = subst (λ (n : ℕ). n < h.passes) (sym s.number) is.number;
  objects = subst (λ (b : Births). b.objects ≤ MOST_OBJECTS) (sym s.births) is.objects;
  placed = placed;
  named = subst (λ (own : Storage). own.named ≤ own.used) (sym s.storage) is.named;
  used = subst (λ (own : Storage). own.used ≤ MOST_STORAGE) (sym s.storage) is.used;
  zeros = subst (λ (own : Storage). (k : ℕ) → own.used ≤ k → word_in own.fresh k ≡ 0) (sym s.storage) is.zeros;
}

-- its fields say what its view says, but that its counts are those after the step
pub stays_pass : (v u : View) (number used nodes objects : ℕ) (counts counts' : Counts) (stamps : List ℕ) → IsPass v number used nodes objects counts stamps → Stays v u → counts' ≡ u.counts → IsPass u number used nodes objects counts' stamps
stays_pass v u number used nodes objects counts counts' stamps is s e = record {
  live = s.live ∙ is.live;
  dictionaries = s.flat ∙ is.dictionaries;
  same_number = is.same_number ∙ sym s.number;
  same_used = is.same_used ∙ sym (ap (λ (own : Storage). own.used) s.storage);
  same_nodes = is.same_nodes ∙ sym (ap (λ (b : Births). b.nodes) s.births);
  same_objects = is.same_objects ∙ sym (ap (λ (b : Births). b.objects) s.births);
  same_counts = e;
  no_stamps = is.no_stamps;
}

-- ---- steps that are so

-- nothing but the counts changes
pub counted_stays : (v u : View) (counts : Counts) → u ≡ record v { counts = counts } → Stays v u
counted_stays v u counts e = subst (Stays v) (sym e) record { live = refl; number = refl; flat = refl; births = refl; storage = refl }

-- more of the log is seen, and an event is placed
pub placing_stays : (P : ℕ) (v u : View) (event : Event) (log : Log Mark) (counts : Counts) → u ≡ with_placed P v event log counts → Stays v u
placing_stays P v u event log counts e = subst (Stays v) (sym e) record { live = refl; number = refl; flat = refl; births = refl; storage = refl }

-- the counts after a load
pub load_counted : (counts known : Counts) (n : ℕ) → n ≡ one_more counts.loads → counts ≡ known → record counts { loads = n } ≡ one_load known
load_counted counts known n e same = (λ i. record counts { loads = e i }) ∙ ap one_load same
