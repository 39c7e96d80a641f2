-- The table begins with the rule, keeps it where a seat is cut in two or two are joined, and ends with one history.
use Rattle.std.proofs.Common.{◌≡◌, ℕ, ◌<◌, ◌≤◌, true, false, List, [], ◌∷◌, ◌++◌, set, refl, sym, ap, ◌∙◌, subst, arith, None}
use Rattle.std.proofs.lemmas.List.{map-set, map-append}
use mathlib.Core.Option.{some}
use lib.ListN.{get_elem?}
use Rattle.atomic_table.specs.Table.{State, opening, Splits, Joins, Seen}
use Rattle.atomic_table.proofs.Lists.{at_map, set_else}
use Rattle.jo_value.specs.declared.capacities.TheConstants.{MOST_PASSES}
use Rattle.jo_rule.specs.Areas.{words_of}
use Rattle.jo_rule.specs.Rule.{Rule}
use Rattle.jo_rule.specs.Views.{View}
use Rattle.jo_rule.specs.Steps.{opening_view, split_left, split_right, joined, spent_view}
use Rattle.jo_rule.specs.Opening.{AreOpening}
use Rattle.jo_rule.specs.Ending.{HasJoinedAll, HasEnded}
use Rattle.jo_rule.specs.Histories.{ArePlacedIn}
use Rattle.jo_rule.proofs.Passes.{nothing_placed}
use Rattle.jo_rule.proofs.Splits.{splits, joins, may_be_joined}
use Rattle.jo_rule.proofs.Opens.{opens, opening_by_name}
use Rattle.jo_rule.proofs.Ends.{ends}
use Rattle.jo_steps.specs.declared.known.Known.{Known}
use Rattle.jo_steps.specs.Views.{HeapView, PassView, IsPassOf}
use Rattle.jo_steps.specs.inner.Tables.{known_by, views_of, Holds}
use Rattle.jo_steps.proofs.Staying.{Stays, stays_of}

view_there : (ks : List Known) (id : ℕ) (k : Known) → get_elem? ks id ≡ some k → get_elem? (views_of ks) id ≡ some k.view
view_there = at_map (λ (k : Known). k.view)

views_set : (ks : List Known) (id : ℕ) (k : Known) → views_of (set ks id k) ≡ set (views_of ks) id k.view
views_set = map-set (λ (k : Known). k.view)

views_more : (ks : List Known) (k : Known) → views_of (ks ++ k ∷ []) ≡ views_of ks ++ k.view ∷ []
views_more ks k = map-append (λ (k : Known). k.view) ks (k ∷ [])

-- the first pass makes the next one
pub cuts : (P id : ℕ) (k : Known) → k.view.live ≡ true → k.view.number ≡ 0 → k.view.made < P → Splits (Holds P) id k (known_by (split_left k.view)) (known_by (split_right k.view))
cuts P id k live first room s holds there =
    let left = known_by (split_left k.view) in
    let right = known_by (split_right k.view) in
    let views = views_more (set s.views id left) right ∙ ap (λ (l : List View). l ++ right.view ∷ []) (views_set s.views id left) in
    record { all = holds.all; rule = subst (Rule P (words_of P s.words)) (sym views) (splits id k.view holds.rule (view_there s.views id k there) live first room) }

-- a pass joins into itself another that knows dictionaries alone and holds no lock
pub glues : (P id other : ℕ) (k l : Known) → k.view.live ≡ true → l.view.live ≡ true → l.view.flat ≡ false → l.view.lock ≡ None → Joins (Holds P) id k other l (known_by (joined k.view l.view)) (known_by spent_view)
glues P id other k l live live' flat free s holds there apart there' =
    let both = known_by (joined k.view l.view) in
    let far = sym (set_else s.views id other both apart) ∙ there' in
    let views = views_set (set s.views id both) other (known_by spent_view) ∙ ap (λ (m : List View). set m other spent_view) (views_set s.views id both) in
    record {
      all = holds.all;
      rule = subst (Rule P (words_of P s.words)) (sym views) (joins id k.view holds.rule (view_there s.views id k there) live other l.view (view_there s.views other l far) (λ e. apart (sym e)) live' (may_be_joined other l.view holds.rule (view_there s.views other l far) live' flat free));
    }

-- the words of a new heap, and the view of its first pass
pub begins : (P : ℕ) (ws : List ℕ) → 0 < P → P ≤ MOST_PASSES → AreOpening P ws → Holds P (opening ws [] (known_by opening_view))
begins P ws pos few h = record { all = h.all; rule = subst (λ (w : _). Rule P w (opening_view ∷ [])) (sym (opening_by_name P ws h)) (opens P pos few) }

-- the words that the table is left with, where a seat is left that has joined all others
pub finishes : (P id : ℕ) (k : Known) (s : State (Unit {0}) Known) → Seen (Holds P) id k s → k.view.live ≡ true → HasJoinedAll k.view → HasEnded P (words_of P s.words) k.view
finishes P id k s seen live all = ends id k.view seen.0.rule (view_there s.views id k seen.1) live all

-- ---- what the seats are then

-- the first pass, and one that was made, are passes of the heap
pub first_of : (h : HeapView) (q : PassView) → 0 < h.passes → h.passes ≤ MOST_PASSES → q.table ≡ h.table → q.view ≡ opening_view → IsPassOf h q
first_of h q pos most table e =
    subst (λ (v : View). IsPassOf h (record q { view = v })) (sym e) record { table = table; few = most; number = pos; objects = omega arith; placed = nothing_placed h.passes [] 0; named = omega arith; used = omega arith; zeros = λ k le. refl }

pub made_of : (h : HeapView) (q : PassView) (v : View) → v.made < h.passes → h.passes ≤ MOST_PASSES → q.table ≡ h.table → q.view ≡ split_right v → IsPassOf h q
made_of h q v few most table e =
    subst (λ (u : View). IsPassOf h (record q { view = u })) (sym e) record { table = table; few = most; number = few; objects = omega arith; placed = nothing_placed h.passes v.past.seen v.made; named = omega arith; used = omega arith; zeros = λ k le. refl }

-- and so are one that has made another, and one that has joined another into itself
pub cut_of : (h : HeapView) (p q : PassView) → IsPassOf h p → q.table ≡ p.table → q.view ≡ split_left p.view → IsPassOf h q
cut_of h p q is table e =
    stays_of h p q is table (subst (Stays p.view) (sym e) record { live = refl; number = refl; flat = refl; births = refl; storage = refl }) (subst (λ (u : View). ArePlacedIn h.passes u.past.seen u.number u.past.calls) (sym e) is.placed)

pub joined_of : (h : HeapView) (p q : PassView) (v : View) → IsPassOf h p → q.table ≡ p.table → q.view ≡ joined p.view v → ArePlacedIn h.passes q.view.past.seen q.view.number q.view.past.calls → IsPassOf h q
joined_of h p q v is table e placed = stays_of h p q is table (subst (Stays p.view) (sym e) record { live = refl; number = refl; flat = refl; births = refl; storage = refl }) placed
