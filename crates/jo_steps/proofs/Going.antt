-- What the words of a held block and of the own storage are not, and how a pass goes on.
use Rattle.std.proofs.Common.{◌≡◌, ◌≢◌, ℕ, ◌+◌, ◌<◌, ◌≤◌, true, List, sym, ap, ◌∙◌, subst, ⊎_elim, arith, set, Some}
use mathlib.Core.Option.{some}
use lib.ListN.{get_elem?}
use Rattle.jo_value.specs.declared.limits.TheConstants.{MOST_OBJECTS, MOST_STORAGE}
use Rattle.jo_value.specs.declared.words.cell.Kind.TheVariants.{Dictionary}
use Rattle.jo_rule.specs.declared.counts.Counts.{Counts}
use Rattle.jo_rule.specs.Areas.{Words}
use Rattle.jo_rule.specs.Histories.{ArePlacedIn}
use Rattle.jo_rule.specs.Views.{View, Lock, Storage, word_in}
use Rattle.jo_rule.specs.Dictionaries.{block_size, dictionary_header}
use Rattle.jo_rule.specs.Contents.{unnamed, fixed, dictionary}
use Rattle.jo_rule.specs.Owned.{address_of}
use Rattle.jo_rule.specs.Rule.{Rule}
use Rattle.jo_rule.proofs.Lists.{set_there}
use Rattle.jo_rule.proofs.Moves.{block_roles}
use Rattle.jo_rule.proofs.Stores.{knows_storage}
use Rattle.jo_steps.specs.Counting.{one_more, one_store, one_lock}
use Rattle.jo_steps.specs.Views.{HeapView, PassView, IsPassOf}
use Rattle.jo_steps.specs.inner.Passes.{IsPass}
use Rattle.jo_steps.specs.inner.Goings.{GoesOn}

-- a header tells its room
same_room : (a b : ℕ) → dictionary_header a ≡ dictionary_header b → a ≡ b
same_room a b e = omega (arith, e)

-- a filled block of the own storage is told by its address
pub same_block : (own : Storage) (number k room k' room' : ℕ) → address_of number k ≡ address_of number k' → word_in own.fresh k ≡ dictionary_header room → word_in own.fresh k' ≡ dictionary_header room' → (k ≡ k') × (room ≡ room')
same_block own number k room k' room' e h h' =
    let ek : k ≡ k' = omega (arith, e) in
    (ek, same_room room room' (sym h ∙ (ap (word_in own.fresh) ek ∙ h')))

-- what a pass has used and made is known by the rule after its step
pub goes_on : {P : ℕ} {w : Words} (views : List View) (id : ℕ) (v u : View) → Rule P w (set views id u) → get_elem? views id ≡ some v → u.live ≡ true → v.flat ≡ u.flat
    → (used objects : ℕ) (counts : Counts) → used ≡ u.storage.used → v.births.nodes ≡ u.births.nodes → objects ≡ u.births.objects → counts ≡ u.counts → u.births.objects ≤ MOST_OBJECTS → GoesOn v u used objects counts
goes_on views id v u r at l flat used objects counts same_used same_nodes same_objects same_counts few =
    let own = knows_storage id u r (set_there views id v u at) l in
    record { same_flat = flat; same_used = same_used; same_nodes = same_nodes; same_objects = same_objects; same_counts = same_counts; few = few; named = own.0; most = own.1; zeros = own.2 }

-- a word of a held block is none of the own storage that no cell has named
pub not_fresh : {P : ℕ} {w : Words} {views : List View} (id : ℕ) (v : View) (r : Rule P w views) → get_elem? views id ≡ some v → v.live ≡ true
    → (g : Lock) (j k : ℕ) → v.lock ≡ Some g → g.cell.kind ≡ Dictionary → j < block_size g.room → v.storage.named ≤ k → k < MOST_STORAGE → g.cell.address + j ≢ address_of v.number k
not_fresh id v r at l g j k held kind within from to e =
    let t = r.locks.held id v at l g held in
    let free : r.role (g.cell.address + j) ≡ unnamed = ap r.role e ∙ (r.owned.storage id v at l).nameless k from to in
    let role = block_roles r g.object g.cell t.cell kind j (subst (λ (m : ℕ). j < block_size m) (sym t.room) within) in
    ⊎_elim
    (λ (z : r.role (g.cell.address + j) ≡ fixed (dictionary_header (r.now g.object).room)). (let no : fixed (dictionary_header (r.now g.object).room) ≡ unnamed = sym z ∙ free in absurd cc))
    (λ (z : r.role (g.cell.address + j) ≡ dictionary g.object). (let no : dictionary g.object ≡ unnamed = sym z ∙ free in absurd cc)) role

-- ---- what the step means for the pass

-- its fields say what its view says
pub goes_pass : (v u : View) (number used nodes objects used' objects' used'' objects'' : ℕ) (counts counts' counts'' : Counts) (stamps : List ℕ) → IsPass v number used nodes objects counts stamps → u.live ≡ v.live → u.number ≡ v.number → GoesOn v u used' objects' counts'
    → used'' ≡ used' → objects'' ≡ objects' → counts'' ≡ counts' → IsPass u number used'' nodes objects'' counts'' stamps
goes_pass v u number used nodes objects used' objects' used'' objects'' counts counts' counts'' stamps is live same_number goes eu eo ec = record {
  live = live ∙ is.live;
  dictionaries = sym goes.same_flat ∙ is.dictionaries;
  same_number = is.same_number ∙ sym same_number;
  same_used = eu ∙ goes.same_used;
  same_nodes = is.same_nodes ∙ goes.same_nodes;
  same_objects = eo ∙ goes.same_objects;
  same_counts = ec ∙ goes.same_counts;
  no_stamps = is.no_stamps;
}

-- it stays a pass of its heap
pub goes_of : (h : HeapView) (p q : PassView) (v : View) (used objects : ℕ) (counts : Counts) → IsPassOf h p → q.table ≡ p.table → q.view.number ≡ p.view.number → ArePlacedIn h.passes q.view.past.seen q.view.number q.view.past.calls → GoesOn v q.view used objects counts → IsPassOf h q
goes_of h p q v used objects counts is table number placed goes = record {
  table = table ∙ is.table;
  few = is.few;
  number = subst (λ (n : ℕ). n < h.passes) (sym number) is.number;
  objects = goes.few;
  placed = placed;
  named = goes.named;
  used = goes.most;
  zeros = goes.zeros;
}

-- the counts after a store, and after a try of a lock
pub store_counted : (counts known : Counts) (n : ℕ) → n ≡ one_more counts.stores → counts ≡ known → record counts { stores = n } ≡ one_store known
store_counted counts known n e same = (λ i. record counts { stores = e i }) ∙ ap one_store same

pub lock_counted : (counts known : Counts) (n : ℕ) → n ≡ one_more counts.locks → counts ≡ known → record counts { locks = n } ≡ one_lock known
lock_counted counts known n e same = (λ i. record counts { locks = e i }) ∙ ap one_lock same
