-- The steps that load, that store a word of the own storage which no cell has named, and that store a word of a held block.
use Rattle.std.proofs.Common.{◌≡◌, ◌≢◌, ◌+◌, ◌*◌, ◌<◌, ◌≤◌, ℕ, Bool, true, false, List, [], ◌∷◌, ◌++◌, refl, sym, ap, ◌∙◌, subst, ⊎_elim, arith, length, set, get_or, get_or-set_same, get_or-set_other, length-set, Option, Some, None}
use mathlib.Core.Option.{some}
use lib.ListN.{get_elem?}
use Rattle.std.specs.Prelude.{nat_lt, slice_set, slice_index, if◌then◌else◌}
use Rattle.std.proofs.lemmas.Bool.{cases_eq, le-ltb, lt-ltb, and_from}
use Rattle.jo_value.specs.declared.limits.TheConstants.{MOST_STORAGE, MOST_OBJECTS}
use Rattle.jo_value.specs.declared.value.ObjId.{ObjId}
use Rattle.jo_value.specs.declared.words.cell.Cell.{Cell}
use Rattle.jo_value.specs.declared.words.cell.Kind.TheVariants.{Dictionary}
use Rattle.jo_value.specs.Words.{IsCell, cell_bits}
use Rattle.jo_model.specs.declared.call.Call.TheVariants as call
use Rattle.jo_model.specs.declared.call.Spent.{Spent}
use Rattle.jo_model.specs.declared.call.Call.{Call}
use Rattle.jo_model.specs.Heaps.{objects_of, IsBorn}
use Rattle.jo_model.specs.Logs.{change, Log, after}
use Rattle.jo_rule.specs.declared.counts.Counts.{Counts}
use Rattle.jo_rule.specs.declared.event.Event.TheVariants.{Place, Refuse}
use Rattle.jo_rule.specs.Names.{cell, storage, is_word}
use Rattle.jo_rule.specs.Areas.{Words, put, stored, set_number}
use Rattle.jo_rule.specs.Marks.{Mark}
use Rattle.jo_rule.specs.Views.{View, Lock, word_in}
use Rattle.jo_rule.specs.Events.{changes, recorded, MayPlace}
use Rattle.jo_rule.specs.Dictionaries.{block_size, dictionary_header}
use Rattle.jo_rule.specs.Histories.{Begins}
use Rattle.jo_rule.specs.Contents.{unnamed, fixed, value, dictionary, word_of_cell, is_born}
use Rattle.jo_rule.specs.Owned.{address_of}
use Rattle.jo_rule.specs.Rule.{Rule}
use Rattle.jo_rule.specs.Steps.{with_seen, with_placed, with_own_word, with_block_word}
use Rattle.jo_model.proofs.ValidEdits.{within_most}
use Rattle.jo_rule.proofs.Heaps.{born-longer, within_passes, passes-after, formed-after}
use Rattle.jo_rule.proofs.Histories.{SameItems, SawMore, begins_itself, alone, numbers}
use Rattle.jo_rule.proofs.Events.{event_refuses}
use Rattle.jo_rule.proofs.Contents.{standing, standing_dictionary}
use Rattle.jo_rule.proofs.Owned.{owns_stored, owns_else, other_storage}
use Rattle.jo_rule.proofs.Locks.{same_locks, writes_locks, one_holder}
use Rattle.jo_rule.proofs.Moves.{block_roles, held_else, looks, looks_event, stores, stores_else, cases_place}
use Rattle.jo_rule.proofs.Sights.{sighted_store, sighted_lock}
use Rattle.jo_rule.proofs.Concluded.{alike_same}
use Rattle.jo_rule.proofs.Lists.{same_item}
use Rattle.jo_rule.specs.Spots.{Spot, stored_at}
use Rattle.jo_rule.proofs.Sets.{number_here, number_else}

-- only the past and counts of a view change
pub numbers_of : (v u : View) → v.live ≡ u.live → v.number ≡ u.number → v.made ≡ u.made → v.kept ≡ u.kept → v.lasting ≡ u.lasting → v.flat ≡ u.flat → SameItems v u
numbers_of v u live number made kept lasting flat = record { live = live; number = number; made = made; kept = kept; lasting = lasting; flat = flat }

-- the pass has seen of the log what it had
pub saw_same : (log : Log Mark) (v u : View) → Begins log v.past.seen → v.past ≡ u.past → SawMore log v u
saw_same log v u b e = record { calls = ap (λ p. p.calls) e; more = subst (λ (l : Log Mark). Begins l v.past.seen) (ap (λ p. p.seen) e) (begins_itself v.past.seen); seen = subst (Begins log) (ap (λ p. p.seen) e) b }

-- a word that a cell may get is one of those of a born object
born_cell_by : {A : Type 0} (x : Option Cell) → is_born x ≡ true → ((c : Cell) → x ≡ Some c → A) → A
born_cell_by {A} None e f = (let no : false ≡ true = e in absurd cc)
born_cell_by {A} (Some c) e f = f c refl

module _ {P : ℕ} {w : Words} {views : List View} (id : ℕ) (v : View) (r : Rule P w views) (at : get_elem? views id ≡ some v) (l : v.live ≡ true) where
  -- a load shows the whole log, or as much of it as the pass says
  pub loads : (seen : Log Mark) (counts : Counts) → Begins seen v.past.seen → Begins r.log seen → Rule P w (set views id (with_seen v seen counts))
  loads seen counts more within = looks id v (with_seen v seen counts) r at l (numbers_of v (with_seen v seen counts) refl refl refl refl refl refl) (record { calls = refl; more = more; seen = within }) refl refl refl refl refl refl (r.sights.each id v at l) (r.timing.timed id v at l)

  -- what a load of the cell of an object finds that is born in what was seen: the word of a cell, whose owner is the pass that made it
  pub finds_cell : (o : ObjId) → IsBorn (after P v.past.seen) o → (c : Cell) × IsCell c × (w (cell o) ≡ cell_bits c) × (c.owner ≡ o.pass)
  finds_cell o born =
      let seen = r.histories.seen id v at l in
      let now : IsBorn (after P r.log) o = subst (λ (x : Log Mark). IsBorn (after P x) o) (sym seen.1) (born-longer P v.past.seen seen.0 o born) in
      born_cell_by (r.cell o) (r.contents.born o ∙ lt-ltb o.serial (length (objects_of (after P r.log) o.pass)) now)
      (λ c e. let s = standing r.contents o c e in (c, s.cell, r.coded o ∙ ap word_of_cell e, s.owner))

  -- what a load of an own word finds that no cell has named, and one of a word of a held block
  pub reads_own : (k : ℕ) → v.storage.named ≤ k → k < MOST_STORAGE → w (storage (address_of v.number k)) ≡ word_in v.storage.fresh k
  reads_own k from to = (r.owned.storage id v at l).known k from to

  pub reads_held : (g : Lock) (k : ℕ) → v.lock ≡ Some g → g.cell.kind ≡ Dictionary → k < block_size g.room → w (storage (g.cell.address + k)) ≡ slice_index g.block k
  reads_held g k held is lt = (r.locks.held id v at l g held).block is k lt

  -- what a pass knows of its own storage
  pub knows_storage : (v.storage.named ≤ v.storage.used) × (v.storage.used ≤ MOST_STORAGE) × ((k : ℕ) → v.storage.used ≤ k → word_in v.storage.fresh k ≡ 0)
  knows_storage = let own = r.owned.storage id v at l in (own.named, own.used, own.zeros)

  -- the words of a held block, and those of the own storage, are words of the table, and so is the cell of a born object
  pub held_word : (g : Lock) (k : ℕ) → v.lock ≡ Some g → g.cell.kind ≡ Dictionary → k < block_size g.room → is_word P (storage (g.cell.address + k)) ≡ true
  held_word g k held is lt =
      let t = r.locks.held id v at l g held in
      let role = block_roles r g.object g.cell t.cell is k (subst (λ (m : ℕ). k < block_size m) (sym t.room) lt) in
      lt-ltb (g.cell.address + k) (MOST_STORAGE * P) (r.contents.inside (g.cell.address + k) (λ e. ⊎_elim
      (λ (z : r.role (g.cell.address + k) ≡ fixed (dictionary_header (r.now g.object).room)). (let no : fixed (dictionary_header (r.now g.object).room) ≡ unnamed = sym z ∙ e in absurd cc))
      (λ (z : r.role (g.cell.address + k) ≡ dictionary g.object). (let no : dictionary g.object ≡ unnamed = sym z ∙ e in absurd cc)) role))

  pub own_word : (k : ℕ) → k < MOST_STORAGE → is_word P (storage (address_of v.number k)) ≡ true
  own_word k lt =
      let below = (r.histories.seated id v at l).own.1 in
      let few = r.histories.few in
      lt-ltb (address_of v.number k) (MOST_STORAGE * P) (omega arith)

  pub born_word : (o : ObjId) → IsBorn (after P v.past.seen) o → is_word P (cell o) ≡ true
  born_word o born =
      let lt = within_passes (after P v.past.seen) o born in
      let below = (r.histories.seated id v at l).own.1 in
      let few = r.histories.few in
      let passes = passes-after P v.past.seen (omega arith) in
      and_from (nat_lt o.pass P) (nat_lt o.serial MOST_OBJECTS) (lt-ltb o.pass P (omega arith)) (lt-ltb o.serial MOST_OBJECTS (within_most (after P v.past.seen) o (formed-after P v.past.seen) born))

  -- a load that places a New of a pass which has made all its objects
  pub refuses_new : (counts : Counts) → v.births.objects ≡ MOST_OBJECTS → Rule P w (set views id (with_placed P v (Place call.New) r.log counts))
  refuses_new counts full =
      let own = r.owned.objects id v at l in
      let objects = length (objects_of (after P r.log) v.number) in
      let spent : nat_lt objects MOST_OBJECTS ≡ false = le-ltb objects MOST_OBJECTS (omega arith) in
      let still : changes (after P r.log) v.number call.New ≡ false = rw spent refl in
      let stays : recorded P v.number (Place call.New) r.log ≡ r.log = ap (λ (b : Bool). if b then r.log ++ change v.number call.New ∷ [] else r.log) still in
      let u = with_placed P v (Place call.New) r.log counts in
      looks_event id v u r at l (numbers_of v u refl refl refl refl refl refl) (Place call.New) (λ c spent e. (let no : Place call.New ≡ Refuse c spent = e in absurd cc)) stays refl refl refl refl refl refl refl (r.sights.each id v at l) (r.timing.timed id v at l)

  -- a load that places a call which is refused for want of storage
  pub refuses_spent : (c : Call) (spent : Spent) (counts : Counts) → MayPlace P v (Refuse c spent) → Rule P w (set views id (with_placed P v (Refuse c spent) r.log counts))
  refuses_spent c spent counts may =
      let u = with_placed P v (Refuse c spent) r.log counts in
      looks_event id v u r at l (numbers_of v u refl refl refl refl refl refl) (Refuse c spent) (event_refuses P v (Refuse c spent) r.log (r.histories.own id v at l) may) refl refl refl refl refl refl refl refl (r.sights.each id v at l) (r.timing.timed id v at l)

  -- a word of the own storage is stored that no cell has named
  pub fills : (k x : ℕ) (counts : Counts) → v.storage.named ≤ k → k < MOST_STORAGE → Rule P (put w (storage (address_of v.number k)) x) (set views id (with_own_word v k x counts))
  fills k x counts from to =
      let u = with_own_word v k x counts in
      let a = address_of v.number k in
      let own = r.owned.storage id v at l in
      let free : r.role a ≡ unnamed = own.nameless k from to in
      let same = numbers_of v u refl refl refl refl refl refl in
      let lt = (r.histories.seated id v at l).own.1 in
      let loose : (word : ℕ) → r.role a ≢ fixed word = λ word e. (let no : unnamed ≡ fixed word = sym free ∙ e in absurd cc) in
      let no_value : (o : ObjId) (y : Spot) → r.role a ≢ value o y = λ o y e. (let no : unnamed ≡ value o y = sym free ∙ e in cc) in
      let no_words : (o : ObjId) → r.role a ≢ dictionary o = λ o e. (let no : unnamed ≡ dictionary o = sym free ∙ e in absurd cc) in
      stores id v u r at l same a x (saw_same r.log v u (r.histories.seen id v at l) refl) refl refl refl refl (alike_same refl)
      record {
        loose = loose;
        held = λ o c e f. absurd (no_words o f);
        no_value = no_value;
        others = λ j y n e ly i li f. other_storage y.number v.number i k (λ g. alone views id v u at l (numbers same) r.histories j y n e ly (sym g)) li to;
        unmade = λ t i le lp li f. other_storage t v.number i k (λ g. omega arith) li to;
      }
      (owns_stored own k x from to)
      (same_locks views id v u at l l refl (λ j y e ly g f s i li. held_else r j y e ly g f a x loose (no_words g.object) s i li) r.locks)
      (sighted_store (r.sights.each id v at l) (stored_at a) r.contents.words r.contents.valid (λ q. cases_place q (stored_at a)) (stores_else w a x) no_value) (r.timing.timed id v at l)

  -- a word of the block of the held dictionary is stored, behind its header
  pub writes : (g : Lock) (k x : ℕ) (counts : Counts) → v.lock ≡ Some g → g.cell.kind ≡ Dictionary → 0 < k → k < block_size g.room → Rule P (put w (storage (g.cell.address + k)) x) (set views id (with_block_word v g k x counts))
  writes g k x counts held kind from to =
      let g' : Lock = record g { block = slice_set g.block k x } in
      let u = with_block_word v g k x counts in
      let a = g.cell.address + k in
      let t = r.locks.held id v at l g held in
      let d = standing_dictionary r.contents g.object g.cell t.cell kind in
      let role_is : r.role a ≡ dictionary g.object = d.words k from (subst (λ (m : ℕ). k < block_size m) (sym t.room) to) in
      let loose : (word : ℕ) → r.role a ≢ fixed word = λ word e. (let no : dictionary g.object ≡ fixed word = sym role_is ∙ e in absurd cc) in
      let named : r.role a ≢ unnamed = λ e. (let no : dictionary g.object ≡ unnamed = sym role_is ∙ e in absurd cc) in
      let no_value : (o : ObjId) (y : Spot) → r.role a ≢ value o y = λ o y e. (let no : dictionary g.object ≡ value o y = sym role_is ∙ e in cc) in
      let whose : (o : ObjId) → r.role a ≡ dictionary o → g.object ≡ o = λ o e. (let both : dictionary g.object ≡ dictionary o = sym role_is ∙ e in cc) in
      let same = numbers_of v u refl refl refl refl refl refl in
      let size = t.size kind in
      stores id v u r at l same a x (saw_same r.log v u (r.histories.seen id v at l) refl) refl refl refl refl (
        (λ q cause f e. let one = same_item g q v.lock held f in (g', refl, ap (λ (x : Lock). x.object) one, ap (λ (x : Lock). x.opened) one ∙ e, ap (λ (x : Lock). x.cell.kind) one)),
        (λ q cause f e. (let both : Some g' ≡ Some q = f in let one : g' ≡ q = cc in (g, held, ap (λ (x : Lock). x.object) one, ap (λ (x : Lock). x.opened) one ∙ e, ap (λ (x : Lock). x.cell.kind) one))),
      )
      record {
        loose = loose;
        held = λ o c e f. let cell_is : Some g.cell ≡ Some c = sym t.cell ∙ (ap r.cell (whose o f) ∙ e) in let one : g.cell ≡ c = cc in ap (λ (y : Cell). y.locked) (sym one) ∙ t.bit;
        no_value = no_value;
        others = λ j y n e ly i li f. absurd (named f);
        unmade = λ t i le lp li f. absurd (named f);
      }
      (owns_else (r.owned.storage id v at l) a x (λ i le li f. named (ap r.role (sym f) ∙ (r.owned.storage id v at l).nameless i le li)))
      (writes_locks views id v u at l l g g' held refl refl
      (λ j y n e ly h f s i li. held_else r j y e ly h f a x loose (λ z. one_holder views id v u at l l r.locks j y n e ly g h held f (sym (whose h.object z))) s i li) r.locks
      record {
        cell = t.cell;
        bit = t.bit;
        found = t.found;
        holder_is = t.holder_is;
        settled = t.settled;
        sealed = t.sealed;
        room = t.room;
        content = t.content;
        size = λ s. length-set g.block k x ∙ t.size s;
        block = λ s i li. ⊎_elim
            (λ (e : i ≡ k).
            (ap (λ (z : ℕ). set_number (stored w) a x (g.cell.address + z)) e ∙ number_here (stored w) a x)
            ∙ sym (ap (λ (z : ℕ). get_or (set g.block k x) z 0) e ∙ get_or-set_same g.block k x 0 (omega arith)))
            (λ (n : i ≢ k). number_else (stored w) a (g.cell.address + i) x (λ f. n (omega arith)) ∙ (t.block s i li ∙ sym (get_or-set_other g.block k i x 0 n))) (cases_eq i k);
      })
      (sighted_lock (sighted_store (r.sights.each id v at l) (stored_at a) r.contents.words r.contents.valid (λ q. cases_place q (stored_at a)) (stores_else w a x) no_value)
      (λ h f. let same_lock : g ≡ h = same_item g h v.lock held f in (g', refl, ap (λ (z : Lock). z.object) same_lock, ap (λ (z : Lock). z.cell) same_lock))) (r.timing.timed id v at l)
