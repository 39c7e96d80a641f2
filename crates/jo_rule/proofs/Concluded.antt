-- What follows an object that was opened: the part stays where nothing of it changes, and goes on with an event or a mark.
use Rattle.std.proofs.Common.{◌≡◌, ◌≢◌, ◌⊎◌, ◌+◌, ◌<◌, ◌≤◌, ℕ, zero, suc, Bool, true, false, List, [], ◌∷◌, ◌++◌, refl, sym, ap, ◌∙◌, subst, inl, inr, ⊎_elim, arith, length, set, length-set, take, take_all, Option, Some, None, slice_get, if◌then◌else◌}
use Rattle.std.specs.Prelude.{nat_le, count_by}
use mathlib.Core.Option.{some}
use lib.ListN.{get_elem?}
use Rattle.std.proofs.lemmas.Bool.{cases_Bool, both_ways, le-leb}
use Rattle.std.proofs.lemmas.List.{take-append-le}
use Rattle.std.proofs.lemmas.List.Sums.{sum_by-append, sum_by-cons}
use Rattle.std.proofs.lemmas.List.Elements.{All-head, All-tail}
use Rattle.jo_value.specs.declared.capacities.TheConstants.{MOST_STRUCTURES, CALLS_WITHIN_STRUCTURES}
use Rattle.jo_value.specs.declared.value.ObjId.{ObjId}
use Rattle.jo_value.specs.declared.words.cell.Kind.TheVariants.{Opening, Dictionary}
use Rattle.jo_model.specs.Heaps.{Heap}
use Rattle.jo_model.specs.Logs.{LogEntry, change, mark, Log, made_by, after, heap_at}
use Rattle.jo_model.specs.Placed.{PlacedCall}
use Rattle.jo_model.specs.inner.Growing.{AreWithin}
use Rattle.jo_model.proofs.Beginnings.{get-push, get-longer, entry-there}
use Rattle.jo_rule.specs.declared.cause.Cause.{Cause}
use Rattle.jo_rule.specs.declared.cause.Cause.TheVariants.{Nodes}
use Rattle.jo_model.specs.declared.call.Call.{Call}
use Rattle.jo_value.specs.declared.value.Sid.{Sid}
use Rattle.jo_rule.specs.declared.watched.SetKind.{SetKind}
use Rattle.jo_rule.specs.declared.event.Event.{Event}
use Rattle.jo_rule.specs.declared.event.Event.TheVariants.{Nothing, Place, Refuse}
use Rattle.jo_rule.specs.Marks.{Mark, fired, opened, HasNodesFor, IsOpenedFor, IsNextOf, AreConcluded}
use Rattle.jo_rule.specs.Views.{View, Past, Kept, Lock}
use Rattle.jo_rule.specs.Lists.{Each}
use Rattle.jo_model.specs.declared.call.Reply.TheVariants as reply
use Rattle.jo_model.specs.One.{one}
use Rattle.jo_rule.specs.Events.{changes, placed, recorded, with_event, past_after}
use Rattle.jo_rule.specs.Histories.{Home, Placements, Histories}
use Rattle.jo_rule.specs.Concluded.{NotOpened, OpenedLast, HoldsOpened, IsConcluding, ViewConcludes, Concluded, Concludes, MayFollow, HasUsedNodes}
use Rattle.jo_rule.specs.Contents.{is_keyed}
use Rattle.jo_rule.specs.Steps.{split_left, split_right, kept_of, joined, spent_view}
use Rattle.jo_rule.proofs.Lists.{same_item, one_there, at_append, no_each, live_set, live_same, live_more, live_joined, live_one}
use Rattle.jo_rule.proofs.Placing.{placed_within}
use Rattle.jo_rule.proofs.Histories.{SameNumbers, alone, alone_kept}

-- ---- what is read of a lock

-- a lock that was opened for a cause is one that is opened so
abbrev pub OpensIn : Option Lock → Option Lock → Type 0
OpensIn a b = (g : Lock) (cause : Cause) → a ≡ Some g → g.opened ≡ Some cause → (h : Lock) × (b ≡ Some h) × (h.object ≡ g.object) × (h.opened ≡ Some cause) × (h.cell.kind ≡ g.cell.kind)

-- and the other way round
abbrev pub OpensAlike : Option Lock → Option Lock → Type 0
OpensAlike a b = OpensIn a b × OpensIn b a

-- a lock that is the same is opened alike
pub alike_same : {a b : Option Lock} → a ≡ b → OpensAlike a b
alike_same {a} {b} e = ((λ g cause f k. (g, sym e ∙ f, refl, k, refl)), (λ g cause f k. (g, e ∙ f, refl, k, refl)))

-- where no lock is held, none is opened
pub unopened_none : {a : Option Lock} → a ≡ None → NotOpened a
unopened_none {a} e g f = (let no : None ≡ Some g = sym e ∙ f in cc)

-- nor where the one that is held is not
pub unopened_one : {a : Option Lock} (g : Lock) → a ≡ Some g → g.opened ≡ None → NotOpened a
unopened_one {a} g e none_ h f = ap (λ (x : Lock). x.opened) (sym (same_item g h a e f)) ∙ none_

-- a lock that is not opened is opened for no cause
pub not_both : {a : Option Lock} → NotOpened a → (g : Lock) (cause : Cause) → a ≡ Some g → g.opened ≡ Some cause → ⊥
not_both {a} none_ g cause e f = (let no : None ≡ Some cause = sym (none_ g e) ∙ f in cc)

-- two locks that are not opened are alike
pub alike_unopened : {a b : Option Lock} → NotOpened a → NotOpened b → OpensAlike a b
alike_unopened {a} {b} x y = ((λ g cause e f. absurd (not_both x g cause e f)), (λ g cause e f. absurd (not_both y g cause e f)))

-- any event may follow where no lock is opened
pub follows_unopened : (P : ℕ) (log : Log Mark) (t : ℕ) {a : Option Lock} (event : Event) → NotOpened a → MayFollow P log t a event
follows_unopened P log t event none_ g cause e f = absurd (not_both none_ g cause e f)

-- ---- calls

-- each place has as many calls before it, or more
abbrev pub AtLeast : List PlacedCall → List PlacedCall → Type 0
AtLeast calls calls' = (n : ℕ) → count_by (λ (p : PlacedCall). nat_le p.place n) calls ≤ count_by (λ (p : PlacedCall). nat_le p.place n) calls'

-- the same calls are as many
pub at_least_same : (a b : List PlacedCall) → a ≡ b → AtLeast a b
at_least_same a b e n = let h = ap (λ (c : List PlacedCall). count_by (λ (p : PlacedCall). nat_le p.place n) c) e in omega (arith, h)

-- calls with more behind them are as many or more
pub at_least_more : (a more : List PlacedCall) → AtLeast a (a ++ more)
at_least_more a more n = let h = sum_by-append (λ (p : PlacedCall). if nat_le p.place n then 1 else 0) a more in omega (arith, h)

-- so are those with the call of an event
pub at_least_event : (P t : ℕ) (event : Event) (log : Log Mark) (calls : List PlacedCall) → AtLeast calls (with_event P t event log calls)
at_least_event P t Nothing log calls = at_least_same calls calls refl
at_least_event P t (Place c) log calls = at_least_more calls (placed (length log) c (one (after P log) t c).1 ∷ [])
at_least_event P t (Refuse c spent) log calls = at_least_more calls (placed (length log) c (reply.Spent spent) ∷ [])

-- 1 where it is so
abbrev as_one : Bool → ℕ
as_one b = if b then 1 else 0

all_before : (log : Log Mark) (calls : List PlacedCall) → AreWithin log calls → count_by (λ (p : PlacedCall). nat_le p.place (length log)) calls ≡ length calls
all_before log [] h = refl
all_before log (p ∷ calls) h =
    let one : nat_le p.place (length log) ≡ true = le-leb p.place (length log) (All-head (λ q. q.place ≤ length log) p calls h) in
    let rest = all_before log calls (All-tail (λ q. q.place ≤ length log) p calls h) in
    let s = sum_by-cons (λ (q : PlacedCall). if nat_le q.place (length log) then 1 else 0) p calls in
    let first : ◌≡◌ {A = ℕ} (if nat_le p.place (length log) then 1 else 0) 1 = ap (λ (b : Bool). as_one b) one in
    omega (arith, rest, s, first)

nodes_on : (log : Log Mark) (t : ℕ) {nodes nodes' : ℕ} (calls calls' : List PlacedCall) → nodes ≡ nodes' → AtLeast calls calls' → HasNodesFor log t nodes calls → HasNodesFor log t nodes' calls'
nodes_on log t {nodes} {nodes'} calls calls' same more h n o e = let a = h n o e in let b = more n in let one = a.0 in let two = a.1 in (sym same ∙ one, omega arith)

-- ---- one more entry

entry_within : (log : Log Mark) (k : ℕ) (x : LogEntry Mark) → slice_get log k ≡ Some x → k < length log
entry_within [] k x f = absurd cc
entry_within (y ∷ log) zero x f = omega arith
entry_within (y ∷ log) (suc k) x f = let h = entry_within log k x f in omega arith

module _ (log : Log Mark) (e : LogEntry Mark) where
  -- an entry of another pass stood there before
  old_entry : (n : ℕ) (d : LogEntry Mark) → slice_get (log ++ e ∷ []) n ≡ Some d → made_by e ≢ made_by d → (n < length log) × (slice_get log n ≡ Some d)
  old_entry n d is other = elim (get-push log e n d is) [
    | inl old ↦ old
    | inr last ↦ absurd (other (ap (λ (x : LogEntry Mark). made_by x) last.1))
  ]

  nodes_push : (t nodes : ℕ) (calls : List PlacedCall) → made_by e ≢ t → HasNodesFor log t nodes calls → HasNodesFor (log ++ e ∷ []) t nodes calls
  nodes_push t nodes calls other h n o is = h n o (old_entry n (mark t (opened o Nodes)) is other).1

  opened_push : (t : ℕ) (o : ObjId) (cause : Cause) → made_by e ≢ t → OpenedLast log t o cause → OpenedLast (log ++ e ∷ []) t o cause
  opened_push t o cause other h = record {
    at = h.at;
    is = get-longer log (e ∷ []) h.at (mark t (opened o cause)) h.is;
    last = λ k d lt is mine. h.last k d lt (old_entry k d is (λ f. other (f ∙ mine))).1 mine;
  }

  opened_pull : (t : ℕ) (o : ObjId) (cause : Cause) → made_by e ≢ t → OpenedLast (log ++ e ∷ []) t o cause → OpenedLast log t o cause
  opened_pull t o cause other h = record {
    at = h.at;
    is = (old_entry h.at (mark t (opened o cause)) h.is other).1;
    last = λ k d lt is. h.last k d lt (get-longer log (e ∷ []) k d is);
  }

  -- of another pass than that of the entry
  concluding_push : {number : ℕ} {lock : Option Lock} {nodes : ℕ} {calls : List PlacedCall} {kept : List Kept} → made_by e ≢ number → ((k : ℕ) (q : Kept) → get_elem? kept k ≡ some q → made_by e ≢ q.number)
      → IsConcluding log number lock nodes calls kept → IsConcluding (log ++ e ∷ []) number lock nodes calls kept
  concluding_push {number} {lock} {nodes} {calls} {kept} other others h = record {
    opening = h.opening;
    opened = λ g cause f k. opened_push number g.object cause other (h.opened g cause f k);
    pending = λ o cause f. h.pending o cause (opened_pull number o cause other f);
    used = nodes_push number nodes calls other h.used;
    kept_used = λ k q f. nodes_push q.number q.nodes q.calls (others k q f) (h.kept_used k q f);
  }

  nothing_after : (k : ℕ) (d : LogEntry Mark) → length log < k → slice_get (log ++ e ∷ []) k ≡ Some d → ⊥
  nothing_after k d lt is = elim (get-push log e k d is) [
    | inl was ↦ (let a = was.0 in omega arith)
    | inr last ↦ (let a = last.0 in omega arith)
  ]

  last_entry : slice_get (log ++ e ∷ []) (length log) ≡ Some e
  last_entry = entry-there (log ++ e ∷ []) log e [] refl

  heap_before : (P m : ℕ) → m ≤ length log → heap_at P m (log ++ e ∷ []) ≡ heap_at P m log
  heap_before P m le = ap (after P) (take-append-le m log (e ∷ []) le)

  -- each entry that follows a mark is what the object was opened for, where the new one is
  concluded_push : (P : ℕ) → AreConcluded P log → ((o : ObjId) (cause : Cause) → OpenedLast log (made_by e) o cause → IsOpenedFor (after P log) o cause e) → AreConcluded P (log ++ e ∷ [])
  concluded_push P old new n m t o cause d is next = elim (get-push log e m d next.entry) [
    | inl was ↦
        let later = next.later in
        let lt = was.0 in
        subst (λ (x : Heap). IsOpenedFor x o cause d) (sym (heap_before P m (omega arith)))
        (old n m t o cause d (before n (mark t (opened o cause)) (omega arith) is) record { later = later; entry = was.1; made = next.made; none_between = λ k x a b f. next.none_between k x a b (get-longer log (e ∷ []) k x f) })
    | inr last ↦
        let later = next.later in
        let end = last.0 in
        let mine : made_by e ≡ t = ap (λ (x : LogEntry Mark). made_by x) last.1 ∙ next.made in
        let heap : after P log ≡ heap_at P m (log ++ e ∷ []) = sym (heap_before P m (omega arith) ∙ ap (after P) (take_all m log (omega arith))) in
        subst (λ (x : Heap × LogEntry Mark). IsOpenedFor x.0 o cause x.1) (λ i. (heap i, last.1 i))
        (new o cause (subst (λ (x : ℕ). OpenedLast log x o cause) (sym mine) record {
          at = n;
          is = before n (mark t (opened o cause)) (omega arith) is;
          last = λ k x a f. next.none_between k x a (let b = entry_within log k x f in omega arith) (get-longer log (e ∷ []) k x f);
        }))
  ]
    where
      before : (k : ℕ) (x : LogEntry Mark) → k < length log → slice_get (log ++ e ∷ []) k ≡ Some x → slice_get log k ≡ Some x
      before k x lt f = elim (get-push log e k x f) [
        | inl was ↦ was.1
        | inr last ↦ (let end = last.0 in absurd (omega arith))
      ]

-- ---- the part

module _ (views : List View) (id : ℕ) (v u : View) (at : get_elem? views id ≡ some v) (l : v.live ≡ true) (same : SameNumbers v u) {P : ℕ} {log : Log Mark} (r : Concluded P log views) where
  -- no entry is placed
  pub concluded_same : OpensAlike v.lock u.lock → v.births.nodes ≡ u.births.nodes → AtLeast v.past.calls u.past.calls → Concluded P log (set views id u)
  concluded_same lock nodes calls =
      let h = r.each id v at l in record {
        concluded = r.concluded;
        each = live_same (ViewConcludes log) views id u r.each
            (subst (λ (x : ℕ × List Kept). IsConcluding log x.0 u.lock u.births.nodes u.past.calls x.1) (λ i. (same.number i, same.kept i)) record {
              opening = λ g cause f k. (let b = lock.1 g cause f k in sym b.4 ∙ h.opening b.0 cause b.1 b.3);
              opened = λ g cause f k. (let b = lock.1 g cause f k in subst (λ (o : ObjId). OpenedLast log v.number o cause) b.2 (h.opened b.0 cause b.1 b.3));
              pending = λ o cause f. (let x = h.pending o cause f in let b = lock.0 x.held_lock cause x.held x.why in record { held_lock = b.0; held = b.1; object = b.2 ∙ x.object; why = b.3 });
              used = nodes_on log v.number v.past.calls u.past.calls nodes calls h.used;
              kept_used = h.kept_used;
            });
      }

  module _ {made : ℕ} {home : ℕ → Home} (hist : Histories P log made home views) where
    -- an entry of the pass is placed
    concluded_entry : (e : LogEntry Mark) → made_by e ≡ v.number → ((o : ObjId) (cause : Cause) → OpenedLast log v.number o cause → IsOpenedFor (after P log) o cause e)
        → ((g : Lock) (cause : Cause) → u.lock ≡ Some g → g.opened ≡ Some cause → g.cell.kind ≡ Opening) → ((g : Lock) (cause : Cause) → u.lock ≡ Some g → g.opened ≡ Some cause → OpenedLast (log ++ e ∷ []) v.number g.object cause)
        → ((o : ObjId) (cause : Cause) → OpenedLast (log ++ e ∷ []) v.number o cause → HoldsOpened u.lock o cause) → HasNodesFor (log ++ e ∷ []) v.number u.births.nodes u.past.calls → Concluded P (log ++ e ∷ []) (set views id u)
    concluded_entry e mine answers opening was_opened pending used = record {
      concluded = concluded_push log e P r.concluded (λ o cause f. answers o cause (subst (λ (x : ℕ). OpenedLast log x o cause) mine f));
      each = live_set (ViewConcludes log) (ViewConcludes (log ++ e ∷ [])) views id u r.each
          (λ j y n f ly h. concluding_push log e (λ k. alone views id v u at l same hist j y n f ly (sym mine ∙ k)) (λ k q g m. alone_kept views id v u at l same hist j y f ly k q g (sym mine ∙ m)) h)
          (subst (λ (x : ℕ × List Kept). IsConcluding (log ++ e ∷ []) x.0 u.lock u.births.nodes u.past.calls x.1) (λ i. (same.number i, same.kept i)) record {
            opening = opening;
            opened = was_opened;
            pending = pending;
            used = used;
            kept_used = λ k q g. nodes_push log e q.number q.nodes q.calls (λ m. alone_kept views id v u at l same hist id v at l k q g (sym mine ∙ m)) ((r.each id v at l).kept_used k q g);
          });
    }

    -- no mark stands last where the last entry is none
    none_last : (e : LogEntry Mark) → made_by e ≡ v.number → ((o : ObjId) (cause : Cause) → e ≢ mark v.number (opened o cause)) → (o : ObjId) (cause : Cause) → OpenedLast (log ++ e ∷ []) v.number o cause → ⊥
    none_last e mine none_ o cause h = elim (get-push log e h.at (mark v.number (opened o cause)) h.is) [
      | inl was ↦ h.last (length log) e was.0 (last_entry log e) mine
      | inr last ↦ none_ o cause last.1
    ]

    nodes_unmarked : (e : LogEntry Mark) (nodes : ℕ) (calls : List PlacedCall) → ((o : ObjId) (cause : Cause) → e ≢ mark v.number (opened o cause)) → HasNodesFor log v.number nodes calls → HasNodesFor (log ++ e ∷ []) v.number nodes calls
    nodes_unmarked e nodes calls none_ h n o is = elim (get-push log e n (mark v.number (opened o Nodes)) is) [
      | inl was ↦ h n o was.1
      | inr last ↦ absurd (none_ o Nodes last.1)
    ]

    -- an entry of the pass is placed that opens no object
    concluded_unmarked : (e : LogEntry Mark) → made_by e ≡ v.number → ((o : ObjId) (cause : Cause) → e ≢ mark v.number (opened o cause)) → ((o : ObjId) (cause : Cause) → OpenedLast log v.number o cause → IsOpenedFor (after P log) o cause e)
        → NotOpened u.lock → v.births.nodes ≡ u.births.nodes → AtLeast v.past.calls u.past.calls → Concluded P (log ++ e ∷ []) (set views id u)
    concluded_unmarked e mine none_ answers lock nodes calls = concluded_entry e mine answers (λ g cause f k. absurd (not_both lock g cause f k)) (λ g cause f k. absurd (not_both lock g cause f k)) (λ o cause f. absurd (none_last e mine none_ o cause f))
        (nodes_unmarked e u.births.nodes u.past.calls none_ (nodes_on log v.number v.past.calls u.past.calls nodes calls (r.each id v at l).used))

    -- no lock is opened before an event that is no change
    never_by : (event : Event) → MayFollow P log v.number v.lock event → ((o : ObjId) (cause : Cause) → Concludes P log v.number o cause event → ⊥) → NotOpened u.lock → OpensAlike v.lock u.lock
    never_by event may none_ lock = ((λ g cause e f. absurd (none_ g.object cause (may g cause e f))), (λ g cause e f. absurd (not_both lock g cause e f)))

    concludes_by : (c : Call) (b : Bool) → changes (after P log) v.number c ≡ b → MayFollow P log v.number v.lock (Place c) → NotOpened u.lock → v.births.nodes ≡ u.births.nodes → AtLeast v.past.calls u.past.calls → Concluded P (if b then log ++ change v.number c ∷ [] else log) (set views id u)
    concludes_by c true is may lock nodes calls = concluded_unmarked (change v.number c) refl (λ o cause f. cc)
        (λ o cause f. let x = (r.each id v at l).pending o cause f in subst (λ (q : ObjId). IsOpenedFor (after P log) q cause (change v.number c)) x.object (may x.held_lock cause x.held x.why).1) lock nodes calls
    concludes_by c false is may lock nodes calls = concluded_same (never_by (Place c) may (λ o cause f. both_ways (changes (after P log) v.number c) is f.0) lock) nodes calls

    concludes_event : (event : Event) → MayFollow P log v.number v.lock event → NotOpened u.lock → v.births.nodes ≡ u.births.nodes → AtLeast v.past.calls u.past.calls → Concluded P (recorded P v.number event log) (set views id u)
    concludes_event Nothing may lock nodes calls = concluded_same (never_by Nothing may (λ o cause f. f) lock) nodes calls
    concludes_event (Place c) may lock nodes calls = concludes_by c (changes (after P log) v.number c) refl may lock nodes calls
    concludes_event (Refuse c spent) may lock nodes calls = concluded_same (never_by (Refuse c spent) may (λ o cause f. f) lock) nodes calls

    -- an event is placed, and no object that is opened is held then
    pub concluded_event : (event : Event) → MayFollow P log v.number v.lock event → NotOpened u.lock → v.births.nodes ≡ u.births.nodes → u.past ≡ past_after P v.number event log v.past.calls → Concluded P (recorded P v.number event log) (set views id u)
    concluded_event event may lock nodes past = concludes_event event may lock nodes
        (subst (AtLeast v.past.calls) (sym (ap (λ (x : Past). x.calls) past)) (at_least_event P v.number event log v.past.calls))

    -- the mark of a set is placed
    pub concluded_fired : (s : Sid) (which : SetKind) (o : ObjId) → NotOpened v.lock → v.lock ≡ u.lock → v.births.nodes ≡ u.births.nodes → v.past.calls ≡ u.past.calls → Concluded P (log ++ mark v.number (fired s which o) ∷ []) (set views id u)
    concluded_fired s which o closed lock nodes calls = concluded_unmarked (mark v.number (fired s which o)) refl (λ q cause f. cc)
        (λ q cause f. let x = (r.each id v at l).pending q cause f in absurd (not_both closed x.held_lock cause x.held x.why)) (subst NotOpened lock closed) nodes (at_least_same v.past.calls u.past.calls calls)

    -- the mark of an object is placed, and its lock is opened
    pub concluded_opened : (g : Lock) (cause : Cause) → NotOpened v.lock → u.lock ≡ Some g → g.opened ≡ Some cause → g.cell.kind ≡ Opening → HasUsedNodes v cause → AreWithin log v.past.calls → v.births.nodes ≡ u.births.nodes → v.past.calls ≡ u.past.calls → Concluded P (log ++ mark v.number (opened g.object cause) ∷ []) (set views id u)
    concluded_opened g cause closed held why kind need within nodes calls =
        let t = v.number in
        let e : LogEntry Mark = mark t (opened g.object cause) in
        concluded_entry e refl (λ q c f. let x = (r.each id v at l).pending q c f in absurd (not_both closed x.held_lock c x.held x.why))
        (λ h c f k. subst (λ (x : Lock). x.cell.kind ≡ Opening) (same_item g h u.lock held f) kind)
        (λ h c f k.
        let one : g ≡ h = same_item g h u.lock held f in
        let both : Some cause ≡ Some c = sym why ∙ (ap (λ (x : Lock). x.opened) one ∙ k) in
        let because : cause ≡ c = cc in
        record { at = length log; is = subst (λ (x : Lock × Cause). slice_get (log ++ e ∷ []) (length log) ≡ Some (mark t (opened x.0.object x.1))) (λ i. (one i, because i)) (last_entry log e); last = λ k d lt is. absurd (nothing_after log e k d lt is) })
        (λ q c f. elim (get-push log e f.at (mark t (opened q c)) f.is) [
          | inl was ↦ absurd (f.last (length log) e was.0 (last_entry log e) refl)
          | inr last ↦
              let both : e ≡ mark t (opened q c) = last.1 in
              let object : g.object ≡ q = cc in
              let because : cause ≡ c = cc in
              record { held_lock = g; held = held; object = object; why = why ∙ ap Some because }
        ])
        (λ n q is. elim (get-push log e n (mark t (opened q Nodes)) is) [
          | inl was ↦ nodes_on log t v.past.calls u.past.calls nodes (at_least_same v.past.calls u.past.calls calls) (r.each id v at l).used n q was.1
          | inr last ↦
              let both : e ≡ mark t (opened q Nodes) = last.1 in
              let because : cause ≡ Nodes = cc in
              let need_is = need because in
              let most = need_is.1 in
              let count = all_before log v.past.calls within in
              let many : CALLS_WITHIN_STRUCTURES ≤ count_by (λ (p : PlacedCall). nat_le p.place (length log)) v.past.calls = omega arith in
              (sym nodes ∙ need_is.0, subst (λ (x : ℕ × List PlacedCall). CALLS_WITHIN_STRUCTURES ≤ count_by (λ (p : PlacedCall). nat_le p.place x.0) x.1) (λ i. (sym last.0 i, calls i)) many)
        ])

-- a lock of an object that is not opening is not opened
pub closed_kind : {P : ℕ} {log : Log Mark} {views : List View} (id : ℕ) (v : View) (r : Concluded P log views) → get_elem? views id ≡ some v → v.live ≡ true → (g : Lock) → v.lock ≡ Some g → g.cell.kind ≢ Opening → NotOpened v.lock
closed_kind id v r at l g held other h e = closed_by h.opened refl
  where
    one : g ≡ h
    one = same_item g h v.lock held e

    closed_by : (x : Option Cause) → h.opened ≡ x → h.opened ≡ None
    closed_by None f = f
    closed_by (Some cause) f = absurd (other (ap (λ (q : Lock). q.cell.kind) one ∙ (r.each id v at l).opening h cause e f))

-- so is one of an object whose keys lie at places
pub closed_keyed : {P : ℕ} {log : Log Mark} {views : List View} (id : ℕ) (v : View) (r : Concluded P log views) → get_elem? views id ≡ some v → v.live ≡ true → (g : Lock) → v.lock ≡ Some g → is_keyed g.cell.kind ≡ true → NotOpened v.lock
closed_keyed id v r at l g held keyed = closed_kind id v r at l g held (λ e. (let no : false ≡ true = sym (ap is_keyed e) ∙ keyed in cc))

-- and one of a dictionary
pub closed_dictionary : {P : ℕ} {log : Log Mark} {views : List View} (id : ℕ) (v : View) (r : Concluded P log views) → get_elem? views id ≡ some v → v.live ≡ true → (g : Lock) → v.lock ≡ Some g → g.cell.kind ≡ Dictionary → NotOpened v.lock
closed_dictionary id v r at l g held kind = closed_kind id v r at l g held (λ e. (let no : Dictionary ≡ Opening = sym kind ∙ e in cc))

-- the pass makes a structure, so it had not used all
pub concluded_node : (views : List View) (id : ℕ) (v u : View) → get_elem? views id ≡ some v → v.live ≡ true → SameNumbers v u → {P : ℕ} {log : Log Mark} → Concluded P log views → v.lock ≡ u.lock → v.past ≡ u.past → v.births.nodes < MOST_STRUCTURES → Concluded P log (set views id u)
concluded_node views id v u at l same {P} {log} r lock past room =
    let h = r.each id v at l in record {
      concluded = r.concluded;
      each = live_same (ViewConcludes log) views id u r.each
          (subst (λ (x : ℕ × List Kept × Option Lock). IsConcluding log x.0 x.2 u.births.nodes u.past.calls x.1) (λ i. (same.number i, same.kept i, lock i)) record {
            opening = h.opening;
            opened = h.opened;
            pending = h.pending;
            used = λ n o is. (let all = (h.used n o is).0 in absurd (omega arith));
            kept_used = h.kept_used;
          });
    }

-- a pass is made, which has no entry
pub concluded_split : (views : List View) (id : ℕ) (v : View) → get_elem? views id ≡ some v → v.live ≡ true → {P made : ℕ} {log : Log Mark} {home : ℕ → Home} → Histories P log made home views → v.made ≡ made → Concluded P log views → Concluded P log (set views id (split_left v) ++ split_right v ∷ [])
concluded_split views id v at l {P} {made} {log} {home} hist is r = record {
  concluded = r.concluded;
  each = live_more (ViewConcludes log) (set views id (split_left v)) (split_right v) (length views) (length-set views id (split_left v)) (live_same (ViewConcludes log) views id (split_left v) r.each (r.each id v at l))
      (λ _. record {
        opening = λ g cause f k. (let no : None ≡ Some g = f in cc);
        opened = λ g cause f k. (let no : None ≡ Some g = f in cc);
        pending = λ o cause h. absurd (let lt = hist.authors h.at (mark v.made (opened o cause)) h.is in omega (arith, is));
        used = λ n o f. absurd (let lt = hist.authors n (mark v.made (opened o Nodes)) f in omega (arith, is));
        kept_used = no_each (λ k q. HasNodesFor log q.number q.nodes q.calls);
      });
}

-- a pass is joined
pub concluded_joined : (views : List View) (id other : ℕ) (v u : View) → get_elem? views id ≡ some v → get_elem? views other ≡ some u → v.live ≡ true → u.live ≡ true → {P : ℕ} {log : Log Mark} → Concluded P log views → Concluded P log (set (set views id (joined v u)) other spent_view)
concluded_joined views id other v u at at' l lu {P} {log} r =
    let h = r.each id v at l in
    let b = r.each other u at' lu in record {
      concluded = r.concluded;
      each = live_joined (ViewConcludes log) (ViewConcludes log) views id other (joined v u) spent_view refl r.each (λ j y n m e ly q. q) record {
        opening = h.opening;
        opened = h.opened;
        pending = h.pending;
        used = h.used;
        kept_used = λ k q e. elim (at_append v.kept (kept_of u ∷ u.kept) k q e) [
          | inl was ↦ h.kept_used k q was
          | inr new ↦ of_other b new.0 q new.2
        ];
      };
    }
  where
    of_other : IsConcluding log u.number u.lock u.births.nodes u.past.calls u.kept → (k : ℕ) (q : Kept) → get_elem? (kept_of u ∷ u.kept) k ≡ some q → HasNodesFor log q.number q.nodes q.calls
    of_other b zero q e = subst (λ (x : Kept). HasNodesFor log x.number x.nodes x.calls) (one_there (kept_of u ∷ u.kept) 0 (kept_of u) q refl e) b.used
    of_other b (suc k) q e = b.kept_used k q e

-- in a new heap nothing was opened
pub concluded_first : (P : ℕ) (v : View) → v.lock ≡ None → v.kept ≡ [] → Concluded P [] (v ∷ [])
concluded_first P v lock kept = record {
  concluded = λ n m t o cause e is. absurd cc;
  each = live_one (ViewConcludes []) v record {
    opening = λ g cause f k. absurd (not_both (unopened_none lock) g cause f k);
    opened = λ g cause f k. absurd (not_both (unopened_none lock) g cause f k);
    pending = λ o cause h. (let i = h.is in absurd cc);
    used = λ n o f. absurd cc;
    kept_used = subst (λ (x : List Kept). Each x (λ k q. HasNodesFor [] q.number q.nodes q.calls)) (sym kept) (no_each (λ k q. HasNodesFor [] q.number q.nodes q.calls));
  };
}
