-- Tallies and totals that grow by a part at a time.
use Rattle.std.proofs.Common.{◌≡◌, ℕ, ◌+◌, ◌<◌, ℤ, pos, ◌+ℤ◌, List, [], ◌∷◌, ◌++◌, length, get_or, take, ap, ◌∙◌, arith, length-append}
use Rattle.std.proofs.lemmas.Int.{ints}
use Rattle.std.proofs.lemmas.List.{take_more, append-nil}
use Rattle.std.proofs.lemmas.List.Concat.{flat_map-append}
use Rattle.std.proofs.lemmas.List.Sums.{sum_by-append}
use Rattle.jo_value.specs.declared.value.Value.{Value}
use Rattle.jo_model.specs.Objects.{Object, empty_object}
use Rattle.jo_model.specs.Heaps.{Heap}
use Rattle.jo_totals.specs.declared.tally.Tally.{Tally}
use Rattle.jo_totals.specs.declared.total.Totals.{Totals}
use Rattle.jo_totals.specs.Totals.{all_objects, sum_of, number_in, sum_in, totals_in}
use Rattle.jo_totals.specs.inner.Parts.{tally_of, both, IsSumOf}
use Rattle.jo_totals.proofs.Sums.{sum_of-cons, sum_of-append}

-- ---- a tally

-- the tally counts all properties but these, which are left
pub record Leaves {K : Type 0} (tally : Tally) (rest whole : List (K × Value)) : Type 0 where
  pub count : tally.count + length rest ≡ length whole
  pub sum : tally.sum +ℤ sum_of (λ p. number_in p.1) rest ≡ sum_of (λ p. number_in p.1) whole
  pub bounded : IsSumOf tally.count tally.sum

pub leaves-more : {K : Type 0} (before after : Tally) (p : K × Value) (rest rest' whole : List (K × Value)) → Leaves before rest whole → rest ≡ p ∷ rest'
    → after.count ≡ before.count + 1 → after.sum ≡ before.sum +ℤ number_in p.1 → IsSumOf after.count after.sum → Leaves after rest' whole
leaves-more before after p rest rest' whole so_far front count sum bounded =
    let longer : length rest ≡ length rest' + 1 = ap length front ∙ omega arith in
    let more : sum_of (λ q. number_in q.1) rest ≡ number_in p.1 +ℤ sum_of (λ q. number_in q.1) rest' =
    ap (sum_of (λ q. number_in q.1)) front ∙ sum_of-cons (λ q. number_in q.1) p rest' in
    record {
      count = omega (arith, longer, count, so_far.count);
      sum = omega (arith, ints, more, sum, so_far.sum);
      bounded = bounded;
    }

pub leaves-end : {K : Type 0} (tally : Tally) (rest whole : List (K × Value)) → Leaves tally rest whole → rest ≡ [] → tally ≡ tally_of whole
leaves-end tally rest whole last none =
    let count : tally.count ≡ length whole = omega (arith, ap length none, last.count) in
    let nothing : sum_of (λ p. number_in p.1) rest ≡ pos 0 = ap (sum_of (λ p. number_in p.1)) none in
    let sum : tally.sum ≡ sum_of (λ p. number_in p.1) whole = omega (arith, ints, nothing, last.sum) in
    let of_count : ℕ → Tally = λ n. record { count = n; sum = tally.sum } in
    let of_sum : ℤ → Tally = λ z. record { count = length whole; sum = z } in
    ap of_count count ∙ ap of_sum sum

-- ---- totals

-- the totals of the objects of two lists
both-append : (xs ys : List Object) → both (totals_in xs) (totals_in ys) ≡ totals_in (xs ++ ys)
both-append xs ys =
    let objects : length xs + length ys ≡ length (xs ++ ys) = omega (arith, length-append xs ys) in
    let names = sum_by-append (λ o. length o.names) xs ys in
    let elements = sum_by-append (λ o. length o.elements) xs ys in
    let sum = sum_of-append sum_in xs ys in cc

-- one more object
pub totals-more : (objects : List Object) (i : ℕ) (before one after : Totals) → i < length objects → before ≡ totals_in (take i objects)
    → one ≡ totals_in (get_or objects i empty_object ∷ []) → after ≡ both before one → after ≡ totals_in (take (i + 1) objects)
totals-more objects i before one after within so_far next is =
    let step = take_more objects i empty_object within in
    let joined = both-append (take i objects) (get_or objects i empty_object ∷ []) in
    let all = ap totals_in step in cc

-- the objects of one more pass
pub totals-next : (heap : Heap) (i : ℕ) (before pass after : Totals) → i < length heap → before ≡ totals_in (all_objects (take i heap))
    → pass ≡ totals_in (get_or heap i []) → after ≡ both before pass → after ≡ totals_in (all_objects (take (i + 1) heap))
totals-next heap i before pass after within so_far next is =
    let last = get_or heap i [] in
    let step : all_objects (take (i + 1) heap) ≡ all_objects (take i heap) ++ last =
    ap all_objects (take_more heap i [] within) ∙ flat_map-append (λ objects. objects) (take i heap) (last ∷ [])
    ∙ ap (λ l. all_objects (take i heap) ++ l) (append-nil last) in
    let joined = both-append (all_objects (take i heap)) last in
    let all = ap totals_in step in cc
