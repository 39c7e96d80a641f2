-- A step on the table keeps the rule where it keeps it over names.
use Rattle.std.proofs.Common.{◌≡◌, ℕ, ◌<◌, true, List, length, get_or, set, sym, refl, ◌∙◌, subst, length-set, arith}
use Rattle.std.proofs.lemmas.List.{map-set}
use mathlib.Core.Option.{some}
use lib.ListN.{get_elem?}
use Rattle.atomic_table.specs.Table.{Me, Step, keeps, Allows}
use Rattle.atomic_table.proofs.Lists.{at_map}
use Rattle.jo_rule.specs.Names.{WordName, word_at, is_word, words_in_all}
use Rattle.jo_rule.specs.Areas.{Words, words_of, put}
use Rattle.jo_rule.specs.Histories.{ArePlacedIn}
use Rattle.jo_rule.specs.Rule.{Rule}
use Rattle.jo_rule.specs.Views.{View}
use Rattle.jo_rule.proofs.Lists.{set_there}
use Rattle.jo_rule.proofs.Names.{word_below, words_set, word_is}
use Rattle.jo_steps.specs.declared.known.Known.{Known}
use Rattle.jo_steps.specs.inner.Tables.{known_by, views_of, Holds, StepFact, tells, Keeps}

-- the words and the views after a step are those of the table after it
kept : (P : ℕ) (m : WordName) (ws : List ℕ) (x : ℕ) (views : List Known) (id : ℕ) (u : View) → is_word P m ≡ true → length ws ≡ words_in_all P → Rule P (put (words_of P ws) m x) (set (views_of views) id u)
    → Rule P (words_of P (set ws (word_at P m) x)) (views_of (set views id (known_by u)))
kept P m ws x views id u h all r =
    let words = words_set P m ws x h all in
    let seats = map-set (λ (k : Known). k.view) views id (known_by u) in
    subst (λ (s : Words × List View). Rule P s.0 s.1) (λ i. (sym words i, sym seats i)) r

-- the calls of the view after a step are lawful
lawful_after : {P : ℕ} {w : Words} (views : List View) (id : ℕ) (v u : View) → Rule P w (set views id u) → get_elem? views id ≡ some v → u.live ≡ v.live → v.live ≡ true → ArePlacedIn P u.past.seen u.number u.past.calls
lawful_after views id v u r at same l = r.placements.own id u (set_there views id v u at) (same ∙ l)

pub turn : (P slots id : ℕ) (me : Me (Unit {0}) Known) (m : WordName) (f : ℕ → ℕ) (T : StepFact) (st : Step (Unit {0})) → is_word P m ≡ true → Keeps P m f id me.0.view (T me.0.view)
    → Allows (Holds P) slots id me (word_at P m) f (tells P T st me)
turn P slots id me m f T st h k s holds len there bound =
    let x = get_or s.words (word_at P m) 0 in
    let at = at_map (λ (n : Known). n.view) s.views id me.0 there in
    let r = k (words_of P s.words) (views_of s.views) holds.rule at in
    let e : words_of P s.words m ≡ x = word_is P m s.words h in (
      known_by r.0,
      keeps,
      tt,
      record {
        all = length-set s.words (word_at P m) (f x) ∙ holds.all;
        rule = kept P m s.words (f x) s.views id r.0 h holds.all (subst (λ (y : ℕ). Rule P (put (words_of P s.words) m (f y)) (set (views_of s.views) id r.0)) e r.1);
      },
      (refl, record { number = r.2; live = r.3; placed = lawful_after (views_of s.views) id me.0.view r.0 r.1 at r.3; told = subst (λ (y : ℕ). T me.0.view y r.0) e r.4 }),
    )

-- the same for a store, which tells of the word that it stores
pub store_turn : (P slots id : ℕ) (me : Me (Unit {0}) Known) (m : WordName) (x : ℕ) (T : StepFact) (st : Step (Unit {0})) → is_word P m ≡ true → Keeps P m (λ _. x) id me.0.view (λ n u. T me.0.view x u)
    → Allows (Holds P) slots id me (word_at P m) (λ _. x) (λ _. tells P T st me x)
store_turn P slots id me m x T st h k s holds len there bound =
    let at = at_map (λ (n : Known). n.view) s.views id me.0 there in
    let r = k (words_of P s.words) (views_of s.views) holds.rule at in (
      known_by r.0,
      keeps,
      tt,
      record { all = length-set s.words (word_at P m) x ∙ holds.all; rule = kept P m s.words x s.views id r.0 h holds.all r.1 },
      (refl, record { number = r.2; live = r.3; placed = lawful_after (views_of s.views) id me.0.view r.0 r.1 at r.3; told = r.4 }),
    )

-- ---- as the heap has its key and the number of the word

pub turned : (P key at slots id : ℕ) (me : Me (Unit {0}) Known) (m : WordName) (f : ℕ → ℕ) (T : StepFact) (st : Step (Unit {0})) → key ≡ P → at ≡ word_at P m → is_word P m ≡ true → Keeps P m f id me.0.view (T me.0.view)
    → Allows (Holds key) slots id me at f (tells P T st me)
turned P key at slots id me m f T st k w h own = subst (λ (x : ℕ × ℕ). Allows (Holds x.0) slots id me x.1 f (tells P T st me)) (λ i. (sym k i, sym w i)) (turn P slots id me m f T st h own)

pub stored : (P key at slots id x : ℕ) (me : Me (Unit {0}) Known) (m : WordName) (T : StepFact) (st : Step (Unit {0})) → key ≡ P → at ≡ word_at P m → is_word P m ≡ true → Keeps P m (λ _. x) id me.0.view (λ n u. T me.0.view x u)
    → Allows (Holds key) slots id me at (λ _. x) (λ _. tells P T st me x)
stored P key at slots id x me m T st k w h own = subst (λ (y : ℕ × ℕ). Allows (Holds y.0) slots id me y.1 (λ _. x) (λ _. tells P T st me x)) (λ i. (sym k i, sym w i)) (store_turn P slots id me m x T st h own)

-- a word of the table is within it
pub inside : (P at words : ℕ) (m : WordName) → at ≡ word_at P m → is_word P m ≡ true → words ≡ words_in_all P → at < words
inside P at words m w h all = let b = word_below P m h in omega arith
