-- The first line of an input.
use Rattle.std.proofs.Common.{◌≡◌, ℕ, suc, ◌+◌, ◌<◌, ◌==◌, Bool, true, false, not, List, [], ◌∷◌, ◌++◌, length, take, drop, cond, get_or, refl, sym, ap, subst, ◌∙◌, arith, rules}
use Rattle.std.proofs.lemmas.Grind.{common_steps}
use Rattle.std.proofs.lemmas.List.Sums.{position_or_len_is}
use Rattle.std.specs.List.{position_or_len}
use Rattle.jo_parse_grammar.specs.Cuts.{lines_of, with_first}

abbrev pub is_feed : ℕ → Bool
is_feed b = b == 10

pub lines-nil : lines_of [] ≡ []
unfolding lines_of
lines-nil = refl

pub lines-feed : (b : ℕ) (input : List ℕ) → is_feed b ≡ true → lines_of (b ∷ input) ≡ (10 ∷ []) ∷ lines_of input
unfolding lines_of
lines-feed b input e = let ten : b ≡ 10 = search rules in rw (e, ten) refl

pub lines-other : (b : ℕ) (input : List ℕ) → is_feed b ≡ false → lines_of (b ∷ input) ≡ with_first b (lines_of input)
unfolding lines_of
lines-other b input e = rw e refl

-- the first line feed is at n
abbrev CutAt : List ℕ → ℕ → Type 0
CutAt input n = lines_of input ≡ (take n input ++ 10 ∷ []) ∷ lines_of (drop (n + 1) input)

cut-step : (b : ℕ) (input : List ℕ) (k : Bool) (n : ℕ) → is_feed b ≡ k → (n < length input → CutAt input n) → cond (not k) (1 + n) 0 < length (b ∷ input) → CutAt (b ∷ input) (cond (not k) (1 + n) 0)
cut-step b input true n e ih within = lines-feed b input e
cut-step b input false n e ih within =
    let at : suc n ≡ 1 + n = omega arith in
    let after : suc (n + 1) ≡ 1 + n + 1 = omega arith in
    lines-other b input e ∙ ap (with_first b) (ih (omega arith)) ∙ ap (λ k. (take k (b ∷ input) ++ 10 ∷ []) ∷ lines_of (drop (n + 1) input)) at
    ∙ ap (λ k. (take (1 + n) (b ∷ input) ++ 10 ∷ []) ∷ lines_of (drop k (b ∷ input))) after

pub lines-cut : (input : List ℕ) → position_or_len is_feed input < length input → CutAt input (position_or_len is_feed input)
lines-cut [] within = absurd (omega arith)
lines-cut (b ∷ input) within = cut-step b input (is_feed b) (position_or_len is_feed input) refl (lines-cut input) within

whole-step : (b : ℕ) (input : List ℕ) (k : Bool) (n : ℕ) → is_feed b ≡ k → (n ≡ length input → 0 < length input → lines_of input ≡ input ∷ []) → cond (not k) (1 + n) 0 ≡ length (b ∷ input) → lines_of (b ∷ input) ≡ (b ∷ input) ∷ []
whole-step b input true n e ih same = absurd (omega arith)
whole-step b [] false n e ih same = lines-other b [] e ∙ ap (with_first b) lines-nil
whole-step b (c ∷ input) false n e ih same = lines-other b (c ∷ input) e ∙ ap (with_first b) (ih (omega arith) (omega arith))

-- an input without a line feed is one line
pub lines-whole : (input : List ℕ) → position_or_len is_feed input ≡ length input → 0 < length input → lines_of input ≡ input ∷ []
lines-whole [] same some = absurd (omega arith)
lines-whole (b ∷ input) same some = whole-step b input (is_feed b) (position_or_len is_feed input) refl (lines-whole input) same

-- no byte before n is a line feed
abbrev pub LacksFeedBelow : List ℕ → ℕ → Type 0
LacksFeedBelow input n = (k : ℕ) → k < n → is_feed (get_or input k 0) ≡ false

take-more : (input : List ℕ) (n : ℕ) → n < length input → take n input ++ get_or input n 0 ∷ [] ≡ take (n + 1) input
take-more input n within = grind (arith, common_steps)

-- the first line ends after the first line feed
pub ends-at-feed : (input : List ℕ) (n : ℕ) → LacksFeedBelow input n → n < length input → get_or input n 0 ≡ 10 → lines_of input ≡ take (n + 1) input ∷ lines_of (drop (n + 1) input)
ends-at-feed input n before within e =
    let passes : is_feed (get_or input n 0) ≡ true = rw e refl in
    let place : position_or_len is_feed input ≡ n = position_or_len_is is_feed input n 0 (omega arith) before (λ le. passes) in
    subst (CutAt input) place (lines-cut input (omega (arith, place)))
    ∙ ap (λ t. t ∷ lines_of (drop (n + 1) input)) (ap (λ b. take n input ++ b ∷ []) (sym e) ∙ take-more input n within)

-- or with the input
pub ends-with-input : (input : List ℕ) (n : ℕ) → LacksFeedBelow input n → n ≡ length input → 0 < length input → lines_of input ≡ take n input ∷ lines_of (drop n input)
ends-with-input input n before same some =
    let place : position_or_len is_feed input ≡ n = position_or_len_is is_feed input n 0 (omega arith) before (λ le. absurd (omega arith)) in
    let front : take n input ≡ input = grind (arith, common_steps) in
    let back : drop n input ≡ [] = grind (arith, common_steps) in
    lines-whole input (place ∙ same) some ∙ ap (λ ls. input ∷ ls) (sym (ap lines_of back ∙ lines-nil)) ∙ ap (λ t. t ∷ lines_of (drop n input)) (sym front)
