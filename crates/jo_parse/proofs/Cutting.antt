-- From line to line: the sections so far, and the one under way.
use Rattle.std.proofs.Common.{◌≡◌, ℕ, ◌+◌, ◌-◌, ◌<◌, Bool, true, false, List, [], ◌∷◌, ◌++◌, length, slice_get, Some, refl, sym, ap, ◌∙◌, arith, append_assoc, length-append}
use Rattle.std.proofs.lemmas.List.{append_cancel_right}
use Rattle.jo_value.specs.declared.limits.TheConstants.{MOST_SCRIPTS}
use Rattle.jo_parse_grammar.specs.Cuts.{Section, lines_of, is_separator, sections_from, sections_of, IsOneTooMany}
use Rattle.jo_parse.proofs.Lines.{lines-nil}

-- a section has begun where `from` does in the whole input, and it goes on with the lines of the rest
pub record IsUnderWay (whole from rest : List ℕ) (parts : List Section) : Type 0 where
  pub front : List ℕ
  pub cut : from ≡ front ++ rest
  pub before : List ℕ
  pub begins : whole ≡ before ++ from
  pub goes_on : parts ++ sections_from (length whole - length from) front (lines_of rest) ≡ sections_of whole
  pub few : length parts < MOST_SCRIPTS

pub from-nil : (start : ℕ) (input : List ℕ) → sections_from start input [] ≡ record { start = start; input = input } ∷ []
unfolding sections_from
from-nil start input = refl

pub from-separator : (start : ℕ) (input line : List ℕ) (lines : List (List ℕ)) → is_separator line ≡ true → sections_from start input (line ∷ lines) ≡ record { start = start; input = input } ∷ sections_from (start + length input + length line) [] lines
unfolding sections_from
from-separator start input line lines e = rw e refl

pub from-other : (start : ℕ) (input line : List ℕ) (lines : List (List ℕ)) → is_separator line ≡ false → sections_from start input (line ∷ lines) ≡ sections_from start (input ++ line) lines
unfolding sections_from
from-other start input line lines e = rw e refl

pub begun : (whole : List ℕ) → IsUnderWay whole whole whole []
begun whole = record {
  front = [];
  cut = refl;
  before = [];
  begins = refl;
  goes_on = ap (λ n. sections_from n [] (lines_of whole)) (none-before (length whole));
  few = omega arith;
}
  where
    none-before : (n : ℕ) → n - n ≡ 0
    none-before n = omega arith

-- a line that does not separate
pub gone-on : (whole from rest line after : List ℕ) (parts : List Section) → IsUnderWay whole from rest parts → lines_of rest ≡ line ∷ lines_of after → rest ≡ line ++ after → is_separator line ≡ false
    → IsUnderWay whole from after parts
gone-on whole from rest line after parts h lines split e =
    let start = length whole - length from in record {
      front = h.front ++ line;
      cut = h.cut ∙ ap (λ t. h.front ++ t) split ∙ sym (append_assoc h.front line after);
      before = h.before;
      begins = h.begins;
      goes_on = sym (ap (λ ls. parts ++ sections_from start h.front ls) lines ∙ ap (λ ps. parts ++ ps) (from-other start h.front line (lines_of after) e)) ∙ h.goes_on;
      few = h.few;
    }

-- the bytes of the section that ends before the rest
ended-input : (whole from rest input : List ℕ) (parts : List Section) (h : IsUnderWay whole from rest parts) → from ≡ input ++ rest → h.front ≡ input
ended-input whole from rest input parts h e = append_cancel_right h.front input rest (sym h.cut ∙ e)

-- the last section
pub last-is : (whole from rest input : List ℕ) (start : ℕ) (parts : List Section) → IsUnderWay whole from rest parts → rest ≡ [] → start + length from ≡ length whole → from ≡ input ++ rest
    → parts ++ record { start = start; input = input } ∷ [] ≡ sections_of whole
last-is whole from rest input start parts h none place e =
    let here : length whole - length from ≡ start = omega arith in
    sym (ap (λ n. parts ++ record { start = n; input = h.front } ∷ []) here
    ∙ ap (λ t. parts ++ record { start = start; input = t } ∷ []) (ended-input whole from rest input parts h e))
    ∙ sym (ap (λ ls. parts ++ sections_from (length whole - length from) h.front ls) (ap lines_of none ∙ lines-nil) ∙ ap (λ ps. parts ++ ps) (from-nil (length whole - length from) h.front))
    ∙ h.goes_on

-- what stands from a separator on
separated : (whole from rest line after input : List ℕ) (start : ℕ) (parts : List Section) → IsUnderWay whole from rest parts → lines_of rest ≡ line ∷ lines_of after → rest ≡ line ++ after → is_separator line ≡ true
    → start + length from ≡ length whole → from ≡ input ++ rest
    → parts ++ (record { start = start; input = input } ∷ sections_from (length whole - length after) [] (lines_of after)) ≡ sections_of whole
separated whole from rest line after input start parts h lines split is place e =
    let here : length whole - length from ≡ start = omega arith in
    let further : start + length input + length line ≡ length whole - length after = omega (arith, ap length e, length-append input rest, ap length split, length-append line after) in
    let ls = lines_of after in
    sym (ap (λ n. parts ++ sections_from n h.front (lines_of rest)) here
    ∙ ap (λ t. parts ++ sections_from start t (lines_of rest)) (ended-input whole from rest input parts h e)
    ∙ ap (λ t. parts ++ sections_from start input t) lines
    ∙ ap (λ ps. parts ++ ps) (from-separator start input line ls is)
    ∙ ap (λ n. parts ++ (record { start = start; input = input } ∷ sections_from n [] ls)) further)
    ∙ h.goes_on

-- a separator, where one more section may begin
pub begun-anew : (whole from rest line after input : List ℕ) (start : ℕ) (parts : List Section) → IsUnderWay whole from rest parts → lines_of rest ≡ line ∷ lines_of after → rest ≡ line ++ after → is_separator line ≡ true
    → start + length from ≡ length whole → from ≡ input ++ rest → length parts + 1 < MOST_SCRIPTS
    → IsUnderWay whole after after (parts ++ record { start = start; input = input } ∷ [])
begun-anew whole from rest line after input start parts h lines split is place e few =
    let part : Section = record { start = start; input = input } in record {
      front = [];
      cut = refl;
      before = h.before ++ (input ++ line);
      begins = h.begins ∙ ap (λ t. h.before ++ t) (e ∙ ap (λ t. input ++ t) split ∙ sym (append_assoc input line after)) ∙ sym (append_assoc h.before (input ++ line) after);
      goes_on = append_assoc parts (part ∷ []) (sections_from (length whole - length after) [] (lines_of after)) ∙ separated whole from rest line after input start parts h lines split is place e;
      few = omega (arith, length-append parts (part ∷ []));
    }

some-left : (start : ℕ) (input : List ℕ) (lines : List (List ℕ)) → 0 < length (sections_from start input lines)
some-left start input [] = omega (arith, ap length (from-nil start input))
some-left start input (line ∷ lines) = step (is_separator line) refl (some-left start (input ++ line) lines)
  where
    step : (k : Bool) → is_separator line ≡ k → 0 < length (sections_from start (input ++ line) lines) → 0 < length (sections_from start input (line ∷ lines))
    step true e ih = omega (arith, ap length (from-separator start input line lines e))
    step false e ih = omega (arith, ap length (from-other start input line lines e))

get-after : {X : Type 0} (xs ys : List X) (x : X) → slice_get (xs ++ (x ∷ ys)) (length xs) ≡ Some x
get-after [] ys x = refl
get-after (y ∷ xs) ys x = get-after xs ys x

-- a separator, where no more section may begin
pub one-too-many : (whole from rest line after input : List ℕ) (start : ℕ) (parts : List Section) → IsUnderWay whole from rest parts → lines_of rest ≡ line ∷ lines_of after → rest ≡ line ++ after → is_separator line ≡ true
    → start + length from ≡ length whole → from ≡ input ++ rest → length parts + 1 ≡ MOST_SCRIPTS
    → IsOneTooMany (sections_of whole) (start + length input)
one-too-many whole from rest line after input start parts h lines split is place e full =
    let part : Section = record { start = start; input = input } in
    let left : List Section = sections_from (length whole - length after) [] (lines_of after) in
    let all : parts ++ (part ∷ left) ≡ sections_of whole = separated whole from rest line after input start parts h lines split is place e in
    let some : 0 < length left = some-left (length whole - length after) [] (lines_of after) in
    let at : length parts ≡ MOST_SCRIPTS - 1 = omega arith in
    (omega (arith, ap length all, length-append parts (part ∷ left)), part, sym (ap (λ ps. slice_get ps (MOST_SCRIPTS - 1)) all) ∙ sym (ap (slice_get (parts ++ (part ∷ left))) at) ∙ get-after parts left part, refl)
