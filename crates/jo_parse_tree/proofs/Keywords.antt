-- Each keyword is found by its own text, and by no other.
use Rattle.std.proofs.Common.{◌≡◌, ℕ, Bool, true, false, cond, List, [], ◌∷◌, Some, refl}
use Rattle.std.proofs.lemmas.Slice.Eq.{bytes_eq-Decides}
use Rattle.std.specs.List.{find}
use Rattle.std.specs.Str.{bytes_eq}
use Rattle.jo_parse_tree.specs.declared.keyword.Keyword.{Keyword}
use Rattle.jo_parse_tree.specs.declared.keyword.Keyword.TheVariants as kw
use Rattle.jo_parse_tree.specs.declared.keyword.TheConstants.{KEYWORDS}
use Rattle.jo_parse_tree.specs.Words.{keyword_text, keyword_of}

pub keyword-of-text : (w : Keyword) → keyword_of (keyword_text w) ≡ Some w
unfolding keyword_of
keyword-of-text kw.Break = refl
keyword-of-text kw.Cas = refl
keyword-of-text kw.Continue = refl
keyword-of-text kw.Delete = refl
keyword-of-text kw.Else = refl
keyword-of-text kw.False = refl
keyword-of-text kw.For = refl
keyword-of-text kw.If = refl
keyword-of-text kw.In = refl
keyword-of-text kw.Let = refl
keyword-of-text kw.Null = refl
keyword-of-text kw.Print = refl
keyword-of-text kw.PrintNames = refl
keyword-of-text kw.Shared = refl
keyword-of-text kw.True = refl
keyword-of-text kw.Undefined = refl
keyword-of-text kw.While = refl

-- what a search finds passes
find-passes : {X : Type 0} (p : X → Bool) (xs : List X) (x : X) → find p xs ≡ Some x → p x ≡ true
find-passes p [] x e = cc
find-passes p (y ∷ ys) x e = step (p y) refl e (find-passes p ys x)
  where
    step : (b : Bool) → p y ≡ b → cond b (Some y) (find p ys) ≡ Some x → (find p ys ≡ Some x → p x ≡ true) → p x ≡ true
    step true t e ih = cc
    step false t e ih = ih e

pub text-of-keyword : (word : List ℕ) (w : Keyword) → keyword_of word ≡ Some w → keyword_text w ≡ word
unfolding keyword_of
text-of-keyword word w e = (bytes_eq-Decides (keyword_text w) word).0 (find-passes (λ k. bytes_eq (keyword_text k) word) KEYWORDS w e)
