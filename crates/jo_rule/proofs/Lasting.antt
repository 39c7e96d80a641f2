-- Words that never change stay known.
use Rattle.std.proofs.Common.{◌≡◌, ◌⊎◌, ℕ, true, List, set, refl, ◌∙◌, subst, inl, inr, ⊎_elim, Option, Some}
use mathlib.Core.Option.{some}
use lib.ListN.{get_elem?}
use Rattle.jo_value.specs.declared.value.Sid.{Sid}
use Rattle.jo_value.specs.declared.words.node.Node.{Node}
use Rattle.jo_rule.specs.Names.{WordName}
use Rattle.jo_rule.specs.Roles.{Role, Grows}
use Rattle.jo_rule.specs.Views.{View, KnownWord}
use Rattle.jo_rule.specs.Sights.{told}
use Rattle.jo_rule.specs.Lasting.{IsNodeWord, IsFixedWord, IsLinkWord, IsLasting, KnowsLasting, Lasting}
use Rattle.jo_rule.proofs.Lists.{live_set}
use Rattle.jo_rule.proofs.Layouts.{fixed_named}

module _ {nodes nodes' : Sid → Option Node} {siblings siblings' : Sid → ℕ} {role role' : ℕ → Role} (kept : (s : Sid) (n : Node) → nodes s ≡ Some n → nodes' s ≡ Some n) (links : (s : Sid) (n : Node) → nodes s ≡ Some n → siblings' s ≡ siblings s) (grows : Grows role role') where
  pub lasting_on : {name : WordName} {word : ℕ} → IsLasting nodes siblings role name word → IsLasting nodes' siblings' role' name word
  lasting_on {name} {word} h = ⊎_elim
      (λ (a : IsNodeWord nodes name word). inl (record { structure = a.structure; found = a.found; name_is = a.name_is; is = kept a.structure a.found a.is; word_is = a.word_is }))
      (λ (b : IsFixedWord role name word ⊎ IsLinkWord nodes siblings name word). inr (⊎_elim
      (λ (a : IsFixedWord role name word). inl (record { at = a.at; name_is = a.name_is; is = grows a.at (fixed_named role a.at word a.is) ∙ a.is }))
      (λ (a : IsLinkWord nodes siblings name word). inr (record { structure = a.structure; found = a.found; name_is = a.name_is; is = kept a.structure a.found a.is; word_is = links a.structure a.found a.is ∙ a.word_is })) b)) h

  -- nodes are born, links of others stored and roles given, and the view knows further words
  pub lasting_more : (views : List View) (id : ℕ) (u : View) → Lasting nodes siblings role views → KnowsLasting nodes' siblings' role' id u → Lasting nodes' siblings' role' (set views id u)
  lasting_more views id u r own = record { known = live_set (KnowsLasting nodes siblings role) (KnowsLasting nodes' siblings' role') views id u r.known (λ j y n e ly h name word f. lasting_on (h name word f)) own }

  -- the words that the view knows are the same
  pub lasting_moved : (views : List View) (id : ℕ) (v u : View) → get_elem? views id ≡ some v → v.live ≡ true → v.lasting ≡ u.lasting → Lasting nodes siblings role views → Lasting nodes' siblings' role' (set views id u)
  lasting_moved views id v u at l same r = lasting_more views id u r (subst (λ (k : List KnownWord). (name : WordName) (word : ℕ) → told k name ≡ Some word → IsLasting nodes' siblings' role' name word) same (λ name word f. lasting_on (r.known id v at l name word f)))

-- nodes are born and roles given
pub lasting_grows : {nodes nodes' : Sid → Option Node} {siblings : Sid → ℕ} {role role' : ℕ → Role} (views : List View) (id : ℕ) (v u : View) → get_elem? views id ≡ some v → v.live ≡ true → v.lasting ≡ u.lasting → ((s : Sid) (n : Node) → nodes s ≡ Some n → nodes' s ≡ Some n) → Grows role role' → Lasting nodes siblings role views → Lasting nodes' siblings role' (set views id u)
lasting_grows views id v u at l same kept grows r = lasting_moved kept (λ s n e. refl) grows views id v u at l same r

pub lasting_same : {nodes : Sid → Option Node} {siblings : Sid → ℕ} {role : ℕ → Role} (views : List View) (id : ℕ) (v u : View) → get_elem? views id ≡ some v → v.live ≡ true → v.lasting ≡ u.lasting → Lasting nodes siblings role views → Lasting nodes siblings role (set views id u)
lasting_same views id v u at l same r = lasting_grows views id v u at l same (λ s n e. e) (λ a n. refl) r
