-- The ids of keywords are found at their places.
use Rattle.std.proofs.Common.{◌≡◌, List, refl, ap, ◌∙◌}
use Rattle.jo_value.specs.declared.value.TextId.{TextId}
use Rattle.jo_value.specs.Texts.{Table}
use Rattle.jo_parse_tree.specs.declared.keyword.Keyword.{Keyword}
use Rattle.jo_parse_tree.specs.declared.keyword.Keyword.TheVariants as keyword
use Rattle.jo_vm.specs.inner.Words.{id_among, word_id, ids_in}

id_at_place : (texts : Table) (word : Keyword) → id_among (ids_in texts) word ≡ word_id texts word
id_at_place texts keyword.Break = refl
id_at_place texts keyword.Cas = refl
id_at_place texts keyword.Continue = refl
id_at_place texts keyword.Delete = refl
id_at_place texts keyword.Else = refl
id_at_place texts keyword.False = refl
id_at_place texts keyword.For = refl
id_at_place texts keyword.If = refl
id_at_place texts keyword.In = refl
id_at_place texts keyword.Let = refl
id_at_place texts keyword.Null = refl
id_at_place texts keyword.Print = refl
id_at_place texts keyword.PrintNames = refl
id_at_place texts keyword.Shared = refl
id_at_place texts keyword.True = refl
id_at_place texts keyword.Undefined = refl
id_at_place texts keyword.While = refl

pub id_is : (texts : Table) (ids : List TextId) (word : Keyword) → ids ≡ ids_in texts → id_among ids word ≡ word_id texts word
id_is texts ids word e = ap (λ i. id_among i word) e ∙ id_at_place texts word
