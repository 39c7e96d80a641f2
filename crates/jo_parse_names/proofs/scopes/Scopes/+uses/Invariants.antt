use Rattle.std.proofs.Common.{◌≡◌, drop}
use Rattle.jo_parse_names.specs.inner.Blocks.{all_of, answer_to}
use Rattle.jo_parse_grammar.specs.Declarations.{faults_of_uses, uses_of_accesses, uses_of_links, uses_of_props}
use Rattle.jo_parse_tree.specs.Views.{accesses_list, links_list, props_list}
use Rattle.jo_parse_names.proofs.scopes.Scopes.+uses.Given as goal

abbrev pub invariant-accesses-loop-access : goal.invariant-accesses-loop-access
invariant-accesses-loop-access l =
    answer_to (faults_of_uses (all_of l.self) (uses_of_accesses (accesses_list l.accesses)))
    ≡ answer_to (faults_of_uses (all_of l.self) (uses_of_accesses (accesses_list (drop l.access-index l.accesses))))

abbrev pub invariant-links-loop-link : goal.invariant-links-loop-link
invariant-links-loop-link l =
    answer_to (faults_of_uses (all_of l.self) (uses_of_links (links_list l.links)))
    ≡ answer_to (faults_of_uses (all_of l.self) (uses_of_links (links_list (drop l.link-index l.links))))

abbrev pub invariant-props-loop-prop : goal.invariant-props-loop-prop
invariant-props-loop-prop l =
    answer_to (faults_of_uses (all_of l.self) (uses_of_props (props_list l.props)))
    ≡ answer_to (faults_of_uses (all_of l.self) (uses_of_props (props_list (drop l.prop-index l.props))))
