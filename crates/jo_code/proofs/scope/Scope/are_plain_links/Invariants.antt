use Rattle.std.proofs.Common.{◌≡◌, drop}
use Rattle.jo_code.specs.inner.Code.{are_plain_links}
use Rattle.jo_parse_tree.specs.Views.{links_list}
use Rattle.jo_code.proofs.scope.Scope.are_plain_links.Given as goal

abbrev pub invariant-loop-link : goal.invariant-loop-link
invariant-loop-link l = are_plain_links l.self (links_list l.links) ≡ are_plain_links l.self (links_list (drop l.link-index l.links))
