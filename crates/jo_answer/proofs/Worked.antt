-- Worked cases: what is written of scripts, and the lines of refusals, by computation.
use Rattle.std.proofs.Common.{refl}
use Rattle.std.specs.Prelude.{◌≡◌, ℕ, ◌+◌, ◌-◌, ◌*◌, pos, negsuc, false, [], ◌∷◌, codes}
use Rattle.std.specs.Fmt.{digits}
use Rattle.jo_value.specs.Texts.{Table}
use Rattle.jo_value.specs.declared.value.NameId.{NameId}
use Rattle.jo_value.specs.declared.value.Key.TheVariants.{Name}
use Rattle.jo_value.specs.declared.value.Value.TheVariants.{Int, Null}
use Rattle.jo_lex.specs.declared.refusal.RefusalKind.TheVariants.{NestedTooDeep}
use Rattle.jo_parse_tree.specs.declared.keyword.Keyword.TheVariants as keyword
use Rattle.jo_parse_tree.specs.declared.operator.AssignOperator.TheVariants.{Set}
use Rattle.jo_parse_tree.specs.declared.word.Name.TheVariants.{Ident}
use Rattle.jo_parse_tree.specs.Trees.{Tree, number, constant, member, assign, no_accesses, field, Statement, print, evaluate, Items, no_items, perform}
use Rattle.jo_model.specs.declared.call.Call.TheVariants.{Put}
use Rattle.jo_model.specs.declared.call.Outcome.TheVariants as outcome
use Rattle.jo_model.specs.declared.call.Reply.TheVariants.{Done}
use Rattle.jo_model.specs.Objects.{empty_object}
use Rattle.jo_model.specs.Heaps.{Heap, shared}
use Rattle.jo_model.specs.History.{Entry}
use Rattle.jo_rule.specs.declared.counts.Counts.{Counts}
use Rattle.jo_meaning.specs.Histories.{played_alone}
use Rattle.jo_meaning.specs.Output.{output}
use Rattle.jo_answer.specs.Forms.{counts_line, counted_output, summary_line}
use Rattle.jo_answer.specs.Lines.{refusal_line}

-- ---- words of the cases

abbrev texts : Table
texts = codes "shared" ∷ codes "x" ∷ codes "y" ∷ codes "print" ∷ codes "z" ∷ codes "in" ∷ []

-- `shared.name`, by the id of the name
abbrev read : ℕ → Tree
read n = member (constant keyword.Shared) (field (Ident (record { text = record { 0 = n }; place = 0; is_proto = false })) no_accesses)

abbrev named : ℕ → NameId
named n = record { 0 = n }

-- `shared.name = i;`
abbrev put : ℕ → ℕ → Statement
put n i = evaluate (assign Set (read n) (number (pos i)))

abbrev alone : Statement → Items
alone statement = perform statement no_items

-- `shared.x = 1; shared.y = 2; print(shared.x, shared.z);`
abbrev first : Items
first = perform (put 1 1) (perform (put 2 2) (alone (print (read 1 ∷ read 4 ∷ []))))

-- ---- outputs

-- one script alone: its line, its outcome and the object
pub the_first_script_writes_three_lines :
    output texts 0 (played_alone first texts 0).history (first ∷ []) ≡ codes "1| 1 undefined\n1= done\n#0.0 {\"x\": 1, \"y\": 2}\n"
unfolding digits
the_first_script_writes_three_lines = refl

pub the_first_script_is_done : (played_alone first texts 0).outcome ≡ outcome.Done
unfolding digits
the_first_script_is_done = refl

-- a put of a pass that was answered
abbrev entry : ℕ → ℕ → ℕ → Entry
entry pass n i = record { pass = pass; call = Put shared (Name (named n)) (Int (pos i)); reply = Done }

-- two scripts of one put each: names stand in the order of the history, outcomes in that of the scripts
pub two_scripts_write_their_names_in_the_order_of_the_history :
    output texts 0 (entry 2 2 8 ∷ entry 1 1 7 ∷ []) (alone (put 1 7) ∷ alone (put 2 8) ∷ []) ≡ codes "1= done\n2= done\n#0.0 {\"y\": 8, \"x\": 7}\n"
unfolding digits
two_scripts_write_their_names_in_the_order_of_the_history = refl

-- ---- counts

-- the counts of each script, by its number
abbrev counts : ℕ → Counts
counts n = record { loads = 10 * n; stores = n + 3; exchanges = n + 1; locks = n - 1 }

pub a_line_of_counts_has_loads_stores_exchanges_and_locks : counts_line 7 (counts 2) ≡ codes "7# loads 20 stores 5 exchanges 3 locks 1\n"
unfolding digits
a_line_of_counts_has_loads_stores_exchanges_and_locks = refl

-- the two scripts again, each with its own counts after its part
pub the_counts_of_each_script_follow_its_outcome :
    counted_output texts 0 (entry 2 2 8 ∷ entry 1 1 7 ∷ []) counts (alone (put 1 7) ∷ alone (put 2 8) ∷ [])
    ≡ codes "1= done\n1# loads 10 stores 4 exchanges 2 locks 0\n2= done\n2# loads 20 stores 5 exchanges 3 locks 1\n#0.0 {\"y\": 8, \"x\": 7}\n"
unfolding digits
the_counts_of_each_script_follow_its_outcome = refl

-- ---- made sets

-- an object with two names and an index, and an empty one
abbrev small : Heap
small = (record { names = (named 1, Int (negsuc 8)) ∷ (named 2, Null) ∷ []; elements = (5, Int (pos 2)) ∷ [] } ∷ empty_object ∷ []) ∷ []

pub a_made_set_is_one_line :
    summary_line 12 (outcome.Done ∷ outcome.TypeFault ∷ outcome.Done ∷ []) small
    ≡ codes "made 12: scripts 3, done 2, objects 2, names 2, elements 1, sum -7\n"
unfolding digits
a_made_set_is_one_line = refl

-- ---- refusals

pub a_refusal_has_its_code_its_name_and_its_place : refusal_line (record { kind = NestedTooDeep; place = 317 }) ≡ codes "refused 7 NestedTooDeep at 317\n"
unfolding digits
a_refusal_has_its_code_its_name_and_its_place = refl
