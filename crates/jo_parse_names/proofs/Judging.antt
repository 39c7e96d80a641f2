-- What is answered to the faults of parts that follow one another, where memory may be refused.
use Rattle.std.proofs.Common.{◌≡◌, List, [], ◌∷◌, ◌++◌, Result, Ok, Err, refl, ap, subst, ◌∙◌}
use Rattle.jo_lex.specs.declared.refusal.ParseFault.{ParseFault}
use Rattle.jo_lex.specs.declared.refusal.ParseFault.TheVariants.{Memory, Refused}
use Rattle.jo_parse_grammar.specs.Declarations.{Found}
use Rattle.jo_parse_names.specs.inner.Blocks.{answer_to, refused, Judges}
use Rattle.jo_parse_names.proofs.Turns.{answer_to-append, after_err, after_ok}

pub judges-refused : (faults : List Found) → Judges faults (refused (answer_to faults))
judges-refused [] = refl
judges-refused (found ∷ faults) = refl

pub judged_ok : (faults : List Found) {result : Result (Unit {0}) ParseFault} {x : Unit {0}} → Judges faults result → result ≡ Ok x → answer_to faults ≡ Ok x
judged_ok faults j was = subst (λ r. Judges faults r) was j

err-first : (whole first rest : List Found) (fault : ParseFault) → whole ≡ first ++ rest → Judges first (Err fault) → Judges whole (Err fault)
err-first whole first rest Memory e j = tt
err-first whole first rest (Refused refusal) e j = after_err (answer_to rest) (ap answer_to e ∙ answer_to-append first rest) j

-- the first part is refused, and so is the whole
pub judged_first : (whole first rest : List Found) {result : Result (Unit {0}) ParseFault} {fault : ParseFault} → whole ≡ first ++ rest → Judges first result → result ≡ Err fault → Judges whole (Err fault)
judged_first whole first rest {fault = fault} e j was = err-first whole first rest fault e (subst (λ r. Judges first r) was j)

same-answer : (whole rest : List Found) (result : Result (Unit {0}) ParseFault) → answer_to whole ≡ answer_to rest → Judges rest result → Judges whole result
same-answer whole rest (Ok x) e j = e ∙ j
same-answer whole rest (Err Memory) e j = tt
same-answer whole rest (Err (Refused refusal)) e j = e ∙ j

-- the first part has no fault, and the rest is judged
pub judged_then : (whole first rest : List Found) {x : Unit {0}} (result : Result (Unit {0}) ParseFault) → whole ≡ first ++ rest → answer_to first ≡ Ok x → Judges rest result → Judges whole result
judged_then whole first rest result e ok j = same-answer whole rest result (after_ok (answer_to rest) (ap answer_to e ∙ answer_to-append first rest) ok) j

-- an answer to what is left is one to the whole
pub judged_same : (whole rest : List Found) (result : Result (Unit {0}) ParseFault) → answer_to whole ≡ answer_to rest → Judges rest result → Judges whole result
judged_same = same-answer

pub judged_left : (whole left first rest : List Found) {result : Result (Unit {0}) ParseFault} {fault : ParseFault} → answer_to whole ≡ answer_to left → left ≡ first ++ rest → Judges first result → result ≡ Err fault → Judges whole (Err fault)
judged_left whole left first rest {fault = fault} same e j was = same-answer whole left (Err fault) same (judged_first left first rest e j was)

pub left_on : (whole left first rest : List Found) {result : Result (Unit {0}) ParseFault} {x : Unit {0}} → answer_to whole ≡ answer_to left → left ≡ first ++ rest → Judges first result → result ≡ Ok x → answer_to whole ≡ answer_to rest
left_on whole left first rest same e j was = same ∙ after_ok (answer_to rest) (ap answer_to e ∙ answer_to-append first rest) (judged_ok first j was)

pub ruleset judging = (judges-refused)
