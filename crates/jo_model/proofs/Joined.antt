-- The weave is the history of the placed calls.
use Rattle.std.proofs.Common.{◌<◌, ℕ, List, [], ◌∷◌, ◌++◌, sym, ap, ◌∙◌, subst, map}
use Rattle.std.specs.Prelude.{All}
use Rattle.std.proofs.lemmas.List.Elements.{All-nil, All-cons}
use Rattle.std.proofs.lemmas.Simd.{map-map}
use Rattle.jo_model.specs.History.{Entry, History, IsLegalAfter}
use Rattle.jo_model.specs.Logs.{Log}
use Rattle.jo_model.specs.Placed.{PlacedCall, entry_of, weave}
use Rattle.jo_model.specs.Joined.{ArePlaced, IsHistoryOfCalls}
use Rattle.jo_model.proofs.Woven.{woven}
use Rattle.jo_model.proofs.Once.{weave-has-each-once}

passes-of : (P : ℕ) (before w : History) → IsLegalAfter P before w → All (λ e. e.pass < P) w
passes-of P before [] legal = All-nil (λ e. e.pass < P)
passes-of P before (e ∷ w) legal = All-cons (λ e. e.pass < P) e w legal.0.pass (passes-of P (before ++ e ∷ []) w legal.1)

pub joined : {M : Type 0} (P : ℕ) (C : Log M) (calls : List (List PlacedCall)) → ArePlaced P C calls → IsHistoryOfCalls P C calls (weave C calls)
joined P C calls h =
    let goes = woven P C calls h in
    record {
      legal = goes.legal;
      leaves = goes.leads.at;
      asked = λ t ps is.
          ap (λ (w : History). map (λ e. e.call) w) (weave-has-each-once P C t calls ps h.all is (h.each t ps is)) ∙ map-map (λ (e : Entry). e.call) (entry_of t) ps;
      answered = λ t ps is.
          ap (λ (w : History). map (λ e. e.reply) w) (weave-has-each-once P C t calls ps h.all is (h.each t ps is)) ∙ map-map (λ (e : Entry). e.reply) (entry_of t) ps;
      no_others = subst (λ n. All (λ e. e.pass < n) (weave C calls)) (sym h.all) (passes-of P [] (weave C calls) goes.legal);
    }
