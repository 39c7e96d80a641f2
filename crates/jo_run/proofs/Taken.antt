-- The first pass joins one more into itself, and the list of what is left of scripts has one more.
use Rattle.std.proofs.Common.{◌≡◌, List, [], ◌∷◌, ◌++◌, map, refl, sym, ap, ◌∙◌, append_assoc}
use Rattle.jo_rule.specs.Steps.{joined}
use Rattle.jo_rule.specs.Views.{View, Kept}
use Rattle.jo_run.specs.declared.jobs.Job.{Job}
use Rattle.jo_run.specs.declared.set.EndedScript.{EndedScript}
use Rattle.jo_run.specs.inner.Jobs.{StaysFirst, kept_of_job, ScriptEnd, end_of_script, end_of_job}

map_more : {A B : Type 0} (f : A → B) (xs : List A) (x : A) → map f (xs ++ x ∷ []) ≡ map f xs ++ f x ∷ []
map_more f [] x = refl
map_more f (y ∷ xs) x = ap (λ l. f y ∷ l) (map_more f xs x)

-- one more behind others
pub behind : {A B : Type 0} (f : A → B) (ys : List B) (xs : List A) (x : A) (zs : List B) → zs ≡ ys ++ map f xs → zs ++ f x ∷ [] ≡ ys ++ map f (xs ++ x ∷ [])
behind f ys xs x zs e = ap (λ l. l ++ f x ∷ []) e ∙ (append_assoc ys (map f xs) (f x ∷ []) ∙ ap (λ l. ys ++ l) (sym (map_more f xs x)))

module _ (first v y : View) (job : Job) (joins : y ≡ joined v job.pass.view) where
  pub stays_more : StaysFirst first v → StaysFirst first y
  stays_more s = record {
    number = ap (λ (x : View). x.number) joins ∙ s.number;
    made = ap (λ (x : View). x.made) joins ∙ s.made;
    calls = ap (λ (x : View). x.past.calls) joins ∙ s.calls;
    tries = ap (λ (x : View). x.tries) joins ∙ s.tries;
    lock = ap (λ (x : View). x.lock) joins ∙ s.lock;
  }

  pub kept_more : (jobs : List Job) → job.pass.view.kept ≡ [] → v.kept ≡ first.kept ++ map kept_of_job jobs → y.kept ≡ first.kept ++ map kept_of_job (jobs ++ job ∷ [])
  kept_more jobs alone kept =
      ap (λ (x : View). x.kept) joins
      ∙ (ap (λ (l : List Kept). v.kept ++ kept_of_job job ∷ l) alone ∙ behind kept_of_job first.kept jobs job v.kept kept)

-- what is left of one more script
pub left_more : (before now all : List EndedScript) (e : EndedScript) (jobs : List Job) (job : Job) → end_of_script e ≡ end_of_job job → all ≡ now ++ e ∷ []
    → map end_of_script now ≡ map end_of_script before ++ map end_of_job jobs → map end_of_script all ≡ map end_of_script before ++ map end_of_job (jobs ++ job ∷ [])
left_more before now all e jobs job is more so_far =
    ap (map end_of_script) more
    ∙ (map_more end_of_script now e ∙ (ap (λ (x : ScriptEnd). map end_of_script now ++ x ∷ []) is ∙ behind end_of_job (map end_of_script before) jobs job (map end_of_script now) so_far))
