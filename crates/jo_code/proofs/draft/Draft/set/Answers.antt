use Rattle.jo_code.proofs.Drafts.{set_patched}
use Rattle.jo_code.proofs.draft.Draft.set.Goals as goal

pub returns-then-place-len : goal.returns-then-place-len
returns-then-place-len c = rw (← c.self.view_is) (set_patched c.self.inside.backwards.items c.args.place c.args.instruction)
