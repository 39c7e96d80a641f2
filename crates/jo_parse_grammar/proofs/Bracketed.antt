-- What stands inside brackets.
use Rattle.std.proofs.Common.{◌≡◌, ◌⊎◌, inl, inr, Bool, true, false, if◌then◌else◌, zero, suc, ℕ, ◌≤◌, List, [], ◌∷◌, ◌++◌, Ok, refl, sym, ◌∙◌, ap, subst, append_assoc, arith, length}
use Rattle.jo_lex.specs.declared.punct.Punct.{Punct}
use Rattle.jo_lex.specs.declared.punct.Punct.TheVariants as p
use Rattle.jo_parse_grammar.specs.declared.terminal.Terminal.{Terminal}
use Rattle.jo_parse_grammar.specs.declared.terminal.Terminal.TheVariants as t
use Rattle.jo_parse_tree.specs.declared.word.Name.TheVariants as n
use Rattle.jo_parse_tree.specs.declared.word.PropKey.{PropKey}
use Rattle.jo_parse_tree.specs.declared.word.PropKey.TheVariants as q
use Rattle.jo_parse_tree.specs.Trees.{Tree, group, object, cas, Props, no_props, prop}
use Rattle.jo_parse_grammar.specs.Operators.{key_token}
use Rattle.jo_parse_grammar.specs.Expressions.{Symbol, plain, punct, MayStand, FitProps, FitMore, comma_at_end, spelling, props, more_props}
use Rattle.jo_parse_grammar.specs.Refusals.{Language, terms}
use Rattle.jo_parse_grammar.specs.inner.Read.{Reader, and_then, peek, next, sees, expect, key, punct_rank, rank, with_prop, Below, ended, property, props_from, object_after, group_after, cas_after}
use Rattle.jo_parse_grammar.proofs.Outcome.{Outcome, bind, outcome-bind, Any, nothing, outcome-pure, one, outcome-fail, outcome-same, mapped, outcome-map, outcome-if, join, sees-cons, sees-false, first-of, some-after, outcome-sees, outcome-expect, IsKey, a_key, outcome-key, plain-after}
use Rattle.jo_parse_grammar.proofs.Levels.{at, Above, ReadsAt, some_tree, not-longer, closed_by, outcome-closed, outcome-inner}

-- ---- an expression and the terminal that ends it

abbrev pub an_ended : ℕ → Punct → Language Tree
an_ended d c e m = MayStand true 1 e × (m ≡ spelling d e ++ punct c ∷ [])

abbrev ended_parts : ℕ → Punct → Language Tree
ended_parts d c = closed_by true d (t.Punct c) (λ e. nothing e)

ended-to : (d : ℕ) (c : Punct) (e : Tree) (m : List Symbol) → ended_parts d c e m → an_ended d c e m
ended-to d c e m (f, x, y, k, (u, x', y', l, (same, empty), w'), w) =
    (subst (λ v. MayStand true 1 v) (sym same) k.0, w ∙ join (k.1 ∙ ap (λ v. spelling d v) (sym same)) (w' ∙ join l empty))

ended-from : (d : ℕ) (c : Punct) (e : Tree) (m : List Symbol) → an_ended d c e m → ended_parts d c e m
ended-from d c e m k = (e, spelling d e, punct c ∷ [], (k.0, refl), (tt, punct c ∷ [], [], refl, (refl, refl), refl), k.1)

pub some_ended : (d : ℕ) (c : Punct) → (e : Tree) × (m : List Symbol) × an_ended d c e m
some_ended d c = let i = some_tree true 1 d in (i.0, spelling d i.0 ++ punct c ∷ [], (i.2.0, refl))

-- ---- groups and the arguments of `cas`

abbrev pub a_group : ℕ → Language Tree
a_group d = mapped group (an_ended d p.CloseParen)

pub some_group : (d : ℕ) → (v : Tree) × (m : List Symbol) × a_group d v m
some_group d = let i = some_ended d p.CloseParen in (group i.0, i.1, (i.0, i.2, refl))

abbrev pub cas_fourth : ℕ → Tree → Tree → Tree → Language Tree
cas_fourth d o k x = mapped (cas o k x) (an_ended d p.CloseParen)

abbrev pub cas_third : ℕ → Tree → Tree → Language Tree
cas_third d o k = bind (an_ended d p.Comma) (cas_fourth d o k)

abbrev pub cas_second : ℕ → Tree → Language Tree
cas_second d o = bind (an_ended d p.Comma) (cas_third d o)

abbrev pub a_cas : ℕ → Language Tree
a_cas d = bind (an_ended d p.Comma) (cas_second d)

some_fourth : (d : ℕ) (o k x : Tree) → (v : Tree) × (m : List Symbol) × cas_fourth d o k x v m
some_fourth d o k x = let i = some_ended d p.CloseParen in (cas o k x i.0, i.1, (i.0, i.2, refl))

some_third : (d : ℕ) (o k : Tree) → (v : Tree) × (m : List Symbol) × cas_third d o k v m
some_third d o k = let i = some_ended d p.Comma in let j = some_fourth d o k i.0 in (j.0, i.1 ++ j.1, (i.0, i.1, j.1, i.2, j.2, refl))

some_second : (d : ℕ) (o : Tree) → (v : Tree) × (m : List Symbol) × cas_second d o v m
some_second d o = let i = some_ended d p.Comma in let j = some_third d o i.0 in (j.0, i.1 ++ j.1, (i.0, i.1, j.1, i.2, j.2, refl))

pub some_cas : (d : ℕ) → (v : Tree) × (m : List Symbol) × a_cas d v m
some_cas d = let i = some_ended d p.Comma in let j = some_second d i.0 in (j.0, i.1 ++ j.1, (i.0, i.1, j.1, i.2, j.2, refl))

-- ---- properties

-- the properties of two lists
abbrev pub both : Props → Props → Props
both no_props qs = qs
both (prop k e ps) qs = prop k e (both ps qs)

both-none : (ps : Props) → both ps no_props ≡ ps
both-none no_props = refl
both-none (prop k e ps) = ap (λ v. prop k e v) (both-none ps)

both-with : (ps qs : Props) (k : PropKey) (e : Tree) → both (with_prop ps k e) qs ≡ both ps (prop k e qs)
both-with no_props qs k e = refl
both-with (prop j f ps) qs k e = ap (λ v. prop j f v) (both-with ps qs k e)

key-apart : (k : PropKey) (c : Punct) → key_token k ≡ t.Punct c → ⊥
key-apart (q.Name (n.Ident x)) c h = cc
key-apart (q.Name (n.Keyword w)) c h = cc
key-apart (q.Name (n.Reserved x)) c h = cc
key-apart (q.Text s) c h = cc
key-apart (q.Number i) c h = cc

abbrev pub a_property : ℕ → Language (PropKey × Tree)
a_property d x m = IsKey x.0 × MayStand true 1 x.1 × (m ≡ plain (key_token x.0) ∷ (punct p.Colon ∷ spelling d x.1))

abbrev property_value : ℕ → PropKey → Language (PropKey × Tree)
property_value d k = mapped (λ e. (k, e)) (at true 1 d)

property_parts : ℕ → Language (PropKey × Tree)
property_parts d = bind a_key (λ k. bind (one (t.Punct p.Colon) 0) (λ _. property_value d k))

property-to : (d : ℕ) (v : PropKey × Tree) (m : List Symbol) → property_parts d v m → a_property d v m
unfolding property_parts
property-to d v m (k, x, y, l, (u, x', y', l', (e, a, same), f'), f) = (
  subst (λ z. IsKey z.0) (sym same) l.0,
  subst (λ z. MayStand true 1 z.1) (sym same) a.0,
  f ∙ join l.1 (f' ∙ join l' a.1) ∙ ap (λ z. plain (key_token z.0) ∷ (punct p.Colon ∷ spelling d z.1)) (sym same),
)

property-from : (d : ℕ) (v : PropKey × Tree) (m : List Symbol) → a_property d v m → property_parts d v m
unfolding property_parts
property-from d v m k = (v.0, plain (key_token v.0) ∷ [], punct p.Colon ∷ spelling d v.1, (k.0, refl), (tt, punct p.Colon ∷ [], spelling d v.1, refl, (v.1, (k.1, refl), refl), refl), k.2)

some_value : (d : ℕ) (k : PropKey) → (v : PropKey × Tree) × (m : List Symbol) × property_value d k v m
some_value d k = let e = some_tree true 1 d in ((k, e.0), e.1, (e.0, e.2, refl))

-- ---- the rest of an object

-- whose properties so far were read
abbrev pub an_end : ℕ → Props → Language Tree
an_end d found v m = (more : Props) × (comma : Bool) × FitMore more × (v ≡ object (both found more) comma) × (m ≡ more_props d more ++ (comma_at_end comma ++ punct p.CloseBrace ∷ []))

abbrev pub a_close : Props → Bool → Language Tree
a_close found comma = bind (one (t.Punct p.CloseBrace) 0) (λ _. nothing (object found comma))

abbrev next_property : ℕ → Props → Language Tree
next_property d found = bind (a_property d) (λ x. an_end d (with_prop found x.0 x.1))

-- after a comma: the brace, or a property and the rest
abbrev after_comma : ℕ → Props → Language Tree
after_comma d found v m = a_close found true v m ⊎ next_property d found v m

abbrev a_comma : ℕ → Props → Language Tree
a_comma d found = bind (one (t.Punct p.Comma) 0) (λ _. after_comma d found)

abbrev pub an_object : ℕ → Language Tree
an_object d v m = (ps : Props) × (comma : Bool) × FitProps ps comma × (v ≡ object ps comma) × (m ≡ props d ps ++ (comma_at_end comma ++ punct p.CloseBrace ∷ []))

abbrev first_property : ℕ → Language Tree
first_property d = bind (a_property d) (λ x. an_end d (prop x.0 x.1 no_props))

close-end : (d : ℕ) (found : Props) (v : Tree) (m : List Symbol) → a_close found false v m → an_end d found v m
close-end d found v m k = (no_props, false, tt, k.4.0 ∙ ap (λ v. object v false) (sym (both-none found)), k.5 ∙ join k.3 k.4.1)

comma-end : (d : ℕ) (found : Props) (v : Tree) (m : List Symbol) → a_comma d found v m → an_end d found v m
comma-end d found v m (u, x, y, l, inl k, e) = (no_props, true, tt, k.4.0 ∙ ap (λ v. object v true) (sym (both-none found)), e ∙ join l (k.5 ∙ join k.3 k.4.1))
comma-end d found v m (u, x, y, l, inr (i, x', y', j, (more, comma, fit, same, w), e'), e) = (
  prop i.0 i.1 more,
  comma,
  (j.0, j.1, fit),
  same ∙ ap (λ v. object v comma) (both-with found more i.0 i.1),
  e ∙ join l (e' ∙ join j.2 w ∙ ap (λ v. plain (key_token i.0) ∷ (punct p.Colon ∷ v)) (sym (append_assoc (spelling d i.1) (more_props d more) (comma_at_end comma ++ punct p.CloseBrace ∷ [])))),
)

end-split : (d : ℕ) (found : Props) (v : Tree) (m : List Symbol) (r : List Terminal) → an_end d found v m
    → ((peek (terms m ++ r) ≡ t.Punct p.CloseBrace) × a_close found false v m) ⊎ ((peek (terms m ++ r) ≡ t.Punct p.Comma) × a_comma d found v m)
end-split d found v m r (no_props, false, f, g, e) = inl (ap (λ v. peek (terms v ++ r)) e, (tt, punct p.CloseBrace ∷ [], [], refl, (g ∙ ap (λ v. object v false) (both-none found), refl), e))
end-split d found v m r (no_props, true, f, g, e) =
    inr (ap (λ v. peek (terms v ++ r)) e, (tt, punct p.Comma ∷ [], punct p.CloseBrace ∷ [], refl, inl (tt, punct p.CloseBrace ∷ [], [], refl, (g ∙ ap (λ v. object v true) (both-none found), refl), refl), e))
end-split d found v m r (prop k w more, comma, f, g, e) =
    let end = comma_at_end comma ++ punct p.CloseBrace ∷ [] in
    inr (
      ap (λ v. peek (terms v ++ r)) e,
      (
        tt,
        punct p.Comma ∷ [],
        plain (key_token k) ∷ (punct p.Colon ∷ ((spelling d w ++ more_props d more) ++ end)),
        refl,
        inr (
          (k, w),
          plain (key_token k) ∷ (punct p.Colon ∷ spelling d w),
          more_props d more ++ end,
          (f.0, f.1, refl),
          (more, comma, f.2, g ∙ ap (λ v. object v comma) (sym (both-with found more k w)), refl),
          ap (λ v. plain (key_token k) ∷ (punct p.Colon ∷ v)) (append_assoc (spelling d w) (more_props d more) end),
        ),
        e,
      ),
    )

end-flat : (d : ℕ) (found : Props) (v : Tree) (m : List Symbol) (r : List Terminal) → an_end d found v m → rank true (peek (terms m ++ r)) ≡ 0
end-flat d found v m r k = elim (end-split d found v m r k) [ inl h ↦ ap (λ c. rank true c) h.0 | inr h ↦ ap (λ c. rank true c) h.0 ]

after-split : (d : ℕ) (found : Props) (v : Tree) (m : List Symbol) (r : List Terminal) → after_comma d found v m
    → ((peek (terms m ++ r) ≡ t.Punct p.CloseBrace) × a_close found true v m) ⊎ ((peek (terms m ++ r) ≡ t.Punct p.CloseBrace → ⊥) × next_property d found v m)
after-split d found v m r (inl k) = inl (first-of (t.Punct p.CloseBrace) 0 (nothing (object found true)) v m r k, k)
after-split d found v m r (inr (i, x, y, j, k, e)) = inr (λ h. key-apart i.0 p.CloseBrace (sym (ap (λ v. peek (terms v ++ r)) (e ∙ join j.2 refl)) ∙ h), (i, x, y, j, k, e))

object-split : (d : ℕ) (v : Tree) (m : List Symbol) (r : List Terminal) → an_object d v m
    → ((peek (terms m ++ r) ≡ t.Punct p.CloseBrace) × a_close no_props false v m) ⊎ ((peek (terms m ++ r) ≡ t.Punct p.CloseBrace → ⊥) × first_property d v m)
object-split d v m r (no_props, true, f, g, e) = cc
object-split d v m r (no_props, false, f, g, e) = inl (ap (λ v. peek (terms v ++ r)) e, (tt, punct p.CloseBrace ∷ [], [], refl, (g, refl), e))
object-split d v m r (prop k w more, comma, f, g, e) =
    let end = comma_at_end comma ++ punct p.CloseBrace ∷ [] in
    inr (
      λ h. key-apart k p.CloseBrace (sym (ap (λ v. peek (terms v ++ r)) e) ∙ h),
      (
        (k, w),
        plain (key_token k) ∷ (punct p.Colon ∷ spelling d w),
        more_props d more ++ end,
        (f.0, f.1, refl),
        (more, comma, f.2, g, refl),
        e ∙ ap (λ v. plain (key_token k) ∷ (punct p.Colon ∷ v)) (append_assoc (spelling d w) (more_props d more) end),
      ),
    )

close-object : (d : ℕ) (v : Tree) (m : List Symbol) → a_close no_props false v m → an_object d v m
close-object d v m k = (no_props, false, refl, k.4.0, k.5 ∙ join k.3 k.4.1)

props-object : (d : ℕ) (v : Tree) (m : List Symbol) → first_property d v m → an_object d v m
props-object d v m (i, x, y, j, (more, comma, fit, same, w), e) = (
  prop i.0 i.1 more,
  comma,
  (j.0, j.1, fit),
  same,
  e ∙ join j.2 w ∙ ap (λ v. plain (key_token i.0) ∷ (punct p.Colon ∷ v)) (sym (append_assoc (spelling d i.1) (more_props d more) (comma_at_end comma ++ punct p.CloseBrace ∷ []))),
)

some_close : (found : Props) (comma : Bool) → (v : Tree) × (m : List Symbol) × a_close found comma v m
some_close found comma = (object found comma, punct p.CloseBrace ∷ [], (tt, punct p.CloseBrace ∷ [], [], refl, (refl, refl), refl))

some_end : (d : ℕ) (found : Props) → (v : Tree) × (m : List Symbol) × an_end d found v m
some_end d found = let k = some_close found false in (k.0, k.1, close-end d found k.0 k.1 k.2)

some_after_comma : (d : ℕ) (found : Props) → (v : Tree) × (m : List Symbol) × after_comma d found v m
some_after_comma d found = let k = some_close found true in (k.0, k.1, inl k.2)

pub some_object : (d : ℕ) → (v : Tree) × (m : List Symbol) × an_object d v m
some_object d = let k = some_close no_props false in (k.0, k.1, close-object d k.0 k.1 k.2)

-- ---- readers

module _ (limit d : ℕ) (below : Below) (ih : ReadsAt limit d below) where
  pub outcome-ended : (c : Punct) → punct_rank c ≡ 0 → (ts : List Terminal) → Outcome (an_ended d c) Any Any limit ts (ended below c ts)
  unfolding ended
  outcome-ended c flat ts =
      outcome-same (ended_parts d c) (an_ended d c) Any Any limit ts (ended-to d c) (ended-from d c) _
      (outcome-closed limit d below ih true (t.Punct c) (λ e. nothing e) Any Any (omega arith) flat (λ e. (e, [], (refl, refl))) (λ e r. Ok (e, r)) ts (λ e r short. outcome-pure e Any Any limit r tt))

  pub outcome-group : (ts : List Terminal) → Outcome (a_group d) Any Any limit ts (group_after below ts)
  unfolding group_after
  outcome-group ts = outcome-map group (an_ended d p.CloseParen) Any Any Any Any limit ts (λ _ _ _ _ s. s) (λ _ _ _ _ g. g) (ended below p.CloseParen ts) (outcome-ended p.CloseParen refl ts)

  -- an argument and a comma, and the arguments after it
  outcome-argument : (K : Tree → Language Tree) → ((e : Tree) → (v : Tree) × (m : List Symbol) × K e v m) → (ts : List Terminal) (f : Tree → Reader Tree)
      → ((e : Tree) (r : List Terminal) → Outcome (K e) Any Any limit r (f e r)) → Outcome (bind (an_ended d p.Comma) K) Any Any limit ts (and_then (ended below p.Comma ts) f)
  outcome-argument K some ts f more =
      outcome-bind (an_ended d p.Comma) Any Any K Any Any limit (λ _ _ _ _ _ _ _ _. tt) (λ e _ _. some e) ts (ended below p.Comma ts) f (outcome-ended p.Comma refl ts) (λ e x r l g front. more e r)

  pub outcome-cas : (ts : List Terminal) → Outcome (a_cas d) Any Any limit ts (cas_after below ts)
  unfolding cas_after
  outcome-cas ts =
      outcome-argument (cas_second d) (some_second d) ts _
      (λ o r. outcome-argument (cas_third d o) (some_third d o) r _
      (λ k r. outcome-argument (cas_fourth d o k) (some_fourth d o k) r _
      (λ x r. outcome-map (cas o k x) (an_ended d p.CloseParen) Any Any Any Any limit r (λ _ _ _ _ s. s) (λ _ _ _ _ g. g) (ended below p.CloseParen r) (outcome-ended p.CloseParen refl r))))

  outcome-value : (k : PropKey) (ts : List Terminal)
      → Outcome (bind (one (t.Punct p.Colon) 0) (λ _. property_value d k)) (Above true 1) Any limit ts (and_then (expect (t.Punct p.Colon) ts) (λ _ r. and_then (below true 1 r) (λ e r. Ok ((k, e), r))))
  outcome-value k ts =
      outcome-bind (one (t.Punct p.Colon) 0) Any Any (λ _. property_value d k) (Above true 1) Any limit (λ _ _ _ _ _ _ _ _. tt) (λ _ _ _. some_value d k)
      ts (expect (t.Punct p.Colon) ts) _ (outcome-expect (t.Punct p.Colon) limit ts (omega arith)) (λ _ x r l g front. outcome-inner limit d below ih true (λ e. (k, e)) r)

  pub outcome-property : (ts : List Terminal) → Outcome (a_property d) (Above true 1) Any limit ts (property below ts)
  unfolding property property_parts
  outcome-property ts =
      outcome-same (property_parts d) (a_property d) (Above true 1) Any limit ts (property-to d) (property-from d) _
      (outcome-bind a_key Any Any (λ k. bind (one (t.Punct p.Colon) 0) (λ _. property_value d k)) (Above true 1) Any limit (λ _ _ _ _ _ _ _ _. tt)
      (λ k x l. some-after (t.Punct p.Colon) 0 (property_value d k) (some_value d k)) ts (key ts) _ (outcome-key limit ts) (λ k x r l g front. outcome-value k r))

  outcome-close : (found : Props) (comma : Bool) (ts : List Terminal) → ts ≡ t.Punct p.CloseBrace ∷ next ts → Outcome (a_close found comma) Any Any limit ts (Ok (object found comma, next ts))
  outcome-close found comma ts e =
      plain-after (t.Punct p.CloseBrace) d 0 limit ts (nothing (object found comma)) Any Any (Ok (object found comma, next ts)) e (object found comma, [], (refl, refl))
      (outcome-pure (object found comma) Any Any limit (next ts) tt)

  -- a property, and the rest of the object
  outcome-listed : (found : PropKey → Tree → Props) (ts : List Terminal) (f : PropKey × Tree → Reader Tree)
      → ((x : PropKey × Tree) (r : List Terminal) → length r ≤ length ts → Outcome (an_end d (found x.0 x.1)) Any Any limit r (f x r))
      → Outcome (bind (a_property d) (λ x. an_end d (found x.0 x.1))) Any Any limit ts (and_then (property below ts) f)
  outcome-listed found ts f more =
      outcome-bind (a_property d) (Above true 1) Any (λ x. an_end d (found x.0 x.1)) Any Any limit
      (λ i x v y r l m s. let e = end-flat d (found i.0 i.1) v y r m in omega arith) (λ i x l. some_end d (found i.0 i.1)) ts (property below ts) f (outcome-property ts)
      (λ i x r l g front. more i r (not-longer ts r x front))

  outcome-after-comma : (found : Props) (ts : List Terminal) (f : PropKey × Tree → Reader Tree)
      → ((x : PropKey × Tree) (r : List Terminal) → length r ≤ length ts → Outcome (an_end d (with_prop found x.0 x.1)) Any Any limit r (f x r))
      → Outcome (after_comma d found) Any Any limit ts (if sees (t.Punct p.CloseBrace) ts then Ok (object found true, next ts) else and_then (property below ts) f)
  outcome-after-comma found ts f more =
      outcome-sees (t.Punct p.CloseBrace) (after_comma d found) (a_close found true) (next_property d found) Any Any limit ts _ _ (omega arith)
      (λ _ _ k. inl k) (λ _ _ k. inr k) (λ v m r k s. after-split d found v m r k) (λ e. outcome-close found true ts e) (λ _. outcome-listed (with_prop found) ts f more)

  pub outcome-end : (i : ℕ) (found : Props) (ts : List Terminal) → length ts ≤ i → Outcome (an_end d found) Any Any limit ts (props_from below i found ts)
  unfolding props_from
  outcome-end zero found [] h =
      outcome-fail (an_end d found) Any Any limit [] (some_end d found)
      (λ v m r k s e. elim (end-split d found v m r k) [ inl f ↦ let g : t.Punct p.CloseBrace ≡ t.End = sym f.0 ∙ e in cc | inr f ↦ let g : t.Punct p.Comma ≡ t.End = sym f.0 ∙ e in cc ])
  outcome-end zero found (c ∷ r) h = absurd (omega arith)
  outcome-end (suc i) found ts h =
      outcome-sees (t.Punct p.CloseBrace) (an_end d found) (a_close found false) (a_comma d found) Any Any limit ts _ _ (omega arith) (close-end d found) (comma-end d found)
      (λ v m r k s. elim (end-split d found v m r k) [ inl f ↦ inl f | inr f ↦ inr (λ h. let g : t.Punct p.Comma ≡ t.Punct p.CloseBrace = sym f.0 ∙ h in cc, f.1) ])
      (λ e. outcome-close found false ts e)
      (λ away. outcome-if (a_comma d found) Any Any limit ts (sees (t.Punct p.Comma) ts) _ _
      (λ e. let front = sees-cons (t.Punct p.Comma) ts (omega arith) e in
      let long : length ts ≡ suc (length (next ts)) = ap length front in
      plain-after (t.Punct p.Comma) d 0 limit ts (after_comma d found) Any Any _ front (some_after_comma d found)
      (outcome-after-comma found (next ts) _ (λ x r short. outcome-end i (with_prop found x.0 x.1) r (omega arith))))
      (λ e. outcome-fail (a_comma d found) Any Any limit ts (some-after (t.Punct p.Comma) 0 (after_comma d found) (some_after_comma d found))
      (λ v m r k s f. sees-false (t.Punct p.Comma) (peek (terms m ++ r)) ts e f (first-of (t.Punct p.Comma) 0 (after_comma d found) v m r k))))

  pub outcome-object : (ts : List Terminal) → Outcome (an_object d) Any Any limit ts (object_after below ts)
  unfolding object_after
  outcome-object ts =
      outcome-sees (t.Punct p.CloseBrace) (an_object d) (a_close no_props false) (first_property d) Any Any limit ts _ _ (omega arith)
      (close-object d) (props-object d) (λ v m r k s. object-split d v m r k) (λ e. outcome-close no_props false ts e)
      (λ _. outcome-listed (λ k e. prop k e no_props) ts _ (λ x r short. outcome-end (length r) (prop x.0 x.1 no_props) r (omega arith)))
