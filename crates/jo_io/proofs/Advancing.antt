-- Texts that are printed one after another.
use Rattle.std.proofs.Common.{◌≡◌, ℕ, ◌+◌, Bool, true, false, List, [], ◌++◌, length, take, refl, sym, ap, subst, ◌∙◌, append_assoc, append-nil, length-append, arith}
use Rattle.std.specs.Prelude.{Option, Result, Ok, Err, OnOk, OnErr}
use Rattle.std.specs.Io.KnownBytes.{Appends, Keeps}
use Rattle.std.proofs.lemmas.List.{take-append-le}
use Rattle.std.proofs.Math.Seq.{take-append-add}
use Rattle.std.proofs.KnownBytes.{Appends-nil, Appends-trans, Appends-kept, Keeps-refl, Keeps-trans}
use Rattle.jo_io.specs.Causes.{next_count, HasCause}
use Rattle.jo_io.specs.Bytes.{AppendsPart}
use Rattle.jo_io.specs.Printing.{Printing, start, end, Moves, Breaks, Stays, Advances}

both : {P : Type 0} (v : Bool) → v ≡ true → v ≡ false → P
both v is not' = let never : ⊥ = cc in absurd never

-- ---- the beginning of bytes

part_as : (old new : Option (List ℕ)) (bytes same : List ℕ) → bytes ≡ same → AppendsPart old new bytes → AppendsPart old new same
part_as old new bytes same e part = subst (AppendsPart old new) e part

-- it is the beginning of more bytes
part_more : (old new : Option (List ℕ)) (bytes more : List ℕ) → AppendsPart old new bytes → AppendsPart old new (bytes ++ more)
part_more old new bytes more part =
    let within = part.2 in (
      part.0,
      subst (Appends old new) (sym (take-append-le part.0 bytes more (omega (arith, within)))) part.1,
      omega (arith, within, length-append bytes more),
    )

-- it comes after bytes that were all written
part_after : (a b c : Option (List ℕ)) (sent rest : List ℕ) → Appends a b sent → AppendsPart b c rest → AppendsPart a c (sent ++ rest)
part_after a b c sent rest all part =
    let within = part.2 in (
      length sent + part.0,
      subst (Appends a c) (sym (take-append-add sent rest part.0)) (Appends-trans a b c sent (take part.0 rest) all part.1),
      omega (arith, within, length-append sent rest),
    )

part_kept : (a b c : Option (List ℕ)) (bytes : List ℕ) → AppendsPart a b bytes → Keeps b c → AppendsPart a c bytes
part_kept a b c bytes part kept = (part.0, Appends-kept a b c (take part.0 bytes) part.1 kept, part.2)

-- ---- nothing is printed

pub advances-nil : (a : Printing) → Advances a a []
advances-nil a = record {
  stays = λ bad. record { still = bad; held = Keeps-refl a.held; same = refl };
  moves = λ _ _. record { sent = []; appended = Appends-nil a.held; whole = sym (append-nil a.waiting); same = refl };
  breaks = λ well bad. both a.failed bad well;
}

-- ---- two texts

stays_both : (a b c : Printing) → Stays a b → Stays b c → Stays a c
stays_both a b c p q = record { still = q.still; held = Keeps-trans a.held b.held c.held p.held q.held; same = q.same ∙ p.same }

moves_both : (a b c : Printing) (t u : List ℕ) → Moves a b t → Moves b c u → Moves a c (t ++ u)
moves_both a b c t u p q = record {
  sent = p.sent ++ q.sent;
  appended = Appends-trans a.held b.held c.held p.sent q.sent p.appended q.appended;
  whole = append_assoc p.sent q.sent c.waiting ∙ ap (λ l. p.sent ++ l) q.whole ∙ sym (append_assoc p.sent b.waiting u)
      ∙ ap (λ l. l ++ u) p.whole ∙ append_assoc a.waiting t u;
  same = q.same ∙ p.same;
}

breaks_later : (a b c : Printing) (t u : List ℕ) → Moves a b t → Breaks b c u → Breaks a c (t ++ u)
breaks_later a b c t u p q =
    let whole = sym (append_assoc p.sent b.waiting u) ∙ ap (λ l. l ++ u) p.whole ∙ append_assoc a.waiting t u in record {
      part = part_as a.held c.held _ _ whole (part_after a.held b.held c.held p.sent (b.waiting ++ u) p.appended q.part);
      counted = q.counted ∙ ap next_count p.same;
      later = omega (arith, p.same, q.later);
    }

breaks_before : (a b c : Printing) (t u : List ℕ) → Breaks a b t → Stays b c → Breaks a c (t ++ u)
breaks_before a b c t u p q = record {
  part = part_kept a.held b.held c.held _ (part_as a.held b.held _ _ (append_assoc a.waiting t u) (part_more a.held b.held (a.waiting ++ t) u p.part)) q.held;
  counted = q.same ∙ p.counted;
  later = omega (arith, p.later, q.same);
}

module _ (a b c : Printing) (t u : List ℕ) (p : Advances a b t) (q : Advances b c u) where
  moves_by : (v : Bool) → b.failed ≡ v → a.failed ≡ false → c.failed ≡ false → Moves a c (t ++ u)
  moves_by true bad well last = both c.failed (q.stays bad).still last
  moves_by false good well last = moves_both a b c t u (p.moves well good) (q.moves good last)

  breaks_by : (v : Bool) → b.failed ≡ v → a.failed ≡ false → c.failed ≡ true → Breaks a c (t ++ u)
  breaks_by true bad well last = breaks_before a b c t u (p.breaks well bad) (q.stays bad)
  breaks_by false good well last = breaks_later a b c t u (p.moves well good) (q.breaks good last)

  pub advances-both : Advances a c (t ++ u)
  advances-both = record {
    stays = λ bad. let first = p.stays bad in stays_both a b c first (q.stays first.still);
    moves = moves_by b.failed refl;
    breaks = breaks_by b.failed refl;
  }

-- ---- from the start to the end

pub advances-ok : {E : Type 0} (h h' : Option (List ℕ)) (f f' : ℕ) (r : Result Unit E) (t : List ℕ) → Advances (start h f) (end h' f' r) t → OnOk r (Appends h h' t)
advances-ok h h' f f' (Ok x) t p = let m = p.moves refl refl in subst (Appends h h') (sym (append-nil m.sent) ∙ m.whole) m.appended
advances-ok h h' f f' (Err e) t p = tt

pub advances-err : {E : Type 0} (h h' : Option (List ℕ)) (f f' : ℕ) (r : Result Unit E) (t : List ℕ) → Advances (start h f) (end h' f' r) t → OnErr r (AppendsPart h h' t)
advances-err h h' f f' (Ok x) t p = tt
advances-err h h' f f' (Err e) t p = (p.breaks refl refl).part

pub advances-cause : {E : Type 0} (h h' : Option (List ℕ)) (f f' : ℕ) (r : Result Unit E) (t : List ℕ) → Advances (start h f) (end h' f' r) t → HasCause f f' r
advances-cause h h' f f' (Ok x) t p = let same = (p.moves refl refl).same in record { later = omega (arith, same); same = same; failed = tt }
advances-cause h h' f f' (Err e) t p = let broken = p.breaks refl refl in record { later = broken.later; same = tt; failed = broken.counted }
