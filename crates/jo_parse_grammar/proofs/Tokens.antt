-- Operators and their terminals.
use Rattle.std.proofs.Common.{◌≡◌, ◌≤◌, Bool, true, false, refl, arith}
use Rattle.jo_lex.specs.declared.punct.Punct.{Punct}
use Rattle.jo_lex.specs.declared.punct.Punct.TheVariants as p
use Rattle.jo_parse_tree.specs.declared.keyword.Keyword.{Keyword}
use Rattle.jo_parse_tree.specs.declared.keyword.Keyword.TheVariants as kw
use Rattle.jo_parse_tree.specs.declared.operator.AssignOperator.{AssignOperator}
use Rattle.jo_parse_tree.specs.declared.operator.AssignOperator.TheVariants as a
use Rattle.jo_parse_tree.specs.declared.operator.BinaryOperator.{BinaryOperator}
use Rattle.jo_parse_tree.specs.declared.operator.BinaryOperator.TheVariants as bin
use Rattle.jo_parse_grammar.specs.declared.terminal.Terminal.{Terminal}
use Rattle.jo_parse_grammar.specs.declared.terminal.Terminal.TheVariants as t
use Rattle.jo_parse_grammar.specs.Operators.{binary_token, level_of, assign_token}
use Rattle.jo_parse_grammar.specs.inner.Read.{punct_rank, rank, binary_of, assign_of}

-- the terminal of a binary level is that of its operator, which may stand there
abbrev pub IsBinary : Bool → Terminal → Type 0
IsBinary ins c = (binary_token (binary_of c) ≡ c) × (level_of (binary_of c) ≡ rank ins c) × (binary_of c ≡ bin.In → ins ≡ true)

punct-binary : (ins : Bool) (c : Punct) → 3 ≤ punct_rank c → punct_rank c ≤ 8 → IsBinary ins (t.Punct c)
punct-binary ins p.OrOr low high = (refl, refl, λ e. cc)
punct-binary ins p.AndAnd low high = (refl, refl, λ e. cc)
punct-binary ins p.Same low high = (refl, refl, λ e. cc)
punct-binary ins p.NotSame low high = (refl, refl, λ e. cc)
punct-binary ins p.Less low high = (refl, refl, λ e. cc)
punct-binary ins p.Greater low high = (refl, refl, λ e. cc)
punct-binary ins p.LessEqual low high = (refl, refl, λ e. cc)
punct-binary ins p.GreaterEqual low high = (refl, refl, λ e. cc)
punct-binary ins p.Plus low high = (refl, refl, λ e. cc)
punct-binary ins p.Minus low high = (refl, refl, λ e. cc)
punct-binary ins p.Star low high = (refl, refl, λ e. cc)
punct-binary ins p.Percent low high = (refl, refl, λ e. cc)
punct-binary ins _ low high = absurd (omega arith)

keyword-binary : (ins : Bool) (w : Keyword) → 3 ≤ rank ins (t.Keyword w) → IsBinary ins (t.Keyword w)
keyword-binary true kw.In low = (refl, refl, λ e. refl)
keyword-binary _ _ low = absurd (omega arith)

pub rank-is-binary : (ins : Bool) (c : Terminal) → 3 ≤ rank ins c → rank ins c ≤ 8 → IsBinary ins c
rank-is-binary ins (t.Punct c) low high = punct-binary ins c low high
rank-is-binary ins (t.Keyword w) low high = keyword-binary ins w low
rank-is-binary ins (t.Ident x) low high = absurd (omega arith)
rank-is-binary ins (t.Reserved x) low high = absurd (omega arith)
rank-is-binary ins (t.Number i) low high = absurd (omega arith)
rank-is-binary ins (t.Text s) low high = absurd (omega arith)
rank-is-binary ins t.End low high = absurd (omega arith)

pub binary-of-token : (o : BinaryOperator) → binary_of (binary_token o) ≡ o
binary-of-token bin.Or = refl
binary-of-token _ = refl

pub rank-of-binary : (ins : Bool) (o : BinaryOperator) → (o ≡ bin.In → ins ≡ true) → rank ins (binary_token o) ≡ level_of o
rank-of-binary true bin.In stands = refl
rank-of-binary false bin.In stands = let e : false ≡ true = stands refl in cc
rank-of-binary ins _ stands = refl

punct-assign : (c : Punct) → punct_rank c ≡ 1 → assign_token (assign_of (t.Punct c)) ≡ t.Punct c
punct-assign p.Assign e = refl
punct-assign p.PlusAssign e = refl
punct-assign p.MinusAssign e = refl
punct-assign _ e = absurd (omega arith)

keyword-no-assign : (ins : Bool) (w : Keyword) → rank ins (t.Keyword w) ≡ 1 → ⊥
keyword-no-assign true kw.In e = omega arith
keyword-no-assign _ _ e = omega arith

-- a terminal of rank 1 is that of its assignment
pub assign-token-of : (ins : Bool) (c : Terminal) → rank ins c ≡ 1 → assign_token (assign_of c) ≡ c
assign-token-of ins (t.Punct c) e = punct-assign c e
assign-token-of ins (t.Keyword w) e = absurd (keyword-no-assign ins w e)
assign-token-of ins (t.Ident x) e = absurd (omega arith)
assign-token-of ins (t.Reserved x) e = absurd (omega arith)
assign-token-of ins (t.Number i) e = absurd (omega arith)
assign-token-of ins (t.Text s) e = absurd (omega arith)
assign-token-of ins t.End e = absurd (omega arith)

pub assign-of-token : (o : AssignOperator) → assign_of (assign_token o) ≡ o
assign-of-token a.Set = refl
assign-of-token _ = refl

pub rank-of-assign : (ins : Bool) (o : AssignOperator) → rank ins (assign_token o) ≡ 1
rank-of-assign ins a.Set = refl
rank-of-assign ins _ = refl
