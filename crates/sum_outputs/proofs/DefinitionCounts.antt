-- How many definitions are among lines.
use Rattle.std.proofs.Common.{◌≡◌, ◌+◌, cond, List, [], ◌∷◌, ◌++◌, arith}
use Rattle.std.proofs.lemmas.List.Sums.{sum_by-append, sum_by-cons}
use Rattle.proof_laws.specs.declared.line.Line.{Line}
use Rattle.sum_outputs.specs.Totals.{definitions, is_definition}

-- a line more counts if it is a definition
pub definitions_push : (lines : List Line) (line : Line) → definitions (lines ++ line ∷ []) ≡ definitions lines + cond (is_definition line) 1 0
definitions_push lines line =
    let whole = sum_by-append (λ (l : Line). cond (is_definition l) 1 0) lines (line ∷ []) in
    let one = sum_by-cons (λ (l : Line). cond (is_definition l) 1 0) line [] in
    omega arith
