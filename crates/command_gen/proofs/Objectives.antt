-- The clauses and objectives that an instance's statements make are its own.
use Rattle.std.proofs.Common.{◌≡◌, ℕ, ◌+◌, ◌<◌, ◌≤◌, cond, List, [], ◌∷◌, ◌++◌, length, map, refl, sym, ap, ◌∙◌, append_assoc, append-nil, arith}
use Rattle.std.specs.Prelude.{max, All, ℤ, pos}
use Rattle.std.specs.List.{range_with_len}
use Rattle.std.proofs.lemmas.Bool.{eq-eqb, ne_eqb}
use Rattle.std.proofs.lemmas.List.Elements.{All-head, All-tail}
use Rattle.scut_base.specs.Literal.{Literal}
use Rattle.instance.specs.declared.objective.Sense.{Sense}
use Rattle.instance.specs.declared.objective.Sense.TheVariants.{Min}
use Rattle.instance.specs.declared.objective.Soft.{Soft}
use Rattle.instance.specs.declared.objective.Objective.{Objective}
use Rattle.mcnf_reader.specs.declared.statement.Statement.{Statement}
use Rattle.mcnf_reader.specs.declared.statement.Statement.TheVariants.{Nothing, Hard, Soft as SoftIn}
use Rattle.mcnf_reader.specs.Grammar.{hard_clauses, largest_variable, literals_of, largest_of, objective_count, objective_of, soft_of, softs_of}
use Rattle.command_gen.specs.Printed.{IsPlainObjective, soft_statements}

-- ---- appended statements

pub hard_clauses-append : (first second : List Statement) → hard_clauses (first ++ second) ≡ hard_clauses first ++ hard_clauses second
hard_clauses-append [] second = refl
hard_clauses-append (Nothing ∷ first) second = hard_clauses-append first second
hard_clauses-append (Hard lits ∷ first) second = ap (λ rest. lits ∷ rest) (hard_clauses-append first second)
hard_clauses-append (SoftIn k w lits ∷ first) second = hard_clauses-append first second

pub softs_of-append : (k : ℕ) (first second : List Statement) → softs_of k (first ++ second) ≡ softs_of k first ++ softs_of k second
softs_of-append k [] second = refl
softs_of-append k (s ∷ first) second =
    ap (λ rest. soft_of k s ++ rest) (softs_of-append k first second)
    ∙ sym (append_assoc (soft_of k s) (softs_of k first) (softs_of k second))

-- a statement that says nothing changes nothing
pub largest_with_nothing : (statements : List Statement) → largest_variable (statements ++ Nothing ∷ []) ≡ largest_variable statements
largest_with_nothing [] = refl
largest_with_nothing (s ∷ statements) = ap (λ rest. max (largest_of (literals_of s)) rest) (largest_with_nothing statements)

pub count_with_nothing : (statements : List Statement) → objective_count (statements ++ Nothing ∷ []) ≡ objective_count statements
count_with_nothing [] = refl
count_with_nothing (s ∷ statements) = ap (λ rest. max (objective_of s) rest) (count_with_nothing statements)

-- ---- hard clauses

pub hards_of_hards : (clauses : List (List Literal)) → hard_clauses (map Hard clauses) ≡ clauses
hards_of_hards [] = refl
hards_of_hards (lits ∷ clauses) = ap (λ rest. lits ∷ rest) (hards_of_hards clauses)

hards_of_softs : (k : ℕ) (softs : List Soft) → hard_clauses (map (λ (soft : Soft). SoftIn k soft.weight soft.lits) softs) ≡ []
hards_of_softs k [] = refl
hards_of_softs k (soft ∷ softs) = hards_of_softs k softs

pub hards_of_objectives : (k : ℕ) (objectives : List Objective) → hard_clauses (soft_statements k objectives) ≡ []
hards_of_objectives k [] = refl
hards_of_objectives k (o ∷ objectives) =
    hard_clauses-append (map (λ (soft : Soft). SoftIn k soft.weight soft.lits) o.softs) (soft_statements (k + 1) objectives)
    ∙ ap (λ first. first ++ hard_clauses (soft_statements (k + 1) objectives)) (hards_of_softs k o.softs)
    ∙ hards_of_objectives (k + 1) objectives

-- ---- soft clauses

pub softs_of_hards : (k : ℕ) (clauses : List (List Literal)) → softs_of k (map Hard clauses) ≡ []
softs_of_hards k [] = refl
softs_of_hards k (lits ∷ clauses) = softs_of_hards k clauses

-- of its own objective
own_softs : (k : ℕ) (softs : List Soft) → softs_of k (map (λ (soft : Soft). SoftIn k soft.weight soft.lits) softs) ≡ softs
own_softs k [] = refl
own_softs k (soft ∷ softs) =
    ap (λ b. cond b (soft ∷ []) [] ++ softs_of k (map (λ (soft : Soft). SoftIn k soft.weight soft.lits) softs)) (eq-eqb k k refl)
    ∙ ap (λ rest. soft ∷ rest) (own_softs k softs)

-- of another
other_softs : (j k : ℕ) (softs : List Soft) → j < k → softs_of k (map (λ (soft : Soft). SoftIn j soft.weight soft.lits) softs) ≡ []
other_softs j k [] below = refl
other_softs j k (soft ∷ softs) below =
    ap (λ b. cond b (soft ∷ []) [] ++ softs_of k (map (λ (soft : Soft). SoftIn j soft.weight soft.lits) softs)) (ne_eqb j k (λ e. absurd (omega arith)))
    ∙ other_softs j k softs below

later_softs : (j k : ℕ) (softs : List Soft) → k < j → softs_of k (map (λ (soft : Soft). SoftIn j soft.weight soft.lits) softs) ≡ []
later_softs j k [] below = refl
later_softs j k (soft ∷ softs) below =
    ap (λ b. cond b (soft ∷ []) [] ++ softs_of k (map (λ (soft : Soft). SoftIn j soft.weight soft.lits) softs)) (ne_eqb j k (λ e. absurd (omega arith)))
    ∙ later_softs j k softs below

none_later : (j k : ℕ) (objectives : List Objective) → k < j → softs_of k (soft_statements j objectives) ≡ []
none_later j k [] below = refl
none_later j k (o ∷ objectives) below =
    softs_of-append k (map (λ (soft : Soft). SoftIn j soft.weight soft.lits) o.softs) (soft_statements (j + 1) objectives)
    ∙ ap (λ first. first ++ softs_of k (soft_statements (j + 1) objectives)) (later_softs j k o.softs below)
    ∙ none_later (j + 1) k objectives (omega arith)

-- ---- objectives

abbrev parts_of : Sense → List Soft → List (ℤ × Literal) → ℤ → Objective
parts_of sense softs terms offset = record { sense = sense; softs = softs; terms = terms; offset = offset }

-- an objective of these soft clauses, as the grammar makes it
same_objective : (o : Objective) (softs : List Soft) → IsPlainObjective o → softs ≡ o.softs → parts_of Min softs [] (pos 0) ≡ o
same_objective o softs plain same =
    ap (λ sense. parts_of sense softs [] (pos 0)) (sym plain.sense)
    ∙ ap (λ list. parts_of o.sense list [] (pos 0)) same
    ∙ ap (λ terms. parts_of o.sense o.softs terms (pos 0)) (sym plain.terms)
    ∙ ap (λ offset. parts_of o.sense o.softs o.terms offset) (sym plain.offset)

-- where each objective from j on has the soft clauses that these statements give it, the objectives are these
pub objectives_same : (f : ℕ → List Soft) (j : ℕ) (objectives : List Objective) → All IsPlainObjective objectives → ((k : ℕ) → j ≤ k → f k ≡ softs_of k (soft_statements j objectives))
    → map (λ k. parts_of Min (f k) [] (pos 0)) (range_with_len j (length objectives)) ≡ objectives
objectives_same f j [] plain same = refl
objectives_same f j (o ∷ objectives) plain same =
    let first : f j ≡ o.softs =
    same j (omega arith)
    ∙ softs_of-append j (map (λ (soft : Soft). SoftIn j soft.weight soft.lits) o.softs) (soft_statements (j + 1) objectives)
    ∙ ap (λ list. list ++ softs_of j (soft_statements (j + 1) objectives)) (own_softs j o.softs)
    ∙ ap (λ list. o.softs ++ list) (none_later (j + 1) j objectives (omega arith))
    ∙ append-nil o.softs in
    let rest : (k : ℕ) → j + 1 ≤ k → f k ≡ softs_of k (soft_statements (j + 1) objectives) = λ k later.
    same k (omega arith)
    ∙ softs_of-append k (map (λ (soft : Soft). SoftIn j soft.weight soft.lits) o.softs) (soft_statements (j + 1) objectives)
    ∙ ap (λ list. list ++ softs_of k (soft_statements (j + 1) objectives)) (other_softs j k o.softs (omega arith)) in
    ap (λ head. head ∷ map (λ k. parts_of Min (f k) [] (pos 0)) (range_with_len (j + 1) (length objectives))) (same_objective o (f j) (All-head IsPlainObjective o objectives plain) first)
    ∙ ap (λ list. o ∷ list) (objectives_same f (j + 1) objectives (All-tail IsPlainObjective o objectives plain) rest)
